use Rattle.std.proofs.Common.{◌≡◌, ◌+◌, ◌*◌, ◌++◌, take, drop, w32, SFits}
use Rattle.std.specs.List.{AllByRecursion as All}
use Rattle.blocks.specs.Lone.{bytes_of}
use Rattle.blocks.proofs.block.put_words.Given as goal

abbrev pub invariant-loop-i : goal.invariant-loop-i
invariant-loop-i l = record {
  bytes : l.part ≡ (take 4 l.initial.part ++ bytes_of (take l.i l.words)) ++ drop (4 * (l.i + 1)) l.initial.part;
  fit : All (SFits w32) (take l.i l.words);
}
