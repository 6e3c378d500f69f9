use Rattle.std.proofs.Common.{◌≡◌, ◌*◌, ◌≤◌}
use Rattle.blocks.specs.Words.{weighted}
use Rattle.blocks.proofs.check.check_sum.Given as goal

-- each byte adds at most 508 * 255
abbrev pub invariant-loop-j : goal.invariant-loop-j
invariant-loop-j l = record { value : l.sum ≡ weighted l.part l.j; small : l.sum ≤ 129540 * l.j }
