use Rattle.std.proofs.Common.{◌≡◌, length, Ok}
use Rattle.blocks.specs.declared.fault.FileFault.TheVariants.{Block}
use Rattle.blocks.specs.Firsts.{lifted, up_to}
use Rattle.hourfile.specs.Files.{verdict_at}
use Rattle.hourfile.specs.Tallies.{TalliedUpto}
use Rattle.hourfile.proofs.tallies.tallies.Given as goal

abbrev pub invariant-loop-block : goal.invariant-loop-block
invariant-loop-block l = record {
  passed : up_to (λ block. lifted Block (verdict_at l.file.bytes.now l.file.owners block)) l.block ≡ Ok tt;
  whole : length l.all ≡ 32;
  tallied : TalliedUpto l.file.bytes.now l.all l.block;
}
