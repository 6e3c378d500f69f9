use Rattle.std.proofs.Common.{◌≡◌, Ok}
use Rattle.blocks.specs.declared.fault.FileFault.TheVariants.{Block}
use Rattle.blocks.specs.Firsts.{lifted, up_to}
use Rattle.hourfile.specs.Files.{verdict_at}
use Rattle.hourfile.proofs.file.check_file.Given as goal

abbrev pub invariant-loop-block : goal.invariant-loop-block
invariant-loop-block l = up_to (λ block. lifted Block (verdict_at l.file.bytes.now l.file.owners block)) l.block ≡ Ok tt
