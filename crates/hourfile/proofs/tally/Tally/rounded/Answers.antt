use Rattle.std.proofs.Common.{arith}
use Rattle.std.proofs.lemmas.Int.{to_z-of_z}
use Rattle.hourfile.proofs.ByLine.{by_line}
use Rattle.hourfile.proofs.Rounding.{none_rounds}
use Rattle.hourfile.proofs.tally.Tally.rounded.Goals as goal

pub returns : goal.returns
returns c =
    by_line _
    (grind (arith, to_z-of_z, c.to_cents.ensures.value))
    (grind (arith, to_z-of_z, c.to_cents-2.ensures.value))
    (grind (arith, to_z-of_z, c.to_cents-3.ensures.value))
    (grind (arith, to_z-of_z, c.to_cents-4.ensures.value))
    (grind (arith, to_z-of_z, c.to_cents-5.ensures.value))
    (grind (arith, to_z-of_z, c.to_cents-6.ensures.value))
    (rw (c.none.ensures, none_rounds))
    (rw (c.none.ensures, none_rounds))
