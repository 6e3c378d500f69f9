use Rattle.std.proofs.Common.{refl}
use Rattle.worked.proofs.Hold.{examples_hold}
use Rattle.worked.proofs.examples.Goals as goal

pub returns : goal.returns
returns c = record { value = refl; hold = examples_hold }
