-- What a reading of a record of the right kind answers, from a test that decides whether a record is of that kind and has it.
use Rattle.std.proofs.Common.{◌≡◌, Bool, cond, Some, None, Option, sym, ap, ◌∙◌}
use Rattle.std.specs.Bool.{Decides}
use Rattle.std.specs.Option.{option_map}
use Rattle.std.proofs.lemmas.Bool.{cond-false, cond-true, false_from_ne_true}
use Rattle.records.specs.Held.{Reads}

pub answers : {A B IsKind Has : Type 0} (meaning : A → B) (test : Bool) (value : B) → Decides test (IsKind × Has)
    → IsKind
    → (r : Option A)
    → Reads meaning Has value r
    → option_map meaning r ≡ cond test (Some value) None
answers meaning test value decides is (Some x) reads = ap (λ v. Some v) reads.1 ∙ sym (cond-true test (Some value) None (decides.1 (is, reads.0)))
answers meaning test value decides is None never = sym (cond-false test (Some value) None (false_from_ne_true test (λ has. never (decides.0 has).1)))
