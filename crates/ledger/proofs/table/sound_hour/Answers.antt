use Rattle.std.proofs.Common.{◌≡◌, Bool, true, false, refl, arith}
use Rattle.std.specs.Bool.{then_some}
use Rattle.std.specs.Option.{IfSome, is_some}
use Rattle.std.proofs.lemmas.Bool.Decides.{nat_tests}
use Rattle.ledger.specs.Entries.{is_sound}
use Rattle.ledger.proofs.table.sound_hour.Goals as goal
use Rattle.ledger.proofs.table.sound_hour.Goals.{then-entry-owners, else-entry-owners}

-- a value under a test
kept : {T : Type 0} (P : T → Type 0) (test : Bool) (x : T) → P x → (is_some (then_some test x) ≡ test) × IfSome (then_some test x) P
kept P true x h = (refl, h)
kept P false x h = (refl, tt)

pub returns-in_err-hour-clause-sound : goal.returns-in_err-hour-clause-sound
unfolding is_sound
returns-in_err-hour-clause-sound c = rw c.from_residual.ensures (grind (arith, nat_tests, c.in_err-hour.ensures))

pub returns : goal.returns
unfolding is_sound
returns c =
    let hour = c.in_ok-hour.hour in
    let is : is_sound c.args.owners.number c.args.entry.now ≡ c.if-entry-owners.then_some =
    elim c.if-entry-owners.branch [
      | then-entry-owners w ↦ grind (arith, nat_tests)
      | else-entry-owners w ↦ grind (arith, nat_tests)
    ] in
    let k = kept (λ h. h.number ≡ c.args.entry.now.hour) c.if-entry-owners.then_some hour c.in_ok-hour.ensures.same in
    rw (c.then_some.ensures, is) (record { sound = k.0; same = k.1 })
