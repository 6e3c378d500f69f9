-- Verdicts that find no fault.
use Rattle.std.proofs.Common.{◌≡◌, ℕ, ◌<◌, ◌≤◌, Bool, true, false, is_ok, Some, None, Ok, Err, Option, refl}
use Rattle.std.specs.Bool.{Decides}
use Rattle.std.proofs.lemmas.Bool.{both_ways, false≢true}
use Rattle.blocks.specs.Firsts.{FoundFirst, Verdict, first_in, first_of, if_found, unless}
use Rattle.blocks.proofs.Finding.{found_first}

-- a search finds no fault where its test picks nothing
module _ {E : Type 0} (p : ℕ → Bool) (a n : ℕ) (f : ℕ → E) where
  abbrev NonePicked : Type 0
  NonePicked = (k : ℕ) → a ≤ k → k < n → p k ≡ false

  found_decides : (o : Option ℕ) → FoundFirst p a n o → Decides (is_ok (if_found o f)) NonePicked
  found_decides None found = (λ ok. found, λ none. refl)
  found_decides (Some i) found = (λ ok. absurd (false≢true ok), λ none. absurd (both_ways (p i) (none i found.0 found.1) found.2))

  pub search_decides : Decides (is_ok (if_found (first_in p a n) f)) NonePicked
  search_decides = found_decides (first_in p a n) (found_first p a n)

module _ {E : Type 0} where
  pub both_pass : (v w : Verdict E) → is_ok (first_of v w) ≡ true → (is_ok v ≡ true) × (is_ok w ≡ true)
  both_pass (Ok u) w ok = (refl, ok)
  both_pass (Err e) w ok = absurd (false≢true ok)

  pub pass_both : (v w : Verdict E) → is_ok v ≡ true → is_ok w ≡ true → is_ok (first_of v w) ≡ true
  pass_both (Ok u) w first next = next
  pass_both (Err e) w first next = first

  pub test_holds : (test : Bool) (e : E) → is_ok (unless test e) ≡ true → test ≡ true
  test_holds true e ok = refl
  test_holds false e ok = absurd (false≢true ok)

  pub test_passes : (test : Bool) (e : E) → test ≡ true → is_ok (unless test e) ≡ true
  test_passes true e is = refl
  test_passes false e is = is
