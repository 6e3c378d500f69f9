-- A loop that stops at the first fault.
use Rattle.std.proofs.Common.{◌≡◌, ℕ, zero, suc, ◌+◌, ◌<◌, Ok, Err, refl, ◌∙◌, ⊎_elim, add-one, arith}
use Rattle.std.proofs.lemmas.Bool.{cases_lt}
use Rattle.blocks.specs.Firsts.{Verdict, DecidesFirst, first_of, up_to}

module _ {E : Type 0} (v : ℕ → Verdict E) where
  -- one more without a fault
  pub up_to_more : (n : ℕ) → up_to v n ≡ Ok tt → v n ≡ Ok tt → up_to v (n + 1) ≡ Ok tt
  unfolding up_to
  up_to_more n before here = rw add-one (rw (before, here))

  up_to_suc : (n : ℕ) (e : E) → up_to v n ≡ Ok tt → v n ≡ Err e → up_to v (suc n) ≡ Err e
  unfolding up_to
  up_to_suc n e before here = rw (before, here)

  -- the first fault decides, however many follow
  pub up_to_stops : (i n : ℕ) (e : E) → up_to v i ≡ Ok tt → v i ≡ Err e → i < n → up_to v n ≡ Err e
  unfolding up_to
  up_to_stops i zero e before here h = absurd (omega arith)
  up_to_stops i (suc n) e before here h =
      ⊎_elim
      (λ lt. rw (up_to_stops i n e before here lt))
      (λ ge. let same : i ≡ n = omega arith in rw (← same) (up_to_suc i e before here))
      (cases_lt i n)

  pass_step : (n : ℕ) (w : Verdict E) → up_to v n ≡ w → first_of w (v n) ≡ Ok tt → (up_to v n ≡ Ok tt → (k : ℕ) → k < n → v k ≡ Ok tt) → (k : ℕ) → k < suc n → v k ≡ Ok tt
  pass_step n (Ok u) before h below k l = ⊎_elim (λ lt. below before k lt) (λ ge. let same : n ≡ k = omega arith in rw (← same) h) (cases_lt k n)
  pass_step n (Err d) before h below k l = let z : ◌≡◌ {A = ℕ} 0 1 = cc in absurd (omega arith)

  -- a verdict without a fault is one of each
  pub up_to_passes : (n : ℕ) → up_to v n ≡ Ok tt → (k : ℕ) → k < n → v k ≡ Ok tt
  unfolding up_to
  up_to_passes zero h k l = absurd (omega arith)
  up_to_passes (suc n) h k l = pass_step n (up_to v n) refl h (up_to_passes n) k l

  fail_step : (n : ℕ) (e : E) (w : Verdict E) → up_to v n ≡ w → first_of w (v n) ≡ Err e → ((d : E) → up_to v n ≡ Err d → DecidesFirst v n d) → DecidesFirst v (suc n) e
  fail_step n e (Ok u) before h below = (n, omega arith, h, up_to_passes n before)
  fail_step n e (Err d) before h below = let r = below d before in (r.0, omega (arith, r.1), r.2 ∙ h, r.3)

  -- a fault is that of the first that has one
  pub up_to_decides : (n : ℕ) (e : E) → up_to v n ≡ Err e → DecidesFirst v n e
  unfolding up_to
  up_to_decides zero e h = let z : ◌≡◌ {A = ℕ} 0 1 = cc in absurd (omega arith)
  up_to_decides (suc n) e h = fail_step n e (up_to v n) refl h (up_to_decides n)
