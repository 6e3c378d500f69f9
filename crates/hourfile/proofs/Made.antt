-- Arrays that a closure makes, place by place.
use Rattle.std.proofs.Common.{◌≡◌, ℕ, zero, suc, ◌+◌, ◌<◌, ◌≤◌, List, get_or, sym, subst, ⊎_elim, arith}
use Rattle.std.specs.Array.{IsFromFnResult, IsFromFnResultFrom}
use Rattle.std.specs.Fn.{Called}
use Rattle.std.proofs.lemmas.Bool.{cases_lt}
use denote.Param.Members.{Mut}

module _ {F B : Type 0} (g : Mut F (ℕ × Unit {0}) B) (f : F) (P : ℕ → B → Type 0) (each : (i : ℕ) (y : B) (q : F) → Called g f (i, tt) y q → (q ≡ f) × P i y) where
  made_from : (ys : List B) (d : B) (i n : ℕ) → IsFromFnResultFrom g f ys i n → (k : ℕ) → i ≤ k → k < i + n → P k (get_or ys k d)
  made_from ys d i zero made k low high = absurd (omega arith)
  made_from ys d i (suc n) made k low high =
      let here = each i made.1 made.0 made.3 in
      ⊎_elim
      (λ lt. made_from ys d (i + 1) n (subst (λ (q : F). IsFromFnResultFrom g q ys (i + 1) n) here.0 made.4) k (omega arith) (omega arith))
      (λ ge.
      let same : i ≡ k = omega arith in
      subst (λ (j : ℕ). P j (get_or ys j d)) same (subst (P i) (sym (made.2.1 d)) here.1))
      (cases_lt i k)

  -- what each call gives stands at its place
  pub made_at : (ys : List B) (d : B) (n : ℕ) → IsFromFnResult g f ys n → (k : ℕ) → k < n → P k (get_or ys k d)
  made_at ys d n made k h = made_from ys d 0 n made.each k (omega arith) (omega arith)
