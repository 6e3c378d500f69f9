-- An array that a function of the index gives.
use Rattle.std.proofs.Common.{◌≡◌, ℕ, zero, suc, ◌+◌, ◌<◌, ◌≤◌, List, get_or, map, ◌∙◌, subst, ⊎_elim, arith}
use Rattle.std.proofs.lemmas.Bool.{cases_lt}
use Rattle.std.proofs.lemmas.List.FromFn.{fill_by_all}
use Rattle.std.specs.Array.{IsFromFnResult, IsFromFnResultFrom}
use Rattle.std.specs.Fn.{Called}
use Rattle.std.specs.List.{range_with_len}
use denote.Param.Members.{Mut}

-- where the function changes nothing that it holds, and gives h of each index
module _ {F B : Type 0} (g : Mut F (ℕ × Unit {0}) B) (h : ℕ → B) (f : F) (gives : (k : ℕ) (y : B) (q : F) → Called g f (k, tt) y q → (q ≡ f) × (y ≡ h k)) where
  each_from : (ys : List B) (d : B) (i n : ℕ) → IsFromFnResultFrom g f ys i n → (k : ℕ) → i ≤ k → k < i + n → get_or ys k d ≡ h k
  each_from ys d i zero filled k low high = absurd (omega arith)
  each_from ys d i (suc n) filled k low high =
      let here = gives i filled.1 filled.0 filled.3 in
      ⊎_elim
      (λ more. each_from ys d (i + 1) n (subst (λ (p : F). IsFromFnResultFrom g p ys (i + 1) n) here.0 filled.4) k (omega arith) (omega arith))
      (λ last. let same : i ≡ k = omega arith in subst (λ j. get_or ys j d ≡ h j) same (filled.2.1 d ∙ here.1))
      (cases_lt i k)

  pub filled_by : (ys : List B) (n : ℕ) (d : B) → IsFromFnResult g f ys n → ys ≡ map h (range_with_len 0 n)
  filled_by ys n d filled = fill_by_all h ys n d filled.long (λ k few. each_from ys d 0 n filled.each k (omega arith) (omega arith))
