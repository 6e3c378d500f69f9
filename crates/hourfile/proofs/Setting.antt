-- Lists with one place written anew, lists of equal elements, and equal lines.
use Rattle.std.proofs.Common.{◌≡◌, ℕ, zero, suc, ◌+◌, ◌-◌, ◌<◌, ◌≤◌, ◌++◌, cond, eqb, List, length, drop, get_or, set, replicate, ℤ, refl, ap, ⊎_elim, ◌∙◌, sym, arith, get_or-drop, get_or-set_other, get_or-set_same}
use Rattle.std.proofs.lemmas.List.{get_or-append_right}
use Rattle.std.proofs.lemmas.Bool.{cases_eq, eq-eqb, ne_eqb}
use Rattle.hourfile.specs.declared.lines.Line.{Line}
use Rattle.hourfile.specs.Hours.{shared_line}

-- a list of equal elements has them at every place, with the same one past its end
pub replicated : {X : Type 0} (x : X) (n i : ℕ) → get_or (replicate n x) i x ≡ x
replicated x zero i = refl
replicated x (suc n) zero = refl
replicated x (suc n) (suc i) = replicated x n i

pub written : {X : Type 0} (xs : List X) (i j : ℕ) (x d : X) → i < length xs → get_or (set xs i x) j d ≡ cond (eqb i j) x (get_or xs j d)
written xs i j x d room =
    ⊎_elim
    (λ e. rw (← e) (get_or-set_same xs i x d room ∙ ap (λ b. cond b x (get_or xs i d)) (sym (eq-eqb i i refl))))
    (λ ne. get_or-set_other xs i j x d (λ e. ne (sym e)) ∙ ap (λ b. cond b x (get_or xs j d)) (sym (ne_eqb i j ne)))
    (cases_eq i j)

-- what stands behind the front of a list that was written anew
pub behind : {X : Type 0} (front xs : List X) (n k : ℕ) (d : X) → length front ≡ n → n ≤ k → get_or (front ++ drop n xs) k d ≡ get_or xs k d
behind front xs n k d long h =
    let same : n + (k - n) ≡ k = omega arith in
    get_or-append_right front (drop n xs) n k d long h ∙ get_or-drop n xs (k - n) d ∙ ap (λ i. get_or xs i d) same

-- equal lines with equal parts are equal
pub parts_same : (own other : Line → ℤ) (u v r s : ℤ) → ((line : Line) → own line ≡ other line) → u ≡ v → r ≡ s → (line : Line) → shared_line own u r line ≡ shared_line other v s line
parts_same own other u v r s same up res line = λ i. shared_line (λ l. same l i) (up i) (res i) line
