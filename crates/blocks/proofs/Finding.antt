-- The first number that a test picks, and the first word that breaks a rule.
use Rattle.std.proofs.Common.{◌≡◌, ℕ, zero, suc, ◌<◌, ◌≤◌, Bool, true, false, cond, ◌&&◌, leb, Some, None, Option, List, ℤ, sym, refl, ap, ⊎_elim, arith}
use Rattle.std.proofs.lemmas.Bool.{cases_lt, lt-leb, le-leb, leb-false, leb-true, and_right, and_parts, and_cases}
use Rattle.blocks.specs.Firsts.{first_in, if_found, or_else, FoundFirst}
use Rattle.blocks.specs.Rules.{BreaksFirst}
use Rattle.blocks.specs.Verdicts.{first_word}
use Rattle.blocks.specs.Words.{word_at}

module _ (p : ℕ → Bool) (a : ℕ) where
  -- nothing is found where nothing is picked
  first_in_nowhere : (n : ℕ) → ((k : ℕ) → a ≤ k → k < n → p k ≡ false) → first_in p a n ≡ None
  unfolding first_in
  first_in_nowhere zero none = refl
  first_in_nowhere (suc n) none =
      let before : first_in p a n ≡ None = first_in_nowhere n (λ k low high. none k low (omega arith)) in
      let here : (leb a n && p n) ≡ false =
      ⊎_elim
      (λ under. let low : leb a n ≡ false = lt-leb a n under in rw low)
      (λ over. and_right (leb a n) (p n) (none n over (omega arith)))
      (cases_lt n a) in
      rw (before, here)

  first_in_suc : (n : ℕ) → first_in p a n ≡ None → a ≤ n → p n ≡ true → first_in p a (suc n) ≡ Some n
  unfolding first_in
  first_in_suc n before h here = let high : leb a n ≡ true = le-leb a n h in rw (before, high, here)

  first_in_found : (i n : ℕ) → first_in p a i ≡ None → a ≤ i → p i ≡ true → i < n → first_in p a n ≡ Some i
  unfolding first_in
  first_in_found i zero before h here l = absurd (omega arith)
  first_in_found i (suc n) before h here l =
      ⊎_elim
      (λ lt. let there : first_in p a n ≡ Some i = first_in_found i n before h here lt in rw there)
      (λ ge. let same : i ≡ n = omega arith in rw (← same) (first_in_suc i before h here))
      (cases_lt i n)

  -- what is picked, with nothing picked before it, is what is found
  pub first_in_is : (n : ℕ) (o : Option ℕ) → FoundFirst p a n o → o ≡ first_in p a n
  first_in_is n None f = sym (first_in_nowhere n f)
  first_in_is n (Some i) f = sym (first_in_found i n (first_in_nowhere i f.3) f.0 f.2 f.1)

  none_step : (n : ℕ) → FoundFirst p a n None → (t : Bool) → (leb a n && p n) ≡ t → FoundFirst p a (suc n) (cond t (Some n) None)
  none_step n below true e = let both = and_parts (leb a n) (p n) e in (leb-true a n both.0, omega arith, both.1, below)
  none_step n below false e =
      λ k h l.
      ⊎_elim
      (λ lt. below k h lt)
      (λ ge. let same : n ≡ k = omega arith in rw (← same) (⊎_elim (λ low. absurd (omega (arith, leb-false a n low))) (λ no. no) (and_cases (leb a n) (p n) e)))
      (cases_lt k n)

  found_step : (n : ℕ) (o : Option ℕ) → FoundFirst p a n o → FoundFirst p a (suc n) (or_else o (cond (leb a n && p n) (Some n) None))
  found_step n (Some i) f = (f.0, omega (arith, f.1), f.2, f.3)
  found_step n None f = none_step n f (leb a n && p n) refl

  pub found_first : (n : ℕ) → FoundFirst p a n (first_in p a n)
  unfolding first_in
  found_first zero = λ k h l. absurd (omega arith)
  found_first (suc n) = found_step n (first_in p a n) (found_first n)

-- the first word that is said to break a rule, where what is said is what a test finds
module _ {says : ℕ → ℤ → Bool → Type 0} {part : List ℕ} (picks : ℕ → Bool) where
  picked_first : (found : Option ℕ) → BreaksFirst says part found → ((k : ℕ) (b : Bool) → says k (word_at part k) b → b ≡ picks k) → FoundFirst picks 1 127 found
  picked_first None breaks tells = λ k low high. sym (tells k false (breaks.lowest k low high))
  picked_first (Some i) breaks tells = let b = breaks.lowest in (b.0, b.1, sym (tells i true b.2), λ k low high. sym (tells k false (b.3 k low high)))

  pub if_found-first_word : {E : Type 0} (fault : ℕ → E) {found : Option ℕ} → BreaksFirst says part found → ((k : ℕ) (b : Bool) → says k (word_at part k) b → b ≡ picks k) → if_found found fault ≡ if_found (first_word picks) fault
  if_found-first_word fault {found} breaks tells = ap (λ o. if_found o fault) (first_in_is picks 1 127 found (picked_first found breaks tells))
