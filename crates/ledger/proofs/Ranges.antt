-- Tests of each number of a range, and lists that are made number by number.
use Rattle.std.proofs.Common.{◌≡◌, ℕ, ◌+◌, ◌-◌, ◌<◌, ◌≤◌, Bool, true, get_or, Decides, map, sym, subst, ◌∙◌, arith}
use Rattle.std.specs.List.{list_all, range_with_len}
use Rattle.std.proofs.lemmas.List.Elements.{All-from_get_or, All-get_or}
use Rattle.std.proofs.lemmas.List.FromFn.{fill_by_all, get_or-map-range_with_len, get_or-range_with_len, length-map-range_with_len, length-range_with_len}
use Rattle.std.proofs.lemmas.List.Sums.{AllPass-from_list_all, list_all-from_AllPass}

-- a test of each number of a range is true just where each passes
pub each_in : (p : ℕ → Bool) (a n : ℕ) → Decides (list_all p (range_with_len a n)) ((k : ℕ) → a ≤ k → k < a + n → p k ≡ true)
each_in p a n =
    let long = length-range_with_len a n in (
      λ all k low high.
          let at : get_or (range_with_len a n) (k - a) 0 ≡ k = get_or-range_with_len a n (k - a) 0 (omega arith) ∙ (let e : a + (k - a) ≡ k = omega arith in e) in
          subst (λ x. p x ≡ true) at (All-get_or (λ x. p x ≡ true) (range_with_len a n) (k - a) 0 (omega arith) (AllPass-from_list_all p (range_with_len a n) all)),
      λ each.
          list_all-from_AllPass p (range_with_len a n)
          (All-from_get_or (λ x. p x ≡ true) (range_with_len a n) 0
          (λ i below. subst (λ x. p x ≡ true) (sym (get_or-range_with_len a n i 0 (omega arith))) (each (a + i) (omega arith) (omega arith)))),
    )

pub same_made : {X : Type 0} (f g : ℕ → X) (n : ℕ) (d : X) → ((k : ℕ) → k < n → f k ≡ g k) → map f (range_with_len 0 n) ≡ map g (range_with_len 0 n)
same_made f g n d h =
    fill_by_all g (map f (range_with_len 0 n)) n d (length-map-range_with_len f 0 n)
    (λ k below. get_or-map-range_with_len f 0 n k k d below (omega arith) ∙ h k below)
