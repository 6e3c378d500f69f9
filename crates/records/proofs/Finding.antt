-- What stands at places that were read.
use Rattle.std.proofs.Common.{◌≡◌, ℕ, zero, suc, ◌+◌, ◌<◌, List, [], ◌∷◌, ◌++◌, map, get_or, MatchOption, Some, None, Option, ap, ◌∙◌, add-one, arith}
use Rattle.std.specs.List.{range_with_len}
use Rattle.std.proofs.lemmas.List.{append-nil, get_or-map, length-map}
use Rattle.std.proofs.lemmas.List.FromFn.{fill_by_all}
use Rattle.records.specs.Held.{AllFound, Missed, Reads, ReadsTwelve}

-- The first place and the later ones. `&mut all[..]`, of which the later places are taken, reads as `first ∷ (later ++ [])` afterwards.
module _ {A : Type 0} (Finds : ℕ → Option A → Type 0) (first : A) (later : List A) (count : ℕ) (here : Finds 0 (Some first)) (found : AllFound (λ t. Finds (t + 1)) count later) where
  first_or_later : (t : ℕ) (d : A) → t < count + 1 → Finds t (Some (get_or (first ∷ later) t d))
  first_or_later zero d h = here
  first_or_later (suc t) d h = rw add-one at (found.each t d (omega arith))

  pub first_and_later : AllFound Finds (count + 1) (first ∷ (later ++ []))
  first_and_later = rw append-nil (record { long = omega (arith, found.long); each = first_or_later })

-- What was found, where a reading finds at each place what the record has there.
module _ {A B : Type 0} {Finds : ℕ → Option A → Type 0} (meaning : A → B) (Held : ℕ → Type 0) (value_at : ℕ → B) {count : ℕ} where
  pub all_read : (places : List A) → AllFound Finds count places
      → ((t : ℕ) (r : Option A) → t < count → Finds t r → Reads meaning (Held t) (value_at t) r)
      → ((t : ℕ) → t < count → Held t) × (map meaning places ≡ map value_at (range_with_len 0 count))
  all_read [] found each = (λ t h. absurd (omega (arith, found.long)), ap (λ n. map value_at (range_with_len 0 n)) found.long)
  all_read (x ∷ xs) found each =
      let at : (t : ℕ) → t < count → Held t × (meaning (get_or (x ∷ xs) t x) ≡ value_at t) = λ t h. each t (Some (get_or (x ∷ xs) t x)) h (found.each t x h) in (
        λ t h. (at t h).0,
        fill_by_all value_at (map meaning (x ∷ xs)) count (meaning x) (length-map (x ∷ xs) meaning ∙ found.long)
            (λ t h. get_or-map meaning (x ∷ xs) t x (meaning x) (omega (arith, found.long)) ∙ (at t h).1),
      )

  pub none_read : Missed Finds count → ((t : ℕ) (r : Option A) → t < count → Finds t r → Reads meaning (Held t) (value_at t) r)
      → ((t : ℕ) → t < count → Held t) → ⊥
  none_read missed each held = each missed.place None missed.inside missed.nothing (held missed.place missed.inside)

pub twelve_read : {A B : Type 0} {Finds : ℕ → Option A → Type 0} (meaning : A → B) (Held : ℕ → Type 0) (value_at : ℕ → B) (r : Option (List A))
    → MatchOption r (Missed Finds 12) (AllFound Finds 12)
    → ((t : ℕ) (r : Option A) → t < 12 → Finds t r → Reads meaning (Held t) (value_at t) r)
    → ReadsTwelve meaning Held value_at r
twelve_read meaning Held value_at (Some all) found each = all_read meaning Held value_at all found each
twelve_read meaning Held value_at None missed each = none_read meaning Held value_at missed each
