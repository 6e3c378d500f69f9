-- Two lists gone through together, with the index.
use Rattle.std.proofs.Common.{◌≡◌, ℕ, ◌+◌, ◌<◌, min, List, length, get_or, ap, ◌∙◌, arith}
use Rattle.std.specs.List.{enumerate_from, zip}
use Rattle.std.specs.Iterator.Adapters.{enumerate_count, enumerate_source, enumerate_steps, zip_first, zip_second}
use Rattle.std.specs.Slice.Iter.{iter_rest}
use Rattle.std.specs.declared.iter.Enumerate.{Enumerate}
use Rattle.std.specs.declared.iter.Zip.{Zip}
use Rattle.std.specs.declared.slice.Iter.{Iter}
use Rattle.std.proofs.iter.Yields.{fronts}
use Rattle.std.proofs.lemmas.Iterator.{YieldsList, YieldsList-from_slice, YieldsList-from_zip, zips}
use Rattle.std.proofs.lemmas.Iterator.Consumers.{YieldsList-at, YieldsList-from_enumerate}
use Rattle.std.proofs.lemmas.List.{get_or_default}
use Rattle.std.proofs.lemmas.List.FromFn.{get_or-enumerate_from, length-enumerate_from}
use Rattle.std.proofs.lemmas.Slice.Zip.{get_or-zip, length-zip}

-- what goes through them
pub both_from : {A B : Type 0} (xs : List A) (ys : List B) {first : Iter A} {pairs : Zip (Iter A) (Iter B)} {counted going : Enumerate (Zip (Iter A) (Iter B))}
    → iter_rest first ≡ xs → zip_first pairs ≡ first → iter_rest (zip_second pairs) ≡ ys → enumerate_source counted ≡ pairs → enumerate_count counted ≡ 0 → going ≡ counted
    → YieldsList {B = ℕ × (A × B)} (enumerate_steps (zips fronts fronts)) (λ p. (p.0, (p.1.0.now, p.1.1.now))) going (enumerate_from 0 (zip xs ys))
both_from xs ys first_is source second_is pairs_are zero same =
    YieldsList-at same
    (YieldsList-from_enumerate (YieldsList-at pairs_are (YieldsList-from_zip (YieldsList-at source (YieldsList-from_slice xs first_is)) (YieldsList-from_slice ys second_is))) zero)

pub length-placed : {A B : Type 0} (xs : List A) (ys : List B) → length (enumerate_from 0 (zip xs ys)) ≡ min (length xs) (length ys)
length-placed xs ys = length-enumerate_from 0 (zip xs ys) ∙ length-zip xs ys

-- what is at an index: the index itself, and what each list has there
pub record Placed {A B : Type 0} (xs : List A) (ys : List B) (k place : ℕ) (x d : A) (y e : B) : Type 0 where
  pub below : k < min (length xs) (length ys)
  pub place_is : place ≡ k
  pub first : x ≡ get_or xs k d
  pub second : y ≡ get_or ys k e

pub placed : {A B : Type 0} (xs : List A) (ys : List B) (k place : ℕ) (x d : A) (y e : B) → k < length (enumerate_from 0 (zip xs ys)) → ◌≡◌ {A = ℕ × (A × B)} (place, (x, y)) (get_or (enumerate_from 0 (zip xs ys)) k (place, (x, y)))
    → Placed xs ys k place x d y e
placed {A} {B} xs ys k place x d y e h is =
    let long = length-placed xs ys in
    let long_zip = length-zip xs ys in
    let at : ◌≡◌ {A = ℕ × (A × B)} (place, (x, y)) (0 + k, (get_or xs k x, get_or ys k y)) =
    is ∙ get_or-enumerate_from 0 (zip xs ys) k (place, (x, y)) (omega arith) ∙ ap (λ (p : A × B). (0 + k, p)) (get_or-zip xs ys k (x, y) (omega arith) (omega arith)) in
    record {
      below = omega arith;
      place_is = ap (λ (p : ℕ × (A × B)). p.0) at ∙ (omega arith);
      first = ap (λ (p : ℕ × (A × B)). p.1.0) at ∙ get_or_default xs k x d (omega arith);
      second = ap (λ (p : ℕ × (A × B)). p.1.1) at ∙ get_or_default ys k y e (omega arith);
    }
