-- The check sum, one byte on.
use Rattle.std.proofs.Common.{◌≡◌, ℕ, zero, suc, ◌+◌, ◌*◌, ◌<◌, ◌≤◌, List, ◌++◌, length, get_or, take, refl, ◌∙◌, add-one, arith}
use Rattle.std.proofs.lemmas.List.{get_or-take, get_or_append_left, length-take}
use Rattle.blocks.specs.Words.{weighted}

pub weighted_none : (bytes : List ℕ) → weighted bytes 0 ≡ 0
unfolding weighted
weighted_none bytes = refl

pub weighted_more : (bytes : List ℕ) (n : ℕ) → weighted bytes (n + 1) ≡ weighted bytes n + (n + 1) * get_or bytes n 0
unfolding weighted
weighted_more bytes n = rw add-one

-- a byte of the first n bytes
pub front_byte : (n : ℕ) (bytes : List ℕ) (j byte : ℕ) → j < length (take n bytes) → byte ≡ get_or (take n bytes) j 0 → byte ≡ get_or bytes j 0
front_byte n bytes j byte inside is = is ∙ get_or-take n bytes j 0 (omega (arith, length-take n bytes))

-- the sum over the first n bytes reads no others
pub weighted_front : (xs ys : List ℕ) (n : ℕ) → n ≤ length xs → weighted (xs ++ ys) n ≡ weighted xs n
unfolding weighted
weighted_front xs ys zero h = refl
weighted_front xs ys (suc n) h =
    let before = weighted_front xs ys n (omega arith) in
    let here = get_or_append_left xs ys 0 n (omega arith) in
    rw (before, here)
