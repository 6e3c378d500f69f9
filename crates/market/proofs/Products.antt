-- A product of two bounded numbers, as a word of width w holds it.
use Rattle.std.proofs.Common.{◌≡◌, ℕ, ◌+◌, ◌*◌, ◌<◌, ◌≤◌, ◌^◌, ℤ, ◌*ℤ◌, unsigned_abs, to_z, of_z, FitsSigned, arith}
use mir.Syntax.{Width}
use mir.Val.{hbits}
use Rattle.std.proofs.lemmas.Int.{to_z-of_z, fits_signed_mul, fits_signed_from_abs}
use Rattle.ladders.proofs.Integers.{product_within}

-- a and b, which are x and y, are multiplied; the product is at most `most` either way
pub record Multiplied (w : Width) (a b x y : ℤ) (most : ℕ) : Type 0 where
  pub fits : FitsSigned w (to_z w (of_z w a) *ℤ to_z w (of_z w b))
  pub value : to_z w (of_z w (to_z w (of_z w a) *ℤ to_z w (of_z w b))) ≡ x *ℤ y
  pub bound : unsigned_abs (x *ℤ y) ≤ most

pub multiplied : (w : Width) (m n : ℕ) (a b x y : ℤ) → a ≡ x → b ≡ y → unsigned_abs x ≤ m → unsigned_abs y ≤ n → m + n + m * n < 2 ^ hbits w → Multiplied w a b x y (m * n)
multiplied w m n a b x y left right small_left small_right small =
    let held_x = to_z-of_z w x (fits_signed_from_abs w x (omega arith)) in
    let held_y = to_z-of_z w y (fits_signed_from_abs w y (omega arith)) in
    let fits = fits_signed_mul w x y m n small_left small_right (omega arith) in record {
      fits = rw (left, right) (rw (held_x, held_y) fits);
      value = rw (left, right) (rw (held_x, held_y) (to_z-of_z w (x *ℤ y) fits));
      bound = product_within m n x y small_left small_right;
    }
