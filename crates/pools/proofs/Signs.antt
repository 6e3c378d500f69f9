-- Sizes with the sign of an amount.
use Rattle.std.proofs.Common.{◌≡◌, ℕ, zero, suc, ◌+◌, ◌-◌, ◌*◌, ◌<◌, ◌≤◌, ℤ, pos, negsuc, ◌-ℤ◌, ◌*ℤ◌, nat_abs, refl, mul-zero, arith}
use borrow.Author.Differences.{ints}
use Rattle.pools.specs.Sharing.{signed_as}

pub signed_whole : (z : ℤ) → signed_as z (nat_abs z) ≡ z
signed_whole (pos n) = refl
signed_whole (negsuc n) = refl

pub signed_none : (z : ℤ) → signed_as z 0 ≡ pos 0
signed_none (pos n) = refl
signed_none (negsuc n) = refl

pub signed_abs : (z : ℤ) (n : ℕ) → nat_abs (signed_as z n) ≡ n
signed_abs (pos _) n = refl
signed_abs (negsuc _) zero = refl
signed_abs (negsuc _) (suc n) = refl

pub signed_minus : (z : ℤ) (m n : ℕ) → n ≤ m → signed_as z m -ℤ signed_as z n ≡ signed_as z (m - n)
signed_minus (pos _) m n h = omega (arith, ints)
signed_minus (negsuc _) m n h = omega (arith, ints)

pub signed_scaled : (z : ℤ) (m n : ℕ) → pos m *ℤ signed_as z n ≡ signed_as z (m * n)
signed_scaled (pos _) m n = refl
signed_scaled (negsuc _) m zero = rw mul-zero
signed_scaled (negsuc _) m (suc n) = refl

pub signed_times : (z : ℤ) (n : ℕ) → z *ℤ pos n ≡ signed_as z (nat_abs z * n)
signed_times (pos _) n = refl
signed_times (negsuc _) n = refl

pub signed_gap : (z : ℤ) (m n w : ℕ) → m < n + w → n < m + w → nat_abs (signed_as z m -ℤ signed_as z n) < w
signed_gap (pos _) m n w h k = omega (arith, ints)
signed_gap (negsuc _) m n w h k = omega (arith, ints)
