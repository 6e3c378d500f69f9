-- Grains to cents. A grain is 1/12,000 of a cent.
use Rattle.std.specs.Prelude.{◌≡◌, ℕ, suc, ◌+◌, ◌/◌, ◌<◌, ◌≤◌, ℤ, pos, negsuc, ◌-ℤ◌, ◌*ℤ◌, neg_ℤ, unsigned_abs}

-- The nearest whole number of cents; exact halves go away from zero.
unfoldable pub nearest_cent : ℤ → ℤ
nearest_cent (pos grains) = pos ((grains + 6000) / 12000)
nearest_cent (negsuc grains) = neg_ℤ (pos ((suc grains + 6000) / 12000))

-- How far a number of cents is from a number of grains, in grains.
abbrev pub distance : ℤ → ℤ → ℕ
distance grains cents = unsigned_abs (pos 12000 *ℤ cents -ℤ grains)

-- A number of cents to which the grains may be rounded: at most half a cent away, and where it is just half a cent away, farther
-- from zero than the grains.
pub record Nearest (grains cents : ℤ) : Type 0 where
  pub near : distance grains cents ≤ 6000
  pub away : distance grains cents ≡ 6000 → unsigned_abs grains < unsigned_abs (pos 12000 *ℤ cents)

-- The law of rounding: the answer is such a number, no other number is, and the negative of the grains rounds to its negative.
pub record Rounding (grains cents : ℤ) : Type 0 where
  pub nearest : Nearest grains cents
  pub only : (other : ℤ) → Nearest grains other → other ≡ cents
  pub symmetric : nearest_cent (neg_ℤ grains) ≡ neg_ℤ cents
