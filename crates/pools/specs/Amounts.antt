-- What a pool holds.
use Rattle.std.specs.Prelude.{◌≤◌, ℤ, unsigned_abs}

-- The amount of a pool, in cents, with its bound.
pub record PoolAmount : Type 0 where
  pub cents : ℤ
  pub bounded : unsigned_abs cents ≤ 14000000000
