-- How a pool is shared by weights.
use Rattle.std.specs.Prelude.{◌≡◌, ℕ, zero, suc, ◌+◌, ◌*◌, ◌/◌, ◌<◌, ◌≤◌, List, ℤ, pos, negsuc, ◌+ℤ◌, ◌-ℤ◌, ◌*ℤ◌, neg_ℤ, slice_index, slice_index_or, unsigned_abs}

-- The weight of each place: what a basis answers for the place and what was withdrawn there.
abbrev pub weights : {B : Type 0} → (B → ℕ → ℕ → ℕ) → B → List ℕ → ℕ → ℕ
weights weighs basis withdrawn place = weighs basis place (slice_index withdrawn place)

-- The running sum of the weights: of all places before one.
unfoldable pub before : (ℕ → ℕ) → ℕ → ℕ
before weight zero = 0
before weight (suc place) = before weight place + weight place

-- A size with the sign of an amount.
abbrev pub signed_as : ℤ → ℕ → ℤ
signed_as (pos _) size = pos size
signed_as (negsuc _) size = neg_ℤ (pos size)

-- What of a pool falls to a running sum of the whole weight, the remainder dropped; nothing where the whole weight is 0.
abbrev pub falls_to : ℤ → ℕ → ℕ → ℤ
falls_to pool running whole = signed_as pool (unsigned_abs pool * running / whole)

-- The share of a place: what falls to the running sum up to it, less what falls to the sum before it.
abbrev pub share_of : ℤ → (ℕ → ℕ) → ℕ → ℕ → ℤ
share_of pool weight whole place = falls_to pool (before weight (suc place)) whole -ℤ falls_to pool (before weight place) whole

-- The operator takes all of a pool where nothing weighs, else nothing.
abbrev pub operator_part : ℤ → ℕ → ℤ
operator_part pool zero = pool
operator_part pool (suc _) = pos 0

-- The sum of the first shares.
unfoldable pub sum_of : List ℤ → ℕ → ℤ
sum_of shares zero = pos 0
sum_of shares (suc place) = sum_of shares place +ℤ slice_index_or shares place (pos 0)

-- A pool that is shared among owners, the whole weight being that of all of them: each owner has its share, the operator its part, and
-- no other place anything. And the laws: all of the pool is shared; no share is a cent or more away from its exact proportion; and a
-- weightless owner gets nothing where anything weighs.
pub record Shared (pool : ℤ) (weight : ℕ → ℕ) (owners : ℕ) (shares : List ℤ) (operator : ℤ) : Type 0 where
  pub exact : (place : ℕ) → place < owners → slice_index_or shares place (pos 0) ≡ share_of pool weight (before weight owners) place
  pub others : (place : ℕ) → owners ≤ place → slice_index_or shares place (pos 0) ≡ pos 0
  pub operated : operator ≡ operator_part pool (before weight owners)
  pub complete : sum_of shares owners +ℤ operator ≡ pool
  pub near : (place : ℕ) → place < owners → 0 < before weight owners
      → unsigned_abs (pos (before weight owners) *ℤ slice_index_or shares place (pos 0) -ℤ pool *ℤ pos (weight place)) < before weight owners
  pub weightless : (place : ℕ) → place < owners → 0 < before weight owners → weight place ≡ 0 → slice_index_or shares place (pos 0) ≡ pos 0
