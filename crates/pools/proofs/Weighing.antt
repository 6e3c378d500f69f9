-- Running sums of weights.
use Rattle.std.proofs.Common.{◌≡◌, ℕ, zero, suc, ◌+◌, ◌*◌, ◌<◌, ◌≤◌, List, [], ◌∷◌, length, get_or, take, refl, ⊎_elim, add-one, add-zero, zero-add, length-take-le, get_or-take, arith}
use Rattle.std.specs.List.{sum_by, enumerate_from}
use Rattle.std.proofs.lemmas.Bool.{cases_lt}
use Rattle.std.proofs.lemmas.List.Sums.{sum_by-cons}
use Rattle.pools.specs.Sharing.{before, weights}

pub before_none : (weight : ℕ → ℕ) → before weight 0 ≡ 0
unfolding before
before_none weight = refl

pub before_suc : (weight : ℕ → ℕ) (place : ℕ) → before weight (suc place) ≡ before weight place + weight place
unfolding before
before_suc weight place = refl

pub before_more : (weight : ℕ → ℕ) (place : ℕ) → before weight (place + 1) ≡ before weight place + weight place
before_more weight place = rw add-one (before_suc weight place)

before_le : (weight : ℕ → ℕ) (m n : ℕ) → m ≤ n → before weight m ≤ before weight n
before_le weight m zero h = let e : m ≡ zero = omega arith in rw e (omega arith)
before_le weight m (suc n) h =
    ⊎_elim
    (λ (l : m < suc n). omega (arith, before_le weight m n (omega arith), before_suc weight n))
    (λ (l : suc n ≤ m). let e : m ≡ suc n = omega arith in rw e (omega arith))
    (cases_lt m (suc n))

-- the running sum up to an owner is within the whole weight
pub before_within : (weight : ℕ → ℕ) (place owners : ℕ) → place < owners → before weight place + weight place ≤ before weight owners
before_within weight place owners h = omega (arith, before_le weight (suc place) owners h, before_suc weight place)

-- the bound on each weight bounds the running sum
pub before_bounded : (weight : ℕ → ℕ) (most places : ℕ) → ((place : ℕ) → weight place ≤ most) → before weight places ≤ most * places
before_bounded weight most zero each = rw before_none (omega arith)
before_bounded weight most (suc n) each = omega (arith, before_suc weight n, each n, before_bounded weight most n each)

-- what a basis gives to listed quantities, from a place on, is the running sum past them less that before them
listed_from : (weighs : ℕ → ℕ → ℕ) (weight : ℕ → ℕ) (place : ℕ) (listed : List ℕ)
    → ((k : ℕ) → k < length listed → weight (place + k) ≡ weighs (place + k) (get_or listed k 0))
    → before weight place + sum_by (λ (p : ℕ × ℕ). weighs p.0 p.1) (enumerate_from place listed) ≡ before weight (place + length listed)
listed_from weighs weight place [] each = simp (add-zero) refl
listed_from weighs weight place (quantity ∷ listed) each =
    let rest = listed_from weighs weight (place + 1) listed (λ k h. let e : place + 1 + k ≡ place + suc k = omega arith in rw e (each (suc k) (omega arith))) in
    let first = sum_by-cons (λ (p : ℕ × ℕ). weighs p.0 p.1) (place, quantity) (enumerate_from (place + 1) listed) in
    let here = simp add-zero at (each 0 (omega arith)) in
    let end : place + suc (length listed) ≡ place + 1 + length listed = omega arith in
    rw end (omega (arith, rest, first, here, before_more weight place))

-- the weights of the owners' quantities, listed by place, sum to the running sum past the owners
pub weights_sum : {B : Type 0} (weighs : B → ℕ → ℕ → ℕ) (basis : B) (quantities : List ℕ) (owners : ℕ) → owners ≤ length quantities
    → sum_by (λ (p : ℕ × ℕ). weighs basis p.0 p.1) (enumerate_from 0 (take owners quantities)) ≡ before (weights weighs basis quantities) owners
weights_sum weighs basis quantities owners h =
    let listed = take owners quantities in
    let long : length listed ≡ owners = rw length-take-le refl in
    let sum = listed_from (weighs basis) (weights weighs basis quantities) 0 listed (λ k l. let below : k < owners = omega arith in simp zero-add (rw get_or-take refl)) in
    simp (before_none, zero-add, long) at sum
