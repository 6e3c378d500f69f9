-- What falls to a running weight, and the laws of shares.
use Rattle.std.proofs.Common.{◌≡◌, ℕ, zero, suc, ◌+◌, ◌-◌, ◌*◌, ◌/◌, ◌%◌, ◌<◌, ◌≤◌, ◌≢◌, List, length, get_or, set, replicate, ℤ, pos, negsuc, neg_ℤ, ◌+ℤ◌, ◌-ℤ◌, ◌*ℤ◌, nat_abs, sym, refl, ap, ◌∙◌, mul_comm, mul-zero, mul-add, div-mul-le_self, mul-div_cancel, arith, get_or-set_other, get_or-set_same, below_more}
use native.Mathlib.Nat.{zero-div, div-zero, div-add-mod, div-le_of_le-mul}
use borrow.Author.Differences.{ints}
use Rattle.std.specs.Prelude.{int_div}
use lib.IntN.{+ℤ_idl, +ℤ_idr}
use Rattle.std.proofs.lemmas.Nat.{mod_below, mul-le, le-div}
use Rattle.pools.specs.Sharing.{Shared, before, signed_as, falls_to, share_of, operator_part, sum_of}
use Rattle.pools.proofs.Signs.{signed_whole, signed_none, signed_abs, signed_minus, signed_scaled, signed_times, signed_gap}
use Rattle.pools.proofs.Weighing.{before_none, before_suc}

-- ---- what falls to a running weight
minus_divided : (n whole : ℕ) → int_div (neg_ℤ (pos n)) (pos whole) ≡ neg_ℤ (pos (n / whole))
minus_divided zero whole = rw zero-div refl
minus_divided (suc n) whole = refl

-- to divide the signed product drops the remainder of either sign
pub divided : (pool : ℤ) (running whole : ℕ) → int_div (pool *ℤ pos running) (pos whole) ≡ falls_to pool running whole
divided (pos n) running whole = refl
divided (negsuc n) running whole = minus_divided (suc n * running) whole

pub quotient_within : (size running whole : ℕ) → running ≤ whole → size * running / whole ≤ size
quotient_within size running whole h = div-le_of_le-mul whole (rw (mul_comm whole size) (mul-le size running size whole (omega arith) h))

pub falls_within : (pool : ℤ) (running whole : ℕ) → running ≤ whole → nat_abs (falls_to pool running whole) ≤ nat_abs pool
falls_within pool running whole h = rw signed_abs (quotient_within (nat_abs pool) running whole h)

pub falls_to_none : (pool : ℤ) (whole : ℕ) → falls_to pool 0 whole ≡ pos 0
falls_to_none pool whole = rw (mul-zero, zero-div) (signed_none pool)

falls_to_whole : (pool : ℤ) (whole : ℕ) → 0 < whole → falls_to pool whole whole ≡ pool
falls_to_whole pool whole h = rw mul-div_cancel (signed_whole pool)

-- where nothing weighs
falls_of_none : (pool : ℤ) (running : ℕ) → falls_to pool running 0 ≡ pos 0
falls_of_none pool running = rw div-zero (signed_none pool)

share_of_none : (pool : ℤ) (weight : ℕ → ℕ) (place : ℕ) → share_of pool weight 0 place ≡ pos 0
share_of_none pool weight place = rw (falls_of_none pool (before weight (suc place)), falls_of_none pool (before weight place))

-- what falls to the whole weight, with the operator's part, is all
pub all_falls : (pool : ℤ) (whole : ℕ) → falls_to pool whole whole +ℤ operator_part pool whole ≡ pool
all_falls pool zero = rw (falls_of_none pool zero) (+ℤ_idl pool)
all_falls pool (suc n) = rw (falls_to_whole pool (suc n) (omega arith)) (+ℤ_idr pool)

-- ---- the laws
sum_none : (shares : List ℤ) → sum_of shares 0 ≡ pos 0
unfolding sum_of
sum_none shares = refl

sum_suc : (shares : List ℤ) (n : ℕ) → sum_of shares (suc n) ≡ sum_of shares n +ℤ get_or shares n (pos 0)
unfolding sum_of
sum_suc shares n = refl

telescope : (a b : ℤ) → a +ℤ (b -ℤ a) ≡ b
telescope a b = omega (arith, ints)

-- shares add up to what falls to the running weight
shares_sum : (pool : ℤ) (weight : ℕ → ℕ) (whole : ℕ) (shares : List ℤ) (n : ℕ)
    → ((place : ℕ) → place < n → get_or shares place (pos 0) ≡ share_of pool weight whole place)
    → sum_of shares n ≡ falls_to pool (before weight n) whole
shares_sum pool weight whole shares zero exact = rw (sum_none shares, before_none weight) (sym (falls_to_none pool whole))
shares_sum pool weight whole shares (suc n) exact =
    let front = shares_sum pool weight whole shares n (λ k l. exact k (omega arith)) in
    rw (sum_suc shares n, front, exact n (omega arith)) (telescope (falls_to pool (before weight n) whole) (falls_to pool (before weight (suc n)) whole))

-- a share is less than a cent away from its exact proportion
pub share_near : (pool : ℤ) (weight : ℕ → ℕ) (whole place : ℕ) → 0 < whole → nat_abs (pos whole *ℤ share_of pool weight whole place -ℤ pool *ℤ pos (weight place)) < whole
share_near pool weight whole place positive =
    let t = nat_abs pool in
    let c = before weight place in
    let w = weight place in
    let x = t * (c + w) in
    let y = t * c in
    let d = x / whole - y / whole in
    let sum : x ≡ y + t * w = mul-add t c w in
    let floor_x : (whole * (x / whole) + x % whole ≡ x) × (x % whole < whole) = (div-add-mod x whole, mod_below x whole positive) in
    let floor_y : (whole * (y / whole) + y % whole ≡ y) × (y % whole < whole) = (div-add-mod y whole, mod_below y whole positive) in
    let rise : y / whole ≤ x / whole = le-div (y / whole) x whole positive (omega (arith, div-mul-le_self y whole)) in
    let step : x / whole ≡ y / whole + d = omega arith in
    let scaled : whole * (x / whole) ≡ whole * (y / whole) + whole * d = ap (λ q. whole * q) step ∙ mul-add whole (y / whole) d in
    let share : share_of pool weight whole place ≡ signed_as pool d = ap (λ n. falls_to pool n whole -ℤ falls_to pool c whole) (before_suc weight place) ∙ signed_minus pool (x / whole) (y / whole) rise in
    rw (share, signed_scaled, signed_times) (signed_gap pool (whole * d) (t * w) whole (omega arith) (omega arith))

no_difference : (a : ℤ) → a -ℤ a ≡ pos 0
no_difference a = omega (arith, ints)

share_weightless : (pool : ℤ) (weight : ℕ → ℕ) (whole place : ℕ) → weight place ≡ 0 → share_of pool weight whole place ≡ pos 0
share_weightless pool weight whole place none =
    let same : before weight (suc place) ≡ before weight place = omega (arith, before_suc weight place) in
    rw same (no_difference (falls_to pool (before weight place) whole))

-- exact shares and the operator's part make a pool that is shared
shared : (pool : ℤ) (weight : ℕ → ℕ) (owners : ℕ) (shares : List ℤ) (operator : ℤ)
    → ((place : ℕ) → place < owners → get_or shares place (pos 0) ≡ share_of pool weight (before weight owners) place)
    → ((place : ℕ) → owners ≤ place → get_or shares place (pos 0) ≡ pos 0)
    → operator ≡ operator_part pool (before weight owners)
    → Shared pool weight owners shares operator
shared pool weight owners shares operator exact others operated =
    let whole = before weight owners in
    let sum = shares_sum pool weight whole shares owners exact in
    record {
      exact = exact;
      others = others;
      operated = operated;
      complete = rw (sum, operated) (all_falls pool whole);
      near = λ place h positive. rw (exact place h) (share_near pool weight whole place positive);
      weightless = λ place h positive none. exact place h ∙ share_weightless pool weight whole place none;
    }

-- ---- where `share` returns, and a turn of its loop
zeros : (n k : ℕ) → get_or (replicate n (pos 0)) k (pos 0) ≡ pos 0
zeros zero k = refl
zeros (suc n) zero = refl
zeros (suc n) (suc k) = zeros n k

pub shared_none : (pool : ℤ) (weight : ℕ → ℕ) (owners : ℕ) → before weight owners ≡ 0 → Shared pool weight owners (replicate 32 (pos 0)) pool
shared_none pool weight owners none =
    shared pool weight owners (replicate 32 (pos 0)) pool
    (λ place h. zeros 32 place ∙ sym (ap (λ n. share_of pool weight n place) none ∙ share_of_none pool weight place))
    (λ place h. zeros 32 place)
    (sym (ap (operator_part pool) none))

operator_none : (pool : ℤ) (whole : ℕ) → 0 < whole → operator_part pool whole ≡ pos 0
operator_none pool zero h = absurd (omega arith)
operator_none pool (suc n) h = refl

-- what the loop keeps of the shares: those of the places that it passed are exact, and the others are 0
pub record Upto (pool : ℤ) (weight : ℕ → ℕ) (whole : ℕ) (shares : List ℤ) (n : ℕ) : Type 0 where
  pub exact : (place : ℕ) → place < n → get_or shares place (pos 0) ≡ share_of pool weight whole place
  pub others : (place : ℕ) → n ≤ place → get_or shares place (pos 0) ≡ pos 0

pub upto_none : (pool : ℤ) (weight : ℕ → ℕ) (whole : ℕ) → Upto pool weight whole (replicate 32 (pos 0)) 0
upto_none pool weight whole = record { exact = λ place h. absurd (omega arith); others = λ place h. zeros 32 place }

pub upto_more : (pool : ℤ) (weight : ℕ → ℕ) (whole place : ℕ) (share : ℤ) (shares : List ℤ)
    → share ≡ share_of pool weight whole place → place < length shares
    → Upto pool weight whole shares place → Upto pool weight whole (set shares place share) (place + 1)
upto_more pool weight whole place share shares is room upto = record {
  exact = below_more _ _
      (λ k h. let ne : k ≢ place = omega arith in rw get_or-set_other (upto.exact k h))
      (rw get_or-set_same is);
  others = λ k h. let ne : k ≢ place = omega arith in rw get_or-set_other (upto.others k (omega arith));
}

pub shared_all : (pool : ℤ) (weight : ℕ → ℕ) (owners : ℕ) (shares : List ℤ) → 0 < before weight owners
    → Upto pool weight (before weight owners) shares owners → Shared pool weight owners shares (pos 0)
shared_all pool weight owners shares positive upto =
    shared pool weight owners shares (pos 0) upto.exact upto.others (sym (operator_none pool (before weight owners) positive))
