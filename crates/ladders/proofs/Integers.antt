-- Laws of products of integers, and the size of a product.
use Rattle.std.proofs.Common.{◌≡◌, ℕ, suc, ◌+◌, ◌-◌, ◌*◌, ◌≤◌, ℤ, pos, ◌+ℤ◌, ◌-ℤ◌, ◌*ℤ◌, nat_abs, ◌≤ℤ◌, sym, ap, subst, mul-le-mul, arith}
use Rattle.std.specs.Int.{int_max}
use Rattle.std.proofs.lemmas.Int.{clamps, unsigned_abs-mul}
use borrow.Author.Differences.{up, down, same_in, sum_is_lem, product_is, ints}

-- a product with a sum
pub times_sum : (a b c : ℤ) → a *ℤ (b +ℤ c) ≡ a *ℤ b +ℤ a *ℤ c
times_sum a b c =
    let above = ap (λ x. up a * x) (sum_is_lem b c) in
    let below = ap (λ x. down a * x) (sum_is_lem b c) in
    omega (arith, ints)

-- a product of three
pub times_assoc : (a b c : ℤ) → (a *ℤ b) *ℤ c ≡ a *ℤ (b *ℤ c)
times_assoc a b c =
    let p = product_is a b in
    let q = product_is b c in
    let p1 = ap (λ x. x * up c) p.0 in
    let p2 = ap (λ x. x * down c) p.0 in
    let p3 = ap (λ x. x * up c) p.1 in
    let p4 = ap (λ x. x * down c) p.1 in
    let q1 = ap (λ x. up a * x) q.0 in
    let q2 = ap (λ x. down a * x) q.0 in
    let q3 = ap (λ x. up a * x) q.1 in
    let q4 = ap (λ x. down a * x) q.1 in
    omega (arith, same_in, product_is)

-- |a| ≤ m and |b| ≤ n give |a × b| ≤ m × n
pub product_within : (m n : ℕ) (a b : ℤ) → nat_abs a ≤ m → nat_abs b ≤ n → nat_abs (a *ℤ b) ≤ m * n
product_within m n a b h k = subst (λ (x : ℕ). x ≤ m * n) (sym (unsigned_abs-mul a b)) (mul-le-mul h k)

-- a product with one more
pub times_suc : (a : ℤ) (n : ℕ) → a *ℤ pos (suc n) ≡ a *ℤ pos n +ℤ a
times_suc a n =
    let e : pos (suc n) ≡ pos n +ℤ pos 1 = ap pos (omega arith) in
    rw (e, times_sum) (ap (λ x. a *ℤ pos n +ℤ x) (omega (arith, ints)))

left_over : (a b : ℤ) → (a +ℤ b) -ℤ a ≡ b
left_over a b = omega (arith, ints)

-- the difference of two products with one factor
pub times_difference : (a : ℤ) (m n : ℕ) → n ≤ m → a *ℤ pos m -ℤ a *ℤ pos n ≡ a *ℤ pos (m - n)
times_difference a m n h =
    let e : pos m ≡ pos n +ℤ pos (m - n) = ap pos (omega arith) in
    rw (e, times_sum) (left_over (a *ℤ pos n) (a *ℤ pos (m - n)))

-- sizes of sums and differences
pub sum_within : (m n : ℕ) (a b : ℤ) → nat_abs a ≤ m → nat_abs b ≤ n → nat_abs (a +ℤ b) ≤ m + n
sum_within m n a b h k = omega (arith, ints)

pub swap_difference : (a b : ℤ) → nat_abs (a -ℤ b) ≡ nat_abs (b -ℤ a)
swap_difference a b = omega (arith, ints)

-- (a + b) − (c + d) = (a − c) + (b − d)
pub regroup : (a b c d : ℤ) → (a +ℤ b) -ℤ (c +ℤ d) ≡ (a -ℤ c) +ℤ (b -ℤ d)
regroup a b c d = omega (arith, ints)

pub no_difference : (a b : ℤ) → nat_abs (a -ℤ b) ≤ 0 → a ≡ b
no_difference a b h = omega (arith, ints)

-- what the larger of two numbers falls short of a number that neither exceeds
pub short_of_larger : (best a b larger : ℤ) (n : ℕ) → larger ≡ int_max a b → a ≤ℤ best → b ≤ℤ best → nat_abs (best -ℤ a) ≤ n → (pos 0 ≤ℤ (best -ℤ larger)) × (nat_abs (best -ℤ larger) ≤ n)
short_of_larger best a b larger n is h k near = omega (arith, ints, clamps)
