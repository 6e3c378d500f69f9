-- Sums over the first numbers.
use Rattle.std.proofs.Common.{◌≡◌, ℕ, zero, suc, ◌+◌, ◌*◌, ◌<◌, ◌≤◌, cond, eqb, ℤ, pos, ◌+ℤ◌, neg_ℤ, nat_abs, ◌≤ℤ◌, refl, ap, ⊎_elim, mul-suc, add-one, arith}
use borrow.Author.Differences.{ints}
use Rattle.std.proofs.lemmas.Bool.{cases_eq, cases_lt, eq-eqb, ne_eqb}
use Rattle.pools.specs.Sharing.{before}
use Rattle.hourfile.specs.Hours.{sum_below}

pub sum_more : (f : ℕ → ℤ) (n : ℕ) → sum_below f (n + 1) ≡ sum_below f n +ℤ f n
unfolding sum_below
sum_more f n = rw add-one

-- equal parts have equal sums
pub sum_same : (f g : ℕ → ℤ) (n : ℕ) → ((k : ℕ) → k < n → f k ≡ g k) → sum_below f n ≡ sum_below g n
unfolding sum_below
sum_same f g zero each = refl
sum_same f g (suc n) each = rw (sum_same f g n (λ k h. each k (omega arith)), each n (omega arith))

pub sum_plus : (f g : ℕ → ℤ) (n : ℕ) → sum_below (λ k. f k +ℤ g k) n ≡ sum_below f n +ℤ sum_below g n
unfolding sum_below
sum_plus f g zero = refl
sum_plus f g (suc n) = let front = sum_plus f g n in omega (arith, ints)

pub sum_negative : (f : ℕ → ℤ) (n : ℕ) → sum_below (λ k. neg_ℤ (f k)) n ≡ neg_ℤ (sum_below f n)
unfolding sum_below
sum_negative f zero = refl
sum_negative f (suc n) = let front = sum_negative f n in omega (arith, ints)

pub sum_within : (f : ℕ → ℤ) (m n : ℕ) → ((k : ℕ) → k < n → nat_abs (f k) ≤ m) → nat_abs (sum_below f n) ≤ m * n
unfolding sum_below
sum_within f m zero each = omega arith
sum_within f m (suc n) each =
    let front = sum_within f m n (λ k h. each k (omega arith)) in
    let here = each n (omega arith) in
    rw mul-suc (omega (arith, ints))

pub sum_sound : (f : ℕ → ℤ) (n : ℕ) → ((k : ℕ) → k < n → pos 0 ≤ℤ f k) → pos 0 ≤ℤ sum_below f n
unfolding sum_below
sum_sound f zero each = omega (arith, ints)
sum_sound f (suc n) each =
    let front = sum_sound f n (λ k h. each k (omega arith)) in
    let here = each n (omega arith) in
    omega (arith, ints)

-- a sum of three is at most the sums of their sizes
pub sum_sizes : (f g h : ℕ → ℤ) (n : ℕ)
    → nat_abs (sum_below (λ k. f k +ℤ g k +ℤ h k) n) ≤ before (λ k. nat_abs (f k)) n + before (λ k. nat_abs (g k)) n + before (λ k. nat_abs (h k)) n
unfolding before sum_below
sum_sizes f g h zero = omega arith
sum_sizes f g h (suc n) = let front = sum_sizes f g h n in omega (arith, ints)

-- ---- sums of natural numbers
pub before_more : (f : ℕ → ℕ) (n : ℕ) → before f (n + 1) ≡ before f n + f n
unfolding before
before_more f n = rw add-one

pub before_most : (f : ℕ → ℕ) (m n : ℕ) → ((k : ℕ) → k < n → f k ≤ m) → before f n ≤ m * n
unfolding before
before_most f m zero each = omega arith
before_most f m (suc n) each =
    let front = before_most f m n (λ k h. each k (omega arith)) in
    let here = each n (omega arith) in
    rw mul-suc (omega arith)

pub before_le : (f : ℕ → ℕ) (m n : ℕ) → m ≤ n → before f m ≤ before f n
unfolding before
before_le f m zero h = let e : m ≡ zero = omega arith in rw e (omega arith)
before_le f m (suc n) h =
    ⊎_elim
    (λ (l : m < suc n). let front = before_le f m n (omega arith) in omega arith)
    (λ (l : suc n ≤ m). let e : m ≡ suc n = omega arith in rw e (omega arith))
    (cases_lt m (suc n))

-- where each part is at most a rounded twelve-thousandth of another
pub before_rounded : (f g : ℕ → ℕ) (n : ℕ) → ((k : ℕ) → k < n → 12000 * f k ≤ g k + 6000) → 12000 * before f n ≤ before g n + 6000 * n
unfolding before
before_rounded f g zero each = omega arith
before_rounded f g (suc n) each =
    let front = before_rounded f g n (λ k l. each k (omega arith)) in
    let here = each n (omega arith) in
    omega arith

-- what grows at one place only, grows by no more in all
pub grows_once : (f g : ℕ → ℕ) (p m n : ℕ) → ((k : ℕ) → k < n → f k ≤ g k + cond (eqb p k) m 0) → (before f n ≤ before g n + m) × (n ≤ p → before f n ≤ before g n)
unfolding before
grows_once f g p m zero each = (omega arith, λ h. omega arith)
grows_once f g p m (suc n) each =
    let front = grows_once f g p m n (λ k h. each k (omega arith)) in
    let here = each n (omega arith) in
    ⊎_elim
    (λ e. let there = ap (λ b. cond b m 0) (eq-eqb p n e) in let rest = front.1 (omega arith) in (omega arith, λ h. absurd (omega arith)))
    (λ ne. let there = ap (λ b. cond b m 0) (ne_eqb p n ne) in let rest = front.0 in (omega arith, λ h. let low = front.1 (omega arith) in omega arith))
    (cases_eq p n)
