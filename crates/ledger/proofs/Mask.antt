-- The mask of settled hours, bit by bit.
use Rattle.std.proofs.Common.{◌≡◌, ℕ, ◌-◌, ◌^◌, ◌<◌, ◌≤◌, ◌≢◌, cond, eqb, inl, inr, arith}
use Rattle.std.specs.Int.{bit_at}
use Rattle.std.proofs.lemmas.Nat.{or_lt, pow_below}
use Rattle.std.proofs.lemmas.Nat.Bits.{bit_at-lt, bit_at-pow_other, bit_at-pow_same, bit_at_or}
use Rattle.std.proofs.lemmas.Bool.{cases_eq, eq-eqb, ne_eqb}
use Rattle.ledger.specs.Numbers.{marked, settled_at}

-- the mask with an hour settled: that hour is, and the others are as they were
pub marked_at : (settled hour other : ℕ) → 1 ≤ hour → 1 ≤ other → settled_at (marked settled hour) other ≡ cond (eqb other hour) 1 (settled_at settled other)
marked_at settled hour other low from =
    let both = bit_at_or settled (2 ^ (hour - 1)) (other - 1) in
    elim (cases_eq other hour) [
      | inl e ↦
          let here : bit_at (2 ^ (hour - 1)) (other - 1) ≡ 1 = rw e (bit_at-pow_same (hour - 1)) in
          let most = bit_at-lt settled (other - 1) in
          rw (eq-eqb other hour e) (omega arith)
      | inr ne ↦
          let other_bit : other - 1 ≢ hour - 1 = λ s. ne (omega arith) in
          let none = bit_at-pow_other (hour - 1) (other - 1) other_bit in
          rw (ne_eqb other hour ne) (omega arith)
    ]

-- and it has 24 bits
pub marked_low : (settled hour : ℕ) → settled < 2 ^ 24 → 1 ≤ hour → hour ≤ 24 → marked settled hour < 2 ^ 24
marked_low settled hour low from to = or_lt 24 settled (2 ^ (hour - 1)) low (pow_below (hour - 1) 24 (omega arith))
