-- What holds of the profit on a lawful ladder.
use Rattle.std.proofs.Common.{◌≡◌, ℕ, zero, suc, ◌+◌, ◌-◌, ◌*◌, ◌<◌, ◌≤◌, min, ℤ, pos, ◌+ℤ◌, ◌-ℤ◌, ◌*ℤ◌, nat_abs, sym, refl, ◌∙◌, ⊎_elim, add-one, arith}
use borrow.Author.Differences.{ints}
use Rattle.std.proofs.lemmas.Bool.{cases_lt}
use Rattle.ladders.specs.Ladder.{Rows, Lawful, ProfitLaw, start, last_end, inside, earned, profit}
use Rattle.ladders.proofs.Integers.{times_suc, times_difference, product_within, sum_within, swap_difference, regroup, no_difference}

-- ---- a turn of the loop
pub earned_none : (rows : Rows) (price : ℤ) (quantity : ℕ) → earned rows price quantity 0 ≡ pos 0
unfolding earned
earned_none rows price quantity = refl

pub earned_suc : (rows : Rows) (price : ℤ) (quantity row : ℕ) → earned rows price quantity (suc row) ≡ earned rows price quantity row +ℤ rows.gain price row *ℤ pos (inside rows row quantity)
unfolding earned
earned_suc rows price quantity row = refl

pub earned_more : (rows : Rows) (price : ℤ) (quantity row : ℕ) → earned rows price quantity (row + 1) ≡ earned rows price quantity row +ℤ rows.gain price row *ℤ pos (inside rows row quantity)
earned_more rows price quantity row = rw add-one (earned_suc rows price quantity row)

pub start_more : (rows : Rows) (row : ℕ) → start rows (row + 1) ≡ rows.end row
start_more rows row = rw add-one

-- ---- the laws
module _ {rows : Rows} (lawful : Lawful rows) (price : ℤ) where
  abbrev gain : ℕ → ℤ
  gain row = rows.gain price row

  -- an end is at most the start of each later row
  pub ends_rise : (row n : ℕ) → row < n → n ≤ rows.count → rows.end row ≤ start rows n
  ends_rise row zero h k = absurd (omega arith)
  ends_rise row (suc m) h k =
      ⊎_elim
      (λ (l : row < m). omega (arith, ends_rise row m l (omega arith), lawful.rising m k))
      (λ (l : m ≤ row). let e : row ≡ m = omega arith in rw e (omega arith))
      (cases_lt row m)

  -- between two quantities the profit changes by at most 400,000 a twelfth of a kWh, and past the rows not at all
  earned_gap : (n x y : ℕ) → n ≤ rows.count → y ≤ x → nat_abs (earned rows price x n -ℤ earned rows price y n) ≤ 400000 * (min x (100 * start rows n) - min y (100 * start rows n))
  earned_gap zero x y h l = rw (earned_none rows price x, earned_none rows price y) (omega arith)
  earned_gap (suc m) x y h l =
      let rise = lawful.rising m h in
      let fewer : inside rows m y ≤ inside rows m x = omega arith in
      let before = earned_gap m x y (omega arith) l in
      let here = product_within 400000 (inside rows m x - inside rows m y) (gain m) (pos (inside rows m x - inside rows m y)) (lawful.bounded price m) (omega arith) in
      rw (earned_suc rows price x m, earned_suc rows price y m, regroup, times_difference (gain m) (inside rows m x) (inside rows m y) fewer)
      (omega (arith, sum_within _ _ (earned rows price x m -ℤ earned rows price y m) (gain m *ℤ pos (inside rows m x - inside rows m y)) before here))

  pub last_short : (n : ℕ) → n ≤ rows.count → start rows n ≤ 1000
  last_short zero h = omega arith
  last_short (suc m) h = lawful.short m h

  pub profit_gap : (x y : ℕ) → nat_abs (profit rows price x -ℤ profit rows price y) ≤ 40000000000
  profit_gap x y =
      let short = last_short rows.count (omega arith) in
      ⊎_elim
      (λ (l : x < y). rw swap_difference (omega (arith, earned_gap rows.count y x (omega arith) (omega arith))))
      (λ (l : y ≤ x). omega (arith, earned_gap rows.count x y (omega arith) l))
      (cases_lt x y)

  nothing : (n : ℕ) → earned rows price 0 n ≡ pos 0
  nothing zero = earned_none rows price 0
  nothing (suc m) =
      let none : inside rows m 0 ≡ 0 = omega arith in
      rw (earned_suc rows price 0 m, nothing m, none) (omega (arith, ints))

  -- one twelfth more, inside a row: the rows up to it earn as before, the row its gain more, and the others nothing
  module _ (row quantity : ℕ) (there : row < rows.count) (from : 100 * start rows row ≤ quantity) (to : quantity < 100 * rows.end row) where
    below : (n : ℕ) → n ≤ row → earned rows price (suc quantity) n ≡ earned rows price quantity n
    below zero h = earned_none rows price (suc quantity) ∙ sym (earned_none rows price quantity)
    below (suc m) h =
        let rise = lawful.rising m (omega arith) in
        let reach = ends_rise m row h (omega arith) in
        let same : inside rows m (suc quantity) ≡ inside rows m quantity = omega arith in
        rw (earned_suc rows price (suc quantity) m, earned_suc rows price quantity m, below m (omega arith), same)

    above : (n : ℕ) → row < n → n ≤ rows.count → earned rows price (suc quantity) n ≡ earned rows price quantity n +ℤ gain row
    above zero h k = absurd (omega arith)
    above (suc m) h k =
        rw (earned_suc rows price (suc quantity) m, earned_suc rows price quantity m)
        (⊎_elim
        (λ (l : row < m).
        let reach = ends_rise row m l (omega arith) in
        let rise = lawful.rising m k in
        let same : inside rows m (suc quantity) ≡ inside rows m quantity = omega arith in
        rw (above m l (omega arith), same) (omega (arith, ints)))
        (λ (l : m ≤ row).
        let e : m ≡ row = omega arith in
        let one : inside rows row (suc quantity) ≡ suc (inside rows row quantity) = omega arith in
        rw (e, below row (omega arith), one, times_suc) (omega (arith, ints)))
        (cases_lt row m))

  pub profit_law : ProfitLaw rows price
  profit_law = record {
    nothing = nothing rows.count;
    one_more = λ row quantity there from to. above row quantity there from to rows.count there (omega arith);
    past = λ quantity h. no_difference _ _ (omega (arith, earned_gap rows.count quantity (100 * last_end rows) (omega arith) h));
  }

  -- the size of what is earned
  pub earned_within : (n quantity : ℕ) → n ≤ rows.count → nat_abs (earned rows price quantity n) ≤ 400000 * min quantity (100 * start rows n)
  earned_within n quantity h = omega (arith, ints, nothing n, earned_gap n quantity 0 h (omega arith))
