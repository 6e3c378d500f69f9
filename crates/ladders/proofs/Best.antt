-- On a lawful ladder no quantity earns more than the economic point.
use Rattle.std.proofs.Common.{◌≡◌, ℕ, zero, suc, ◌*◌, ◌<◌, ◌≤◌, Bool, true, false, ℤ, pos, negsuc, ◌+ℤ◌, ◌*ℤ◌, ◌≤ℤ◌, ◌<ℤ◌, Some, None, Option, MatchOption, sym, refl, ◌∙◌, ⊎_elim, arith}
use lib.Signed.{le_z}
use borrow.Author.Differences.{ints}
use Rattle.std.specs.List.{find}
use Rattle.std.specs.Option.{option_map}
use Rattle.std.proofs.lemmas.Nat.{mul-le}
use Rattle.std.proofs.lemmas.Bool.{cases_lt, cases_Bool}
use Rattle.ladders.specs.Ladder.{Rows, Lawful, PointLaw, start, inside, earned, point_among, economic_point}
use Rattle.ladders.proofs.Downward.{downward}
use Rattle.ladders.proofs.Profits.{earned_none, earned_suc, ends_rise, last_short}

-- ---- the point of one row more
pub point_none : (rows : Rows) (price : ℤ) → point_among rows price 0 ≡ 0
unfolding point_among
point_none rows price = refl

point_yes : (rows : Rows) (price : ℤ) (row : ℕ) → le_z (pos 0) (rows.gain price row) ≡ true → point_among rows price (suc row) ≡ rows.end row
unfolding point_among
point_yes rows price row h = rw h

point_no : (rows : Rows) (price : ℤ) (row : ℕ) → le_z (pos 0) (rows.gain price row) ≡ false → point_among rows price (suc row) ≡ point_among rows price row
unfolding point_among
point_no rows price row h = rw h

found_here : (rows : Rows) (n : ℕ) (row : Option ℕ) (point : ℕ) → option_map (λ k. k) row ≡ Some n → MatchOption row (point ≡ 0) (λ k. point ≡ rows.end k) → point ≡ rows.end n
found_here rows n None point e is = absurd (cc)
found_here rows n (Some k) point e is = cc

-- the point by the last row that gains 0 or more, which a search from the back finds first
pub point_found : (rows : Rows) (price : ℤ) (n : ℕ) (row : Option ℕ) (point : ℕ) → option_map (λ k. k) row ≡ find (λ k. le_z (pos 0) (rows.gain price k)) (downward n)
    → MatchOption row (point ≡ 0) (λ k. point ≡ rows.end k) → point ≡ point_among rows price n
point_found rows price zero None point e is = is ∙ sym (point_none rows price)
point_found rows price zero (Some k) point e is = absurd (cc)
point_found rows price (suc n) row point e is =
    ⊎_elim
    (λ (yes' : le_z (pos 0) (rows.gain price n) ≡ true). found_here rows n row point (rw yes' at e) is ∙ sym (point_yes rows price n yes'))
    (λ (no' : le_z (pos 0) (rows.gain price n) ≡ false). point_found rows price n row point (rw no' at e) is ∙ sym (point_no rows price n no'))
    (cases_Bool (le_z (pos 0) (rows.gain price n)))

-- ---- more of what gains is better, and less of what loses
more_is_better : (gain : ℤ) (m n : ℕ) → le_z (pos 0) gain ≡ true → m ≤ n → (gain *ℤ pos m) ≤ℤ (gain *ℤ pos n)
more_is_better (pos a) m n gains h = omega (arith, ints, mul-le a m a n (omega arith) h)
more_is_better (negsuc a) m n gains h = absurd (omega (arith, ints))

less_is_better : (gain : ℤ) (m n : ℕ) → le_z (pos 0) gain ≡ false → m ≤ n → (gain *ℤ pos n) ≤ℤ (gain *ℤ pos m)
less_is_better (pos a) m n loses h = absurd (omega (arith, ints))
less_is_better (negsuc a) m n loses h = omega (arith, ints, mul-le (suc a) m (suc a) n (omega arith) h)

sums_ordered : (a b c d : ℤ) → a ≤ℤ b → c ≤ℤ d → (a +ℤ c) ≤ℤ (b +ℤ d)
sums_ordered a b c d h k = omega (arith, ints)

module _ {rows : Rows} (lawful : Lawful rows) (price : ℤ) where
  -- the row gains 0 or more
  abbrev pays : ℕ → Bool
  pays row = le_z (pos 0) (rows.gain price row)

  abbrev point : ℕ → ℕ
  point n = point_among rows price n

  point_within : (n : ℕ) → n ≤ rows.count → point n ≤ start rows n
  point_within zero h = rw (point_none rows price) (omega arith)
  point_within (suc m) h =
      ⊎_elim
      (λ yes'. rw (point_yes rows price m yes') (omega arith))
      (λ no'. rw (point_no rows price m no') (omega (arith, point_within m (omega arith), lawful.rising m h)))
      (cases_Bool (pays m))

  -- once a row loses, every later one does
  losing : (row n : ℕ) → row ≤ n → n < rows.count → pays row ≡ false → pays n ≡ false
  losing row zero h k loses = let e : row ≡ zero = omega arith in rw e at loses
  losing row (suc m) h k loses =
      ⊎_elim
      (λ (l : row < suc m).
      let before : pays m ≡ false = losing row m (omega arith) (omega arith) loses in
      let fall = lawful.falling price m k in
      grind (arith, ints))
      (λ (l : suc m ≤ row). let e : row ≡ suc m = omega arith in rw e at loses)
      (cases_lt row (suc m))

  -- the point takes in each row that pays, and no row that loses
  point_takes : (row n : ℕ) → row < n → n ≤ rows.count → pays row ≡ true → rows.end row ≤ point n
  point_takes row zero h k gain = absurd (omega arith)
  point_takes row (suc m) h k gain =
      ⊎_elim
      (λ yes'. rw (point_yes rows price m yes') (ends_rise lawful price row (suc m) h k))
      (λ no'. rw (point_no rows price m no')
      (⊎_elim
      (λ (l : row < m). point_takes row m l (omega arith) gain)
      (λ (l : m ≤ row). let same : row ≡ m = omega arith in let f = rw same at gain in absurd (omega (arith, ints)))
      (cases_lt row m)))
      (cases_Bool (pays m))

  point_leaves : (row n : ℕ) → row < n → n ≤ rows.count → pays row ≡ false → point n ≤ start rows row
  point_leaves row zero h k loses = absurd (omega arith)
  point_leaves row (suc m) h k loses =
      rw (point_no rows price m (losing row m (omega arith) k loses))
      (⊎_elim
      (λ (l : row < m). point_leaves row m l (omega arith) loses)
      (λ (l : m ≤ row). let same : row ≡ m = omega arith in rw same (point_within m (omega arith)))
      (cases_lt row m))

  abbrev at_point : ℕ
  at_point = 100 * economic_point rows price

  row_best : (row quantity : ℕ) → row < rows.count → (rows.gain price row *ℤ pos (inside rows row quantity)) ≤ℤ (rows.gain price row *ℤ pos (inside rows row at_point))
  row_best row quantity h =
      let rise = lawful.rising row h in
      ⊎_elim
      (λ (gain : pays row ≡ true). let takes = point_takes row rows.count h (omega arith) gain in more_is_better (rows.gain price row) _ _ gain (omega arith))
      (λ (loses : pays row ≡ false). let leaves = point_leaves row rows.count h (omega arith) loses in less_is_better (rows.gain price row) _ _ loses (omega arith))
      (cases_Bool (pays row))

  rows_best : (n quantity : ℕ) → n ≤ rows.count → earned rows price quantity n ≤ℤ earned rows price at_point n
  rows_best zero quantity h = rw (earned_none rows price quantity, earned_none rows price at_point) (omega (arith, ints))
  rows_best (suc m) quantity h =
      rw (earned_suc rows price quantity m, earned_suc rows price at_point m)
      (sums_ordered _ _ _ _ (rows_best m quantity (omega arith)) (row_best m quantity h))

  pub point_short : economic_point rows price ≤ 1000
  point_short = omega (arith, point_within rows.count (omega arith), last_short lawful price rows.count (omega arith))

  -- the point among the first rows, up to one that pays with none after it that does
  last_pays : (row n : ℕ) → row < n → n ≤ rows.count → pos 0 ≤ℤ rows.gain price row → ((later : ℕ) → row < later → later < rows.count → rows.gain price later <ℤ pos 0) → point n ≡ rows.end row
  last_pays row zero h k gain lose = absurd (omega arith)
  last_pays row (suc m) h k gain lose =
      ⊎_elim
      (λ (l : row < m). let loses : pays m ≡ false = let f = lose m l k in grind (arith, ints) in point_no rows price m loses ∙ last_pays row m l (omega arith) gain lose)
      (λ (l : m ≤ row). let e : m ≡ row = omega arith in let yes' : pays row ≡ true = grind (arith, ints) in rw e (point_yes rows price row yes'))
      (cases_lt row m)

  none_pays : (n : ℕ) → n ≤ rows.count → ((row : ℕ) → row < rows.count → rows.gain price row <ℤ pos 0) → point n ≡ 0
  none_pays zero h lose = point_none rows price
  none_pays (suc m) h lose =
      let loses : pays m ≡ false = let f = lose m h in grind (arith, ints) in
      point_no rows price m loses ∙ none_pays m (omega arith) lose

  pub point_law : PointLaw rows price (economic_point rows price)
  point_law = record {
    best = λ quantity. rows_best rows.count quantity (omega arith);
    last = λ row there gain lose. last_pays row rows.count there (omega arith) gain lose;
    none = none_pays rows.count (omega arith);
  }
