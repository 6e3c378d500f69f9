-- What a ladder means, and what a quantity earns on it.
use Rattle.std.specs.Prelude.{◌≡◌, ℕ, zero, suc, ◌-◌, ◌*◌, ◌<◌, ◌≤◌, min, cond, ℤ, pos, negsuc, ◌+ℤ◌, ◌-ℤ◌, ◌*ℤ◌, ◌≤ℤ◌, ◌<ℤ◌, int_le, unsigned_abs}
use Rattle.std.specs.Int.{int_max, int_min}

-- A ladder means rows, counted from 0: each has an end in tenths of a MW and, at every price in cents per MWh, a gain.
pub record Rows : Type 0 where
  pub count : ℕ
  pub end : ℕ → ℕ
  pub gain : ℤ → ℕ → ℤ

-- A price beyond a bound counts as the nearer bound.
abbrev pub counted_price : ℤ → ℤ
counted_price price = int_max (negsuc 199999) (int_min price (pos 200000))

-- A row starts where the row before it ends, and the first one at 0. At the number of rows this is the last end.
abbrev pub start : Rows → ℕ → ℕ
start rows zero = 0
start rows (suc row) = rows.end row

abbrev pub last_end : Rows → ℕ
last_end rows = start rows rows.count

-- What every ladder shows.
pub record Lawful (rows : Rows) : Type 0 where
  -- ends rise strictly from above 0 to at most 1,000
  pub rising : (row : ℕ) → row < rows.count → start rows row < rows.end row
  pub short : (row : ℕ) → row < rows.count → rows.end row ≤ 1000
  -- at any one price no gain exceeds the gain of the row before
  pub falling : (price : ℤ) (row : ℕ) → suc row < rows.count → rows.gain price (suc row) ≤ℤ rows.gain price row
  pub bounded : (price : ℤ) (row : ℕ) → unsigned_abs (rows.gain price row) ≤ 400000
  pub clamped : (price : ℤ) (row : ℕ) → rows.gain price row ≡ rows.gain (counted_price price) row
  -- a row that isn't there
  pub no_end : (row : ℕ) → rows.count ≤ row → rows.end row ≡ 0
  pub no_gain : (price : ℤ) (row : ℕ) → rows.count ≤ row → rows.gain price row ≡ pos 0

-- The part of a quantity that lies inside a row. Quantities are in twelfths of a kWh in one interval, where an end of Q is 100 × Q.
abbrev pub inside : Rows → ℕ → ℕ → ℕ
inside rows row quantity = min quantity (100 * rows.end row) - min quantity (100 * start rows row)

-- What a quantity earns: the gain of each row times the part of the quantity inside that row, summed over the first rows, and
-- over all of them.
unfoldable pub earned : Rows → ℤ → ℕ → ℕ → ℤ
earned rows price quantity zero = pos 0
earned rows price quantity (suc row) = earned rows price quantity row +ℤ rows.gain price row *ℤ pos (inside rows row quantity)

abbrev pub profit : Rows → ℤ → ℕ → ℤ
profit rows price quantity = earned rows price quantity rows.count

-- The end of the last row with gain 0 or more, of the first rows and of all of them; 0 if there is none.
unfoldable pub point_among : Rows → ℤ → ℕ → ℕ
point_among rows price zero = 0
point_among rows price (suc row) = cond (int_le (pos 0) (rows.gain price row)) (rows.end row) (point_among rows price row)

abbrev pub economic_point : Rows → ℤ → ℕ
economic_point rows price = point_among rows price rows.count

-- The profit at the economic point.
abbrev pub best_profit : Rows → ℤ → ℤ
best_profit rows price = profit rows price (100 * economic_point rows price)

-- The lost profit of a schedule in tenths of a MW.
abbrev pub lost_profit : Rows → ℤ → ℕ → ℤ
lost_profit rows price schedule = best_profit rows price -ℤ profit rows price (100 * schedule)

-- The law of profit: nothing earns nothing, each twelfth of a kWh more earns the gain of the row that it lies in, and what lies past
-- the last end earns nothing more.
pub record ProfitLaw (rows : Rows) (price : ℤ) : Type 0 where
  pub nothing : profit rows price 0 ≡ pos 0
  pub one_more : (row quantity : ℕ) → row < rows.count → 100 * start rows row ≤ quantity → quantity < 100 * rows.end row
      → profit rows price (suc quantity) ≡ profit rows price quantity +ℤ rows.gain price row
  pub past : (quantity : ℕ) → 100 * last_end rows ≤ quantity → profit rows price quantity ≡ profit rows price (100 * last_end rows)

-- The law of the economic point: no quantity earns more than it, it is the end of the last row with gain 0 or more, and it is 0 if
-- there is no such row.
pub record PointLaw (rows : Rows) (price : ℤ) (point : ℕ) : Type 0 where
  pub best : (quantity : ℕ) → profit rows price quantity ≤ℤ profit rows price (100 * point)
  pub last : (row : ℕ) → row < rows.count → pos 0 ≤ℤ rows.gain price row
      → ((later : ℕ) → row < later → later < rows.count → rows.gain price later <ℤ pos 0)
      → point ≡ rows.end row
  pub none : ((row : ℕ) → row < rows.count → rows.gain price row <ℤ pos 0) → point ≡ 0
