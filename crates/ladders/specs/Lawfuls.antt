-- Good rows make a lawful ladder. These lemmas stand here since the law of the ladders of the code names the last one.
use Rattle.std.proofs.Common.{◌≡◌, ℕ, zero, suc, ◌<◌, ◌≤◌, true, cond, ltb, List, length, ℤ, pos, negsuc, ◌-ℤ◌, nat_abs, ◌≤ℤ◌, ◌<ℤ◌, ap, ⊎_elim, arith}
use borrow.Author.Differences.{ints}
use Rattle.std.proofs.lemmas.List.{get_or_past}
use Rattle.std.proofs.lemmas.Int.{clamps}
use Rattle.std.proofs.lemmas.Bool.{cases_lt, lt-ltb, le-ltb}
use Rattle.ladders.specs.Ladder.{Rows, Lawful, counted_price, start}
use Rattle.ladders.specs.Rows.{AllGood, row_at, row_before, no_row, in_step, follows, lowest_price, gained, row_ladder}
use Rattle.ladders.specs.declared.rows.Row.{Row}
use Rattle.ladders.specs.declared.rows.LadderKind.{LadderKind}
use Rattle.ladders.specs.declared.rows.LadderKind.TheVariants.{Offer, Bid, Reserve}

counted_price_twice : (p : ℤ) → counted_price p ≡ counted_price (counted_price p)
counted_price_twice p = omega (arith, ints, clamps)

lowest_is : (kind : LadderKind) → negsuc 199999 ≤ℤ lowest_price kind
lowest_is Offer = omega (arith, ints)
lowest_is Bid = omega (arith, ints)
lowest_is Reserve = omega (arith, ints)

pub gain_within : (p q : ℤ) → nat_abs q ≤ 200000 → (nat_abs (counted_price p -ℤ q) ≤ 400000) × (nat_abs (q -ℤ counted_price p) ≤ 400000)
gain_within p q h = omega (arith, ints, clamps)

gained_within : (kind : LadderKind) (p q : ℤ) → nat_abs q ≤ 200000 → nat_abs (gained kind (counted_price p) q) ≤ 400000
gained_within Offer p q h = (gain_within p q h).0
gained_within Bid p q h = (gain_within p q h).1
gained_within Reserve p q h = (gain_within p q h).0

gained_falls : (kind : LadderKind) (p before next : ℤ) → follows kind before next ≡ true → gained kind p next ≤ℤ gained kind p before
gained_falls Offer p before next h = grind (arith, ints)
gained_falls Bid p before next h = grind (arith, ints)
gained_falls Reserve p before next h = grind (arith, ints)

module _ (kind : LadderKind) (rows : List Row) (all : AllGood kind rows) where
  abbrev price : ℕ → ℤ
  price row = (row_at rows row).price

  abbrev end : ℕ → ℤ
  end row = (row_at rows row).end

  -- the parts of a good row
  ranged : (row : ℕ) → row < length rows → (lowest_price kind ≤ℤ price row) × (price row ≤ℤ pos 200000) × (end row ≤ℤ pos 1000)
  ranged row h = let g = all row h in (grind (arith, ints), grind (arith, ints), grind (arith, ints))

  pub price_within : (row : ℕ) → row < length rows → nat_abs (price row) ≤ 200000
  price_within row h = let r = ranged row h in omega (arith, ints, lowest_is kind, r.0, r.1)

  stepped : (row : ℕ) → row < length rows → in_step kind (row_before rows row) (row_at rows row) ≡ true
  stepped row h = let g = all row h in grind arith

  risen : (row : ℕ) → suc row < length rows → (end row <ℤ end (suc row)) × (follows kind (price row) (price (suc row)) ≡ true)
  risen row h = let g = all (suc row) h in (grind (arith, ints), grind (arith, ints))

  positive : (row : ℕ) → row < length rows → pos 0 <ℤ end row
  positive zero h = let g = all zero h in grind (arith, ints)
  positive (suc row) h = let before = positive row (omega arith) in let r = (risen row h).0 in omega (arith, ints)

  -- ---- whatever the gain is
  module _ (gain : ℤ → ℕ → ℤ) where
    abbrev ladder : Rows
    ladder = record { count = length rows; end = λ row. nat_abs (row_at rows row).end; gain = gain }

    rising : (row : ℕ) → row < length rows → start ladder row < nat_abs (end row)
    rising zero h = let p = positive zero h in omega (arith, ints)
    rising (suc row) h = let p = positive row (omega arith) in let r = (risen row h).0 in omega (arith, ints)

    short : (row : ℕ) → row < length rows → nat_abs (end row) ≤ 1000
    short row h = let p = positive row h in let r = (ranged row h).2 in omega (arith, ints)

    no_end : (row : ℕ) → length rows ≤ row → nat_abs (end row) ≡ 0
    no_end row h = ap (λ (r : Row). nat_abs r.end) (get_or_past rows row no_row h)

    -- what is left to show: that the gain falls from row to row, is bounded, counts a far price as its bound, and is none past the rows
    lawful : ((p : ℤ) (row : ℕ) → suc row < length rows → gain p (suc row) ≤ℤ gain p row)
        → ((p : ℤ) (row : ℕ) → nat_abs (gain p row) ≤ 400000)
        → ((p : ℤ) (row : ℕ) → gain p row ≡ gain (counted_price p) row)
        → ((p : ℤ) (row : ℕ) → length rows ≤ row → gain p row ≡ pos 0)
        → Lawful ladder
    lawful falling bounded clamped no_gain = record {
      rising = rising;
      short = short;
      falling = falling;
      bounded = bounded;
      clamped = clamped;
      no_end = no_end;
      no_gain = no_gain;
    }

-- a gain that is there for the rows there are, and none past them
module _ (there : ℤ → ℕ → ℤ) (n : ℕ) where
  abbrev gain_of : ℤ → ℕ → ℤ
  gain_of p row = cond (ltb row n) (there p row) (pos 0)

  gain_there : (p : ℤ) (row : ℕ) → row < n → gain_of p row ≡ there p row
  gain_there p row h = rw (lt-ltb row n h)

  gain_past : (p : ℤ) (row : ℕ) → n ≤ row → gain_of p row ≡ pos 0
  gain_past p row h = rw (le-ltb row n h)

  gain_bounded : ((p : ℤ) (row : ℕ) → row < n → nat_abs (there p row) ≤ 400000) → (p : ℤ) (row : ℕ) → nat_abs (gain_of p row) ≤ 400000
  gain_bounded small p row =
      ⊎_elim
      (λ (h : row < n). rw (lt-ltb row n h) (small p row h))
      (λ (h : n ≤ row). rw (le-ltb row n h) (omega arith))
      (cases_lt row n)

  gain_falls : ((p : ℤ) (row : ℕ) → suc row < n → there p (suc row) ≤ℤ there p row) → (p : ℤ) (row : ℕ) → suc row < n → gain_of p (suc row) ≤ℤ gain_of p row
  gain_falls falls p row h = rw (gain_there p (suc row) h, gain_there p row (omega arith)) (falls p row h)

pub row_lawful : (kind : LadderKind) (rows : List Row) → AllGood kind rows → Lawful (row_ladder kind rows)
row_lawful kind rows all =
    let there : ℤ → ℕ → ℤ = λ p row. gained kind (counted_price p) (row_at rows row).price in
    lawful kind rows all (gain_of there (length rows))
    (gain_falls there (length rows) (λ p row h. gained_falls kind (counted_price p) _ _ (risen kind rows all row h).1))
    (gain_bounded there (length rows) (λ p row h. gained_within kind p _ (price_within kind rows all row h)))
    (λ p row. ap (λ q. cond (ltb row (length rows)) (gained kind q (row_at rows row).price) (pos 0)) (counted_price_twice p))
    (gain_past there (length rows))
