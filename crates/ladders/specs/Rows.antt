-- The rows of offers and bids: which may stand where, and the ladder that they mean.
use Rattle.std.specs.Prelude.{◌≡◌, ℕ, zero, suc, ◌<◌, ◌≤◌, Bool, true, false, cond, ◌&&◌, List, length, ℤ, pos, negsuc, ◌-ℤ◌, Some, None, Ok, Err, Option, Result, int_le, int_lt, nat_lt, slice_index_or, unsigned_abs}
use Rattle.ladders.specs.Ladder.{Rows, counted_price}
use Rattle.ladders.specs.declared.rows.Row.{Row}
use Rattle.ladders.specs.declared.rows.LadderKind.{LadderKind}
use Rattle.ladders.specs.declared.rows.LadderKind.TheVariants.{Offer, Bid, Reserve}
use Rattle.ladders.specs.declared.rows.LadderFault.{LadderFault}
use Rattle.ladders.specs.declared.rows.LadderFault.TheVariants.{TooManyRows, BadRow}

-- ---- which rows make a ladder
-- The most rows that a ladder has, and its lowest price. The highest price is 200,000 in each.
abbrev pub most_rows : LadderKind → ℕ
most_rows Offer = 20
most_rows Bid = 20
most_rows Reserve = 5

abbrev pub lowest_price : LadderKind → ℤ
lowest_price Offer = negsuc 199999
lowest_price Bid = negsuc 199999
lowest_price Reserve = pos 0

-- A price may follow another: an offer's prices never fall, and a bid's never rise.
abbrev pub follows : LadderKind → ℤ → ℤ → Bool
follows Offer before price = int_le before price
follows Bid before price = int_le price before
follows Reserve before price = int_le before price

-- A row's figures are in their ranges.
abbrev pub in_range : LadderKind → Row → Bool
in_range kind row = int_le (lowest_price kind) row.price && int_le row.price (pos 200000) && int_le row.end (pos 1000)

-- A row may stand after another, or first: its end is past the end before it, or past 0, and its price may follow.
abbrev pub in_step : LadderKind → Option Row → Row → Bool
in_step kind None row = int_lt (pos 0) row.end
in_step kind (Some before) row = int_lt before.end row.end && follows kind before.price row.price

-- A row that isn't there has end 0.
abbrev pub no_row : Row
no_row = record { price = pos 0; end = pos 0 }

abbrev pub row_at : List Row → ℕ → Row
row_at rows row = slice_index_or rows row no_row

abbrev pub row_before : List Row → ℕ → Option Row
row_before rows zero = None
row_before rows (suc row) = Some (row_at rows row)

-- A row is good after another, or as the first one.
abbrev pub good_after : LadderKind → Option Row → Row → Bool
good_after kind before row = in_range kind row && in_step kind before row

-- A row is good where it stands.
abbrev pub good : LadderKind → List Row → ℕ → Bool
good kind rows row = good_after kind (row_before rows row) (row_at rows row)

abbrev pub AllGood : LadderKind → List Row → Type 0
AllGood kind rows = (row : ℕ) → row < length rows → good kind rows row ≡ true

-- Rows make a ladder: there are not too many, and each is good where it stands.
abbrev pub MakesLadder : LadderKind → List Row → Type 0
MakesLadder kind rows = (length rows ≤ most_rows kind) × AllGood kind rows

-- What is wrong with rows that make no ladder: there are too many, or which is the first bad one.
abbrev pub FirstFault : LadderKind → List Row → LadderFault → Type 0
FirstFault kind rows TooManyRows = most_rows kind < length rows
FirstFault kind rows (BadRow row) = (length rows ≤ most_rows kind) × (row < length rows) × (good kind rows row ≡ false)
    × ((before : ℕ) → before < row → good kind rows before ≡ true)

-- What the making of a ladder of some rows answers: the ladder of just these rows, or their first fault.
abbrev pub Made : {A : Type 0} → (A → List Row) → LadderKind → List Row → Result A LadderFault → Type 0
Made rows_of kind rows (Ok ladder) = (length rows ≤ most_rows kind) × AllGood kind rows × (rows_of ladder ≡ rows)
Made rows_of kind rows (Err fault) = FirstFault kind rows fault

-- ---- the ladder that rows mean
-- What a row gains, of its price and the price: in an offer the price less the row's price, and in a bid the other way round.
abbrev pub gained : LadderKind → ℤ → ℤ → ℤ
gained Offer price row_price = price -ℤ row_price
gained Bid price row_price = row_price -ℤ price
gained Reserve price row_price = price -ℤ row_price

-- A ladder of a kind.
abbrev pub row_ladder : LadderKind → List Row → Rows
row_ladder kind rows = record {
  count = length rows;
  end = λ row. unsigned_abs (row_at rows row).end;
  gain = λ price row. cond (nat_lt row (length rows)) (gained kind (counted_price price) (row_at rows row).price) (pos 0);
}

-- An offer gains the price less the row's price, and an offer of reserve does too.
abbrev pub offer_ladder : List Row → Rows
offer_ladder rows = row_ladder Offer rows

-- A bid gains the row's price less the price.
abbrev pub bid_ladder : List Row → Rows
bid_ladder rows = row_ladder Bid rows
