-- What the reading of a part of a record answers.
use Rattle.std.specs.Prelude.{◌≡◌, ℕ, ◌+◌, ◌*◌, ◌<◌, true, List, map, length, pos, ◌≤ℤ◌, Some, None, Option, slice_index_or, unsigned_abs}
use Rattle.std.specs.List.{range_with_len}
use Rattle.blocks.specs.Kinds.{side_fits}
use Rattle.blocks.specs.Records.{Opened}
use Rattle.blocks.specs.Verdicts.{energy_kind, most_energy_rows, rows_from}
use Rattle.blocks.specs.Words.{byte_at, word_at}
use Rattle.blocks.specs.declared.kind.Kind.TheVariants.{Resource, Virtual}
use Rattle.ladders.specs.Ladder.{Rows}
use Rattle.ladders.specs.Rows.{AllGood}
use Rattle.ladders.specs.declared.rows.LadderKind.{LadderKind}
use Rattle.ladders.specs.declared.rows.LadderKind.TheVariants.{Bid, Offer, Reserve}
use Rattle.ladders.specs.declared.rows.Row.{Row}
use Rattle.market.specs.Figures.{InRange}
use Rattle.market.specs.Sides.{ladder_of, trade_of}
use Rattle.market.specs.declared.range.Figure.{Figure}
use Rattle.market.specs.declared.range.Figure.TheVariants.{Price, ReservePrice, Quantity, Reading}
use Rattle.market.specs.declared.side.Side.{Side}
use Rattle.market.specs.declared.trade.Trade.{Trade}
use Rattle.records.specs.Contents.{ladder_at, trade_at}
use Rattle.records.specs.declared.rows.RowPlace.{RowPlace}

-- The value where the record has it, else nothing.
abbrev pub Reads : {A B : Type 0} → (A → B) → Type 0 → B → Option A → Type 0
Reads meaning Has value (Some a) = Has × (meaning a ≡ value)
Reads meaning Has value None = Has → ⊥

-- ---- places
-- A reading finds what stands at each of so many places.
pub record AllFound {A : Type 0} (Finds : ℕ → Option A → Type 0) (count : ℕ) (places : List A) : Type 0 where
  pub long : length places ≡ count
  pub each : (t : ℕ) (d : A) → t < count → Finds t (Some (slice_index_or places t d))

-- A reading finds nothing for one of so many places.
pub record Missed {A : Type 0} (Finds : ℕ → Option A → Type 0) (count : ℕ) : Type 0 where
  pub place : ℕ
  pub inside : place < count
  pub nothing : Finds place None

-- ---- figures
-- The part is a whole block.
abbrev pub Whole : Opened → Type 0
Whole rec = length rec.part ≡ 512

-- A word holds a figure.
abbrev pub Holds : Figure → Opened → ℕ → Type 0
Holds figure rec i = Whole rec × InRange figure (word_at rec.part i)

-- ---- intervals
-- The words of an interval hold its figures; those of all intervals do.
abbrev pub IntervalHolds : Opened → ℕ → Type 0
IntervalHolds rec t = Holds Price rec (8 + 5 * t) × Holds Quantity rec (9 + 5 * t) × Holds Reading rec (10 + 5 * t)

abbrev pub ReserveIntervalHolds : Opened → ℕ → Type 0
ReserveIntervalHolds rec t = Holds ReservePrice rec (11 + 5 * t) × Holds Quantity rec (12 + 5 * t)

-- The words of the zone's real-time prices hold prices.
abbrev pub ZonePriceHolds : Opened → ℕ → Type 0
ZonePriceHolds rec t = Holds Price rec (3 + t)

abbrev pub AllIntervals : (ℕ → Type 0) → Type 0
AllIntervals Held = (t : ℕ) → t < 12 → Held t

-- What all intervals have, where each has it.
abbrev pub ReadsTwelve : {A B : Type 0} → (A → B) → (ℕ → Type 0) → (ℕ → B) → Option (List A) → Type 0
ReadsTwelve meaning Held value_at all = Reads (map meaning) (AllIntervals Held) (map value_at (range_with_len 0 12)) all

-- ---- rows
-- A word holds a number of rows, up to the most.
abbrev pub Counts : ℕ → Opened → ℕ → Type 0
Counts most rec i = Whole rec × (pos 0 ≤ℤ word_at rec.part i) × (word_at rec.part i ≤ℤ pos most)

-- Where the rows of each kind of ladder stand. How many energy rows there may be depends on the side.
abbrev pub energy_place : ℕ → RowPlace
energy_place most = record { counted = 6; from = 68; most = most }

abbrev pub place_of : LadderKind → RowPlace
place_of Offer = energy_place 20
place_of Bid = energy_place 20
place_of Reserve = record { counted = 7; from = 108; most = 5 }

-- The rows of a ladder, and that they are right.
abbrev pub rows_at : RowPlace → List ℕ → List Row
rows_at place part = rows_from part place.from (unsigned_abs (word_at part place.counted))

abbrev pub RowsHold : RowPlace → LadderKind → Opened → Type 0
RowsHold place kind rec = Counts place.most rec place.counted × AllGood kind (rows_at place rec.part)

-- ---- sides
-- The side letter is one of a resource, and the energy rows are right for it.
abbrev pub SideHolds : Opened → Type 0
SideHolds rec =
    (side_fits Resource (byte_at rec.part 1) ≡ true)
    × RowsHold (energy_place (most_energy_rows (byte_at rec.part 1))) (energy_kind (byte_at rec.part 1)) rec

-- What a side means, and what the side of a resource is to mean.
abbrev pub side_meaning : Side → Trade × Rows
side_meaning side = (trade_of side, ladder_of side)

abbrev pub side_at : List ℕ → Trade × Rows
side_at part = (trade_at part, ladder_at part)

-- The side letter is one of a virtual position.
abbrev pub VirtualSideHolds : Opened → Type 0
VirtualSideHolds rec = Whole rec × (side_fits Virtual (byte_at rec.part 1) ≡ true)

-- ---- reserve
-- The reserve figures, rows and intervals are right.
abbrev pub ReserveHolds : Opened → Type 0
ReserveHolds rec = Holds ReservePrice rec 4 × Holds Quantity rec 5 × RowsHold (place_of Reserve) Reserve rec × AllIntervals (ReserveIntervalHolds rec)

-- ---- what a record means
pub record PositionHeld (rec : Opened) : Type 0 where
  pub side : SideHolds rec
  pub price : Holds Price rec 2
  pub quantity : Holds Quantity rec 3
  pub intervals : AllIntervals (IntervalHolds rec)
  pub reserve : ReserveHolds rec

abbrev pub VirtualHeld : Opened → Type 0
VirtualHeld rec = VirtualSideHolds rec × Holds Quantity rec 2

abbrev pub ZoneHeld : Opened → Type 0
ZoneHeld rec = Holds Price rec 2 × AllIntervals (ZonePriceHolds rec)
