-- What a record means to the market, in plain numbers.
use Rattle.std.specs.Prelude.{ℕ, ◌+◌, ◌*◌, Bool, true, false, cond, ◌&&◌, List, map, length, ℤ, is_ok, Some, None, Option, ◌==◌, unsigned_abs}
use Rattle.std.specs.List.{range_with_len}
use Rattle.blocks.specs.Kinds.{side_fits}
use Rattle.blocks.specs.Records.{Opened}
use Rattle.blocks.specs.Verdicts.{energy_rows, range_verdict, reserve_rows, rows_from, rows_verdict}
use Rattle.blocks.specs.Words.{byte_at, word_at}
use Rattle.blocks.specs.declared.kind.Kind.{Kind}
use Rattle.blocks.specs.declared.kind.Kind.TheVariants.{Header, Resource, Virtual}
use Rattle.ladders.specs.Ladder.{Rows}
use Rattle.ladders.specs.Rows.{bid_ladder, offer_ladder}
use Rattle.market.specs.Positions.{Interval, Position, ReserveClass, ReserveInterval, VirtualPosition, ZonePrices}
use Rattle.market.specs.Sides.{no_rows}
use Rattle.market.specs.declared.trade.Trade.{Trade}
use Rattle.market.specs.declared.trade.Trade.TheVariants.{Sale, Purchase}

-- ---- a resource
-- The side letter is the second byte. G sells, and the others buy.
abbrev pub trade_at : List ℕ → Trade
trade_at part = cond (byte_at part 1 == 71) Sale Purchase

-- G has an offer of energy, L a bid, and N neither.
abbrev pub ladder_at : List ℕ → Rows
ladder_at part =
    cond (byte_at part 1 == 71) (offer_ladder (rows_from part 68 (energy_rows part)))
    (cond (byte_at part 1 == 76) (bid_ladder (rows_from part 68 (energy_rows part))) no_rows)

-- Interval t has five words from word 8 + 5 t on: price, schedule, reading, reserve price and reserve schedule.
abbrev pub interval_at : List ℕ → ℕ → Interval
interval_at part t = record {
  price = word_at part (8 + 5 * t);
  schedule = unsigned_abs (word_at part (9 + 5 * t));
  reading = unsigned_abs (word_at part (10 + 5 * t));
}

abbrev pub reserve_interval_at : List ℕ → ℕ → ReserveInterval
reserve_interval_at part t = record {
  price = unsigned_abs (word_at part (11 + 5 * t));
  schedule = unsigned_abs (word_at part (12 + 5 * t));
}

abbrev pub reserve_at : List ℕ → ReserveClass
reserve_at part = record {
  price = unsigned_abs (word_at part 4);
  quantity = unsigned_abs (word_at part 5);
  ladder = offer_ladder (rows_from part 108 (reserve_rows part));
  intervals = map (reserve_interval_at part) (range_with_len 0 12);
}

abbrev pub position_at : List ℕ → Position
position_at part = record {
  trade = trade_at part;
  ladder = ladder_at part;
  price = word_at part 2;
  quantity = unsigned_abs (word_at part 3);
  intervals = map (interval_at part) (range_with_len 0 12);
  reserve = reserve_at part;
}

-- A record has a position where it is a whole block of a resource, its side letter is one of a resource, its figures are in range and
-- its rows are right.
abbrev pub is_whole : Opened → Bool
is_whole rec = length rec.part == 512

abbrev pub side_is_right : Opened → Bool
side_is_right rec = side_fits rec.kind (byte_at rec.part 1)

abbrev pub figures_in_range : Opened → Bool
figures_in_range rec = is_ok (range_verdict rec)

abbrev pub rows_are_right : Opened → Bool
rows_are_right rec = is_ok (rows_verdict rec)

abbrev pub is_resource : Kind → Bool
is_resource Header = false
is_resource Resource = true
is_resource Virtual = false

abbrev pub has_position : Opened → Bool
has_position rec = is_resource rec.kind && (is_whole rec && (side_is_right rec && (figures_in_range rec && rows_are_right rec)))

abbrev pub position_in : Opened → Option Position
position_in rec = cond (has_position rec) (Some (position_at rec.part)) None

-- ---- a virtual position
abbrev pub virtual_position_at : List ℕ → VirtualPosition
virtual_position_at part = record { trade = trade_at part; quantity = unsigned_abs (word_at part 2) }

abbrev pub is_virtual : Kind → Bool
is_virtual Header = false
is_virtual Resource = false
is_virtual Virtual = true

abbrev pub has_virtual_position : Opened → Bool
has_virtual_position rec = is_virtual rec.kind && (is_whole rec && (side_is_right rec && figures_in_range rec))

abbrev pub virtual_position_in : Opened → Option VirtualPosition
virtual_position_in rec = cond (has_virtual_position rec) (Some (virtual_position_at rec.part)) None

-- ---- the prices of the zone
abbrev pub zone_price_at : List ℕ → ℕ → ℤ
zone_price_at part t = word_at part (3 + t)

abbrev pub zone_prices_at : List ℕ → ZonePrices
zone_prices_at part = record { day_ahead = word_at part 2; real_time = map (zone_price_at part) (range_with_len 0 12) }

abbrev pub is_header : Kind → Bool
is_header Header = true
is_header Resource = false
is_header Virtual = false

abbrev pub has_zone_prices : Opened → Bool
has_zone_prices rec = is_header rec.kind && (is_whole rec && figures_in_range rec)

abbrev pub zone_prices_in : Opened → Option ZonePrices
zone_prices_in rec = cond (has_zone_prices rec) (Some (zone_prices_at rec.part)) None
