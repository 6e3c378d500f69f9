-- The plain numbers of the positions that the code holds.
use Rattle.std.specs.Prelude.{map, ℕ, ℤ, unsigned_abs}
use Rattle.market.specs.Positions.{Interval, Position, ReserveClass, ReserveInterval, VirtualPosition, ZonePrices}
use Rattle.ladders.specs.Offers.{reserve_rows}
use Rattle.ladders.specs.Rows.{offer_ladder}
use Rattle.market.specs.Sides.{ladder_of, trade_of}
use Rattle.market.specs.declared.figures.Ranged.{Ranged}
use Rattle.market.specs.declared.position.Interval.{Interval as HeldInterval}
use Rattle.market.specs.declared.position.Position.{Position as HeldPosition}
use Rattle.market.specs.declared.position.ReserveClass.{ReserveClass as HeldReserveClass}
use Rattle.market.specs.declared.position.ReserveInterval.{ReserveInterval as HeldReserveInterval}
use Rattle.market.specs.declared.position.VirtualPosition.{VirtualPosition as HeldVirtualPosition}
use Rattle.market.specs.declared.position.ZonePrices.{ZonePrices as HeldZonePrices}

abbrev pub value_of : {K : Type 0} {T : _} → Ranged K T → ℤ
value_of figure = figure.value

-- the value of a figure that is never below 0
abbrev pub size_of : {K : Type 0} {T : _} → Ranged K T → ℕ
size_of figure = unsigned_abs figure.value

abbrev pub interval_of : HeldInterval → Interval
interval_of t = record { price = t.price.value; schedule = size_of t.schedule; reading = size_of t.reading }

abbrev pub reserve_interval_of : HeldReserveInterval → ReserveInterval
reserve_interval_of t = record { price = size_of t.price; schedule = size_of t.schedule }

abbrev pub reserve_class_of : HeldReserveClass → ReserveClass
reserve_class_of c = record {
  price = size_of c.price;
  quantity = size_of c.quantity;
  ladder = offer_ladder (reserve_rows c.offer);
  intervals = map reserve_interval_of c.intervals;
}

abbrev pub position_of : HeldPosition → Position
position_of p = record {
  trade = trade_of p.side;
  ladder = ladder_of p.side;
  price = p.price.value;
  quantity = size_of p.quantity;
  intervals = map interval_of p.intervals;
  reserve = reserve_class_of p.reserve;
}

abbrev pub virtual_position_of : HeldVirtualPosition → VirtualPosition
virtual_position_of v = record { trade = v.trade; quantity = size_of v.quantity }

abbrev pub zone_prices_of : HeldZonePrices → ZonePrices
zone_prices_of z = record { day_ahead = z.day_ahead.value; real_time = map value_of z.real_time }
