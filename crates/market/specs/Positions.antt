-- What a position is, in plain numbers. Prices are in cents per MWh, quantities and schedules in tenths of a MW, readings in kWh per
-- interval.
use Rattle.std.specs.Prelude.{ℕ, List, ℤ}
use Rattle.ladders.specs.Ladder.{Rows}
use Rattle.market.specs.declared.trade.Trade.{Trade}

pub record Interval : Type 0 where
  pub price : ℤ
  pub schedule : ℕ
  pub reading : ℕ

pub record ReserveInterval : Type 0 where
  pub price : ℕ
  pub schedule : ℕ

-- a class of reserve
pub record ReserveClass : Type 0 where
  pub price : ℕ
  pub quantity : ℕ
  pub ladder : Rows
  pub intervals : List ReserveInterval

-- a position of a resource
pub record Position : Type 0 where
  pub trade : Trade
  pub ladder : Rows
  pub price : ℤ
  pub quantity : ℕ
  pub intervals : List Interval
  pub reserve : ReserveClass

-- a virtual position
pub record VirtualPosition : Type 0 where
  pub trade : Trade
  pub quantity : ℕ

-- the prices of the zone, a day ahead and in each interval
pub record ZonePrices : Type 0 where
  pub day_ahead : ℤ
  pub real_time : List ℤ
