-- What the side of a position means.
use Rattle.std.specs.Prelude.{pos}
use Rattle.ladders.specs.Ladder.{Rows}
use Rattle.ladders.specs.Offers.{offer_rows, bid_rows}
use Rattle.ladders.specs.Rows.{offer_ladder, bid_ladder}
use Rattle.market.specs.declared.side.Side.{Side}
use Rattle.market.specs.declared.side.Side.TheVariants.{Generator, DispatchableLoad, LoadWithoutBids}
use Rattle.market.specs.declared.trade.Trade.{Trade}
use Rattle.market.specs.declared.trade.Trade.TheVariants.{Sale, Purchase}

-- A generator sells, and a load buys.
abbrev pub trade_of : Side → Trade
trade_of (Generator _) = Sale
trade_of (DispatchableLoad _) = Purchase
trade_of LoadWithoutBids = Purchase

-- A ladder without rows.
abbrev pub no_rows : Rows
no_rows = record { count = 0; end = λ _. 0; gain = λ _ _. pos 0 }

-- The energy ladder of a side.
abbrev pub ladder_of : Side → Rows
ladder_of (Generator offer) = offer_ladder (offer_rows offer)
ladder_of (DispatchableLoad bid) = bid_ladder (bid_rows bid)
ladder_of LoadWithoutBids = no_rows
