-- Which way a position trades.
use Rattle.std.specs.Prelude.{ℤ, pos, negsuc}
use Rattle.market.specs.declared.trade.Trade.{Trade}
use Rattle.market.specs.declared.trade.Trade.TheVariants.{Sale, Purchase}

-- A sale is paid what a purchase pays.
abbrev pub sign : Trade → ℤ
sign Sale = pos 1
sign Purchase = negsuc 0
