-- The offers and bids that the code holds, and their rows.
use Rattle.std.specs.Prelude.{List}
use Rattle.ladders.specs.RowLists.{listed}
use Rattle.ladders.specs.declared.bid.BidKind.{BidKind}
use Rattle.ladders.specs.declared.offer.OfferKind.{OfferKind}
use Rattle.ladders.specs.declared.offer.ReserveKind.{ReserveKind}
use Rattle.ladders.specs.declared.row_ladder.RowLadder.{RowLadder}
use Rattle.ladders.specs.declared.rows.LadderKind.TheVariants as kind
use Rattle.ladders.specs.declared.rows.Row.{Row}

-- The types of the code that are aliases there.
abbrev pub Offer : Type 0
Offer = RowLadder OfferKind (record { KIND = kind.Offer })

abbrev pub ReserveOffer : Type 0
ReserveOffer = RowLadder ReserveKind (record { KIND = kind.Reserve })

abbrev pub Bid : Type 0
Bid = RowLadder BidKind (record { KIND = kind.Bid })

-- The rows of a ladder of any kind, and of each.
abbrev pub rows_of : {K : Type 0} {T : _} → RowLadder K T → List Row
rows_of ladder = listed ladder.list

abbrev pub offer_rows : Offer → List Row
offer_rows offer = rows_of offer

abbrev pub reserve_rows : ReserveOffer → List Row
reserve_rows reserve = rows_of reserve

abbrev pub bid_rows : Bid → List Row
bid_rows bid = rows_of bid
