-- The worked examples hold: each is computed.
use Rattle.std.proofs.Common.{refl}
use Rattle.ladders.specs.Ladder.{earned, point_among}
use Rattle.market.specs.Cents.{nearest_cent}
use Rattle.pools.specs.Sharing.{before}
use Rattle.worked.specs.Worked.{ExamplesHold}

pub examples_hold : ExamplesHold
unfolding nearest_cent earned point_among before
examples_hold = (refl, (refl, (refl, (refl, (refl, (refl, (refl, (refl, (refl, tt)))))))))
