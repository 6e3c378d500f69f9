use Rattle.std.proofs.Common.{arith}
use borrow.Author.Differences.{ints}
use Rattle.market.proofs.Rounds.{nearest_cent_is, one_sided, rounding}
use Rattle.market.proofs.cents.to_cents.Goals as goal

pub returns : goal.returns
returns c =
    let side = one_sided c.args.grains in
    record { value = omega (arith, ints, nearest_cent_is); law = rounding _ _ (omega (arith, ints, nearest_cent_is)) }
