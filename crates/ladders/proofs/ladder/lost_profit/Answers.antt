use Rattle.std.proofs.Common.{◌*◌, w64, SFits, rules, arith}
use borrow.Author.Differences.{ints}
use Rattle.std.proofs.lemmas.Int.{to_z-of_z}
use Rattle.ladders.proofs.ladder.lost_profit.Goals as goal

pub returns : goal.returns
returns g c =
    let price = c.ranges.price in
    let best : SFits w64 c.best_profit.result = search rules in
    let here : SFits w64 c.profit.result = search rules in
    let most = c.best_profit.ensures.most (100 * c.args.schedule) in
    let gap = c.best_profit.ensures.gap (100 * c.args.schedule) in
    record { value = grind (arith, ints, to_z-of_z, gap); sound = grind (arith, ints, to_z-of_z, most); bound = grind (arith, ints, to_z-of_z, gap) }
