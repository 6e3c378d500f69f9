use Rattle.std.proofs.Common.{◌*◌, w64, SFits, rules, arith}
use borrow.Author.Differences.{ints}
use Rattle.std.proofs.lemmas.Int.{to_z-of_z}
use Rattle.ladders.proofs.Profits.{profit_gap}
use Rattle.ladders.proofs.ladder.best_profit.Goals as goal

pub returns-clause-most : goal.returns-clause-most
returns-clause-most g c = λ quantity.
    let price = c.ranges.price in
    let best : SFits w64 c.profit.result = search rules in
    grind (arith, ints, to_z-of_z, c.economic_point-point.ensures.law.best quantity)

pub returns-clause-gap : goal.returns-clause-gap
returns-clause-gap g c = λ quantity.
    let price = c.ranges.price in
    let best : SFits w64 c.profit.result = search rules in
    grind (arith, to_z-of_z, profit_gap (g.met.L.Ladder.lawful c.args.ladder.now) c.args.price (100 * c.economic_point-point.result) quantity)
