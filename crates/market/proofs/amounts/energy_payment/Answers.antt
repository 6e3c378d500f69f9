use Rattle.std.proofs.Common.{◌*◌, arith}
use borrow.Author.Differences.{ints}
use Rattle.std.proofs.lemmas.Int.{clamps, to_z-of_z}
use Rattle.market.proofs.amounts.energy_payment.Goals as goal

pub overflow_sub-result : goal.overflow_sub-result
overflow_sub-result g c = omega (arith, ints, clamps)

pub returns-clause-value : goal.returns-clause-value
returns-clause-value g c = grind (arith, to_z-of_z)

pub returns-clause-sound : goal.returns-clause-sound
returns-clause-sound g c =
    let scheduled = c.best_profit.ensures.most (100 * c.from.result) in
    let metered = c.best_profit.ensures.most (12 * c.from-2.result) in
    omega (arith, ints, clamps)

pub returns-clause-bound : goal.returns-clause-bound
returns-clause-bound g c =
    let scheduled = c.best_profit.ensures.most (100 * c.from.result) in
    let metered = c.best_profit.ensures.most (12 * c.from-2.result) in
    let near = c.best_profit.ensures.gap (100 * c.from.result) in
    omega (arith, ints, clamps)
