use Rattle.std.proofs.Common.{◌≡◌, map, rules, arith}
use borrow.Author.Differences.{ints}
use Rattle.std.proofs.lemmas.Iterator.{YieldsList-from_slice}
use Rattle.market.specs.Amounts.{energy_payment, reserve_payment, total}
use Rattle.market.specs.Views.{interval_of, position_of, reserve_class_of, reserve_interval_of}
use Rattle.market.proofs.Totals.{Between, hour_fits, hour_sum}
use Rattle.market.proofs.amounts.real_time_make_whole.Goals as goal

pub sum-energy_payments-requires-clause-fits : goal.sum-energy_payments-requires-clause-fits
sum-energy_payments-requires-clause-fits c =
    let position = c.args.position.now in
    hour_fits interval_of (energy_payment (position_of position).ladder) 0 40000000000 (λ x r q k. search rules)
    position.intervals (YieldsList-from_slice position.intervals cc) c.map.ensures.closure (omega arith) (omega arith) (omega arith)

pub sum-reserve_payments-requires-clause-fits : goal.sum-reserve_payments-requires-clause-fits
sum-reserve_payments-requires-clause-fits c =
    let class = c.args.position.now.reserve in
    hour_fits reserve_interval_of (reserve_payment (reserve_class_of class).ladder) 0 40000000000 (λ x r q k. search rules)
    class.intervals (YieldsList-from_slice class.intervals cc) c.map-2.ensures.closure (omega arith) (omega arith) (omega arith)

energy : (c : goal.After-sum-reserve_payments)
    → (c.sum-energy_payments.result ≡ total (energy_payment (position_of c.args.position.now).ladder) (map interval_of c.args.position.now.intervals)) × Between 0 480000000000 c.sum-energy_payments.result
energy c =
    let position = c.args.position.now in
    hour_sum interval_of (energy_payment (position_of position).ladder) 0 40000000000 (λ x r q k. search rules)
    position.intervals (YieldsList-from_slice position.intervals cc) c.map.ensures.closure (omega arith) c.sum-energy_payments.result c.sum-energy_payments.ensures.ran

reserve : (c : goal.After-sum-reserve_payments)
    → (c.sum-reserve_payments.result ≡ total (reserve_payment (reserve_class_of c.args.position.now.reserve).ladder) (map reserve_interval_of c.args.position.now.reserve.intervals))
    × Between 0 480000000000 c.sum-reserve_payments.result
reserve c =
    let class = c.args.position.now.reserve in
    hour_sum reserve_interval_of (reserve_payment (reserve_class_of class).ladder) 0 40000000000 (λ x r q k. search rules)
    class.intervals (YieldsList-from_slice class.intervals cc) c.map-2.ensures.closure (omega arith) c.sum-reserve_payments.result c.sum-reserve_payments.ensures.ran

pub overflow_add-result : goal.overflow_add-result
overflow_add-result c = let e = energy c in let r = reserve c in omega (arith, ints)

pub returns : goal.returns
returns c = let e = energy c in let r = reserve c in record { value = omega (arith, ints); sound = omega (arith, ints); bound = omega (arith, ints) }
