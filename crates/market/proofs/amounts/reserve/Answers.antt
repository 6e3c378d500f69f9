use Rattle.std.proofs.Common.{◌≡◌, ◌∙◌, pos, ◌*ℤ◌, w64, rules, arith}
use borrow.Author.Differences.{ints}
use Rattle.std.proofs.lemmas.Int.{to_z-of_z}
use Rattle.std.proofs.lemmas.Iterator.{YieldsList-from_slice}
use Rattle.market.specs.Amounts.{reserve_change}
use Rattle.market.specs.Views.{reserve_interval_of, size_of}
use Rattle.market.proofs.Products.{Multiplied, multiplied}
use Rattle.market.proofs.Totals.{hour_fits, hour_sum}
use Rattle.market.proofs.amounts.reserve.Goals as goal

pub sum-changes-requires-clause-fits : goal.sum-changes-requires-clause-fits
sum-changes-requires-clause-fits c =
    let class = c.args.class.now in
    hour_fits reserve_interval_of (reserve_change (size_of class.quantity)) 20000000000 20000000000 (λ x r q k. search rules)
    class.intervals (YieldsList-from_slice class.intervals cc) c.map.ensures.closure (omega arith) (omega arith) (omega arith)

day_ahead : (c : goal.After-from-2) → Multiplied w64 c.from.result c.from-2.result (pos 1200 *ℤ c.args.class.now.price.value) c.args.class.now.quantity.value 240000000000
day_ahead c = multiplied w64 240000000 1000 _ _ _ _ (omega (arith, ints)) (omega (arith, ints)) (omega (arith, ints)) (omega (arith, ints)) (omega arith)

pub overflow_mul-day_ahead : goal.overflow_mul-day_ahead
overflow_mul-day_ahead c = (day_ahead c).fits

pub overflow_add-result : goal.overflow_add-result
overflow_add-result c =
    let class = c.args.class.now in
    let sums = hour_sum reserve_interval_of (reserve_change (size_of class.quantity)) 20000000000 20000000000 (λ x r q k. search rules)
    class.intervals (YieldsList-from_slice class.intervals cc) c.map.ensures.closure (omega arith) c.sum-changes.result c.sum-changes.ensures.ran in
    let small = (day_ahead c).bound in
    rw (day_ahead c).value (omega (arith, ints))

pub returns : goal.returns
returns c =
    let class = c.args.class.now in
    let sums = hour_sum reserve_interval_of (reserve_change (size_of class.quantity)) 20000000000 20000000000 (λ x r q k. search rules)
    class.intervals (YieldsList-from_slice class.intervals cc) c.map.ensures.closure (omega arith) c.sum-changes.result c.sum-changes.ensures.ran in
    let small = (day_ahead c).bound in
    let price : pos (size_of class.price) ≡ class.price.value = omega (arith, ints) in
    let quantity : pos (size_of class.quantity) ≡ class.quantity.value = omega (arith, ints) in
    let same : pos 1200 *ℤ pos (size_of class.price) *ℤ pos (size_of class.quantity) ≡ pos 1200 *ℤ class.price.value *ℤ class.quantity.value = cc in
    let fits = rw (day_ahead c).value at (overflow_add-result c) in
    record {
      value = rw (day_ahead c).value (to_z-of_z w64 _ fits ∙ omega (arith, ints));
      bound = rw (day_ahead c).value (rw (to_z-of_z w64 _ fits) (omega (arith, ints)));
    }
