use Rattle.std.proofs.Common.{◌≡◌, ◌∙◌, map, pos, ◌*ℤ◌, refl, w32, w64, to_z, of_z, rules, arith}
use borrow.Author.Differences.{ints}
use Rattle.std.proofs.lemmas.Iterator.{YieldsList-from_slice}
use Rattle.market.specs.Amounts.{spread, total}
use Rattle.market.specs.Views.{size_of, value_of}
use Rattle.market.proofs.Products.{Multiplied, multiplied}
use Rattle.market.proofs.Totals.{Between, hour_fits, hour_sum}
use Rattle.market.proofs.amounts.virtual_trade.Goals as goal

pub sum-spreads-requires-clause-fits : goal.sum-spreads-requires-clause-fits
sum-spreads-requires-clause-fits c =
    let zone = c.args.zone.now in
    hour_fits value_of (spread zone.day_ahead.value) 400000 400000 (λ x r q k. search rules)
    zone.real_time (YieldsList-from_slice zone.real_time cc) c.map.ensures.closure (omega arith) (omega arith) (omega arith)

spreads : (c : goal.After-from) → (c.sum-spreads.result ≡ total (spread c.args.zone.now.day_ahead.value) (map value_of c.args.zone.now.real_time)) × Between 4800000 4800000 c.sum-spreads.result
spreads c =
    let zone = c.args.zone.now in
    hour_sum value_of (spread zone.day_ahead.value) 400000 400000 (λ x r q k. search rules)
    zone.real_time (YieldsList-from_slice zone.real_time cc) c.map.ensures.closure (omega arith) c.sum-spreads.result c.sum-spreads.ensures.ran

quantity : (c : goal.After-from)
    → Multiplied w32 (to_z w32 (of_z w32 c.sign.result) *ℤ pos 100) c.args.position.now.quantity.value (c.sign.result *ℤ pos 100) c.args.position.now.quantity.value 100000
quantity c = multiplied w32 100 1000 _ _ _ _ (omega (arith, ints)) refl (omega (arith, ints)) (omega (arith, ints)) (omega arith)

worth : (c : goal.After-from) → Multiplied w64 c.from.result c.sum-spreads.result (c.sign.result *ℤ pos 100 *ℤ c.args.position.now.quantity.value) c.sum-spreads.result 480000000000
worth c =
    let between = (spreads c).1 in
    let is = (quantity c).value in
    multiplied w64 100000 4800000 _ _ _ _ (omega (arith, ints)) refl (quantity c).bound (omega (arith, ints)) (omega arith)

pub overflow_mul-result : goal.overflow_mul-result
overflow_mul-result c = (worth c).fits

pub returns : goal.returns
returns c =
    let is = (spreads c).0 in
    let size : pos (size_of c.args.position.now.quantity) ≡ c.args.position.now.quantity.value = omega (arith, ints) in
    record { value = (worth c).value ∙ cc; bound = rw (worth c).value (worth c).bound }
