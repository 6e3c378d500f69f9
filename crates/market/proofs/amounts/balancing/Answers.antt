use Rattle.std.proofs.Common.{◌≡◌, ◌∙◌, map, refl, w64, rules, arith}
use borrow.Author.Differences.{ints}
use Rattle.std.proofs.lemmas.Iterator.{YieldsList-from_slice}
use Rattle.market.specs.Amounts.{imbalance, total}
use Rattle.market.specs.Views.{interval_of, size_of}
use Rattle.market.proofs.Products.{Multiplied, multiplied}
use Rattle.market.proofs.Totals.{Between, hour_fits, hour_sum}
use Rattle.market.proofs.amounts.balancing.Goals as goal

pub sum-imbalances-requires-clause-fits : goal.sum-imbalances-requires-clause-fits
sum-imbalances-requires-clause-fits c =
    let position = c.args.position.now in
    hour_fits interval_of (imbalance (size_of position.quantity)) 20160000000 20160000000 (λ x r q k. search rules)
    position.intervals (YieldsList-from_slice position.intervals cc) c.map.ensures.closure (omega arith) (omega arith) (omega arith)

imbalances : (c : goal.After-from)
    → (c.sum-imbalances.result ≡ total (imbalance (size_of c.args.position.now.quantity)) (map interval_of c.args.position.now.intervals))
    × Between 241920000000 241920000000 c.sum-imbalances.result
imbalances c =
    let position = c.args.position.now in
    hour_sum interval_of (imbalance (size_of position.quantity)) 20160000000 20160000000 (λ x r q k. search rules)
    position.intervals (YieldsList-from_slice position.intervals cc) c.map.ensures.closure (omega arith) c.sum-imbalances.result c.sum-imbalances.ensures.ran

signed : (c : goal.After-from) → Multiplied w64 c.from.result c.sum-imbalances.result c.sign.result c.sum-imbalances.result 241920000000
signed c = let between = (imbalances c).1 in multiplied w64 1 241920000000 _ _ _ _ (omega (arith, ints)) refl (omega (arith, ints)) (omega (arith, ints)) (omega arith)

pub overflow_mul-result : goal.overflow_mul-result
overflow_mul-result c = (signed c).fits

pub returns : goal.returns
returns c = let is = (imbalances c).0 in record { value = (signed c).value ∙ cc; bound = rw (signed c).value (signed c).bound }
