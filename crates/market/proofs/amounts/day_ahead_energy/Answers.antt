use Rattle.std.proofs.Common.{◌≡◌, ◌∙◌, pos, ◌*ℤ◌, refl, w32, w64, to_z, of_z, arith}
use borrow.Author.Differences.{ints}
use Rattle.market.specs.Views.{size_of}
use Rattle.market.proofs.Products.{Multiplied, multiplied}
use Rattle.market.proofs.amounts.day_ahead_energy.Goals as goal

rate : (c : goal.After-from-2)
    → Multiplied w32 (to_z w32 (of_z w32 c.sign.result) *ℤ pos 1200) c.args.position.now.price.value (c.sign.result *ℤ pos 1200) c.args.position.now.price.value 240000000
rate c = multiplied w32 1200 200000 _ _ _ _ (omega (arith, ints)) refl (omega (arith, ints)) (omega (arith, ints)) (omega arith)

worth : (c : goal.After-from-2)
    → Multiplied w64 c.from.result c.from-2.result (c.sign.result *ℤ pos 1200 *ℤ c.args.position.now.price.value) c.args.position.now.quantity.value 240000000000
worth c = let is = (rate c).value in multiplied w64 240000000 1000 _ _ _ _ (omega (arith, ints)) (omega (arith, ints)) (rate c).bound (omega (arith, ints)) (omega arith)

pub overflow_mul-result : goal.overflow_mul-result
overflow_mul-result c = (worth c).fits

pub returns : goal.returns
returns c =
    let size : pos (size_of c.args.position.now.quantity) ≡ c.args.position.now.quantity.value = omega (arith, ints) in
    record { value = (worth c).value ∙ cc; bound = rw (worth c).value (worth c).bound }
