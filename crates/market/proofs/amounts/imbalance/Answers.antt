use Rattle.std.proofs.Common.{pos, ◌*ℤ◌, ◌-ℤ◌, w64, arith}
use borrow.Author.Differences.{ints}
use Rattle.market.specs.Views.{size_of}
use Rattle.market.proofs.Products.{Multiplied, multiplied}
use Rattle.market.proofs.amounts.imbalance.Goals as goal

earned : (c : goal.After-from-2)
    → Multiplied w64 c.from.result c.from-2.result c.args.interval.now.price.value (pos 12 *ℤ pos (size_of c.args.interval.now.reading) -ℤ pos 100 *ℤ pos (size_of c.args.quantity)) 20160000000
earned c = multiplied w64 200000 100800 _ _ _ _ (omega (arith, ints)) (omega (arith, ints)) (omega (arith, ints)) (omega (arith, ints)) (omega arith)

pub overflow_mul-result : goal.overflow_mul-result
overflow_mul-result c = (earned c).fits

pub returns : goal.returns
returns c = record { value = (earned c).value; bound = rw (earned c).value (earned c).bound }
