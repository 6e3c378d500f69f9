use Rattle.std.proofs.Common.{◌≡◌, pos, ◌*ℤ◌, refl, arith, w64, SFits, to_z, of_z}
use borrow.Author.Differences.{ints}
use Rattle.std.proofs.lemmas.Int.{to_z-of_z}
use Rattle.ladders.proofs.Integers.{product_within}
use Rattle.ladders.proofs.ladder.row_profit.Goals as goal

pub returns : goal.returns
returns c =
    let gain : to_z w64 (of_z w64 c.from.result) ≡ c.args.gain = omega (arith, ints) in
    let part : to_z w64 c.args.part ≡ pos c.args.part = omega (arith, ints) in
    let within = product_within 400000 c.args.part c.args.gain (pos c.args.part) c.requires.small (omega arith) in
    let fits : SFits w64 (c.args.gain *ℤ pos c.args.part) = omega (arith, ints) in
    rw (gain, part) (simp to_z-of_z (record { value = refl; bound = within }))
