use Rattle.std.proofs.Common.{◌≡◌, true, ltb, length, arith, rules, w32, SFits}
use borrow.Author.Differences.{ints}
use Rattle.std.proofs.lemmas.Bool.{lt-ltb}
use Rattle.std.proofs.lemmas.Int.{to_z-of_z}
use Rattle.ladders.specs.Offers.{rows_of}
use Rattle.ladders.proofs.row_ladder.RowLadderLadder.gain.Goals as goal

pub returns-in-Some : goal.returns-in-Some
returns-in-Some g c =
    let price = c.ranges.price in
    let fits : SFits w32 c.gain.result = search rules in
    let fits_clamp : SFits w32 c.clamp.result = search rules in
    let fits_row : SFits w32 c.in-Some.row.now.price = omega (arith, ints, c.in-Some.ensures.near) in
    let there : ltb c.args.row (length (rows_of c.args.self.now)) ≡ true = lt-ltb _ _ (omega (arith, c.in-Some.ensures.there)) in
    let counts = simp to_z-of_z at c.clamp.ensures.value in
    let is = simp to_z-of_z at c.gain.ensures in
    let same = c.in-Some.ensures.found in
    rw (there, to_z-of_z) (cc)
