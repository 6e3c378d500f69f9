use Rattle.std.proofs.Common.{◌≡◌, ◌+◌, ◌-◌, ◌+ℤ◌, nat_abs, sym, ap, ◌∙◌, arith, w32, w64, SFits, to_z, of_z, rules}
use borrow.Author.Differences.{ints}
use Rattle.std.proofs.lemmas.Int.{to_z-of_z}
use Rattle.ladders.specs.Ladder.{earned, inside}
use Rattle.ladders.proofs.Profits.{earned_none, earned_more, earned_within, last_short, profit_law, start_more}
use Rattle.ladders.proofs.ladder.profit.Given as given
use Rattle.ladders.proofs.ladder.profit.Goals as goal

pub loop-row-init : goal.loop-row-init
loop-row-init g c = (sym (earned_none _ _ _), omega arith)

-- a turn adds what the row earns
more : (g : given.Over) (c : goal.After-row_profit-profit g) → c.loop-row.profit +ℤ c.row_profit-profit.result ≡ earned (g.L.Ladder.means c.args.ladder.now) c.args.price c.args.quantity (c.loop-row.row + 1)
more g c =
    let rows = g.L.Ladder.means c.args.ladder.now in
    let row = c.loop-row.row in
    let fits = c.ranges.price in
    let fits_gain : SFits w32 c.gain.result = search rules in
    let is_part : c.min-to.result - c.loop-row.from ≡ inside rows row c.args.quantity = omega arith in
    let is_gain : to_z w32 (of_z w32 c.gain.result) ≡ rows.gain c.args.price row = to_z-of_z w32 c.gain.result fits_gain ∙ simp to_z-of_z at c.gain.ensures in
    let here = rw (is_gain, is_part) at c.row_profit-profit.ensures.value in
    let before : c.loop-row.profit ≡ earned rows c.args.price c.args.quantity row = sym c.loop-row.profit-is ∙ simp to_z-of_z at c.loop-row.invariant.0 in
    rw (before, here) (sym (earned_more rows c.args.price c.args.quantity row))

total_fits : (g : given.Over) (c : goal.After-row_profit-profit g) → SFits w64 (c.loop-row.profit +ℤ c.row_profit-profit.result)
total_fits g c =
    let lawful = g.met.L.Ladder.lawful c.args.ladder.now in
    let short = last_short lawful c.args.price (c.loop-row.row + 1) (omega arith) in
    let size = earned_within lawful c.args.price (c.loop-row.row + 1) c.args.quantity (omega arith) in
    let is = more g c in
    omega (arith, ints, ap nat_abs is)

pub overflow_add-profit : goal.overflow_add-profit
overflow_add-profit g c = let h = total_fits g c in omega (arith, ints)

pub loop-row-preserved : goal.loop-row-preserved
loop-row-preserved g c =
    let fits = c.ranges.price in
    let FitsSum = total_fits g c in
    let fits_row : SFits w64 c.row_profit-profit.result = search rules in
    simp (c.loop-row.profit-is, to_z-of_z) (more g c, rw start_more (omega arith))

pub returns-clause-law : goal.returns-clause-law
returns-clause-law g c = profit_law (g.met.L.Ladder.lawful c.args.ladder.now) c.args.price

pub returns-clause-bound : goal.returns-clause-bound
returns-clause-bound g c =
    let lawful = g.met.L.Ladder.lawful c.args.ladder.now in
    let short = last_short lawful c.args.price c.loop-row.row (omega arith) in
    let size = earned_within lawful c.args.price c.loop-row.row c.args.quantity (omega arith) in
    let fits = c.ranges.price in
    let is = simp to_z-of_z at c.loop-row.invariant.0 in
    omega (arith, ints, ap nat_abs is)
