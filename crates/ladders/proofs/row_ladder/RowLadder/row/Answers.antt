use Rattle.std.proofs.Common.{arith}
use Rattle.ladders.specs.Lawfuls.{price_within}
use Rattle.ladders.specs.Offers.{rows_of}
use Rattle.ladders.proofs.row_ladder.RowLadder.row.Goals as goal

pub returns-clause-near : goal.returns-clause-near
returns-clause-near g c =
    let ladder = c.args.self.now in
    grind (arith, price_within g.K.RowKind.KIND (rows_of ladder) ladder.good c.args.row)
