-- The offers and bids that the code holds are lawful ladders.
use Rattle.ladders.specs.Ladder.{Lawful}
use Rattle.ladders.specs.Lawfuls.{row_lawful}
use Rattle.ladders.specs.Offers.{rows_of}
use Rattle.ladders.specs.Rows.{row_ladder}
use Rattle.ladders.specs.declared.row_ladder.RowLadder.{RowLadder}

pub row_held : {K : Type 0} {T : _} (ladder : RowLadder K T) → Lawful (row_ladder T.KIND (rows_of ladder))
row_held {T = T} ladder = row_lawful T.KIND (rows_of ladder) ladder.good
