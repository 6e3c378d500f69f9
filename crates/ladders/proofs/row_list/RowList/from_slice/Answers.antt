use Rattle.std.proofs.Common.{length, drop, replicate, ◌∙◌}
use Rattle.std.proofs.Math.Seq.{drop-append_seam}
use Rattle.std.proofs.lemmas.List.{drop-replicate}
use Rattle.ladders.specs.Rows.{no_row}
use Rattle.ladders.proofs.row_list.RowList.from_slice.Goals as goal

pub invariant_of-result-clause-rest : goal.invariant_of-result-clause-rest
invariant_of-result-clause-rest c =
    let rows = c.args.rows.now in
    rw c.copy_from_slice.ensures.after (drop-append_seam rows (drop (length rows) (replicate 20 no_row)) ∙ drop-replicate (length rows) 20 no_row)
