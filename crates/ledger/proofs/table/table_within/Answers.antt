use Rattle.std.proofs.Common.{◌+◌, get_or, ◌∙◌, rules, tests}
use Rattle.std.specs.List.{list_all, range_with_len}
use Rattle.std.proofs.lemmas.Iterator.{YieldsList-from_slice}
use Rattle.std.proofs.lemmas.Iterator.Search.{all_from_yields_List}
use Rattle.hourfile.specs.Lines.{line_of, no_lines}
use Rattle.ledger.specs.Entries.{is_within}
use Rattle.ledger.proofs.Gathering.{rows_within}
use Rattle.ledger.proofs.table.table_within.Goals as goal

pub returns : goal.returns
returns c =
    all_from_yields_List {all = c.args.table.now}
    (λ row. list_all (λ place. is_within 50000000000 (line_of (get_or row place no_lines))) (range_with_len 0 (c.args.owners.number + 1)))
    _ _ _ c.all.ensures.ran (YieldsList-from_slice _ c.iter.ensures.rest) (λ x b q k. search (rules, tests))
    ∙ rows_within c.args.owners.number c.args.table.now c.told-table
