use Rattle.std.proofs.Common.{◌≡◌, ℕ, ◌+◌, List, get_or, map, take, ap, ◌∙◌, rules, tests, arith, length-take-le, get_or-take}
use Rattle.std.specs.List.{list_all, range_with_len}
use Rattle.std.proofs.lemmas.Iterator.{YieldsList-from_slice}
use Rattle.std.proofs.lemmas.Iterator.Search.{all_from_yields_List}
use Rattle.std.proofs.lemmas.List.Folds.{list_all-map}
use Rattle.std.proofs.lemmas.List.FromFn.{fill_by_all}
use Rattle.hourfile.specs.Lines.{line_of, no_lines}
use Rattle.hourfile.specs.declared.lines.Lines.{Lines}
use Rattle.ledger.specs.Entries.{is_within}
use Rattle.ledger.proofs.table.hour_within.Goals as goal

pub returns : goal.returns
returns c =
    let hour : List Lines = c.args.hour.now in
    let count : ℕ = c.args.owners.number + 1 in
    let at : ℕ → Lines = λ place. get_or hour place no_lines in
    let long = c.told-hour in
    let made : take count hour ≡ map at (range_with_len 0 count) = fill_by_all at (take count hour) count no_lines (length-take-le count hour (omega arith)) (λ k below. get_or-take count hour k no_lines below) in
    let tested = all_from_yields_List {all = take count hour} (λ lines. is_within 50000000000 (line_of lines)) _ _ _ c.all.ensures.ran (YieldsList-from_slice _ c.iter.ensures.rest) (λ x b q k. search (rules, tests)) in
    tested ∙ ap (list_all (λ lines. is_within 50000000000 (line_of lines))) made ∙ list_all-map (λ lines. is_within 50000000000 (line_of lines)) at (range_with_len 0 count)
