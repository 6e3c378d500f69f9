use Rattle.std.proofs.Common.{◌≡◌, ℕ, ◌<◌, ◌≤◌, true, false, length, List, MatchOption, Option, Some, None, rules, tests, arith}
use Rattle.std.proofs.lemmas.Iterator.{first_from_Range}
use Rattle.ladders.specs.Rows.{AllGood, FirstFault, good, most_rows}
use Rattle.ladders.specs.declared.rows.LadderFault.TheVariants.{BadRow}
use Rattle.ladders.specs.declared.rows.LadderKind.{LadderKind}
use Rattle.ladders.specs.declared.rows.Row.{Row}
use Rattle.ladders.proofs.rows.LadderKind.first_bad.Goals as goal

-- what the search of the numbers of the rows finds is the first bad row
first_bad : (kind : LadderKind) (rows : List Row) (first : Option ℕ) → length rows ≤ most_rows kind
    → MatchOption first ((row : ℕ) → 0 ≤ row → row < length rows → good kind rows row ≡ true)
    (λ row. (0 ≤ row) × (row < length rows) × (good kind rows row ≡ false) × ((before : ℕ) → 0 ≤ before → before < row → good kind rows before ≡ true))
    → MatchOption first (AllGood kind rows) (λ row. FirstFault kind rows (BadRow row))
first_bad kind rows None few all = λ row h. all row (omega arith) h
first_bad kind rows (Some row) few found = (few, found.1, found.2, λ before h. found.3 before (omega arith) h)

pub returns : goal.returns
returns c =
    let kind = c.args.self in
    let rows = c.args.rows.now in
    first_bad kind rows c.find.result c.requires
    (first_from_Range _ _ _ c.find.result (λ row. good kind rows row ≡ false) (λ row. good kind rows row ≡ true) c.find.ensures.ran
    (λ x q called. search (rules, tests)) (λ x q called. search (rules, tests)))
