use Rattle.std.proofs.Common.{◌≡◌, ℕ, ◌+◌, ◌*◌, ◌≤◌, not, List, length, take, Some, None, Err, ap, ◌∙◌, subst, arith, rules}
use Rattle.std.proofs.lemmas.List.FromFn.{take-map-range_with_len}
use Rattle.ladders.specs.Rows.{AllGood, FirstFault, good}
use Rattle.ladders.specs.declared.rows.LadderFault.TheVariants.{BadRow}
use Rattle.ladders.specs.declared.rows.LadderKind.{LadderKind}
use Rattle.ladders.specs.declared.rows.Row.{Row}
use Rattle.blocks.specs.Firsts.{if_found}
use Rattle.blocks.specs.Ladders.{rows_in, rows_start}
use Rattle.blocks.specs.Records.{fault_at}
use Rattle.blocks.specs.Verdicts.{first_bad, row_of, rows_from}
use Rattle.blocks.specs.declared.fault.Rule.TheVariants as rules_of
use Rattle.blocks.proofs.Finding.{first_in_is}
use Rattle.blocks.proofs.whole.Block.check_ladder.Goals as goal

-- of twenty rows that were read, the first ones
first_rows : (part : List ℕ) (from count n : ℕ) (rows : List Row) → rows ≡ rows_from part from 20 → n ≡ count → count ≤ 20 → take n rows ≡ rows_from part from count
first_rows part from count n rows read same few = (λ k. take (same k) (read k)) ∙ take-map-range_with_len (row_of part from) 0 20 count few

no_bad : (kind : LadderKind) (rows : List Row) → AllGood kind rows → None ≡ first_bad kind rows
no_bad kind rows all = first_in_is (λ k. not (good kind rows k)) 0 (length rows) None (λ k low high. ap not (all k high))

one_bad : (kind : LadderKind) (rows : List Row) (row : ℕ) → FirstFault kind rows (BadRow row) → Some row ≡ first_bad kind rows
one_bad kind rows row fault = first_in_is (λ k. not (good kind rows k)) 0 (length rows) (Some row) (omega arith, fault.1, ap not fault.2, λ k low high. ap not (fault.3 k high))

pub returns-in_default-2 : goal.returns-in_default-2
returns-in_default-2 c =
    let part = c.args.self.now.part.now in
    let from = rows_start c.args.ladder in
    let count = rows_in c.args.ladder part in
    let few : count ≤ 20 = search rules in
    let same = first_rows part from count c.row_count-count.result c.rows-rows.result c.rows-rows.ensures c.row_count-count.ensures few in
    let checked = rw c.in_default.is at c.check.ensures in
    let none = no_bad c.args.kind _ (rw same at checked.1) in
    ap (λ o. if_found o (λ k. fault_at rules_of.Rows c.args.self.now.number (from + 2 * k))) none

pub returns : goal.returns
returns c =
    let part = c.args.self.now.part.now in
    let from = rows_start c.args.ladder in
    let count = rows_in c.args.ladder part in
    let few : count ≤ 20 = search rules in
    let same = first_rows part from count c.row_count-count.result c.rows-rows.result c.rows-rows.ensures c.row_count-count.ensures few in
    let fault = subst (λ (rows : List Row). FirstFault c.args.kind rows (BadRow c.in-Err-BadRow.row)) same (rw c.in-Err-BadRow.field-0-is at c.in-Err-BadRow.ensures) in
    let found = one_bad c.args.kind _ c.in-Err-BadRow.row fault in
    ap Err (c.fault.ensures ∙ ap (λ at. fault_at rules_of.Rows c.args.self.now.number (at + 2 * c.in-Err-BadRow.row)) c.rows_start.ensures.value)
    ∙ ap (λ o. if_found o (λ k. fault_at rules_of.Rows c.args.self.now.number (from + 2 * k))) found
