-- The ladder of the rows of a record.
use Rattle.std.proofs.Common.{◌≡◌, ℕ, ◌<◌, ◌≤◌, List, ◌++◌, length, take, drop, pos, nat_abs, Ok, Err, Option, Result, sym, ap, ◌∙◌, arith}
use borrow.Author.Differences.{ints}
use Rattle.std.specs.Result.{result_ok}
use Rattle.std.proofs.lemmas.List.{length-take-le, map-id, take-append-le, take_all}
use Rattle.std.proofs.lemmas.List.FromFn.{length-map-range_with_len}
use Rattle.std.proofs.lemmas.Bool.{both_ways}
use Rattle.blocks.specs.Records.{Opened}
use Rattle.blocks.specs.Verdicts.{row_of, rows_from}
use Rattle.blocks.specs.Words.{word_at}
use Rattle.ladders.specs.Rows.{AllGood, FirstFault, Made, good, most_rows}
use Rattle.ladders.specs.declared.rows.LadderFault.{LadderFault}
use Rattle.ladders.specs.declared.rows.LadderFault.TheVariants.{TooManyRows, BadRow}
use Rattle.ladders.specs.declared.rows.LadderKind.{LadderKind}
use Rattle.ladders.specs.declared.rows.Row.{Row}
use Rattle.records.specs.Held.{AllFound, Counts, Reads, RowsHold, Whole, place_of, rows_at}
use Rattle.records.specs.declared.rows.RowPlace.{RowPlace}
use Rattle.records.proofs.Finding.{all_read}

-- few good rows have no fault
no_fault : (kind : LadderKind) (rows : List Row) (fault : LadderFault) → length rows ≤ most_rows kind → AllGood kind rows → FirstFault kind rows fault → ⊥
no_fault kind rows TooManyRows few all first = omega arith
no_fault kind rows (BadRow row) few all first = both_ways (good kind rows row) first.2 (all row first.1)

most_fit : (kind : LadderKind) → ((place_of kind).most ≤ most_rows kind) × ((place_of kind).most ≤ 20)
most_fit kind = grind arith

module _ {A : Type 0} (rows_of : A → List Row) (kind : LadderKind) where
  made_reads : (rows : List Row) (Counted : Type 0) (made : Result A LadderFault) → length rows ≤ most_rows kind → Counted → Made rows_of kind rows made
      → Reads rows_of (Counted × AllGood kind rows) rows (result_ok made)
  made_reads rows Counted (Ok ladder) few counted is = ((counted, is.1), is.2)
  made_reads rows Counted (Err fault) few counted is = λ has. no_fault kind rows fault few has.1 is

  -- what the making of a ladder answers, of as many rows as a word tells, which were read into the first places of a room
  module _ {Finds : ℕ → Option Row → Type 0} (rec : Opened) (place : RowPlace) (count : ℕ) (rows room : List Row) where
    rows_are : count ≤ length room → AllFound Finds (length (take count room)) rows
        → ((k : ℕ) (r : Option Row) → k < length (take count room) → Finds k r → Reads (λ row. row) (Whole rec) (row_of rec.part place.from k) r)
        → take count (rows ++ drop count room) ≡ rows_from rec.part place.from count
    rows_are few found each =
        let told : length (take count room) ≡ count = length-take-le count room few in
        let read = (all_read (λ row. row) (λ _. Whole rec) (row_of rec.part place.from) rows found each).1 in
        take-append-le count rows (drop count room) (omega (arith, found.long))
        ∙ take_all count rows (omega (arith, found.long))
        ∙ sym (map-id rows)
        ∙ read
        ∙ ap (rows_from rec.part place.from) told

    pub ladder_read : (made : Result A LadderFault) (answer : Option A)
        → place ≡ place_of kind
        → 20 ≤ length room
        → Counts place.most rec place.counted × (pos count ≡ word_at rec.part place.counted)
        → AllFound Finds (length (take count room)) rows
        → Made rows_of kind (take count (rows ++ drop count room)) made
        → answer ≡ result_ok made
        → ((k : ℕ) (r : Option Row) → k < length (take count room) → Finds k r → Reads (λ row. row) (Whole rec) (row_of rec.part place.from k) r)
        → Reads rows_of (RowsHold (place_of kind) kind rec) (rows_at (place_of kind) rec.part) answer
    ladder_read made answer here roomy counted found is answer-is each =
        let told : count ≡ nat_abs (word_at rec.part place.counted) = ap nat_abs counted.1 in
        let most = ap (λ (p : RowPlace). p.most) here in
        let fits = most_fit kind in
        let bound : count ≤ place.most = omega (arith, ints, counted.0.2, counted.1) in
        let same = rows_are (omega (arith, most, fits.1, bound)) found each ∙ ap (rows_from rec.part place.from) told in
        let long : length (rows_at place rec.part) ≡ nat_abs (word_at rec.part place.counted) = length-map-range_with_len (row_of rec.part place.from) 0 _ in
        rw (← here, answer-is)
        (made_reads (rows_at place rec.part) (Counts place.most rec place.counted) made (omega (arith, most, fits.0, bound, long, told)) counted.0 (rw same at is))
