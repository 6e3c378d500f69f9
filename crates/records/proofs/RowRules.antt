-- Rows that are right: as the verdict has it, and as the making of a ladder has it.
use Rattle.std.proofs.Common.{◌≡◌, Bool, true, not, List, length, is_ok, nat_abs, arith}
use borrow.Author.Differences.{ints}
use Rattle.std.proofs.lemmas.Bool.{not-false, not_from_true}
use Rattle.blocks.specs.Firsts.{unless}
use Rattle.blocks.specs.Records.{Opened, fault_at}
use Rattle.blocks.specs.Verdicts.{betweenZ, energy_kind, ladder_verdict, most_energy_rows, resource_rows_verdict}
use Rattle.blocks.specs.Words.{byte_at, word_at}
use Rattle.blocks.specs.declared.fault.Rule.TheVariants as rules
use Rattle.ladders.specs.Rows.{good}
use Rattle.ladders.specs.declared.rows.LadderKind.{LadderKind}
use Rattle.ladders.specs.declared.rows.LadderKind.TheVariants.{Reserve}
use Rattle.ladders.specs.declared.rows.Row.{Row}
use Rattle.records.specs.Held.{RowsHold, Whole, energy_place, place_of, rows_at}
use Rattle.records.specs.declared.rows.RowPlace.{RowPlace}
use Rattle.records.proofs.Passing.{both_pass, pass_both, search_decides, test_holds, test_passes}

module _ (rec : Opened) where
  -- ---- the rows at one place
  module _ (place : RowPlace) (kind : LadderKind) where
    abbrev counts : Bool
    counts = betweenZ 0 place.most (word_at rec.part place.counted)

    abbrev rows : List Row
    rows = rows_at place rec.part

    abbrev RowsPass : Type 0
    RowsPass =
        (is_ok (unless counts (fault_at rules.Rows rec.block place.counted)) ≡ true)
        × (is_ok (ladder_verdict kind rec.part rec.block place.from (nat_abs (word_at rec.part place.counted))) ≡ true)

    place_held : Whole rec → RowsPass → RowsHold place kind rec
    place_held whole passed =
        let counted = test_holds counts _ passed.0 in
        let none_bad = (search_decides (λ k. not (good kind rows k)) 0 (length rows) _).0 passed.1 in
        ((whole, grind (arith, ints), grind (arith, ints)), λ k h. not-false (good kind rows k) (none_bad k (omega arith) h))

    place_passes : RowsHold place kind rec → RowsPass
    place_passes held =
        let low = held.0.1 in
        let high = held.0.2 in (
          test_passes counts _ (grind (arith, ints)),
          (search_decides (λ k. not (good kind rows k)) 0 (length rows) _).1 (λ k low high. not_from_true (good kind rows k) (held.1 k high)),
        )

  -- ---- the energy rows and the reserve rows
  abbrev energy : RowPlace
  energy = energy_place (most_energy_rows (byte_at rec.part 1))

  abbrev kind : LadderKind
  kind = energy_kind (byte_at rec.part 1)

  abbrev RowsHeld : Type 0
  RowsHeld = RowsHold energy kind rec × RowsHold (place_of Reserve) Reserve rec

  pub rows_held : Whole rec → is_ok (resource_rows_verdict rec.part rec.block) ≡ true → RowsHeld
  rows_held whole ok =
      let energy_count = both_pass _ _ ok in
      let reserve_count = both_pass _ _ energy_count.1 in
      let ladders = both_pass _ _ reserve_count.1 in (
        place_held energy kind whole (energy_count.0, ladders.0),
        place_held (place_of Reserve) Reserve whole (reserve_count.0, ladders.1),
      )

  pub rows_pass : RowsHeld → is_ok (resource_rows_verdict rec.part rec.block) ≡ true
  rows_pass held =
      let energy_passes = place_passes energy kind held.0 in
      let reserve_passes = place_passes (place_of Reserve) Reserve held.1 in
      pass_both _ _ energy_passes.0 (pass_both _ _ reserve_passes.0 (pass_both _ _ energy_passes.1 reserve_passes.1))
