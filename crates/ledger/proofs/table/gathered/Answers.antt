use Rattle.std.proofs.Common.{◌≡◌, ◌+◌, ◌<◌, List, get_or, take, length, refl, sym, ◌∙◌, arith, length-take-le}
use Rattle.std.proofs.lemmas.Bool.{and_from}
use Rattle.std.proofs.lemmas.List.Folds.{list_all_at, list_all_more}
use Rattle.ledger.specs.declared.entry.Entry.{Entry}
use Rattle.ledger.specs.Entries.{all_sound, is_sound}
use Rattle.ledger.proofs.Gathering.{tells_more, tells_none, whole_more, whole_none}
use Rattle.ledger.proofs.Holding.{sound_parts}
use Rattle.ledger.proofs.Standing.{blank, standing_within}
use Rattle.ledger.proofs.table.gathered.Goals as goal

pub loop-entry-init : goal.loop-entry-init
unfolding all_sound
loop-entry-init c = record { sound = refl; whole = whole_none c.empty_table-table.result c.empty_table-table.ensures; tells = tells_none 24 33 c.empty_table-table.result c.empty_table-table.ensures }

pub returns-in_err-hour : goal.returns-in_err-hour
unfolding all_sound
returns-in_err-hour c =
    let no = list_all_at (is_sound c.args.owners.number) c.args.entries.now c.loop-entry.entry-index blank c.loop-entry-test.true (sym c.in_err-hour.ensures.sound) in
    rw (c.from_residual.ensures, no) (record { sound = refl; tells = tt })

pub bounds-table-place : goal.bounds-table-place
bounds-table-place c =
    let s = sound_parts c.args.owners.number (get_or c.args.entries.now c.loop-entry.entry-index blank) (sym c.in_ok-hour.ensures.sound) in
    omega arith

pub bounds-table-place-in_ok-hour : goal.bounds-table-place-in_ok-hour
bounds-table-place-in_ok-hour c =
    let s = sound_parts c.args.owners.number (get_or c.args.entries.now c.loop-entry.entry-index blank) (sym c.in_ok-hour.ensures.sound) in
    omega arith

pub sum-requires : goal.sum-requires
sum-requires c =
    let s = sound_parts c.args.owners.number (get_or c.args.entries.now c.loop-entry.entry-index blank) (sym c.in_ok-hour.ensures.sound) in
    let before : List Entry = take c.loop-entry.entry-index c.args.entries.now in
    let long : length before ≡ c.loop-entry.entry-index = length-take-le c.loop-entry.entry-index c.args.entries.now (omega arith) in
    record {
      first = λ line.
          let told = c.loop-entry.invariant.tells c.index-hour.result (get_or c.args.entries.now c.loop-entry.entry-index blank).place line in
          let within = standing_within c.args.owners.number before c.loop-entry.invariant.sound (c.index-hour.result + 1) (get_or c.args.entries.now c.loop-entry.entry-index blank).place line in
          rw told (omega arith);
      second = λ line. let small = s.small line in omega arith;
    }

pub loop-entry-preserved : goal.loop-entry-preserved
unfolding all_sound
loop-entry-preserved c =
    let i = c.loop-entry.entry-index in
    let entries = c.args.entries.now in
    let is = sym c.in_ok-hour.ensures.sound in
    let s = sound_parts c.args.owners.number (get_or entries i blank) is in
    let hour = c.in_ok-hour.ensures.same in
    let row = c.index-hour.ensures in
    let below : c.index-hour.result < 24 = omega arith in
    let whole = c.loop-entry.invariant.whole in
    record {
      sound = list_all_more (is_sound c.args.owners.number) entries i blank c.loop-entry-test.true ∙ and_from _ _ c.loop-entry.invariant.sound is;
      whole = whole_more c.loop-entry.table c.index-hour.result (get_or entries i blank).place c.sum.result below whole;
      tells = tells_more c.loop-entry.table entries i c.index-hour.result c.sum.result c.loop-entry-test.true (omega arith) (let n = whole.rows in omega arith) (let n = whole.places c.index-hour.result below in omega arith) c.sum.ensures c.loop-entry.invariant.tells;
    }
