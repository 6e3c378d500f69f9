use Rattle.std.proofs.Common.{◌≡◌, ◌+◌, ◌-◌, List, [], map, length, get_or, take, Ok, refl, ap, ◌∙◌, arith, length-take, length-take-le, get_or-take}
use borrow.Rule.Slice.PartMut.{put_mid}
use Rattle.std.specs.List.{range_with_len}
use Rattle.std.proofs.lemmas.List.{get_or_default}
use Rattle.std.proofs.lemmas.List.FromFn.{length-map-range_with_len}
use Rattle.std.proofs.lemmas.Result.{err_from_is_err_and}
use Rattle.std.proofs.lemmas.Bool.{false≢true}
use Rattle.hourfile.specs.HourAnswers.{hour_of}
use Rattle.hourfile.specs.Hours.{amount}
use Rattle.hourfile.specs.Lines.{no_lines}
use Rattle.hourfile.specs.declared.lines.Lines.{Lines}
use Rattle.ledger.specs.Days.{numbers}
use Rattle.ledger.specs.Ledgers.{used_of}
use Rattle.ledger.specs.Numbers.{places}
use Rattle.ledger.specs.Postings.{appended, posting, postings}
use Rattle.ledger.specs.Settling.{settle_verdict, settled_day, settled_ledger}
use Rattle.ledger.specs.Tables.{posted}
use Rattle.ledger.proofs.Appending.{appended_by_part}
use Rattle.ledger.proofs.Posted.{posted_is}
use Rattle.ledger.proofs.Refusing.{accepted_by_all, held_if, refused_file, refused_room, room_if}
use Rattle.ledger.proofs.Settled.{settled_law}
use Rattle.ledger.proofs.day.OpenDay.settle.Goals as goal

-- ---- refused
pub returns-in_err-table : goal.returns-in_err-table
unfolding settle_verdict
returns-in_err-table g c =
    let p = err_from_is_err_and c.from_residual.result c.from_residual.ensures.1 in
    rw (p.1, p.2, ← c.in_err-table.ensures.verdict) (record { answer = refl; day = refl; entries = refl; law = λ ok. absurd (false≢true ok) })

pub returns-in_err-new : goal.returns-in_err-new
returns-in_err-new g c =
    let p = err_from_is_err_and c.from_residual-in_err-new.result c.from_residual-in_err-new.ensures.1 in
    let v = refused_file (numbers c.args.self.now) c.args.ledger.now c.args.file.now _ c.in_ok-table.ensures.verdict (rw c.owners.ensures at c.in_err-new.ensures.verdict) in
    rw (p.1, p.2, v) (record { answer = refl; day = refl; entries = refl; law = λ ok. absurd (false≢true ok) })

pub returns-in_err-check_room : goal.returns-in_err-check_room
returns-in_err-check_room g c =
    let p = err_from_is_err_and c.from_residual-in_err-check_room.result c.from_residual-in_err-check_room.ensures.1 in
    let v = refused_room (numbers c.args.self.now) c.args.ledger.now c.args.file.now _ c.in_ok-table.ensures.verdict (rw c.owners.ensures at c.in_ok-new.ensures.verdict) c.in_err-check_room.ensures in
    rw (p.1, p.2, v) (record { answer = refl; day = refl; entries = refl; law = λ ok. absurd (false≢true ok) })

-- ---- accepted
pub slice_bounds-post-end : goal.slice_bounds-post-end
slice_bounds-post-end g c =
    let n = numbers c.args.self.now in
    let same_length = (held_if n c.args.ledger.now c.in_ok-table.ensures.verdict).same_length in
    let room = room_if n c.in_ok-check_room.ensures in
    let count = c.places-places.ensures in
    omega arith

pub post-requires-clause-bounded : goal.post-requires-clause-bounded
post-requires-clause-bounded g c k d below line =
    let s = rw c.owners.ensures at c.in_ok-new.ensures.settles in
    let count = c.places-places.ensures in
    let places : List Lines = c.in_ok-new.new.places in
    let whole = c.in_ok-new.new.whole in
    let long = length-take-le c.places-places.result places (omega arith) in
    let at : get_or (take c.places-places.result places) k d ≡ get_or places k no_lines = get_or-take c.places-places.result places k d (omega arith) ∙ get_or_default places k d no_lines (omega arith) in
    let is = s.exact k line (omega arith) in
    let small = s.laws.bounded k line in
    rw (at, is) (omega arith)

pub post-requires-clause-limited : goal.post-requires-clause-limited
post-requires-clause-limited g c k d below line =
    let n = numbers c.args.self.now in
    let count = c.places-places.ensures in
    let row = c.index.ensures in
    let hour = c.in_ok-new.new.hour in
    let old : List Lines = get_or c.in_ok-table.table c.index.result [] in
    let long = length-take c.places-places.result old in
    let at : get_or (take c.places-places.result old) k d ≡ get_or old k no_lines = get_or-take c.places-places.result old k d (omega arith) ∙ get_or_default old k d no_lines (omega arith) in
    let small = (held_if n c.args.ledger.now c.in_ok-table.ensures.verdict).small (c.index.result + 1) k line (omega arith) (omega arith) (omega arith) in
    rw (at, c.in_ok-table.ensures.tells c.index.result k line) (omega arith)

pub returns : goal.returns
returns g c =
    let n = numbers c.args.self.now in
    let ledger = c.args.ledger.now in
    let file = c.args.file.now in
    let new = c.in_ok-new.new in
    let s = rw c.owners.ensures at c.in_ok-new.ensures.settles in
    let amounts = amount file n.owners (g.U.Basis.weighs c.args.uplift.now) (g.R.Basis.weighs c.args.residual.now) in
    let h = held_if n ledger c.in_ok-table.ensures.verdict in
    let same_length = h.same_length in
    let room = room_if n c.in_ok-check_room.ensures in
    let count = c.places-places.ensures in
    let row = c.index.ensures in
    let low = s.from in
    let high = s.to in
    let v = accepted_by_all n ledger file c.in_ok-table.ensures.verdict (rw c.owners.ensures at c.in_ok-new.ensures.verdict) c.in_ok-check_room.ensures in
    let day : numbers (record { numbers = c.settled-self.result }) ≡ settled_day n (hour_of file) = c.settled-self.ensures ∙ ap (settled_day n) s.hour_is in
    let lines : List Lines = new.places in
    let whole = new.whole in
    let old : List Lines = get_or c.in_ok-table.table c.index.result [] in
    let long : length (take c.places-places.result lines) ≡ places n = length-take-le c.places-places.result lines (omega arith) ∙ count in
    let entries : c.post.new.entries ≡ postings (hour_of file) (used_of n ledger) amounts (places n) =
    c.post.ensures
    ∙ ap (λ k. map (posted new.hour.number (take c.places-places.result lines) (take c.places-places.result old)) (range_with_len 0 k)) long
    ∙ rw count (posted_is n ledger new.hour.number c.index.result amounts c.in_ok-table.table lines (omega arith) c.in_ok-table.ensures.tells s.exact)
    ∙ ap (λ hour. postings hour (used_of n ledger) amounts (places n)) s.hour_is in
    let new_long : length c.post.new.entries ≡ places n = ap length entries ∙ length-map-range_with_len (posting (hour_of file) (used_of n ledger) amounts) 0 (places n) in
    let after : put_mid n.used (n.used + c.places-places.result - n.used) ledger c.post.new.entries ≡ settled_ledger n ledger (hour_of file) amounts =
    appended_by_part n.used c.post.new.entries ledger (omega arith) c.places-places.result (omega arith) ∙ ap (λ xs. appended n.used xs ledger) entries in
    let law = settled_law n ledger (hour_of file) amounts (omega arith) (omega arith) s.laws h (omega arith) in
    record {
      answer = rw v (ap Ok count);
      day = rw v day;
      entries = rw v after;
      law = λ _. rw (day, after) law;
    }
