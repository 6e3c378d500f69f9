use Rattle.std.proofs.Common.{ℕ, List, length, get_or, ℤ, ◌-ℤ◌, arith}
use Rattle.std.proofs.lemmas.Iterator.Consumers.{YieldsList-end, YieldsList-turn}
use Rattle.std.proofs.lemmas.List.{length_push}
use Rattle.std.proofs.lemmas.List.Edits.{fill_by_more}
use Rattle.std.proofs.lemmas.List.FromFn.{fill_by_all}
use Rattle.hourfile.specs.Lines.{line_of, no_lines}
use Rattle.hourfile.specs.declared.lines.Line.{Line}
use Rattle.hourfile.specs.declared.lines.Lines.{Lines}
use Rattle.ledger.specs.Tables.{posted}
use Rattle.ledger.proofs.Lined.{lines_are}
use Rattle.ledger.proofs.Placing.{both_from, length-placed, placed}
use Rattle.ledger.proofs.Standing.{blank}
use Rattle.ledger.proofs.posting.post.Goals as goal

pub loop-place-preserved : goal.loop-place-preserved
loop-place-preserved c k below =
    let new : List Lines = c.args.new.now in
    let standing : List Lines = c.args.standing.now in
    let road = both_from new standing c.iter.ensures.rest c.zip.ensures.first c.zip.ensures.second.0 c.enumerate-place-items.ensures.source c.enumerate-place-items.ensures.count c.into_iter-place-iterator.ensures.into_iter_gives in
    let turn = YieldsList-turn road c.loop-place.yielded c.loop-place.place-iterator c.loop-place.yielded_by c.next.result c.next.new.self (c.in-Some.place, (c.in-Some.new, c.in-Some.standing)) c.in-Some.is c.next.ensures.steps in
    let i : ℕ = length c.loop-place.yielded in
    let p = placed new standing i c.in-Some.place c.in-Some.new.now no_lines c.in-Some.standing.now no_lines turn.0 turn.1 in
    let inside = p.below in
    let push = length_push c.loop-place.yielded (c.in-Some.place, (c.in-Some.new, c.in-Some.standing)) in
    let change : Line → ℤ = λ line. line_of (get_or new i no_lines) line -ℤ line_of (get_or standing i no_lines) line in
    let lines = lines_are c.difference.result change (λ line. rw (← p.first, ← p.second) (c.difference.ensures line)) in
    rw (p.place_is, lines) (fill_by_more (posted c.args.hour.number new standing) c.loop-place.entries i blank (omega arith) c.loop-place.invariant k (omega arith))

pub returns : goal.returns
returns c =
    let new : List Lines = c.args.new.now in
    let standing : List Lines = c.args.standing.now in
    let road = both_from new standing c.iter.ensures.rest c.zip.ensures.first c.zip.ensures.second.0 c.enumerate-place-items.ensures.source c.enumerate-place-items.ensures.count c.into_iter-place-iterator.ensures.into_iter_gives in
    let end = YieldsList-end road c.loop-place.yielded c.loop-place.place-iterator c.loop-place.yielded_by c.next.result c.next.new.self c.in-None.is c.next.ensures.steps in
    let all = end.1 in
    let long = length-placed new standing in
    fill_by_all (posted c.args.hour.number new standing) c.loop-place.entries (length new) blank (omega arith) (λ k below. c.loop-place.invariant k (omega arith))
