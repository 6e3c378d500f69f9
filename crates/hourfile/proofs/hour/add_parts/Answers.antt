use Rattle.std.proofs.Common.{◌≡◌, ◌<◌, ◌≢◌, length, drop, get_or, pos, ap, ◌∙◌, arith, rules, below_more, get_or-set_other, get_or-set_same, get_or-take, length-append, length-drop, length-take-le, w64, SFits}
use Rattle.std.proofs.lemmas.Int.{to_z-of_z}
use Rattle.std.proofs.lemmas.List.{get_or_append_left}
use Rattle.hourfile.specs.Hours.{shared_line}
use Rattle.hourfile.specs.Lines.{line_of, no_lines}
use Rattle.hourfile.proofs.Setting.{behind, parts_same}
use Rattle.hourfile.proofs.hour.add_parts.Goals as goal
use Rattle.hourfile.proofs.hour.add_parts.Goals.{After-set_parts-2}

pub loop-place-preserved : goal.loop-place-preserved
loop-place-preserved c =
    let items = c.loop-place.lines-items in
    let here = c.loop-place.place in
    let room : here < length items = omega arith in
    let fits_uplift : SFits w64 (get_or c.args.uplift.now.owners here (pos 0)) = search rules in
    let fits_residual : SFits w64 (get_or c.args.residual.now.owners here (pos 0)) = search rules in
    let same = c.loop-place.invariant.others here (omega arith) in
    record {
      owned = below_more _ _
          (λ place h line. let ne : place ≢ here = omega arith in rw get_or-set_other (c.loop-place.invariant.owned place h line))
          (λ line.
          ap (λ x. line_of x line) (get_or-set_same items here c.set_parts.new.self no_lines room)
          ∙ c.set_parts.ensures line
          ∙ parts_same _ _ _ _ _ _ (λ l. ap (λ x. line_of x l) same) (to_z-of_z w64 _ fits_uplift) (to_z-of_z w64 _ fits_residual) line);
      others = λ place h. let ne : place ≢ here = omega arith in rw get_or-set_other (c.loop-place.invariant.others place (omega arith));
    }

-- the lines of the owners, which the loop wrote
front_length : (c : After-set_parts-2) → length c.loop-place.lines-items ≡ c.args.owners.number
front_length c = c.loop-place.auto.lines-items ∙ length-take-le _ _ (omega arith)

pub returns-clause-owned : goal.returns-clause-owned
returns-clause-owned c place line h =
    let places = c.args.places.now in
    let count = c.args.owners.number in
    let long = front_length (goal.at.returns-clause-owned c).After-set_parts-2 in
    let inside : place < length c.loop-place.lines-items = omega arith in
    let ne : place ≢ count = omega arith in
    ap (λ x. line_of x line) (get_or-set_other _ count place c.set_parts-2.new.self no_lines ne ∙ get_or_append_left c.loop-place.lines-items _ no_lines place inside)
    ∙ c.loop-place.invariant.owned place (omega arith) line
    ∙ ap (λ x. shared_line (line_of x) (get_or c.args.uplift.now.owners place (pos 0)) (get_or c.args.residual.now.owners place (pos 0)) line) (get_or-take count places place no_lines h)

pub returns-clause-operator : goal.returns-clause-operator
returns-clause-operator c line =
    let count = c.args.owners.number in
    let long = front_length (goal.at.returns-clause-operator c).After-set_parts-2 in
    let fits_uplift : SFits w64 c.args.uplift.now.operator = search rules in
    let fits_residual : SFits w64 c.args.residual.now.operator = search rules in
    let same = behind c.loop-place.lines-items c.args.places.now count count no_lines long (omega arith) in
    ap (λ x. line_of x line) (get_or-set_same _ count c.set_parts-2.new.self no_lines (omega (arith, length-append c.loop-place.lines-items (drop count c.args.places.now), length-drop count c.args.places.now)))
    ∙ c.set_parts-2.ensures line
    ∙ parts_same _ _ _ _ _ _ (λ l. ap (λ x. line_of x l) same) (to_z-of_z w64 _ fits_uplift) (to_z-of_z w64 _ fits_residual) line

pub returns-clause-others : goal.returns-clause-others
returns-clause-others c place h =
    let count = c.args.owners.number in
    let long = front_length (goal.at.returns-clause-others c).After-set_parts-2 in
    let ne : place ≢ count = omega arith in
    rw get_or-set_other (behind c.loop-place.lines-items c.args.places.now count place no_lines long (omega arith))
