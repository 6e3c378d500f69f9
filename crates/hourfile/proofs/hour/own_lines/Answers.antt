use Rattle.std.proofs.Common.{◌≡◌, get_or, sym, ap, ◌∙◌, ⊎_elim, arith, rules}
use Rattle.std.proofs.lemmas.Bool.{cases_lt}
use Rattle.std.proofs.lemmas.List.{get_or_past}
use Rattle.market.specs.Cents.{nearest_cent}
use Rattle.hourfile.specs.declared.lines.Line.{Line}
use Rattle.hourfile.specs.Lines.{line_of, no_lines}
use Rattle.hourfile.specs.Tallies.{grains_on, no_tally}
use Rattle.hourfile.proofs.Made.{made_at}
use Rattle.hourfile.proofs.Rounding.{nothing_rounds}
use Rattle.hourfile.proofs.hour.own_lines.Goals as goal

pub returns-clause-lines : goal.returns-clause-lines
returns-clause-lines c place line =
    let made = c.from_fn.ensures.items in
    ⊎_elim
    (λ h.
    made_at _ _ (λ place lines. (line : Line) → line_of lines line ≡ nearest_cent (grains_on (get_or c.args.owned.now place no_tally) line))
    (λ i y q called. (search rules, λ line. search rules)) c.from_fn.result no_lines 33 made place h line)
    (λ h.
    ap (λ x. line_of x line) (get_or_past c.from_fn.result place no_lines (omega (arith, made.long)))
    ∙ nothing_rounds line
    ∙ sym (ap (λ t. nearest_cent (grains_on t line)) (get_or_past c.args.owned.now place no_tally (omega arith))))
    (cases_lt place 33)
