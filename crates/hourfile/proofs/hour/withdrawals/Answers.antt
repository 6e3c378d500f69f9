use Rattle.std.proofs.Common.{◌∙◌, sym, ap, ⊎_elim, arith, rules}
use Rattle.std.proofs.lemmas.Bool.{cases_lt}
use Rattle.std.proofs.lemmas.List.{get_or_past}
use Rattle.hourfile.specs.Tallies.{no_tally}
use Rattle.hourfile.proofs.hour.withdrawals.Goals as goal

pub returns-clause-quantities : goal.returns-clause-quantities
returns-clause-quantities c place =
    ⊎_elim
    (λ h. search rules)
    (λ h. get_or_past c.from_fn.result place 0 (omega (arith, c.from_fn.ensures.items.long)) ∙ sym (ap (λ t. t.withdrawn) (get_or_past c.args.tallies.now place no_tally (omega arith))))
    (cases_lt place 32)
