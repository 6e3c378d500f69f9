use Rattle.std.proofs.Common.{rules, arith}
use Rattle.std.proofs.lemmas.Iterator.{YieldsList-from_slice}
use Rattle.std.proofs.lemmas.Iterator.Adapters.{at_most_from_yields_List, fits_from_length}
use Rattle.hourfile.proofs.tally.readings.Goals as goal

pub sum-requires-clause-fits : goal.sum-requires-clause-fits
sum-requires-clause-fits c =
    fits_from_length _ _ 12 _ (at_most_from_yields_List (YieldsList-from_slice c.args.position.now.intervals cc) (omega arith)) c.map.ensures.closure (omega arith) (λ x r q k. search rules)

pub returns-clause-bound : goal.returns-clause-bound
returns-clause-bound c =
    let run = c.sum.ensures.runs tt in
    let few = fits_from_length _ _ 12 100801 (at_most_from_yields_List (YieldsList-from_slice c.args.position.now.intervals cc) (omega arith)) c.map.ensures.closure (omega arith) (λ x r q k. search rules) run.0 run.0.seen run.1 in
    omega (arith, run.3)
