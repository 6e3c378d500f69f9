use Rattle.std.proofs.Common.{◌^◌, ◌<◌, sym, subst, arith}
use Rattle.ledger.proofs.Mask.{marked_low}
use Rattle.ledger.proofs.day.DayNumbers.settled.Goals as goal

pub invariant_of-result-clause-hours : goal.invariant_of-result-clause-hours
invariant_of-result-clause-hours c =
    subst (λ n. n < 2 ^ 24) (sym c.mark.ensures) (marked_low c.args.self.now.settled c.args.hour.number (omega arith) c.args.hour.from c.args.hour.to)
