use Rattle.std.proofs.Common.{length, refl}
use Rattle.std.proofs.lemmas.Bool.{eq-eqb, ne_eqb}
use Rattle.ledger.specs.Ledgers.{ledger_holds}
use Rattle.ledger.proofs.day.DayNumbers.standing.Goals as goal

pub returns-then-ledger-self-clause-verdict : goal.returns-then-ledger-self-clause-verdict
unfolding ledger_holds
returns-then-ledger-self-clause-verdict c = rw (ne_eqb (length c.args.ledger.now) c.args.self.now.length c.if-ledger-self.true)

pub returns-in-Some-clause-verdict : goal.returns-in-Some-clause-verdict
unfolding ledger_holds
returns-in-Some-clause-verdict c =
    rw (eq-eqb (length c.args.ledger.now) c.args.self.now.length c.if-ledger-self.false, ← c.owners.ensures, ← c.in-Some.ensures.holds) refl

pub returns-in-None-clause-verdict : goal.returns-in-None-clause-verdict
unfolding ledger_holds
returns-in-None-clause-verdict c =
    rw (eq-eqb (length c.args.ledger.now) c.args.self.now.length c.if-ledger-self.false, ← c.owners.ensures, ← c.in-None.ensures.holds) refl
