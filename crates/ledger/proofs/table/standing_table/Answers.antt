use Rattle.std.proofs.Common.{refl}
use Rattle.ledger.proofs.Gathering.{tells_within}
use Rattle.ledger.proofs.table.standing_table.Goals as goal

pub returns-then-table_within-clause-holds : goal.returns-then-table_within-clause-holds
returns-then-table_within-clause-holds c =
    let told = c.in_ok-table.ensures in
    rw (← told.sound, ← tells_within c.args.owners.number c.in_ok-table.table c.args.entries.now told.tells, ← c.table_within.ensures, c.if-table_within.true) refl

pub returns-else-table_within-clause-holds : goal.returns-else-table_within-clause-holds
returns-else-table_within-clause-holds c =
    let told = c.in_ok-table.ensures in
    rw (← told.sound, ← tells_within c.args.owners.number c.in_ok-table.table c.args.entries.now told.tells, ← c.table_within.ensures, c.if-table_within.false) refl
