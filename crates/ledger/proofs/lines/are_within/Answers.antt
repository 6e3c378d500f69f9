use Rattle.std.proofs.Common.{rules}
use Rattle.ledger.specs.Entries.{is_within}
use Rattle.ledger.proofs.lines.are_within.Goals as goal

pub returns : goal.returns
unfolding is_within
returns c = search rules
