use Rattle.std.proofs.Common.{rules}
use Rattle.blocks.proofs.Ordering.{lowest_of}
use Rattle.blocks.proofs.block.open.Goals as goal

pub returns-in_err-checked-clause-lowest : goal.returns-in_err-checked-clause-lowest
returns-in_err-checked-clause-lowest c = lowest_of c.args.limits.now c.args.block c.args.part.now _ (search rules)
