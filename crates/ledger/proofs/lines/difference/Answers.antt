use Rattle.ledger.proofs.lines.difference.Goals as goal

pub returns : goal.returns
returns c line = (c.lines_of.ensures line).1
