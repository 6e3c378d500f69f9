use Rattle.std.proofs.Common.{rules}
use Rattle.hourfile.proofs.Rounding.{nothing_rounds}
use Rattle.hourfile.proofs.hour.own_lines_at.Goals as goal

pub returns : goal.returns
returns c line = search (rules, nothing_rounds)
