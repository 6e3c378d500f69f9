use Rattle.blocks.specs.Records.{opened}
use Rattle.records.proofs.Holding.{virtual_read}
use Rattle.records.proofs.virtual_position.Goals as goal

pub returns-in-Virtual : goal.returns-in-Virtual
returns-in-Virtual c = virtual_read (opened c.args.block.now) c.in-Virtual.ensures c.virtual_position_at.result c.virtual_position_at.ensures
