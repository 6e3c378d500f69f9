use Rattle.blocks.specs.Records.{opened}
use Rattle.records.proofs.Holding.{position_read}
use Rattle.records.proofs.position.Goals as goal

pub returns-in-Resource : goal.returns-in-Resource
returns-in-Resource c = position_read (opened c.args.block.now) c.in-Resource.ensures c.position_at.result c.position_at.ensures
