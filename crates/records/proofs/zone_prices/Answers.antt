use Rattle.blocks.specs.Records.{opened}
use Rattle.records.proofs.Holding.{zone_read}
use Rattle.records.proofs.zone_prices.Goals as goal

pub returns-in-Header : goal.returns-in-Header
returns-in-Header c = zone_read (opened c.args.block.now) c.in-Header.ensures c.zone_prices_at.result c.zone_prices_at.ensures
