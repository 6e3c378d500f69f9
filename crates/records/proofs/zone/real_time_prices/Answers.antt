use Rattle.std.proofs.Common.{rules}
use Rattle.blocks.specs.Records.{opened}
use Rattle.market.specs.Views.{value_of}
use Rattle.records.specs.Contents.{zone_price_at}
use Rattle.records.specs.Held.{ZonePriceHolds}
use Rattle.records.proofs.Finding.{twelve_read}
use Rattle.records.proofs.zone.real_time_prices.Goals as goal

pub returns : goal.returns
returns c =
    let rec = opened c.args.block.now in
    twelve_read value_of (ZonePriceHolds rec) (zone_price_at rec.part) c.twelve.result c.twelve.ensures (λ t r h found. search rules)
