use Rattle.std.proofs.Common.{rules}
use Rattle.blocks.specs.Records.{opened}
use Rattle.market.specs.Views.{reserve_interval_of}
use Rattle.records.specs.Contents.{reserve_interval_at}
use Rattle.records.specs.Held.{ReserveIntervalHolds}
use Rattle.records.proofs.Finding.{twelve_read}
use Rattle.records.proofs.intervals.reserve_intervals.Goals as goal

pub returns : goal.returns
returns c =
    let rec = opened c.args.block.now in
    twelve_read reserve_interval_of (ReserveIntervalHolds rec) (reserve_interval_at rec.part) c.twelve.result c.twelve.ensures (λ t r h found. search rules)
