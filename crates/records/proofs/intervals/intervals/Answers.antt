use Rattle.std.proofs.Common.{rules}
use Rattle.blocks.specs.Records.{opened}
use Rattle.market.specs.Views.{interval_of}
use Rattle.records.specs.Contents.{interval_at}
use Rattle.records.specs.Held.{IntervalHolds}
use Rattle.records.proofs.Finding.{twelve_read}
use Rattle.records.proofs.intervals.intervals.Goals as goal

pub returns : goal.returns
returns c =
    let rec = opened c.args.block.now in
    twelve_read interval_of (IntervalHolds rec) (interval_at rec.part) c.twelve.result c.twelve.ensures (λ t r h found. search rules)
