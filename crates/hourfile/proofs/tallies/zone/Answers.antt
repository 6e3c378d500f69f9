use Rattle.std.proofs.Common.{sym, ap, ◌∙◌}
use Rattle.blocks.specs.Records.{opened}
use Rattle.market.specs.Views.{zone_prices_of}
use Rattle.records.specs.Contents.{zone_prices_at}
use Rattle.hourfile.proofs.Deciding.{below_none}
use Rattle.hourfile.proofs.Held.{held_is, some_held}
use Rattle.hourfile.proofs.Passed.{Stands, has_its_zone, header_kind, record_stands}
use Rattle.hourfile.proofs.tallies.zone.Goals as goal
use Rattle.hourfile.proofs.tallies.zone.Goals.{In_ok-open}

header : (c : In_ok-open) → Stands c.args.file.now.bytes.now c.args.file.now.owners 0 (opened c.in_ok-open.field-0)
header c = record_stands _ _ 0 _ c.args.file.now.some (below_none _ (sym c.in_ok-open.ensures.verdict)) c.in_ok-open.ensures.opens

pub unwrap-requires : goal.unwrap-requires
unwrap-requires c =
    let s = header (goal.at.unwrap-requires c).In_ok-open in
    some_held zone_prices_of _ _ (has_its_zone _ _ _ _ s (header_kind _ _ _ s)) c.zone_prices.result c.zone_prices.ensures

pub returns-clause-prices : goal.returns-clause-prices
returns-clause-prices c =
    let s = header (goal.at.returns-clause-prices c).In_ok-open in
    held_is zone_prices_of _ _ (has_its_zone _ _ _ _ s (header_kind _ _ _ s)) c.zone_prices.result c.unwrap.result c.zone_prices.ensures c.unwrap.ensures ∙ ap zone_prices_at s.part
