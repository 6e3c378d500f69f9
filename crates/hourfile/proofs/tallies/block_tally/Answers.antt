use Rattle.std.proofs.Common.{Some, sym, ap, ◌∙◌}
use Rattle.blocks.specs.Records.{opened}
use Rattle.market.specs.Views.{position_of, zone_prices_of}
use Rattle.hourfile.specs.Hours.{kind_line, kind_withdrawn, position_line, withdrawn_in}
use Rattle.hourfile.proofs.Held.{held_is}
use Rattle.hourfile.proofs.tallies.block_tally.Goals as goal

pub returns-in-Resource-clause-grains : goal.returns-in-Resource-clause-grains
returns-in-Resource-clause-grains c line =
    let rec = opened c.args.block.now in
    let is = c.in-Resource.ensures in
    let held = held_is position_of _ _ (c.requires.resource (sym is)) c.position.result c.unwrap.result c.position.ensures c.unwrap.ensures in
    c.of_position.ensures.grains line ∙ ap (λ p. position_line p line) held ∙ ap (λ k. kind_line (Some k) (zone_prices_of c.args.zone.now) rec.part line) is

pub returns-in-Resource-clause-withdrawn : goal.returns-in-Resource-clause-withdrawn
returns-in-Resource-clause-withdrawn c =
    let rec = opened c.args.block.now in
    let is = c.in-Resource.ensures in
    let held = held_is position_of _ _ (c.requires.resource (sym is)) c.position.result c.unwrap.result c.position.ensures c.unwrap.ensures in
    c.of_position.ensures.withdrawn ∙ ap withdrawn_in held ∙ ap (λ k. kind_withdrawn (Some k) rec.part) is
