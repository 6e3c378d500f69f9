use Rattle.std.proofs.Common.{ap, ◌∙◌, arith, rules}
use Rattle.blocks.specs.Records.{opened}
use Rattle.ladders.specs.Offers.{rows_of}
use Rattle.records.specs.Held.{place_of}
use Rattle.records.proofs.Making.{ladder_read}
use Rattle.records.proofs.rows.ladder.Goals as goal

pub returns : goal.returns
returns g c =
    ladder_read rows_of g.K.RowKind.KIND (opened c.args.block.now) c.of-place.result c.in_ok-count.count c.fill.new.places _ c.new.result c.ok.result
    (c.of-place.ensures ∙ ap place_of c.KIND.ensures)
    (omega arith)
    c.in_ok-count.ensures
    c.in_ok-fill.ensures
    c.new.ensures
    c.ok.ensures.value
    (λ k r h found. search rules)
