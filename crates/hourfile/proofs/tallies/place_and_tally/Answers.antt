use Rattle.std.proofs.Common.{◌≡◌, length, sym, ap, ◌∙◌, arith, rules}
use Rattle.blocks.specs.Records.{opened}
use Rattle.blocks.specs.Words.{byte_at}
use Rattle.hourfile.proofs.Deciding.{below_none}
use Rattle.hourfile.proofs.Passed.{Stands, adds_line, adds_withdrawn, has_its_position, has_its_virtual, later_place, record_stands}
use Rattle.hourfile.proofs.tallies.place_and_tally.Goals as goal
use Rattle.hourfile.proofs.tallies.place_and_tally.Goals.{In_ok-record}

stands : (c : In_ok-record) → Stands c.args.file.now.bytes.now c.args.file.now.owners c.args.block (opened c.in_ok-record.record)
stands c = record_stands _ _ _ _ c.requires.inside (below_none _ (sym c.in_ok-record.ensures.verdict)) c.in_ok-record.ensures.opens

pub bounds-part-3 : goal.bounds-part-3
bounds-part-3 c = let whole : length c.part.result.now ≡ 512 = ap length c.part.ensures ∙ (stands (goal.at.bounds-part-3 c).In_ok-record).whole in search rules

pub block_tally-requires-clause-resource : goal.block_tally-requires-clause-resource
block_tally-requires-clause-resource c = has_its_position _ _ _ _ (stands (goal.at.block_tally-requires-clause-resource c).In_ok-record)

pub block_tally-requires-clause-traded : goal.block_tally-requires-clause-traded
block_tally-requires-clause-traded c = has_its_virtual _ _ _ _ (stands (goal.at.block_tally-requires-clause-traded c).In_ok-record)

pub returns-clause-adds : goal.returns-clause-adds
returns-clause-adds c =
    let s = stands (goal.at.returns-clause-adds c).In_ok-record in
    let is = c.from-place.ensures ∙ ap (λ part. byte_at part 3) c.part.ensures in
    record {
      stands = is ∙ ap (λ part. byte_at part 3) s.part;
      owned = omega (arith, later_place _ _ _ _ c.requires.later s);
      grains = λ line. c.block_tally.ensures.grains line ∙ adds_line _ _ _ _ s _ c.requires.priced line;
      withdrawn = c.block_tally.ensures.withdrawn ∙ adds_withdrawn _ _ _ _ s;
      bounds = c.block_tally.ensures.bounds;
    }
