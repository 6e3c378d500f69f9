use Rattle.std.proofs.Common.{rules}
use Rattle.blocks.specs.Ladders.{nth_row}
use Rattle.blocks.proofs.Filling.{filled_by}
use Rattle.blocks.proofs.whole.Block.rows.Goals as goal

pub returns : goal.returns
returns c =
    let row = nth_row c.args.ladder c.args.self.now.part.now in
    filled_by _ row _ (λ k y q called. search rules) c.from_fn.result 20 (row 0) c.from_fn.ensures.items
