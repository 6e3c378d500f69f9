use Rattle.std.proofs.Common.{◌≡◌, ◌+◌, length, pos, ◌∙◌, arith, rules}
use Rattle.blocks.proofs.Encoding.{words_of_from_fn}
use Rattle.blocks.proofs.Filling.{filled_by}
use Rattle.blocks.proofs.RoundTrip.{four_first}
use Rattle.blocks.specs.Words.{word_at}
use Rattle.blocks.proofs.block.BlockRecordFromBlock.from.Goals as goal

pub returns : goal.returns
returns c =
    let part = c.args.block.part.now in
    let long : length part ≡ 512 = search rules in
    let head = four_first part (omega arith) in
    let words = filled_by _ (λ i. word_at part (i + 1)) _ (λ k y q called. search rules) c.from_fn.result 126 (pos 0) c.from_fn.ensures.items ∙ words_of_from_fn 126 part in
    λ k. record { head = head k; words = words k }
