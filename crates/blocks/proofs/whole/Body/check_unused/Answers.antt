use Rattle.std.proofs.Common.{◌&&◌, ◌∙◌, rules}
use Rattle.blocks.specs.Kinds.{is_unused}
use Rattle.blocks.specs.Records.{fault_at}
use Rattle.blocks.specs.Verdicts.{energy_rows, not_zero, reserve_rows}
use Rattle.blocks.specs.Words.{word_at}
use Rattle.blocks.specs.declared.fault.Rule.TheVariants as rules_of
use Rattle.blocks.proofs.Finding.{if_found-first_word}
use Rattle.blocks.proofs.whole.Body.check_unused.Goals as goal

pub returns : goal.returns
returns c =
    let body = c.args.self.now in
    let part = body.block.part.now in
    c.fault_if_found.ensures
    ∙ if_found-first_word (λ i. is_unused body.kind (energy_rows part) (reserve_rows part) i && not_zero (word_at part i)) (fault_at rules_of.Unused body.block.number) c.first_breach-found.ensures (λ k b said. search rules)
