use Rattle.std.proofs.Common.{◌∙◌, rules}
use Rattle.blocks.specs.Kinds.{figure_at}
use Rattle.blocks.specs.Records.{fault_at}
use Rattle.blocks.specs.Verdicts.{out_of_range}
use Rattle.blocks.specs.Words.{word_at}
use Rattle.blocks.specs.declared.fault.Rule.TheVariants as rules_of
use Rattle.blocks.proofs.Finding.{if_found-first_word}
use Rattle.blocks.proofs.whole.Body.check_ranges.Goals as goal

pub returns : goal.returns
returns c =
    let body = c.args.self.now in
    let part = body.block.part.now in
    c.fault_if_found.ensures
    ∙ if_found-first_word (λ i. out_of_range (figure_at body.kind i) (word_at part i)) (fault_at rules_of.Range body.block.number) c.first_breach-found.ensures (λ k b said. search rules)
