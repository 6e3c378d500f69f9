use Rattle.std.proofs.Common.{◌∙◌, rules}
use Rattle.blocks.specs.Kinds.{schedule_at}
use Rattle.blocks.specs.Records.{fault_at}
use Rattle.blocks.specs.Rules.{past}
use Rattle.blocks.specs.Verdicts.{energy_end, reserve_end}
use Rattle.blocks.specs.Words.{word_at}
use Rattle.blocks.specs.declared.fault.Rule.TheVariants as rules_of
use Rattle.blocks.proofs.Finding.{if_found-first_word}
use Rattle.blocks.proofs.whole.Body.check_schedules.Goals as goal

pub returns : goal.returns
returns c =
    let body = c.args.self.now in
    let part = body.block.part.now in
    rw c.in-Resource.is
    (c.fault_if_found.ensures
    ∙ if_found-first_word (λ i. past (energy_end part) (reserve_end part) (schedule_at i) (word_at part i)) (fault_at rules_of.Schedule body.block.number) c.first_breach-found.ensures (λ k b said. search rules))
