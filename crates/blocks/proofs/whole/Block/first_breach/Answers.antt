use Rattle.std.proofs.Common.{true, false, rules}
use Rattle.std.proofs.lemmas.Iterator.{first_from_Range}
use Rattle.blocks.specs.Words.{word_at}
use Rattle.blocks.proofs.whole.Block.first_breach.Goals as goal

pub returns : goal.returns
returns g c =
    let part = c.args.self.now.part.now in
    record { lowest = first_from_Range _ _ _ c.find.result (λ k. goal.F-post g c.args.breaks k (word_at part k) true) (λ k. goal.F-post g c.args.breaks k (word_at part k) false) c.find.ensures.ran (λ x q called. search rules) (λ x q called. search rules) }
