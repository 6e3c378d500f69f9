use Rattle.std.proofs.Common.{◌≡◌, length, Ok, ap, ◌∙◌, rules}
use Rattle.std.proofs.lemmas.Bool.{eq-eqb}
use Rattle.blocks.specs.Lone.{encoded}
use Rattle.blocks.specs.Settings.{alone}
use Rattle.blocks.specs.Verdicts.{block_verdict, body_verdict, check_verdict}
use Rattle.blocks.proofs.Passing.{both_pass, right_check}
use Rattle.blocks.proofs.block.BlockRecord.write.Goals as goal

pub returns-clause-reads_back : goal.returns-clause-reads_back
returns-clause-reads_back c =
    let r = c.args.self.now in
    let block = c.encode-part.ensures.bytes in
    let long : length (encoded r) ≡ 512 = search rules in
    let body : body_verdict alone 0 (encoded r) ≡ Ok tt = search rules in
    let whole : block_verdict alone 0 (encoded r) ≡ Ok tt = both_pass (check_verdict 0 (encoded r)) (body_verdict alone 0 (encoded r)) (right_check 0 (encoded r) c.encode-part.ensures.right) body in
    let bytes = c.copy_from_slice.ensures.after ∙ block in
    λ _. rw bytes (rw (eq-eqb (length (encoded r)) 512 long, whole) (ap Ok c.encode-part.ensures.back))
