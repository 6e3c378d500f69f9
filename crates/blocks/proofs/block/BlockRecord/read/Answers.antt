use Rattle.std.proofs.Common.{◌≡◌, ◌<◌, length, Ok, ap, ◌∙◌, arith, rules}
use Rattle.std.specs.List.{AllByRecursion as All}
use Rattle.std.proofs.ByRecursion.{All-from_get_or}
use Rattle.blocks.specs.Lone.{decoded, encoded}
use Rattle.blocks.specs.Settings.{alone}
use Rattle.blocks.specs.Verdicts.{block_verdict, body_verdict, check_verdict}
use Rattle.blocks.proofs.Passing.{check_right, first_passes}
use Rattle.blocks.proofs.RoundTrip.{writes_back}
use Rattle.blocks.proofs.block.BlockRecord.read.Goals as goal

pub returns-clause-writes_back : goal.returns-clause-writes_back
returns-clause-writes_back c =
    let part = c.args.part.now in
    let long : length part ≡ 512 = search rules in
    let bytes : All (λ x. x < 256) part = All-from_get_or (λ x. x < 256) part 0 (λ i h. let b = c.type_inv.part i in omega arith) in
    let passes : block_verdict alone 0 part ≡ Ok tt = search rules in
    let checked = check_right 0 part (first_passes (check_verdict 0 part) (body_verdict alone 0 part) passes).0 in
    let read : c.from.result ≡ decoded part = search rules in
    ap encoded read ∙ writes_back part long bytes checked
