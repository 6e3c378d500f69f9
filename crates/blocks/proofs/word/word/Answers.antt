use Rattle.std.proofs.Common.{◌≡◌, length, rules, ◌∙◌, w32}
use Rattle.std.proofs.lemmas.Int.{to_z-of_z}
use Rattle.blocks.proofs.Chunks.{word_read}
use Rattle.blocks.proofs.word.word.Goals as goal

pub returns : goal.returns
returns c =
    let part = c.args.part.now in
    let long : length part ≡ 512 = search rules in
    to_z-of_z w32 c.map_or.result (search rules) ∙ word_read part c.args.i c.get.result c.map_or.result long (search rules) (search rules)
