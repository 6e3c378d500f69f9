use Rattle.std.proofs.Common.{◌≡◌, ◌+◌, ◌*◌, ◌++◌, get_or, take, drop, pos, ap, ◌∙◌, arith, w32, SFits, rules}
use Rattle.std.proofs.ByRecursion.{All-more}
use Rattle.std.proofs.lemmas.List.{take_all}
use Rattle.std.proofs.lemmas.Int.{to_z-of_z}
use Rattle.blocks.specs.Lone.{bytes_of}
use Rattle.blocks.specs.Words.{with_word}
use Rattle.blocks.proofs.RoundTrip.{put_step}
use Rattle.blocks.proofs.block.put_words.Goals as goal

pub loop-i-preserved : goal.loop-i-preserved
loop-i-preserved c =
    let i = c.loop-i.i in
    let w = get_or c.args.words.now i (pos 0) in
    let fits : SFits w32 w = search rules in
    record {
      bytes = c.put_word.ensures ∙ (λ k. with_word (c.loop-i.invariant.bytes k) (i + 1) (to_z-of_z w32 w fits k)) ∙ put_step c.args.part.now c.args.words.now i (omega arith) (omega arith);
      fit = All-more (SFits w32) c.args.words.now i (pos 0) (omega arith) c.loop-i.invariant.fit fits;
    }

pub returns-clause-bytes : goal.returns-clause-bytes
returns-clause-bytes c =
    let end : c.loop-i.i ≡ 126 = omega arith in
    let e = c.args.part.now in
    let words = c.args.words.now in
    c.loop-i.invariant.bytes
    ∙ ap (λ i. (take 4 e ++ bytes_of (take i words)) ++ drop (4 * (i + 1)) e) end
    ∙ ap (λ ws. (take 4 e ++ bytes_of ws) ++ drop 508 e) (take_all 126 words (omega arith))
