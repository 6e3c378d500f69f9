use Rattle.std.proofs.Common.{◌≡◌, ℕ, List, ◌++◌, length, drop, replicate, pos, ap, ◌∙◌, arith, w32, rules}
use Rattle.std.proofs.lemmas.List.{append-nil, drop_all}
use Rattle.std.proofs.lemmas.Int.{to_z_pos}
use Rattle.blocks.specs.Lone.{encoded}
use Rattle.blocks.proofs.RoundTrip.{all_written, body_check, body_written, encoded_check, reads_back}
use Rattle.blocks.proofs.block.BlockRecord.encode.Goals as goal

pub returns : goal.returns
returns c =
    let r = c.args.self.now in
    let e : List ℕ = replicate 512 0 in
    let four : length r.head ≡ 4 = search rules in
    let most : length r.words ≡ 126 = search rules in
    let first = ap (λ h. h ++ drop 4 e) c.copy_from_slice.ensures.after in
    let body = body_written r e _ _ four first c.put_words.ensures.bytes in
    let check = to_z_pos w32 c.check_sum-check.result (omega arith) ∙ ap (λ n. pos n) c.check_sum-check.ensures.value in
    record {
      bytes = all_written r e _ _ _ four most body check c.put_word.ensures ∙ ap (λ rest. encoded r ++ rest) (drop_all 512 e (omega arith)) ∙ append-nil (encoded r);
      right = encoded_check r four most (omega (arith, body_check r e _ four most body, c.check_sum-check.ensures.value, c.check_sum-check.ensures.small));
      back = reads_back r four most c.put_words.ensures.fit;
    }
