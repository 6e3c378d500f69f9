-- A record written as a block, and read back.
use Rattle.std.proofs.Common.{◌≡◌, ℕ, ◌+◌, ◌*◌, ◌^◌, ◌<◌, ◌≤◌, List, [], ◌∷◌, ◌++◌, length, get_or, take, drop, ℤ, pos, sym, refl, ap, ◌∙◌, append_assoc, arith, lit≤, w32, SFits, to_z}
use Rattle.std.specs.List.{AllByRecursion as All}
use Rattle.std.proofs.ByRecursion.{All-drop}
use Rattle.std.proofs.lemmas.List.{drop-drop, take_at, drop_at, take_all, take-take, get_or-drop, take_more, flat_map_more, length-append, length-take-le, length-drop, take-append-drop, drop-take}
use Rattle.std.proofs.lemmas.Int.{to_z_pos}
use Rattle.blocks.specs.declared.block.BlockRecord.{BlockRecord}
use Rattle.blocks.specs.Words.{check_of}
use Rattle.blocks.specs.Lone.{bytes_of, words_of, body_of, encoded, decoded}
use Rattle.blocks.specs.Words.{word_at, word_bytes, with_word}
use Rattle.blocks.proofs.Sums.{weighted_front}
use Rattle.blocks.proofs.Encoding.{length-bytes_of, words_of-bytes_of, bytes_of-words_of, value_of}

pub four_first : (bytes : List ℕ) → 4 ≤ length bytes → get_or bytes 0 0 ∷ get_or bytes 1 0 ∷ get_or bytes 2 0 ∷ get_or bytes 3 0 ∷ [] ≡ take 4 bytes
four_first [] h = absurd (omega arith)
four_first (a ∷ []) h = absurd (omega arith)
four_first (a ∷ b ∷ []) h = absurd (omega arith)
four_first (a ∷ b ∷ c ∷ []) h = absurd (omega arith)
four_first (a ∷ b ∷ c ∷ d ∷ bytes) h = refl

-- the front is written up to `at`, and the next four bytes are written
over : (pre e g : List ℕ) (at : ℕ) → length pre ≡ at → take at (pre ++ drop at e) ++ (g ++ drop (at + 4) (pre ++ drop at e)) ≡ (pre ++ g) ++ drop (at + 4) e
over pre e g at h =
    let front = take_at pre (drop at e) at h in
    let back : drop (at + 4) (pre ++ drop at e) ≡ drop (at + 4) e = sym (drop-drop 4 at (pre ++ drop at e)) ∙ ap (drop 4) (drop_at pre (drop at e) at h) ∙ drop-drop 4 at e in
    rw (front, back) (sym (append_assoc pre g (drop (at + 4) e)))

-- one more word written
pub put_step : (e : List ℕ) (ws : List ℤ) (i : ℕ) → i < length ws → 4 ≤ length e → with_word ((take 4 e ++ bytes_of (take i ws)) ++ drop (4 * (i + 1)) e) (i + 1) (get_or ws i (pos 0)) ≡ (take 4 e ++ bytes_of (take (i + 1) ws)) ++ drop (4 * (i + 1 + 1)) e
put_step e ws i lt long =
    let w = get_or ws i (pos 0) in
    let pre = take 4 e ++ bytes_of (take i ws) in
    let size : length pre ≡ 4 * (i + 1) = omega (arith, length-append (take 4 e) (bytes_of (take i ws)), length-take-le 4 e long, length-bytes_of (take i ws), length-take-le i ws (omega arith)) in
    let grown : pre ++ word_bytes w ≡ take 4 e ++ bytes_of (take (i + 1) ws) = flat_map_more word_bytes (take 4 e) (take i ws) w ∙ ap (λ xs. take 4 e ++ bytes_of xs) (sym (take_more ws i (pos 0) lt)) in
    let next : 4 * (i + 1) + 4 ≡ 4 * (i + 1 + 1) = omega arith in
    over pre e (word_bytes w) (4 * (i + 1)) size ∙ (λ k. grown k ++ drop (next k) e)

length-body : (r : BlockRecord) → length r.head ≡ 4 → length r.words ≡ 126 → length (body_of r) ≡ 508
length-body r four most = omega (arith, length-append r.head (bytes_of r.words), length-bytes_of r.words)

-- the head and the words, one written after the other
pub body_written : (r : BlockRecord) (e b₁ b₂ : List ℕ) → length r.head ≡ 4 → b₁ ≡ r.head ++ drop 4 e → b₂ ≡ (take 4 b₁ ++ bytes_of r.words) ++ drop 508 b₁ → b₂ ≡ body_of r ++ drop 508 e
body_written r e b₁ b₂ four first second =
    let front : take 4 b₁ ≡ r.head = ap (take 4) first ∙ take_at r.head (drop 4 e) 4 four in
    let rest : drop 508 b₁ ≡ drop 508 e = ap (drop 508) first ∙ sym (drop-drop 504 4 (r.head ++ drop 4 e)) ∙ ap (drop 504) (drop_at r.head (drop 4 e) 4 four) ∙ drop-drop 504 4 e in
    second ∙ (λ k. (front k ++ bytes_of r.words) ++ rest k)

pub body_check : (r : BlockRecord) (e b : List ℕ) → length r.head ≡ 4 → length r.words ≡ 126 → b ≡ body_of r ++ drop 508 e → check_of b ≡ check_of (body_of r)
body_check r e b four most is = ap check_of is ∙ weighted_front (body_of r) (drop 508 e) 508 (omega (arith, length-body r four most))

-- and the check after them
pub all_written : (r : BlockRecord) (e b₂ b₃ : List ℕ) (check : ℤ) → length r.head ≡ 4 → length r.words ≡ 126 → b₂ ≡ body_of r ++ drop 508 e → check ≡ pos (check_of b₂) → b₃ ≡ with_word b₂ 127 check → b₃ ≡ encoded r ++ drop 512 e
all_written r e b₂ b₃ check four most body sum third =
    let same : check ≡ pos (check_of (body_of r)) = sum ∙ ap pos (body_check r e b₂ four most body) in
    third ∙ (λ k. with_word (body k) 127 (same k)) ∙ over (body_of r) e (word_bytes (pos (check_of (body_of r)))) 508 (length-body r four most)

last_word : (b : List ℕ) → word_at (drop 508 b) 0 ≡ word_at b 127
last_word b = rw (get_or-drop 508 b 0 0, get_or-drop 508 b 1 0, get_or-drop 508 b 2 0, get_or-drop 508 b 3 0)

-- the last word of what was written is its check
pub encoded_check : (r : BlockRecord) → length r.head ≡ 4 → length r.words ≡ 126 → check_of (body_of r) < 2 ^ 27 → word_at (encoded r) 127 ≡ pos (check_of (encoded r))
encoded_check r four most small =
    let sum = check_of (body_of r) in
    let size = length-body r four most in
    let tail : drop 508 (encoded r) ≡ word_bytes (pos sum) = drop_at (body_of r) (word_bytes (pos sum)) 508 size in
    let value : word_at (word_bytes (pos sum)) 0 ≡ pos sum = ap (to_z w32) (value_of sum (omega arith)) ∙ to_z_pos w32 sum (omega arith) in
    let same : check_of (encoded r) ≡ sum = weighted_front (body_of r) (word_bytes (pos sum)) 508 (omega arith) in
    sym (last_word (encoded r)) ∙ ap (λ b. word_at b 0) tail ∙ value ∙ ap pos (sym same)

pub reads_back : (r : BlockRecord) → length r.head ≡ 4 → length r.words ≡ 126 → All (SFits w32) r.words → decoded (encoded r) ≡ r
reads_back r four most fits =
    let tail = word_bytes (pos (check_of (body_of r))) in
    let split : encoded r ≡ r.head ++ (bytes_of r.words ++ tail) = append_assoc r.head (bytes_of r.words) tail in
    let head : take 4 (encoded r) ≡ r.head = ap (take 4) split ∙ take_at r.head (bytes_of r.words ++ tail) 4 four in
    let rest : drop 4 (encoded r) ≡ bytes_of r.words ++ tail = ap (drop 4) split ∙ drop_at r.head (bytes_of r.words ++ tail) 4 four in
    let words : words_of 126 (drop 4 (encoded r)) ≡ r.words = ap (words_of 126) rest ∙ ap (λ n. words_of n (bytes_of r.words ++ tail)) (sym most) ∙ words_of-bytes_of r.words tail fits in
    λ k. record { head = head k; words = words k }

-- the last word of a block, as its bytes
last_bytes : (b : List ℕ) → length b ≡ 512 → All (λ x. x < 256) b → word_bytes (word_at b 127) ≡ drop 508 b
unfolding words_of
last_bytes b long fit =
    let size = length-drop 508 b in
    ap word_bytes (sym (last_word b)) ∙ bytes_of-words_of 1 (drop 508 b) (omega arith) (All-drop _ 508 b fit) ∙ take_all 4 (drop 508 b) (omega arith)

-- the block without its last word
front_bytes : (b : List ℕ) → length b ≡ 512 → All (λ x. x < 256) b → body_of (decoded b) ≡ take 508 b
front_bytes b long fit =
    let words = bytes_of-words_of 126 (drop 4 b) (omega (arith, length-drop 4 b)) (All-drop _ 4 b fit) in
    let head = sym (take-take 4 508 b (lit≤ tt)) in
    let rest = words ∙ sym (drop-take 4 504 b) in
    (λ k. head k ++ rest k) ∙ take-append-drop 4 (take 508 b)

pub writes_back : (b : List ℕ) → length b ≡ 512 → All (λ x. x < 256) b → word_at b 127 ≡ pos (check_of b) → encoded (decoded b) ≡ b
writes_back b long fit right =
    let body = front_bytes b long fit in
    let sum : check_of (body_of (decoded b)) ≡ check_of b = ap check_of body ∙ sym (weighted_front (take 508 b) (drop 508 b) 508 (omega (arith, length-take-le 508 b (omega arith)))) ∙ ap check_of (take-append-drop 508 b) in
    let tail : word_bytes (pos (check_of (body_of (decoded b)))) ≡ drop 508 b = ap (λ n. word_bytes (pos n)) sum ∙ ap word_bytes (sym right) ∙ last_bytes b long fit in
    (λ k. body k ++ tail k) ∙ take-append-drop 508 b
