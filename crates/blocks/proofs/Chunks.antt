-- A block as words of four bytes.
use Rattle.std.proofs.Common.{◌≡◌, ℕ, zero, suc, ◌+◌, ◌*◌, ◌<◌, ◌≤◌, MatchOption, Some, None, Option, List, length, get_or, take, drop, ℤ, pos, Bor, refl, ap, ◌∙◌, arith}
use Rattle.std.proofs.lemmas.List.{drop-drop, get_or-drop, get_or-take, get_or_past}
use Rattle.std.specs.Simd.{first_chunks}
use Rattle.std.specs.Int.{cast_signed, w32}
use Rattle.blocks.specs.Words.{bits_at, word_at}

-- the ith of the first k groups of n bytes stands n × i bytes on
chunk_at : (n k : ℕ) (bytes d : List ℕ) (i at : ℕ) → i < k → n * i ≡ at → get_or (first_chunks n k bytes) i d ≡ take n (drop at bytes)
chunk_at n zero bytes d i at h e = absurd (omega arith)
chunk_at n (suc k) bytes d zero at h e = let none : 0 ≡ at = omega arith in ap (λ j. take n (drop j bytes)) none
chunk_at n (suc k) bytes d (suc i) at h e =
    let far : n + n * i ≡ at = omega arith in
    chunk_at n k (drop n bytes) d i (n * i) (omega arith) refl ∙ ap (take n) (drop-drop (n * i) n bytes ∙ ap (λ j. drop j bytes) far)

-- a byte of a group
byte_in : (bytes : List ℕ) (at j k : ℕ) → j < 4 → at + j ≡ k → get_or (take 4 (drop at bytes)) j 0 ≡ get_or bytes k 0
byte_in bytes at j k h e = get_or-take 4 (drop at bytes) j 0 h ∙ get_or-drop at bytes j 0 ∙ ap (λ i. get_or bytes i 0) e

bits_in : (bytes : List ℕ) (at : ℕ) → bits_at (take 4 (drop at bytes)) 0 ≡ bits_at bytes at
bits_in bytes at = rw (byte_in bytes at 0 at (omega arith) (omega arith), byte_in bytes at 1 (at + 1) (omega arith) refl, byte_in bytes at 2 (at + 2) (omega arith) refl, byte_in bytes at 3 (at + 3) (omega arith) refl)

word_past : (bytes : List ℕ) (i : ℕ) → length bytes ≤ 4 * i → pos 0 ≡ word_at bytes i
word_past bytes i h =
    let at = 4 * i in
    rw (get_or_past bytes at 0 (omega arith), get_or_past bytes (at + 1) 0 (omega arith), get_or_past bytes (at + 2) 0 (omega arith), get_or_past bytes (at + 3) 0 (omega arith))

-- a word of a whole block, by the group that was found at its place, if there is one
pub word_read : (part : List ℕ) (i : ℕ) (found : Option (Bor (List ℕ))) (word : ℤ) → length part ≡ 512
    → MatchOption found (128 ≤ i) (λ group. (i < 128) × (group.now ≡ get_or (first_chunks 4 128 part) i group.now))
    → MatchOption found (word ≡ pos 0) (λ group. word ≡ cast_signed w32 (bits_at group.now 0))
    → word ≡ word_at part i
word_read part i None word long past is = is ∙ word_past part i (omega arith)
word_read part i (Some group) word long here is =
    is ∙ ap (λ g. cast_signed w32 (bits_at g 0)) (here.1 ∙ chunk_at 4 128 part group.now i (4 * i) here.0 refl) ∙ ap (cast_signed w32) (bits_in part (4 * i))
