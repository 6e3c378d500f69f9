-- Words written as bytes, and read back.
use Rattle.std.proofs.Common.{◌≡◌, ℕ, zero, suc, ◌+◌, ◌*◌, ◌/◌, ◌%◌, ◌^◌, ◌<◌, ◌≤◌, List, [], ◌∷◌, ◌++◌, length, map, get_or, take, drop, ℤ, sym, refl, ap, ◌∙◌, add-one, arith, w32, SFits, to_z, of_z}
use Rattle.std.specs.List.{AllByRecursion as All, range_with_len}
use Rattle.std.proofs.lemmas.List.{get_or-drop}
use Rattle.std.proofs.lemmas.List.FromFn.{map-range_with_len_more}
use Rattle.std.proofs.lemmas.Int.{ints, to_z-of_z, of_z-to_z}
use Rattle.std.proofs.lemmas.Nat.{shr-shr, div-add-mod'}
use Rattle.blocks.specs.Words.{word_at, word_bytes}
use Rattle.blocks.specs.Lone.{bytes_of, words_of}

pub length-bytes_of : (ws : List ℤ) → length (bytes_of ws) ≡ 4 * length ws
length-bytes_of [] = refl
length-bytes_of (w ∷ ws) = let more = length-bytes_of ws in omega arith

byte-drop : (bytes : List ℕ) (i j : ℕ) → j ≡ 4 + i → get_or (drop 4 bytes) i 0 ≡ get_or bytes j 0
byte-drop bytes i j h = get_or-drop 4 bytes i 0 ∙ ap (λ k. get_or bytes k 0) (sym h)

word_at-drop : (bytes : List ℕ) (n : ℕ) → word_at (drop 4 bytes) n ≡ word_at bytes (n + 1)
word_at-drop bytes n =
    let p = 4 * n in
    let q = 4 * (n + 1) in
    let a = byte-drop bytes p q (omega arith) in
    let b = byte-drop bytes (p + 1) (q + 1) (omega arith) in
    let c = byte-drop bytes (p + 2) (q + 2) (omega arith) in
    let d = byte-drop bytes (p + 3) (q + 3) (omega arith) in
    rw (a, b, c, d)

words_of_more : (n : ℕ) (bytes : List ℕ) → words_of (n + 1) bytes ≡ words_of n bytes ++ word_at bytes n ∷ []
unfolding words_of
words_of_more zero bytes = refl
words_of_more (suc n) bytes =
    let more = words_of_more n (drop 4 bytes) in
    let last : word_at (drop 4 bytes) n ≡ word_at bytes (suc n) = word_at-drop bytes n ∙ ap (word_at bytes) (add-one n) in
    rw add-one (ap (λ ws. word_at bytes 0 ∷ ws) (ap (λ k. words_of k (drop 4 bytes)) (sym (add-one n)) ∙ more ∙ ap (λ w. words_of n (drop 4 bytes) ++ w ∷ []) last))

-- words 1 to n of a block
pub words_of_from_fn : (n : ℕ) (bytes : List ℕ) → map (λ i. word_at bytes (i + 1)) (range_with_len 0 n) ≡ words_of n (drop 4 bytes)
unfolding words_of
words_of_from_fn zero bytes = refl
words_of_from_fn (suc n) bytes =
    let next : n + 1 ≡ suc n = omega arith in
    let before = words_of_from_fn n bytes in
    let more = map-range_with_len_more (λ i. word_at bytes (i + 1)) 0 n n (omega arith) in
    let last = word_at-drop bytes n in
    sym (ap (λ k. map (λ i. word_at bytes (i + 1)) (range_with_len 0 k)) next) ∙ more ∙ (λ k. before k ++ sym last k ∷ []) ∙ sym (words_of_more n (drop 4 bytes)) ∙ ap (λ k. words_of k (drop 4 bytes)) next

-- three digits of base 256 and what is above them
by_steps : (n q₁ q₂ q₃ r₀ r₁ r₂ : ℕ) → q₁ * 256 + r₀ ≡ n → q₂ * 256 + r₁ ≡ q₁ → q₃ * 256 + r₂ ≡ q₂ → r₀ + r₁ * 256 + r₂ * 65536 + q₃ * 16777216 ≡ n
by_steps n q₁ q₂ q₃ r₀ r₁ r₂ e f g = omega arith

-- four digits of base 256 are the number
pub value_of : (n : ℕ) → n < 2 ^ 32 → n % 256 + n / 256 % 256 * 256 + n / 65536 % 256 * 65536 + n / 16777216 % 256 * 16777216 ≡ n
value_of n h =
    let low : n / 256 * 256 + n % 256 ≡ n = div-add-mod' n 256 in
    let mid : n / 65536 * 256 + n / 256 % 256 ≡ n / 256 = rw (← shr-shr n 8 8) (div-add-mod' (n / 256) 256) in
    let high : n / 16777216 * 256 + n / 65536 % 256 ≡ n / 65536 = rw (← shr-shr n 16 8) (div-add-mod' (n / 65536) 256) in
    let top : n / 16777216 < 256 = omega arith in
    let same : n / 16777216 % 256 ≡ n / 16777216 = omega arith in
    rw same (by_steps n (n / 256) (n / 65536) (n / 16777216) (n % 256) (n / 256 % 256) (n / 65536 % 256) low mid high)

bytes_fit : (w : ℤ) → SFits w32 w → of_z w32 w < 2 ^ 32
bytes_fit w fits = omega (arith, ints)

-- words that are written and read again
pub words_of-bytes_of : (ws : List ℤ) (rest : List ℕ) → All (SFits w32) ws → words_of (length ws) (bytes_of ws ++ rest) ≡ ws
unfolding words_of
words_of-bytes_of [] rest fits = refl
words_of-bytes_of (w ∷ ws) rest fits =
    let more = words_of-bytes_of ws rest fits.1 in
    let first = ap (to_z w32) (value_of (of_z w32 w) (bytes_fit w fits.0)) ∙ to_z-of_z w32 w fits.0 in
    rw (first, more)

-- a number of four bytes has those bytes
module _ (a b c d : ℕ) (ha : a < 256) (hb : b < 256) (hc : c < 256) (hd : d < 256) where
  abbrev joint : ℕ
  joint = a + b * 256 + c * 65536 + d * 16777216

  digit_0 : joint % 256 ≡ a
  digit_0 = omega arith

  digit_1 : joint / 256 % 256 ≡ b
  digit_1 = let above : joint / 256 ≡ b + c * 256 + d * 65536 = omega arith in rw above (omega arith)

  digit_2 : joint / 65536 % 256 ≡ c
  digit_2 = let above : joint / 65536 ≡ c + d * 256 = omega arith in rw above (omega arith)

  digit_3 : joint / 16777216 % 256 ≡ d
  digit_3 = let above : joint / 16777216 ≡ d = omega arith in rw above (omega arith)

  joint_fits : joint < 2 ^ 32
  joint_fits = omega arith

  digits_of : word_bytes (to_z w32 joint) ≡ a ∷ b ∷ c ∷ d ∷ []
  digits_of = rw (of_z-to_z w32 joint joint_fits, digit_0, digit_1, digit_2, digit_3)

-- bytes that are read as words and written again
pub bytes_of-words_of : (n : ℕ) (bytes : List ℕ) → 4 * n ≤ length bytes → All (λ b. b < 256) bytes → bytes_of (words_of n bytes) ≡ take (4 * n) bytes
unfolding words_of
bytes_of-words_of zero bytes h fit = refl
bytes_of-words_of (suc n) [] h fit = absurd (omega arith)
bytes_of-words_of (suc n) (a ∷ []) h fit = absurd (omega arith)
bytes_of-words_of (suc n) (a ∷ b ∷ []) h fit = absurd (omega arith)
bytes_of-words_of (suc n) (a ∷ b ∷ c ∷ []) h fit = absurd (omega arith)
bytes_of-words_of (suc n) (a ∷ b ∷ c ∷ d ∷ bytes) h fit =
    let more = bytes_of-words_of n bytes (omega arith) fit.1.1.1.1 in
    let four : 4 * suc n ≡ suc (suc (suc (suc (4 * n)))) = omega arith in
    let same = digits_of a b c d fit.0 fit.1.0 fit.1.1.0 fit.1.1.1.0 in
    rw four (ap (λ xs. xs ++ bytes_of (words_of n bytes)) same ∙ ap (λ xs. a ∷ b ∷ c ∷ d ∷ xs) more)
