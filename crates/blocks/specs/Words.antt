-- The bytes and words of a block: 512 bytes, 128 words of four bytes each, least byte first, signed in two's complement.
use Rattle.std.specs.Prelude.{ℕ, zero, suc, ◌+◌, ◌*◌, ◌/◌, ◌%◌, List, [], ◌∷◌, ◌++◌, take, drop, ℤ, slice_index}
use Rattle.std.specs.Int.{cast_signed, cast_unsigned, w32}

-- A byte of a block.
abbrev pub byte_at : List ℕ → ℕ → ℕ
byte_at part i = slice_index part i

-- The four bytes from a place on, least first, as a number.
abbrev pub bits_at : List ℕ → ℕ → ℕ
bits_at part i = byte_at part i + byte_at part (i + 1) * 256 + byte_at part (i + 2) * 65536 + byte_at part (i + 3) * 16777216

-- A word of a block.
abbrev pub word_at : List ℕ → ℕ → ℤ
word_at part i = cast_signed w32 (bits_at part (4 * i))

-- The four bytes of a number and of a word, least first.
abbrev pub le_bytes : ℕ → List ℕ
le_bytes n = n % 256 ∷ n / 256 % 256 ∷ n / 65536 % 256 ∷ n / 16777216 % 256 ∷ []

abbrev pub word_bytes : ℤ → List ℕ
word_bytes z = le_bytes (cast_unsigned w32 z)

-- The bytes with one word written over.
abbrev pub with_word : List ℕ → ℕ → ℤ → List ℕ
with_word part i z = take (4 * i) part ++ (word_bytes z ++ drop (4 * i + 4) part)

-- The sum of (j + 1) × byte j over the first bytes; the check is that over bytes 0 to 507.
unfoldable pub weighted : List ℕ → ℕ → ℕ
weighted part zero = 0
weighted part (suc j) = weighted part j + suc j * byte_at part j

abbrev pub check_of : List ℕ → ℕ
check_of part = weighted part 508
