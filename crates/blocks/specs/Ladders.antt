-- The two ladders of a resource.
use Rattle.std.specs.Prelude.{ℕ, List, ℤ, unsigned_abs}
use Rattle.ladders.specs.declared.rows.Row.{Row}
use Rattle.blocks.specs.declared.kind.Ladder.{Ladder}
use Rattle.blocks.specs.declared.kind.Ladder.TheVariants.{Energy, Reserve}
use Rattle.blocks.specs.Verdicts.{last_end, row_of}
use Rattle.blocks.specs.Words.{word_at}

-- The word that counts the rows of a ladder, and the word from which they stand, two words each.
abbrev pub count_word : Ladder → ℕ
count_word Energy = 6
count_word Reserve = 7

abbrev pub rows_start : Ladder → ℕ
rows_start Energy = 68
rows_start Reserve = 108

-- How many rows a ladder has, a row of it, and the end of its last row, which is 0 without rows.
abbrev pub rows_in : Ladder → List ℕ → ℕ
rows_in ladder part = unsigned_abs (word_at part (count_word ladder))

abbrev pub nth_row : Ladder → List ℕ → ℕ → Row
nth_row ladder part k = row_of part (rows_start ladder) k

abbrev pub end_in : Ladder → List ℕ → ℤ
end_in ladder part = last_end part (rows_start ladder) (rows_in ladder part)
