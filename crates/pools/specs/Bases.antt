-- The weights that the bases give.
use Rattle.std.specs.Prelude.{ℕ, min, Bool, false, cond, List, slice_index, slice_index_or}

-- Withdrawn: the quantity itself, at most 6,400,000.
abbrev pub withdrawn : ℕ → ℕ
withdrawn quantity = min quantity 6400000

-- Fixed shares: the number at the place, at most 10,000; 0 at places without one.
abbrev pub fixed : List ℕ → ℕ → ℕ
fixed shares place = min (slice_index shares place) 10000

-- Exemption: 0 for the places that are marked, otherwise what the basis below answers.
abbrev pub exempted : List Bool → ℕ → ℕ → ℕ
exempted marked place below = cond (slice_index_or marked place false) 0 below
