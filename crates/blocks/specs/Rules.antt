-- What the rules of words and rows look at.
use Rattle.std.specs.Prelude.{ℕ, ◌<◌, ◌≤◌, Bool, true, false, List, ℤ, MatchOption, Some, None, Option, int_lt}
use Rattle.blocks.specs.declared.kind.Ladder.{Ladder}
use Rattle.blocks.specs.declared.kind.Ladder.TheVariants.{Energy, Reserve}
use Rattle.blocks.specs.Words.{word_at}

-- A schedule that passes the last end of its ladder, by the two last ends.
abbrev pub end_of : ℤ → ℤ → Ladder → ℤ
end_of energy reserve Energy = energy
end_of energy reserve Reserve = reserve

abbrev pub past : ℤ → ℤ → Option Ladder → ℤ → Bool
past energy reserve None value = false
past energy reserve (Some ladder) value = int_lt (end_of energy reserve ladder) value

-- Of words 1 to 126, the one that was found is said to break a rule, and none before it is; where none was found, none is. What is said of
-- a word goes by its number and its value.
pub record BreaksFirst (says : ℕ → ℤ → Bool → Type 0) (part : List ℕ) (found : Option ℕ) : Type 0 where
  pub lowest : MatchOption found
      ((k : ℕ) → 1 ≤ k → k < 127 → says k (word_at part k) false)
      (λ i. (1 ≤ i) × (i < 127) × says i (word_at part i) true × ((k : ℕ) → 1 ≤ k → k < i → says k (word_at part k) false))
