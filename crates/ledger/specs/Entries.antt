-- What stands in the entries of a ledger, and which entries may stand there.
use Rattle.std.specs.Prelude.{ℕ, ◌+◌, ◌≤◌, Bool, cond, ◌&&◌, List, [], ◌∷◌, fold, map, max, ℤ, pos, ◌==◌, nat_le, unsigned_abs}
use Rattle.std.specs.List.{list_all, range_with_len}
use Rattle.market.specs.Amounts.{total}
use Rattle.hourfile.specs.Lines.{line_of}
use Rattle.hourfile.specs.declared.lines.Line.{Line}
use Rattle.hourfile.specs.declared.lines.Line.TheVariants.{DayAheadEnergy, Balancing, Virtual, Reserve, DayAheadMakeWhole, RealTimeMakeWhole, Uplift, Residual}
use Rattle.hourfile.specs.declared.lines.Lines.{Lines}
use Rattle.ledger.specs.declared.entry.Entry.{Entry}

-- The standing amount of an hour, a place and a line: the sum over the entries there.
abbrev pub is_at : ℕ → ℕ → Entry → Bool
is_at hour place e = e.hour == hour && e.place == place

abbrev pub counted : ℕ → ℕ → Line → Entry → ℤ
counted hour place line e = cond (is_at hour place e) (line_of e.lines line) (pos 0)

unfoldable pub standing : List Entry → ℕ → ℕ → Line → ℤ
standing entries hour place line = total (counted hour place line) entries

-- ---- the tests
-- The eight lines.
abbrev pub all_lines : List Line
all_lines = DayAheadEnergy ∷ Balancing ∷ Virtual ∷ Reserve ∷ DayAheadMakeWhole ∷ RealTimeMakeWhole ∷ Uplift ∷ Residual ∷ []

-- The largest of the eight amounts, either way, and whether it keeps within a limit.
abbrev pub largest : (Line → ℤ) → ℕ
largest amount = fold (λ most a. max most (unsigned_abs a)) 0 (map amount all_lines)

unfoldable pub is_within : ℕ → (Line → ℤ) → Bool
is_within limit amount = nat_le (largest amount) limit

abbrev pub is_hour : ℕ → Bool
is_hour hour = nat_le 1 hour && nat_le hour 24

-- An entry has an hour from 1 to 24, a place up to the operator's, and no line beyond 100,000,000,000 either way.
unfoldable pub is_sound : ℕ → Entry → Bool
is_sound owners e = is_hour e.hour && (nat_le e.place owners && is_within 100000000000 (line_of e.lines))

unfoldable pub all_sound : ℕ → List Entry → Bool
all_sound owners entries = list_all (is_sound owners) entries

-- No standing amount passes 50,000,000,000 either way.
abbrev pub amounts_within : ℕ → (ℕ → ℕ → Line → ℤ) → Bool
amounts_within owners amounts =
    list_all (λ hour. list_all (λ place. is_within 50000000000 (amounts hour place)) (range_with_len 0 (owners + 1))) (range_with_len 1 24)

unfoldable pub standings_within : ℕ → List Entry → Bool
standings_within owners entries = amounts_within owners (standing entries)

-- ---- the calculations
-- Lines whose sums and differences fit 64 bits: none passes 1,000,000,000,000,000 either way.
abbrev pub IsSmall : Lines → Type 0
IsSmall lines = (line : Line) → unsigned_abs (line_of lines line) ≤ 1000000000000000
