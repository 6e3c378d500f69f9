-- The eight lines, and their amounts in cents.
use Rattle.std.specs.Prelude.{ℕ, cond, List, [], ◌∷◌, ◌++◌, ℤ, pos, Some, None, Option, ◌==◌, slice_index_or}
use Rattle.std.specs.Fmt.{signed_decimal}
use Rattle.hourfile.specs.declared.lines.Line.{Line}
use Rattle.hourfile.specs.declared.lines.Line.TheVariants.{DayAheadEnergy, Balancing, Virtual, Reserve, DayAheadMakeWhole, RealTimeMakeWhole, Uplift, Residual}
use Rattle.hourfile.specs.declared.lines.Lines.{Lines}

-- The line of a number.
abbrev pub line_numbered : ℕ → Option Line
line_numbered number =
    cond (number == 1) (Some DayAheadEnergy)
    (cond (number == 2) (Some Balancing)
    (cond (number == 3) (Some Virtual)
    (cond (number == 4) (Some Reserve)
    (cond (number == 5) (Some DayAheadMakeWhole)
    (cond (number == 6) (Some RealTimeMakeWhole)
    (cond (number == 7) (Some Uplift)
    (cond (number == 8) (Some Residual) None)))))))

-- The amount of a line, and the lines of such amounts.
abbrev pub line_of : Lines → Line → ℤ
line_of lines DayAheadEnergy = lines.day_ahead_energy
line_of lines Balancing = lines.balancing
line_of lines Virtual = lines.virtual_trade
line_of lines Reserve = lines.reserve
line_of lines DayAheadMakeWhole = lines.day_ahead_make_whole
line_of lines RealTimeMakeWhole = lines.real_time_make_whole
line_of lines Uplift = lines.uplift
line_of lines Residual = lines.residual

abbrev pub lines_of : (Line → ℤ) → Lines
lines_of amount = record {
  day_ahead_energy = amount DayAheadEnergy;
  balancing = amount Balancing;
  virtual_trade = amount Virtual;
  reserve = amount Reserve;
  day_ahead_make_whole = amount DayAheadMakeWhole;
  real_time_make_whole = amount RealTimeMakeWhole;
  uplift = amount Uplift;
  residual = amount Residual;
}

abbrev pub no_lines : Lines
no_lines = lines_of (λ _. pos 0)

-- The amounts in the order of the lines' numbers, and the lines of such amounts.
abbrev pub amounts_of : Lines → List ℤ
amounts_of lines =
    lines.day_ahead_energy
    ∷ lines.balancing
    ∷ lines.virtual_trade
    ∷ lines.reserve
    ∷ lines.day_ahead_make_whole
    ∷ lines.real_time_make_whole
    ∷ lines.uplift
    ∷ lines.residual
    ∷ []

abbrev pub lines_from : List ℤ → Lines
lines_from amounts = record {
  day_ahead_energy = slice_index_or amounts 0 (pos 0);
  balancing = slice_index_or amounts 1 (pos 0);
  virtual_trade = slice_index_or amounts 2 (pos 0);
  reserve = slice_index_or amounts 3 (pos 0);
  day_ahead_make_whole = slice_index_or amounts 4 (pos 0);
  real_time_make_whole = slice_index_or amounts 5 (pos 0);
  uplift = slice_index_or amounts 6 (pos 0);
  residual = slice_index_or amounts 7 (pos 0);
}

-- Numbers in decimal with a space before each, and lines as they are printed: their amounts with a space between.
abbrev pub spaced : List ℤ → List ℕ
spaced [] = []
spaced (z ∷ zs) = 32 ∷ (signed_decimal z ++ spaced zs)

abbrev pub joined : List ℤ → List ℕ
joined [] = []
joined (z ∷ zs) = signed_decimal z ++ spaced zs

abbrev pub printed : Lines → List ℕ
printed lines = joined (amounts_of lines)
