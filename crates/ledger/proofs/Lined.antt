-- Amounts line by line.
use Rattle.std.proofs.Common.{◌≡◌, ℕ, ◌≤◌, true, ℤ, nat_abs, refl, arith}
use Rattle.std.proofs.lemmas.Bool.{leb-true, le-leb}
use Rattle.hourfile.specs.Lines.{line_of, lines_of}
use Rattle.hourfile.specs.declared.lines.Line.{Line}
use Rattle.hourfile.specs.declared.lines.Line.TheVariants.{DayAheadEnergy, Balancing, Virtual, Reserve, DayAheadMakeWhole, RealTimeMakeWhole, Uplift, Residual}
use Rattle.hourfile.specs.declared.lines.Lines.{Lines}
use Rattle.hourfile.proofs.ByLine.{by_line}
use Rattle.ledger.specs.Entries.{is_within, largest}

-- the lines of amounts have these amounts
pub line_of_lines : (amount : Line → ℤ) (line : Line) → line_of (lines_of amount) line ≡ amount line
line_of_lines amount = by_line (λ line. line_of (lines_of amount) line ≡ amount line) refl refl refl refl refl refl refl refl

-- and lines with such amounts are these lines
pub lines_are : (lines : Lines) (amount : Line → ℤ) → ((line : Line) → line_of lines line ≡ amount line) → lines ≡ lines_of amount
lines_are lines amount h =
    λ i. record {
      day_ahead_energy = h DayAheadEnergy i;
      balancing = h Balancing i;
      virtual_trade = h Virtual i;
      reserve = h Reserve i;
      day_ahead_make_whole = h DayAheadMakeWhole i;
      real_time_make_whole = h RealTimeMakeWhole i;
      uplift = h Uplift i;
      residual = h Residual i;
    }

-- amounts are within a limit just where each line is
pub within_each : (limit : ℕ) (amount : Line → ℤ) → is_within limit amount ≡ true → (line : Line) → nat_abs (amount line) ≤ limit
unfolding is_within
within_each limit amount h =
    let all = leb-true (largest amount) limit h in
    by_line (λ line. nat_abs (amount line) ≤ limit) (omega arith) (omega arith) (omega arith) (omega arith) (omega arith) (omega arith) (omega arith) (omega arith)

pub within_from : (limit : ℕ) (amount : Line → ℤ) → ((line : Line) → nat_abs (amount line) ≤ limit) → is_within limit amount ≡ true
unfolding is_within
within_from limit amount h =
    le-leb (largest amount) limit
    (omega (arith, h DayAheadEnergy, h Balancing, h Virtual, h Reserve, h DayAheadMakeWhole, h RealTimeMakeWhole, h Uplift, h Residual))
