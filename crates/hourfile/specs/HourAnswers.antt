-- What the settling of an hour file answers.
use Rattle.std.specs.Prelude.{◌≡◌, ℕ, ◌<◌, ◌≤◌, List, pos, slice_index_or}
use Rattle.blocks.specs.Words.{byte_at}
use Rattle.hourfile.specs.declared.hour_lines.HourLines.{HourLines}
use Rattle.hourfile.specs.declared.lines.Line.{Line}
use Rattle.hourfile.specs.Hours.{HourLaws, amount}
use Rattle.hourfile.specs.Lines.{line_of, no_lines}

-- The hour of a file is the third byte of its header.
abbrev pub hour_of : List ℕ → ℕ
hour_of file = byte_at file 2

-- The lines of an accepted file: each place up to the operator's has its amounts, and the places after it nothing.
pub record Settles (file : List ℕ) (owners : ℕ) (uplift residual : ℕ → ℕ → ℕ) (hour : HourLines) : Type 0 where
  pub hour_is : hour.hour.number ≡ hour_of file
  pub from : 1 ≤ hour.hour.number
  pub to : hour.hour.number ≤ 24
  pub exact : (place : ℕ) (line : Line) → place ≤ owners → line_of (slice_index_or hour.places place no_lines) line ≡ amount file owners uplift residual place line
  pub others : (place : ℕ) (line : Line) → owners < place → line_of (slice_index_or hour.places place no_lines) line ≡ pos 0
  pub laws : HourLaws owners (amount file owners uplift residual)
