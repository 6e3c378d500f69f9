-- The table of what stands: 24 hours of 33 places. Its rows count the hours from 0.
use Rattle.std.specs.Prelude.{◌≡◌, ℕ, ◌+◌, ◌-◌, Bool, List, [], ℤ, ◌-ℤ◌, slice_index_or}
use Rattle.hourfile.specs.Lines.{line_of, lines_of, no_lines}
use Rattle.hourfile.specs.declared.lines.Line.{Line}
use Rattle.hourfile.specs.declared.lines.Lines.{Lines}
use Rattle.ledger.specs.declared.entry.Entry.{Entry}
use Rattle.ledger.specs.Entries.{amounts_within, standing}

-- What a table has in a row, at a place and on a line.
abbrev pub in_table : List (List Lines) → ℕ → ℕ → Line → ℤ
in_table table row place line = line_of (slice_index_or (slice_index_or table row []) place no_lines) line

-- The table holds what stands in the entries.
abbrev pub Tells : List (List Lines) → List Entry → Type 0
Tells table entries = (row place : ℕ) (line : Line) → in_table table row place line ≡ standing entries (row + 1) place line

-- No amount of the table passes the limit of standing amounts.
abbrev pub table_within : ℕ → List (List Lines) → Bool
table_within owners table = amounts_within owners (λ hour. in_table table (hour - 1))

-- The entry that is posted from new lines and from those that stand.
abbrev pub posted : ℕ → List Lines → List Lines → ℕ → Entry
posted hour new old place =
    record { hour = hour; place = place; lines = lines_of (λ line. line_of (slice_index_or new place no_lines) line -ℤ line_of (slice_index_or old place no_lines) line) }
