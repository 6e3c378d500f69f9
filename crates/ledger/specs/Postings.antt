-- What a call appends to a ledger.
use Rattle.std.specs.Prelude.{ℕ, ◌+◌, List, ◌++◌, map, length, take, drop, ℤ, ◌-ℤ◌}
use Rattle.std.specs.List.{range_with_len}
use Rattle.hourfile.specs.Lines.{lines_of}
use Rattle.hourfile.specs.declared.lines.Line.{Line}
use Rattle.ledger.specs.declared.entry.Entry.{Entry}
use Rattle.ledger.specs.Entries.{standing}

-- The ledger with new entries right behind the used ones; all others are as they were.
abbrev pub appended : ℕ → List Entry → List Entry → List Entry
appended used new ledger = take used ledger ++ new ++ drop (used + length new) ledger

-- The entry that makes the standing amounts of an hour and a place the new ones: each line is the new amount less the standing amount.
abbrev pub posting : ℕ → List Entry → (ℕ → Line → ℤ) → ℕ → Entry
posting hour entries amounts place =
    record { hour = hour; place = place; lines = lines_of (λ line. amounts place line -ℤ standing entries hour place line) }

-- One for each place, in order.
abbrev pub postings : ℕ → List Entry → (ℕ → Line → ℤ) → ℕ → List Entry
postings hour entries amounts count = map (posting hour entries amounts) (range_with_len 0 count)
