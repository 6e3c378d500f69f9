-- What a call finds in the ledger that it is handed.
use Rattle.std.specs.Prelude.{ℕ, Bool, cond, ◌&&◌, List, length, take, ℤ, Some, None, Ok, Err, Option, Result, ◌==◌, nat_le}
use Rattle.blocks.specs.Firsts.{Verdict, unless}
use Rattle.hourfile.specs.Lines.{line_numbered}
use Rattle.hourfile.specs.declared.lines.Line.{Line}
use Rattle.ledger.specs.declared.entry.Entry.{Entry}
use Rattle.ledger.specs.declared.fault.DayFault.{DayFault}
use Rattle.ledger.specs.declared.fault.DayFault.TheVariants.{Ledger, Named}
use Rattle.ledger.specs.Entries.{all_sound, is_hour, standing, standings_within}
use Rattle.ledger.specs.Numbers.{Numbers}

-- The entries that the day has used.
abbrev pub used_of : Numbers → List Entry → List Entry
used_of n ledger = take n.used ledger

-- The ledger is as long as at the opening, each used entry is sound, and no standing amount is too large.
unfoldable pub ledger_holds : Numbers → List Entry → Bool
ledger_holds n ledger =
    (length ledger == n.size) && (all_sound n.owners (used_of n ledger) && standings_within n.owners (used_of n ledger))

abbrev pub ledger_verdict : Numbers → List Entry → Verdict DayFault
ledger_verdict n ledger = unless (ledger_holds n ledger) Ledger

-- The reading of an amount: that which stands at an hour from 1 to 24, a place up to the operator's and a line from 1 to 8.
abbrev pub read_line : Numbers → List Entry → ℕ → ℕ → Option Line → Result ℤ DayFault
read_line n ledger hour place None = Err Named
read_line n ledger hour place (Some line) =
    cond (is_hour hour && nat_le place n.owners) (Ok (standing (used_of n ledger) hour place line)) (Err Named)

abbrev pub amount_of : Numbers → List Entry → ℕ → ℕ → ℕ → Result ℤ DayFault
amount_of n ledger hour place number = cond (ledger_holds n ledger) (read_line n ledger hour place (line_numbered number)) (Err Ledger)
