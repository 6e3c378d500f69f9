-- What one hour file comes to on a day of its own.
use Rattle.std.specs.Prelude.{ℕ, List, Ok, Err, Result}
use Rattle.ledger.specs.Days.{opened}
use Rattle.ledger.specs.Numbers.{Numbers}
use Rattle.ledger.specs.Settling.{by_withdrawn, settle_answer, settle_ledger}
use Rattle.ledger.specs.declared.entry.Entry.{Entry}
use Rattle.ledger.specs.declared.fault.DayFault.{DayFault}

-- A day that is not opened settles nothing.
abbrev pub answer_on : Result Numbers DayFault → List Entry → List ℕ → Result ℕ DayFault
answer_on (Ok n) ledger file = settle_answer n ledger file
answer_on (Err fault) ledger file = Err fault

abbrev pub ledger_on : Result Numbers DayFault → List Entry → List ℕ → List Entry
ledger_on (Ok n) ledger file = settle_ledger n ledger file by_withdrawn by_withdrawn
ledger_on (Err fault) ledger file = ledger

abbrev pub sheet_answer : ℕ → List Entry → List ℕ → Result ℕ DayFault
sheet_answer owners ledger file = answer_on (opened owners ledger) ledger file

abbrev pub sheet_ledger : ℕ → List Entry → List ℕ → List Entry
sheet_ledger owners ledger file = ledger_on (opened owners ledger) ledger file
