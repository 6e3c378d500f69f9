-- What opening a day and asking its state answer.
use Rattle.std.specs.Prelude.{ℕ, cond, ◌&&◌, List, length, Ok, Err, Result, count_ones, nat_le}
use Rattle.ledger.specs.declared.day.DayNumbers.{DayNumbers}
use Rattle.ledger.specs.declared.day.OpenDay.{OpenDay}
use Rattle.ledger.specs.declared.entry.Entry.{Entry}
use Rattle.ledger.specs.declared.fault.DayFault.{DayFault}
use Rattle.ledger.specs.declared.fault.DayFault.TheVariants.{Owners, Length}
use Rattle.ledger.specs.Numbers.{Numbers}

-- The plain numbers of a day that the code holds.
abbrev pub plain : DayNumbers → Numbers
plain d = record { owners = d.owners; size = d.length; used = d.used; settled = d.settled }

abbrev pub numbers : OpenDay → Numbers
numbers day = plain day.numbers

abbrev pub numbers_in : Result OpenDay DayFault → Result Numbers DayFault
numbers_in (Ok day) = Ok (numbers day)
numbers_in (Err fault) = Err fault

-- Opening: for 1 to 32 owners, on a ledger of 1 to 4,096 entries, of which none is used; no hour is settled.
abbrev pub opened : ℕ → List Entry → Result Numbers DayFault
opened owners ledger =
    cond (nat_le 1 owners && nat_le owners 32)
    (cond (nat_le 1 (length ledger) && nat_le (length ledger) 4096)
    (Ok (record { owners = owners; size = length ledger; used = 0; settled = 0 }))
    (Err Length))
    (Err Owners)

-- The state: how many hours are settled, which is the mask's count of ones, and how many entries are used.
abbrev pub state_of : Numbers → ℕ × ℕ
state_of n = (count_ones n.settled, n.used)
