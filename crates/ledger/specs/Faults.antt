-- What each fault of a call on a day tells: its number, layer, block and word, and its words.
use Rattle.std.specs.Prelude.{ℕ, List, codes}
use Rattle.blocks.specs.Faults.{file_told}
use Rattle.blocks.specs.declared.fault.Layer.TheVariants as layers
use Rattle.blocks.specs.declared.fault.Refusal.{Refusal}
use Rattle.ledger.specs.declared.fault.DayFault.{DayFault}
use Rattle.ledger.specs.declared.fault.DayFault.TheVariants.{Owners, Length, Ledger, Named, File, Full}

abbrev pub of_day : ℕ → Refusal
of_day number = record { number = number; layer = layers.Day; block = 0; word = 0 }

abbrev pub day_told : DayFault → Refusal
day_told Owners = of_day 1
day_told Length = of_day 2
day_told Ledger = of_day 3
day_told Named = of_day 4
day_told (File fault) = file_told fault
day_told Full = of_day 16

abbrev pub day_text : DayFault → List ℕ
day_text Owners = codes "a day has 1 to 32 owners"
day_text Length = codes "a ledger has 1 to 4,096 entries"
day_text Ledger = codes "the ledger is not the one that the day's calls wrote"
day_text Named = codes "a day has no such hour, place or line"
day_text (File fault) = codes "the hour file is at fault"
day_text Full = codes "too few entries are unused"
