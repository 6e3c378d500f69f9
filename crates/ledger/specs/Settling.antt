-- The settling of an hour file into a day and its ledger.
use Rattle.std.specs.Prelude.{◌≡◌, ℕ, ◌+◌, ◌≤◌, true, cond, List, map, ℤ, pos, ◌≤ℤ◌, Result, ◌==◌, ◌≢◌, nat_le}
use Rattle.std.specs.List.{range_with_len}
use Rattle.blocks.specs.Firsts.{Verdict, first_of, lifted, unless}
use Rattle.blocks.specs.Lone.{answered, if_sound}
use Rattle.hourfile.specs.Files.{file_verdict}
use Rattle.hourfile.specs.HourAnswers.{hour_of}
use Rattle.hourfile.specs.Hours.{amount, sum_below, trade_lines, uplift_lines}
use Rattle.hourfile.specs.Lines.{no_lines}
use Rattle.hourfile.specs.declared.lines.Line.{Line}
use Rattle.hourfile.specs.declared.lines.Line.TheVariants.{DayAheadMakeWhole, RealTimeMakeWhole}
use Rattle.pools.specs.Bases.{withdrawn}
use Rattle.ledger.specs.declared.entry.Entry.{Entry}
use Rattle.ledger.specs.declared.fault.DayFault.{DayFault}
use Rattle.ledger.specs.declared.fault.DayFault.TheVariants.{File, Full}
use Rattle.ledger.specs.Entries.{standing}
use Rattle.ledger.specs.Ledgers.{ledger_holds, ledger_verdict, used_of}
use Rattle.ledger.specs.Numbers.{Numbers, marked, places, settled_at}
use Rattle.ledger.specs.Postings.{appended, postings}

-- Too few entries are unused where one for each place does not fit behind the used ones.
abbrev pub room_verdict : Numbers → Verdict DayFault
room_verdict n = unless (nat_le (n.used + places n) n.size) Full

-- The ledger, the file and the room decide, in this order.
unfoldable pub settle_verdict : Numbers → List Entry → List ℕ → Verdict DayFault
settle_verdict n ledger file = first_of (ledger_verdict n ledger) (first_of (lifted File (file_verdict file n.owners)) (room_verdict n))

-- Accepted, one entry is appended for each place, the hour is settled, and the answer is their number. Refused, all is as it was.
abbrev pub settle_answer : Numbers → List Entry → List ℕ → Result ℕ DayFault
settle_answer n ledger file = answered (settle_verdict n ledger file) (places n)

abbrev pub settled_day : Numbers → ℕ → Numbers
settled_day n hour = record { owners = n.owners; size = n.size; used = n.used + places n; settled = marked n.settled hour }

abbrev pub settle_day : Numbers → List Entry → List ℕ → Numbers
settle_day n ledger file = if_sound (settle_verdict n ledger file) (settled_day n (hour_of file)) n

abbrev pub settled_ledger : Numbers → List Entry → ℕ → (ℕ → Line → ℤ) → List Entry
settled_ledger n ledger hour amounts = appended n.used (postings hour (used_of n ledger) amounts (places n)) ledger

abbrev pub settle_ledger : Numbers → List Entry → List ℕ → (ℕ → ℕ → ℕ) → (ℕ → ℕ → ℕ) → List Entry
settle_ledger n ledger file uplift residual =
    if_sound (settle_verdict n ledger file) (settled_ledger n ledger (hour_of file) (amount file n.owners uplift residual)) ledger

-- A plain settling weighs each owner by what it withdrew.
abbrev pub by_withdrawn : ℕ → ℕ → ℕ
by_withdrawn place quantity = withdrawn quantity

-- The law of an accepted settling, over what stands before and after it. The standing amounts of the hour are the file's amounts, and
-- those of every other hour are what they were. Over all places, lines 1, 2, 3 and 8 of the hour sum to nothing, and lines 4 to 7 do.
-- No standing make-whole of it is negative. The same amounts once more would append entries of zeros. The ledger is one that the next
-- call accepts. And the hour is settled, the others as they were.
pub record SettledLaw (n m : Numbers) (before after : List Entry) (hour : ℕ) (amounts : ℕ → Line → ℤ) : Type 0 where
  pub filled : (place : ℕ) (line : Line) → place ≤ n.owners → standing (used_of m after) hour place line ≡ amounts place line
  pub others : (other place : ℕ) (line : Line) → (other ≢ hour) → standing (used_of m after) other place line ≡ standing (used_of n before) other place line
  pub trade : sum_below (λ place. trade_lines (standing (used_of m after) hour place)) (places n) ≡ pos 0
  pub uplift : sum_below (λ place. uplift_lines (standing (used_of m after) hour place)) (places n) ≡ pos 0
  pub day_ahead : (place : ℕ) → place ≤ n.owners → pos 0 ≤ℤ standing (used_of m after) hour place DayAheadMakeWhole
  pub real_time : (place : ℕ) → place ≤ n.owners → pos 0 ≤ℤ standing (used_of m after) hour place RealTimeMakeWhole
  pub again : postings hour (used_of m after) amounts (places n) ≡ map (λ place. record { hour = hour; place = place; lines = no_lines }) (range_with_len 0 (places n))
  pub holds : ledger_holds m after ≡ true
  pub settled : (other : ℕ) → 1 ≤ other → other ≤ 24 → settled_at m.settled other ≡ cond (other == hour) 1 (settled_at n.settled other)
