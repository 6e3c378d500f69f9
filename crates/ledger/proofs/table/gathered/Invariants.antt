use Rattle.std.proofs.Common.{◌≡◌, true, take}
use Rattle.ledger.specs.Entries.{all_sound}
use Rattle.ledger.specs.Tables.{Tells}
use Rattle.ledger.proofs.Gathering.{IsWhole}
use Rattle.ledger.proofs.table.gathered.Given as goal

abbrev pub invariant-loop-entry : goal.invariant-loop-entry
invariant-loop-entry l = record {
  sound : all_sound l.owners.number (take l.entry-index l.entries) ≡ true;
  whole : IsWhole l.table;
  tells : Tells l.table (take l.entry-index l.entries);
}
