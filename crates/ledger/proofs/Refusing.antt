-- The verdict of a settling, from those of the ledger, the file and the room, and what these say where they find no fault.
use Rattle.std.proofs.Common.{◌≡◌, ℕ, ◌+◌, ◌≤◌, Bool, true, false, leb, List, Ok, Err, refl}
use Rattle.std.proofs.lemmas.Bool.{leb-true}
use Rattle.blocks.specs.Firsts.{unless}
use Rattle.blocks.specs.declared.fault.FileFault.{FileFault}
use Rattle.hourfile.specs.Files.{file_verdict}
use Rattle.ledger.specs.declared.entry.Entry.{Entry}
use Rattle.ledger.specs.declared.fault.DayFault.{DayFault}
use Rattle.ledger.specs.declared.fault.DayFault.TheVariants.{File, Full, Ledger}
use Rattle.ledger.specs.Ledgers.{ledger_holds, ledger_verdict}
use Rattle.ledger.specs.Numbers.{Numbers, places}
use Rattle.ledger.specs.Settling.{room_verdict, settle_verdict}
use Rattle.ledger.proofs.Holding.{Held, held}

module _ (n : Numbers) (ledger : List Entry) (file : List ℕ) where
  pub refused_file : (fault : FileFault) → Ok tt ≡ ledger_verdict n ledger → Err fault ≡ file_verdict file n.owners → settle_verdict n ledger file ≡ Err (File fault)
  unfolding settle_verdict
  refused_file fault holds is = rw (← holds, ← is)

  pub refused_room : (fault : DayFault) → Ok tt ≡ ledger_verdict n ledger → Ok tt ≡ file_verdict file n.owners → Err fault ≡ room_verdict n → settle_verdict n ledger file ≡ Err fault
  unfolding settle_verdict
  refused_room fault holds passes is = rw (← holds, ← passes, ← is)

  pub accepted_by_all : Ok tt ≡ ledger_verdict n ledger → Ok tt ≡ file_verdict file n.owners → Ok tt ≡ room_verdict n → settle_verdict n ledger file ≡ Ok tt
  unfolding settle_verdict
  accepted_by_all holds passes room = rw (← holds, ← passes, ← room)

no_fault : {E : Type 0} (test : Bool) (fault : E) → Ok tt ≡ unless test fault → test ≡ true
no_fault true fault is = refl
no_fault false fault is = cc

pub held_if : (n : Numbers) (ledger : List Entry) → Ok tt ≡ ledger_verdict n ledger → Held n ledger
held_if n ledger is = held n ledger (no_fault (ledger_holds n ledger) Ledger is)

pub room_if : (n : Numbers) → Ok tt ≡ room_verdict n → n.used + places n ≤ n.size
room_if n is = leb-true (n.used + places n) n.size (no_fault (leb (n.used + places n) n.size) Full is)
