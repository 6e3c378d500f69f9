-- The first faulty block decides.
use Rattle.std.proofs.Common.{◌≡◌, ℕ, ◌<◌, Bool, true, false, List, Ok, Err, sym, refl}
use Rattle.blocks.specs.declared.fault.BlockFault.{BlockFault}
use Rattle.blocks.specs.declared.fault.FileFault.{FileFault}
use Rattle.blocks.specs.declared.fault.FileFault.TheVariants.{Length, Block}
use Rattle.blocks.specs.Firsts.{Verdict, first_of, lifted, unless, up_to}
use Rattle.blocks.proofs.Deciding.{up_to_decides, up_to_stops}
use Rattle.hourfile.specs.Files.{FirstBlockDecides, blocks_in, file_verdict, right_length, verdict_at}

-- a lifted verdict is a fault or none just as the verdict is
below_fault : (v : Verdict BlockFault) (f : BlockFault) → lifted Block v ≡ Err (Block f) → v ≡ Err f
below_fault (Ok u) f e = cc
below_fault (Err d) f e = cc

pub below_none : (v : Verdict BlockFault) → lifted Block v ≡ Ok tt → v ≡ Ok tt
below_none (Ok u) e = refl
below_none (Err d) e = cc

past_length : (t : Bool) (w : Verdict FileFault) (f : BlockFault) → first_of (unless t Length) w ≡ Err (Block f) → w ≡ Err (Block f)
past_length true w f e = e
past_length false w f e = cc

pub first_block_decides : (file : List ℕ) (owners : ℕ) (verdict : Verdict FileFault) → verdict ≡ file_verdict file owners → FirstBlockDecides file owners verdict
first_block_decides file owners verdict is fault e =
    let blocks : ℕ → Verdict FileFault = λ block. lifted Block (verdict_at file owners block) in
    let stops : file_verdict file owners ≡ Err (Block fault) = cc in
    let inner = past_length (right_length file) (up_to blocks (blocks_in file)) fault stops in
    let d = up_to_decides blocks (blocks_in file) (Block fault) inner in
    (d.0, d.1, below_fault (verdict_at file owners d.0) fault d.2, λ k h. below_none (verdict_at file owners k) (d.3 k h))

-- ---- a loop over the blocks of a file that was taken up: where it stops, and where it has passed them all
module _ (file bytes : List ℕ) (owners number : ℕ) (same : bytes ≡ file) (owned : number ≡ owners) (whole : Ok tt ≡ unless (right_length file) Length) where
  pub file_stops : (block : ℕ) (e : FileFault)
      → up_to (λ k. lifted Block (verdict_at bytes number k)) block ≡ Ok tt
      → Err e ≡ lifted Block (verdict_at bytes number block)
      → block < blocks_in bytes
      → Err e ≡ file_verdict file owners
  file_stops block e before here h =
      let stops = up_to_stops (λ k. lifted Block (verdict_at bytes number k)) block (blocks_in bytes) e before (sym here) h in
      let right = rw (← same) at whole in
      rw (← same, ← owned, ← right, stops)

  pub file_passes : up_to (λ k. lifted Block (verdict_at bytes number k)) (blocks_in bytes) ≡ Ok tt → Ok tt ≡ file_verdict file owners
  file_passes all = let right = rw (← same) at whole in rw (← same, ← owned, ← right, all)
