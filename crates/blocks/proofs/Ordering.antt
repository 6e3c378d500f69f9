-- The first rule that a block breaks decides.
use Rattle.std.proofs.Common.{◌≡◌, ℕ, Bool, true, false, eqb, List, length, get_or, Ok, Err, Result, sym, refl, ◌∙◌, arith}
use Rattle.blocks.specs.declared.fault.BlockFault.{BlockFault}
use Rattle.blocks.specs.declared.fault.FileFault.{FileFault}
use Rattle.blocks.specs.declared.fault.FileFault.TheVariants.{Length, Block}
use Rattle.blocks.specs.declared.limits.Limits.{Limits}
use Rattle.blocks.specs.Firsts.{Verdict, first_of, lifted, unless, up_to}
use Rattle.blocks.specs.Lone.{LowestOf, part_verdict}
use Rattle.blocks.specs.Records.{Opened, record_of}
use Rattle.blocks.specs.Verdicts.{LowestDecides, block_verdict, check_verdict, hour_verdict, kind_verdict, number_verdict, on_opened, place_verdict, range_verdict, rows_verdict, rule_verdicts, schedule_verdict, unused_verdict}
use Rattle.blocks.proofs.Deciding.{up_to_decides}

abbrev Rules : Type 0
Rules = Opened → Verdict BlockFault

first_of_assoc : (a b c : Verdict BlockFault) → first_of (first_of a b) c ≡ first_of a (first_of b c)
first_of_assoc (Ok u) b c = refl
first_of_assoc (Err e) b c = refl

-- rules taken together, and one by one
module _ (a b c d e f g h : Rules) where
  in_a_row : (v : Verdict BlockFault) (r : Opened)
      → first_of v (first_of (a r) (first_of (b r) (first_of (c r) (first_of (d r) (first_of (e r) (first_of (f r) (first_of (g r) (h r))))))))
      ≡ first_of (first_of (first_of (first_of (first_of (first_of (first_of (first_of v (a r)) (b r)) (c r)) (d r)) (e r)) (f r)) (g r)) (h r)
  in_a_row v r = simp first_of_assoc

  one_by_one : (v : Verdict BlockFault) (o : Result Opened BlockFault)
      → first_of v (on_opened o (λ r. first_of (a r) (first_of (b r) (first_of (c r) (first_of (d r) (first_of (e r) (first_of (f r) (first_of (g r) (h r)))))))))
      ≡ first_of (first_of (first_of (first_of (first_of (first_of (first_of (first_of v (on_opened o a)) (on_opened o b)) (on_opened o c)) (on_opened o d)) (on_opened o e)) (on_opened o f)) (on_opened o g)) (on_opened o h)
  one_by_one v (Ok r) = in_a_row v r
  one_by_one (Ok u) (Err x) = refl
  one_by_one (Err y) (Err x) = refl

chain : (limits : Limits) (block : ℕ) (part : List ℕ) → block_verdict limits block part ≡ up_to (λ n. get_or (rule_verdicts limits block part) n (Ok tt)) 9
unfolding up_to
chain limits block part =
    one_by_one (kind_verdict limits) (hour_verdict limits) (place_verdict limits) (number_verdict limits) range_verdict rows_verdict schedule_verdict unused_verdict (check_verdict block part) (record_of part block)

pub lowest_decides : (limits : Limits) (block : ℕ) (part : List ℕ) → LowestDecides limits block part (block_verdict limits block part)
lowest_decides limits block part fault e = up_to_decides (λ n. get_or (rule_verdicts limits block part) n (Ok tt)) 9 fault (sym (chain limits block part) ∙ e)

-- a fault of a block where it stands is a fault of its rules
past_length : (test : Bool) (v : Verdict BlockFault) (fault : BlockFault) → first_of (unless test Length) (lifted Block v) ≡ Err (Block fault) → v ≡ Err fault
past_length true (Ok u) fault e = let z : ◌≡◌ {A = ℕ} 0 1 = cc in absurd (omega arith)
past_length true (Err d) fault e = cc
past_length false v fault e = let z : ◌≡◌ {A = ℕ} 0 1 = cc in absurd (omega arith)

pub lowest_of : (limits : Limits) (block : ℕ) (part : List ℕ) (verdict : Verdict FileFault) → verdict ≡ part_verdict limits block part → LowestOf limits block part verdict
lowest_of limits block part verdict is fault e =
    let stops : part_verdict limits block part ≡ Err (Block fault) = sym is ∙ e in
    lowest_decides limits block part fault (past_length (eqb (length part) 512) (block_verdict limits block part) fault stops)
