-- How large what the blocks of a file come to at a place is, and that it is no negative make-whole where no block adds one.
use Rattle.std.proofs.Common.{ℕ, ◌*◌, ◌<◌, ◌≤◌, Bool, true, false, cond, List, ℤ, pos, nat_abs, ◌≤ℤ◌, arith}
use borrow.Author.Differences.{ints}
use Rattle.hourfile.specs.declared.lines.Line.{Line}
use Rattle.hourfile.specs.declared.lines.Line.TheVariants.{DayAheadEnergy}
use Rattle.hourfile.specs.Hours.{block_line, block_withdrawn, line_grains, place_withdrawn, stands_at}
use Rattle.hourfile.specs.Tallies.{InBounds, line_bound}
use Rattle.hourfile.proofs.Sums.{before_most, sum_sound, sum_within}

pub most_bound : (line : Line) → line_bound line ≤ 960000000000
most_bound DayAheadEnergy = omega arith
most_bound _ = omega arith

at_most : (t : Bool) (n m : ℕ) → n ≤ m → cond t n 0 ≤ m
at_most true n m h = h
at_most false n m h = omega arith

at_within : (t : Bool) (z : ℤ) (m : ℕ) → nat_abs z ≤ m → nat_abs (cond t z (pos 0)) ≤ m
at_within true z m h = h
at_within false z m h = omega arith

at_sound : (t : Bool) (z : ℤ) → pos 0 ≤ℤ z → pos 0 ≤ℤ cond t z (pos 0)
at_sound true z h = h
at_sound false z h = omega (arith, ints)

module _ (file : List ℕ) (n : ℕ) (bounds : (block : ℕ) → block < n → InBounds (λ line. block_line file line block) (block_withdrawn file block)) (place : ℕ) where
  pub grains_within : (line : Line) → nat_abs (line_grains file place line n) ≤ 960000000000 * n
  grains_within line =
      sum_within (λ block. cond (stands_at file place block) (block_line file line block) (pos 0)) 960000000000 n
      (λ block h. at_within (stands_at file place block) (block_line file line block) 960000000000 (omega (arith, (bounds block h).within line, most_bound line)))

  pub withdrawn_within : place_withdrawn file place n ≤ 100800 * n
  withdrawn_within =
      before_most (λ block. cond (stands_at file place block) (block_withdrawn file block) 0) 100800 n
      (λ block h. at_most (stands_at file place block) (block_withdrawn file block) 100800 (bounds block h).few)

  pub grains_sound : (line : Line) → ((block : ℕ) → block < n → pos 0 ≤ℤ block_line file line block) → pos 0 ≤ℤ line_grains file place line n
  grains_sound line each =
      sum_sound (λ block. cond (stands_at file place block) (block_line file line block) (pos 0)) n
      (λ block h. at_sound (stands_at file place block) (block_line file line block) (each block h))
