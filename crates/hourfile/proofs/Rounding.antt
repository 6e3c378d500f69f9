-- Rounding to cents: how large the cents of grains are.
use Rattle.std.proofs.Common.{◌≡◌, ◌+◌, ◌*◌, ◌≤◌, ℤ, pos, negsuc, nat_abs, ◌≤ℤ◌, refl, arith}
use borrow.Author.Differences.{ints}
use Rattle.market.specs.Cents.{nearest_cent}
use Rattle.hourfile.specs.declared.lines.Line.{Line}
use Rattle.hourfile.specs.declared.lines.Line.TheVariants.{DayAheadEnergy}
use Rattle.hourfile.specs.Lines.{line_of, no_lines}
use Rattle.hourfile.specs.Tallies.{grains_on, no_tally}

pub none_rounds : nearest_cent (pos 0) ≡ pos 0
unfolding nearest_cent
none_rounds = refl

-- nothing is rounded to nothing
pub nothing_rounds : (line : Line) → line_of no_lines line ≡ nearest_cent (grains_on no_tally line)
unfolding nearest_cent
nothing_rounds DayAheadEnergy = refl
nothing_rounds _ = refl

pub cent_within : (z : ℤ) → 12000 * nat_abs (nearest_cent z) ≤ nat_abs z + 6000
unfolding nearest_cent
cent_within (pos n) = omega arith
cent_within (negsuc n) = omega (arith, ints)

pub cent_sound : (z : ℤ) → pos 0 ≤ℤ z → pos 0 ≤ℤ nearest_cent z
unfolding nearest_cent
cent_sound (pos n) h = omega (arith, ints)
cent_sound (negsuc n) h = absurd (omega (arith, ints))
