-- What a block, or the blocks of a place, come to.
use Rattle.std.specs.Prelude.{◌≡◌, ℕ, ◌+◌, ◌^◌, ◌<◌, ◌≤◌, List, ℤ, pos, ◌+ℤ◌, ◌≤ℤ◌, FitsSigned, slice_index_or, unsigned_abs}
use Rattle.std.specs.Int.{w64}
use Rattle.blocks.specs.Words.{byte_at}
use Rattle.hourfile.specs.declared.lines.Line.{Line}
use Rattle.hourfile.specs.declared.lines.Line.TheVariants.{DayAheadEnergy, Balancing, Virtual, Reserve, DayAheadMakeWhole, RealTimeMakeWhole, Uplift, Residual}
use Rattle.hourfile.specs.declared.tally.Tally.{Tally}
use Rattle.hourfile.specs.Files.{blocks_in, part_of}
use Rattle.hourfile.specs.Hours.{block_line, block_withdrawn, line_grains, place_withdrawn}

-- The grains of a tally on a line; pools are struck in cents, so it has none on the lines of their shares.
abbrev pub grains_on : Tally → Line → ℤ
grains_on t DayAheadEnergy = t.day_ahead_energy
grains_on t Balancing = t.balancing
grains_on t Virtual = t.virtual_trade
grains_on t Reserve = t.reserve
grains_on t DayAheadMakeWhole = t.day_ahead_make_whole
grains_on t RealTimeMakeWhole = t.real_time_make_whole
grains_on t Uplift = pos 0
grains_on t Residual = pos 0

abbrev pub no_tally : Tally
no_tally = record {
  day_ahead_energy = pos 0;
  balancing = pos 0;
  virtual_trade = pos 0;
  reserve = pos 0;
  day_ahead_make_whole = pos 0;
  real_time_make_whole = pos 0;
  withdrawn = 0;
}

-- Two tallies may be added where each sum fits, and what they then come to.
pub record CanAdd (a b : Tally) : Type 0 where
  pub grains : (line : Line) → FitsSigned w64 (grains_on a line +ℤ grains_on b line)
  pub withdrawn : a.withdrawn + b.withdrawn < 2 ^ 32

pub record IsSum (a b sum : Tally) : Type 0 where
  pub grains : (line : Line) → grains_on sum line ≡ grains_on a line +ℤ grains_on b line
  pub withdrawn : sum.withdrawn ≡ a.withdrawn + b.withdrawn

-- The most grains that one block adds to a line, either way.
abbrev pub line_bound : Line → ℕ
line_bound DayAheadEnergy = 240000000000
line_bound Balancing = 241920000000
line_bound Virtual = 480000000000
line_bound Reserve = 480000000000
line_bound DayAheadMakeWhole = 960000000000
line_bound RealTimeMakeWhole = 960000000000
line_bound Uplift = 0
line_bound Residual = 0

-- What one block adds is within these bounds, it adds no negative make-whole, and it withdraws no more than twelve intervals may.
pub record InBounds (grains : Line → ℤ) (withdrawn : ℕ) : Type 0 where
  pub within : (line : Line) → unsigned_abs (grains line) ≤ line_bound line
  pub day_ahead : pos 0 ≤ℤ grains DayAheadMakeWhole
  pub real_time : pos 0 ≤ℤ grains RealTimeMakeWhole
  pub few : withdrawn ≤ 100800

-- What a block after the header comes to: the place of an owner, and the tally of what the block adds there.
pub record Adds (file : List ℕ) (owners block place : ℕ) (tally : Tally) : Type 0 where
  pub stands : place ≡ byte_at (part_of file block) 3
  pub owned : place < owners
  pub grains : (line : Line) → grains_on tally line ≡ block_line file line block
  pub withdrawn : tally.withdrawn ≡ block_withdrawn file block
  pub bounds : InBounds (grains_on tally) tally.withdrawn

-- The tallies of the places, over the first blocks of a file and over all of them. What each block adds is within its bounds.
pub record TalliedUpto (file : List ℕ) (tallies : List Tally) (blocks : ℕ) : Type 0 where
  pub grains : (place : ℕ) (line : Line) → grains_on (slice_index_or tallies place no_tally) line ≡ line_grains file place line blocks
  pub withdrawn : (place : ℕ) → (slice_index_or tallies place no_tally).withdrawn ≡ place_withdrawn file place blocks
  pub bounds : (block : ℕ) → block < blocks → InBounds (λ line. block_line file line block) (block_withdrawn file block)

abbrev pub Tallied : List ℕ → List Tally → Type 0
Tallied file tallies = TalliedUpto file tallies (blocks_in file)
