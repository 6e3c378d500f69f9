-- The laws of an hour's amounts: both balances, no negative make-whole, and how large an amount is.
use Rattle.std.proofs.Common.{◌≡◌, ℕ, zero, suc, ◌+◌, ◌*◌, ◌<◌, ◌≤◌, Bool, true, false, cond, ltb, List, ℤ, pos, ◌+ℤ◌, nat_abs, ◌≤ℤ◌, ap, ◌∙◌, arith}
use borrow.Author.Differences.{ints}
use Rattle.std.proofs.lemmas.Bool.{cond_both, cond-false, cond-true, le-ltb, lt-ltb}
use Rattle.blocks.specs.Words.{byte_at}
use Rattle.pools.specs.Sharing.{before}
use Rattle.hourfile.specs.declared.lines.Line.{Line}
use Rattle.hourfile.specs.declared.lines.Line.TheVariants.{DayAheadEnergy, Balancing, Virtual, Reserve, DayAheadMakeWhole, RealTimeMakeWhole, Uplift, Residual}
use Rattle.hourfile.specs.Files.{blocks_in, part_of}
use Rattle.hourfile.specs.Hours.{HourLaws, amount, block_line, block_withdrawn, line_cents, line_grains, own_cents, pool_part, residual_pool, stands_at, sum_below, trade_part, uplift_part, uplift_pool, weight_at}
use Rattle.hourfile.specs.Tallies.{InBounds, line_bound}
use Rattle.hourfile.proofs.Bounding.{grains_sound, grains_within}
use Rattle.hourfile.proofs.ByLine.{by_line}
use Rattle.hourfile.proofs.Rounding.{cent_sound, cent_within}
use Rattle.hourfile.proofs.Sums.{before_most, before_rounded, grows_once, sum_more, sum_negative, sum_plus, sum_same, sum_sizes}

-- ---- an owner's own cents, and the operator's
pub own_owner : (file : List ℕ) (owners place : ℕ) (line : Line) → place < owners → own_cents file owners place line ≡ line_cents file place line
own_owner file owners place line h = cond-true (ltb place owners) _ _ (lt-ltb place owners h)

pub own_other : (file : List ℕ) (owners place : ℕ) (line : Line) → owners ≤ place → own_cents file owners place line ≡ pos 0
own_other file owners place line h = cond-false (ltb place owners) _ _ (le-ltb place owners h)

-- the parts of a pool: together they are the pool, and none is larger
pub record Parts (pool : ℤ) (weight : ℕ → ℕ) (owners : ℕ) : Type 0 where
  pub sum : sum_below (pool_part pool weight owners) (owners + 1) ≡ pool
  pub within : (place : ℕ) → nat_abs (pool_part pool weight owners place) ≤ nat_abs pool

at_size : (t : Bool) (sum z : ℤ) (m : ℕ) → nat_abs z ≤ m → nat_abs (sum +ℤ cond t z (pos 0)) ≤ nat_abs sum + cond t m 0
at_size true sum z m h = omega (arith, ints)
at_size false sum z m h = omega (arith, ints)

module _ (file : List ℕ) (owners : ℕ) (few : owners ≤ 32) (blocks : blocks_in file ≤ 64)
    (bounds : (block : ℕ) → block < blocks_in file → InBounds (λ line. block_line file line block) (block_withdrawn file block)) where
  -- ---- cents
  rounded : (place : ℕ) (line : Line) → 12000 * nat_abs (line_cents file place line) ≤ nat_abs (line_grains file place line (blocks_in file)) + 6000
  unfolding line_cents
  rounded place line = cent_within (line_grains file place line (blocks_in file))

  pub cents_within : (place : ℕ) (line : Line) → nat_abs (line_cents file place line) ≤ 6000000000
  cents_within place line = omega (arith, rounded place line, grains_within file (blocks_in file) bounds place line)

  cents_sound : (line : Line) (place : ℕ) → ((block : ℕ) → block < blocks_in file → pos 0 ≤ℤ block_line file line block) → pos 0 ≤ℤ line_cents file place line
  unfolding line_cents
  cents_sound line place each = cent_sound (line_grains file place line (blocks_in file)) (grains_sound file (blocks_in file) bounds place line each)

  -- ---- all owners together: a block adds to one of them only
  grains_total : (line : Line) (n : ℕ) → n ≤ blocks_in file → before (λ place. nat_abs (line_grains file place line n)) owners ≤ line_bound line * n
  unfolding sum_below
  grains_total line zero h = omega (arith, before_most (λ place. nat_abs (line_grains file place line 0)) 0 owners (λ place l. omega arith))
  grains_total line (suc n) h =
      let front = grains_total line n (omega arith) in
      let here = (bounds n (omega arith)).within line in
      let grows = grows_once (λ place. nat_abs (line_grains file place line (suc n))) (λ place. nat_abs (line_grains file place line n)) (byte_at (part_of file n) 3) (line_bound line) owners
      (λ place l. at_size (stands_at file place n) (line_grains file place line n) (block_line file line n) (line_bound line) here) in
      omega (arith, grows.0)

  total : Line → ℕ
  total line = before (λ place. nat_abs (line_cents file place line)) owners

  total_within : (line : Line) → 12000 * total line ≤ line_bound line * blocks_in file + 6000 * owners
  unfolding total
  total_within line =
      let grains = grains_total line (blocks_in file) (omega arith) in
      let cents = before_rounded (λ place. nat_abs (line_cents file place line)) (λ place. nat_abs (line_grains file place line (blocks_in file))) owners (λ place h. rounded place line) in
      omega arith

  -- ---- the pools
  pub uplift_within : nat_abs (uplift_pool file owners) ≤ 14000000000
  unfolding total uplift_pool
  uplift_within =
      omega (
        arith,
        sum_sizes (λ place. line_cents file place Reserve) (λ place. line_cents file place DayAheadMakeWhole) (λ place. line_cents file place RealTimeMakeWhole) owners,
        total_within Reserve,
        total_within DayAheadMakeWhole,
        total_within RealTimeMakeWhole,
      )

  pub residual_within : nat_abs (residual_pool file owners) ≤ 14000000000
  unfolding total residual_pool
  residual_within =
      omega (
        arith,
        ints,
        sum_sizes (λ place. line_cents file place DayAheadEnergy) (λ place. line_cents file place Balancing) (λ place. line_cents file place Virtual) owners,
        total_within DayAheadEnergy,
        total_within Balancing,
        total_within Virtual,
      )

  -- ---- the amounts
  -- what the owners have of their own is the same over all places
  owners_sum : (part : (Line → ℤ) → ℤ) → part (λ _. pos 0) ≡ pos 0 → sum_below (λ place. part (own_cents file owners place)) (owners + 1) ≡ sum_below (λ place. part (line_cents file place)) owners
  owners_sum part none =
      let owns = sum_same (λ place. part (own_cents file owners place)) (λ place. part (line_cents file place)) owners (λ place h. ap part (λ i line. own_owner file owners place line h i)) in
      let operator : part (own_cents file owners owners) ≡ pos 0 = ap part (λ i line. own_other file owners owners line (omega arith) i) ∙ none in
      let more = sum_more (λ place. part (own_cents file owners place)) owners in
      omega (arith, ints)

  module _ (uplift residual : ℕ → ℕ → ℕ) (up : Parts (uplift_pool file owners) (weight_at uplift file) owners) (back : Parts (residual_pool file owners) (weight_at residual file) owners) where
    abbrev amt : ℕ → Line → ℤ
    amt = amount file owners uplift residual

    own_sound : (place : ℕ) (line : Line) → ((block : ℕ) → block < blocks_in file → pos 0 ≤ℤ block_line file line block) → pos 0 ≤ℤ own_cents file owners place line
    own_sound place line each = cond_both (ltb place owners) _ _ (λ z. pos 0 ≤ℤ z) (λ _. cents_sound line place each) (λ _. omega (arith, ints))

    own_within : (place : ℕ) (line : Line) → nat_abs (own_cents file owners place line) ≤ 14000000000
    own_within place line = cond_both (ltb place owners) _ _ (λ z. nat_abs z ≤ 14000000000) (λ _. omega (arith, cents_within place line)) (λ _. omega arith)

    pub hour_laws : HourLaws owners (amount file owners uplift residual)
    unfolding amount residual_pool uplift_pool
    hour_laws = record {
      trade = omega (arith, ints, sum_plus (λ place. trade_part (amt place)) (λ place. amt place Residual) (owners + 1), owners_sum trade_part (omega (arith, ints)), back.sum);
      uplift =
          omega (
            arith,
            ints,
            sum_plus (λ place. uplift_part (amt place)) (λ place. amt place Uplift) (owners + 1),
            owners_sum uplift_part (omega (arith, ints)),
            sum_negative (pool_part (uplift_pool file owners) (weight_at uplift file) owners) (owners + 1),
            up.sum,
          );
      day_ahead = λ place. own_sound place DayAheadMakeWhole (λ block h. (bounds block h).day_ahead);
      real_time = λ place. own_sound place RealTimeMakeWhole (λ block h. (bounds block h).real_time);
      bounded = λ place.
          by_line (λ line. nat_abs (amt place line) ≤ 14000000000)
          (own_within place DayAheadEnergy) (own_within place Balancing) (own_within place Virtual)
          (own_within place Reserve) (own_within place DayAheadMakeWhole) (own_within place RealTimeMakeWhole)
          (omega (arith, ints, up.within place, uplift_within))
          (omega (arith, back.within place, residual_within));
    }
