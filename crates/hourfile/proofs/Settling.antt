-- From the tallies of the places to the amounts of the hour.
use Rattle.std.proofs.Common.{◌≡◌, ℕ, zero, suc, ◌*◌, ◌/◌, ◌<◌, ◌≤◌, ltb, List, length, get_or, take, ℤ, pos, negsuc, ◌-ℤ◌, nat_abs, sym, refl, ap, ◌∙◌, subst, ⊎_elim, mul_comm, arith, length-take, length-take-le, get_or-take, w64, to_z, of_z}
use borrow.Author.Differences.{ints}
use native.Mathlib.Nat.{div-le_of_le-mul}
use Rattle.std.proofs.lemmas.Bool.{cases_lt, cond_both, cond-false, cond-true, le-ltb, lt-ltb, ltb-true}
use Rattle.std.proofs.lemmas.List.{get_or_past}
use Rattle.std.proofs.lemmas.Nat.{mul-le}
use Rattle.market.specs.Cents.{nearest_cent}
use Rattle.pools.specs.Sharing.{Shared, before, operator_part, signed_as, sum_of}
use Rattle.hourfile.specs.declared.lines.Line.{Line}
use Rattle.hourfile.specs.declared.lines.Line.TheVariants.{DayAheadEnergy}
use Rattle.hourfile.specs.declared.lines.Lines.{Lines}
use Rattle.hourfile.specs.declared.tally.Tally.{Tally}
use Rattle.hourfile.specs.Files.{blocks_in}
use Rattle.hourfile.specs.Hours.{HourLaws, amount, line_cents, own_cents, pool_part, residual_pool, sum_below, trade_part, uplift_part, uplift_pool, weight_at, withdrawn_at}
use Rattle.hourfile.specs.Lines.{line_of, no_lines}
use Rattle.hourfile.specs.Tallies.{Tallied, grains_on, no_tally}
use Rattle.hourfile.proofs.Laws.{Parts, cents_within, hour_laws, own_other, own_owner, residual_within, uplift_within}
use Rattle.hourfile.proofs.Rounding.{nothing_rounds}
use Rattle.hourfile.proofs.Sums.{before_le, sum_more, sum_same}

pub nothing_on : (line : Line) → line_of no_lines line ≡ pos 0
nothing_on DayAheadEnergy = refl
nothing_on _ = refl

-- ---- the owners' own lines
-- what the tallies of a file without a fault come to: the places' own lines, and what is struck as pools
pub record Own (file : List ℕ) (owners : ℕ) (tallies : List Tally) (places : List Lines) : Type 0 where
  pub lines : (place : ℕ) (line : Line) → line_of (get_or places place no_lines) line ≡ own_cents file owners place line
  pub small : (place : ℕ) → place < length (take owners places) → (line : Line) → nat_abs (line_of (get_or (take owners places) place no_lines) line) ≤ 6000000000
  pub gathered : (part : (Line → ℤ) → ℤ) → sum_below (λ place. part (line_of (get_or (take owners places) place no_lines))) (length (take owners places)) ≡ sum_below (λ place. part (line_cents file place)) owners
  pub weighs : (weighs : ℕ → ℕ → ℕ) (quantities : List ℕ) → ((place : ℕ) → get_or quantities place 0 ≡ (get_or tallies place no_tally).withdrawn) → (place : ℕ) → weighs place (get_or quantities place 0) ≡ weight_at weighs file place
  pub uplift : nat_abs (uplift_pool file owners) ≤ 14000000000
  pub residual : nat_abs (residual_pool file owners) ≤ 14000000000
  pub laws : (uplift residual : ℕ → ℕ → ℕ) → Parts (uplift_pool file owners) (weight_at uplift file) owners → Parts (residual_pool file owners) (weight_at residual file) owners → HourLaws owners (amount file owners uplift residual)

module _ (file : List ℕ) (owners : ℕ) (few : owners ≤ 32) (blocks : blocks_in file ≤ 64) (tallies : List Tally) (tallied : Tallied file tallies) (whole : length tallies ≡ 32) where
  rounded_is : (place : ℕ) (line : Line) → nearest_cent (grains_on (get_or (take owners tallies) place no_tally) line) ≡ own_cents file owners place line
  unfolding line_cents
  rounded_is place line =
      ⊎_elim
      (λ h.
      ap (λ t. nearest_cent (grains_on t line)) (get_or-take owners tallies place no_tally h)
      ∙ ap nearest_cent (tallied.grains place line)
      ∙ sym (own_owner file owners place line h))
      (λ (h : owners ≤ place).
      let past : length (take owners tallies) ≤ place = simp length-take (omega arith) in
      ap (λ t. nearest_cent (grains_on t line)) (get_or_past (take owners tallies) place no_tally past) ∙ sym (nothing_rounds line) ∙ nothing_on line ∙ sym (own_other file owners place line h))
      (cases_lt place owners)

  weights_are : (weighs : ℕ → ℕ → ℕ) (quantities : List ℕ) → ((place : ℕ) → get_or quantities place 0 ≡ (get_or tallies place no_tally).withdrawn)
      → (place : ℕ) → weighs place (get_or quantities place 0) ≡ weight_at weighs file place
  unfolding withdrawn_at
  weights_are weighs quantities withdrawn place = ap (weighs place) (withdrawn place ∙ tallied.withdrawn place)

  pub own : (places : List Lines) → length places ≡ 33
      → ((place : ℕ) (line : Line) → line_of (get_or places place no_lines) line ≡ nearest_cent (grains_on (get_or (take owners tallies) place no_tally) line)) → Own file owners tallies places
  own places room rounded =
      let lines : (place : ℕ) (line : Line) → line_of (get_or places place no_lines) line ≡ own_cents file owners place line = λ place line. rounded place line ∙ rounded_is place line in
      let long = length-take-le owners places (omega arith) in
      let cents : (place : ℕ) → place < owners → (line : Line) → line_of (get_or (take owners places) place no_lines) line ≡ line_cents file place line =
      λ place h line. ap (λ x. line_of x line) (get_or-take owners places place no_lines h) ∙ lines place line ∙ own_owner file owners place line h in
      record {
        lines = lines;
        small = λ place h line. rw (cents place (omega arith) line) (cents_within file owners few blocks tallied.bounds place line);
        gathered = λ part.
            ap (sum_below (λ place. part (line_of (get_or (take owners places) place no_lines)))) long
            ∙ sum_same (λ place. part (line_of (get_or (take owners places) place no_lines))) (λ place. part (line_cents file place)) owners (λ place h. ap part (λ i line. cents place h line i));
        weighs = weights_are;
        uplift = uplift_within file owners few blocks tallied.bounds;
        residual = residual_within file owners few blocks tallied.bounds;
        laws = hour_laws file owners few blocks tallied.bounds;
      }

-- what the code strikes is the pools
module _ (file : List ℕ) (owners : ℕ) (tallies : List Tally) (places : List Lines) (o : Own file owners tallies places) (r : ℤ) where
  pub uplift_struck : r ≡ sum_below (λ place. uplift_part (line_of (get_or (take owners places) place no_lines))) (length (take owners places)) → to_z w64 (of_z w64 r) ≡ uplift_pool file owners
  unfolding uplift_pool
  uplift_struck is = let small = o.uplift in let same = o.gathered uplift_part in omega (arith, ints)

  pub residual_struck : r ≡ sum_below (λ place. trade_part (line_of (get_or (take owners places) place no_lines))) (length (take owners places))
      → to_z w64 (of_z w64 (pos 0 -ℤ to_z w64 (of_z w64 r))) ≡ residual_pool file owners
  unfolding residual_pool
  residual_struck is = let small = o.residual in let same = o.gathered trade_part in omega (arith, ints)

-- ---- the shares of a pool
part_size : (pool : ℤ) (m n size : ℕ) → m ≤ size → n ≤ size → nat_abs (signed_as pool m -ℤ signed_as pool n) ≤ size
part_size (pos _) m n size h k = omega (arith, ints)
part_size (negsuc _) m n size h k = omega (arith, ints)

falls_within : (size running whole : ℕ) → running ≤ whole → size * running / whole ≤ size
falls_within size running whole h = div-le_of_le-mul whole (rw (mul_comm whole size) (mul-le size running size whole (omega arith) h))

operator_within : (pool : ℤ) (whole : ℕ) → nat_abs (operator_part pool whole) ≤ nat_abs pool
operator_within pool zero = omega arith
operator_within pool (suc n) = omega arith

module _ (pool : ℤ) (weight : ℕ → ℕ) (owners : ℕ) (shares : List ℤ) (operator : ℤ) (shared : Shared pool weight owners shares operator) where
  pub share_is : (place : ℕ) → place < owners → get_or shares place (pos 0) ≡ pool_part pool weight owners place
  share_is place h = shared.exact place h ∙ sym (cond-true (ltb place owners) _ _ (lt-ltb place owners h))

  pub operator_is : operator ≡ pool_part pool weight owners owners
  operator_is = shared.operated ∙ sym (cond-false (ltb owners owners) _ _ (le-ltb owners owners (omega arith)))

  shares_sum : (n : ℕ) → n ≤ owners → sum_below (pool_part pool weight owners) n ≡ sum_of shares n
  unfolding sum_below sum_of
  shares_sum zero h = refl
  shares_sum (suc n) h = rw (shares_sum n (omega arith), share_is n h)

  pub parts : Parts pool weight owners
  parts = record {
    sum =
        let all = shares_sum owners (omega arith) in
        let more = sum_more (pool_part pool weight owners) owners in
        let whole = shared.complete in
        let last = operator_is in
        omega (arith, ints);
    within = λ place.
        cond_both (ltb place owners) _ _ (λ z. nat_abs z ≤ nat_abs pool)
        (λ is.
        let inside = ltb-true place owners is in
        part_size pool _ _ (nat_abs pool)
        (falls_within (nat_abs pool) (before weight (suc place)) (before weight owners) (before_le weight (suc place) owners inside))
        (falls_within (nat_abs pool) (before weight place) (before weight owners) (before_le weight place owners (omega arith))))
        (λ _. operator_within pool (before weight owners));
  }

  pub share_small : nat_abs pool ≤ 14000000000 → (place : ℕ) → nat_abs (get_or shares place (pos 0)) ≤ 14000000000
  share_small small place =
      ⊎_elim
      (λ h. rw (share_is place h) (omega (arith, parts.within place)))
      (λ h. rw (shared.others place h) (omega arith))
      (cases_lt place owners)

  pub operator_small : nat_abs pool ≤ 14000000000 → nat_abs operator ≤ 14000000000
  operator_small small = rw operator_is (omega (arith, parts.within owners))

-- the shares of what was struck are those of the pool, by the weights of the file and among the owners of the day
pub restated : (w v : ℕ → ℕ) (r pool : ℤ) (count owners : ℕ) (shares : List ℤ) (operator : ℤ) → ((place : ℕ) → w place ≡ v place) → r ≡ pool → count ≡ owners → Shared r w count shares operator → Shared pool v owners shares operator
restated w v r pool count owners shares operator weighed is same shared =
    subst (λ (n : ℕ). Shared pool v n shares operator) same
    (subst (λ (z : ℤ). Shared z v count shares operator) is
    (subst (λ (u : ℕ → ℕ). Shared r u count shares operator) (λ i place. weighed place i) shared))
