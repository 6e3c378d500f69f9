-- The tallies of the places, one block after the other.
use Rattle.std.proofs.Common.{◌≡◌, ℕ, ◌+◌, ◌<◌, ◌≤◌, Bool, true, false, cond, eqb, List, length, get_or, set, replicate, ℤ, pos, ◌+ℤ◌, nat_abs, Some, refl, sym, ap, ◌∙◌, subst, arith, below_more}
use borrow.Author.Differences.{ints}
use Rattle.std.proofs.lemmas.Bool.{eqb-true}
use Rattle.blocks.specs.declared.kind.Kind.TheVariants.{Header}
use Rattle.pools.specs.Sharing.{before}
use Rattle.records.specs.Contents.{zone_prices_at}
use Rattle.hourfile.specs.declared.lines.Line.{Line}
use Rattle.hourfile.specs.declared.lines.Line.TheVariants.{DayAheadEnergy}
use Rattle.hourfile.specs.declared.tally.Tally.{Tally}
use Rattle.hourfile.specs.Files.{part_of}
use Rattle.hourfile.specs.Hours.{block_line, block_withdrawn, kind_in, kind_line, kind_withdrawn, stands_at, sum_below}
use Rattle.hourfile.specs.Tallies.{Adds, CanAdd, InBounds, IsSum, TalliedUpto, grains_on, line_bound, no_tally}
use Rattle.hourfile.proofs.Bounding.{grains_within, most_bound, withdrawn_within}
use Rattle.hourfile.proofs.Setting.{replicated, written}
use Rattle.hourfile.proofs.Sums.{before_more, sum_more}

same_bounds : (f g : Line → ℤ) (m n : ℕ) → ((line : Line) → f line ≡ g line) → m ≡ n → InBounds f m → InBounds g n
same_bounds f g m n grains withdrawn bounds =
    subst (λ (h : Line → ℤ). InBounds h n) (λ i line. grains line i) (subst (λ (k : ℕ). InBounds f k) withdrawn bounds)

-- ---- the header adds nothing
none_on : (line : Line) → grains_on no_tally line ≡ pos 0
none_on DayAheadEnergy = refl
none_on _ = refl

none_within : (line : Line) → nat_abs (grains_on no_tally line) ≤ line_bound line
none_within DayAheadEnergy = omega arith
none_within _ = omega arith

none_bounds : InBounds (grains_on no_tally) 0
none_bounds = record { within = none_within; day_ahead = omega (arith, ints); real_time = omega (arith, ints); few = omega arith }

neither : {X : Type 0} (t : Bool) (x y : X) → x ≡ y → cond t x y ≡ y
neither true x y e = e
neither false x y e = refl

module _ (file : List ℕ) (is : kind_in (part_of file 0) ≡ Some Header) where
  header_line : (line : Line) → block_line file line 0 ≡ pos 0
  unfolding block_line
  header_line line = ap (λ k. kind_line k (zone_prices_at (part_of file 0)) (part_of file 0) line) is

  header_withdrawn : block_withdrawn file 0 ≡ 0
  unfolding block_withdrawn
  header_withdrawn = ap (λ k. kind_withdrawn k (part_of file 0)) is

  pub tallied_none : TalliedUpto file (replicate 32 no_tally) 1
  unfolding before sum_below
  tallied_none = record {
    grains = λ place line.
        let here = neither (stands_at file place 0) (block_line file line 0) (pos 0) (header_line line) in
        let left = ap (λ t. grains_on t line) (replicated no_tally 32 place) ∙ none_on line in
        omega (arith, ints);
    withdrawn = λ place.
        let here = neither (stands_at file place 0) (block_withdrawn file 0) 0 header_withdrawn in
        let left = ap (λ t. t.withdrawn) (replicated no_tally 32 place) in
        omega arith;
    bounds = λ block h.
        let first : 0 ≡ block = omega arith in
        subst (λ (k : ℕ). InBounds (λ line. block_line file line k) (block_withdrawn file k)) first
        (same_bounds (grains_on no_tally) (λ line. block_line file line 0) 0 (block_withdrawn file 0) (λ line. none_on line ∙ sym (header_line line)) (sym header_withdrawn) none_bounds);
  }

-- ---- a turn of the loop
turned : (b : Bool) (t u : Tally) (line : Line) (s z : ℤ) → (b ≡ true → grains_on t line ≡ s +ℤ z) → grains_on u line ≡ s → grains_on (cond b t u) line ≡ s +ℤ cond b z (pos 0)
turned true t u line s z here there = here refl
turned false t u line s z here there = omega (arith, ints)

turned_withdrawn : (b : Bool) (t u : Tally) (s n : ℕ) → (b ≡ true → t.withdrawn ≡ s + n) → u.withdrawn ≡ s → (cond b t u).withdrawn ≡ s + cond b n 0
turned_withdrawn true t u s n here there = here refl
turned_withdrawn false t u s n here there = omega arith

module _ (file : List ℕ) (owners : ℕ) (tallies : List Tally) (block place : ℕ) (added : Tally) (so_far : TalliedUpto file tallies block) (adds : Adds file owners block place added) where
  pub can_add : block ≤ 64 → CanAdd (get_or tallies place no_tally) added
  can_add few = record {
    grains = λ line.
        let before_it = grains_within file block so_far.bounds place line in
        let here = adds.bounds.within line in
        let most = most_bound line in
        rw (so_far.grains place line) (omega (arith, ints));
    withdrawn = let before_it = withdrawn_within file block so_far.bounds place in let here = adds.bounds.few in rw (so_far.withdrawn place) (omega arith);
  }

  pub tallied_more : (t : Tally) → IsSum (get_or tallies place no_tally) added t → place < length tallies → TalliedUpto file (set tallies place t) (block + 1)
  tallied_more t sum room = record {
    grains = λ other line.
        let f : ℕ → ℤ = λ k. cond (stands_at file other k) (block_line file line k) (pos 0) in
        rw (written tallies place other t no_tally room, sum_more f block, ← adds.stands)
        (turned (eqb place other) t (get_or tallies other no_tally) line _ _
        (λ yes.
        let same : place ≡ other = eqb-true place other yes in
        sum.grains line ∙ ap (λ z. grains_on (get_or tallies place no_tally) line +ℤ z) (adds.grains line) ∙ rw same (ap (λ z. z +ℤ block_line file line block) (so_far.grains other line)))
        (so_far.grains other line));
    withdrawn = λ other.
        let f : ℕ → ℕ = λ k. cond (stands_at file other k) (block_withdrawn file k) 0 in
        rw (written tallies place other t no_tally room, before_more f block, ← adds.stands)
        (turned_withdrawn (eqb place other) t (get_or tallies other no_tally) _ _
        (λ yes.
        let same : place ≡ other = eqb-true place other yes in
        sum.withdrawn ∙ ap (λ n. (get_or tallies place no_tally).withdrawn + n) adds.withdrawn ∙ rw same (ap (λ n. n + block_withdrawn file block) (so_far.withdrawn other)))
        (so_far.withdrawn other));
    bounds = below_more _ _ so_far.bounds (same_bounds (grains_on added) (λ line. block_line file line block) added.withdrawn (block_withdrawn file block) adds.grains adds.withdrawn adds.bounds);
  }
