-- Figures in range: word by word as the verdict has it, and figure by figure as the market has it.
use Rattle.std.proofs.Common.{◌≡◌, ℕ, ◌+◌, ◌-◌, ◌*◌, ◌/◌, ◌<◌, ◌≤◌, Bool, false, ℤ, IfSome, Some, None, Option, refl, subst, arith}
use borrow.Author.Differences.{ints}
use Rattle.std.specs.Bool.{Decides}
use Rattle.std.proofs.lemmas.Bool.Decides.{nat_tests}
use Rattle.blocks.specs.Kinds.{figure_at, interval_figure, nth_of_interval}
use Rattle.blocks.specs.Records.{Opened, fault_at}
use Rattle.blocks.specs.Verdicts.{out_of_range}
use Rattle.blocks.specs.Words.{word_at}
use Rattle.blocks.specs.declared.fault.Rule.TheVariants as rules
use Rattle.blocks.specs.declared.kind.Kind.{Kind}
use Rattle.blocks.specs.declared.kind.Kind.TheVariants.{Header, Resource, Virtual}
use Rattle.market.specs.Figures.{InRange}
use Rattle.market.specs.declared.range.Figure.{Figure}
use Rattle.market.specs.declared.range.Figure.TheVariants.{Price, ReservePrice, Quantity, Reading}
use Rattle.records.specs.Contents.{figures_in_range}
use Rattle.records.specs.Held.{Holds, Whole}
use Rattle.records.proofs.Passing.{search_decides}

-- ---- the words of each kind that hold figures, whatever is asked of them
module _ (Has : Figure → ℕ → Type 0) where
  abbrev pub EachWord : Kind → Type 0
  EachWord kind = (k : ℕ) → IfSome (figure_at kind k) (λ figure. Has figure k)

  abbrev Interval : ℕ → Type 0
  Interval t = Has Price (8 + 5 * t) × Has Quantity (9 + 5 * t) × Has Reading (10 + 5 * t)

  abbrev ReserveInterval : ℕ → Type 0
  ReserveInterval t = Has ReservePrice (11 + 5 * t) × Has Quantity (12 + 5 * t)

  pub interval_words : EachWord Resource → (t : ℕ) → t < 12 → Interval t
  interval_words each t h =
      let price = each (8 + 5 * t) in
      let schedule = each (9 + 5 * t) in
      let reading = each (10 + 5 * t) in
      (grind (arith, nat_tests), grind (arith, nat_tests), grind (arith, nat_tests))

  pub reserve_interval_words : EachWord Resource → (t : ℕ) → t < 12 → ReserveInterval t
  reserve_interval_words each t h =
      let price = each (11 + 5 * t) in
      let schedule = each (12 + 5 * t) in
      (grind (arith, nat_tests), grind (arith, nat_tests))

  module _ (intervals : (t : ℕ) → t < 12 → Interval t) (reserve_intervals : (t : ℕ) → t < 12 → ReserveInterval t) where
    in_interval : (k : ℕ) → 8 ≤ k → k ≤ 67 → Has (interval_figure (nth_of_interval k)) k
    in_interval k low high =
        let t = (k - 8) / 5 in
        let inside : t < 12 = omega arith in
        let words = intervals t inside in
        let reserve_words = reserve_intervals t inside in
        grind (arith, nat_tests)

    pub resource_words : Has Price 2 → Has Quantity 3 → Has ReservePrice 4 → Has Quantity 5 → EachWord Resource
    resource_words price quantity reserve_price reserve k = grind (arith, nat_tests, in_interval)

  pub virtual_words : Has Quantity 2 → EachWord Virtual
  virtual_words quantity k = grind (arith, nat_tests)

  pub zone_words : EachWord Header → (t : ℕ) → t < 12 → Has Price (3 + t)
  zone_words each t h = let price = each (3 + t) in grind (arith, nat_tests)

  pub header_words : Has Price 2 → ((t : ℕ) → t < 12 → Has Price (3 + t)) → EachWord Header
  header_words day_ahead real_time k = let price = real_time (k - 3) in grind (arith, nat_tests)

-- ---- the verdict
figure_word : (kind : Kind) (k : ℕ) (figure : Figure) → figure_at kind k ≡ Some figure → (1 ≤ k) × (k < 127)
figure_word kind k figure is = grind (arith, nat_tests)

in_from : (figure : Figure) (z : ℤ) → out_of_range (Some figure) z ≡ false → InRange figure z
in_from figure z inside = grind (arith, ints)

out_from : (figure : Figure) (z : ℤ) → InRange figure z → out_of_range (Some figure) z ≡ false
out_from figure z is = grind (arith, ints)

if_some : (Has : Figure → Type 0) (o : Option Figure) → ((figure : Figure) → o ≡ Some figure → Has figure) → IfSome o Has
if_some Has None each = tt
if_some Has (Some figure) each = each figure refl

module _ (rec : Opened) (whole : Whole rec) where
  abbrev bad : ℕ → Bool
  bad k = out_of_range (figure_at rec.kind k) (word_at rec.part k)

  held_in : (k : ℕ) (o : Option Figure) → IfSome o (λ figure. Holds figure rec k) → out_of_range o (word_at rec.part k) ≡ false
  held_in k None held = refl
  held_in k (Some figure) held = out_from figure (word_at rec.part k) held.1

  -- the figures of a whole record are in range where each word that is to hold one does
  pub ranges_decide : Decides (figures_in_range rec) (EachWord (λ figure k. Holds figure rec k) rec.kind)
  ranges_decide =
      let search = search_decides bad 1 127 (fault_at rules.Range rec.block) in (
        λ ok k. if_some (λ figure. Holds figure rec k) (figure_at rec.kind k)
            (λ figure is.
            let word = figure_word rec.kind k figure is in
            let inside = subst (λ (o : Option Figure). out_of_range o (word_at rec.part k) ≡ false) is (search.0 ok k word.0 word.1) in
            (whole, in_from figure (word_at rec.part k) inside)),
        λ each. search.1 (λ k low high. held_in k (figure_at rec.kind k) (each k)),
      )
