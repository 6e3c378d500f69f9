-- What a chain `xs.iter().map(f).sum()` comes to over the intervals of an hour.
use Rattle.std.proofs.Common.{◌≡◌, ℕ, suc, ◌+◌, ◌*◌, ◌≤◌, ◌^◌, List, [], ◌∷◌, map, length, ℤ, pos, ◌+ℤ◌, ◌≤ℤ◌, fold, Option, FitsSigned, w64, sym, subst, ◌∙◌, arith}
use borrow.Author.Differences.{ints}
use denote.Param.Members.{Mut}
use Rattle.std.specs.Bool.{⊤}
use Rattle.std.specs.Fn.{Called}
use Rattle.std.specs.Iterator.{Yields, Drains}
use Rattle.std.specs.Iterator.Adapters.{map_source, map_callee, map_steps}
use Rattle.std.specs.Iterator.Runs.{EachRunFrom}
use Rattle.std.specs.declared.iter.Map.{Map}
use Rattle.std.proofs.iter.runs.Made.{runs_from_along}
use Rattle.std.proofs.lemmas.Iterator.{YieldsList, YieldsList-from_map}
use Rattle.std.proofs.lemmas.Iterator.Adapters.{YieldsAtMost, at_most_from_yields_List, total_from_yields_List}
use Rattle.std.proofs.lemmas.List.{length-map}
use Rattle.std.proofs.lemmas.List.Folds.{fold-map}
use Rattle.std.proofs.lemmas.Nat.{mul-le}
use Rattle.market.specs.Amounts.{total}

-- a number is at least `low` below 0 and at most `high`
abbrev pub Between : ℕ → ℕ → ℤ → Type 0
Between low high z = (pos 0 ≤ℤ (z +ℤ pos low)) × (z ≤ℤ pos high)

-- a chain over what is left of a slice, where f answers the amount of what an item means, and that lies between two bounds
module _ {S A X Y F : Type 0} {steps : S → Option A → S → Type 0} {v : A → X} {s : Map S F} {f : F} {g : Mut F (A × Unit {0}) ℤ}
    (mean : X → Y) (amount : Y → ℤ) (low high : ℕ)
    (each : (x : A) (r : ℤ) (q : F) → Called g f (x, tt) r q → (q ≡ f) × (r ≡ amount (mean (v x))) × Between low high r)
    (xs : List X) (road : YieldsList steps v (map_source s) xs) (callee : map_callee s ≡ f) (few : length xs ≤ 12) where
  sums_between : (items : List ℤ) (a : ℤ) (j t : Map S F) → map_callee j ≡ f → Yields (map_steps steps g) j items t
      → (a ≤ℤ (fold ◌+ℤ◌ a items +ℤ pos (low * length items))) × (fold ◌+ℤ◌ a items ≤ℤ (a +ℤ pos (high * length items)))
  sums_between [] a j t e y = (omega (arith, ints), omega (arith, ints))
  sums_between (r ∷ items) a j t e y =
      let answer = each y.1.0 r _ (subst (λ h. Called g h (y.1.0, tt) r (map_callee y.0)) e y.1.2) in
      let rest = sums_between items (a +ℤ r) y.0 t answer.0 y.2 in
      let one_low : low * suc (length items) ≡ low + low * length items = omega arith in
      let one_high : high * suc (length items) ≡ high + high * length items = omega arith in
      (omega (arith, ints), omega (arith, ints))

  mapped : YieldsList (map_steps steps g) (λ r. r) s (map (λ x. amount (mean x)) xs)
  mapped = YieldsList-from_map g (λ x. amount (mean x)) road callee (λ x r q k. let e = each x r q k in (e.0, e.1))

  hour_between : (items : List ℤ) (t : Map S F) → Yields (map_steps steps g) s items t → Between (12 * low) (12 * high) (fold ◌+ℤ◌ (pos 0) items)
  hour_between items t y =
      let twelve : YieldsAtMost (map_steps steps g) s 12 = at_most_from_yields_List mapped (omega (arith, length-map xs (λ x. amount (mean x)))) in
      let n : length items ≤ 12 = twelve.runs items t y in
      let sums = sums_between items (pos 0) s t callee y in
      let lowest = mul-le low (length items) low 12 (omega arith) n in
      let highest = mul-le high (length items) high 12 (omega arith) n in
      (omega (arith, ints), omega (arith, ints))

  pub hour_fits : 12 * low ≤ 2 ^ 62 → 12 * high ≤ 2 ^ 62 → EachRunFrom (map_steps steps g) s (λ p. FitsSigned w64 (fold ◌+ℤ◌ (pos 0) p.items))
  hour_fits small_low small_high = runs_from_along (map_steps steps g) s _ (λ items t y. let b = hour_between items t y in omega (arith, ints))

  pub hour_sum : (sum : ℤ) → ((items : List ℤ) × (⊤ → Drains (map_steps steps g) s items) × (sum ≡ fold ◌+ℤ◌ (pos 0) items))
      → (sum ≡ total amount (map mean xs)) × Between (12 * low) (12 * high) sum
  hour_sum sum ran = (
    total_from_yields_List ◌+ℤ◌ (pos 0) sum ran mapped ∙ fold-map ◌+ℤ◌ (λ x. amount (mean x)) (pos 0) xs ∙ sym (fold-map (λ b y. b +ℤ amount y) mean (pos 0) xs),
    subst (Between (12 * low) (12 * high)) (sym ran.2) (hour_between ran.0 _ (ran.1 tt).1.1),
  )
