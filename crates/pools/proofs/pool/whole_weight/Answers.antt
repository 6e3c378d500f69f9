use Rattle.std.proofs.Common.{◌≤◌, ◌*◌, ℕ, List, Option, take, map, arith, rules, ◌∙◌}
use Rattle.std.specs.Iterator.Runs.{Run, EachRunFrom}
use Rattle.std.specs.List.{enumerate_from}
use Rattle.std.proofs.lemmas.Iterator.{YieldsList, YieldsList-from_slice, YieldsList-from_map}
use Rattle.std.proofs.lemmas.Iterator.Consumers.{YieldsList-from_enumerate, YieldsList-at, sum_by_from_yields_List, fits_by_from_yields_list}
use Rattle.pools.specs.Sharing.{before, weights}
use Rattle.pools.proofs.Weighing.{before_bounded, weights_sum}
use Rattle.pools.proofs.pool.whole_weight.Given as given
use Rattle.pools.proofs.pool.whole_weight.Goals as goal
use Rattle.pools.proofs.pool.whole_weight.Goals.{After-map}

-- the steps of the iterator of which a clause `runs` speaks
abbrev steps_of : {S A : Type 0} {steps : S → Option A → S → Type 0} {s : S} {P : Run steps → Type 0} → EachRunFrom steps s P → S → Option A → S → Type 0
steps_of {steps = steps} runs = steps

module _ (g : given.Over) (c : After-map g) where
  abbrev basis : g.row.B.Denot
  basis = c.args.basis.now

  abbrev quantities : List ℕ
  quantities = c.args.withdrawn.now.quantities

  abbrev owners : ℕ
  owners = c.args.withdrawn.now.owners

  abbrev weigh : ℕ × ℕ → ℕ
  weigh p = g.B.Basis.weighs basis p.0 p.1

  abbrev listed : List (ℕ × ℕ)
  listed = enumerate_from 0 (take owners quantities)

  -- the chain gives the weight of each owner
  weighed : YieldsList (steps_of c.map.ensures.runs) (λ x. x) c.map.result (map weigh listed)
  weighed =
      YieldsList-from_map _ weigh
      (YieldsList-at c.map.ensures.source (YieldsList-from_enumerate (YieldsList-at c.enumerate.ensures.source (YieldsList-from_slice _ (search rules))) c.enumerate.ensures.count))
      c.map.ensures.closure (λ x r q k. search rules)

  bounded : before (weights g.B.Basis.weighs basis quantities) owners ≤ 6400000 * owners
  bounded = before_bounded (weights g.B.Basis.weighs basis quantities) 6400000 owners (λ place. g.met.B.Basis.bounded _ place _)

pub sum-requires-clause-fits : goal.sum-requires-clause-fits
sum-requires-clause-fits g c =
    fits_by_from_yields_list (weigh g c) (listed g c) c.map.result _ (weighed g c)
    (omega (arith, bounded g c, weights_sum g.B.Basis.weighs (basis g c) (quantities g c) (owners g c) (omega arith)))

pub returns : goal.returns
returns g c =
    let d = (goal.at.returns g c).After-map in
    let value = sum_by_from_yields_List (weigh g d) (listed g d) c.map.result c.sum.result c.sum.ensures.ran (weighed g d) in
    let exact = value ∙ weights_sum g.B.Basis.weighs (basis g d) (quantities g d) (owners g d) (omega arith) in
    record { exact = exact; bound = omega (arith, exact, bounded g d) }
