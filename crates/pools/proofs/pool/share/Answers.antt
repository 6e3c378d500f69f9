use Rattle.std.proofs.Common.{◌≡◌, ℕ, ◌<◌, length, sym, refl, ap, ◌∙◌, arith, length-set, get_or-take, w64, SFits, rules}
use Rattle.std.proofs.lemmas.Int.{to_z-of_z}
use Rattle.std.specs.Int.NonZero.{non_zero_u32_get}
use Rattle.pools.specs.Amounts.{PoolAmount}
use Rattle.pools.specs.Sharing.{before, share_of, weights}
use Rattle.pools.proofs.Dividing.{shared_all, shared_none, upto_more, upto_none}
use Rattle.pools.proofs.Weighing.{before_more, before_none, before_suc, before_within}
use Rattle.pools.proofs.pool.share.Given as given
use Rattle.pools.proofs.pool.share.Goals as goal
use Rattle.pools.proofs.pool.share.Goals.{After-weight}

pub returns-in_default-clause-shared : goal.returns-in_default-clause-shared
returns-in_default-clause-shared g c =
    let held = ap (λ (p : PoolAmount). p.cents) c.pool.view_is in
    let fits : SFits w64 c.args.pool.cents = rw (← held) (search rules) in
    simp (held, to_z-of_z) (shared_none _ _ _ (sym c.whole_weight.ensures.exact ∙ c.in_default.ensures))

pub loop-place-init : goal.loop-place-init
loop-place-init g c =
    let fits : SFits w64 c.pool.inside.amount = search rules in
    let held = ap (λ (p : PoolAmount). p.cents) c.pool.view_is in
    record {
      amount_is = simp to_z-of_z held;
      whole_is = c.in-Some.ensures ∙ c.whole_weight.ensures.exact;
      running_is = sym (before_none _);
      long = refl;
      upto = upto_none _ _ _;
    }

-- an owner that weighs this much, at its place
module _ (g : given.Over) (c : After-weight g) where
  abbrev weight : ℕ → ℕ
  weight = weights g.B.Basis.weighs c.args.basis.now c.args.withdrawn.now.quantities

  weighs : c.weight.result ≡ weight c.loop-place.place
  weighs = grind (arith, get_or-take)

pub next_share-requires : goal.next_share-requires
next_share-requires g c =
    let d = (goal.at.next_share-requires g c).After-weight in
    omega (arith, weighs g d, before_within (weight g d) c.loop-place.place c.args.withdrawn.now.owners (omega arith))

pub loop-place-preserved : goal.loop-place-preserved
loop-place-preserved g c =
    let d = (goal.at.loop-place-preserved g c).After-weight in
    let fits : SFits w64 c.next_share.result = search rules in
    let is = c.loop-place.invariant in
    let share : c.next_share.result ≡ share_of c.args.pool.cents (weight g d) (before (weight g d) c.args.withdrawn.now.owners) c.loop-place.place =
    rw (before_suc, ← weighs g d, ← is.running_is, ← is.whole_is, ← is.amount_is, ← c.loop-place.division.fallen) c.next_share.ensures.share in
    let room : c.loop-place.place < length c.loop-place.owners = omega arith in
    record {
      amount_is = c.next_share.ensures.amount ∙ is.amount_is;
      whole_is = ap non_zero_u32_get c.next_share.ensures.whole ∙ is.whole_is;
      running_is = rw before_more (omega (arith, weighs g d));
      long = rw length-set is.long;
      upto = simp to_z-of_z (upto_more _ _ _ _ _ _ share room is.upto);
    }

pub returns-clause-shared : goal.returns-clause-shared
returns-clause-shared g c =
    let all : c.loop-place.place ≡ c.args.withdrawn.now.owners = omega arith in
    shared_all _ _ _ _ (omega arith) (simp all at c.loop-place.invariant.upto)
