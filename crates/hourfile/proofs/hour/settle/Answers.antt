use Rattle.std.proofs.Common.{◌≡◌, ◌<◌, ◌≤◌, ap, ◌∙◌, ⊎_elim, arith}
use Rattle.std.proofs.lemmas.Bool.{cases_lt}
use Rattle.pools.specs.Sharing.{Shared}
use Rattle.hourfile.specs.declared.lines.Line.TheVariants.{DayAheadEnergy, Balancing, Virtual, Reserve, DayAheadMakeWhole, RealTimeMakeWhole}
use Rattle.hourfile.specs.Hours.{amount, residual_pool, trade_part, uplift_part, uplift_pool, weight_at}
use Rattle.hourfile.specs.Lines.{line_of}
use Rattle.hourfile.proofs.Laws.{own_other}
use Rattle.hourfile.proofs.Setting.{parts_same}
use Rattle.hourfile.proofs.Settling.{Own, operator_is, operator_small, own, parts, residual_struck, restated, share_is, share_small, uplift_struck}
use Rattle.hourfile.proofs.hour.settle.Goals as goal
use Rattle.hourfile.proofs.hour.settle.Goals.{After-own_lines-places, After-shared-residual_shares}

own_here : (g : _) (c : After-own_lines-places g) → Own c.args.file.now c.args.owners.number c.in_ok-tallies.tallies c.own_lines-places.result
own_here g c =
    let t = c.in_ok-tallies.ensures in
    own c.args.file.now c.args.owners.number c.args.owners.few t.few _ t.tallied t.whole _ c.own_lines-places.ensures.whole c.own_lines-places.ensures.lines

pub total-uplift_pool-requires-clause-callable : goal.total-uplift_pool-requires-clause-callable
total-uplift_pool-requires-clause-callable g c place h =
    let small = (own_here g (goal.at.total-uplift_pool-requires-clause-callable g c).After-own_lines-places).small place h in
    (small Reserve, (small DayAheadMakeWhole, small RealTimeMakeWhole))

pub total-residual_pool-requires-clause-callable : goal.total-residual_pool-requires-clause-callable
total-residual_pool-requires-clause-callable g c place h =
    let small = (own_here g (goal.at.total-residual_pool-requires-clause-callable g c).After-own_lines-places).small place h in
    (small DayAheadEnergy, (small Balancing, small Virtual))

-- ---- what is struck are the pools, and what is shared out are their shares
pub shared-uplift_shares-requires : goal.shared-uplift_shares-requires
shared-uplift_shares-requires g c =
    let o = own_here g (goal.at.shared-uplift_shares-requires g c).After-own_lines-places in
    rw (uplift_struck _ _ _ _ o _ (c.total-uplift_pool.ensures.exact (λ lines. uplift_part (line_of lines)) (λ lines z post. post.1.0))) o.uplift

pub shared-residual_shares-requires : goal.shared-residual_shares-requires
shared-residual_shares-requires g c =
    let o = own_here g (goal.at.shared-residual_shares-requires g c).After-own_lines-places in
    rw (residual_struck _ _ _ _ o _ (c.total-residual_pool.ensures.exact (λ lines. trade_part (line_of lines)) (λ lines z post. post.1.0))) o.residual

shares_here : (g : _) (c : After-shared-residual_shares g) → Own c.args.file.now c.args.owners.number c.in_ok-tallies.tallies c.own_lines-places.result
    → Shared (uplift_pool c.args.file.now c.args.owners.number) (weight_at (g.U.Basis.weighs c.args.uplift.now) c.args.file.now) c.args.owners.number c.shared-uplift_shares.result.owners c.shared-uplift_shares.result.operator
    × Shared (residual_pool c.args.file.now c.args.owners.number) (weight_at (g.R.Basis.weighs c.args.residual.now) c.args.file.now) c.args.owners.number c.shared-residual_shares.result.owners c.shared-residual_shares.result.operator
shares_here g c o =
    let w = c.withdrawals-withdrawn in
    let uplift = uplift_struck _ _ _ _ o _ (c.total-uplift_pool.ensures.exact (λ lines. uplift_part (line_of lines)) (λ lines z post. post.1.0)) in
    let residual = residual_struck _ _ _ _ o _ (c.total-residual_pool.ensures.exact (λ lines. trade_part (line_of lines)) (λ lines z post. post.1.0)) in (
      restated _ _ _ _ _ _ _ _ (o.weighs (g.U.Basis.weighs c.args.uplift.now) w.result.quantities w.ensures.quantities) uplift w.ensures.count c.shared-uplift_shares.ensures,
      restated _ _ _ _ _ _ _ _ (o.weighs (g.R.Basis.weighs c.args.residual.now) w.result.quantities w.ensures.quantities) residual w.ensures.count c.shared-residual_shares.ensures,
    )

pub add_parts-requires : goal.add_parts-requires
add_parts-requires g c =
    let at = goal.at.add_parts-requires g c in
    let o = own_here g at.After-own_lines-places in
    let up = (shares_here g at.After-shared-residual_shares o).0 in
    record { small = share_small _ _ _ _ _ up o.uplift; operated = operator_small _ _ _ _ _ up o.uplift }

pub returns-clause-settles : goal.returns-clause-settles
unfolding amount
returns-clause-settles g c =
    let at = goal.at.returns-clause-settles g c in
    let file = c.args.file.now in
    let owners = c.args.owners.number in
    let t = c.in_ok-tallies.ensures in
    let o = own_here g at.After-own_lines-places in
    let shares = shares_here g at.After-shared-residual_shares o in
    let up = shares.0 in
    let back = shares.1 in
    let parted = c.add_parts.ensures in
    let hour = c.from.ensures in
    record {
      hour_is = hour;
      from = omega (arith, t.from);
      to = omega (arith, t.to);
      exact = λ place line h.
          ⊎_elim
          (λ (l : place < owners). parted.owned place line l ∙ parts_same _ _ _ _ _ _ (o.lines place) (share_is _ _ _ _ _ up place l) (share_is _ _ _ _ _ back place l) line)
          (λ (l : owners ≤ place).
          let last : owners ≡ place = omega arith in
          rw (← last) (parted.operator line ∙ parts_same _ _ _ _ _ _ (o.lines owners) (operator_is _ _ _ _ _ up) (operator_is _ _ _ _ _ back) line))
          (cases_lt place owners);
      others = λ place line h. ap (λ x. line_of x line) (parted.others place h) ∙ o.lines place line ∙ own_other file owners place line (omega arith);
      laws = o.laws (g.U.Basis.weighs c.args.uplift.now) (g.R.Basis.weighs c.args.residual.now) (parts _ _ _ _ _ up) (parts _ _ _ _ _ back);
    }

-- the header of an accepted file has an hour from 1 to 24
pub invariant_of-result : goal.invariant_of-result
invariant_of-result g c =
    let t = c.in_ok-tallies.ensures in
    let hour = c.from.ensures in
    record { from = omega (arith, t.from); to = omega (arith, t.to) }
