use Rattle.std.proofs.Common.{◌≡◌, length}
use Rattle.std.specs.Int.NonZero.{non_zero_u32_get}
use Rattle.pools.specs.Sharing.{before, weights}
use Rattle.pools.proofs.Dividing.{Upto}
use Rattle.pools.proofs.pool.share.Given as goal

abbrev pub invariant-loop-place : goal.invariant-loop-place
invariant-loop-place g l =
    let weight = weights g.B.Basis.weighs l.basis l.withdrawn.quantities in
    let whole = before weight l.withdrawn.owners in
    record {
      amount_is : l.division.amount ≡ l.fn.pool.cents;
      whole_is : non_zero_u32_get l.division.whole ≡ whole;
      running_is : l.division.running ≡ before weight l.place;
      long : length l.owners ≡ 32;
      upto : Upto l.fn.pool.cents weight whole l.owners l.place;
    }
