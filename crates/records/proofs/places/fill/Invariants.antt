use Rattle.std.proofs.Common.{ℕ, ◌<◌, get_or, Some}
use Rattle.records.proofs.places.fill.Given as goal

abbrev pub invariant-loop-t : goal.invariant-loop-t
invariant-loop-t g l = (t : ℕ) (d : g.row.T.Denot) → t < l.t → goal.F-post g l.read t (Some (get_or l.places t d))
