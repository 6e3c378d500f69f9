use Rattle.std.proofs.Common.{◌≡◌, ◌*◌, min}
use Rattle.ladders.specs.Ladder.{earned, start}
use Rattle.ladders.proofs.ladder.profit.Given as goal

abbrev pub invariant-loop-row : goal.invariant-loop-row
invariant-loop-row g l =
    let rows = g.L.Ladder.means l.ladder in
    (l.profit ≡ earned rows l.price l.quantity l.row)
    × (l.from ≡ min l.quantity (100 * start rows l.row))
