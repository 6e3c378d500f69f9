use Rattle.std.proofs.Common.{◌≡◌, ℕ, Bool, pos, MatchOption, refl, ap, ◌∙◌, w32, to_z, of_z, rules, tests}
use lib.Signed.{le_z}
use Rattle.std.proofs.lemmas.Iterator.Search.{find_from_yields_List}
use Rattle.std.proofs.lemmas.Int.{to_z-of_z}
use Rattle.ladders.specs.Ladder.{economic_point}
use Rattle.ladders.proofs.Best.{point_law, point_found, point_short}
use Rattle.ladders.proofs.Downward.{YieldsList-from_rev_range}
use Rattle.ladders.proofs.ladder.economic_point.Goals as goal

pub returns : goal.returns
returns g c =
    let rows = g.L.Ladder.means c.args.ladder.now in
    let lawful = g.met.L.Ladder.lawful c.args.ladder.now in
    let fits = c.ranges.price in
    let price = to_z w32 (of_z w32 c.args.price) in
    let test : ℕ → Bool = λ row. le_z (pos 0) (rows.gain price row) in
    let all = c.rev.ensures.source ∙ ap (λ n. record { start = 0; end = n }) c.rows.ensures in
    let found = find_from_yields_List test _ _ c.find.result c.find.ensures.ran (YieldsList-from_rev_range rows.count all) (λ x b q k. search (rules, tests)) in
    let end : MatchOption c.find.result (c.map_or.result ≡ 0) (λ row. c.map_or.result ≡ rows.end row) = search rules in
    let value : c.map_or.result ≡ economic_point rows c.args.price = simp to_z-of_z at (point_found rows price rows.count c.find.result c.map_or.result found end) in
    rw value (record { value = refl; law = point_law lawful c.args.price; bound = point_short lawful c.args.price })
