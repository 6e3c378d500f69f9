use Rattle.std.proofs.Common.{◌≡◌, ◌<◌, length, get_or, refl, ap, ◌∙◌, arith}
use borrow.Author.Differences.{ints}
use Rattle.hourfile.specs.Hours.{sum_below}
use Rattle.hourfile.specs.Lines.{no_lines}
use Rattle.hourfile.proofs.Sums.{sum_more}
use Rattle.hourfile.proofs.hour.total.Goals as goal

pub loop-lines-init : goal.loop-lines-init
unfolding sum_below
loop-lines-init g c = record { exact = λ amount is. refl; bound = omega arith }

pub loop-lines-preserved : goal.loop-lines-preserved
loop-lines-preserved g c =
    let small = c.requires.small c.loop-lines.lines-index c.part-total.result (omega arith) c.part-total.ensures in
    let few : c.loop-lines.lines-index < 32 = omega arith in
    let so_far = c.loop-lines.invariant.bound in
    record {
      exact = λ amount is.
          let before_it = c.loop-lines.invariant.exact amount is in
          let here = is _ _ c.part-total.ensures in
          let more = sum_more (λ place. amount (get_or c.args.owned.now place no_lines)) c.loop-lines.lines-index in
          omega (arith, ints);
      bound = omega (arith, ints);
    }

pub returns-clause-exact : goal.returns-clause-exact
returns-clause-exact g c amount is =
    let all : c.loop-lines.lines-index ≡ length c.args.owned.now = omega arith in
    c.loop-lines.invariant.exact amount is ∙ ap (sum_below (λ place. amount (get_or c.args.owned.now place no_lines))) all
