use Rattle.std.proofs.Common.{◌≡◌, ◌*◌, ◌≤◌, get_or, ℤ, nat_abs}
use Rattle.hourfile.specs.declared.lines.Lines.{Lines}
use Rattle.hourfile.specs.Hours.{sum_below}
use Rattle.hourfile.specs.Lines.{no_lines}
use Rattle.hourfile.proofs.hour.total.Given as goal

abbrev pub invariant-loop-lines : goal.invariant-loop-lines
invariant-loop-lines g l = record {
  exact : (amount : Lines → ℤ) → ((lines : Lines) (z : ℤ) → goal.F-post g l.part lines z → z ≡ amount lines) → l.total ≡ sum_below (λ place. amount (get_or l.owned place no_lines)) l.lines-index;
  bound : nat_abs l.total ≤ 18000000000 * l.lines-index;
}
