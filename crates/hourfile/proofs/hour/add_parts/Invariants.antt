use Rattle.std.proofs.Common.{◌≡◌, ℕ, ◌<◌, ◌≤◌, get_or, pos}
use Rattle.hourfile.specs.declared.lines.Line.{Line}
use Rattle.hourfile.specs.Hours.{shared_line}
use Rattle.hourfile.specs.Lines.{line_of, no_lines}
use Rattle.hourfile.proofs.hour.add_parts.Given as goal

abbrev pub invariant-loop-place : goal.invariant-loop-place
invariant-loop-place l = record {
  owned : (place : ℕ) → place < l.place → (line : Line) → line_of (get_or l.lines-items place no_lines) line ≡ shared_line (line_of (get_or l.initial.lines-items place no_lines)) (get_or l.uplift.owners place (pos 0)) (get_or l.residual.owners place (pos 0)) line;
  others : (place : ℕ) → l.place ≤ place → get_or l.lines-items place no_lines ≡ get_or l.initial.lines-items place no_lines;
}
