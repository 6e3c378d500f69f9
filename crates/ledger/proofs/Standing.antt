-- What stands in a list of entries.
use Rattle.std.proofs.Common.{◌≡◌, ℕ, zero, suc, ◌+◌, ◌*◌, ◌<◌, ◌≤◌, true, false, cond, List, [], ◌∷◌, ◌++◌, length, get_or, take, pos, ◌+ℤ◌, nat_abs, refl, subst, add-one, arith}
use borrow.Author.Differences.{ints}
use Rattle.std.proofs.lemmas.List.{take_all}
use Rattle.std.proofs.lemmas.Bool.{cond-false}
use Rattle.std.proofs.lemmas.List.Elements.{All-get_or}
use Rattle.std.proofs.lemmas.List.Sums.{AllPass-from_list_all, fold_more, fold_push}
use Rattle.hourfile.specs.Lines.{line_of, no_lines}
use Rattle.hourfile.specs.declared.lines.Line.{Line}
use Rattle.ledger.specs.declared.entry.Entry.{Entry}
use Rattle.ledger.specs.Entries.{all_sound, counted, is_at, is_sound, standing}
use Rattle.ledger.proofs.Holding.{sound_parts}

-- what a read past the end would give
abbrev pub blank : Entry
blank = record { hour = 0; place = 0; lines = no_lines }

pub standing_none : (hour place : ℕ) (line : Line) → standing [] hour place line ≡ pos 0
unfolding standing
standing_none hour place line = refl

pub standing_more : (es : List Entry) (i : ℕ) (d : Entry) (hour place : ℕ) (line : Line) → i < length es → standing (take (i + 1) es) hour place line ≡ standing (take i es) hour place line +ℤ counted hour place line (get_or es i d)
unfolding standing
standing_more es i d hour place line h = fold_more (λ s e. s +ℤ counted hour place line e) (pos 0) es i d h

pub standing_push : (es : List Entry) (e : Entry) (hour place : ℕ) (line : Line) → standing (es ++ e ∷ []) hour place line ≡ standing es hour place line +ℤ counted hour place line e
unfolding standing
standing_push es e hour place line = fold_push (λ s x. s +ℤ counted hour place line x) (pos 0) es e

-- an entry of another hour or place does not count
pub counted_elsewhere : (e : Entry) (hour place : ℕ) (line : Line) → is_at hour place e ≡ false → counted hour place line e ≡ pos 0
counted_elsewhere e hour place line h = cond-false (is_at hour place e) (line_of e.lines line) (pos 0) h

-- ---- how much stands
counted_within : (e : Entry) (hour place : ℕ) (line : Line) (most : ℕ) → nat_abs (line_of e.lines line) ≤ most → nat_abs (counted hour place line e) ≤ most
counted_within e hour place line most h =
    elim (is_at hour place e) as (λ b. nat_abs (cond b (line_of e.lines line) (pos 0)) ≤ most) [ true ↦ h | false ↦ omega arith ]

-- sound entries come to at most one limit each
module _ (owners : ℕ) (es : List Entry) (sound : all_sound owners es ≡ true) (hour place : ℕ) (line : Line) where
  upto : (i : ℕ) → i ≤ length es → nat_abs (standing (take i es) hour place line) ≤ 100000000000 * i
  unfolding all_sound
  upto zero h = rw standing_none (omega arith)
  upto (suc i) h =
      let e : Entry = get_or es i blank in
      let below : i < length es = omega arith in
      let s = sound_parts owners e (All-get_or (λ e. is_sound owners e ≡ true) es i blank below (AllPass-from_list_all (is_sound owners) es sound)) in
      let front = upto i (omega arith) in
      let more : standing (take (suc i) es) hour place line ≡ standing (take i es) hour place line +ℤ counted hour place line e = rw (← add-one) (standing_more es i blank hour place line below) in
      let last = counted_within e hour place line 100000000000 (s.small line) in
      rw more (omega (arith, ints))

  pub standing_within : nat_abs (standing es hour place line) ≤ 100000000000 * length es
  standing_within = subst (λ xs. nat_abs (standing xs hour place line) ≤ 100000000000 * length es) (take_all (length es) es (omega arith)) (upto (length es) (omega arith))
