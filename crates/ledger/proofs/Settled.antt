-- The law of an accepted settling.
use Rattle.std.proofs.Common.{◌≡◌, ℕ, ◌+◌, ◌≤◌, true, List, length, ℤ, pos, ◌-ℤ◌, nat_abs, ◌≤ℤ◌, sym, ap, ◌∙◌, subst, inl, inr, arith}
use borrow.Author.Differences.{ints}
use Rattle.std.specs.List.{range_with_len}
use Rattle.std.proofs.lemmas.List.Folds.{list_all-append, list_all-map}
use Rattle.std.proofs.lemmas.Bool.{and_from, cases_eq}
use Rattle.hourfile.specs.Hours.{HourLaws, trade_lines, uplift_lines}
use Rattle.hourfile.specs.Lines.{lines_of}
use Rattle.hourfile.specs.declared.lines.Line.{Line}
use Rattle.hourfile.specs.declared.lines.Line.TheVariants.{DayAheadMakeWhole, RealTimeMakeWhole}
use Rattle.hourfile.proofs.Sums.{sum_same}
use Rattle.ledger.specs.declared.entry.Entry.{Entry}
use Rattle.ledger.specs.Entries.{all_sound, is_sound, standing}
use Rattle.ledger.specs.Ledgers.{used_of}
use Rattle.ledger.specs.Numbers.{Numbers, places}
use Rattle.ledger.specs.Postings.{posting, postings}
use Rattle.ledger.specs.Settling.{SettledLaw, settled_day, settled_ledger}
use Rattle.ledger.proofs.Appending.{length-appended}
use Rattle.ledger.proofs.Holding.{Held, holds_from, sound_from}
use Rattle.ledger.proofs.Lined.{line_of_lines}
use Rattle.ledger.proofs.Mask.{marked_at}
use Rattle.ledger.proofs.Posted.{length-new, settled_used, stands_new, stands_other}
use Rattle.ledger.proofs.Ranges.{each_in, same_made}
use Rattle.ledger.proofs.Standing.{blank}

-- the size of a difference
difference_within : (a b : ℤ) → nat_abs a ≤ 14000000000 → nat_abs b ≤ 50000000000 → nat_abs (a -ℤ b) ≤ 100000000000
difference_within a b h k = omega (arith, ints)

no_change : (a b : ℤ) → b ≡ a → a -ℤ b ≡ pos 0
no_change a b h = omega (arith, ints)

module _ (n : Numbers) (ledger : List Entry) (hour : ℕ) (amounts : ℕ → Line → ℤ) (from : 1 ≤ hour) (to : hour ≤ 24) (laws : HourLaws n.owners amounts) (h : Held n ledger) where
  -- the new entries are sound
  posting_sound : (place : ℕ) → place ≤ n.owners → is_sound n.owners (posting hour (used_of n ledger) amounts place) ≡ true
  posting_sound place p =
      sound_from n.owners (posting hour (used_of n ledger) amounts place)
      (record {
        from = from;
        to = to;
        within = p;
        small = λ line.
            rw (line_of_lines (λ line. amounts place line -ℤ standing (used_of n ledger) hour place line) line)
            (difference_within (amounts place line) (standing (used_of n ledger) hour place line) (laws.bounded place line) (h.small hour place line from to p));
      })

  postings_sound : all_sound n.owners (postings hour (used_of n ledger) amounts (places n)) ≡ true
  unfolding all_sound
  postings_sound =
      list_all-map (is_sound n.owners) (posting hour (used_of n ledger) amounts) (range_with_len 0 (places n))
      ∙ (each_in (λ place. is_sound n.owners (posting hour (used_of n ledger) amounts place)) 0 (places n)).1 (λ place _ below. posting_sound place (omega arith))

  module _ (room : n.used + places n ≤ length ledger) where
    abbrev after : List Entry
    after = used_of (settled_day n hour) (settled_ledger n ledger hour amounts)

    filled : (place : ℕ) (line : Line) → place ≤ n.owners → standing after hour place line ≡ amounts place line
    filled = stands_new n ledger hour amounts room

    kept : (other place : ℕ) (line : Line) → (other ≡ hour → ⊥) → standing after other place line ≡ standing (used_of n ledger) other place line
    kept = stands_other n ledger hour amounts room

    -- the ledger is one that the next call accepts
    settled_held : Held (settled_day n hour) (settled_ledger n ledger hour amounts)
    unfolding all_sound
    settled_held =
        let l = length-new n ledger hour amounts room in
        record {
          same_length = length-appended n.used (postings hour (used_of n ledger) amounts (places n)) ledger (omega arith) ∙ h.same_length;
          sound =
              ap (all_sound n.owners) (settled_used n ledger hour amounts room)
              ∙ list_all-append (is_sound n.owners) (used_of n ledger) (postings hour (used_of n ledger) amounts (places n))
              ∙ and_from _ _ h.sound postings_sound;
          small = λ other place line low high p.
              elim (cases_eq hour other) [
                | inl same ↦ subst (λ k. nat_abs (standing after k place line) ≤ 50000000000) same (rw (filled place line p) (let b = laws.bounded place line in omega arith))
                | inr ne ↦ rw (kept other place line (λ s. ne (sym s))) (h.small other place line low high p)
              ];
        }

    pub settled_law : SettledLaw n (settled_day n hour) ledger (settled_ledger n ledger hour amounts) hour amounts
    settled_law =
        record {
          filled = filled;
          others = kept;
          trade =
              sum_same (λ place. trade_lines (standing after hour place)) (λ place. trade_lines (amounts place)) (places n)
              (λ place below. ap trade_lines (λ i line. filled place line (omega arith) i))
              ∙ laws.trade;
          uplift =
              sum_same (λ place. uplift_lines (standing after hour place)) (λ place. uplift_lines (amounts place)) (places n)
              (λ place below. ap uplift_lines (λ i line. filled place line (omega arith) i))
              ∙ laws.uplift;
          day_ahead = λ place p. subst (λ z. pos 0 ≤ℤ z) (sym (filled place DayAheadMakeWhole p)) (laws.day_ahead place);
          real_time = λ place p. subst (λ z. pos 0 ≤ℤ z) (sym (filled place RealTimeMakeWhole p)) (laws.real_time place);
          again =
              same_made (posting hour after amounts) (λ place. record { hour = hour; place = place; lines = lines_of (λ _. pos 0) }) (places n) blank
              (λ place below.
              let with_lines : (Line → ℤ) → Entry = λ f. record { hour = hour; place = place; lines = lines_of f } in
              ap with_lines (λ i line. no_change (amounts place line) (standing after hour place line) (filled place line (omega arith)) i));
          holds = holds_from (settled_day n hour) (settled_ledger n ledger hour amounts) settled_held;
          settled = λ other low high. marked_at n.settled hour other from low;
        }
