-- What stands after entries are appended for an hour.
use Rattle.std.proofs.Common.{◌≡◌, ℕ, zero, suc, ◌+◌, ◌≤◌, Bool, true, false, ◌&&◌, cond, eqb, ltb, List, [], ◌∷◌, ◌++◌, map, length, get_or, take, ℤ, pos, ◌+ℤ◌, ◌-ℤ◌, sym, refl, ap, ◌∙◌, inl, inr, append_assoc, get_or-take, arith}
use borrow.Author.Differences.{ints}
use Rattle.std.specs.List.{range_with_len}
use Rattle.std.proofs.lemmas.List.{append-nil}
use Rattle.std.proofs.lemmas.List.FromFn.{length-map-range_with_len, map-range_with_len_more}
use Rattle.std.proofs.lemmas.Bool.{cases_order, eq-eqb, le-ltb, lt-ltb, ne_eqb}
use Rattle.std.proofs.lemmas.Bool.Decides.{nat_tests}
use Rattle.hourfile.specs.Lines.{line_of, lines_of, no_lines}
use Rattle.hourfile.specs.declared.lines.Line.{Line}
use Rattle.hourfile.specs.declared.lines.Lines.{Lines}
use Rattle.ledger.specs.declared.entry.Entry.{Entry}
use Rattle.ledger.specs.Entries.{standing}
use Rattle.ledger.specs.Ledgers.{used_of}
use Rattle.ledger.specs.Numbers.{Numbers, places}
use Rattle.ledger.specs.Postings.{appended, posting, postings}
use Rattle.ledger.specs.Settling.{settled_day, settled_ledger}
use Rattle.ledger.specs.Tables.{Tells, posted}
use Rattle.ledger.proofs.Appending.{take-appended}
use Rattle.ledger.proofs.Lined.{line_of_lines}
use Rattle.ledger.proofs.Ranges.{same_made}
use Rattle.ledger.proofs.Standing.{blank, standing_push}

nothing : (h : Bool) (place : ℕ) (was change : ℤ) → was ≡ was +ℤ cond (h && ltb place 0) change (pos 0)
nothing false place was change = omega (arith, ints)
nothing true place was change = rw (le-ltb place 0 (omega arith)) (omega (arith, ints))

-- one entry more, where the entries so far came to what an hour gets below a place
one_more : (h : Bool) (place n : ℕ) (was now change last : ℤ) → now ≡ was +ℤ cond (h && ltb place n) change (pos 0) → (n ≡ place → last ≡ change)
    → now +ℤ cond (h && eqb n place) last (pos 0) ≡ was +ℤ cond (h && ltb place (suc n)) change (pos 0)
one_more false place n was now change last is same = omega (arith, ints)
one_more true place n was now change last is same =
    elim (cases_order place n) [
      | inl e ↦ let here = same (sym e) in grind (arith, ints, nat_tests)
      | inr (inl l) ↦ grind (arith, ints, nat_tests)
      | inr (inr g) ↦ grind (arith, ints, nat_tests)
    ]

module _ (hour : ℕ) (es : List Entry) (amounts : ℕ → Line → ℤ) where
  -- what an hour and a place get, line by line
  abbrev change : ℕ → Line → ℤ
  change place line = amounts place line -ℤ standing es hour place line

  -- the entries for the first places bring each of them its change, at the hour alone
  stands_after : (n other place : ℕ) (line : Line) → standing (es ++ postings hour es amounts n) other place line ≡ standing es other place line +ℤ cond (eqb hour other && ltb place n) (change place line) (pos 0)
  stands_after zero other place line = ap (λ xs. standing xs other place line) (append-nil es) ∙ nothing (eqb hour other) place (standing es other place line) (change place line)
  stands_after (suc n) other place line =
      let front = stands_after n other place line in
      let new : List Entry = postings hour es amounts n in
      let e : Entry = posting hour es amounts n in
      let next : suc n ≡ n + 1 = omega arith in
      let more : postings hour es amounts (suc n) ≡ new ++ e ∷ [] = ap (postings hour es amounts) next ∙ map-range_with_len_more (posting hour es amounts) 0 n n (omega arith) in
      ap (λ xs. standing (es ++ xs) other place line) more
      ∙ ap (λ xs. standing xs other place line) (sym (append_assoc es new (e ∷ [])))
      ∙ standing_push (es ++ new) e other place line
      ∙ one_more (eqb hour other) place n (standing es other place line) (standing (es ++ new) other place line) (change place line) (line_of e.lines line) front
      (λ s. line_of_lines (change n) line ∙ ap (λ k. change k line) s)

module _ (n : Numbers) (ledger : List Entry) (hour : ℕ) (amounts : ℕ → Line → ℤ) (room : n.used + places n ≤ length ledger) where
  abbrev new : List Entry
  new = postings hour (used_of n ledger) amounts (places n)

  pub length-new : length new ≡ places n
  length-new = length-map-range_with_len (posting hour (used_of n ledger) amounts) 0 (places n)

  -- ---- all used entries
  pub settled_used : used_of (settled_day n hour) (settled_ledger n ledger hour amounts) ≡ used_of n ledger ++ new
  settled_used =
      let l = length-new in
      ap (λ k. take (n.used + k) (appended n.used new ledger)) (sym l) ∙ take-appended n.used new ledger (omega arith)

  abbrev after : ℕ → ℕ → Line → ℤ
  after = standing (used_of (settled_day n hour) (settled_ledger n ledger hour amounts))

  settled_standing : (other place : ℕ) (line : Line)
      → after other place line ≡ standing (used_of n ledger) other place line +ℤ cond (eqb hour other && ltb place (places n)) (change hour (used_of n ledger) amounts place line) (pos 0)
  settled_standing other place line = ap (λ es. standing es other place line) settled_used ∙ stands_after hour (used_of n ledger) amounts (places n) other place line

  -- at the hour the new amounts stand
  pub stands_new : (place : ℕ) (line : Line) → place ≤ n.owners → after hour place line ≡ amounts place line
  stands_new place line h =
      let is = settled_standing hour place line in
      let is_new = rw (eq-eqb hour hour refl, lt-ltb place (places n) (omega arith)) at is in
      omega (arith, ints)

  -- at every other hour what stood there
  pub stands_other : (other place : ℕ) (line : Line) → (other ≡ hour → ⊥) → after other place line ≡ standing (used_of n ledger) other place line
  stands_other other place line ne =
      let is = settled_standing other place line in
      let is_old = rw (ne_eqb hour other (λ s. ne (sym s))) at is in
      omega (arith, ints)

-- what is posted from a table that tells what stands is what the amounts ask for
pub posted_is : (n : Numbers) (ledger : List Entry) (hour row : ℕ) (amounts : ℕ → Line → ℤ) (table : List (List Lines)) (lines : List Lines) → row + 1 ≡ hour → Tells table (used_of n ledger)
    → ((place : ℕ) (line : Line) → place ≤ n.owners → line_of (get_or lines place no_lines) line ≡ amounts place line)
    → map (posted hour (take (places n) lines) (take (places n) (get_or table row []))) (range_with_len 0 (places n)) ≡ postings hour (used_of n ledger) amounts (places n)
posted_is n ledger hour row amounts table lines at tells exact =
    let old : List Lines = get_or table row [] in
    same_made (posted hour (take (places n) lines) (take (places n) old)) (posting hour (used_of n ledger) amounts) (places n) blank
    (λ place below.
    let with_lines : (Line → ℤ) → Entry = λ f. record { hour = hour; place = place; lines = lines_of f } in
    let each : (line : Line) → line_of (get_or (take (places n) lines) place no_lines) line -ℤ line_of (get_or (take (places n) old) place no_lines) line ≡ change hour (used_of n ledger) amounts place line =
    λ line.
    let first = ap (λ x. line_of x line) (get_or-take (places n) lines place no_lines below) ∙ exact place line (omega arith) in
    let second = ap (λ x. line_of x line) (get_or-take (places n) old place no_lines below) ∙ tells row place line in
    rw (first, second, at) refl in
    ap with_lines (λ i line. each line i))
