-- The table of what stands: no entry, one entry more, and the limit of its amounts.
use Rattle.std.proofs.Common.{◌≡◌, ℕ, ◌+◌, ◌-◌, ◌<◌, Bool, eqb, List, map, [], length, get_or, take, set, replicate, ℤ, pos, ◌+ℤ◌, sym, refl, ap, ◌∙◌, subst, inl, inr, arith, length-set, get_or-set_other, get_or-set_same}
use borrow.Author.Differences.{ints}
use Rattle.std.specs.List.{list_all, range_with_len}
use Rattle.std.proofs.lemmas.Bool.{and_left, and_right, cases_eq, cases_lt, eq-eqb, ne_eqb}
use Rattle.std.proofs.lemmas.List.{get_or_past, get_or-replicate, length-replicate}
use Rattle.std.proofs.lemmas.List.Folds.{list_all-map}
use Rattle.std.proofs.lemmas.List.FromFn.{fill_by_all}
use Rattle.hourfile.specs.Lines.{line_of, no_lines}
use Rattle.hourfile.specs.declared.lines.Line.{Line}
use Rattle.hourfile.specs.declared.lines.Lines.{Lines}
use Rattle.ledger.specs.declared.entry.Entry.{Entry}
use Rattle.ledger.specs.Entries.{amounts_within, counted, is_within, standing, standings_within}
use Rattle.ledger.specs.Tables.{Tells, in_table, table_within}
use Rattle.ledger.proofs.Lined.{line_of_lines}
use Rattle.ledger.proofs.Standing.{blank, counted_elsewhere, standing_more, standing_none}

-- ---- the shape: 24 rows of 33 places
pub record IsWhole (table : List (List Lines)) : Type 0 where
  pub rows : length table ≡ 24
  pub places : (row : ℕ) → row < 24 → length (get_or table row []) ≡ 33

pub whole_none : (table : List (List Lines)) → table ≡ replicate 24 (replicate 33 no_lines) → IsWhole table
whole_none table is =
    rw is
    (record {
      rows = length-replicate 24 (replicate 33 no_lines);
      places = λ row below. ap length (get_or-replicate 24 row (replicate 33 no_lines) [] below) ∙ length-replicate 33 no_lines;
    })

pub whole_more : (table : List (List Lines)) (row place : ℕ) (new : Lines) → row < 24 → IsWhole table → IsWhole (set table row (set (get_or table row []) place new))
whole_more table row place new below whole =
    let changed : List Lines = set (get_or table row []) place new in
    let in_day : row < length table = let n = whole.rows in omega arith in
    record {
      rows = length-set table row changed ∙ whole.rows;
      places = λ r low.
          elim (cases_eq row r) [
            | inl same ↦ rw (← same, get_or-set_same table row changed [] in_day, length-set (get_or table row []) place new) (whole.places row below)
            | inr other ↦ ap length (get_or-set_other table row r changed [] (λ s. other (sym s))) ∙ whole.places r low
          ];
    }

-- ---- no entry
none_at : (n place : ℕ) → get_or (replicate n no_lines) place no_lines ≡ no_lines
none_at n place =
    elim (cases_lt place n) [
      | inl below ↦ get_or-replicate n place no_lines no_lines below
      | inr past ↦ get_or_past (replicate n no_lines) place no_lines (let e = length-replicate n no_lines in omega arith)
    ]

none_in : (m n row place : ℕ) → get_or (get_or (replicate m (replicate n no_lines)) row []) place no_lines ≡ no_lines
none_in m n row place =
    elim (cases_lt row m) [
      | inl below ↦ ap (λ xs. get_or xs place no_lines) (get_or-replicate m row (replicate n no_lines) [] below) ∙ none_at n place
      | inr past ↦
          ap (λ xs. get_or xs place no_lines) (get_or_past (replicate m (replicate n no_lines)) row [] (let e = length-replicate m (replicate n no_lines) in omega arith))
    ]

-- nothing stands in no entries, and a table of nothing says so
pub tells_none : (m n : ℕ) (table : List (List Lines)) → table ≡ replicate m (replicate n no_lines) → Tells table []
tells_none m n table is row place line =
    ap (λ t. in_table t row place line) is
    ∙ ap (λ x. line_of x line) (none_in m n row place)
    ∙ line_of_lines (λ _. pos 0) line
    ∙ sym (standing_none (row + 1) place line)

-- ---- one entry more
none_added : (x y : ℤ) → y ≡ pos 0 → x ≡ x +ℤ y
none_added x y h = omega (arith, ints)

-- lines that are written at the row and the place of an entry, with those of the entry added
module _ (table : List (List Lines)) (e : Entry) (row : ℕ) (new : Lines) (at : e.hour ≡ row + 1) (in_day : row < length table) (in_hour : e.place < length (get_or table row []))
    (exact : (line : Line) → line_of new line ≡ in_table table row e.place line +ℤ line_of e.lines line) where
  abbrev written : List (List Lines)
  written = set table row (set (get_or table row []) e.place new)

  here : get_or written row [] ≡ set (get_or table row []) e.place new
  here = get_or-set_same table row (set (get_or table row []) e.place new) [] in_day

  in_place : (line : Line) → in_table written row e.place line ≡ in_table table row e.place line +ℤ counted (row + 1) e.place line e
  in_place line =
      let counts : counted (row + 1) e.place line e ≡ line_of e.lines line = rw (eq-eqb e.hour (row + 1) at, eq-eqb e.place e.place refl) refl in
      ap (λ xs. line_of (get_or xs e.place no_lines) line) here
      ∙ ap (λ x. line_of x line) (get_or-set_same (get_or table row []) e.place new no_lines in_hour)
      ∙ exact line
      ∙ ap (λ z. in_table table row e.place line +ℤ z) (sym counts)

  in_row : (place : ℕ) (line : Line) → in_table written row place line ≡ in_table table row place line +ℤ counted (row + 1) place line e
  in_row place line =
      elim (cases_eq e.place place) [
        | inl same ↦ subst (λ p. in_table written row p line ≡ in_table table row p line +ℤ counted (row + 1) p line e) same (in_place line)
        | inr other ↦
            ap (λ xs. line_of (get_or xs place no_lines) line) here
            ∙ ap (λ x. line_of x line) (get_or-set_other (get_or table row []) e.place place new no_lines (λ s. other (sym s)))
            ∙ none_added _ _ (counted_elsewhere e (row + 1) place line (and_right (eqb e.hour (row + 1)) (eqb e.place place) (ne_eqb e.place place other)))
      ]

  adds : (r place : ℕ) (line : Line) → in_table written r place line ≡ in_table table r place line +ℤ counted (r + 1) place line e
  adds r place line =
      elim (cases_eq row r) [
        | inl same ↦ subst (λ q. in_table written q place line ≡ in_table table q place line +ℤ counted (q + 1) place line e) same (in_row place line)
        | inr other ↦
            ap (λ xs. line_of (get_or xs place no_lines) line) (get_or-set_other table row r (set (get_or table row []) e.place new) [] (λ s. other (sym s)))
            ∙ none_added _ _ (counted_elsewhere e (r + 1) place line (and_left (eqb e.hour (r + 1)) (eqb e.place place) (ne_eqb e.hour (r + 1) (λ s. other (omega arith)))))
      ]

pub tells_more : (table : List (List Lines)) (es : List Entry) (i row : ℕ) (new : Lines) → i < length es → (get_or es i blank).hour ≡ row + 1 → row < length table → (get_or es i blank).place < length (get_or table row [])
    → ((line : Line) → line_of new line ≡ in_table table row (get_or es i blank).place line +ℤ line_of (get_or es i blank).lines line)
    → Tells table (take i es)
    → Tells (set table row (set (get_or table row []) (get_or es i blank).place new)) (take (i + 1) es)
tells_more table es i row new below at in_day in_hour exact tells r place line =
    let e : Entry = get_or es i blank in
    adds table e row new at in_day in_hour exact r place line
    ∙ ap (λ z. z +ℤ counted (r + 1) place line e) (tells r place line)
    ∙ sym (standing_more es i blank (r + 1) place line below)

-- ---- the limit of standing amounts, row by row
abbrev row_within : ℕ → (ℕ → Line → ℤ) → Bool
row_within owners amounts = list_all (λ place. is_within 50000000000 (amounts place)) (range_with_len 0 (owners + 1))

by_row : (owners : ℕ) (amounts : ℕ → ℕ → Line → ℤ) → amounts_within owners amounts ≡ list_all (λ row. row_within owners (amounts (row + 1))) (range_with_len 0 24)
by_row owners amounts = list_all-map (λ hour. row_within owners (amounts hour)) (λ row. row + 1) (range_with_len 0 24)

-- the test of each row is the test of the table
pub rows_within : (owners : ℕ) (table : List (List Lines)) → length table ≡ 24
    → list_all (λ row. row_within owners (λ place. line_of (get_or row place no_lines))) table ≡ table_within owners table
rows_within owners table long =
    let at : ℕ → List Lines = λ row. get_or table row [] in
    let made : table ≡ map at (range_with_len 0 24) = fill_by_all at table 24 [] long (λ _ _. refl) in
    let test : List Lines → Bool = λ row. row_within owners (λ place. line_of (get_or row place no_lines)) in
    let back : (row : ℕ) → row ≡ row + 1 - 1 = λ row. omega arith in
    ap (list_all test) made
    ∙ list_all-map test at (range_with_len 0 24)
    ∙ ap (λ (f : ℕ → ℕ). list_all (λ row. row_within owners (in_table table (f row))) (range_with_len 0 24)) (λ i row. back row i)
    ∙ sym (by_row owners (λ hour. in_table table (hour - 1)))

-- and, where the table tells what stands, that of the entries
pub tells_within : (owners : ℕ) (table : List (List Lines)) (entries : List Entry) → Tells table entries → table_within owners table ≡ standings_within owners entries
unfolding standings_within
tells_within owners table entries tells =
    let back : (row : ℕ) → row + 1 - 1 ≡ row = λ row. omega arith in
    by_row owners (λ hour. in_table table (hour - 1))
    ∙ ap (λ (amounts : ℕ → ℕ → Line → ℤ). list_all (λ row. row_within owners (amounts row)) (range_with_len 0 24))
    (λ i row place line. (ap (λ r. in_table table r place line) (back row) ∙ tells row place line) i)
    ∙ sym (by_row owners (standing entries))
