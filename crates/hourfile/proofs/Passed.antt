-- What a block that passed its rules says.
use Rattle.std.proofs.Common.{◌≡◌, ℕ, zero, suc, ◌-◌, ◌<◌, ◌≤◌, true, leb, List, length, is_ok, Some, None, Ok, Option, refl, sym, ap, ◌∙◌, subst, arith, length-drop, length-take, get_or-take}
use Rattle.std.proofs.lemmas.Bool.{and_from, and_parts, eq-eqb, leb-true, ltb-true, false≢true}
use Rattle.blocks.specs.Kinds.{side_fits}
use Rattle.blocks.specs.Records.{Opened, by_kind, record_of}
use Rattle.blocks.specs.Verdicts.{block_verdict, body_verdict, check_verdict, hour_verdict, kind_verdict, may_stand, number_verdict, on_opened, place_fits, place_verdict, range_verdict, record_verdict, rows_verdict}
use Rattle.blocks.specs.Verdicts as verdicts
use Rattle.blocks.specs.Settings.{first, later}
use Rattle.blocks.specs.Words.{byte_at}
use Rattle.blocks.specs.declared.kind.Kind.{Kind}
use Rattle.blocks.specs.declared.kind.Kind.TheVariants.{Header, Resource, Virtual}
use Rattle.blocks.specs.declared.limits.Limits.{Limits}
use Rattle.market.specs.Positions.{ZonePrices}
use Rattle.records.specs.Contents.{figures_in_range, has_position, has_virtual_position, has_zone_prices, rows_are_right, side_is_right, zone_prices_at}
use Rattle.records.proofs.Passing.{both_pass, test_holds}
use Rattle.hourfile.specs.declared.lines.Line.{Line}
use Rattle.hourfile.specs.Files.{blocks_in, limits_at, number_from, part_of, verdict_at}
use Rattle.hourfile.specs.Hours.{block_line, block_withdrawn, kind_in, kind_line, kind_withdrawn}

-- ---- the rules, one by one
pub record Passed (limits : Limits) (rec : Opened) : Type 0 where
  pub stands : may_stand limits rec.kind ≡ true
  pub side : side_is_right rec ≡ true
  pub hour : verdicts.between limits.hour_from limits.hour_to (byte_at rec.part 2) ≡ true
  pub place : place_fits limits rec.kind (byte_at rec.part 3) ≡ true
  pub figures : figures_in_range rec ≡ true
  pub rows : rows_are_right rec ≡ true

passed_rules : (limits : Limits) (rec : Opened) → is_ok (record_verdict limits rec) ≡ true → Passed limits rec
passed_rules limits rec ok =
    let kind_on = both_pass (kind_verdict limits rec) _ ok in
    let hour_on = both_pass (hour_verdict limits rec) _ kind_on.1 in
    let place_on = both_pass (place_verdict limits rec) _ hour_on.1 in
    let number_on = both_pass (number_verdict limits rec) _ place_on.1 in
    let range_on = both_pass (range_verdict rec) _ number_on.1 in
    let rows_on = both_pass (rows_verdict rec) _ range_on.1 in
    let kinds = and_parts (may_stand limits rec.kind) (side_fits rec.kind (byte_at rec.part 1)) (test_holds _ _ kind_on.0) in
    record {
      stands = kinds.0;
      side = kinds.1;
      hour = test_holds _ _ hour_on.0;
      place = test_holds _ _ place_on.0;
      figures = range_on.0;
      rows = rows_on.0;
    }

-- ---- a block of a file that passed
-- it has a kind, and its record, which is its part of the file, passed
pub record Stands (file : List ℕ) (owners block : ℕ) (rec : Opened) : Type 0 where
  pub kind : kind_in (part_of file block) ≡ Some rec.kind
  pub part : rec.part ≡ part_of file block
  pub whole : length rec.part ≡ 512
  pub passed : Passed (limits_at file owners block) rec

opened_passed : (limits : Limits) (block : ℕ) (part : List ℕ) (kind : Option Kind) → is_ok (on_opened (by_kind kind part block) (record_verdict limits)) ≡ true
    → (k : Kind) × (kind ≡ Some k) × Passed limits (record { kind = k; part = part; block = block })
opened_passed limits block part None ok = absurd (false≢true ok)
opened_passed limits block part (Some k) ok = (k, refl, passed_rules limits _ ok)

whole_part : (file : List ℕ) (block : ℕ) → block < blocks_in file → length (part_of file block) ≡ 512
whole_part file block h = simp (length-take, length-drop) (omega arith)

pub block_stands : (file : List ℕ) (owners block : ℕ) → block < blocks_in file → verdict_at file owners block ≡ Ok tt → (k : Kind) × Stands file owners block (record { kind = k; part = part_of file block; block = block })
block_stands file owners block inside ok =
    let limits = limits_at file owners block in
    let part = part_of file block in
    let p = opened_passed limits block part (kind_in part) (both_pass (check_verdict block part) (body_verdict limits block part) (ap is_ok ok)).1 in
    (p.0, record { kind = p.1; part = refl; whole = whole_part file block inside; passed = p.2 })

-- the record that was opened there
pub record_stands : (file : List ℕ) (owners block : ℕ) (rec : Opened) → block < blocks_in file → verdict_at file owners block ≡ Ok tt → record_of (part_of file block) block ≡ Ok rec → Stands file owners block rec
record_stands file owners block rec inside ok is =
    let b = block_stands file owners block inside ok in
    let opens = rw b.1.kind at is in
    let same : ◌≡◌ {A = Opened} (record { kind = b.0; part = part_of file block; block = block }) rec = cc in
    subst (λ (r : Opened). Stands file owners block r) same b.1

module _ (file : List ℕ) (owners block : ℕ) (rec : Opened) (s : Stands file owners block rec) where
  pub has_its_position : rec.kind ≡ Resource → has_position rec ≡ true
  has_its_position is = and_from _ _ (rw is) (and_from _ _ (eq-eqb _ _ s.whole) (and_from _ _ s.passed.side (and_from _ _ s.passed.figures s.passed.rows)))

  pub has_its_virtual : rec.kind ≡ Virtual → has_virtual_position rec ≡ true
  has_its_virtual is = and_from _ _ (rw is) (and_from _ _ (eq-eqb _ _ s.whole) (and_from _ _ s.passed.side s.passed.figures))

  pub has_its_zone : rec.kind ≡ Header → has_zone_prices rec ≡ true
  has_its_zone is = and_from _ _ (rw is) (and_from _ _ (eq-eqb _ _ s.whole) s.passed.figures)

  -- what it adds
  pub adds_line : (zone : ZonePrices) → zone ≡ zone_prices_at (part_of file 0) → (line : Line) → kind_line (Some rec.kind) zone rec.part line ≡ block_line file line block
  unfolding block_line
  adds_line zone same line =
      ap (λ k. kind_line k zone rec.part line) (sym s.kind)
      ∙ ap (λ p. kind_line (kind_in (part_of file block)) zone p line) s.part
      ∙ ap (λ z. kind_line (kind_in (part_of file block)) z (part_of file block) line) same

  pub adds_withdrawn : kind_withdrawn (Some rec.kind) rec.part ≡ block_withdrawn file block
  unfolding block_withdrawn
  adds_withdrawn = ap (λ k. kind_withdrawn k rec.part) (sym s.kind) ∙ ap (λ p. kind_withdrawn (kind_in (part_of file block)) p) s.part

-- ---- the header, and the blocks after it
header_only : (owners following : ℕ) (k : Kind) → may_stand (first owners following) k ≡ true → k ≡ Header
header_only owners following Header is = refl
header_only owners following Resource is = absurd (false≢true is)
header_only owners following Virtual is = absurd (false≢true is)

pub header_kind : (file : List ℕ) (owners : ℕ) (rec : Opened) → Stands file owners 0 rec → rec.kind ≡ Header
header_kind file owners rec s = header_only owners (blocks_in file - 1) rec.kind s.passed.stands

-- the bytes of the header are the first ones
header_byte : (file : List ℕ) (i : ℕ) → i < 512 → byte_at (part_of file 0) i ≡ byte_at file i
header_byte file i h = get_or-take 512 file i 0 h

-- with an hour from 1 to 24
pub header_hour : (file : List ℕ) (owners : ℕ) (rec : Opened) → Stands file owners 0 rec → (1 ≤ byte_at file 2) × (byte_at file 2 ≤ 24)
header_hour file owners rec s =
    let same = ap (λ part. byte_at part 2) s.part ∙ header_byte file 2 (omega arith) in
    let parts = and_parts (leb 1 (byte_at rec.part 2)) (leb (byte_at rec.part 2) 24) s.passed.hour in
    let low = leb-true 1 (byte_at rec.part 2) parts.0 in
    let high = leb-true (byte_at rec.part 2) 24 parts.1 in
    (omega arith, omega arith)

later_fits : (owners hour from place : ℕ) (k : Kind) → may_stand (later hour owners from) k ≡ true → place_fits (later hour owners from) k place ≡ true → place < owners
later_fits owners hour from place Header stands fits = absurd (false≢true stands)
later_fits owners hour from place Resource stands fits = ltb-true place owners fits
later_fits owners hour from place Virtual stands fits = ltb-true place owners fits

-- a later block stands at the place of an owner
pub later_place : (file : List ℕ) (owners block : ℕ) (rec : Opened) → 1 ≤ block → Stands file owners block rec → byte_at rec.part 3 < owners
later_place file owners zero rec low s = absurd (omega arith)
later_place file owners (suc block) rec low s = later_fits owners (byte_at file 2) (number_from file block) (byte_at rec.part 3) rec.kind s.passed.stands s.passed.place
