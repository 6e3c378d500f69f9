-- What a record holds where it has a meaning.
use Rattle.std.proofs.Common.{◌≡◌, ℕ, true, List, length, Option, refl}
use Rattle.std.specs.Bool.{Decides}
use Rattle.std.specs.Option.{option_map}
use Rattle.std.proofs.lemmas.Bool.{and_from, and_parts, eq-eqb, eqb-true, false≢true}
use Rattle.blocks.specs.Records.{Opened}
use Rattle.blocks.specs.declared.kind.Kind.{Kind}
use Rattle.blocks.specs.declared.kind.Kind.TheVariants.{Header, Resource, Virtual}
use Rattle.market.specs.Views.{position_of, virtual_position_of, zone_prices_of}
use Rattle.market.specs.declared.position.Position.{Position}
use Rattle.market.specs.declared.position.VirtualPosition.{VirtualPosition}
use Rattle.market.specs.declared.position.ZonePrices.{ZonePrices}
use Rattle.market.specs.declared.range.Figure.{Figure}
use Rattle.records.specs.Contents.{has_position, has_virtual_position, has_zone_prices, figures_in_range, is_whole, position_at, position_in, rows_are_right, side_is_right, virtual_position_at, virtual_position_in, zone_prices_at, zone_prices_in}
use Rattle.records.specs.Held.{Holds, PositionHeld, Reads, VirtualHeld, ZoneHeld}
use Rattle.records.proofs.Answering.{answers}
use Rattle.records.proofs.Ranges.{header_words, interval_words, ranges_decide, reserve_interval_words, resource_words, virtual_words, zone_words}
use Rattle.records.proofs.RowRules.{rows_held, rows_pass}

module _ (part : List ℕ) (block : ℕ) where
  abbrev opened_as : Kind → Opened
  opened_as kind = record { kind = kind; part = part; block = block }

  abbrev HoldsAs : Kind → Figure → ℕ → Type 0
  HoldsAs kind figure k = Holds figure (opened_as kind) k

  -- ---- a resource
  abbrev resource : Opened
  resource = opened_as Resource

  resource_held : has_position resource ≡ true → PositionHeld resource
  resource_held has =
      let whole_on = and_parts (is_whole resource) _ has in
      let side_on = and_parts (side_is_right resource) _ whole_on.1 in
      let range_on = and_parts (figures_in_range resource) (rows_are_right resource) side_on.1 in
      let whole = eqb-true (length part) 512 whole_on.0 in
      let rows = rows_held resource whole range_on.1 in
      let each = (ranges_decide resource whole).0 range_on.0 in
      record {
        side = (side_on.0, rows.0);
        price = each 2;
        quantity = each 3;
        intervals = interval_words (HoldsAs Resource) each;
        reserve = (each 4, each 5, rows.1, reserve_interval_words (HoldsAs Resource) each);
      }

  resource_has : PositionHeld resource → has_position resource ≡ true
  resource_has h =
      let r = h.reserve in
      let each = resource_words (HoldsAs Resource) h.intervals r.3 h.price h.quantity r.0 r.1 in
      and_from _ _ (eq-eqb (length part) 512 h.price.0)
      (and_from _ _ h.side.0 (and_from _ _ ((ranges_decide resource h.price.0).1 each) (rows_pass resource (h.side.1, r.2))))

  -- ---- a virtual position
  abbrev virtual : Opened
  virtual = opened_as Virtual

  as_virtual_held : has_virtual_position virtual ≡ true → VirtualHeld virtual
  as_virtual_held has =
      let whole_on = and_parts (is_whole virtual) _ has in
      let side_on = and_parts (side_is_right virtual) (figures_in_range virtual) whole_on.1 in
      let whole = eqb-true (length part) 512 whole_on.0 in
      ((whole, side_on.0), (ranges_decide virtual whole).0 side_on.1 2)

  virtual_has : VirtualHeld virtual → has_virtual_position virtual ≡ true
  virtual_has h =
      and_from _ _ (eq-eqb (length part) 512 h.0.0)
      (and_from _ _ h.0.1 ((ranges_decide virtual h.0.0).1 (virtual_words (HoldsAs Virtual) h.1)))

  -- ---- the prices of the zone
  abbrev header : Opened
  header = opened_as Header

  header_held : has_zone_prices header ≡ true → ZoneHeld header
  header_held has =
      let whole_on = and_parts (is_whole header) (figures_in_range header) has in
      let each = (ranges_decide header (eqb-true (length part) 512 whole_on.0)).0 whole_on.1 in
      (each 2, zone_words (HoldsAs Header) each)

  header_has : ZoneHeld header → has_zone_prices header ≡ true
  header_has h =
      and_from _ _ (eq-eqb (length part) 512 h.0.0) ((ranges_decide header h.0.0).1 (header_words (HoldsAs Header) h.0 h.1))

-- ---- whatever the kind
position_decides : (kind : Kind) (part : List ℕ) (block : ℕ)
    → Decides (has_position (opened_as part block kind)) ((Resource ≡ kind) × PositionHeld (opened_as part block kind))
position_decides Header part block = (λ has. absurd (false≢true has), λ held. let is = held.0 in cc)
position_decides Resource part block = (λ has. (refl, resource_held part block has), λ held. resource_has part block held.1)
position_decides Virtual part block = (λ has. absurd (false≢true has), λ held. let is = held.0 in cc)

virtual_decides : (kind : Kind) (part : List ℕ) (block : ℕ)
    → Decides (has_virtual_position (opened_as part block kind)) ((Virtual ≡ kind) × VirtualHeld (opened_as part block kind))
virtual_decides Header part block = (λ has. absurd (false≢true has), λ held. let is = held.0 in cc)
virtual_decides Resource part block = (λ has. absurd (false≢true has), λ held. let is = held.0 in cc)
virtual_decides Virtual part block = (λ has. (refl, as_virtual_held part block has), λ held. virtual_has part block held.1)

zone_decides : (kind : Kind) (part : List ℕ) (block : ℕ)
    → Decides (has_zone_prices (opened_as part block kind)) ((Header ≡ kind) × ZoneHeld (opened_as part block kind))
zone_decides Header part block = (λ has. (refl, header_held part block has), λ held. header_has part block held.1)
zone_decides Resource part block = (λ has. absurd (false≢true has), λ held. let is = held.0 in cc)
zone_decides Virtual part block = (λ has. absurd (false≢true has), λ held. let is = held.0 in cc)

module _ (rec : Opened) where
  pub position_held : has_position rec ≡ true → PositionHeld rec
  position_held has = ((position_decides rec.kind rec.part rec.block).0 has).1

  pub virtual_held : has_virtual_position rec ≡ true → VirtualHeld rec
  virtual_held has = ((virtual_decides rec.kind rec.part rec.block).0 has).1

  pub zone_held : has_zone_prices rec ≡ true → ZoneHeld rec
  zone_held has = ((zone_decides rec.kind rec.part rec.block).0 has).1

  -- what a reading of a record of the kind answers
  pub position_read : Resource ≡ rec.kind → (r : Option Position) → Reads position_of (PositionHeld rec) (position_at rec.part) r
      → option_map position_of r ≡ position_in rec
  position_read = answers position_of (has_position rec) (position_at rec.part) (position_decides rec.kind rec.part rec.block)

  pub virtual_read : Virtual ≡ rec.kind → (r : Option VirtualPosition) → Reads virtual_position_of (VirtualHeld rec) (virtual_position_at rec.part) r
      → option_map virtual_position_of r ≡ virtual_position_in rec
  virtual_read = answers virtual_position_of (has_virtual_position rec) (virtual_position_at rec.part) (virtual_decides rec.kind rec.part rec.block)

  pub zone_read : Header ≡ rec.kind → (r : Option ZonePrices) → Reads zone_prices_of (ZoneHeld rec) (zone_prices_at rec.part) r
      → option_map zone_prices_of r ≡ zone_prices_in rec
  zone_read = answers zone_prices_of (has_zone_prices rec) (zone_prices_at rec.part) (zone_decides rec.kind rec.part rec.block)
