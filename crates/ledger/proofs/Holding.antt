-- What a ledger that holds says of its entries and of what stands in them.
use Rattle.std.proofs.Common.{◌≡◌, ℕ, ◌+◌, ◌≤◌, Bool, true, ◌&&◌, eqb, leb, List, length, ℤ, nat_abs, arith}
use Rattle.std.specs.List.{list_all, range_with_len}
use Rattle.std.proofs.lemmas.Bool.{and_from, and_parts, eq-eqb, eqb-true, le-leb, leb-true}
use Rattle.hourfile.specs.Lines.{line_of}
use Rattle.hourfile.specs.declared.lines.Line.{Line}
use Rattle.ledger.specs.declared.entry.Entry.{Entry}
use Rattle.ledger.specs.Entries.{all_sound, amounts_within, is_hour, is_sound, is_within, standing, standings_within}
use Rattle.ledger.specs.Ledgers.{ledger_holds, used_of}
use Rattle.ledger.specs.Numbers.{Numbers}
use Rattle.ledger.proofs.Lined.{within_each, within_from}
use Rattle.ledger.proofs.Ranges.{each_in}

-- a sound entry
pub record Sound (owners : ℕ) (e : Entry) : Type 0 where
  pub from : 1 ≤ e.hour
  pub to : e.hour ≤ 24
  pub within : e.place ≤ owners
  pub small : (line : Line) → nat_abs (line_of e.lines line) ≤ 100000000000

pub sound_parts : (owners : ℕ) (e : Entry) → is_sound owners e ≡ true → Sound owners e
unfolding is_sound
sound_parts owners e h =
    let p = and_parts (is_hour e.hour) (leb e.place owners && is_within 100000000000 (line_of e.lines)) h in
    let hours = and_parts (leb 1 e.hour) (leb e.hour 24) p.0 in
    let q = and_parts (leb e.place owners) (is_within 100000000000 (line_of e.lines)) p.1 in
    record {
      from = leb-true 1 e.hour hours.0;
      to = leb-true e.hour 24 hours.1;
      within = leb-true e.place owners q.0;
      small = within_each 100000000000 (line_of e.lines) q.1;
    }

pub sound_from : (owners : ℕ) (e : Entry) → Sound owners e → is_sound owners e ≡ true
unfolding is_sound
sound_from owners e s =
    and_from _ _ (and_from _ _ (le-leb 1 e.hour s.from) (le-leb e.hour 24 s.to))
    (and_from _ _ (le-leb e.place owners s.within) (within_from 100000000000 (line_of e.lines) s.small))

-- ---- what stands
-- no amount of a day passes the limit, either way
abbrev pub SmallAmounts : ℕ → (ℕ → ℕ → Line → ℤ) → Type 0
SmallAmounts owners amounts =
    (hour place : ℕ) (line : Line) → 1 ≤ hour → hour ≤ 24 → place ≤ owners → nat_abs (amounts hour place line) ≤ 50000000000

module _ (owners : ℕ) (amounts : ℕ → ℕ → Line → ℤ) where
  abbrev within_at : ℕ → ℕ → Bool
  within_at hour place = is_within 50000000000 (amounts hour place)

  abbrev hour_within : ℕ → Bool
  hour_within hour = list_all (within_at hour) (range_with_len 0 (owners + 1))

  amounts_small : amounts_within owners amounts ≡ true → SmallAmounts owners amounts
  amounts_small h hour place line from to p =
      let here = (each_in hour_within 1 24).0 h hour from (omega arith) in
      within_each 50000000000 (amounts hour place) ((each_in (within_at hour) 0 (owners + 1)).0 here place (omega arith) (omega arith)) line

  small_amounts : SmallAmounts owners amounts → amounts_within owners amounts ≡ true
  small_amounts h =
      (each_in hour_within 1 24).1
      (λ hour from to. (each_in (within_at hour) 0 (owners + 1)).1
      (λ place _ p. within_from 50000000000 (amounts hour place) (λ line. h hour place line from (omega arith) (omega arith))))

-- ---- the ledger
pub record Held (n : Numbers) (ledger : List Entry) : Type 0 where
  pub same_length : length ledger ≡ n.size
  pub sound : all_sound n.owners (used_of n ledger) ≡ true
  pub small : SmallAmounts n.owners (standing (used_of n ledger))

pub held : (n : Numbers) (ledger : List Entry) → ledger_holds n ledger ≡ true → Held n ledger
unfolding ledger_holds standings_within
held n ledger h =
    let p = and_parts (eqb (length ledger) n.size) (all_sound n.owners (used_of n ledger) && standings_within n.owners (used_of n ledger)) h in
    let q = and_parts (all_sound n.owners (used_of n ledger)) (standings_within n.owners (used_of n ledger)) p.1 in
    record {
      same_length = eqb-true (length ledger) n.size p.0;
      sound = q.0;
      small = amounts_small n.owners (standing (used_of n ledger)) q.1;
    }

pub holds_from : (n : Numbers) (ledger : List Entry) → Held n ledger → ledger_holds n ledger ≡ true
unfolding ledger_holds standings_within
holds_from n ledger h =
    and_from _ _ (eq-eqb (length ledger) n.size h.same_length)
    (and_from _ _ h.sound (small_amounts n.owners (standing (used_of n ledger)) h.small))
