-- Entries that are appended to a ledger.
use Rattle.std.proofs.Common.{◌≡◌, ℕ, ◌+◌, ◌-◌, ◌≤◌, List, ◌++◌, length, take, drop, refl, ap, ◌∙◌, arith, length-append, length-drop}
use borrow.Rule.Slice.PartMut.{put_mid}
use Rattle.std.proofs.lemmas.List.{length-take-le, take_all, take_at}
use Rattle.std.proofs.lemmas.Slice.{put_mid-paste}
use Rattle.ledger.specs.declared.entry.Entry.{Entry}
use Rattle.ledger.specs.Postings.{appended}

module _ (used : ℕ) (new ledger : List Entry) (fits : used + length new ≤ length ledger) where
  -- what is written to the part right behind the used entries is appended
  pub appended_by_part : (count : ℕ) → count ≡ length new → put_mid used (used + count - used) ledger new ≡ appended used new ledger
  appended_by_part count is =
      put_mid-paste used (used + count - used) ledger new new (length new) refl (omega arith) refl
      ∙ ap (λ xs. take used ledger ++ xs ++ drop (used + length new) ledger) (take_all (length new) new (omega arith))

  length_front : length (take used ledger ++ new) ≡ used + length new
  length_front = length-append (take used ledger) new ∙ ap (λ n. n + length new) (length-take-le used ledger (omega arith))

  -- the new entries come right behind the used ones
  pub take-appended : take (used + length new) (appended used new ledger) ≡ take used ledger ++ new
  take-appended = take_at (take used ledger ++ new) (drop (used + length new) ledger) (used + length new) length_front

  pub length-appended : length (appended used new ledger) ≡ length ledger
  length-appended =
      let a = length-append (take used ledger ++ new) (drop (used + length new) ledger) in
      let b = length_front in
      let d = length-drop (used + length new) ledger in
      omega arith
