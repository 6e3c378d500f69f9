-- What is found by going down through the numbers of a range.
use Rattle.std.proofs.Common.{◌≡◌, ℕ, zero, suc, List, [], ◌∷◌, ◌∙◌, ap, arith}
use Rattle.std.proofs.iter.runs.Sources.{nat_range_steps_back}
use Rattle.std.proofs.lemmas.Iterator.{YieldsList}
use Rattle.std.specs.Iterator.{AlwaysYields}
use Rattle.std.specs.Iterator.Adapters.{rev_source, rev_steps}
use Rattle.std.specs.declared.iter.Rev.{Rev}
use Rattle.std.specs.declared.ops.Range.{Range}

-- the first n numbers, the last one first
abbrev pub downward : ℕ → List ℕ
downward zero = []
downward (suc n) = n ∷ downward n

gives : (n : ℕ) (s : Rev (Range ℕ)) → (rev_source s).start ≡ 0 → (rev_source s).end ≡ n → AlwaysYields (rev_steps nat_range_steps_back) (λ x. x) s (downward n)
gives zero s low high = λ x t p. omega (arith, p.1.0)
gives (suc n) s low high = (
  λ t p. omega (arith, p.1.0),
  λ x t p. (omega (arith, p.1.1, p.1.2), gives n t (p.0 ∙ low) (omega (arith, p.1.2))),
)

pub YieldsList-from_rev_range : {s : Rev (Range ℕ)} (n : ℕ) → rev_source s ≡ record { start = 0; end = n } → YieldsList (rev_steps nat_range_steps_back) (λ x. x) s (downward n)
YieldsList-from_rev_range {s} n e = record { runs = gives n s (ap (λ (r : Range ℕ). r.start) e) (ap (λ (r : Range ℕ). r.end) e) }
