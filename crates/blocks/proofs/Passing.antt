-- What a verdict without a fault says.
use Rattle.std.proofs.Common.{◌≡◌, ℕ, Bool, true, false, ◌&&◌, List, ℤ, pos, Ok, Err, refl, arith}
use lib.Signed.{le_z}
use borrow.Author.Differences.{ints}
use Rattle.std.proofs.lemmas.Bool.{and_parts}
use Rattle.blocks.specs.Firsts.{Verdict, first_of, unless}
use Rattle.blocks.specs.Verdicts.{check_verdict}
use Rattle.blocks.specs.Words.{check_of, word_at}

pub first_passes : {E : Type 0} (a b : Verdict E) → first_of a b ≡ Ok tt → (a ≡ Ok tt) × (b ≡ Ok tt)
first_passes (Ok u) b h = (refl, h)
first_passes (Err e) b h = let z : ◌≡◌ {A = ℕ} 0 1 = cc in absurd (omega arith)

pub both_pass : {E : Type 0} (a b : Verdict E) → a ≡ Ok tt → b ≡ Ok tt → first_of a b ≡ Ok tt
both_pass a b h k = rw (h, k)

unless_passes : {E : Type 0} (test : Bool) (e : E) → unless test e ≡ Ok tt → test ≡ true
unless_passes true e h = refl
unless_passes false e h = let z : ◌≡◌ {A = ℕ} 0 1 = cc in absurd (omega arith)

same_if : (a b : ℤ) → (le_z a b && le_z b a) ≡ true → a ≡ b
same_if a b h = let p = and_parts (le_z a b) (le_z b a) h in let low = p.0 in let high = p.1 in grind (arith, ints)

same_test : (a b : ℤ) → a ≡ b → (le_z a b && le_z b a) ≡ true
same_test a b h = grind (arith, ints)

-- the check is right just where the verdict on it passes
pub check_right : (block : ℕ) (part : List ℕ) → check_verdict block part ≡ Ok tt → word_at part 127 ≡ pos (check_of part)
check_right block part h = same_if _ _ (unless_passes _ _ h)

pub right_check : (block : ℕ) (part : List ℕ) → word_at part 127 ≡ pos (check_of part) → check_verdict block part ≡ Ok tt
right_check block part h = rw (same_test (word_at part 127) (pos (check_of part)) h)
