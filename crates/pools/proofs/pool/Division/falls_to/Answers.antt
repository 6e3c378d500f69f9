use Rattle.std.proofs.Common.{◌≡◌, ℕ, ◌≤◌, ℤ, pos, ◌*ℤ◌, nat_abs, w64, SFits, to_z, of_z, lit<, arith}
use borrow.Author.Differences.{ints}
use Rattle.std.proofs.lemmas.Int.{to_z-of_z, fits_signed_mul}
use Rattle.std.specs.Prelude.{int_div}
use Rattle.pools.specs.Sharing.{falls_to}
use Rattle.pools.proofs.Dividing.{divided, falls_within}
use Rattle.pools.proofs.pool.Division.falls_to.Goals as goal

-- no step wraps
fits : (amount : ℤ) (running whole : ℕ) → nat_abs amount ≤ 14000000000 → running ≤ whole → whole ≤ 204800000
    → to_z w64 (of_z w64 (int_div (to_z w64 (of_z w64 (to_z w64 (of_z w64 amount) *ℤ to_z w64 (of_z w64 (pos running))))) (to_z w64 (of_z w64 (pos whole))))) ≡ falls_to amount running whole
fits amount running whole sized within bounded =
    let fits_amount : SFits w64 amount = omega (arith, ints) in
    let fits_running : SFits w64 (pos running) = omega (arith, ints) in
    let fits_whole : SFits w64 (pos whole) = omega (arith, ints) in
    let fits_product = fits_signed_mul w64 amount (pos running) 14000000000 204800000 sized (omega arith) (lit< tt) in
    let fits_part : SFits w64 (falls_to amount running whole) = omega (arith, ints, falls_within amount running whole within) in
    simp (to_z-of_z, divided)

pub returns : goal.returns
returns c = rw (c.from.ensures, c.from-2.ensures, c.get.ensures.value) (fits _ _ _ c.args.self.now.sized c.requires c.args.self.now.bounded)
