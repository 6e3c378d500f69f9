-- The law of rounding.
use Rattle.std.proofs.Common.{◌≡◌, suc, ◌+◌, ◌/◌, ◌<◌, ◌⊎◌, ℤ, pos, negsuc, neg_ℤ, refl, inl, inr, ⊎_elim, arith}
use borrow.Author.Differences.{up, down, neg_is, ints}
use Rattle.std.proofs.lemmas.Bool.{cases_lt}
use Rattle.market.specs.Cents.{nearest_cent, distance, Nearest, Rounding}

-- the nearest cent as `omega` reads it
pub nearest_cent_is : (z : ℤ) → (up (nearest_cent z) ≡ (up z + 6000) / 12000) × (down (nearest_cent z) ≡ (down z + 6000) / 12000)
unfolding nearest_cent
nearest_cent_is (pos g) = (refl, refl)
nearest_cent_is (negsuc g) = neg_is (pos ((suc g + 6000) / 12000))

pub one_sided : (z : ℤ) → (up z ≡ 0) ⊎ (down z ≡ 0)
one_sided (pos n) = inr refl
one_sided (negsuc n) = inl refl

only_one : (grains other : ℤ) → Nearest grains other → other ≡ nearest_cent grains
only_one grains other n =
    let side = one_sided grains in
    let other_side = one_sided other in
    let is = nearest_cent_is grains in
    ⊎_elim
    (λ (h : distance grains other < 6000). omega (arith, ints))
    (λ h. let away = n.away (omega (arith, n.near)) in omega (arith, ints))
    (cases_lt (distance grains other) 6000)

pub rounding : (grains cents : ℤ) → cents ≡ nearest_cent grains → Rounding grains cents
rounding grains cents e =
    let side = one_sided grains in
    let is = nearest_cent_is grains in
    let neg = nearest_cent_is (neg_ℤ grains) in
    rw e (record {
      nearest = record { near = omega (arith, ints); away = λ h. omega (arith, ints) };
      only = only_one grains;
      symmetric = omega (arith, ints);
    })
