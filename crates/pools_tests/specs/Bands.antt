-- The weights of a basis that a site might bring: by bands of the withdrawn quantity.
use Rattle.std.specs.Prelude.{ℕ, cond, nat_lt}

-- 1 below 100 kWh, 5 below 10,000 kWh, and 20 from there on
abbrev pub banded : ℕ → ℕ
banded quantity = cond (nat_lt quantity 100) 1 (cond (nat_lt quantity 10000) 5 20)
