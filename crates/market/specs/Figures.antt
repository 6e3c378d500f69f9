-- The ranges of figures.
use Rattle.std.specs.Prelude.{◌≡◌, ℤ, pos, negsuc, ◌≤ℤ◌, Ok, Err, Result}
use Rattle.market.specs.declared.range.Figure.{Figure}
use Rattle.market.specs.declared.range.Figure.TheVariants.{Price, ReservePrice, Quantity, Reading}
use Rattle.market.specs.declared.range.OutOfRange.{OutOfRange}

abbrev pub lowest : Figure → ℤ
lowest Price = negsuc 199999
lowest ReservePrice = pos 0
lowest Quantity = pos 0
lowest Reading = pos 0

abbrev pub highest : Figure → ℤ
highest Price = pos 200000
highest ReservePrice = pos 200000
highest Quantity = pos 1000
highest Reading = pos 8400

abbrev pub InRange : Figure → ℤ → Type 0
InRange figure value = (lowest figure ≤ℤ value) × (value ≤ℤ highest figure)

-- What the making of a figure answers: the figure of just this number where the number is in range, else which figure was wanted and
-- the number.
abbrev pub Taken : {A : Type 0} → (A → ℤ) → Figure → ℤ → Result A OutOfRange → Type 0
Taken number figure value (Ok made) = InRange figure value × (number made ≡ value)
Taken number figure value (Err e) = (InRange figure value → ⊥) × (e ≡ record { figure = figure; value = value })
