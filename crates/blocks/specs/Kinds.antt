-- The kinds of a block, and what the words of each hold.
use Rattle.std.specs.Prelude.{ℕ, ◌+◌, ◌-◌, ◌*◌, ◌%◌, Bool, cond, ◌&&◌, ◌||◌, Some, None, Option, ◌==◌, nat_le, nat_lt}
use Rattle.market.specs.declared.range.Figure.{Figure}
use Rattle.market.specs.declared.range.Figure.TheVariants.{Price, ReservePrice, Quantity, Reading}
use Rattle.blocks.specs.declared.kind.Content.{Content}
use Rattle.blocks.specs.declared.kind.Content.TheVariants as contents
use Rattle.blocks.specs.declared.kind.Kind.{Kind}
use Rattle.blocks.specs.declared.kind.Kind.TheVariants.{Header, Resource, Virtual}
use Rattle.blocks.specs.declared.kind.Ladder.{Ladder}
use Rattle.blocks.specs.declared.kind.Ladder.TheVariants.{Energy, Reserve}

-- The kind of a block by its first byte: H, R or V.
abbrev pub kind_of : ℕ → Option Kind
kind_of letter = cond (letter == 72) (Some Header) (cond (letter == 82) (Some Resource) (cond (letter == 86) (Some Virtual) None))

-- The second byte: 0 in a header; G, L or N in a resource; G or L in a virtual position.
abbrev pub side_fits : Kind → ℕ → Bool
side_fits Header side = side == 0
side_fits Resource side = side == 71 || side == 76 || side == 78
side_fits Virtual side = side == 71 || side == 76

-- The figure that a word holds by its content, and the ladder that it may not pass, if it is a quantity.
abbrev pub figure_of : Content → Figure
figure_of contents.Price = Price
figure_of contents.ReservePrice = ReservePrice
figure_of contents.Reading = Reading
figure_of (contents.Quantity ladder) = Quantity

abbrev pub ladder_of : Content → Option Ladder
ladder_of contents.Price = None
ladder_of contents.ReservePrice = None
ladder_of contents.Reading = None
ladder_of (contents.Quantity ladder) = Some ladder

-- An interval has five words: price, schedule, reading, reserve price, reserve schedule.
abbrev pub interval_figure : ℕ → Figure
interval_figure n = cond (n == 0) Price (cond (n == 2) Reading (cond (n == 3) ReservePrice Quantity))

abbrev pub interval_schedule : ℕ → Option Ladder
interval_schedule n = cond (n == 1) (Some Energy) (cond (n == 4) (Some Reserve) None)

-- The words of the intervals: 8 to 67, the nth of five.
abbrev pub in_intervals : ℕ → Bool
in_intervals word = nat_le 8 word && nat_le word 67

abbrev pub nth_of_interval : ℕ → ℕ
nth_of_interval word = (word - 8) % 5

-- The figure that a word holds: zone prices in words 2 to 14 of a header; price, quantity, reserve price and reserve quantity in words
-- 2 to 5 of a resource, and its intervals; the quantity in word 2 of a virtual position.
abbrev pub resource_figure : ℕ → Option Figure
resource_figure word =
    cond (word == 2) (Some Price)
    (cond (word == 3) (Some Quantity)
    (cond (word == 4) (Some ReservePrice)
    (cond (word == 5) (Some Quantity)
    (cond (in_intervals word) (Some (interval_figure (nth_of_interval word))) None))))

abbrev pub figure_at : Kind → ℕ → Option Figure
figure_at Header word = cond (nat_le 2 word && nat_le word 14) (Some Price) None
figure_at Resource word = resource_figure word
figure_at Virtual word = cond (word == 2) (Some Quantity) None

-- The words of a resource that no ladder may end below: the day-ahead quantities and the schedules of the intervals.
abbrev pub schedule_at : ℕ → Option Ladder
schedule_at word =
    cond (word == 3) (Some Energy)
    (cond (word == 5) (Some Reserve)
    (cond (in_intervals word) (interval_schedule (nth_of_interval word)) None))

-- The words that are not used: from 15 on in a header, from 3 on in a virtual position, and in a resource the rows beyond each count
-- and what follows them. Energy rows stand in words 68 to 107, reserve rows in words 108 to 117.
abbrev pub is_unused : Kind → ℕ → ℕ → ℕ → Bool
is_unused Header energy_rows reserve_rows word = nat_le 15 word
is_unused Virtual energy_rows reserve_rows word = nat_le 3 word
is_unused Resource energy_rows reserve_rows word = (nat_le (68 + 2 * energy_rows) word && nat_lt word 108) || nat_le (108 + 2 * reserve_rows) word
