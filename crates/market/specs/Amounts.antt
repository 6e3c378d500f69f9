-- The six lines of a position, in grains.
use Rattle.std.specs.Prelude.{ℕ, ◌*◌, List, ℤ, pos, ◌+ℤ◌, ◌-ℤ◌, ◌*ℤ◌, fold}
use Rattle.std.specs.Int.{int_max}
use Rattle.ladders.specs.Ladder.{Rows, profit, best_profit, lost_profit}
use Rattle.market.specs.Positions.{Interval, Position, ReserveClass, ReserveInterval, VirtualPosition, ZonePrices}
use Rattle.market.specs.Trades.{sign}

-- The sum of an amount over a list.
abbrev pub total : {X : Type 0} → (X → ℤ) → List X → ℤ
total amount xs = fold (λ sum x. sum +ℤ amount x) (pos 0) xs

-- Day-ahead energy: the day-ahead quantity at its price.
abbrev pub day_ahead_energy : Position → ℤ
day_ahead_energy p = sign p.trade *ℤ pos 1200 *ℤ p.price *ℤ pos p.quantity

-- Balancing: in each interval, what the meter read beyond the day-ahead quantity, at the price of the interval.
abbrev pub imbalance : ℕ → Interval → ℤ
imbalance quantity t = t.price *ℤ (pos 12 *ℤ pos t.reading -ℤ pos 100 *ℤ pos quantity)

abbrev pub balancing : Position → ℤ
balancing p = sign p.trade *ℤ total (imbalance p.quantity) p.intervals

-- Virtual: the quantity at the day-ahead price of the zone, less its price in each interval.
abbrev pub spread : ℤ → ℤ → ℤ
spread day_ahead price = day_ahead -ℤ price

abbrev pub virtual_trade : ZonePrices → VirtualPosition → ℤ
virtual_trade zone v = sign v.trade *ℤ pos 100 *ℤ pos v.quantity *ℤ total (spread zone.day_ahead) zone.real_time

-- Reserve of a class: the day-ahead quantity at its price, and in each interval the change of the schedule at the interval's price.
abbrev pub reserve_change : ℕ → ReserveInterval → ℤ
reserve_change quantity t = pos 100 *ℤ pos t.price *ℤ (pos t.schedule -ℤ pos quantity)

abbrev pub reserve : ReserveClass → ℤ
reserve c = pos 1200 *ℤ pos c.price *ℤ pos c.quantity +ℤ total (reserve_change c.quantity) c.intervals

-- Day-ahead make-whole: the lost profit of the day-ahead quantities, energy and reserve, over twelve intervals.
abbrev pub energy_loss : Position → ℤ
energy_loss p = lost_profit p.ladder p.price p.quantity

abbrev pub reserve_loss : ReserveClass → ℤ
reserve_loss c = lost_profit c.ladder (pos c.price) c.quantity

abbrev pub day_ahead_make_whole : Position → ℤ
day_ahead_make_whole p = pos 12 *ℤ (energy_loss p +ℤ reserve_loss p.reserve)

-- The energy payment of one interval: the profit at the economic point less the larger of the profits at schedule and reading.
abbrev pub energy_payment : Rows → Interval → ℤ
energy_payment ladder t =
    best_profit ladder t.price -ℤ int_max (profit ladder t.price (100 * t.schedule)) (profit ladder t.price (12 * t.reading))

-- The reserve payment of one interval: the lost profit of the reserve schedule.
abbrev pub reserve_payment : Rows → ReserveInterval → ℤ
reserve_payment ladder t = lost_profit ladder (pos t.price) t.schedule

-- Real-time make-whole: the payments of the intervals.
abbrev pub real_time_make_whole : Position → ℤ
real_time_make_whole p =
    total (energy_payment p.ladder) p.intervals +ℤ total (reserve_payment p.reserve.ladder) p.reserve.intervals
