-- What the blocks of an hour file come to: the amount of each line of every place, in cents.
use Rattle.std.specs.Prelude.{◌≡◌, ℕ, zero, suc, ◌+◌, ◌≤◌, Bool, cond, List, map, ℤ, pos, ◌+ℤ◌, neg_ℤ, ◌≤ℤ◌, Some, None, sum, Option, ◌==◌, nat_lt, unsigned_abs}
use Rattle.blocks.specs.Kinds.{kind_of}
use Rattle.blocks.specs.Words.{byte_at}
use Rattle.blocks.specs.declared.kind.Kind.{Kind}
use Rattle.blocks.specs.declared.kind.Kind.TheVariants as kinds
use Rattle.market.specs.Amounts.{balancing, day_ahead_energy, day_ahead_make_whole, real_time_make_whole, reserve, virtual_trade}
use Rattle.market.specs.Cents.{nearest_cent}
use Rattle.market.specs.Positions.{Position, VirtualPosition, ZonePrices}
use Rattle.market.specs.declared.trade.Trade.{Trade}
use Rattle.market.specs.declared.trade.Trade.TheVariants.{Sale, Purchase}
use Rattle.pools.specs.Sharing.{before, operator_part, share_of}
use Rattle.records.specs.Contents.{position_at, virtual_position_at, zone_prices_at}
use Rattle.hourfile.specs.declared.lines.Line.{Line}
use Rattle.hourfile.specs.declared.lines.Line.TheVariants.{DayAheadEnergy, Balancing, Virtual, Reserve, DayAheadMakeWhole, RealTimeMakeWhole, Uplift, Residual}
use Rattle.hourfile.specs.Files.{blocks_in, part_of}

-- The sum of an amount over the first numbers.
unfoldable pub sum_below : (ℕ → ℤ) → ℕ → ℤ
sum_below amount zero = pos 0
sum_below amount (suc n) = sum_below amount n +ℤ amount n

-- ---- one block
-- What a position of a resource adds to each line of its place, in grains.
abbrev pub position_line : Position → Line → ℤ
position_line p DayAheadEnergy = day_ahead_energy p
position_line p Balancing = balancing p
position_line p Virtual = pos 0
position_line p Reserve = reserve p.reserve
position_line p DayAheadMakeWhole = day_ahead_make_whole p
position_line p RealTimeMakeWhole = real_time_make_whole p
position_line p Uplift = pos 0
position_line p Residual = pos 0

-- What a virtual position adds.
abbrev pub virtual_line : ZonePrices → VirtualPosition → Line → ℤ
virtual_line zone v DayAheadEnergy = pos 0
virtual_line zone v Balancing = pos 0
virtual_line zone v Virtual = virtual_trade zone v
virtual_line zone v Reserve = pos 0
virtual_line zone v DayAheadMakeWhole = pos 0
virtual_line zone v RealTimeMakeWhole = pos 0
virtual_line zone v Uplift = pos 0
virtual_line zone v Residual = pos 0

-- What a block adds, by its kind. The header adds nothing.
abbrev pub kind_line : Option Kind → ZonePrices → List ℕ → Line → ℤ
kind_line None zone part line = pos 0
kind_line (Some kinds.Header) zone part line = pos 0
kind_line (Some kinds.Resource) zone part line = position_line (position_at part) line
kind_line (Some kinds.Virtual) zone part line = virtual_line zone (virtual_position_at part) line

abbrev pub kind_in : List ℕ → Option Kind
kind_in part = kind_of (byte_at part 0)

unfoldable pub block_line : List ℕ → Line → ℕ → ℤ
block_line file line block = kind_line (kind_in (part_of file block)) (zone_prices_at (part_of file 0)) (part_of file block) line

-- What a load withdraws, in kWh: its readings. A generator withdraws nothing.
abbrev pub withdrawn_by : Trade → ℕ → ℕ
withdrawn_by Sale readings = 0
withdrawn_by Purchase readings = readings

abbrev pub withdrawn_in : Position → ℕ
withdrawn_in p = withdrawn_by p.trade (sum (map (λ t. t.reading) p.intervals))

abbrev pub kind_withdrawn : Option Kind → List ℕ → ℕ
kind_withdrawn None part = 0
kind_withdrawn (Some kinds.Header) part = 0
kind_withdrawn (Some kinds.Resource) part = withdrawn_in (position_at part)
kind_withdrawn (Some kinds.Virtual) part = 0

unfoldable pub block_withdrawn : List ℕ → ℕ → ℕ
block_withdrawn file block = kind_withdrawn (kind_in (part_of file block)) (part_of file block)

-- ---- one place
-- Whether a block stands at a place.
abbrev pub stands_at : List ℕ → ℕ → ℕ → Bool
stands_at file place block = byte_at (part_of file block) 3 == place

-- The grains of a place's line: the sum over the blocks that stand at the place.
abbrev pub line_grains : List ℕ → ℕ → Line → ℕ → ℤ
line_grains file place line blocks = sum_below (λ block. cond (stands_at file place block) (block_line file line block) (pos 0)) blocks

-- The cents of it: rounded once.
unfoldable pub line_cents : List ℕ → ℕ → Line → ℤ
line_cents file place line = nearest_cent (line_grains file place line (blocks_in file))

-- What a place withdrew, in kWh.
abbrev pub place_withdrawn : List ℕ → ℕ → ℕ → ℕ
place_withdrawn file place blocks = before (λ block. cond (stands_at file place block) (block_withdrawn file block) 0) blocks

unfoldable pub withdrawn_at : List ℕ → ℕ → ℕ
withdrawn_at file place = place_withdrawn file place (blocks_in file)

-- ---- the pools
-- The uplift pool is the sum of lines 4 to 6 of all owners; the residual pool is minus the sum of their lines 1 to 3.
abbrev pub uplift_part : (Line → ℤ) → ℤ
uplift_part amount = amount Reserve +ℤ amount DayAheadMakeWhole +ℤ amount RealTimeMakeWhole

abbrev pub trade_part : (Line → ℤ) → ℤ
trade_part amount = amount DayAheadEnergy +ℤ amount Balancing +ℤ amount Virtual

unfoldable pub uplift_pool : List ℕ → ℕ → ℤ
uplift_pool file owners = sum_below (λ place. uplift_part (line_cents file place)) owners

unfoldable pub residual_pool : List ℕ → ℕ → ℤ
residual_pool file owners = neg_ℤ (sum_below (λ place. trade_part (line_cents file place)) owners)

-- What an owner weighs: what the basis says of its place and of what it withdrew.
abbrev pub weight_at : (ℕ → ℕ → ℕ) → List ℕ → ℕ → ℕ
weight_at weighs file place = weighs place (withdrawn_at file place)

-- The part of a place in a pool. The place after the owners is the operator's.
abbrev pub pool_part : ℤ → (ℕ → ℕ) → ℕ → ℕ → ℤ
pool_part pool weight owners place =
    cond (nat_lt place owners) (share_of pool weight (before weight owners) place) (operator_part pool (before weight owners))

-- ---- the amounts
-- Lines 1 to 6 of an owner are its cents, and the operator has nothing there. Line 7 is minus the part in the uplift pool, line 8 the
-- part in the residual pool.
abbrev pub own_cents : List ℕ → ℕ → ℕ → Line → ℤ
own_cents file owners place line = cond (nat_lt place owners) (line_cents file place line) (pos 0)

abbrev pub shared_line : (Line → ℤ) → ℤ → ℤ → Line → ℤ
shared_line own uplift residual DayAheadEnergy = own DayAheadEnergy
shared_line own uplift residual Balancing = own Balancing
shared_line own uplift residual Virtual = own Virtual
shared_line own uplift residual Reserve = own Reserve
shared_line own uplift residual DayAheadMakeWhole = own DayAheadMakeWhole
shared_line own uplift residual RealTimeMakeWhole = own RealTimeMakeWhole
shared_line own uplift residual Uplift = neg_ℤ uplift
shared_line own uplift residual Residual = residual

unfoldable pub amount : List ℕ → ℕ → (ℕ → ℕ → ℕ) → (ℕ → ℕ → ℕ) → ℕ → Line → ℤ
amount file owners uplift residual place line =
    shared_line (own_cents file owners place)
    (pool_part (uplift_pool file owners) (weight_at uplift file) owners place)
    (pool_part (residual_pool file owners) (weight_at residual file) owners place)
    line

-- ---- the laws of the amounts
-- Over all owners and the operator, what each place has on some lines sums to nothing.
abbrev pub trade_lines : (Line → ℤ) → ℤ
trade_lines amount = trade_part amount +ℤ amount Residual

abbrev pub uplift_lines : (Line → ℤ) → ℤ
uplift_lines amount = uplift_part amount +ℤ amount Uplift

-- Lines 1, 2, 3 and 8 sum to nothing over all places, and lines 4 to 7 do; no make-whole is negative; and no amount is larger, either
-- way, than 14,000,000,000.
pub record HourLaws (owners : ℕ) (amounts : ℕ → Line → ℤ) : Type 0 where
  pub trade : sum_below (λ place. trade_lines (amounts place)) (owners + 1) ≡ pos 0
  pub uplift : sum_below (λ place. uplift_lines (amounts place)) (owners + 1) ≡ pos 0
  pub day_ahead : (place : ℕ) → pos 0 ≤ℤ amounts place DayAheadMakeWhole
  pub real_time : (place : ℕ) → pos 0 ≤ℤ amounts place RealTimeMakeWhole
  pub bounded : (place : ℕ) (line : Line) → unsigned_abs (amounts place line) ≤ 14000000000
