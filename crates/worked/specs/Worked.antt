-- Worked examples: what the definitions give, and what it should be.
use Rattle.std.specs.Prelude.{◌≡◌, ℕ, true, false, List, [], ◌∷◌, ◌++◌, map, replicate, ℤ, pos, negsuc, slice_index_or}
use Rattle.std.specs.List.{range_with_len, AllByRecursion}
use Rattle.ladders.specs.Ladder.{economic_point}
use Rattle.ladders.specs.Rows.{offer_ladder, bid_ladder}
use Rattle.ladders.specs.declared.rows.Row.{Row}
use Rattle.market.specs.Amounts.{day_ahead_make_whole}
use Rattle.market.specs.Cents.{nearest_cent}
use Rattle.market.specs.Positions.{Position}
use Rattle.market.specs.Sides.{no_rows}
use Rattle.market.specs.declared.trade.Trade.TheVariants.{Sale}
use Rattle.pools.specs.Bases.{exempted}
use Rattle.pools.specs.Sharing.{before, operator_part, share_of}

pub record Example : Type 0 where
  pub given : List ℤ
  pub expected : List ℤ

-- ---- ladders and positions
abbrev row : ℕ → ℕ → Row
row price end = record { price = pos price; end = pos end }

-- an offer of 3,000 to 400 and 5,000 to 600, and a bid of 5,000 to 100 and 2,000 to 300
abbrev two_row_offer : List Row
two_row_offer = row 3000 400 ∷ (row 5000 600 ∷ [])

abbrev two_row_bid : List Row
two_row_bid = row 5000 100 ∷ (row 2000 300 ∷ [])

-- a generator with that offer, a day-ahead price of 4,000 and quantity of 500, and in each interval price 4,200, schedule 500 and
-- reading 4,200; no reserve
abbrev generator : Position
generator = record {
  trade = Sale;
  ladder = offer_ladder two_row_offer;
  price = pos 4000;
  quantity = 500;
  intervals = replicate 12 (record { price = pos 4200; schedule = 500; reading = 4200 });
  reserve = record { price = 0; quantity = 0; ladder = no_rows; intervals = replicate 12 (record { price = 0; schedule = 0 }) };
}

abbrev offer_points : List ℤ → List ℤ
offer_points prices = map (λ price. pos (economic_point (offer_ladder two_row_offer) price)) prices

abbrev bid_points : List ℤ → List ℤ
bid_points prices = map (λ price. pos (economic_point (bid_ladder two_row_bid) price)) prices

-- ---- pools
-- the shares of the owners, by place, and then the operator's part
abbrev shared_out : ℤ → List ℕ → ℕ → List ℤ
shared_out pool weights owners =
    let weight : ℕ → ℕ = λ place. slice_index_or weights place 0 in
    map (share_of pool weight (before weight owners)) (range_with_len 0 owners) ++ (operator_part pool (before weight owners) ∷ [])

-- three owners with weight 1 each, and the same with place 2 exempt
abbrev ones : List ℕ
ones = 1 ∷ (1 ∷ (1 ∷ []))

abbrev ones_but_one : List ℕ
ones_but_one = map (λ place. exempted (false ∷ (false ∷ (true ∷ []))) place 1) (range_with_len 0 3)

-- ---- the examples
abbrev pub examples : List Example
examples =
    -- 6,000 grains round to 1 cent, −6,000 to −1 and 5,999 to 0
    record { given = map nearest_cent (pos 6000 ∷ (negsuc 5999 ∷ (pos 5999 ∷ []))); expected = pos 1 ∷ (negsuc 0 ∷ (pos 0 ∷ [])) }
    -- the offer's points: 0 at 2,999, 400 at 4,000 and 600 at 5,000
    ∷ (record { given = offer_points (pos 2999 ∷ (pos 4000 ∷ (pos 5000 ∷ []))); expected = pos 0 ∷ (pos 400 ∷ (pos 600 ∷ [])) }
    -- the generator's day-ahead make-whole: 10,000 cents
    ∷ (record { given = nearest_cent (day_ahead_make_whole generator) ∷ []; expected = pos 10000 ∷ [] }
    -- the bid's points: 300 at 2,000 and 100 at 2,001
    ∷ (record { given = bid_points (pos 2000 ∷ (pos 2001 ∷ [])); expected = pos 300 ∷ (pos 100 ∷ []) }
    -- a pool of 200 over weights 1, 1, 1: 66, 67 and 67
    ∷ (record { given = shared_out (pos 200) ones 3; expected = pos 66 ∷ (pos 67 ∷ (pos 67 ∷ (pos 0 ∷ []))) }
    -- a pool of −100 over the same: −33, −33 and −34
    ∷ (record { given = shared_out (negsuc 99) ones 3; expected = negsuc 32 ∷ (negsuc 32 ∷ (negsuc 33 ∷ (pos 0 ∷ []))) }
    -- a pool of 7 over weights 0 and 5: 0 and 7
    ∷ (record { given = shared_out (pos 7) (0 ∷ (5 ∷ [])) 2; expected = pos 0 ∷ (pos 7 ∷ (pos 0 ∷ [])) }
    -- over weights 0 and 0 the operator takes 7
    ∷ (record { given = shared_out (pos 7) (0 ∷ (0 ∷ [])) 2; expected = pos 0 ∷ (pos 0 ∷ (pos 7 ∷ [])) }
    -- a pool of 100 over 1, 1, 1 with place 2 exempt: 50, 50 and 0
    ∷ (record { given = shared_out (pos 100) ones_but_one 3; expected = pos 50 ∷ (pos 50 ∷ (pos 0 ∷ (pos 0 ∷ []))) }
    ∷ []))))))))

-- Each example gives what it should.
abbrev pub ExamplesHold : Type 0
ExamplesHold = AllByRecursion (λ example. example.given ≡ example.expected) examples
