-- Which fault a block has.
use Rattle.std.specs.Prelude.{◌≡◌, ℕ, zero, suc, ◌+◌, ◌*◌, Bool, false, cond, not, ◌&&◌, ◌||◌, List, [], ◌∷◌, map, length, ℤ, pos, Some, None, Ok, Err, Option, Result, ◌==◌, int_le, int_lt, nat_le, nat_lt, slice_index_or, unsigned_abs}
use Rattle.std.specs.List.{range_with_len}
use Rattle.ladders.specs.Rows.{good}
use Rattle.ladders.specs.declared.rows.LadderKind.{LadderKind}
use Rattle.ladders.specs.declared.rows.LadderKind.TheVariants as ladders
use Rattle.ladders.specs.declared.rows.Row.{Row}
use Rattle.market.specs.Figures.{lowest, highest}
use Rattle.market.specs.declared.range.Figure.{Figure}
use Rattle.blocks.specs.declared.fault.Rule.TheVariants as rules
use Rattle.blocks.specs.declared.fault.BlockFault.{BlockFault}
use Rattle.blocks.specs.declared.kind.Kind.{Kind}
use Rattle.blocks.specs.declared.kind.Kind.TheVariants.{Header, Resource, Virtual}
use Rattle.blocks.specs.declared.limits.Limits.{Limits}
use Rattle.blocks.specs.Firsts.{DecidesFirst, Verdict, first_in, first_of, if_found, unless}
use Rattle.blocks.specs.Kinds.{figure_at, is_unused, schedule_at, side_fits}
use Rattle.blocks.specs.Rules.{past}
use Rattle.blocks.specs.Records.{Opened, fault_at, record_of}
use Rattle.blocks.specs.Words.{byte_at, check_of, word_at}

-- A number lies from one bound to another.
abbrev pub between : ℕ → ℕ → ℕ → Bool
between from to n = nat_le from n && nat_le n to

abbrev pub betweenZ : ℕ → ℕ → ℤ → Bool
betweenZ from to z = int_le (pos from) z && int_le z (pos to)

-- The lowest word, of words 1 to 126, that a test picks.
abbrev pub first_word : (ℕ → Bool) → Option ℕ
first_word picks = first_in picks 1 127

-- A verdict that only resources have.
abbrev pub for_resource : Kind → Verdict BlockFault → Verdict BlockFault
for_resource Header verdict = Ok tt
for_resource Resource verdict = verdict
for_resource Virtual verdict = Ok tt

-- ---- the rules of a block, in their order
-- The check is right.
abbrev pub check_verdict : ℕ → List ℕ → Verdict BlockFault
check_verdict block part = unless (int_le (word_at part 127) (pos (check_of part)) && int_le (pos (check_of part)) (word_at part 127)) (fault_at rules.Check block 127)

-- A block of this kind may stand here, and its second byte is one that the kind allows.
abbrev pub may_stand : Limits → Kind → Bool
may_stand limits Header = limits.headers
may_stand limits Resource = limits.positions
may_stand limits Virtual = limits.positions

abbrev pub kind_verdict : Limits → Opened → Verdict BlockFault
kind_verdict limits r = unless (may_stand limits r.kind && side_fits r.kind (byte_at r.part 1)) (fault_at rules.Kind r.block 0)

-- The hour.
abbrev pub hour_verdict : Limits → Opened → Verdict BlockFault
hour_verdict limits r = unless (between limits.hour_from limits.hour_to (byte_at r.part 2)) (fault_at rules.Hour r.block 0)

-- The number of owners in a header, the place in another block.
abbrev pub place_fits : Limits → Kind → ℕ → Bool
place_fits limits Header owners = between limits.owners_from limits.owners_to owners
place_fits limits Resource place = nat_lt place limits.places
place_fits limits Virtual place = nat_lt place limits.places

abbrev pub place_verdict : Limits → Opened → Verdict BlockFault
place_verdict limits r = unless (place_fits limits r.kind (byte_at r.part 3)) (fault_at rules.Place r.block 0)

-- The number of blocks that follow in a header, the position number in another block.
abbrev pub number_fits : Limits → Kind → ℤ → Bool
number_fits limits Header count = betweenZ limits.count_from limits.count_to count
number_fits limits Resource number = betweenZ limits.number_from 65535 number
number_fits limits Virtual number = betweenZ limits.number_from 65535 number

abbrev pub number_verdict : Limits → Opened → Verdict BlockFault
number_verdict limits r = unless (number_fits limits r.kind (word_at r.part 1)) (fault_at rules.Number r.block 1)

-- Each figure is in its range.
abbrev pub out_of_range : Option Figure → ℤ → Bool
out_of_range None value = false
out_of_range (Some figure) value = int_lt value (lowest figure) || int_lt (highest figure) value

abbrev pub range_verdict : Opened → Verdict BlockFault
range_verdict r = if_found (first_word (λ i. out_of_range (figure_at r.kind i) (word_at r.part i))) (fault_at rules.Range r.block)

-- The rows of a resource. Energy rows stand from word 68 on, reserve rows from word 108 on; a row is a price and an end.
abbrev pub row_of : List ℕ → ℕ → ℕ → Row
row_of part from k = record { price = word_at part (from + 2 * k); end = word_at part (from + 2 * k + 1) }

abbrev pub rows_from : List ℕ → ℕ → ℕ → List Row
rows_from part from count = map (row_of part from) (range_with_len 0 count)

-- An offer for G, a bid for L; a load without bids has no energy rows.
abbrev pub energy_kind : ℕ → LadderKind
energy_kind side = cond (side == 76) ladders.Bid ladders.Offer

abbrev pub most_energy_rows : ℕ → ℕ
most_energy_rows side = cond (side == 78) 0 20

abbrev pub energy_rows : List ℕ → ℕ
energy_rows part = unsigned_abs (word_at part 6)

abbrev pub reserve_rows : List ℕ → ℕ
reserve_rows part = unsigned_abs (word_at part 7)

-- The first row that is bad where it stands.
abbrev pub first_bad : LadderKind → List Row → Option ℕ
first_bad kind rows = first_in (λ k. not (good kind rows k)) 0 (length rows)

abbrev pub ladder_verdict : LadderKind → List ℕ → ℕ → ℕ → ℕ → Verdict BlockFault
ladder_verdict kind part block from count = if_found (first_bad kind (rows_from part from count)) (λ k. fault_at rules.Rows block (from + 2 * k))

abbrev pub resource_rows_verdict : List ℕ → ℕ → Verdict BlockFault
resource_rows_verdict part block =
    first_of (unless (betweenZ 0 (most_energy_rows (byte_at part 1)) (word_at part 6)) (fault_at rules.Rows block 6))
    (first_of (unless (betweenZ 0 5 (word_at part 7)) (fault_at rules.Rows block 7))
    (first_of (ladder_verdict (energy_kind (byte_at part 1)) part block 68 (energy_rows part))
    (ladder_verdict ladders.Reserve part block 108 (reserve_rows part))))

abbrev pub rows_verdict : Opened → Verdict BlockFault
rows_verdict r = for_resource r.kind (resource_rows_verdict r.part r.block)

-- No day-ahead quantity or schedule of a resource passes the last end of its ladder, which is 0 without rows.
abbrev pub last_end : List ℕ → ℕ → ℕ → ℤ
last_end part from zero = pos 0
last_end part from (suc k) = (row_of part from k).end

abbrev pub energy_end : List ℕ → ℤ
energy_end part = last_end part 68 (energy_rows part)

abbrev pub reserve_end : List ℕ → ℤ
reserve_end part = last_end part 108 (reserve_rows part)

abbrev pub resource_schedule_verdict : List ℕ → ℕ → Verdict BlockFault
resource_schedule_verdict part block =
    if_found (first_word (λ i. past (energy_end part) (reserve_end part) (schedule_at i) (word_at part i))) (fault_at rules.Schedule block)

abbrev pub schedule_verdict : Opened → Verdict BlockFault
schedule_verdict r = for_resource r.kind (resource_schedule_verdict r.part r.block)

-- Each unused word is 0.
abbrev pub not_zero : ℤ → Bool
not_zero z = int_lt z (pos 0) || int_lt (pos 0) z

abbrev pub unused_verdict : Opened → Verdict BlockFault
unused_verdict r =
    if_found (first_word (λ i. is_unused r.kind (energy_rows r.part) (reserve_rows r.part) i && not_zero (word_at r.part i)))
    (fault_at rules.Unused r.block)

-- ---- the verdict of a block
abbrev pub record_verdict : Limits → Opened → Verdict BlockFault
record_verdict limits r =
    first_of (kind_verdict limits r)
    (first_of (hour_verdict limits r)
    (first_of (place_verdict limits r)
    (first_of (number_verdict limits r)
    (first_of (range_verdict r)
    (first_of (rows_verdict r)
    (first_of (schedule_verdict r)
    (unused_verdict r)))))))

abbrev pub on_opened : Result Opened BlockFault → (Opened → Verdict BlockFault) → Verdict BlockFault
on_opened (Ok r) verdict = verdict r
on_opened (Err fault) verdict = Err fault

-- All rules but the check.
abbrev pub body_verdict : Limits → ℕ → List ℕ → Verdict BlockFault
body_verdict limits block part = on_opened (record_of part block) (record_verdict limits)

abbrev pub block_verdict : Limits → ℕ → List ℕ → Verdict BlockFault
block_verdict limits block part = first_of (check_verdict block part) (body_verdict limits block part)

-- ---- the law of the order
-- What each rule says of a block by itself, in the order of their numbers, 6 to 14.
abbrev pub rule_verdicts : Limits → ℕ → List ℕ → List (Verdict BlockFault)
rule_verdicts limits block part =
    check_verdict block part
    ∷ (on_opened (record_of part block) (kind_verdict limits)
    ∷ (on_opened (record_of part block) (hour_verdict limits)
    ∷ (on_opened (record_of part block) (place_verdict limits)
    ∷ (on_opened (record_of part block) (number_verdict limits)
    ∷ (on_opened (record_of part block) range_verdict
    ∷ (on_opened (record_of part block) rows_verdict
    ∷ (on_opened (record_of part block) schedule_verdict
    ∷ (on_opened (record_of part block) unused_verdict
    ∷ []))))))))

-- A block's fault is that of the first rule that it breaks.
abbrev pub LowestDecides : Limits → ℕ → List ℕ → Verdict BlockFault → Type 0
LowestDecides limits block part verdict =
    (fault : BlockFault) → verdict ≡ Err fault → DecidesFirst (λ n. slice_index_or (rule_verdicts limits block part) n (Ok tt)) 9 fault
