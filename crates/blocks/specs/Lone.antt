-- A lone block: a record as a block, and a block as a record. A record is bytes 0 to 3 and words 1 to 126.
use Rattle.std.specs.Prelude.{◌≡◌, ℕ, zero, suc, List, [], ◌∷◌, ◌++◌, length, take, drop, ℤ, pos, Ok, Err, Result, ◌==◌, slice_index_or}
use Rattle.std.specs.List.{flat_map}
use Rattle.blocks.specs.declared.block.BlockRecord.{BlockRecord}
use Rattle.blocks.specs.declared.fault.BlockFault.{BlockFault}
use Rattle.blocks.specs.declared.fault.FileFault.{FileFault}
use Rattle.blocks.specs.declared.fault.FileFault.TheVariants.{Length, Block}
use Rattle.blocks.specs.declared.limits.Limits.{Limits}
use Rattle.blocks.specs.Firsts.{DecidesFirst, Verdict, first_of, lifted, unless}
use Rattle.blocks.specs.Settings.{alone}
use Rattle.blocks.specs.Verdicts.{block_verdict, body_verdict, rule_verdicts}
use Rattle.blocks.specs.Words.{check_of, word_at, word_bytes}

-- The bytes of words, four each, and the first words that bytes hold.
abbrev pub bytes_of : List ℤ → List ℕ
bytes_of words = flat_map word_bytes words

unfoldable pub words_of : ℕ → List ℕ → List ℤ
words_of zero bytes = []
words_of (suc n) bytes = word_at bytes 0 ∷ words_of n (drop 4 bytes)

-- A record as a block: its bytes, its words, and the check of both.
abbrev pub body_of : BlockRecord → List ℕ
body_of r = r.head ++ bytes_of r.words

abbrev pub encoded : BlockRecord → List ℕ
encoded r = body_of r ++ word_bytes (pos (check_of (body_of r)))

-- The record of a block.
abbrev pub decoded : List ℕ → BlockRecord
decoded part = record { head = take 4 part; words = words_of 126 (drop 4 part) }

-- A value where there is no fault.
abbrev pub answered : {X E : Type 0} → Verdict E → X → Result X E
answered (Ok u) x = Ok x
answered (Err e) x = Err e

-- One thing where there is no fault, another where there is one.
abbrev pub if_sound : {X E : Type 0} → Verdict E → X → X → X
if_sound (Ok u) sound faulty = sound
if_sound (Err e) sound faulty = faulty

-- A block where it stands: its length, its check and its rules decide.
abbrev pub part_verdict : Limits → ℕ → List ℕ → Verdict FileFault
part_verdict limits block part = first_of (unless (length part == 512) Length) (lifted Block (block_verdict limits block part))

-- The law of it: a block's fault is that of the first rule that it breaks.
abbrev pub LowestOf : Limits → ℕ → List ℕ → Verdict FileFault → Type 0
LowestOf limits block part verdict =
    (fault : BlockFault) → verdict ≡ Err (Block fault) → DecidesFirst (λ n. slice_index_or (rule_verdicts limits block part) n (Ok tt)) 9 fault

-- What an answer says of faults.
abbrev pub verdict_in : {X E : Type 0} → Result X E → Verdict E
verdict_in (Ok x) = Ok tt
verdict_in (Err e) = Err e

-- Reading a lone block.
abbrev pub lone_verdict : List ℕ → Verdict FileFault
lone_verdict part = part_verdict alone 0 part

abbrev pub read_of : List ℕ → Result BlockRecord FileFault
read_of part = answered (lone_verdict part) (decoded part)

-- Writing a record: the length of the buffer and the rules decide. Accepted, the buffer is the block; refused, it is as it was.
abbrev pub write_verdict : BlockRecord → List ℕ → Verdict FileFault
write_verdict r buffer = first_of (unless (length buffer == 512) Length) (lifted Block (body_verdict alone 0 (encoded r)))

abbrev pub write_of : BlockRecord → List ℕ → Result ℕ FileFault
write_of r buffer = answered (write_verdict r buffer) 512

abbrev pub written : BlockRecord → List ℕ → List ℕ
written r buffer = if_sound (write_verdict r buffer) (encoded r) buffer
