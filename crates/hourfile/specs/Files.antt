-- Which fault an hour file has.
use Rattle.std.specs.Prelude.{◌≡◌, ℕ, zero, suc, ◌+◌, ◌-◌, ◌*◌, ◌/◌, ◌%◌, Bool, ◌&&◌, List, length, Err, ◌==◌, nat_le, unsigned_abs}
use Rattle.std.specs.List.{between}
use Rattle.blocks.specs.declared.fault.BlockFault.{BlockFault}
use Rattle.blocks.specs.declared.fault.FileFault.{FileFault}
use Rattle.blocks.specs.declared.fault.FileFault.TheVariants.{Length, Block}
use Rattle.blocks.specs.declared.limits.Limits.{Limits}
use Rattle.blocks.specs.Firsts.{DecidesFirst, Verdict, first_of, lifted, unless, up_to}
use Rattle.blocks.specs.Settings.{first, later}
use Rattle.blocks.specs.Verdicts.{block_verdict}
use Rattle.blocks.specs.Words.{byte_at, word_at}

-- A file is 1 to 64 whole blocks.
abbrev pub blocks_in : List ℕ → ℕ
blocks_in file = length file / 512

abbrev pub right_length : List ℕ → Bool
right_length file = length file % 512 == 0 && nat_le 1 (blocks_in file) && nat_le (blocks_in file) 64

-- The 512 bytes of a block.
abbrev pub part_of : List ℕ → ℕ → List ℕ
part_of file block = between (block * 512) (block * 512 + 512) file

-- The least position number of a later block: above that of the block before; block 1 has none before it.
abbrev pub number_from : List ℕ → ℕ → ℕ
number_from file zero = 1
number_from file (suc block) = unsigned_abs (word_at (part_of file (suc block)) 1) + 1

-- The limits of a block of a file: block 0 is the header, and the others are in its hour.
abbrev pub limits_at : List ℕ → ℕ → ℕ → Limits
limits_at file owners zero = first owners (blocks_in file - 1)
limits_at file owners (suc block) = later (byte_at file 2) owners (number_from file block)

abbrev pub verdict_at : List ℕ → ℕ → ℕ → Verdict BlockFault
verdict_at file owners block = block_verdict (limits_at file owners block) block (part_of file block)

-- The verdict of a file for a day of so many owners: the first faulty block decides.
abbrev pub file_verdict : List ℕ → ℕ → Verdict FileFault
file_verdict file owners = first_of (unless (right_length file) Length) (up_to (λ block. lifted Block (verdict_at file owners block)) (blocks_in file))

-- The law of it: a block's fault is that of the first block that has one.
abbrev pub FirstBlockDecides : List ℕ → ℕ → Verdict FileFault → Type 0
FirstBlockDecides file owners verdict = (fault : BlockFault) → verdict ≡ Err (Block fault) → DecidesFirst (verdict_at file owners) (blocks_in file) fault
