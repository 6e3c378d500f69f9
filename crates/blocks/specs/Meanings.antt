-- What a fault says in words.
use Rattle.std.specs.Prelude.{ℕ, List, ◌++◌, codes}
use Rattle.std.specs.Fmt.{decimal}
use Rattle.blocks.specs.declared.fault.Rule.{Rule}
use Rattle.blocks.specs.declared.fault.Rule.TheVariants.{Check, Kind, Hour, Place, Number, Range, Rows, Schedule, Unused}
use Rattle.blocks.specs.declared.fault.BlockFault.{BlockFault}
use Rattle.blocks.specs.declared.fault.FileFault.{FileFault}
use Rattle.blocks.specs.declared.fault.FileFault.TheVariants.{Length, Block}

-- What is wrong where a rule is broken.
abbrev pub meaning : Rule → List ℕ
meaning Check = codes "the check is wrong"
meaning Kind = codes "byte 0 or 1 is not allowed here"
meaning Hour = codes "the hour is wrong"
meaning Place = codes "the number of owners or the place is wrong"
meaning Number = codes "the number of blocks or the position number is wrong"
meaning Range = codes "a figure is out of its range"
meaning Rows = codes "a row count or a row is wrong"
meaning Schedule = codes "a schedule passes the last end of its ladder"
meaning Unused = codes "an unused word is not 0"

abbrev pub block_text : BlockFault → List ℕ
block_text f = codes "block " ++ decimal f.block ++ codes ", word " ++ decimal f.word ++ codes ": " ++ meaning f.rule

abbrev pub file_text : FileFault → List ℕ
file_text Length = codes "a wrong length"
file_text (Block f) = block_text f
