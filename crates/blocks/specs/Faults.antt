-- The number, layer, block and word of each fault.
use Rattle.std.specs.Prelude.{ℕ}
use Rattle.blocks.specs.declared.fault.Rule.{Rule}
use Rattle.blocks.specs.declared.fault.Rule.TheVariants.{Check, Kind, Hour, Place, Number, Range, Rows, Schedule, Unused}
use Rattle.blocks.specs.declared.fault.Layer.TheVariants as layers
use Rattle.blocks.specs.declared.fault.BlockFault.{BlockFault}
use Rattle.blocks.specs.declared.fault.FileFault.{FileFault}
use Rattle.blocks.specs.declared.fault.FileFault.TheVariants.{Length, Block}
use Rattle.blocks.specs.declared.fault.Refusal.{Refusal}

abbrev pub rule_number : Rule → ℕ
rule_number Check = 6
rule_number Kind = 7
rule_number Hour = 8
rule_number Place = 9
rule_number Number = 10
rule_number Range = 11
rule_number Rows = 12
rule_number Schedule = 13
rule_number Unused = 14

abbrev pub block_told : BlockFault → Refusal
block_told f = record { number = rule_number f.rule; layer = layers.Block; block = f.block; word = f.word }

abbrev pub file_told : FileFault → Refusal
file_told Length = record { number = 5; layer = layers.File; block = 0; word = 0 }
file_told (Block f) = block_told f
