-- A record that was opened: its kind, its 512-byte part of the file, and the number of its block.
use Rattle.std.specs.Prelude.{ℕ, cond, ◌&&◌, List, length, ℤ, Some, None, Ok, Err, Option, Result, ◌==◌, nat_lt}
use Rattle.blocks.specs.declared.fault.Rule.{Rule}
use Rattle.blocks.specs.declared.fault.Rule.TheVariants as rules
use Rattle.blocks.specs.declared.fault.BlockFault.{BlockFault}
use Rattle.blocks.specs.declared.kind.Kind.{Kind}
use Rattle.blocks.specs.declared.kind.Kind.TheVariants as kinds
use Rattle.blocks.specs.declared.record.Record.{Record}
use Rattle.blocks.specs.declared.record.Record.TheVariants.{Header, Resource, Virtual}
use Rattle.blocks.specs.declared.whole.Body.{Body}
use Rattle.blocks.specs.Kinds.{kind_of}
use Rattle.blocks.specs.Words.{byte_at, word_at}

pub record Opened : Type 0 where
  pub kind : Kind
  pub part : List ℕ
  pub block : ℕ

abbrev pub opened : Record → Opened
opened (Header part block) = record { kind = kinds.Header; part = part.now; block = block }
opened (Resource part block) = record { kind = kinds.Resource; part = part.now; block = block }
opened (Virtual part block) = record { kind = kinds.Virtual; part = part.now; block = block }

-- The same of the body of a whole block.
abbrev pub body_opened : Body → Opened
body_opened body = record { kind = body.kind; part = body.block.part.now; block = body.block.number }

abbrev pub fault_at : Rule → ℕ → ℕ → BlockFault
fault_at rule block word = record { rule = rule; block = block; word = word }

-- The record of a block by its first byte, or a fault where that names no kind.
abbrev pub by_kind : Option Kind → List ℕ → ℕ → Result Opened BlockFault
by_kind (Some kind) part block = Ok (record { kind = kind; part = part; block = block })
by_kind None part block = Err (fault_at rules.Kind block 0)

abbrev pub record_of : List ℕ → ℕ → Result Opened BlockFault
record_of part block = by_kind (kind_of (byte_at part 0)) part block

-- A word of a record, where its part is a whole block.
abbrev pub word_of : Opened → ℕ → Option ℤ
word_of rec i = cond (nat_lt i 128 && length rec.part == 512) (Some (word_at rec.part i)) None
