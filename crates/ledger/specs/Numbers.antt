-- The numbers of a day.
use Rattle.std.specs.Prelude.{ℕ, ◌+◌, ◌-◌, ◌^◌, bit_or}
use Rattle.std.specs.Int.{bit_at}

-- How many owners share it, how many entries its ledger has, how many of them, the first ones, are used, and the mask of its settled
-- hours.
pub record Numbers : Type 0 where
  pub owners : ℕ
  pub size : ℕ
  pub used : ℕ
  pub settled : ℕ

-- One place for each owner, and the operator's.
abbrev pub places : Numbers → ℕ
places n = n.owners + 1

-- Hour h is bit h - 1 of the mask: 1 where it is settled, else 0.
abbrev pub settled_at : ℕ → ℕ → ℕ
settled_at mask hour = bit_at mask (hour - 1)

-- The mask with an hour settled.
abbrev pub marked : ℕ → ℕ → ℕ
marked mask hour = bit_or mask (2 ^ (hour - 1))
