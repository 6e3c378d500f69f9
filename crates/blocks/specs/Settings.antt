-- What a block may say where it stands.
use Rattle.std.specs.Prelude.{ℕ, true, false}
use Rattle.blocks.specs.declared.limits.Limits.{Limits}

-- Alone: any kind, hours 1 to 24, 1 to 32 owners, places 0 to 31, 0 to 63 following blocks, position numbers from 1.
abbrev pub alone : Limits
alone = record {
  headers = true;
  positions = true;
  hour_from = 1;
  hour_to = 24;
  owners_from = 1;
  owners_to = 32;
  places = 32;
  count_from = 0;
  count_to = 63;
  number_from = 1;
}

-- First in a file: a header, for the day's owners and the blocks that follow.
abbrev pub first : ℕ → ℕ → Limits
first owners following = record {
  headers = true;
  positions = false;
  hour_from = 1;
  hour_to = 24;
  owners_from = owners;
  owners_to = owners;
  places = owners;
  count_from = following;
  count_to = following;
  number_from = 1;
}

-- Later in a file: a resource or a virtual position, in the header's hour, at the place of an owner, with a number from some number on.
abbrev pub later : ℕ → ℕ → ℕ → Limits
later hour owners number_from = record {
  headers = false;
  positions = true;
  hour_from = hour;
  hour_to = hour;
  owners_from = owners;
  owners_to = owners;
  places = owners;
  count_from = 0;
  count_to = 0;
  number_from = number_from;
}
