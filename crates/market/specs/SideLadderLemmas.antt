-- The ladder without rows is lawful. This lemma stands here since the law of the sides of the code names it.
use Rattle.std.specs.Prelude.{refl}
use Rattle.std.proofs.Common.{arith}
use Rattle.ladders.specs.Ladder.{Lawful}
use Rattle.market.specs.Sides.{no_rows}

pub none_lawful : Lawful no_rows
none_lawful = record {
  rising = λ row h. absurd (omega arith);
  short = λ row h. absurd (omega arith);
  falling = λ price row h. absurd (omega arith);
  bounded = λ price row. omega arith;
  clamped = λ price row. refl;
  no_end = λ row h. refl;
  no_gain = λ price row h. refl;
}
