use Rattle.std.proofs.Common.{refl, arith}
use borrow.Author.Differences.{ints}
use Rattle.hourfile.specs.declared.lines.Line.TheVariants.{DayAheadEnergy, Balancing, Virtual, Reserve, DayAheadMakeWhole, RealTimeMakeWhole}
use Rattle.hourfile.proofs.ByLine.{by_line}
use Rattle.hourfile.proofs.tally.TallyAddAssign.add_assign.Goals as goal

pub overflow_add-self : goal.overflow_add-self
overflow_add-self c = omega (arith, ints, c.requires.grains DayAheadEnergy)

pub overflow_add-self-2 : goal.overflow_add-self-2
overflow_add-self-2 c = omega (arith, ints, c.requires.grains Balancing)

pub overflow_add-self-3 : goal.overflow_add-self-3
overflow_add-self-3 c = omega (arith, ints, c.requires.grains Virtual)

pub overflow_add-self-4 : goal.overflow_add-self-4
overflow_add-self-4 c = omega (arith, ints, c.requires.grains Reserve)

pub overflow_add-self-5 : goal.overflow_add-self-5
overflow_add-self-5 c = omega (arith, ints, c.requires.grains DayAheadMakeWhole)

pub overflow_add-self-6 : goal.overflow_add-self-6
overflow_add-self-6 c = omega (arith, ints, c.requires.grains RealTimeMakeWhole)

pub returns : goal.returns
returns c =
    let fits = c.requires.grains in
    record {
      after = record {
        grains = by_line _
            (omega (arith, ints, fits DayAheadEnergy))
            (omega (arith, ints, fits Balancing))
            (omega (arith, ints, fits Virtual))
            (omega (arith, ints, fits Reserve))
            (omega (arith, ints, fits DayAheadMakeWhole))
            (omega (arith, ints, fits RealTimeMakeWhole))
            refl
            refl;
        withdrawn = refl;
      };
    }
