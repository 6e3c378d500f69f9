-- What holds of each of the eight lines holds of every line.
use Rattle.hourfile.specs.declared.lines.Line.{Line}
use Rattle.hourfile.specs.declared.lines.Line.TheVariants.{DayAheadEnergy, Balancing, Virtual, Reserve, DayAheadMakeWhole, RealTimeMakeWhole, Uplift, Residual}

pub by_line : (P : Line → Type 0)
    → P DayAheadEnergy → P Balancing → P Virtual → P Reserve → P DayAheadMakeWhole → P RealTimeMakeWhole → P Uplift → P Residual
    → (line : Line) → P line
by_line P a b c d e f g h DayAheadEnergy = a
by_line P a b c d e f g h Balancing = b
by_line P a b c d e f g h Virtual = c
by_line P a b c d e f g h Reserve = d
by_line P a b c d e f g h DayAheadMakeWhole = e
by_line P a b c d e f g h RealTimeMakeWhole = f
by_line P a b c d e f g h Uplift = g
by_line P a b c d e f g h Residual = h
