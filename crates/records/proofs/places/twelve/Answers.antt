use Rattle.std.proofs.Common.{rules}
use Rattle.records.proofs.Finding.{first_and_later}
use Rattle.records.proofs.places.twelve.Goals as goal

pub returns : goal.returns
returns g c =
    first_and_later (λ t r. goal.F-post g c.args.read t r) c.in_ok-all.field-0 c.fill.new.places 11 c.in_ok-all.ensures
    (record { long = c.in_ok-fill.ensures.long; each = λ t d h. let said = c.in_ok-fill.ensures.each t d h in search rules })
