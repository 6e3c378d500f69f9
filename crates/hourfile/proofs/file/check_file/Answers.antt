use Rattle.std.proofs.Common.{Err, arith, refl, sym, ap, ◌∙◌}
use Rattle.std.proofs.lemmas.Result.{err_from_is_err_and}
use Rattle.blocks.specs.Firsts.{up_to}
use Rattle.blocks.proofs.Deciding.{up_to_more}
use Rattle.hourfile.proofs.Deciding.{file_stops, first_block_decides}
use Rattle.hourfile.proofs.file.check_file.Goals as goal

pub loop-block-init : goal.loop-block-init
unfolding up_to
loop-block-init c = refl

pub loop-block-preserved : goal.loop-block-preserved
loop-block-preserved c = up_to_more _ _ c.loop-block.invariant (sym c.in_ok-open.ensures.verdict)

pub returns-in_err-open : goal.returns-in_err-open
returns-in_err-open c =
    let made = c.in_ok-file.ensures in
    let p = err_from_is_err_and c.from_residual-in_err-open.result c.from_residual-in_err-open.ensures.1 in
    let stops = file_stops c.args.file.now _ c.args.owners _ made.same made.owned made.verdict c.loop-block.block _ c.loop-block.invariant c.in_err-open.ensures.verdict (omega arith) in
    let verdict = p.1 ∙ ap Err p.2 ∙ stops in
    record { verdict = verdict; first = first_block_decides _ _ _ verdict }
