use Rattle.std.proofs.Common.{◌≡◌, ℕ, ◌<◌, List, length, replicate, Some, Ok, refl, sym, ap, ◌∙◌, subst, arith, length-set, rules}
use Rattle.std.proofs.lemmas.Result.{err_from_is_err_and}
use Rattle.blocks.specs.declared.fault.FileFault.TheVariants.{Block}
use Rattle.blocks.specs.Firsts.{lifted, up_to}
use Rattle.blocks.specs.declared.kind.Kind.{Kind}
use Rattle.blocks.proofs.Deciding.{up_to_more}
use Rattle.hourfile.specs.declared.tally.Tally.{Tally}
use Rattle.hourfile.specs.Files.{blocks_in, part_of, verdict_at}
use Rattle.hourfile.specs.Tallies.{TalliedUpto, no_tally}
use Rattle.hourfile.proofs.Deciding.{below_none, file_passes, file_stops}
use Rattle.hourfile.proofs.Passed.{Stands, block_stands, header_hour, header_kind}
use Rattle.hourfile.proofs.Tallying.{can_add, tallied_more, tallied_none}
use Rattle.hourfile.proofs.tallies.tallies.Goals as goal
use Rattle.hourfile.proofs.tallies.tallies.Goals.{In_ok-zone}

none_before : (file : List ℕ) (owners : ℕ) → up_to (λ k. lifted Block (verdict_at file owners k)) 0 ≡ Ok tt
unfolding up_to
none_before file owners = refl

pub returns-in_err-zone-clause-verdict : goal.returns-in_err-zone-clause-verdict
returns-in_err-zone-clause-verdict c =
    let file = c.in_ok-file.file in
    let made = c.in_ok-file.ensures in
    let p = err_from_is_err_and c.from_residual-in_err-zone.result c.from_residual-in_err-zone.ensures.1 in
    rw (p.1, p.2) (file_stops _ _ _ _ made.same made.owned made.verdict 0 _ (none_before file.bytes.now file.owners) c.in_err-zone.ensures.verdict file.some)

-- the header, which passed
header_of : (c : In_ok-zone) → (k : Kind) × Stands c.in_ok-file.file.bytes.now c.in_ok-file.file.owners 0 (record { kind = k; part = part_of c.in_ok-file.file.bytes.now 0; block = 0 })
header_of c = block_stands _ _ 0 c.in_ok-file.file.some (below_none _ (sym c.in_ok-zone.ensures.verdict))

pub loop-block-init : goal.loop-block-init
loop-block-init c =
    let file = c.in_ok-file.file in
    let here = sym c.in_ok-zone.ensures.verdict in
    let header = header_of (goal.at.loop-block-init c).In_ok-zone in
    let is = header.1.kind ∙ ap (λ k. Some k) (header_kind _ _ _ header.1) in
    let none : no_tally ≡ c.default-all.result = search rules in
    record {
      passed = up_to_more (λ k. lifted Block (verdict_at file.bytes.now file.owners k)) 0 (none_before file.bytes.now file.owners) here;
      whole = refl;
      tallied = subst (λ (t : Tally). TalliedUpto file.bytes.now (replicate 32 t) 1) none (tallied_none file.bytes.now is);
    }

pub returns-in_err-place-clause-verdict : goal.returns-in_err-place-clause-verdict
returns-in_err-place-clause-verdict c =
    let made = c.in_ok-file.ensures in
    let p = err_from_is_err_and c.from_residual-in_err-place.result c.from_residual-in_err-place.ensures.1 in
    rw (p.1, p.2) (file_stops _ _ _ _ made.same made.owned made.verdict c.loop-block.block _ c.loop-block.invariant.passed c.in_err-place.ensures.verdict (omega arith))

pub add_assign-requires : goal.add_assign-requires
add_assign-requires c =
    let file = c.in_ok-file.file in
    can_add file.bytes.now file.owners c.loop-block.all c.loop-block.block c.in_ok-place.place c.in_ok-place.tally c.loop-block.invariant.tallied c.in_ok-place.ensures.adds (omega (arith, file.few))

pub loop-block-preserved : goal.loop-block-preserved
loop-block-preserved c =
    let file = c.in_ok-file.file in
    let here = c.in_ok-place.ensures in
    let owners = c.in_ok-file.ensures.owned in
    let room : c.in_ok-place.place < length c.loop-block.all = omega (arith, here.adds.owned) in
    record {
      passed = up_to_more (λ k. lifted Block (verdict_at file.bytes.now file.owners k)) c.loop-block.block c.loop-block.invariant.passed (sym here.verdict);
      whole = length-set _ _ _ ∙ c.loop-block.invariant.whole;
      tallied = tallied_more file.bytes.now file.owners c.loop-block.all c.loop-block.block c.in_ok-place.place c.in_ok-place.tally c.loop-block.invariant.tallied here.adds c.add_assign.new.self c.add_assign.ensures.after room;
    }

pub returns-clause-verdict : goal.returns-clause-verdict
returns-clause-verdict c =
    let file = c.in_ok-file.file in
    let made = c.in_ok-file.ensures in
    let all : c.loop-block.block ≡ blocks_in file.bytes.now = omega arith in
    file_passes _ _ _ _ made.same made.owned made.verdict (rw all at c.loop-block.invariant.passed)

pub returns-clause-tallied : goal.returns-clause-tallied
returns-clause-tallied c =
    let file = c.in_ok-file.file in
    let all : c.loop-block.block ≡ blocks_in file.bytes.now = omega arith in
    rw (← c.in_ok-file.ensures.same, ← all) c.loop-block.invariant.tallied

pub returns-clause-from : goal.returns-clause-from
returns-clause-from c = rw (← c.in_ok-file.ensures.same) (header_hour _ _ _ (header_of (goal.at.returns-clause-from c).In_ok-zone).1).0

pub returns-clause-to : goal.returns-clause-to
returns-clause-to c = rw (← c.in_ok-file.ensures.same) (header_hour _ _ _ (header_of (goal.at.returns-clause-to c).In_ok-zone).1).1
