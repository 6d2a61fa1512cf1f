use Rattle.std.proofs.Common.{get_or, sym, ap, ◌∙◌}
use Rattle.std.proofs.lemmas.List.Sums.{fold_more}
use Rattle.machine.specs.declared.place.Place.{Place}
use Rattle.machine.specs.declared.place.Place.TheVariants.{Op0}
use Rattle.machine.specs.Places.{places}
use Rattle.gather.specs.declared.gathering.Gathering.{Gathering}
use Rattle.gather.specs.Gathered.{start, place_step}
use Rattle.gather.proofs.OneByte.{one_byte_exactly}
use Rattle.gather.proofs.gathering.gather.Goals as goal

pub returns-clause-one_byte : goal.returns-clause-one_byte
returns-clause-one_byte g c = one_byte_exactly

pub loop-place-preserved : goal.loop-place-preserved
loop-place-preserved g c =
    let add = λ (s : Gathering) (at : Place). place_step (g.P.Policy.spread c.args.policy.now) c.args.mode c.args.record.now c.args.instruction.now at s in
    let more = fold_more add (start c.args.mode c.args.record.now) places c.loop-place.place-index Op0 c.loop-place-test.true in
    c.add.ensures ∙ ap (λ (s : Gathering). add s (get_or places c.loop-place.place-index Op0)) c.loop-place.invariant ∙ sym more
