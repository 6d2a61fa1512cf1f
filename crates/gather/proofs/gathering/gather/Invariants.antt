use Rattle.std.proofs.Common.{◌≡◌, take}
use Rattle.std.specs.List.{fold}
use Rattle.machine.specs.Places.{places}
use Rattle.gather.specs.Gathered.{start, place_step}
use Rattle.gather.proofs.gathering.gather.Given as goal

abbrev pub invariant-loop-place : goal.invariant-loop-place
invariant-loop-place g l =
    l.gathering ≡ fold (λ s at. place_step (g.P.Policy.spread l.fn.policy) l.fn.mode l.fn.record l.fn.instruction at s) (start l.fn.mode l.fn.record) (take l.place-index places)
