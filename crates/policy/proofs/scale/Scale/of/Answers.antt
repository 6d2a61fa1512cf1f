use Rattle.std.proofs.Common.{ap, ◌∙◌}
use Rattle.record.specs.Rules.{scale_known}
use Rattle.policy.specs.Scales.{scale_sound}
use Rattle.policy.proofs.scale.Scale.of.Goals as goal

pub invariant_of-result : goal.invariant_of-result
invariant_of-result c = record { known = ap scale_known c.number.ensures ∙ scale_sound c.args.record.now c.args.broadcast }
