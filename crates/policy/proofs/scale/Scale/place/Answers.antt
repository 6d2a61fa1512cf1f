use Rattle.policy.specs.Scales.{scale_power}
use Rattle.policy.proofs.scale.Scale.place.Goals as goal

pub returns : goal.returns
returns c = let p = scale_power c.args.self.value c.args.self.known in record { power = p.0; small = p.1 }
