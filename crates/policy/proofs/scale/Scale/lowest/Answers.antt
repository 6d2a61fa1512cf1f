use Rattle.std.proofs.Common.{◌≡◌, ◌∙◌}
use Rattle.std.proofs.lemmas.Int.{to_z-of_z}
use Rattle.policy.specs.Bytes.{exact_byte}
use Rattle.policy.proofs.Exact.{exact_lowest}
use Rattle.policy.specs.Scales.{scale_pos}
use Rattle.policy.proofs.scale.Scale.lowest.Goals as goal

pub returns : goal.returns
returns c =
    let fits = c.ranges.displ in
    let e : c.exact.result ≡ exact_byte c.args.self.value c.args.displ = simp to_z-of_z at c.exact.ensures in
    e ∙ exact_lowest c.args.self.value c.args.displ (scale_pos c.args.self.value c.args.self.known)
