use Rattle.std.proofs.Common.{◌≡◌, ◌≤◌, ◌++◌, take, ap, ◌∙◌, arith, rules}
use Rattle.encoder.specs.Fields.{low_bytes}
use Rattle.encoder.specs.Lines.{used}
use Rattle.encoder.specs.Targets.{modulus}
use Rattle.encoder.proofs.Bytes.{take_low, half_below}
use Rattle.encoder.proofs.line.Line.push_distance.Goals as goal

pub reaches-requires : goal.reaches-requires
reaches-requires c = half_below c.args.size (modulus c.args.target) (search rules) (search rules) (search rules)

pub returns-clause-bytes : goal.returns-clause-bytes
returns-clause-bytes c =
    let few : c.args.size ≤ 8 = omega arith in
    let low : take c.args.size c.to_le_bytes.result ≡ low_bytes c.args.size c.distance-distance.result =
    ap (take c.args.size) c.to_le_bytes.ensures ∙ take_low 0 8 c.args.size c.distance-distance.result few in
    c.push_all.ensures.bytes ∙ ap (λ x. used c.args.self.now ++ x) (low ∙ ap (low_bytes c.args.size) c.distance-distance.ensures)
