use Rattle.std.proofs.Common.{◌≡◌, ◌∙◌}
use Rattle.std.proofs.lemmas.Int.{to_z-of_z}
use Rattle.policy.specs.Bytes.{byte_of}
use Rattle.policy.proofs.Exact.{plain_lowest}
use Rattle.policy.proofs.plain.same_byte.Goals as goal

pub returns : goal.returns
returns c =
    let fits = c.ranges.displ in
    let e : c.signed_byte.result ≡ byte_of c.args.displ = simp to_z-of_z at c.signed_byte.ensures in
    e ∙ plain_lowest c.args.displ
