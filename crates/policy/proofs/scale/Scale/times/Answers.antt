use Rattle.std.proofs.Common.{◌≡◌, ◌∙◌, w32, SFits}
use Rattle.std.proofs.Math.Facts.{sfits_widen}
use Rattle.std.proofs.lemmas.Int.{to_z-of_z}
use Rattle.policy.specs.Bytes.{moved_up}
use Rattle.policy.specs.Scales.{scale_small}
use Rattle.policy.specs.Shifts.{moved_times}
use Rattle.policy.proofs.scale.Scale.times.Goals as goal

pub returns : goal.returns
returns c =
    let byte = c.ranges.byte in
    let wide : SFits w32 c.args.byte = sfits_widen tt byte in
    let result : SFits w32 c.shift_up.result = record { sfits = c.shift_up.type_inv } in
    let e : c.shift_up.result ≡ moved_up c.args.byte c.place.result = simp to_z-of_z at c.shift_up.ensures in
    to_z-of_z w32 c.shift_up.result result
    ∙ e
    ∙ moved_times c.args.self.value c.place.result c.args.byte c.place.ensures.power (scale_small c.args.self.value c.args.self.known) byte
