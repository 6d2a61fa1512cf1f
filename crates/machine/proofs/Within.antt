-- Which numbers name a value.
use Rattle.std.proofs.Common.{◌≡◌, ℕ, ◌&&◌, leb, is_some, refl, ◌∙◌, arith}
use Rattle.std.proofs.lemmas.Bool.Decides.{nat_tests}
use Rattle.machine.specs.CodeSizes.{size_number, sizes, size_named}
use Rattle.machine.specs.OpKinds.{kind_number, kinds, kind_named}
use Rattle.machine.specs.Opmasks.{opmask_number, opmasks, opmask_named}
use Rattle.machine.specs.Scales.{scale_number, scales, scale_named}
use Rattle.machine.specs.Roundings.{rounding_number, roundings, rounding_named}
use Rattle.machine.specs.Segments.{segment_number, segments, segment_named}
use Rattle.machine.specs.Look.{look_run}

pub size_within : (n : ℕ) → is_some (size_named n) ≡ leb n 3
size_within n = look_run size_number sizes 0 n refl ∙ grind (arith, nat_tests)

pub kind_within : (n : ℕ) → is_some (kind_named n) ≡ leb n 24
kind_within n = look_run kind_number kinds 0 n refl ∙ grind (arith, nat_tests)

pub rounding_within : (n : ℕ) → is_some (rounding_named n) ≡ leb n 4
rounding_within n = look_run rounding_number roundings 0 n refl ∙ grind (arith, nat_tests)

pub segment_within : (n : ℕ) → is_some (segment_named n) ≡ (leb 71 n && leb n 76)
segment_within n = look_run segment_number segments 71 n refl ∙ grind (arith, nat_tests)

pub scale_within : (n : ℕ) → is_some (scale_named n) ≡ leb n 3
scale_within n = look_run scale_number scales 0 n refl ∙ grind (arith, nat_tests)

pub opmask_within : (n : ℕ) → is_some (opmask_named n) ≡ leb n 7
opmask_within n = look_run opmask_number opmasks 0 n refl ∙ grind (arith, nat_tests)
