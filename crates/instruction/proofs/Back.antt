-- The numbers of an instruction make it again.
use Rattle.std.proofs.Common.{◌≡◌, Some, None, Ok, Option, sym, refl, ap, arith}
use Rattle.machine.specs.declared.code_size.CodeSize.{CodeSize}
use Rattle.machine.specs.declared.op_kind.OpKind.{OpKind}
use Rattle.machine.specs.declared.opmask.Opmask.{Opmask}
use Rattle.machine.specs.declared.register.Register.{Register}
use Rattle.machine.specs.declared.rounding.RoundingControl.{RoundingControl}
use Rattle.machine.specs.declared.scale.Scale.{Scale}
use Rattle.machine.specs.declared.segment.Segment.{Segment}
use Rattle.machine.specs.declared.segment.Segment.TheVariants.{Es, Cs, Ss, Ds, Fs, Gs}
use Rattle.machine.specs.CodeSizes.{size_number}
use Rattle.machine.specs.OpKinds.{kind_number}
use Rattle.machine.specs.Opmasks.{opmask_number}
use Rattle.machine.specs.Roundings.{rounding_number}
use Rattle.machine.specs.Scales.{scale_number}
use Rattle.machine.specs.Registered.{register_there}
use Rattle.instruction.specs.Fields.{segment_or_none}
use Rattle.instruction.specs.Making.{or_field, size_made, kind_made, scale_made, opmask_made, rounding_made, register_made, segment_made, MadeBack}

size_again : (x : CodeSize) → size_made (size_number x) ≡ Ok x
unfolding size_made
size_again x = grind arith

kind_again : (x : OpKind) → kind_made (kind_number x) ≡ Ok x
unfolding kind_made
kind_again x = grind arith

scale_again : (x : Scale) → scale_made (scale_number x) ≡ Ok x
unfolding scale_made
scale_again x = grind arith

opmask_again : (x : Opmask) → opmask_made (opmask_number x) ≡ Ok x
unfolding opmask_made
opmask_again x = grind arith

rounding_again : (x : RoundingControl) → rounding_made (rounding_number x) ≡ Ok x
unfolding rounding_made
rounding_again x = grind arith

segment_again : (x : Option Segment) → segment_made (segment_or_none x) ≡ Ok x
unfolding segment_made
segment_again (Some Es) = refl
segment_again (Some Cs) = refl
segment_again (Some Ss) = refl
segment_again (Some Ds) = refl
segment_again (Some Fs) = refl
segment_again (Some Gs) = refl
segment_again None = refl

register_again : (x : Register) → register_made x.number ≡ Ok x
unfolding register_made
register_again x = sym (ap or_field (register_there x))

pub made_back : MadeBack
made_back x = simp (size_again, segment_again, register_again, scale_again, kind_again, opmask_again, rounding_again)
