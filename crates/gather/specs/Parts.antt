-- Parts that operands leave.
use Rattle.std.specs.Prelude.{ℕ, None, Ok, Err, Result}
use Rattle.fault.specs.declared.operand.OperandFault.{OperandFault}
use Rattle.gather.specs.declared.parts.Displ.{Displ}
use Rattle.gather.specs.declared.parts.Displ.TheVariants.{Absent}
use Rattle.gather.specs.declared.parts.RmPart.{RmPart}
use Rattle.gather.specs.declared.refusal.Refusal.{Refusal}

-- ModRM.mod and rm with a displacement, and nothing else
abbrev pub plain_part : ℕ → ℕ → Displ → RmPart
plain_part mode rm d = record { mode = mode; rm = rm; b = 0; x = 0; v2 = 0; sib = None; displ = d }

-- what an operand leaves that is refused before it has set anything
abbrev pub blank : RmPart
blank = plain_part 0 0 Absent

abbrev pub refusing : {X T : Type 0} → OperandFault → T → Result X (Refusal T)
refusing f left = Err record { fault = f; left = left }

-- what an operand puts into its part, accepted or refused
abbrev pub left_of : {T : Type 0} → Result T (Refusal T) → T
left_of (Ok x) = x
left_of (Err r) = r.left

-- its refusal
abbrev pub refusal_of : {T : Type 0} → Result T (Refusal T) → Result (Unit {0}) OperandFault
refusal_of (Ok x) = Ok tt
refusal_of (Err r) = Err r.fault

-- a step that refused ends the operand
abbrev pub then : {X Y T : Type 0} → Result X (Refusal T) → (X → Result Y (Refusal T)) → Result Y (Refusal T)
then (Ok x) f = f x
then (Err e) f = Err e
