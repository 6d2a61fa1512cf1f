-- Memory operands with 16-bit addresses.
use Rattle.std.specs.Prelude.{ℕ, ◌%◌, Bool, cond, ◌&&◌, ℤ, Some, None, Ok, Option, Result, ◌==◌, nat_lt}
use Rattle.std.proofs.Common.{to_z, of_z}
use Rattle.std.specs.Int.{w8, w16}
use Rattle.fault.specs.declared.operand.OperandFault.TheVariants.{Address16In64, Registers16, DisplacementU16, Displacement16, DisplacementNotZero, Size16}
use Rattle.machine.specs.declared.mode.Mode.{Mode}
use Rattle.instruction.specs.declared.made.Instruction.{Instruction}
use Rattle.instruction.specs.Getters.{displ_bytes}
use Rattle.policy.specs.Lowest.{lowest}
use Rattle.gather.specs.declared.parts.Displ.TheVariants.{Absent, Size1, Size2}
use Rattle.gather.specs.declared.parts.RmPart.{RmPart}
use Rattle.gather.specs.declared.refusal.Refusal.{Refusal}
use Rattle.machine.specs.Modes.{is64}
use Rattle.gather.specs.Parts.{plain_part, blank, refusing}

-- ModRM.rm of a pair of base and index: BX 24, BP 26, SI 27, DI 28
abbrev pub rm16 : ℕ → ℕ → Option ℕ
rm16 base index =
    cond (base == 24 && index == 27) (Some 0) (
    cond (base == 24 && index == 28) (Some 1) (
    cond (base == 26 && index == 27) (Some 2) (
    cond (base == 26 && index == 28) (Some 3) (
    cond (base == 27 && index == 0) (Some 4) (
    cond (base == 28 && index == 0) (Some 5) (
    cond (base == 26 && index == 0) (Some 6) (
    cond (base == 24 && index == 0) (Some 7) (
    cond (base == 0 && index == 0) (Some 6) None))))))))

-- no base and no index: two bytes of displacement, which are zero where it does not fit
abbrev pub offset16 : ℕ → Result RmPart (Refusal RmPart)
offset16 d = cond (nat_lt 65535 d) (refusing DisplacementU16 (plain_part 0 6 (Size2 0))) (Ok (plain_part 0 6 (Size2 (d % 65536))))

-- outside 16 bits, signed and unsigned
abbrev pub far16 : ℕ → Bool
far16 d = nat_lt 65535 d && nat_lt d 18446744073709518848

-- one byte where there is one, else two
abbrev pub one16_of : Option ℤ → ℕ → ℕ → RmPart
one16_of (Some v) rm low = plain_part 1 rm (Size1 (of_z w8 v))
one16_of None rm low = plain_part 2 rm (Size2 low)

abbrev pub one16 : (ℤ → ℤ) → ℕ → ℕ → RmPart
one16 f rm d = one16_of (lowest f (to_z w16 (d % 65536))) rm (d % 65536)

-- a base: the displacement in the size asked; BP alone needs one
abbrev pub sized16 : (ℤ → ℤ) → ℕ → ℕ → ℕ → Result RmPart (Refusal RmPart)
sized16 f rm d size =
    cond (size == 1) (Ok (one16 f rm d)) (
    cond (size == 0) (cond (d == 0) (Ok (plain_part 0 rm Absent)) (refusing DisplacementNotZero (plain_part 0 rm Absent))) (
    cond (size == 2) (Ok (plain_part 2 rm (Size2 (d % 65536)))) (refusing Size16 (plain_part 0 rm Absent))))

abbrev pub based16 : (ℤ → ℤ) → ℕ → Bool → ℕ → ℕ → Result RmPart (Refusal RmPart)
based16 f rm bp d size =
    cond (far16 d) (refusing Displacement16 (plain_part 0 rm Absent)) (
    cond (bp && size == 0) (cond (d == 0) (sized16 f rm d 1) (refusing DisplacementNotZero (plain_part 0 rm Absent))) (
    sized16 f rm d size))

abbrev pub mem16 : (ℤ → ℤ) → Mode → Instruction → Result RmPart (Refusal RmPart)
mem16 f m i =
    let base = i.memory.base.number in
    let index = i.memory.index.number in
    cond (is64 m) (refusing Address16In64 blank) (
    elim (rm16 base index) [
      | None ↦ refusing Registers16 blank
      | Some rm ↦ cond (base == 0 && index == 0) (offset16 i.mem_displ) (based16 f rm (base == 26 && index == 0) i.mem_displ (displ_bytes i.memory.displ_size))
    ])
