-- Memory at an absolute offset.
use Rattle.std.specs.Prelude.{ℕ, ◌%◌, false, cond, not, ◌||◌, Ok, Err, Result, ◌==◌, nat_lt}
use Rattle.fault.specs.declared.operand.OperandFault.{OperandFault}
use Rattle.fault.specs.declared.operand.OperandFault.TheVariants as F
use Rattle.machine.specs.declared.mode.Mode.{Mode}
use Rattle.machine.specs.declared.op_kind.OpKind.{OpKind}
use Rattle.machine.specs.Scales.{scale_number}
use Rattle.instruction.specs.declared.made.Instruction.{Instruction}
use Rattle.instruction.specs.Getters.{displ_bytes}
use Rattle.gather.specs.declared.absolute.Offset.{Offset}
use Rattle.gather.specs.declared.refusal.Refusal.{Refusal}
use Rattle.gather.specs.declared.parts.Displ.TheVariants.{Absent, Size2, Size4, Size8}
use Rattle.machine.specs.Modes.{is64, mode_bytes}
use Rattle.gather.specs.Registers.{is_memory}

-- refused before anything is set
abbrev pub offset_blank : OperandFault → Refusal Offset
offset_blank f = record { fault = f; left = record { displ = Absent; p67 = false } }

abbrev pub offset_refused : OperandFault → Result Offset (Refusal Offset)
offset_refused f = Err (offset_blank f)

-- two bytes: a 67 prefix in mode 32; zeros where the offset does not fit
abbrev pub offset_2 : Mode → ℕ → Result Offset (Refusal Offset)
offset_2 m d =
    cond (is64 m) (offset_refused F.Absolute16In64) (
    cond (nat_lt 65535 d) (Err record { fault = F.DisplacementU16; left = record { displ = Size2 0; p67 = (mode_bytes m == 4) } })
    (Ok record { displ = Size2 (d % 65536); p67 = (mode_bytes m == 4) }))

-- four bytes: a 67 prefix but in mode 32
abbrev pub offset_4 : Mode → ℕ → Result Offset (Refusal Offset)
offset_4 m d =
    cond (nat_lt 4294967295 d) (Err record { fault = F.DisplacementU32; left = record { displ = Size4 0; p67 = not (mode_bytes m == 4) } })
    (Ok record { displ = Size4 (d % 4294967296); p67 = not (mode_bytes m == 4) })

abbrev pub offset_8 : Mode → ℕ → Result Offset (Refusal Offset)
offset_8 m d = cond (is64 m) (Ok record { displ = Size8 d; p67 = false }) (offset_refused F.Absolute64Outside64)

abbrev pub offset_sized : Mode → ℕ → ℕ → Result Offset (Refusal Offset)
offset_sized m d size =
    cond (size == 2) (offset_2 m d) (cond (size == 4) (offset_4 m d) (cond (size == 8) (offset_8 m d) (offset_refused F.AbsoluteSize)))

-- memory without base, index and scale, at an offset of the size stated
abbrev pub absolute : Mode → OpKind → Instruction → Result Offset (Refusal Offset)
absolute m k i =
    cond (not (is_memory k)) (offset_refused F.OpKind) (
    cond (not (i.memory.base.number == 0) || not (i.memory.index.number == 0)) (offset_refused F.AbsoluteRegisters) (
    cond (not (scale_number i.memory.scale == 0)) (offset_refused F.AbsoluteScale) (
    offset_sized m i.mem_displ (displ_bytes i.memory.displ_size))))
