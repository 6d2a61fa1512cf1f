-- What counts of an instruction handed in, place by place.
use Rattle.std.specs.Prelude.{ℕ, Bool, cond, ◌&&◌, ◌||◌, Some, None, Option, ◌==◌}
use Rattle.machine.specs.declared.mode.Mode.{Mode}
use Rattle.machine.specs.declared.place.Place.{Place}
use Rattle.machine.specs.declared.place.Place.TheVariants.{Op0, Op1, Op2, Op3, Op4}
use Rattle.machine.specs.Modes.{mode_named}
use Rattle.machine.specs.Opmasks.{opmask_number}
use Rattle.machine.specs.Scales.{scale_number}
use Rattle.instruction.specs.declared.made.Instruction.{Instruction}
use Rattle.instruction.specs.Getters.{op_kind_at, op_register_at, low8, imm64}
use Rattle.record.specs.declared.op.Op.{Op}
use Rattle.record.specs.declared.op.Op.TheVariants.{ModRmRm, ModRmRmMemOnly, Vsib, O, ModRmReg, RegEmbed8, Reg, Hx, Ib, Id, Iq, J}
use Rattle.record.specs.declared.op.Operands.{Operands}
use Rattle.record.specs.declared.sound.Record.{Record}
use Rattle.record.specs.Rules.{is_evex}
use Rattle.gather.specs.Address.{address_bytes}
use Rattle.gather.specs.Registers.{is_register}
use Rattle.gather.specs.Steps.{broadcasts}
use Rattle.encoder.specs.Encode.{uses_memory}
use Rattle.reader.specs.declared.operand.Memory.{Memory}
use Rattle.reader.specs.declared.operand.Operand.{Operand}
use Rattle.reader.specs.declared.operand.Operand.TheVariants as Read
use Rattle.reader.specs.declared.reading.Meaning.{Meaning}
use Rattle.reader.specs.Addresses.{modulo}
use Rattle.reader.specs.Operands.{ib_before, target_width}

-- a scale counts where an index is, and never in a 16-bit address
abbrev pub scale_meant : ℕ → ℕ → ℕ → ℕ
scale_meant width index scale = cond (index == 0 || width == 2) 0 scale

-- base, index, scale, and the displacement or target modulo two to the bits of an address
abbrev pub memory_meant : ℕ → Instruction → Memory
memory_meant width i =
    record { width = width; base = i.memory.base.number; index = i.memory.index.number; scale = scale_meant width i.memory.index.number (scale_number i.memory.scale); displ = modulo width i.mem_displ }

abbrev pub operand_meant : Mode → Operands → Instruction → Place → Op → Operand
operand_meant m x i at (ModRmRm g) = cond (is_register (op_kind_at i at)) (Read.Register (op_register_at i at)) (Read.Memory (memory_meant (address_bytes m i) i))
operand_meant m x i at (ModRmRmMemOnly must) = Read.Memory (memory_meant (address_bytes m i) i)
operand_meant m x i at (Vsib g) = Read.Memory (memory_meant (address_bytes m i) i)
operand_meant m x i at O = Read.Memory (memory_meant (address_bytes m i) i)
operand_meant m x i at (ModRmReg g) = Read.Register (op_register_at i at)
operand_meant m x i at (RegEmbed8 g) = Read.Register (op_register_at i at)
operand_meant m x i at (Reg n) = Read.Register (op_register_at i at)
operand_meant m x i at (Hx g) = Read.Register (op_register_at i at)
operand_meant m x i at (Ib k) = Read.Immediate (cond (ib_before x at) (low8 i.mem_displ) (low8 i.immediate))
operand_meant m x i at (Id k) = Read.Immediate i.immediate
operand_meant m x i at Iq = Read.Immediate (imm64 i)
operand_meant m x i at (J k size) = Read.Branch (modulo (target_width k) i.mem_displ)

abbrev pub meant_at : Mode → Operands → Instruction → Place → Option Op → Option Operand
meant_at m x i at (Some op) = Some (operand_meant m x i at op)
meant_at m x i at None = None

-- in EVEX the broadcast flag counts with memory and a record that has a broadcast form
abbrev pub broadcast_meant : Record → Instruction → Bool
broadcast_meant r i = is_evex r.raw.head && (broadcasts r i && uses_memory r.raw i)

abbrev pub meant_in : Mode → Record → Instruction → Meaning
meant_in m r i =
    let x = r.raw.operands in
    record { operands = record { op0 = meant_at m x i Op0 x.op0; op1 = meant_at m x i Op1 x.op1; op2 = meant_at m x i Op2 x.op2; op3 = meant_at m x i Op3 x.op3; op4 = meant_at m x i Op4 x.op4 }; segment = i.prefixes.segment; opmask = cond (is_evex r.raw.head) (opmask_number i.evex.opmask) 0; zeroing = is_evex r.raw.head && i.evex.zeroing; broadcast = broadcast_meant r i }

abbrev pub meant_by : Option Mode → Record → Instruction → Option Meaning
meant_by (Some m) r i = Some (meant_in m r i)
meant_by None r i = None

-- what an instruction says under a record in a mode
unfoldable pub meant : ℕ → Record → Instruction → Option Meaning
meant mode r i = meant_by (mode_named mode) r i
