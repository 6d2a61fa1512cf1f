-- What the encoder asks of an instruction.
use Rattle.std.specs.Prelude.{ℕ, ◌+◌, ◌*◌, ◌%◌, ◌^◌, cond, ◌==◌, nat_le}
use Rattle.machine.specs.declared.op_kind.OpKind.{OpKind}
use Rattle.machine.specs.declared.op_kind.OpKind.TheVariants.{Immediate8}
use Rattle.machine.specs.declared.place.Place.{Place}
use Rattle.machine.specs.declared.place.Place.TheVariants.{Op0, Op1, Op2, Op3, Op4}
use Rattle.machine.specs.Scales.{scale_number}
use Rattle.instruction.specs.declared.made.Instruction.{Instruction}

-- the kind of the operand at a place; the fifth is always an immediate byte
abbrev pub op_kind_at : Instruction → Place → OpKind
op_kind_at i Op0 = i.kinds.op0
op_kind_at i Op1 = i.kinds.op1
op_kind_at i Op2 = i.kinds.op2
op_kind_at i Op3 = i.kinds.op3
op_kind_at i Op4 = Immediate8

-- the number of the register at a place; the fifth has none
abbrev pub op_register_at : Instruction → Place → ℕ
op_register_at i Op0 = i.registers.op0.number
op_register_at i Op1 = i.registers.op1.number
op_register_at i Op2 = i.registers.op2.number
op_register_at i Op3 = i.registers.op3.number
op_register_at i Op4 = 0

-- the displacement's size in bytes: 0, 1 and 2 stand for themselves, 3 for 4, everything above for 8
abbrev pub displ_bytes : ℕ → ℕ
displ_bytes n = cond (nat_le n 2) n (cond (n == 3) 4 8)

-- the factor of the index
abbrev pub index_factor : Instruction → ℕ
index_factor i = 2 ^ scale_number i.memory.scale

-- the low bits of a field
abbrev pub low8 : ℕ → ℕ
low8 n = n % 256

abbrev pub low16 : ℕ → ℕ
low16 n = n % 65536

abbrev pub low32 : ℕ → ℕ
low32 n = n % 4294967296

-- a 64-bit immediate: the low half of mem_displ above the immediate
abbrev pub imm64 : Instruction → ℕ
imm64 i = low32 i.mem_displ * 4294967296 + i.immediate
