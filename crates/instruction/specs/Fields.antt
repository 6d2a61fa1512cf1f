use Rattle.std.specs.Prelude.{ℕ, Bool, ◌&&◌, ◌||◌, Some, None, Option, ◌==◌, nat_le}
use Rattle.machine.specs.CodeSizes.{size_number}
use Rattle.machine.specs.OpKinds.{kind_number}
use Rattle.machine.specs.Opmasks.{opmask_number}
use Rattle.machine.specs.Scales.{scale_number}
use Rattle.machine.specs.Roundings.{rounding_number}
use Rattle.machine.specs.Segments.{segment_number}
use Rattle.machine.specs.declared.segment.Segment.{Segment}
use Rattle.instruction.specs.declared.raw.RawInstruction.{RawInstruction}
use Rattle.instruction.specs.declared.made.Instruction.{Instruction}

-- registers go to 180
abbrev pub registers_known : RawInstruction → Bool
registers_known i = nat_le i.reg0 180 && (nat_le i.reg1 180 && (nat_le i.reg2 180 && nat_le i.reg3 180))

-- operand kinds go to 24
abbrev pub kinds_known : RawInstruction → Bool
kinds_known i = nat_le i.kind0 24 && (nat_le i.kind1 24 && (nat_le i.kind2 24 && nat_le i.kind3 24))

-- scales go to 3
abbrev pub memory_known : RawInstruction → Bool
memory_known i = nat_le i.base 180 && (nat_le i.index 180 && nat_le i.scale 3)

-- no segment, or one of the registers 71 to 76
abbrev pub segment_known : ℕ → Bool
segment_known n = n == 0 || (nat_le 71 n && nat_le n 76)

-- opmasks go to 7, roundings to 4
abbrev pub evex_known : RawInstruction → Bool
evex_known i = nat_le i.opmask 7 && nat_le i.rounding 4

-- every field is in its range; code sizes go to 3
abbrev pub in_range : RawInstruction → Bool
in_range i = nat_le i.code_size 3 && (segment_known i.segment && (memory_known i && (kinds_known i && (registers_known i && evex_known i))))

abbrev pub segment_or_none : Option Segment → ℕ
segment_or_none (Some s) = segment_number s
segment_or_none None = 0

-- the numbers of an instruction's fields
abbrev pub raw_of : Instruction → RawInstruction
raw_of i =
    let p = i.prefixes in
    let m = i.memory in
    let k = i.kinds in
    let r = i.registers in
    let e = i.evex in
    record { code_size = size_number i.code_size; segment = segment_or_none p.segment; lock = p.lock; repe = p.repe; repne = p.repne; base = m.base.number; index = m.index.number; scale = scale_number m.scale; displ_size = m.displ_size; mem_displ = i.mem_displ; immediate = i.immediate; kind0 = kind_number k.op0; kind1 = kind_number k.op1; kind2 = kind_number k.op2; kind3 = kind_number k.op3; reg0 = r.op0.number; reg1 = r.op1.number; reg2 = r.op2.number; reg3 = r.op3.number; opmask = opmask_number e.opmask; zeroing = e.zeroing; broadcast = e.broadcast; sae = e.sae; rounding = rounding_number e.rounding }
