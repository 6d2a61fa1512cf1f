-- One operand after the other into the parts, and the first refusal.
use Rattle.std.specs.Prelude.{ℕ, ◌/◌, ◌%◌, Bool, true, false, cond, not, ◌&&◌, ◌||◌, ℤ, is_some, Some, None, Ok, Err, Option, Result, ◌==◌}
use Rattle.fault.specs.declared.operand.OperandFault.{OperandFault}
use Rattle.fault.specs.declared.operand.OperandFault.TheVariants as F
use Rattle.machine.specs.declared.mode.Mode.{Mode}
use Rattle.machine.specs.declared.op_kind.OpKind.{OpKind}
use Rattle.machine.specs.declared.place.Place.{Place}
use Rattle.instruction.specs.declared.made.Instruction.{Instruction}
use Rattle.instruction.specs.Getters.{op_kind_at, op_register_at}
use Rattle.record.specs.declared.flags.Flag.TheVariants as Flags
use Rattle.record.specs.declared.op.Op.{Op}
use Rattle.record.specs.declared.op.Op.TheVariants.{ModRmRm, ModRmRmMemOnly, Vsib, O, ModRmReg, RegEmbed8, Reg, Hx, Ib, Id, Iq, J}
use Rattle.record.specs.declared.op.RegisterRange.{RegisterRange}
use Rattle.record.specs.declared.sound.Record.{Record}
use Rattle.record.specs.Flags.{has_flag}
use Rattle.gather.specs.declared.absolute.Offset.{Offset}
use Rattle.gather.specs.declared.immediate.Branch.{Branch}
use Rattle.gather.specs.declared.parts.HeadFlags.{HeadFlags}
use Rattle.gather.specs.declared.parts.Imm.{Imm}
use Rattle.gather.specs.declared.parts.Imm.TheVariants as Imms
use Rattle.gather.specs.declared.parts.Parts.{Parts}
use Rattle.gather.specs.declared.parts.RmPart.{RmPart}
use Rattle.gather.specs.declared.refusal.Refusal.{Refusal}
use Rattle.gather.specs.declared.register.RegPart.{RegPart}
use Rattle.gather.specs.Absolute.{absolute}
use Rattle.machine.specs.Modes.{mode_bytes}
use Rattle.gather.specs.Address.{address_bytes}
use Rattle.gather.specs.Immediates.{byte_operand, expecting, wide_operand, branch_operand}
use Rattle.gather.specs.Memory.{mem}
use Rattle.gather.specs.Memory16.{mem16}
use Rattle.gather.specs.Parts.{blank, refusing, left_of, refusal_of}
use Rattle.gather.specs.Registers.{is_register, is_memory, ranged_register, register_operand, rm_register}

-- the parts after an operand, and its refusal where there is one
pub record Step : Type 0 where
  pub parts : Parts
  pub fault : Option OperandFault

-- the refusal as an answer
abbrev pub told_of : Option OperandFault → Result (Unit {0}) OperandFault
told_of (Some f) = Err f
told_of None = Ok tt

abbrev pub told : Step → Result (Unit {0}) OperandFault
told s = told_of s.fault

abbrev pub done : Parts → Step
done p = record { parts = p; fault = None }

abbrev pub faulty : Parts → OperandFault → Step
faulty p f = record { parts = p; fault = Some f }

-- the parts as they are, with the refusal of an answer
abbrev pub stepped : Parts → Result (Unit {0}) OperandFault → Step
stepped p (Ok u) = done p
stepped p (Err f) = faulty p f

-- Parts with one component more.

abbrev pub with_rm : Parts → RmPart → Parts
with_rm p r = record { rm = r; reg = p.reg; low = p.low; vvvv = p.vvvv; imm = p.imm; flags = p.flags }

abbrev pub with_flags : Parts → HeadFlags → Parts
with_flags p f = record { rm = p.rm; reg = p.reg; low = p.low; vvvv = p.vvvv; imm = p.imm; flags = f }

abbrev pub with_imm : Parts → Imm → Parts
with_imm p x = record { rm = p.rm; reg = p.reg; low = p.low; vvvv = p.vvvv; imm = x; flags = p.flags }

-- what a register asks of REX
abbrev pub asking : HeadFlags → RegPart → HeadFlags
asking f r = record { p66 = f.p66; p67 = f.p67; w = f.w; rex = f.rex || r.rex; high = f.high || r.high; broadcast = f.broadcast }

-- what a memory operand asks of the prefixes
abbrev pub addressing : HeadFlags → Bool → Bool → HeadFlags
addressing f p67 broadcast = record { p66 = f.p66; p67 = f.p67 || p67; w = f.w; rex = f.rex; high = f.high; broadcast = f.broadcast || broadcast }

abbrev pub sizing : HeadFlags → Bool → HeadFlags
sizing f p66 = record { p66 = f.p66 || p66; p67 = f.p67; w = f.w; rex = f.rex; high = f.high; broadcast = f.broadcast }

abbrev pub put_rm_register : Parts → RegPart → Parts
put_rm_register p r = with_flags (with_rm p (rm_register r)) (asking p.flags r)

abbrev pub put_reg : Parts → RegPart → Parts
put_reg p r = record { rm = p.rm; reg = r.number; low = p.low; vvvv = p.vvvv; imm = p.imm; flags = asking p.flags r }

-- a register in the opcode: its low three bits there, the fourth is B
abbrev pub embedded_rm : RmPart → ℕ → RmPart
embedded_rm x n = record { mode = x.mode; rm = x.rm; b = n / 8; x = x.x; v2 = x.v2; sib = x.sib; displ = x.displ }

abbrev pub put_embedded : Parts → RegPart → Parts
put_embedded p r = record { rm = embedded_rm p.rm r.number; reg = p.reg; low = r.number % 8; vvvv = p.vvvv; imm = p.imm; flags = asking p.flags r }

abbrev pub put_vvvv : Parts → RegPart → Parts
put_vvvv p r = record { rm = p.rm; reg = p.reg; low = p.low; vvvv = r.number; imm = p.imm; flags = p.flags }

abbrev pub offset_rm : RmPart → Offset → RmPart
offset_rm x o = record { mode = x.mode; rm = x.rm; b = x.b; x = x.x; v2 = x.v2; sib = x.sib; displ = o.displ }

abbrev pub put_offset : Parts → Offset → Parts
put_offset p o = with_flags (with_rm p (offset_rm p.rm o)) (addressing p.flags o.p67 false)

abbrev pub put_branch : Parts → Branch → Parts
put_branch p b = with_flags (with_imm p b.imm) (sizing p.flags b.p66)

-- the broadcast flag of the instruction where the record has a broadcast form
abbrev pub broadcasts : Record → Instruction → Bool
broadcasts r i = i.evex.broadcast && has_flag r.raw.enc_flags3 Flags.Broadcast

-- a memory operand by the size of its address
abbrev pub mem_sized : (ℤ → ℤ) → Mode → ℕ → Bool → Option RegisterRange → Instruction → Result RmPart (Refusal RmPart)
mem_sized f m bytes must vsib i = cond (bytes == 2) (cond (is_some vsib) (refusing F.Vsib16 blank) (mem16 f m i)) (mem f m bytes must vsib i)

abbrev pub memory_step : Parts → Bool → Bool → Result RmPart (Refusal RmPart) → Step
memory_step p p67 broadcast a = stepped (with_flags (with_rm p (left_of a)) (addressing p.flags p67 broadcast)) (refusal_of a)

-- what was accepted put into the parts; a refusal leaves them as they are
abbrev pub taken : {X : Type 0} → Parts → (X → Parts) → Result X OperandFault → Step
taken p put (Ok x) = done (put x)
taken p put (Err f) = faulty p f

abbrev pub register_step : Parts → (RegPart → Parts) → Result RegPart OperandFault → Step
register_step = taken

abbrev pub imm_step : Parts → Result Imm OperandFault → Step
imm_step p a = taken p (with_imm p) a

abbrev pub branch_step : Parts → Result Branch OperandFault → Step
branch_step p a = taken p (put_branch p) a

abbrev pub offset_step : Parts → Result Offset (Refusal Offset) → Step
offset_step p a = stepped (put_offset p (left_of a)) (refusal_of a)

-- what a byte of displacement stands for, by record and broadcast flag
abbrev pub Spread : Type 0
Spread = Record → Bool → ℤ → ℤ

-- memory in ModRM.rm, with a 67 prefix where the address is not of the mode's size
unfoldable pub rm_memory : Spread → Mode → Record → Instruction → Bool → Option RegisterRange → Parts → Step
rm_memory sp m r i must vsib p =
    memory_step p (not (address_bytes m i == mode_bytes m)) (broadcasts r i) (mem_sized (sp r (broadcasts r i)) m (address_bytes m i) must vsib i)

-- an operand that is memory in ModRM.rm and nothing else
abbrev pub mem_only : OpKind → Parts → Step → Step
mem_only k p memory = cond (is_register k) (faulty p F.RegisterNotAllowed) (cond (is_memory k) memory (faulty p F.NeitherRegisterNorMemory))

abbrev pub rm_step : OpKind → Parts → Step → Step → Step
rm_step k p register memory = cond (is_register k) register (cond (is_memory k) memory (faulty p F.NeitherRegisterNorMemory))

-- one register, which no byte carries
abbrev pub fixed_told : ℕ → OpKind → ℕ → Result (Unit {0}) OperandFault
fixed_told wanted k n = cond (not (is_register k)) (Err F.OpKind) (cond (wanted == n) (Ok tt) (Err F.FixedRegister))

abbrev pub fixed_step : Parts → Result (Unit {0}) OperandFault → Step
fixed_step p a = stepped p a

-- one operand
unfoldable pub op_step : Spread → Mode → Record → Instruction → Place → Op → Parts → Step
op_step sp m r i at (ModRmRm range) p = rm_step (op_kind_at i at) p (register_step p (put_rm_register p) (ranged_register m range (op_register_at i at))) (rm_memory sp m r i false None p)
op_step sp m r i at (ModRmRmMemOnly must) p = mem_only (op_kind_at i at) p (rm_memory sp m r i must None p)
op_step sp m r i at (Vsib range) p = mem_only (op_kind_at i at) p (rm_memory sp m r i true (Some range) p)
op_step sp m r i at O p = offset_step p (absolute m (op_kind_at i at) i)
op_step sp m r i at (ModRmReg range) p = register_step p (put_reg p) (register_operand m range (op_kind_at i at) (op_register_at i at))
op_step sp m r i at (RegEmbed8 range) p = register_step p (put_embedded p) (register_operand m range (op_kind_at i at) (op_register_at i at))
op_step sp m r i at (Reg n) p = fixed_step p (fixed_told n (op_kind_at i at) (op_register_at i at))
op_step sp m r i at (Hx range) p = register_step p (put_vvvv p) (register_operand m range (op_kind_at i at) (op_register_at i at))
op_step sp m r i at (Ib k) p = imm_step p (byte_operand p.imm k (op_kind_at i at) i)
op_step sp m r i at (Id k) p = imm_step p (expecting k (op_kind_at i at) (Imms.Size4 i.immediate))
op_step sp m r i at Iq p = imm_step p (wide_operand (op_kind_at i at) i)
op_step sp m r i at (J k size) p = branch_step p (branch_operand m k size (op_kind_at i at) i)
