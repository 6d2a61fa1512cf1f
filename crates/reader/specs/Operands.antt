-- Operands, each with the place of its bytes.
use Rattle.std.specs.Prelude.{ℕ, ◌+◌, ◌-◌, ◌*◌, ◌/◌, ◌%◌, Bool, false, cond, not, ◌&&◌, ◌||◌, ℤ, Some, None, Option, ◌==◌}
use Rattle.std.specs.Int.{w8, w16, w32, w64}
use Rattle.std.proofs.Common.{to_z, of_z}
use Rattle.machine.specs.declared.mode.Mode.{Mode}
use Rattle.machine.specs.declared.op_kind.OpKind.{OpKind}
use Rattle.machine.specs.declared.place.Place.{Place}
use Rattle.machine.specs.declared.place.Place.TheVariants.{Op0, Op1, Op2, Op3, Op4}
use Rattle.machine.specs.Bytes.{byte_register}
use Rattle.machine.specs.OpKinds.{kind_number}
use Rattle.record.specs.declared.op.Op.{Op}
use Rattle.record.specs.declared.op.Op.TheVariants.{ModRmRm, ModRmRmMemOnly, Vsib, O, ModRmReg, RegEmbed8, Reg, Hx, Ib, Id, Iq, J}
use Rattle.record.specs.declared.op.Operands.{Operands}
use Rattle.record.specs.declared.op.RegisterRange.{RegisterRange}
use Rattle.record.specs.declared.sound.Record.{Record}
use Rattle.record.specs.Classes.{op_number}
use Rattle.record.specs.Rules.{is_evex}
use Rattle.fields.specs.declared.cut.Cut.{Cut}
use Rattle.fields.specs.ModRms.{direct, rm_number}
use Rattle.reader.specs.declared.operand.Memory.{Memory}
use Rattle.reader.specs.declared.operand.Operand.{Operand}
use Rattle.reader.specs.declared.operand.Operand.TheVariants as Read
use Rattle.reader.specs.Addresses.{modulo, memory_of, offset_of}

-- what a byte of displacement stands for, by record and broadcast flag
abbrev pub Spread : Type 0
Spread = Record → Bool → ℤ → ℤ

-- the register of a number in its bank; SPL to DIL stand beside AH to BH, and REX tells them apart
abbrev pub register_of : RegisterRange → Bool → ℕ → ℕ
register_of g rex n = cond (g.lo == 1) (byte_register n rex) (g.lo + n)

-- an immediate byte stands at the place
abbrev pub is_ib : Option Op → Bool
is_ib (Some op) = (op_number op) == 9
is_ib None = false

-- an immediate byte stands at an earlier place
abbrev pub ib_before : Operands → Place → Bool
ib_before x Op0 = false
ib_before x Op1 = is_ib x.op0
ib_before x Op2 = is_ib x.op0 || is_ib x.op1
ib_before x Op3 = is_ib x.op0 || (is_ib x.op1 || is_ib x.op2)
ib_before x Op4 = is_ib x.op0 || (is_ib x.op1 || (is_ib x.op2 || is_ib x.op3))

-- the bytes of a branch's target: near branches of 16, 32 and 64 bits
abbrev pub target_width : OpKind → ℕ
target_width k = cond (kind_number k == 1) 2 (cond (kind_number k == 2) 4 8)

-- a distance of one, two or four bytes by its sign, as 64 bits
abbrev pub distance_of : ℕ → ℕ → ℕ
distance_of size d = cond (size == 1) (of_z w64 (to_z w8 d)) (cond (size == 2) (of_z w64 (to_z w16 d)) (of_z w64 (to_z w32 d)))

-- counted from the next instruction
abbrev pub target_of : OpKind → ℕ → ℕ → ℕ → ℕ
target_of k size next d = modulo (target_width k) (next + distance_of size d)

-- EVEX.b with memory
abbrev pub broadcast_of : Cut → Bool
broadcast_of c = c.lead.bit && not (direct c.mod_rm)

-- the place of the immediate
abbrev pub imm_place : Cut → ℕ
imm_place c = c.mod_rm.end + c.displ_size

abbrev pub imm_byte_of : Bool → Cut → Operand × ℕ
imm_byte_of second c = cond second (Read.Immediate (c.imm / 256 % 256), imm_place c + 1) (Read.Immediate (c.imm % 256), imm_place c)

-- an operand in ModRM.rm
abbrev pub rm_of : Bool → RegisterRange → Cut → Memory → Operand
rm_of evex g c memory = cond (direct c.mod_rm) (Read.Register (register_of g c.lead.rex (rm_number evex c.lead c.mod_rm))) (Read.Memory memory)

-- one operand: of ModRM at ModRM's place, in the opcode at its last byte, a fixed register at the opcode, in vvvv at the head
unfoldable pub operand_of : Spread → Mode → Record → ℕ → Cut → Bool → Op → Operand × ℕ
operand_of sp m r next c second (ModRmRm g) = (rm_of (is_evex r.raw.head) g c (memory_of (sp r (broadcast_of c)) m next None c), c.code.end)
operand_of sp m r next c second (ModRmRmMemOnly must) = (Read.Memory (memory_of (sp r (broadcast_of c)) m next None c), c.code.end)
operand_of sp m r next c second (Vsib g) = (Read.Memory (memory_of (sp r (broadcast_of c)) m next (Some g) c), c.code.end)
operand_of sp m r next c second O = (Read.Memory (offset_of c), c.mod_rm.end)
operand_of sp m r next c second (ModRmReg g) = (Read.Register (register_of g c.lead.rex (8 * c.lead.r + c.mod_rm.reg)), c.code.end)
operand_of sp m r next c second (RegEmbed8 g) = (Read.Register (register_of g c.lead.rex (8 * c.lead.b + c.code.low)), c.code.end - 1)
operand_of sp m r next c second (Reg n) = (Read.Register n, c.lead.end)
operand_of sp m r next c second (Hx g) = (Read.Register (register_of g c.lead.rex c.lead.v), c.prefixes.end)
operand_of sp m r next c second (Ib k) = imm_byte_of second c
operand_of sp m r next c second (Id k) = (Read.Immediate c.imm, imm_place c)
operand_of sp m r next c second Iq = (Read.Immediate c.imm, imm_place c)
operand_of sp m r next c second (J k size) = (Read.Branch (target_of k size next c.imm), imm_place c)

-- the operand at a place, where there is one
abbrev pub operand_at : Spread → Mode → Record → ℕ → Cut → Bool → Option Op → Option (Operand × ℕ)
operand_at sp m r next c second (Some op) = Some (operand_of sp m r next c second op)
operand_at sp m r next c second None = None
