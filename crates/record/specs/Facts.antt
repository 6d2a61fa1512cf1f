-- What follows of a sound record, and what the encoder and the reader ask of one.
use Rattle.std.specs.Prelude.{◌≡◌, ℕ, ◌+◌, ◌/◌, ◌<◌, ◌≤◌, Bool, true, false, cond, not, ◌||◌, List, ◌∷◌, ◌++◌, Some, None, Option, ◌==◌, ◌≢◌, nat_le, count_by}
use Rattle.machine.specs.declared.place.Place.{Place}
use Rattle.machine.specs.declared.place.Place.TheVariants.{Op0, Op1, Op2, Op3, Op4}
use Rattle.record.specs.declared.class.Class.{Class}
use Rattle.record.specs.declared.class.Class.TheVariants.{RmSlot, Memory, Broadcastable, Vector, Offset, Embedded, RegSlot, Vvvv}
use Rattle.record.specs.declared.flags.Flag.TheVariants as Flags
use Rattle.record.specs.declared.head.Head.{Head}
use Rattle.record.specs.declared.head.Head.TheVariants.{Legacy}
use Rattle.record.specs.declared.head.LegacyHead.{LegacyHead}
use Rattle.record.specs.declared.imm.ImmShape.{ImmShape}
use Rattle.record.specs.declared.imm.ImmShape.TheVariants as Imm
use Rattle.record.specs.declared.op.Op.{Op}
use Rattle.record.specs.declared.op.Operands.{Operands}
use Rattle.record.specs.declared.op.RegisterRange.{RegisterRange}
use Rattle.record.specs.declared.raw.RawRecord.{RawRecord}
use Rattle.record.specs.declared.sound.Record.{Record}
use Rattle.record.specs.Classes.{op_number, op_places, belongs_at, bit, has_class}
use Rattle.record.specs.Flags.{has_flag}
use Rattle.record.specs.Immediates.{imm_shape, imm_count}
use Rattle.record.specs.Rules.{fields_hold, ranges_hold, slots_hold, mod_rm_holds, immediates_hold, heads_hold, modes_hold, first_byte_holds, is_legacy, is_evex, range_holds, grouped, is_prefix, is_rex}

-- the operand at a place
abbrev pub op_at : Operands → Place → Option Op
op_at x Op0 = x.op0
op_at x Op1 = x.op1
op_at x Op2 = x.op2
op_at x Op3 = x.op3
op_at x Op4 = x.op4

-- every rule holds
pub record Sound (r : RawRecord) : Type 0 where
  pub fields : fields_hold r ≡ true
  pub ranges : ranges_hold r ≡ true
  pub slots : slots_hold r ≡ true
  pub mod_rm : mod_rm_holds r ≡ true
  pub immediates : immediates_hold r ≡ true
  pub heads : heads_hold r ≡ true
  pub modes : modes_hold r ≡ true
  pub first_byte : first_byte_holds r ≡ true

-- how many of the places belong to a class
abbrev pub owners : Class → List (Option Op) → ℕ
owners c os = count_by (belongs_at c) os

-- the classes that stand for one slot of the encoding
abbrev pub is_slot : Class → Bool
is_slot RmSlot = true
is_slot Memory = false
is_slot Broadcastable = false
is_slot Vector = false
is_slot Offset = false
is_slot Embedded = false
is_slot RegSlot = true
is_slot Vvvv = true

-- each slot has at most one owner: where a place owns it, no place before or behind does
abbrev pub SlotsOwnedOnce : Type 0
SlotsOwnedOnce =
    (r : Record) (c : Class) (front back : List (Option Op)) (o : Option Op) → is_slot c ≡ true → op_places r.raw.operands ≡ front ++ (o ∷ back) → belongs_at c o ≡ true
    → (owners c front ≡ 0) × (owners c back ≡ 0)

-- there is a ModRM byte where an operand or a group asks for it
abbrev pub has_mod_rm : RawRecord → Bool
has_mod_rm r = (has_class Memory r.operands || has_class RegSlot r.operands) || (grouped r.group_index || grouped r.rm_group_index)

-- that follows from the operand in ModRM.rm or the group there, and an absolute offset has none
abbrev pub ModRmFollows : Type 0
ModRmFollows =
    (r : Record) → (has_mod_rm r.raw ≡ (has_class Memory r.raw.operands || grouped r.raw.rm_group_index)) × (has_class Offset r.raw.operands ≡ true → has_mod_rm r.raw ≡ false)

-- how many immediate bytes there are
abbrev pub imm_bytes : RawRecord → ℕ
imm_bytes r = imm_count (imm_shape r.operands)

-- none, one, two, four or eight
abbrev pub ImmBytesKnown : Type 0
ImmBytesKnown = (r : Record) → (imm_shape r.raw.operands ≢ Imm.Wrong) × (imm_bytes r.raw ≤ 8)

-- how many operands the immediate field has room for
abbrev pub imm_slots : ImmShape → ℕ
imm_slots Imm.Nothing = 0
imm_slots Imm.Ib = 1
imm_slots Imm.IbIb = 2
imm_slots Imm.Id = 1
imm_slots Imm.Iq = 1
imm_slots (Imm.J s) = 1
imm_slots Imm.Wrong = 0

-- kinds 9 to 12
abbrev pub is_immediate : Option Op → Bool
is_immediate (Some o) = nat_le 9 (op_number o)
is_immediate None = false

-- each immediate slot, the first and the second, has one owner and no operand is left over
abbrev pub ImmediatesOwnedOnce : Type 0
ImmediatesOwnedOnce =
    (r : Record) → imm_slots (imm_shape r.raw.operands) ≡ bit (is_immediate r.raw.operands.op0) + bit (is_immediate r.raw.operands.op1) + bit (is_immediate r.raw.operands.op2) + bit (is_immediate r.raw.operands.op3) + bit (is_immediate r.raw.operands.op4)

-- the first byte after prefixes, mandatory byte and REX of a legacy record, under an embedded register's low three bits
abbrev pub first_byte_of : RawRecord → LegacyHead → ℕ → ℕ
first_byte_of r h low =
    cond (not (h.table_byte1 == 0)) h.table_byte1 (
    cond r.is_2byte_opcode (r.op_code / 256) (
    cond (has_class Embedded r.operands) (r.op_code + low) r.op_code))

-- it is no prefix, and no REX where the record is for mode 64
abbrev pub FirstByteBegins : Type 0
FirstByteBegins =
    (r : Record) (h : LegacyHead) (low : ℕ) → r.raw.head ≡ Legacy h → low < 8
    → (is_prefix (first_byte_of r.raw h low) ≡ false) × (has_flag r.raw.enc_flags3 Flags.Bit64 ≡ true → is_rex (first_byte_of r.raw h low) ≡ false)

-- what a range of registers that its rule allows says: it is within the known registers; the 8-bit bank is legacy and
-- has 20; every other has at most 32, and at most 16 outside EVEX and where it is embedded
pub record BankFacts (h : Head) (embedded : Bool) (r : RegisterRange) : Type 0 where
  pub begins : 1 ≤ r.lo
  pub ends : r.hi ≤ 180
  pub forward : r.lo ≤ r.hi
  pub bytes : r.lo ≡ 1 → (r.hi ≡ 20) × (is_legacy h ≡ true)
  pub all : (r.lo ≢ 1) → r.hi ≤ r.lo + 31
  pub old : is_evex h ≡ false → (r.lo ≢ 1) → r.hi ≤ r.lo + 15
  pub low : embedded ≡ true → (r.lo ≢ 1) → r.hi ≤ r.lo + 15

abbrev pub BanksKnown : Type 0
BanksKnown = (h : Head) (embedded : Bool) (r : RegisterRange) → range_holds h embedded r ≡ true → BankFacts h embedded r

-- a sound record keeps every rule
abbrev pub RulesKept : Type 0
RulesKept = (r : Record) → Sound r.raw
