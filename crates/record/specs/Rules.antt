-- The rules under which a record is sound, each a test of its fields, and the first that is broken.
use Rattle.std.specs.Prelude.{ℕ, ◌/◌, ◌%◌, Bool, true, false, cond, not, ◌&&◌, ◌||◌, ℤ, pos, negsuc, is_some, Some, None, Option, ◌==◌, count_ones, drop, zip, int_le, nat_le, nat_lt}
use Rattle.machine.specs.declared.code_size.CodeSize.{CodeSize}
use Rattle.machine.specs.declared.op_kind.OpKind.{OpKind}
use Rattle.machine.specs.CodeSizes.{size_number}
use Rattle.machine.specs.OpKinds.{kind_number}
use Rattle.record.specs.declared.class.Class.TheVariants.{RmSlot, Memory, Broadcastable, Vector, Offset, Embedded, RegSlot, Vvvv}
use Rattle.record.specs.declared.flags.Flag.TheVariants as Flags
use Rattle.record.specs.declared.head.Head.{Head}
use Rattle.record.specs.declared.head.Head.TheVariants.{Legacy, Vex, Evex}
use Rattle.record.specs.declared.head.LegacyHead.{LegacyHead}
use Rattle.record.specs.declared.head.VexHead.{VexHead}
use Rattle.record.specs.declared.head.EvexHead.{EvexHead}
use Rattle.record.specs.declared.op.Op.{Op}
use Rattle.record.specs.declared.op.Op.TheVariants.{ModRmRm, ModRmRmMemOnly, Vsib, O, ModRmReg, RegEmbed8, Reg, Hx, Ib, Id, Iq, J}
use Rattle.record.specs.declared.op.Operands.{Operands}
use Rattle.record.specs.declared.op.RegisterRange.{RegisterRange}
use Rattle.record.specs.declared.raw.RawRecord.{RawRecord}
use Rattle.fault.specs.declared.rule.Rule.{Rule}
use Rattle.fault.specs.declared.rule.Rule.TheVariants as Rules
use Rattle.record.specs.declared.imm.ImmShape.{ImmShape}
use Rattle.record.specs.declared.imm.ImmShape.TheVariants as Imm
use Rattle.std.specs.List.{list_all, range_with_len}
use Rattle.record.specs.Classes.{op_places, has_class, class_count}
use Rattle.record.specs.Flags.{has_flag}
use Rattle.record.specs.Immediates.{imm_shape}

-- one test of each place
abbrev pub each : (Option Op → Bool) → Operands → Bool
each p x = list_all p (op_places x)

abbrev pub is_legacy : Head → Bool
is_legacy (Legacy h) = true
is_legacy (Vex h) = false
is_legacy (Evex h) = false

abbrev pub is_evex : Head → Bool
is_evex (Legacy h) = false
is_evex (Vex h) = false
is_evex (Evex h) = true

-- Rule 1, the fields.

-- a group index is -1, for none, to 7
abbrev pub group_known : ℤ → Bool
group_known g = int_le (negsuc 0) g && int_le g (pos 7)

-- a scale has a single one bit and is at most 64
abbrev pub scale_known : ℕ → Bool
scale_known n = count_ones n == 1 && nat_le n 64

abbrev pub legacy_known : LegacyHead → Bool
legacy_known h =
    (h.table_byte1 == 0x00 || h.table_byte1 == 0x0F)
    && ((h.table_byte2 == 0x00 || (h.table_byte2 == 0x38 || h.table_byte2 == 0x3A))
    && ((h.table_byte2 == 0x00 || not (h.table_byte1 == 0x00))
    && (h.mandatory_prefix == 0x00 || (h.mandatory_prefix == 0x66 || (h.mandatory_prefix == 0xF3 || h.mandatory_prefix == 0xF2)))))

-- last_byte within 87, mask_w_l within 84, mask_l within 04
abbrev pub vex_known : VexHead → Bool
vex_known h =
    (nat_le 1 h.table && nat_le h.table 3)
    && (h.last_byte / 8 % 16 == 0
    && (cond h.w1 (nat_le 128 h.last_byte) (nat_lt h.last_byte 128)
    && ((h.mask_w_l % 4 == 0 && h.mask_w_l / 8 % 16 == 0)
    && (h.mask_l == 0 || h.mask_l == 4))))

-- p1_bits 04 and bits of 83, ll_bits within 60, mask_w within 80
abbrev pub evex_known : EvexHead → Bool
evex_known h =
    ((nat_le 1 h.table && nat_le h.table 6) && not (h.table == 4))
    && ((h.p1_bits / 4 % 2 == 1 && h.p1_bits / 8 % 16 == 0)
    && ((h.ll_bits % 32 == 0 && nat_lt h.ll_bits 128)
    && ((h.mask_w == 0 || h.mask_w == 128)
    && (h.mask_ll == 0 || h.mask_ll == 96))))

abbrev pub head_known : Head → Bool
head_known (Legacy h) = legacy_known h
head_known (Vex h) = vex_known h
head_known (Evex h) = evex_known h

-- a fixed register is one of the known ones
abbrev pub fixed_known : Option Op → Bool
fixed_known (Some (ModRmRm r)) = true
fixed_known (Some (ModRmRmMemOnly must)) = true
fixed_known (Some (Vsib r)) = true
fixed_known (Some O) = true
fixed_known (Some (ModRmReg r)) = true
fixed_known (Some (RegEmbed8 r)) = true
fixed_known (Some (Reg n)) = nat_le n 180
fixed_known (Some (Hx r)) = true
fixed_known (Some (Ib k)) = true
fixed_known (Some (Id k)) = true
fixed_known (Some Iq) = true
fixed_known (Some (J k s)) = true
fixed_known None = true

-- a place is filled only where the one before it is
abbrev pub no_gaps : Operands → Bool
no_gaps x = list_all (λ pair. is_some pair.0 || not (is_some pair.1)) (zip (op_places x) (drop 1 (op_places x)))

abbrev pub code_known : RawRecord → Bool
code_known r = nat_lt r.op_code (cond r.is_2byte_opcode 65536 256)

abbrev pub groups_known : RawRecord → Bool
groups_known r = group_known r.group_index && group_known r.rm_group_index

abbrev pub scales_known : RawRecord → Bool
scales_known r = scale_known r.n && scale_known r.nb

abbrev pub operands_known : Operands → Bool
operands_known x = no_gaps x && each fixed_known x

abbrev pub fields_hold : RawRecord → Bool
fields_hold r = code_known r && (groups_known r && (scales_known r && (head_known r.head && operands_known r.operands)))

-- Rule 2, the ranges.

abbrev pub range_is : RegisterRange → ℕ → ℕ → Bool
range_is r lo hi = r.lo == lo && r.hi == hi

-- the whole 8-bit bank
abbrev pub range_bytes : RegisterRange → Bool
range_bytes r = range_is r 1 20

-- a whole bank of 16, 32 or 64-bit general, segment or mask registers
abbrev pub range_plain : RegisterRange → Bool
range_plain r = range_is r 21 36 || (range_is r 37 52 || (range_is r 53 68 || (range_is r 71 76 || range_is r 173 180)))

-- the first 16 of a vector bank
abbrev pub range_vector16 : RegisterRange → Bool
range_vector16 r = range_is r 77 92 || (range_is r 109 124 || range_is r 141 156)

-- all 32 of a vector bank
abbrev pub range_vector32 : RegisterRange → Bool
range_vector32 r = range_is r 77 108 || (range_is r 109 140 || range_is r 141 172)

-- a range is one whole bank: the 8-bit one in legacy records only, all 32 of a vector bank in EVEX ones only and never embedded
abbrev pub range_holds : Head → Bool → RegisterRange → Bool
range_holds h embedded r =
    (range_bytes r && is_legacy h) || (range_plain r || (range_vector16 r || (range_vector32 r && (is_evex h && not embedded))))

abbrev pub op_range_holds : Head → Option Op → Bool
op_range_holds h (Some (ModRmRm r)) = range_holds h false r
op_range_holds h (Some (ModRmRmMemOnly must)) = true
op_range_holds h (Some (Vsib r)) = range_holds h false r
op_range_holds h (Some O) = true
op_range_holds h (Some (ModRmReg r)) = range_holds h false r
op_range_holds h (Some (RegEmbed8 r)) = range_holds h true r
op_range_holds h (Some (Reg n)) = true
op_range_holds h (Some (Hx r)) = range_holds h false r
op_range_holds h (Some (Ib k)) = true
op_range_holds h (Some (Id k)) = true
op_range_holds h (Some Iq) = true
op_range_holds h (Some (J k s)) = true
op_range_holds h None = true

abbrev pub ranges_hold : RawRecord → Bool
ranges_hold r = each (op_range_holds r.head) r.operands

-- Rule 3, the slots: each has at most one owner.

abbrev pub slots_hold : RawRecord → Bool
slots_hold r = nat_le (class_count RmSlot r.operands) 1 && (nat_le (class_count RegSlot r.operands) 1 && nat_le (class_count Vvvv r.operands) 1)

-- Rule 4, ModRM operands and groups.

-- a group index is there
abbrev pub grouped : ℤ → Bool
grouped g = int_le (pos 0) g

-- an operand in ModRM.reg excludes a group, one in ModRM.rm a group there; either of the first two needs one of the
-- last two; an absolute offset excludes all four
abbrev pub mod_rm_fits : (reg group mem rm_group offset : Bool) → Bool
mod_rm_fits reg group mem rm_group offset =
    not (reg && group) && (not (mem && rm_group) && ((not (reg || group) || (mem || rm_group)) && not (offset && (reg || (group || (mem || rm_group))))))

abbrev pub mod_rm_holds : RawRecord → Bool
mod_rm_holds r =
    mod_rm_fits (has_class RegSlot r.operands) (grouped r.group_index) (has_class Memory r.operands) (grouped r.rm_group_index) (has_class Offset r.operands)

-- Rule 5, the immediates.

abbrev pub imm_kind : OpKind → Bool
imm_kind k = nat_le 6 (kind_number k) && nat_le (kind_number k) 14

-- a branch over one byte may go to a target of 16, 32 or 64 bits, over two bytes of 16, over four of 32 or 64
abbrev pub branch_holds : OpKind → ℕ → Bool
branch_holds k s =
    (s == 1 && (nat_le 1 (kind_number k) && nat_le (kind_number k) 3))
    || ((s == 2 && kind_number k == 1) || (s == 4 && (nat_le 2 (kind_number k) && nat_le (kind_number k) 3)))

abbrev pub op_imm_holds : Option Op → Bool
op_imm_holds (Some (ModRmRm r)) = true
op_imm_holds (Some (ModRmRmMemOnly must)) = true
op_imm_holds (Some (Vsib r)) = true
op_imm_holds (Some O) = true
op_imm_holds (Some (ModRmReg r)) = true
op_imm_holds (Some (RegEmbed8 r)) = true
op_imm_holds (Some (Reg n)) = true
op_imm_holds (Some (Hx r)) = true
op_imm_holds (Some (Ib k)) = imm_kind k
op_imm_holds (Some (Id k)) = imm_kind k
op_imm_holds (Some Iq) = true
op_imm_holds (Some (J k s)) = branch_holds k s
op_imm_holds None = true

abbrev pub shape_known : ImmShape → Bool
shape_known Imm.Nothing = true
shape_known Imm.Ib = true
shape_known Imm.IbIb = true
shape_known Imm.Id = true
shape_known Imm.Iq = true
shape_known (Imm.J s) = true
shape_known Imm.Wrong = false

abbrev pub immediates_hold : RawRecord → Bool
immediates_hold r = shape_known (imm_shape r.operands) && each op_imm_holds r.operands

-- Rule 6, operands and heads.

abbrev pub op_vector_holds : Option Op → Bool
op_vector_holds (Some (ModRmRm r)) = true
op_vector_holds (Some (ModRmRmMemOnly must)) = true
op_vector_holds (Some (Vsib r)) = range_vector16 r || range_vector32 r
op_vector_holds (Some O) = true
op_vector_holds (Some (ModRmReg r)) = true
op_vector_holds (Some (RegEmbed8 r)) = true
op_vector_holds (Some (Reg n)) = true
op_vector_holds (Some (Hx r)) = true
op_vector_holds (Some (Ib k)) = true
op_vector_holds (Some (Id k)) = true
op_vector_holds (Some Iq) = true
op_vector_holds (Some (J k s)) = true
op_vector_holds None = true

abbrev pub heads_hold : RawRecord → Bool
heads_hold r =
    let hx = has_class Vvvv r.operands in
    let vsib = has_class Vector r.operands in
    not (is_legacy r.head && (hx || vsib))
    && (not (is_evex r.head && (hx && vsib))
    && (not (not (is_legacy r.head) && has_class Offset r.operands)
    && (each op_vector_holds r.operands
    && (not (has_flag r.enc_flags3 Flags.Broadcast) || (is_evex r.head && has_class Broadcastable r.operands)))))

-- Rule 7, modes and sizes.

-- a size of addresses that ModRM and offset operands can have
abbrev pub address_open : CodeSize → Bool
address_open s = size_number s == 0 || size_number s == 3

-- a legacy record that sets REX.W
abbrev pub sets_w : RawRecord → Bool
sets_w r = is_legacy r.head && (size_number r.op_size == 3 && not (has_flag r.enc_flags3 Flags.DefaultOpSize64))

-- some mode is allowed; memory leaves the address size open; REX.W is for mode 64 alone
abbrev pub modes_fit : (old new mem free wide : Bool) → Bool
modes_fit old new mem free wide = (old || new) && ((not mem || free) && (not wide || (new && not old)))

abbrev pub modes_hold : RawRecord → Bool
modes_hold r =
    modes_fit (has_flag r.enc_flags3 Flags.Bit16Or32) (has_flag r.enc_flags3 Flags.Bit64) (has_class Memory r.operands || has_class Offset r.operands) (address_open r.addr_size) (sets_w r)

-- Rule 8, the first byte.

-- a byte that stands before an instruction: segments, operand and address size, LOCK, REPNE, REPE
abbrev pub is_prefix : ℕ → Bool
is_prefix b =
    (b == 0x26) || (b == 0x2E || (b == 0x36 || (b == 0x3E || (b == 0x64 || (b == 0x65 || (b == 0x66 || (b == 0x67 || (b == 0xF0 || (b == 0xF2 || b == 0xF3)))))))))

-- a byte that is REX in mode 64
abbrev pub is_rex : ℕ → Bool
is_rex b = nat_le 0x40 b && nat_le b 0x4F

-- a byte that begins an opcode: no prefix, and no REX where the record is for mode 64
abbrev pub begins : Bool → ℕ → Bool
begins only_old b = not (is_prefix b) && (not (is_rex b) || only_old)

-- the same of every byte that an embedded register can make of b
abbrev pub begins_embedded : Bool → ℕ → Bool
begins_embedded o b = list_all (begins o) (range_with_len b 8)

abbrev pub only_old : RawRecord → Bool
only_old r = has_flag r.enc_flags3 Flags.Bit16Or32 && not (has_flag r.enc_flags3 Flags.Bit64)

-- the first byte after prefixes, mandatory byte and REX of a legacy record
abbrev pub first_holds : RawRecord → LegacyHead → Bool
first_holds r h =
    cond (not (h.table_byte1 == 0)) (begins (only_old r) h.table_byte1) (
    cond r.is_2byte_opcode (begins (only_old r) (r.op_code / 256)) (
    cond (has_class Embedded r.operands) (begins_embedded (only_old r) r.op_code) (
    begins (only_old r) r.op_code)))

abbrev pub head_first_holds : RawRecord → Head → Bool
head_first_holds r (Legacy h) = first_holds r h
head_first_holds r (Vex h) = true
head_first_holds r (Evex h) = true

abbrev pub first_byte_holds : RawRecord → Bool
first_byte_holds r = (not (has_class Embedded r.operands) || r.op_code % 8 == 0) && head_first_holds r r.head

-- the first rule that is broken, none in a sound record
abbrev pub broken : RawRecord → Option Rule
broken r =
    cond (not (fields_hold r)) (Some Rules.Fields) (
    cond (not (ranges_hold r)) (Some Rules.Ranges) (
    cond (not (slots_hold r)) (Some Rules.Slots) (
    cond (not (mod_rm_holds r)) (Some Rules.ModRm) (
    cond (not (immediates_hold r)) (Some Rules.Immediates) (
    cond (not (heads_hold r)) (Some Rules.Heads) (
    cond (not (modes_hold r)) (Some Rules.Modes) (
    cond (not (first_byte_holds r)) (Some Rules.FirstByte) None)))))))
