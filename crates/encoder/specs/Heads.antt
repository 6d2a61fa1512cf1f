-- Prefixes and heads: what stands before the opcode, put behind the bytes so far.
use Rattle.std.specs.Prelude.{ℕ, ◌+◌, ◌-◌, ◌*◌, ◌/◌, ◌%◌, Bool, true, false, cond, not, ◌&&◌, ◌||◌, List, [], ◌∷◌, ◌++◌, is_some, Some, None, Option, ◌==◌, nat_le}
use Rattle.std.specs.Bool.{then_some}
use Rattle.std.specs.Option.{option_or}
use Rattle.fault.specs.declared.encoding.EncodingFault.{EncodingFault}
use Rattle.fault.specs.declared.encoding.EncodingFault.TheVariants as E
use Rattle.machine.specs.declared.segment.Segment.{Segment}
use Rattle.machine.specs.Opmasks.{opmask_number}
use Rattle.machine.specs.Roundings.{rounding_number}
use Rattle.machine.specs.Segments.{segment_prefix}
use Rattle.instruction.specs.declared.made.EvexFields.{EvexFields}
use Rattle.instruction.specs.declared.made.PrefixFields.{PrefixFields}
use Rattle.gather.specs.declared.parts.HeadFlags.{HeadFlags}
use Rattle.gather.specs.declared.parts.Parts.{Parts}
use Rattle.record.specs.declared.flags.EncFlags3.{EncFlags3}
use Rattle.record.specs.declared.flags.Flag.TheVariants as Flags
use Rattle.record.specs.declared.head.EvexHead.{EvexHead}
use Rattle.record.specs.declared.head.Head.{Head}
use Rattle.record.specs.declared.head.Head.TheVariants.{Legacy, Vex, Evex}
use Rattle.record.specs.declared.head.LegacyHead.{LegacyHead}
use Rattle.record.specs.declared.head.VexHead.{VexHead}
use Rattle.record.specs.Flags.{has_flag}
use Rattle.encoder.specs.declared.settings.Settings.{Settings}
use Rattle.encoder.specs.Lines.{opt}

abbrev pub bit : Bool → ℕ
bit true = 1
bit false = 0

abbrev pub segment_byte : Option Segment → ℕ
segment_byte (Some s) = segment_prefix s
segment_byte None = 0

-- segment, LOCK, operand size, address size, REPE where it may stand, REPNE
unfoldable pub prefixes_onto : List ℕ → HeadFlags → PrefixFields → Bool → List ℕ
prefixes_onto l f p repe =
    (((((l ++ opt (is_some p.segment) (segment_byte p.segment)) ++ opt p.lock 0xF0) ++ opt f.p66 0x66) ++ opt f.p67 0x67) ++ opt (repe && p.repe) 0xF3) ++ opt p.repne 0xF2

-- the bits of the register in ModRM.reg
abbrev pub r_bit : Parts → ℕ
r_bit p = p.reg / 8 % 2

abbrev pub r2_bit : Parts → ℕ
r2_bit p = p.reg / 16 % 2

abbrev pub x_bit : Parts → ℕ
x_bit p = p.rm.x % 2

abbrev pub b_bit : Parts → ℕ
b_bit p = p.rm.b % 2

-- REX: 40 and W, R, X, B; there where one of them is set or a register asks for it
abbrev pub rex_byte : Parts → ℕ
rex_byte p = 64 + 8 * bit p.flags.w + 4 * r_bit p + 2 * x_bit p + b_bit p

abbrev pub has_rex : Parts → Bool
has_rex p = p.flags.rex || not (rex_byte p == 64)

-- a REPE prefix may stand: not where it is the head's mandatory byte
abbrev pub repe_stands : Head → Bool
repe_stands (Legacy h) = not (h.mandatory_prefix == 0xF3)
repe_stands (Vex h) = true
repe_stands (Evex h) = true

-- mandatory byte, REX, table bytes
unfoldable pub legacy_onto : List ℕ → LegacyHead → Parts → List ℕ
legacy_onto l h p =
    (((l ++ opt (not (h.mandatory_prefix == 0)) h.mandatory_prefix) ++ opt (has_rex p) (rex_byte p)) ++ opt (not (h.table_byte1 == 0)) h.table_byte1) ++ opt (not (h.table_byte1 == 0) && not (h.table_byte2 == 0)) h.table_byte2

-- the three-byte form is needed
abbrev pub vex_long : Settings → VexHead → Parts → Bool
vex_long s h p = (s.prevent_vex2 || h.w1) || ((not (h.table == 1) || p.flags.w) || (x_bit p == 1 || b_bit p == 1))

abbrev pub inverted_vvvv : Parts → ℕ
inverted_vvvv p = 8 * (15 - p.vvvv % 16)

-- a bit of the record, or of the settings where the instruction ignores it
abbrev pub or_setting : (set ignored setting : Bool) → ℕ
or_setting set ignored setting = bit (set || (ignored && setting))

-- the bits that stand inverted at the head of a byte
abbrev pub inverted_r : Parts → ℕ
inverted_r p = 128 * (1 - r_bit p)

abbrev pub inverted_rxb : Parts → ℕ
inverted_rxb p = inverted_r p + 64 * (1 - x_bit p) + 32 * (1 - b_bit p)

abbrev pub vex_byte1 : VexHead → Parts → ℕ
vex_byte1 h p = inverted_rxb p + h.table % 32

-- vvvv, L under a mask and the mandatory prefix
abbrev pub vex_low : Settings → VexHead → ℕ → Parts → ℕ
vex_low s h mask p = inverted_vvvv p + 4 * or_setting (h.last_byte / 4 % 2 == 1) (mask / 4 % 2 == 1) s.vex_lig + h.last_byte % 4

abbrev pub vex_byte2 : Settings → VexHead → Parts → ℕ
vex_byte2 s h p = 128 * or_setting (nat_le 128 h.last_byte) (nat_le 128 h.mask_w_l) s.vex_wig + vex_low s h h.mask_w_l p

abbrev pub vex_byte : Settings → VexHead → Parts → ℕ
vex_byte s h p = inverted_r p + vex_low s h h.mask_l p

unfoldable pub vex_onto : List ℕ → Settings → VexHead → Parts → List ℕ
vex_onto l s h p = cond (vex_long s h p) (l ++ (0xC4 ∷ (vex_byte1 h p ∷ (vex_byte2 s h p ∷ [])))) (l ++ (0xC5 ∷ (vex_byte s h p ∷ [])))

-- rounding is asked
abbrev pub rounds : EvexFields → Bool
rounds e = not (rounding_number e.rounding == 0)

-- V' of vvvv or of a vector index
abbrev pub v2_bit : Parts → ℕ
v2_bit p = bit (p.vvvv / 16 % 2 == 1 || p.rm.v2 % 2 == 1)

-- the two L bits: of rounding, else of the record; none where suppress-all-exceptions takes their place
abbrev pub ll_bits : EncFlags3 → EvexHead → EvexFields → ℕ
ll_bits f h e = cond (rounds e) (rounding_number e.rounding - 1) (cond (has_flag f Flags.SuppressAllExceptions && e.sae) 0 (h.ll_bits / 32 % 4))

abbrev pub evex_byte1 : EvexHead → Parts → ℕ
evex_byte1 h p = inverted_rxb p + 16 * (1 - r2_bit p) + h.table % 16

abbrev pub evex_byte2 : Settings → EvexHead → Parts → ℕ
evex_byte2 s h p = 128 * or_setting (nat_le 128 h.p1_bits) (nat_le 128 h.mask_w) s.evex_wig + inverted_vvvv p + 4 + h.p1_bits % 4

-- the high and the low L bit
abbrev pub ll_high : Settings → EvexHead → ℕ → ℕ
ll_high s h ll = or_setting (ll / 2 % 2 == 1) (h.mask_ll == 96) s.evex_lig.high

abbrev pub ll_low : Settings → EvexHead → ℕ → ℕ
ll_low s h ll = or_setting (ll % 2 == 1) (h.mask_ll == 96) s.evex_lig.low

abbrev pub evex_byte3 : Settings → EncFlags3 → EvexHead → Parts → EvexFields → ℕ
evex_byte3 s f h p e =
    128 * bit e.zeroing + 64 * ll_high s h (ll_bits f h e) + 32 * ll_low s h (ll_bits f h e) + 16 * bit (p.flags.broadcast || (e.sae || rounds e)) + 8 * (1 - v2_bit p) + opmask_number e.opmask

unfoldable pub evex_onto : List ℕ → Settings → EncFlags3 → EvexHead → Parts → EvexFields → List ℕ
evex_onto l s f h p e = l ++ (0x62 ∷ (evex_byte1 h p ∷ (evex_byte2 s h p ∷ (evex_byte3 s f h p e ∷ []))))

-- the refusal of what is asked and not allowed
abbrev pub unless_allowed : (asked allowed : Bool) → EncodingFault → Option EncodingFault
unless_allowed asked allowed f = then_some (asked && not allowed) f

-- what an EVEX instruction asks and its record does not allow, in order
abbrev pub evex_fault : EncFlags3 → Bool → EvexFields → Option EncodingFault
evex_fault f broadcast e =
    let masked = not (opmask_number e.opmask == 0) in
    option_or (option_or (option_or (option_or (option_or
    (unless_allowed masked (has_flag f Flags.OpMaskRegister) E.OpmaskNotAllowed)
    (unless_allowed (has_flag f Flags.RequireOpMaskRegister) masked E.OpmaskRequired))
    (unless_allowed e.sae (has_flag f Flags.SuppressAllExceptions) E.SaeNotAllowed))
    (unless_allowed (rounds e) (has_flag f Flags.RoundingControl) E.RoundingNotAllowed))
    (unless_allowed e.broadcast broadcast E.BroadcastNotAllowed))
    (unless_allowed e.zeroing (has_flag f Flags.ZeroingMasking) E.ZeroingNotAllowed)
