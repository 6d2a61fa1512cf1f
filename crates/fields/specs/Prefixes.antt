-- What stands first: FWAIT, and prefixes in any order.
use Rattle.std.specs.Prelude.{ℕ, ◌+◌, Bool, true, false, cond, not, ◌&&◌, ◌||◌, List, [], ◌∷◌, drop, Some, None, Ok, Option, Result, ◌==◌}
use Rattle.fault.specs.declared.reader.ReadFault.{ReadFault}
use Rattle.machine.specs.declared.mode.Mode.{Mode}
use Rattle.machine.specs.declared.mode.Mode.TheVariants.{Bits16, Bits32, Bits64}
use Rattle.machine.specs.declared.segment.Segment.{Segment}
use Rattle.machine.specs.Segments.{prefix_segment}
use Rattle.record.specs.declared.class.Class.TheVariants.{Vector}
use Rattle.record.specs.declared.flags.Flag.TheVariants as Flags
use Rattle.record.specs.declared.head.Head.{Head}
use Rattle.record.specs.declared.head.Head.TheVariants.{Legacy, Vex, Evex}
use Rattle.record.specs.declared.raw.RawRecord.{RawRecord}
use Rattle.record.specs.Classes.{has_class}
use Rattle.record.specs.Flags.{has_flag}
use Rattle.record.specs.Rules.{is_prefix}
use Rattle.fields.specs.declared.prefixes.Prefixes.{Prefixes}
use Rattle.fields.specs.Bytes.{then, holding, byte_at}

-- none yet, in front of the byte at a place
abbrev pub no_prefixes : ℕ → Prefixes
no_prefixes at = record { end = at; segment = None; p67 = false; last = 0 }

-- of several segments the last counts
abbrev pub segment_after : Option Segment → Option Segment → Option Segment
segment_after s (Some t) = Some t
segment_after s None = s

-- one prefix more
abbrev pub with_prefix : Prefixes → ℕ → Prefixes
with_prefix p b = record { end = p.end + 1; segment = segment_after p.segment (prefix_segment b); p67 = p.p67 || (b == 0x67); last = b }

-- all prefixes up to the first byte that is none
unfoldable pub scanned : List ℕ → Prefixes → Prefixes
scanned [] p = p
scanned (b ∷ bs) p = cond (is_prefix b) (scanned bs (with_prefix p b)) p

-- the bytes of an address: the mode's, and the other size under 67
abbrev pub address_width : Mode → Bool → ℕ
address_width Bits16 p67 = cond p67 4 2
address_width Bits32 p67 = cond p67 2 4
address_width Bits64 p67 = cond p67 4 8

-- the last prefix is the mandatory one; 00 asks nothing
abbrev pub mandatory_holds : Head → ℕ → Bool
mandatory_holds (Legacy h) last = h.mandatory_prefix == 0 || last == h.mandatory_prefix
mandatory_holds (Vex h) last = true
mandatory_holds (Evex h) last = true

-- and a vector index has no 16-bit address
abbrev pub prefixes_hold : Mode → RawRecord → Prefixes → Bool
prefixes_hold m r p = mandatory_holds r.head p.last && not (has_class Vector r.operands && address_width m p.p67 == 2)

-- FWAIT stands before everything else
abbrev pub fwait_of : RawRecord → List ℕ → Result ℕ ReadFault
fwait_of r w = cond (has_flag r.enc_flags3 Flags.Fwait) (then (byte_at w 0) (λ b. holding (b == 0x9B) 1)) (Ok 0)

-- behind the prefixes comes another byte
abbrev pub prefixes_checked : Mode → RawRecord → List ℕ → Prefixes → Result Prefixes ReadFault
prefixes_checked m r w p = then (byte_at w p.end) (λ b. holding (prefixes_hold m r p) p)

unfoldable pub prefixes_of : Mode → RawRecord → List ℕ → Result Prefixes ReadFault
prefixes_of m r w = then (fwait_of r w) (λ from. prefixes_checked m r w (scanned (drop from w) (no_prefixes from)))
