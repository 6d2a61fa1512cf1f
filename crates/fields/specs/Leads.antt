-- What stands between prefixes and opcode: REX and table bytes, VEX or EVEX.
use Rattle.std.specs.Prelude.{ℕ, ◌+◌, ◌-◌, ◌*◌, ◌/◌, ◌%◌, Bool, true, false, cond, not, ◌&&◌, ◌||◌, List, [], ◌∷◌, Ok, Err, Result, ◌==◌, nat_le}
use Rattle.fault.specs.declared.reader.ReadFault.{ReadFault}
use Rattle.fault.specs.declared.reader.ReadFault.TheVariants.{Ends, Differs}
use Rattle.machine.specs.declared.mode.Mode.{Mode}
use Rattle.machine.specs.Modes.{is64}
use Rattle.record.specs.declared.class.Class.TheVariants.{Vvvv}
use Rattle.record.specs.declared.flags.EncFlags3.{EncFlags3}
use Rattle.record.specs.declared.flags.Flag.TheVariants as Flags
use Rattle.record.specs.declared.head.EvexHead.{EvexHead}
use Rattle.record.specs.declared.head.Head.{Head}
use Rattle.record.specs.declared.head.Head.TheVariants.{Legacy, Vex, Evex}
use Rattle.record.specs.declared.head.LegacyHead.{LegacyHead}
use Rattle.record.specs.declared.head.VexHead.{VexHead}
use Rattle.record.specs.declared.raw.RawRecord.{RawRecord}
use Rattle.record.specs.Flags.{has_flag}
use Rattle.record.specs.Rules.{each, is_rex}
use Rattle.fields.specs.declared.lead.Lead.{Lead}
use Rattle.fields.specs.Bytes.{then, holding, required, byte_at, fixed_at}
use Rattle.fields.specs.Registers.{register_holds}

-- nothing, in front of the byte at a place
abbrev pub no_lead : ℕ → Lead
no_lead at = record { end = at; rex = false; r = 0; x = 0; b = 0; v = 0; opmask = 0; zeroing = false; bit = false }

-- 0100 W R X B
abbrev pub rex_lead : ℕ → ℕ → Lead
rex_lead at k = record { end = at + 1; rex = true; r = k / 4 % 2; x = k / 2 % 2; b = k % 2; v = 0; opmask = 0; zeroing = false; bit = false }

abbrev pub ending : Lead → ℕ → Lead
ending l at = record { end = at; rex = l.rex; r = l.r; x = l.x; b = l.b; v = l.v; opmask = l.opmask; zeroing = l.zeroing; bit = l.bit }

-- REX stands in mode 64 only
abbrev pub rex_there : Mode → ℕ → Bool
rex_there m b = is64 m && is_rex b

-- the table bytes, from the byte at place n of l on; l begins at the place `at`
abbrev pub tables_of : LegacyHead → ℕ → List ℕ → ℕ → Lead → Result Lead ReadFault
tables_of h at l n lead = then (fixed_at l n h.table_byte1) (λ e. then (fixed_at l e h.table_byte2) (λ f. Ok (ending lead (at + f))))

unfoldable pub legacy_of : Mode → LegacyHead → ℕ → List ℕ → Result Lead ReadFault
legacy_of m h at l =
    then (byte_at l 0) (λ b. cond (rex_there m b) (tables_of h at l 1 (rex_lead at b)) (tables_of h at l 0 (no_lead at)))

-- outside mode 64 the byte behind C4, C5 and 62 begins with 11; else these bytes begin other instructions
abbrev pub opens : Mode → ℕ → Bool
opens m p = is64 m || nat_le 192 p

-- R vvvv L pp, R and vvvv inverted
abbrev pub vex2_lead : ℕ → ℕ → Lead
vex2_lead at p = record { end = at + 2; rex = false; r = 1 - p / 128; x = 0; b = 0; v = 15 - p / 8 % 16; opmask = 0; zeroing = false; bit = false }

-- R X B mmmmm, W vvvv L pp
abbrev pub vex3_lead : ℕ → ℕ → ℕ → Lead
vex3_lead at p q = record { end = at + 3; rex = false; r = 1 - p / 128; x = 1 - p / 64 % 2; b = 1 - p / 32 % 2; v = 15 - q / 8 % 16; opmask = 0; zeroing = false; bit = false }

-- the form of two bytes is for map 1
abbrev pub vex2_of : Mode → VexHead → ℕ → ℕ → Result Lead ReadFault
vex2_of m h at p = holding (h.table == 1 && (opens m p && p % 4 == h.last_byte % 4)) (vex2_lead at p)

abbrev pub map_holds : Mode → VexHead → ℕ → Bool
map_holds m h p = opens m p && p % 32 == h.table

abbrev pub vex3_of : Mode → VexHead → ℕ → ℕ → ℕ → Result Lead ReadFault
vex3_of m h at p q = holding (map_holds m h p && q % 4 == h.last_byte % 4) (vex3_lead at p q)

-- the bytes end, but for what the bytes before them already tell
abbrev pub ends_if : Bool → Result Lead ReadFault
ends_if b = cond b (Err Ends) (Err Differs)

-- the first byte tells the two forms apart
unfoldable pub vex_of : Mode → VexHead → ℕ → List ℕ → Result Lead ReadFault
vex_of m h at [] = Err Ends
vex_of m h at (c ∷ []) = cond (c == 0xC5) (ends_if (h.table == 1)) (ends_if (c == 0xC4))
vex_of m h at (c ∷ (p ∷ [])) = cond (c == 0xC5) (vex2_of m h at p) (ends_if (c == 0xC4 && map_holds m h p))
vex_of m h at (c ∷ (p ∷ (q ∷ bs))) = cond (c == 0xC5) (vex2_of m h at p) (cond (c == 0xC4) (vex3_of m h at p q) (Err Differs))

-- R X B R' 0 mmm
abbrev pub evex1_holds : Mode → EvexHead → ℕ → Bool
evex1_holds m h p = opens m p && p % 16 == h.table

-- W vvvv 1 pp
abbrev pub evex2_holds : EvexHead → ℕ → Bool
evex2_holds h q = q / 4 % 2 == 1 && q % 4 == h.p1_bits % 4

-- z L' L b V' aaa: an opmask where one is allowed, and where one is required; zeroing where it is allowed
abbrev pub evex3_holds : EncFlags3 → ℕ → Bool
evex3_holds f s =
    (s % 8 == 0 || has_flag f Flags.OpMaskRegister)
    && ((not (s % 8 == 0) || not (has_flag f Flags.RequireOpMaskRegister)) && (s / 128 == 0 || has_flag f Flags.ZeroingMasking))

abbrev pub evex_lead : ℕ → ℕ → ℕ → ℕ → Lead
evex_lead at p q s =
    record { end = at + 4; rex = false; r = (1 - p / 128) + 2 * (1 - p / 16 % 2); x = 1 - p / 64 % 2; b = 1 - p / 32 % 2; v = (15 - q / 8 % 16) + 16 * (1 - s / 8 % 2); opmask = s % 8; zeroing = (s / 128 == 1); bit = (s / 16 % 2 == 1) }

unfoldable pub evex_of : Mode → EncFlags3 → EvexHead → ℕ → List ℕ → Result Lead ReadFault
evex_of m f h at l =
    then (byte_at l 0) (λ c. then (required (c == 0x62)) (λ _.
    then (byte_at l 1) (λ p. then (required (evex1_holds m h p)) (λ _.
    then (byte_at l 2) (λ q. then (required (evex2_holds h q)) (λ _.
    then (byte_at l 3) (λ s. holding (evex3_holds f s) (evex_lead at p q s))))))))

abbrev pub by_head : Mode → RawRecord → Head → ℕ → List ℕ → Result Lead ReadFault
by_head m r (Legacy h) at l = legacy_of m h at l
by_head m r (Vex h) at l = vex_of m h at l
by_head m r (Evex h) at l = evex_of m r.enc_flags3 h at l

-- the register in vvvv is complete at the head's last byte
abbrev pub lead_checked : Mode → RawRecord → Lead → Result Lead ReadFault
lead_checked m r lead = holding (each (register_holds m Vvvv lead.v) r.operands) lead

-- the head that begins at the place `at`, where l begins
unfoldable pub lead_of : Mode → RawRecord → ℕ → List ℕ → Result Lead ReadFault
lead_of m r at l = then (by_head m r r.head at l) (lead_checked m r)
