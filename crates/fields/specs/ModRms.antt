-- ModRM and SIB, and how long a displacement they ask for.
use Rattle.std.specs.Prelude.{ℕ, ◌+◌, ◌*◌, ◌/◌, ◌%◌, Bool, true, cond, not, ◌&&◌, ◌||◌, List, ℤ, pos, negsuc, Some, None, Ok, Option, Result, ◌==◌}
use Rattle.fault.specs.declared.reader.ReadFault.{ReadFault}
use Rattle.machine.specs.declared.mode.Mode.{Mode}
use Rattle.machine.specs.Modes.{is64}
use Rattle.record.specs.declared.class.Class.TheVariants.{RegSlot, Offset}
use Rattle.record.specs.declared.flags.Flag.TheVariants as Flags
use Rattle.record.specs.declared.op.Op.{Op}
use Rattle.record.specs.declared.op.Op.TheVariants.{ModRmRm, ModRmRmMemOnly, Vsib, O, ModRmReg, RegEmbed8, Reg, Hx, Ib, Id, Iq, J}
use Rattle.record.specs.declared.raw.RawRecord.{RawRecord}
use Rattle.record.specs.Classes.{has_class}
use Rattle.record.specs.Facts.{has_mod_rm}
use Rattle.record.specs.Flags.{has_flag}
use Rattle.record.specs.Rules.{each, is_evex}
use Rattle.fields.specs.declared.lead.Lead.{Lead}
use Rattle.fields.specs.declared.mod_rm.ModRm.{ModRm}
use Rattle.machine.specs.declared.sib.Sib.{Sib}
use Rattle.fields.specs.Bytes.{then, holding, required, byte_at}
use Rattle.fields.specs.Registers.{register_there, register_holds}

-- no ModRM byte; mod 11 stands for no memory
abbrev pub no_mod_rm : ℕ → ModRm
no_mod_rm at = record { end = at; mode = 3; reg = 0; rm = 0; sib = None }

-- mod reg rm
abbrev pub mod_rm_cut : ℕ → ℕ → ModRm
mod_rm_cut at c = record { end = at + 1; mode = c / 64; reg = c / 8 % 8; rm = c % 8; sib = None }

-- scale index base
abbrev pub sib_cut : ℕ → Sib
sib_cut c = record { scale = c / 64; index = c / 8 % 8; base = c % 8 }

abbrev pub with_sib : ModRm → Sib → ModRm
with_sib x s = record { end = x.end + 1; mode = x.mode; reg = x.reg; rm = x.rm; sib = Some s }

-- a register
abbrev pub direct : ModRm → Bool
direct x = x.mode == 3

-- mod 00 and rm 101: a displacement of four bytes and no base
abbrev pub bare : ModRm → Bool
bare x = x.mode == 0 && x.rm == 5

-- rm 100 asks for a SIB byte, but not in a 16-bit address
abbrev pub has_sib : ℕ → ModRm → Bool
has_sib width x = not (direct x) && (x.rm == 4 && not (width == 2))

-- mod 00 and base 101: a displacement of four bytes and no base
abbrev pub sib_bare : ModRm → Sib → Bool
sib_bare x s = x.mode == 0 && s.base == 5

-- a field of ModRM that a group fixes
abbrev pub group_holds : ℤ → ℕ → Bool
group_holds (pos n) k = k == n
group_holds (negsuc n) k = true

abbrev pub rm_group_holds : ℤ → ModRm → Bool
rm_group_holds (pos n) x = direct x && x.rm == n
rm_group_holds (negsuc n) x = true

-- the number of the register in ModRM.rm; only EVEX has five bits there
abbrev pub rm_number : Bool → Lead → ModRm → ℕ
rm_number evex lead x = 16 * cond evex lead.x 0 + 8 * lead.b + x.rm

-- the base is one of the eight outside mode 64; a 16-bit address has no B, nor one without base
abbrev pub base_holds : Mode → ℕ → Lead → ModRm → Bool
base_holds m width lead x = (width == 2 || (x.rm == 4 || bare x)) || (is64 m || lead.b == 0)

-- what ModRM says of an operand in rm: a register of its bank; memory where it has to be, with SIB where it has to be
abbrev pub rm_holds : Mode → Bool → ℕ → Lead → ModRm → Option Op → Bool
rm_holds m evex width lead x (Some (ModRmRm g)) = cond (direct x) (register_there m g (rm_number evex lead x)) (base_holds m width lead x)
rm_holds m evex width lead x (Some (ModRmRmMemOnly must)) = not (direct x) && ((not must || (x.rm == 4 || width == 2)) && base_holds m width lead x)
rm_holds m evex width lead x (Some (Vsib g)) = not (direct x) && x.rm == 4
rm_holds m evex width lead x (Some O) = true
rm_holds m evex width lead x (Some (ModRmReg g)) = true
rm_holds m evex width lead x (Some (RegEmbed8 g)) = true
rm_holds m evex width lead x (Some (Reg n)) = true
rm_holds m evex width lead x (Some (Hx g)) = true
rm_holds m evex width lead x (Some (Ib k)) = true
rm_holds m evex width lead x (Some (Id k)) = true
rm_holds m evex width lead x (Some Iq) = true
rm_holds m evex width lead x (Some (J k s)) = true
rm_holds m evex width lead x None = true

-- EVEX.b with memory is broadcast, which the record has to have
abbrev pub bit_holds : RawRecord → Lead → ModRm → Bool
bit_holds r lead x = (not lead.bit || direct x) || has_flag r.enc_flags3 Flags.Broadcast

abbrev pub mod_rm_holds : Mode → RawRecord → ℕ → Lead → ModRm → Bool
mod_rm_holds m r width lead x =
    (group_holds r.group_index x.reg && rm_group_holds r.rm_group_index x)
    && (each (register_holds m RegSlot (8 * lead.r + x.reg)) r.operands
    && (each (rm_holds m (is_evex r.head) width lead x) r.operands && bit_holds r lead x))

-- base and index are of the eight outside mode 64
abbrev pub sib_base_holds : Mode → Lead → ModRm → Sib → Bool
sib_base_holds m lead x s = sib_bare x s || (is64 m || lead.b == 0)

abbrev pub index_holds : Mode → Lead → Bool
index_holds m lead = is64 m || lead.x == 0

-- the number of a vector index; V' is its fifth bit
abbrev pub vector_number : Lead → Sib → ℕ
vector_number lead s = 16 * (lead.v / 16) + 8 * lead.x + s.index

-- what SIB says of an operand in rm
abbrev pub sib_holds : Mode → Lead → ModRm → Sib → Option Op → Bool
sib_holds m lead x s (Some (ModRmRm g)) = sib_base_holds m lead x s && index_holds m lead
sib_holds m lead x s (Some (ModRmRmMemOnly must)) = sib_base_holds m lead x s && index_holds m lead
sib_holds m lead x s (Some (Vsib g)) = sib_base_holds m lead x s && register_there m g (vector_number lead s)
sib_holds m lead x s (Some O) = true
sib_holds m lead x s (Some (ModRmReg g)) = true
sib_holds m lead x s (Some (RegEmbed8 g)) = true
sib_holds m lead x s (Some (Reg n)) = true
sib_holds m lead x s (Some (Hx g)) = true
sib_holds m lead x s (Some (Ib k)) = true
sib_holds m lead x s (Some (Id k)) = true
sib_holds m lead x s (Some Iq) = true
sib_holds m lead x s (Some (J k t)) = true
sib_holds m lead x s None = true

abbrev pub sib_checked : Mode → RawRecord → Lead → ModRm → Sib → Result ModRm ReadFault
sib_checked m r lead x s = holding (each (sib_holds m lead x s) r.operands) (with_sib x s)

abbrev pub mod_rm_checked : Mode → RawRecord → ℕ → Lead → List ℕ → ModRm → Result ModRm ReadFault
mod_rm_checked m r width lead l x =
    then (required (mod_rm_holds m r width lead x)) (λ _.
    cond (has_sib width x) (then (byte_at l 1) (λ c. sib_checked m r lead x (sib_cut c))) (Ok x))

-- the ModRM byte at the place `at`, where l begins, and SIB; none where the record has none
unfoldable pub mod_rm_of : Mode → RawRecord → ℕ → Lead → ℕ → List ℕ → Result ModRm ReadFault
mod_rm_of m r width lead at l =
    cond (has_mod_rm r) (then (byte_at l 0) (λ c. mod_rm_checked m r width lead l (mod_rm_cut at c))) (Ok (no_mod_rm at))

abbrev pub bare_at : ModRm → Option Sib → Bool
bare_at x (Some s) = sib_bare x s
bare_at x None = bare x

-- the bytes of the displacement: mod 01 one, mod 10 two or four, mod 00 none but without base
abbrev pub displ_size : ℕ → ModRm → ℕ
displ_size width x =
    cond (direct x) 0 (
    cond (x.mode == 1) 1 (
    cond (x.mode == 2) (cond (width == 2) 2 4) (
    cond (width == 2) (cond (x.rm == 6) 2 0) (cond (bare_at x x.sib) 4 0))))

-- an absolute offset is as long as an address
abbrev pub field_size : RawRecord → ℕ → ModRm → ℕ
field_size r width x = cond (has_class Offset r.operands) width (displ_size width x)
