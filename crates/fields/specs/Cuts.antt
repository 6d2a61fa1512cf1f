-- An instruction cut into its fields.
use Rattle.std.specs.Prelude.{ℕ, ◌+◌, List, drop, Ok, Result}
use Rattle.fault.specs.declared.reader.ReadFault.{ReadFault}
use Rattle.machine.specs.declared.mode.Mode.{Mode}
use Rattle.record.specs.declared.raw.RawRecord.{RawRecord}
use Rattle.record.specs.Facts.{imm_bytes}
use Rattle.fields.specs.declared.code.Code.{Code}
use Rattle.fields.specs.declared.cut.Cut.{Cut}
use Rattle.fields.specs.declared.lead.Lead.{Lead}
use Rattle.fields.specs.declared.mod_rm.ModRm.{ModRm}
use Rattle.fields.specs.declared.prefixes.Prefixes.{Prefixes}
use Rattle.fields.specs.Bytes.{then, number_of}
use Rattle.fields.specs.Prefixes.{prefixes_of, address_width}
use Rattle.fields.specs.Leads.{lead_of}
use Rattle.fields.specs.Codes.{code_of}
use Rattle.fields.specs.ModRms.{mod_rm_of, field_size}

abbrev pub cut_made : ℕ → Prefixes → Lead → Code → ModRm → ℕ → ℕ → ℕ → ℕ → Cut
cut_made width p lead c x size displ isize imm =
    record { prefixes = p; width = width; lead = lead; code = c; mod_rm = x; displ_size = size; displ = displ; imm = imm; end = x.end + size + isize }

-- displacement and immediate behind ModRM and SIB
abbrev pub tail_of : RawRecord → List ℕ → ℕ → Prefixes → Lead → Code → ModRm → Result Cut ReadFault
tail_of r w width p lead c x =
    then (number_of (drop x.end w) (field_size r width x)) (λ displ.
    then (number_of (drop (x.end + field_size r width x) w) (imm_bytes r)) (λ imm.
    Ok (cut_made width p lead c x (field_size r width x) displ (imm_bytes r) imm)))

-- head, opcode, ModRM and SIB behind the prefixes
unfoldable pub body_of : Mode → RawRecord → List ℕ → Prefixes → Result Cut ReadFault
body_of m r w p =
    then (lead_of m r p.end (drop p.end w)) (λ lead.
    then (code_of m r lead lead.end (drop lead.end w)) (λ c.
    then (mod_rm_of m r (address_width m p.p67) lead c.end (drop c.end w)) (λ x.
    tail_of r w (address_width m p.p67) p lead c x)))

-- the bytes of the window cut into fields
unfoldable pub cut_of : Mode → RawRecord → List ℕ → Result Cut ReadFault
cut_of m r w = then (prefixes_of m r w) (body_of m r w)
