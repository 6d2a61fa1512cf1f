-- What is asked of the parts of a memory operand: they fit, and they say the address that was handed in.
use Rattle.std.proofs.Common.{◌≡◌, ℕ, ◌+◌, ◌/◌, ◌%◌, ◌<◌, Bool, true, false, cond, not, ◌||◌, eqb, ℤ, is_some, Some, Option, refl, ap, ◌∙◌, arith}
use Rattle.std.proofs.lemmas.Bool.Decides.{nat_tests}
use Rattle.machine.specs.declared.mode.Mode.{Mode}
use Rattle.machine.specs.Modes.{is64, mode_bytes}
use Rattle.machine.specs.Scales.{scale_number}
use Rattle.instruction.specs.declared.made.Instruction.{Instruction}
use Rattle.record.specs.declared.op.RegisterRange.{RegisterRange}
use Rattle.gather.specs.declared.parts.Displ.{Displ}
use Rattle.gather.specs.declared.parts.Displ.TheVariants as D
use Rattle.gather.specs.declared.parts.RmPart.{RmPart}
use Rattle.gather.specs.Address.{in_range}
use Rattle.encoder.specs.Fields.{rip_distance, displ_far}
use Rattle.fields.specs.declared.cut.Cut.{Cut}
use Rattle.fields.specs.declared.lead.Lead.{Lead}
use Rattle.fields.specs.declared.mod_rm.ModRm.{ModRm}
use Rattle.fields.specs.ModRms.{displ_size, has_sib}
use Rattle.fields.specs.Prefixes.{address_width}
use Rattle.reader.specs.Addresses.{modulo, base16, index16, base_of, index_of, scale_of, displ_number, counts_on, address_made, address16, address32, memory_of}
use Rattle.roundtrip.specs.Meant.{scale_meant, memory_meant}
use Rattle.roundtrip.proofs.Shapes.{mod_rm_read, Holds, displ_length, PartFits}

-- the number that the bytes of a displacement hold; `place` is the address of the first, `imm` the bytes behind
abbrev pub displ_value : ℕ → ℕ → Displ → ℕ
displ_value place imm D.Absent = 0
displ_value place imm (D.Size1 b) = b
displ_value place imm (D.Size2 n) = n % 65536
displ_value place imm (D.Size4 n) = n % 4294967296
displ_value place imm (D.Size8 n) = n % 18446744073709551616
displ_value place imm (D.RipRelSize4Target32 t) = rip_distance 4294967296 t place imm
displ_value place imm (D.RipRelSize4Target64 t) = rip_distance 18446744073709551616 t place imm % 4294967296

-- base, index and scale under every size of address
abbrev pub base_in : Mode → ℕ → Lead → ModRm → ℕ
base_in m width lead x = cond (eqb width 2) (base16 x) (base_of m width lead x x.sib)

abbrev pub index_in : ℕ → Option RegisterRange → Lead → ModRm → ℕ
index_in width vsib lead x = cond (eqb width 2) (index16 x) (index_of width vsib lead x.sib)

abbrev pub scale_in : ℕ → Option RegisterRange → Lead → ModRm → ℕ
scale_in width vsib lead x = cond (eqb width 2) 0 (scale_of vsib lead x.sib)

-- the displacement, or the target where the base counts from the next instruction
abbrev pub displ_in : ℕ → ℕ → ℕ → ℕ → ℕ
displ_in width next base d = modulo width (cond (counts_on base) (next + d) d)

pub record Says (f : ℤ → ℤ) (m : Mode) (must : Bool) (vsib : Option RegisterRange) (i : Instruction) (width : ℕ) (p : RmPart) : Type 0 where
  pub fits : PartFits p
  pub memory : p.mode < 3
  pub low : is64 m ≡ false → (p.b ≡ 0) × (p.x ≡ 0) × (p.v2 ≡ 0)
  pub plain : is_some vsib ≡ false → p.v2 ≡ 0
  pub width_is : address_width m (not (eqb width (mode_bytes m))) ≡ width
  pub sib_there : (at reg : ℕ) → has_sib width (mod_rm_read at reg p) ≡ is_some p.sib
  pub size : (at reg : ℕ) → displ_size width (mod_rm_read at reg p) ≡ displ_length p.displ
  pub with_sib : (must || is_some vsib) ≡ true → eqb width 2 ≡ false → p.rm ≡ 4
  pub vector : (g : RegisterRange) → vsib ≡ Some g → (eqb width 2 ≡ false) × (in_range m g i.memory.index.number ≡ true)
  pub base : (lead : Lead) (at reg : ℕ) → Holds lead p → base_in m width lead (mod_rm_read at reg p) ≡ i.memory.base.number
  pub index : (lead : Lead) (at reg : ℕ) → Holds lead p → (is_some vsib ≡ true → lead.v / 16 ≡ p.v2) → index_in width vsib lead (mod_rm_read at reg p) ≡ i.memory.index.number
  pub scale : (lead : Lead) (at reg : ℕ) → Holds lead p → scale_in width vsib lead (mod_rm_read at reg p) ≡ scale_meant width i.memory.index.number (scale_number i.memory.scale)
  pub displ : (next place imm : ℕ) → next ≡ (place + (displ_length p.displ + imm)) % 18446744073709551616 → displ_far place imm p.displ ≡ false
      → displ_in width next i.memory.base.number (displ_number f (displ_length p.displ) (displ_value place imm p.displ)) ≡ modulo width i.mem_displ

-- the cut that these parts make
pub record CutOf (c : Cut) (p : RmPart) (width at reg place imm : ℕ) : Type 0 where
  pub width_is : c.width ≡ width
  pub mod_rm : c.mod_rm ≡ mod_rm_read at reg p
  pub size : c.displ_size ≡ displ_length p.displ
  pub displ : c.displ ≡ displ_value place imm p.displ
  pub holds : Holds c.lead p

memory_made : (f : ℤ → ℤ) (m : Mode) (next : ℕ) (vsib : Option RegisterRange) (c : Cut)
    → memory_of f m next vsib c ≡ address_made c.width next (base_in m c.width c.lead c.mod_rm) (index_in c.width vsib c.lead c.mod_rm) (scale_in c.width vsib c.lead c.mod_rm) (displ_number f c.displ_size c.displ)
unfolding memory_of
memory_made f m next vsib c = go (eqb c.width 2) refl
  where
    go : (t : Bool) → eqb c.width 2 ≡ t
        → cond t (address16 f next c) (address32 f m next vsib c) ≡ address_made c.width next (cond t (base16 c.mod_rm) (base_of m c.width c.lead c.mod_rm c.mod_rm.sib)) (cond t (index16 c.mod_rm) (index_of c.width vsib c.lead c.mod_rm.sib)) (cond t 0 (scale_of vsib c.lead c.mod_rm.sib)) (displ_number f c.displ_size c.displ)
    go true e = let w : 2 ≡ c.width = grind (arith, nat_tests) in ap (λ z. address_made z next (base16 c.mod_rm) (index16 c.mod_rm) 0 (displ_number f c.displ_size c.displ)) w
    go false e = refl

-- what such a cut says is what was handed in
pub memory_back : (f : ℤ → ℤ) (m : Mode) (must : Bool) (vsib : Option RegisterRange) (i : Instruction) (width : ℕ) (p : RmPart) (c : Cut) (at reg next place imm : ℕ) → Says f m must vsib i width p → CutOf c p width at reg place imm
    → (is_some vsib ≡ true → c.lead.v / 16 ≡ p.v2) → next ≡ (place + (displ_length p.displ + imm)) % 18446744073709551616 → displ_far place imm p.displ ≡ false → memory_of f m next vsib c ≡ memory_meant width i
memory_back f m must vsib i width p c at reg next place imm s h v n far =
    memory_made f m next vsib c
    ∙ (λ j. address_made (h.width_is j) next (base_in m (h.width_is j) c.lead (h.mod_rm j)) (index_in (h.width_is j) vsib c.lead (h.mod_rm j)) (scale_in (h.width_is j) vsib c.lead (h.mod_rm j)) (displ_number f (h.size j) (h.displ j)))
    ∙ (λ j. address_made width next (s.base c.lead at reg h.holds j) (s.index c.lead at reg h.holds v j) (s.scale c.lead at reg h.holds j) (displ_number f (displ_length p.displ) (displ_value place imm p.displ)))
    ∙ (λ j. record { width = width; base = i.memory.base.number; index = i.memory.index.number; scale = scale_meant width i.memory.index.number (scale_number i.memory.scale); displ = s.displ next place imm n far j })
