-- Memory operands, by the manual's tables of 16-bit and of 32-bit and 64-bit addressing forms.
use Rattle.std.specs.Prelude.{ℕ, ◌+◌, ◌*◌, ◌%◌, Bool, cond, ◌&&◌, ◌||◌, ℤ, Some, None, Option, ◌==◌}
use Rattle.std.specs.Int.{w8, w32, w64}
use Rattle.std.proofs.Common.{to_z, of_z}
use Rattle.machine.specs.declared.mode.Mode.{Mode}
use Rattle.machine.specs.Modes.{is64}
use Rattle.record.specs.declared.op.RegisterRange.{RegisterRange}
use Rattle.fields.specs.declared.cut.Cut.{Cut}
use Rattle.fields.specs.declared.lead.Lead.{Lead}
use Rattle.fields.specs.declared.mod_rm.ModRm.{ModRm}
use Rattle.machine.specs.declared.sib.Sib.{Sib}
use Rattle.fields.specs.ModRms.{bare, sib_bare, vector_number}
use Rattle.reader.specs.declared.operand.Memory.{Memory}

-- modulo two to the bits of so many bytes, 2, 4 or 8
abbrev pub modulo : ℕ → ℕ → ℕ
modulo width n = cond (width == 2) (n % 65536) (cond (width == 4) (n % 4294967296) (n % 18446744073709551616))

-- the number of the first general register of so many bits
abbrev pub first_general : ℕ → ℕ
first_general width = cond (width == 8) 53 37

-- 16-bit: BX 24, BP 26, SI 27, DI 28
abbrev pub base16 : ModRm → ℕ
base16 x =
    cond (x.rm == 0 || x.rm == 1) 24 (
    cond (x.rm == 2 || x.rm == 3) 26 (
    cond (x.rm == 4) 27 (
    cond (x.rm == 5) 28 (
    cond (x.rm == 6) (cond (x.mode == 0) 0 26) 24))))

abbrev pub index16 : ModRm → ℕ
index16 x = cond (x.rm == 0 || x.rm == 2) 27 (cond (x.rm == 1 || x.rm == 3) 28 0)

-- mod 00 and rm 101 count from the next instruction in mode 64: RIP 70, under 67 EIP 69; elsewhere there is no base
abbrev pub bare_base : Mode → ℕ → ℕ
bare_base m width = cond (is64 m) (cond (width == 8) 70 69) 0

abbrev pub base_of : Mode → ℕ → Lead → ModRm → Option Sib → ℕ
base_of m width lead x (Some s) = cond (sib_bare x s) 0 (first_general width + (8 * lead.b + s.base))
base_of m width lead x None = cond (bare x) (bare_base m width) (first_general width + (8 * lead.b + x.rm))

-- index bits 100 without X stand for none, but for a vector index
abbrev pub no_index : Lead → Sib → Bool
no_index lead s = s.index == 4 && lead.x == 0

abbrev pub index_of : ℕ → Option RegisterRange → Lead → Option Sib → ℕ
index_of width (Some g) lead (Some s) = g.lo + vector_number lead s
index_of width None lead (Some s) = cond (no_index lead s) 0 (first_general width + (8 * lead.x + s.index))
index_of width vsib lead None = 0

-- the scale counts where an index is
abbrev pub scale_of : Option RegisterRange → Lead → Option Sib → ℕ
scale_of (Some g) lead (Some s) = s.scale
scale_of None lead (Some s) = cond (no_index lead s) 0 s.scale
scale_of vsib lead None = 0

-- the displacement as 64 bits: one byte by the policy's meaning, four by their sign
abbrev pub displ_number : (ℤ → ℤ) → ℕ → ℕ → ℕ
displ_number f size d = cond (size == 1) (of_z w64 (f (to_z w8 d))) (cond (size == 4) (of_z w64 (to_z w32 d)) d)

-- a base that counts from the next instruction
abbrev pub counts_on : ℕ → Bool
counts_on base = base == 69 || base == 70

abbrev pub address_made : ℕ → ℕ → ℕ → ℕ → ℕ → ℕ → Memory
address_made width next base index scale d =
    record { width = width; base = base; index = index; scale = scale; displ = modulo width (cond (counts_on base) (next + d) d) }

abbrev pub address16 : (ℤ → ℤ) → ℕ → Cut → Memory
address16 f next c = address_made 2 next (base16 c.mod_rm) (index16 c.mod_rm) 0 (displ_number f c.displ_size c.displ)

abbrev pub address32 : (ℤ → ℤ) → Mode → ℕ → Option RegisterRange → Cut → Memory
address32 f m next vsib c =
    address_made c.width next (base_of m c.width c.lead c.mod_rm c.mod_rm.sib) (index_of c.width vsib c.lead c.mod_rm.sib) (scale_of vsib c.lead c.mod_rm.sib) (displ_number f c.displ_size c.displ)

-- memory under ModRM
unfoldable pub memory_of : (ℤ → ℤ) → Mode → ℕ → Option RegisterRange → Cut → Memory
memory_of f m next vsib c = cond (c.width == 2) (address16 f next c) (address32 f m next vsib c)

-- memory at an absolute offset
abbrev pub offset_of : Cut → Memory
offset_of c = record { width = c.width; base = 0; index = 0; scale = 0; displ = c.displ }
