-- Base and index in ModRM and SIB, and read back from them.
use Rattle.std.proofs.Common.{◌≡◌, ℕ, ◌+◌, ◌/◌, ◌%◌, ◌<◌, Bool, true, false, cond, ◌⊎◌, is_some, Some, None, Option, refl, arith}
use Rattle.std.proofs.lemmas.Bool.Decides.{nat_tests}
use Rattle.machine.specs.declared.mode.Mode.{Mode}
use Rattle.record.specs.declared.op.RegisterRange.{RegisterRange}
use Rattle.gather.specs.declared.memory.Out.{Out}
use Rattle.gather.specs.declared.memory.Out.TheVariants.{Nothing, Byte, Full, Wrong}
use Rattle.gather.specs.declared.parts.Displ.{Displ}
use Rattle.gather.specs.declared.parts.Displ.TheVariants as D
use Rattle.gather.specs.declared.parts.RmPart.{RmPart}
use Rattle.gather.specs.Memory.{address_part, out_mode, out_displ, low3_or, bit3, bit4, wants_sib}
use Rattle.fields.specs.declared.lead.Lead.{Lead}
use Rattle.fields.specs.declared.mod_rm.ModRm.{ModRm}
use Rattle.machine.specs.declared.sib.Sib.{Sib}
use Rattle.fields.specs.ModRms.{displ_size, has_sib}
use Rattle.reader.specs.Addresses.{base_of, index_of, scale_of, first_general}

-- ModRM and SIB as the reader has them
abbrev pub mod_rm_read : ℕ → ℕ → RmPart → ModRm
mod_rm_read at reg p = record { end = at; mode = p.mode; reg = reg; rm = p.rm; sib = p.sib }

-- the bits that the head holds for an address
pub record Holds (lead : Lead) (p : RmPart) : Type 0 where
  pub b : lead.b ≡ p.b
  pub x : lead.x ≡ p.x

-- a register by its number in a bank
abbrev pub named : ℕ → Option ℕ → ℕ
named lo (Some k) = lo + k
named lo None = 0

-- how long a displacement is
abbrev pub displ_length : Displ → ℕ
displ_length D.Absent = 0
displ_length (D.Size1 b) = 1
displ_length (D.Size2 n) = 2
displ_length (D.Size4 n) = 4
displ_length (D.Size8 n) = 8
displ_length (D.RipRelSize4Target32 t) = 4
displ_length (D.RipRelSize4Target64 t) = 4

-- what the way of the displacement asks of the base
abbrev pub Goes : Option ℕ → Out → Type 0
Goes (Some k) Nothing = k % 8 ≡ 5 → ⊥
Goes (Some k) (Byte v) = Unit {0}
Goes (Some k) Full = Unit {0}
Goes base Wrong = ⊥
Goes None Nothing = ⊥
Goes None (Byte v) = ⊥
Goes None Full = Unit {0}

-- an index that the bytes can say: of a vector bank, or a general register but the stack pointer, or none
abbrev pub Indexed : Option RegisterRange → Option ℕ → Type 0
Indexed (Some g) (Some j) = j < 32
Indexed (Some g) None = ⊥
Indexed None (Some j) = (j < 16) × (j ≡ 4 → ⊥)
Indexed None None = Unit {0}

-- the first register that an index can be
abbrev pub first_index : ℕ → Option RegisterRange → ℕ
first_index width (Some g) = g.lo
first_index width None = first_general width

module _ (m : Mode) (width at reg scale d : ℕ) (must : Bool) (wide : (width ≡ 4) ⊎ (width ≡ 8)) where
  abbrev read : Option ℕ → Option ℕ → Out → ModRm
  read base index out = mod_rm_read at reg (address_part must base index scale d out)

  pub base_back : (lead : Lead) (base index : Option ℕ) (out : Out) → Holds lead (address_part must base index scale d out) → Goes base out → ((k : ℕ) → base ≡ Some k → k < 16)
      → base_of m width lead (read base index out) (read base index out).sib ≡ named (first_general width) base
  base_back lead (Some k) (Some j) Nothing h g lt = let s = lt k refl in grind (arith, nat_tests)
  base_back lead (Some k) (Some j) (Byte v) h g lt = let s = lt k refl in grind (arith, nat_tests)
  base_back lead (Some k) (Some j) Full h g lt = let s = lt k refl in grind (arith, nat_tests)
  base_back lead (Some k) None Nothing h g lt = let s = lt k refl in grind (arith, nat_tests)
  base_back lead (Some k) None (Byte v) h g lt = let s = lt k refl in grind (arith, nat_tests)
  base_back lead (Some k) None Full h g lt = let s = lt k refl in grind (arith, nat_tests)
  base_back lead None index Full h g lt = grind (arith, nat_tests)
  base_back lead None index Nothing h g lt = absurd g
  base_back lead None index (Byte v) h g lt = absurd g
  base_back lead base index Wrong h g lt = absurd g

  pub index_back : (lead : Lead) (vsib : Option RegisterRange) (base index : Option ℕ) (out : Out) → Holds lead (address_part must base index scale d out) → (is_some vsib ≡ true → lead.v / 16 ≡ (address_part must base index scale d out).v2)
      → Indexed vsib index → index_of width vsib lead (read base index out).sib ≡ named (first_index width vsib) index
  index_back lead (Some g) base (Some j) out h v i = let s = v refl in grind (arith, nat_tests)
  index_back lead (Some g) base None out h v i = absurd i
  index_back lead None base (Some j) out h v i = grind (arith, nat_tests)
  index_back lead None base None out h v i = grind (arith, nat_tests)

  pub scale_back : (lead : Lead) (vsib : Option RegisterRange) (base index : Option ℕ) (out : Out) → Holds lead (address_part must base index scale d out) → Indexed vsib index
      → scale_of vsib lead (read base index out).sib ≡ cond (is_some index) scale 0
  scale_back lead (Some g) base (Some j) out h i = grind (arith, nat_tests)
  scale_back lead (Some g) base None out h i = absurd i
  scale_back lead None base (Some j) out h i = grind (arith, nat_tests)
  scale_back lead None base None out h i = grind (arith, nat_tests)

  -- the bytes of the displacement are as many as ModRM and SIB say
  pub size_back : (base index : Option ℕ) (out : Out) → Goes base out → (is_some base ≡ false → is_some index ≡ true) → displ_size width (read base index out) ≡ displ_length (out_displ d out)
  size_back (Some k) (Some j) Nothing g n = grind (arith, nat_tests)
  size_back (Some k) (Some j) (Byte v) g n = grind (arith, nat_tests)
  size_back (Some k) (Some j) Full g n = grind (arith, nat_tests)
  size_back (Some k) None Nothing g n = grind (arith, nat_tests)
  size_back (Some k) None (Byte v) g n = grind (arith, nat_tests)
  size_back (Some k) None Full g n = grind (arith, nat_tests)
  size_back None (Some j) Full g n = grind (arith, nat_tests)
  size_back None None Full g n = let e = n refl in grind (arith, nat_tests)
  size_back None index Nothing g n = absurd g
  size_back None index (Byte v) g n = absurd g
  size_back base index Wrong g n = absurd g

  pub sib_there : (base index : Option ℕ) (out : Out) → Goes base out → has_sib width (read base index out) ≡ is_some (address_part must base index scale d out).sib
  sib_there (Some k) (Some j) Nothing g = grind (arith, nat_tests)
  sib_there (Some k) (Some j) (Byte v) g = grind (arith, nat_tests)
  sib_there (Some k) (Some j) Full g = grind (arith, nat_tests)
  sib_there (Some k) None Nothing g = grind (arith, nat_tests)
  sib_there (Some k) None (Byte v) g = grind (arith, nat_tests)
  sib_there (Some k) None Full g = grind (arith, nat_tests)
  sib_there None (Some j) Full g = grind (arith, nat_tests)
  sib_there None None Full g = grind (arith, nat_tests)
  sib_there None index Nothing g = absurd g
  sib_there None index (Byte v) g = absurd g
  sib_there base index Wrong g = absurd g

-- the numbers of ModRM and SIB are in range
abbrev pub SibFits : Option Sib → Type 0
SibFits (Some s) = (s.scale < 4) × (s.index < 8) × (s.base < 8)
SibFits None = Unit {0}

pub record PartFits (p : RmPart) : Type 0 where
  pub mode_lt : p.mode < 4
  pub rm_lt : p.rm < 8
  pub b_lt : p.b < 2
  pub x_lt : p.x < 2
  pub v2_lt : p.v2 < 2
  pub sib_fits : SibFits p.sib

abbrev pub Below : ℕ → Option ℕ → Type 0
Below n (Some k) = k < n
Below n None = Unit {0}

pub mode_small : (base : Option ℕ) (out : Out) → out_mode base out < 3
mode_small (Some k) Nothing = omega arith
mode_small (Some k) (Byte v) = omega arith
mode_small (Some k) Full = omega arith
mode_small (Some k) Wrong = omega arith
mode_small None Nothing = omega arith
mode_small None (Byte v) = omega arith
mode_small None Full = omega arith
mode_small None Wrong = omega arith

low_small : (n : ℕ) (o : Option ℕ) → n < 8 → low3_or n o < 8
low_small n (Some k) h = omega arith
low_small n None h = h

bit3_small : (o : Option ℕ) → bit3 o < 2
bit3_small (Some k) = omega arith
bit3_small None = omega arith

bit4_small : (o : Option ℕ) → Below 32 o → bit4 o < 2
bit4_small (Some k) h = omega arith
bit4_small None h = omega arith

pub part_fits : (must : Bool) (base index : Option ℕ) (scale d : ℕ) (out : Out) → scale < 4 → Below 32 index → PartFits (address_part must base index scale d out)
part_fits must base index scale d out s i = go (wants_sib must base index scale)
  where
    go : (t : Bool) → PartFits (cond t record { mode = out_mode base out; rm = 4; b = bit3 base; x = bit3 index; v2 = bit4 index; sib = Some record { scale = scale; index = low3_or 4 index; base = low3_or 5 base }; displ = out_displ d out } record { mode = out_mode base out; rm = low3_or 0 base; b = bit3 base; x = 0; v2 = 0; sib = None; displ = out_displ d out })
    go true = record { mode_lt = let z = mode_small base out in omega arith; rm_lt = omega arith; b_lt = bit3_small base; x_lt = bit3_small index; v2_lt = bit4_small index i; sib_fits = (s, low_small 4 index (omega arith), low_small 5 base (omega arith)) }
    go false = record { mode_lt = let z = mode_small base out in omega arith; rm_lt = low_small 0 base (omega arith); b_lt = bit3_small base; x_lt = omega arith; v2_lt = omega arith; sib_fits = tt }

-- outside mode 64, where registers are below eight, no bit of the head is set
pub part_low : (must : Bool) (base index : Option ℕ) (scale d : ℕ) (out : Out) → Below 8 base → Below 8 index
    → ((address_part must base index scale d out).b ≡ 0) × ((address_part must base index scale d out).x ≡ 0) × ((address_part must base index scale d out).v2 ≡ 0)
part_low must (Some k) (Some j) scale d out b i = (grind (arith, nat_tests), grind (arith, nat_tests), grind (arith, nat_tests))
part_low must (Some k) None scale d out b i = (grind (arith, nat_tests), grind (arith, nat_tests), grind (arith, nat_tests))
part_low must None (Some j) scale d out b i = (grind (arith, nat_tests), grind (arith, nat_tests), grind (arith, nat_tests))
part_low must None None scale d out b i = (grind (arith, nat_tests), grind (arith, nat_tests), grind (arith, nat_tests))
