-- What holds of every memory operand.
use Rattle.std.specs.Prelude.{◌≡◌, ℕ, ◌%◌, Bool, true, false, ℤ, Some, Ok}
use Rattle.std.proofs.Common.{to_z}
use Rattle.std.specs.Int.{w16, w32}
use Rattle.policy.specs.Lowest.{Reached}
use Rattle.gather.specs.declared.memory.Out.{Out}
use Rattle.gather.specs.declared.memory.Out.TheVariants.{Nothing, Byte, Full, Wrong}
use Rattle.gather.specs.declared.parts.Displ.{Displ}
use Rattle.gather.specs.declared.parts.Displ.TheVariants as D
use Rattle.gather.specs.Memory.{displ_out}
use Rattle.gather.specs.Memory16.{one16}

-- one byte goes out
abbrev pub one_byte : Out → Bool
one_byte Nothing = false
one_byte (Byte v) = true
one_byte Full = false
one_byte Wrong = false

abbrev pub is_size1 : Displ → Bool
is_size1 D.Absent = false
is_size1 (D.Size1 b) = true
is_size1 (D.Size2 n) = false
is_size1 (D.Size4 n) = false
is_size1 (D.Size8 n) = false
is_size1 (D.RipRelSize4Target32 t) = false
is_size1 (D.RipRelSize4Target64 t) = false

-- whatever the bytes mean: a displacement asked in one byte over a base takes one byte exactly when some signed byte
-- stands for it, with addresses of 32 or 64 bits and of 16
abbrev pub OneByteExactlyWhereOneStands : Type 0
OneByteExactlyWhereOneStands =
    ((f : ℤ → ℤ) (bytes base d : ℕ) (out : Out) → displ_out f bytes (Some base) d 1 ≡ Ok out → (one_byte out ≡ true → Reached f (to_z w32 (d % 4294967296))) × (Reached f (to_z w32 (d % 4294967296)) → one_byte out ≡ true))
    × ((f : ℤ → ℤ) (rm d : ℕ) → (is_size1 (one16 f rm d).displ ≡ true → Reached f (to_z w16 (d % 65536))) × (Reached f (to_z w16 (d % 65536)) → is_size1 (one16 f rm d).displ ≡ true))
