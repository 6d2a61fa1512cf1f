-- Targets of branches and of RIP operands.
use Rattle.std.specs.Prelude.{ℕ}
use Rattle.encoder.specs.declared.distance.Target.{Target}
use Rattle.encoder.specs.declared.distance.Target.TheVariants.{Bits16, Bits32, Bits64}
use Rattle.encoder.specs.Fields.{distance}

-- two to the width of a target
abbrev pub modulus : Target → ℕ
modulus (Bits16 t) = 65536
modulus (Bits32 t) = 4294967296
modulus (Bits64 t) = 18446744073709551616

abbrev pub target_distance : Target → ℕ → ℕ
target_distance (Bits16 t) next = distance 65536 t next
target_distance (Bits32 t) next = distance 4294967296 t next
target_distance (Bits64 t) next = distance 18446744073709551616 t next
