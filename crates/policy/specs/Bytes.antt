-- How a signed byte is found: by its range, and by shifts.
use Rattle.std.specs.Prelude.{ℕ, ◌*◌, ◌%◌, ◌^◌, cond, ◌&&◌, ℤ, pos, negsuc, Some, None, Option, int_le}
use Rattle.std.specs.Int.Signed.{shr_z}
use Rattle.std.specs.Int.{w32}
use Rattle.std.proofs.Common.{to_z, of_z}
use Rattle.std.specs.Ordering.{int_eq}
use Rattle.policy.specs.Meanings.{scaled_spread}

-- the number, where it is a signed byte
abbrev pub byte_of : ℤ → Option ℤ
byte_of v = cond (int_le (negsuc 127) v && int_le v (pos 127)) (Some v) None

-- the 32 bits of a number moved up by k places
abbrev pub moved_up : ℤ → ℕ → ℤ
moved_up v k = to_z w32 (of_z w32 v * 2 ^ k % 2 ^ 32)

-- the quotient, where it is a signed byte and leaves no rest
abbrev pub exact_byte : ℕ → ℤ → Option ℤ
exact_byte scale d = elim (byte_of (shr_z d scale)) [ Some v ↦ cond (int_eq (scaled_spread scale v) d) (Some v) None | None ↦ None ]
