use Rattle.std.specs.Prelude.{ℕ, Bool, true, cond, not, List, drop, ℤ, pos, negsuc, neg_ℤ, Some, None, Option, ◌==◌, nat_le, nat_lt, slice_index}
use Rattle.machine.specs.declared.code_size.CodeSize.{CodeSize}
use Rattle.machine.specs.declared.code_size.CodeSize.TheVariants.{Unknown}
use Rattle.machine.specs.declared.op_kind.OpKind.{OpKind}
use Rattle.machine.specs.declared.op_kind.OpKind.TheVariants.{Register}
use Rattle.machine.specs.CodeSizes.{size_named}
use Rattle.machine.specs.OpKinds.{kind_named}
use Rattle.numerals.specs.Numbers.{number_of}
use Rattle.numerals.specs.declared.Radix.TheVariants.{Decimal}

-- the decimal number that a whole text is, a minus before it or not
abbrev pub signed_of : List ℕ → Option ℤ
signed_of t =
    cond (slice_index t 0 == 45)
    (elim (number_of Decimal (drop 1 t)) [ Some v ↦ Some (neg_ℤ (pos v)) | None ↦ None ])
    (elim (number_of Decimal t) [ Some v ↦ Some (pos v) | None ↦ None ])

-- a number from 0 to m, m where it is outside
abbrev pub capped : ℕ → ℤ → ℕ
capped m (pos n) = cond (nat_le n m) n m
capped m (negsuc n) = m

-- a number as a byte, 255 where none fits
abbrev pub byte_of : ℤ → ℕ
byte_of n = capped 255 n

-- a number as 32 bits, the largest where they do not fit
abbrev pub word_of : ℤ → ℕ
word_of n = capped 0xFFFFFFFF n

-- a number as 64 bits, the largest where they do not fit
abbrev pub long_of : ℤ → ℕ
long_of n = capped 0xFFFFFFFFFFFFFFFF n

-- the signed byte that a number is
abbrev pub signed_byte : ℤ → Option ℤ
signed_byte (pos n) = cond (nat_lt n 128) (Some (pos n)) None
signed_byte (negsuc n) = cond (nat_lt n 128) (Some (negsuc n)) None

-- a number as a signed byte, 127 where none fits
abbrev pub small_of : ℤ → ℤ
small_of n = elim (signed_byte n) [ Some v ↦ v | None ↦ pos 127 ]

abbrev pub flag_of : ℤ → Bool
flag_of (pos n) = not (n == 0)
flag_of (negsuc n) = true

-- a number as an operand kind, Register where it is none
abbrev pub kind_of : ℤ → OpKind
kind_of n = elim (kind_named (byte_of n)) [ Some k ↦ k | None ↦ Register ]

-- a number as a width, Unknown where it is none
abbrev pub code_size_of : ℤ → CodeSize
code_size_of n = elim (size_named (byte_of n)) [ Some s ↦ s | None ↦ Unknown ]
