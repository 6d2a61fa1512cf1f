use Rattle.std.specs.Prelude.{ℕ, cond, List, ℤ, Some, None, Option, nat_le}
use Rattle.numerals.specs.Numbers.{number_of}
use Rattle.numerals.specs.declared.Radix.{Radix}
use Rattle.text.specs.Numbers.{signed_of, signed_byte}

-- the number that a whole text is, where it is at most m
abbrev pub whole_of : Radix → List ℕ → ℕ → Option ℕ
whole_of r t m = elim (number_of r t) [ Some v ↦ cond (nat_le v m) (Some v) None | None ↦ None ]

-- the signed byte that a text is
abbrev pub small_word : List ℕ → Option ℤ
small_word t = elim (signed_of t) [ Some n ↦ signed_byte n | None ↦ None ]
