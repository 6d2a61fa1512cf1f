use Rattle.std.specs.Prelude.{ℕ, Bool, cond, ◌&&◌, ◌||◌, List, length, drop, Option, ◌==◌, nat_le, slice_index}
use Rattle.numerals.specs.Numbers as numbers
use Rattle.numerals.specs.declared.Radix.TheVariants.{Decimal, Hexadecimal}

-- whether a word begins with 0x or 0X
abbrev pub hex_word : List ℕ → Bool
hex_word w = nat_le 2 (length w) && (slice_index w 0 == 48 && (slice_index w 1 == 120 || slice_index w 1 == 88))

-- the number that the whole word is
abbrev pub number_of : List ℕ → Option ℕ
number_of w = cond (hex_word w) (numbers.number_of Hexadecimal (drop 2 w)) (numbers.number_of Decimal w)
