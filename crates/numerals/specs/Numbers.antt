use Rattle.std.specs.Prelude.{ℕ, ◌^◌, Bool, cond, not, ◌&&◌, List, length, take, Some, None, Option, ◌==◌, nat_lt}
use Rattle.std.specs.Char.{is_digit}
use Rattle.std.specs.List.{list_all, prefix_len}
use Rattle.std.specs.Str.Parse.{digits_value}
use Rattle.numerals.specs.declared.Radix.{Radix}
use Rattle.numerals.specs.declared.Radix.TheVariants.{Decimal, Hexadecimal}

-- how many digits there are
abbrev pub base : Radix → ℕ
base Decimal = 10
base Hexadecimal = 16

-- whether a text is one digit or more and nothing else
abbrev pub is_numeral : ℕ → List ℕ → Bool
is_numeral b t = nat_lt 0 (length t) && list_all (λ c. is_digit c b) t

-- the number below 2 ^ 64 that the digits of the whole text write
abbrev pub number_of : Radix → List ℕ → Option ℕ
number_of r t =
    cond (is_numeral (base r) t && nat_lt (digits_value (base r) t) (2 ^ 64))
    (Some (digits_value (base r) t))
    None

-- a number and its count of digits, none where there are none
abbrev pub written : ℕ → ℕ → Option (ℕ × ℕ)
written v k = cond (nat_lt 0 k) (Some (v, k)) None

-- how many bytes come before the first e
abbrev pub length_before : ℕ → List ℕ → ℕ
length_before e t = prefix_len (λ c. not (c == e)) t

-- the number that the bytes before the first e write, and how many they are
abbrev pub number_before : Radix → List ℕ → ℕ → Option (ℕ × ℕ)
number_before r t e = elim (number_of r (take (length_before e t) t)) [ Some v ↦ Some (v, length_before e t) | None ↦ None ]
