-- What the digits so far say of the whole number.
use Rattle.std.proofs.Common.{◌≡◌, ℕ, ◌+◌, ◌*◌, ◌^◌, ◌<◌, ◌≤◌, true, List, [], ◌∷◌, length, get_or, drop, Some, None, sym, arith, le_refl}
use Rattle.std.proofs.Math.Nat.{mul-le-mul_left}
use Rattle.std.proofs.lemmas.Bool.Decides.{nat_tests}
use Rattle.std.proofs.lemmas.Grind.{common_steps}
use Rattle.std.proofs.lemmas.List.{drop_more, drop_all}
use Rattle.std.specs.Char.{digit_value, is_digit}
use Rattle.std.specs.List.{list_all}
use Rattle.std.specs.Str.Parse.{digits_value, digits_value_after}
use Rattle.numerals.specs.declared.Radix.{Radix}
use Rattle.numerals.specs.declared.Radix.TheVariants.{Decimal, Hexadecimal}
use Rattle.numerals.specs.Numbers.{base, number_of}

pub grows : (b n : ℕ) (t : List ℕ) → 1 ≤ b → n ≤ digits_value_after b n t
grows b n [] h = le_refl n
grows b n (c ∷ t) h =
    let more : n * 1 ≤ n * b = mul-le-mul_left n h in
    let rest = grows b (n * b + digit_value c) t h in
    omega arith

pub some_digits : (r : Radix) → 1 ≤ base r
some_digits Decimal = omega arith
some_digits Hexadecimal = omega arith

module _ (r : Radix) (t : List ℕ) (b v i : ℕ) (is : b ≡ base r) (value : digits_value_after b v (drop i t) ≡ digits_value b t) where
  pub too_large : i < length t → 2 ^ 64 ≤ v * b + digit_value (get_or t i 0) → None ≡ number_of r t
  too_large inside over =
      let some : 1 ≤ b = rw is (some_digits r) in
      let more : v * b + digit_value (get_or t i 0) ≤ digits_value_after b v (drop i t) = rw (drop_more t i 0 inside) (grows b (v * b + digit_value (get_or t i 0)) (drop (i + 1) t) some) in
      let large : 2 ^ 64 ≤ digits_value b t = omega arith in
      rw (← is) (grind (arith, common_steps, nat_tests, large))

  pub whole : length t ≤ i → list_all (λ c. is_digit c b) (drop i t) ≡ list_all (λ c. is_digit c b) t → v < 2 ^ 64 → 0 < length t → Some v ≡ number_of r t
  whole past digits small some =
      let all : list_all (λ c. is_digit c b) t ≡ true = rw (sym digits, drop_all i t past) in
      let same : digits_value b t ≡ v = rw (sym value, drop_all i t past) in
      rw (← is) (grind (arith, common_steps, nat_tests, all, same))
