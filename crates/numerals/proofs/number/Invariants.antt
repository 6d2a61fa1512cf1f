use Rattle.std.proofs.Common.{◌≡◌, ◌^◌, ◌<◌, drop}
use Rattle.std.specs.Char.{is_digit}
use Rattle.std.specs.List.{list_all}
use Rattle.std.specs.Str.Parse.{digits_value, digits_value_after}
use Rattle.numerals.proofs.number.Given as goal

abbrev pub invariant-loop-byte : goal.invariant-loop-byte
invariant-loop-byte l = record {
  value : digits_value_after l.base l.value (drop l.byte-index l.text) ≡ digits_value l.base l.text;
  small : l.value < 2 ^ 64;
  digits : list_all (λ c. is_digit c l.base) (drop l.byte-index l.text) ≡ list_all (λ c. is_digit c l.base) l.text;
}
