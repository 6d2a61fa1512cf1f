use Rattle.std.specs.Prelude.{ℕ, zero, suc, ◌+◌, Bool, true, false, cond, not, ◌&&◌, ◌||◌, List, length, take, drop, replicate, ℤ, pos, neg_ℤ, Some, None, Ok, Err, Option, Result, ◌==◌, nat_lt, int_lt, slice_range, slice_set}
use Rattle.std.specs.Ordering.{int_eq}
use Rattle.std.specs.List.{prefix_len}
use Rattle.numerals.specs.Numbers.{number_before}
use Rattle.numerals.specs.declared.Radix.TheVariants.{Decimal}
use Rattle.text.specs.Numbers.{signed_of}
use Rattle.text.specs.declared.case_fault.CaseFault.{CaseFault}
use Rattle.text.specs.declared.case_fault.CaseFault.TheVariants.{NotNumber, TooFew, TooMany, NotHeld}
use Rattle.text.specs.declared.numbers.Number.{Number}
use Rattle.text.specs.declared.numbers.Numbers.{Numbers}

abbrev pub nothing : Number
nothing = record { 0 = pos 0 }

abbrev is_flag_place : ℕ → Bool
is_flag_place p = p == 14 || (p == 39 || (p == 40 || (p == 41 || (p == 57 || (p == 58 || p == 59)))))

abbrev is_kind_place : ℕ → Bool
is_kind_place p = p == 22 || (p == 25 || (p == 28 || (p == 31 || p == 34)))

abbrev after_kind_place : ℕ → Bool
after_kind_place p = p == 23 || (p == 26 || (p == 29 || (p == 32 || p == 35)))

-- the largest number that can be held at a place after the number n; none where any number can
abbrev pub limit_of : ℕ → Number → Option ℕ
limit_of p n =
    cond (p == 0 || (p == 1 || p == 46)) (Some 0xFFFFFFFFFFFFFFFF) (
    cond (p == 7) (Some 2) (
    cond (p == 11 || p == 47) (Some 0xFFFFFFFF) (
    cond (p == 12 || p == 13) (Some 3) (
    cond (is_flag_place p) (Some 1) (
    cond (is_kind_place p) (Some 12) (
    cond (after_kind_place p && int_eq n.0 (pos 2)) (Some 1) (
    cond (p == 45) (Some 255) None)))))))

abbrev pub in_piece : ℕ → Bool
in_piece b = not (b == 32)

-- the place of the first space from `at` on, or the line's end
abbrev pub piece_end : List ℕ → ℕ → ℕ
piece_end l at = at + prefix_len in_piece (drop at l)

abbrev pub with_sign : Bool → ℕ → ℤ
with_sign true v = neg_ℤ (pos v)
with_sign false v = pos v

-- the number that the digits before the first space write, behind a minus or not, and how many digits they are
unfoldable pub signed_before : Bool → List ℕ → Option (Number × ℕ)
signed_before m t = elim (number_before Decimal t 32) [ Some p ↦ Some (record { 0 = with_sign m p.0 }, p.1) | None ↦ None ]

-- the number before the first space or the end of a text, and how many bytes it has
unfoldable pub piece_of : List ℕ → Option (Number × ℕ)
piece_of t = elim (signed_of (take (prefix_len in_piece t) t)) [ Some n ↦ Some (record { 0 = n }, prefix_len in_piece t) | None ↦ None ]

-- the number between two places that are a space or an end of the line, and the second place
abbrev pub number_at : List ℕ → ℕ → Option (Number × ℕ)
number_at l at = elim (signed_of (slice_range l at (piece_end l at))) [ Some n ↦ Some (record { 0 = n }, piece_end l at) | None ↦ None ]

-- where the number of a place begins, after what ended at `at`
abbrev pub start_from : List ℕ → ℕ → ℕ → Option ℕ
start_from l at p = cond (p == 0) (Some 0) (cond (nat_lt at (length l)) (Some (at + 1)) None)

abbrev pub held : Option ℕ → ℕ → Number × ℕ → Result (Number × ℕ) CaseFault
held (Some most) p x = cond (int_lt x.0.0 (pos 0) || int_lt (pos most) x.0.0) (Err (NotHeld (p + 1) most)) (Ok x)
held None p x = Ok x

-- the number of a place, and where it ends
abbrev pub item_of : List ℕ → ℕ → ℕ → Number → Result (Number × ℕ) CaseFault
item_of l at p n = elim (start_from l at p) [
  | Some from ↦ elim (number_at l from) [
    | Some x ↦ held (limit_of p n) p x
    | None ↦ Err (NotNumber (p + 1))
  ]
  | None ↦ Err (TooFew p)
]

abbrev pub after : Result (Number × ℕ) CaseFault → (Number × ℕ → Result Numbers CaseFault) → Result Numbers CaseFault
after (Ok x) f = f x
after (Err e) f = Err e

-- k numbers more from the place p on, put in among ns, after the number n
unfoldable pub read_from : ℕ → List Number → ℕ → Number → List ℕ → ℕ → Result Numbers CaseFault
read_from zero ns p n l at = cond (nat_lt at (length l)) (Err TooMany) (Ok record { all = ns })
read_from (suc k) ns p n l at = after (item_of l at p n) (λ x. read_from k (slice_set ns p x.0) (p + 1) x.0 l x.1)

-- the 61 numbers of a line
abbrev pub numbers_of : List ℕ → Result Numbers CaseFault
numbers_of l = read_from 61 (replicate 61 nothing) 0 nothing l 0
