-- A number in front of a space, and the piece that it is.
use Rattle.std.proofs.Common.{◌≡◌, ℕ, zero, suc, ◌+◌, ◌-◌, ◌<◌, ◌≤◌, Bool, true, false, cond, List, [], ◌∷◌, length, take, drop, Some, None, Option, refl, sym, ap, ◌∙◌, arith}
use Rattle.std.specs.Prelude.{◌==◌, ℤ, slice_index}
use Rattle.std.specs.List.{prefix_len}
use Rattle.numerals.specs.Numbers.{number_of}
use Rattle.numerals.specs.declared.Radix.TheVariants.{Decimal}
use Rattle.text.specs.Line.{in_piece, with_sign, signed_before, piece_of, number_at}
use Rattle.text.specs.Numbers.{signed_of}
use Rattle.text.specs.declared.numbers.Number.{Number}

-- a number with the bytes that it has
pub with_length : ℕ → Option ℤ → Option (Number × ℕ)
with_length k x = elim x [ Some n ↦ Some (record { 0 = n }, k) | None ↦ None ]

pub value : Bool → Option ℕ → Option ℤ
value m x = elim x [ Some v ↦ Some (with_sign m v) | None ↦ None ]

-- a number with its bytes behind `at`
pub placed : ℕ → Option (Number × ℕ) → Option (Number × ℕ)
placed at x = elim x [ Some p ↦ Some (p.0, at + p.1) | None ↦ None ]

moved : (at k : ℕ) (x : Option ℤ) → placed at (with_length k x) ≡ with_length (at + k) x
unfolding placed with_length
moved at k None = refl
moved at k (Some v) = refl

signed : (m : Bool) (k : ℕ) (x : Option ℕ) → (elim (elim x as (λ y. Option (ℕ × ℕ)) [ Some v ↦ Some (v, k) | None ↦ None ]) as (λ y. Option (Number × ℕ)) [ Some p ↦ Some (record { 0 = with_sign m p.0 }, p.1) | None ↦ None ]) ≡ with_length k (value m x)
unfolding with_length value
signed m k None = refl
signed m k (Some v) = refl

digits_is : (m : Bool) (d : List ℕ) → signed_before m d ≡ with_length (prefix_len in_piece d) (value m (number_of Decimal (take (prefix_len in_piece d) d)))
unfolding signed_before
digits_is m d = signed m (prefix_len in_piece d) (number_of Decimal (take (prefix_len in_piece d) d))

piece_is : (d : List ℕ) → with_length (prefix_len in_piece d) (signed_of (take (prefix_len in_piece d) d)) ≡ piece_of d
unfolding with_length piece_of
piece_is d = refl

signed_is : (t : List ℕ) → cond (slice_index t 0 == 45) (value true (number_of Decimal (drop 1 t))) (value false (number_of Decimal t)) ≡ signed_of t
unfolding value
signed_is t = refl

behind_minus : (d : List ℕ) → placed 1 (signed_before true d) ≡ piece_of (45 ∷ d)
behind_minus d =
    let k : ℕ = prefix_len in_piece d in
    let one : suc k ≡ 1 + k = omega arith in
    let back : ℕ → Option (Number × ℕ) = λ n. with_length (1 + k) (signed_of (take n (45 ∷ d))) in
    ap (placed 1) (digits_is true d)
    ∙ moved 1 k (value true (number_of Decimal (take k d)))
    ∙ ap (with_length (1 + k)) (signed_is (45 ∷ take k d))
    ∙ ap back one
    ∙ piece_is (45 ∷ d)

-- what a piece begins with, a text begins with
begins : (c : ℕ) (t : List ℕ) (n : ℕ) → (c ≡ 45 → ⊥) → (slice_index (take n (c ∷ t)) 0 == 45) ≡ false
begins c t zero other = refl
begins c t (suc n) other = grind (arith, other)

pub plain_piece : (d : List ℕ) → (slice_index d 0 ≡ 45 → ⊥) → signed_before false d ≡ piece_of d
plain_piece [] other = digits_is false [] ∙ ap (with_length 0) (signed_is []) ∙ piece_is []
plain_piece (c ∷ t) other =
    let k : ℕ = prefix_len in_piece (c ∷ t) in
    let p : List ℕ = take k (c ∷ t) in
    let no : (slice_index p 0 == 45) ≡ false = begins c t k other in
    let way : Bool → Option ℤ = λ b. cond b (value true (number_of Decimal (drop 1 p))) (value false (number_of Decimal p)) in
    digits_is false (c ∷ t) ∙ ap (with_length k) (ap way (sym no) ∙ signed_is p) ∙ piece_is (c ∷ t)

minus_piece : (t d : List ℕ) → 1 ≤ length t → slice_index t 0 ≡ 45 → d ≡ drop 1 t → placed 1 (signed_before true d) ≡ piece_of t
minus_piece [] d some is rest = let no : ⊥ = omega arith in elim no [ ]
minus_piece (c ∷ t) d some is rest = ap (λ w. placed 1 (signed_before true w)) rest ∙ behind_minus t ∙ ap (λ b. piece_of (b ∷ t)) (sym is)

module _ (t d : List ℕ) (some : 1 ≤ length t) (is : slice_index t 0 ≡ 45) (rest : d ≡ drop 1 t) where
  pub minus_some : (n : Number) (k : ℕ) → Some (n, k) ≡ signed_before true d → Some (n, 1 + k) ≡ piece_of t
  unfolding placed
  minus_some n k h = ap (placed 1) h ∙ minus_piece t d some is rest

  pub minus_none : None ≡ signed_before true d → None ≡ piece_of t
  unfolding placed
  minus_none h = ap (placed 1) h ∙ minus_piece t d some is rest

pub empty_piece : (t : List ℕ) → length t < 1 → None ≡ piece_of t
unfolding piece_of
empty_piece [] none = refl
empty_piece (c ∷ t) none = let no : ⊥ = omega arith in elim no [ ]

number_at_is : (l : List ℕ) (at : ℕ) → placed at (piece_of (drop at l)) ≡ number_at l at
unfolding with_length
number_at_is l at =
    let d : List ℕ = drop at l in
    let k : ℕ = prefix_len in_piece d in
    let same : k ≡ at + k - at = omega arith in
    ap (placed at) (sym (piece_is d)) ∙ moved at k (signed_of (take k d)) ∙ ap (λ n. with_length (at + k) (signed_of (take n d))) same

module _ (l : List ℕ) (at : ℕ) where
  pub placed_some : (n : Number) (k : ℕ) → Some (n, k) ≡ piece_of (drop at l) → Some (n, at + k) ≡ number_at l at
  unfolding placed
  placed_some n k h = ap (placed at) h ∙ number_at_is l at

  pub placed_none : None ≡ piece_of (drop at l) → None ≡ number_at l at
  unfolding placed
  placed_none h = ap (placed at) h ∙ number_at_is l at
