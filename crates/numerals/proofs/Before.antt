-- The digits before a byte, read one by one.
use Rattle.std.proofs.Common.{◌≡◌, ℕ, suc, ◌+◌, ◌*◌, ◌^◌, ◌<◌, ◌≤◌, Bool, true, false, cond, not, List, [], ◌∷◌, length, take, drop, get_or, Some, None, Option, refl, sym, ap, ◌∙◌, arith, nat_lt}
use Rattle.std.proofs.lemmas.Bool.Decides.{nat_tests}
use Rattle.std.proofs.lemmas.List.{drop_more, drop_all}
use Rattle.std.proofs.lemmas.List.Folds.{length-prefix_len}
use Rattle.std.specs.Prelude.{◌==◌, ◌&&◌}
use Rattle.std.specs.Char.{digit_value, is_digit}
use Rattle.std.specs.List.{list_all}
use Rattle.std.specs.Str.Parse.{digits_value, digits_value_after}
use Rattle.numerals.specs.declared.Radix.{Radix}
use Rattle.numerals.specs.Numbers.{base, written, length_before, number_before}
use Rattle.numerals.proofs.Digits.{grows, some_digits}

-- the digits of a text before the first e, behind k that have the value v
unfoldable pub scan : ℕ → ℕ → ℕ → ℕ → List ℕ → Option (ℕ × ℕ)
scan b e v k [] = Some (v, k)
scan b e v k (c ∷ t) =
    cond (c == e) (Some (v, k)) (
    cond (is_digit c b) (cond (nat_lt (v * b + digit_value c) (2 ^ 64)) (scan b e (v * b + digit_value c) (k + 1) t) None)
    None)

-- the bytes before the first e
pub piece : ℕ → List ℕ → List ℕ
piece e t = take (length_before e t) t

-- what they write behind the value v
pub total : ℕ → ℕ → ℕ → List ℕ → ℕ
total b e v t = digits_value_after b v (piece e t)

pub outcome : ℕ → ℕ → ℕ → ℕ → List ℕ → Option (ℕ × ℕ)
outcome b e v k t = cond (list_all (λ c. is_digit c b) (piece e t) && nat_lt (total b e v t) (2 ^ 64)) (Some (total b e v t, k + length_before e t)) None

-- one digit more, n the value with it
last : (n k m w M : ℕ) (all : Bool) (next : Option (ℕ × ℕ)) → n ≤ w → (n < M → next ≡ cond (all && nat_lt w M) (Some (w, k + 1 + m)) None) → cond (nat_lt n M) next None ≡ cond (all && nat_lt w M) (Some (w, k + suc m)) None
last n k m w M all next more goes = grind (arith, nat_tests, more, goes)

known : (v k M : ℕ) → v < M → ◌≡◌ {A = Option (ℕ × ℕ)} (Some (v, k)) (cond (true && nat_lt v M) (Some (v, k + 0)) None)
known v k M small = grind (arith, nat_tests, small)

pub scan_is : (b e v k : ℕ) (t : List ℕ) → 1 ≤ b → v < 2 ^ 64 → scan b e v k t ≡ outcome b e v k t
unfolding scan outcome total piece
scan_is b e v k [] some small = known v k (2 ^ 64) small
scan_is b e v k (c ∷ t) some small =
    let n : ℕ = v * b + digit_value c in
    let m : ℕ = length_before e t in
    let w : ℕ = total b e n t in
    let all : Bool = list_all (λ c. is_digit c b) (piece e t) in
    let next : Option (ℕ × ℕ) = scan b e n (k + 1) t in
    let after : Bool → Option (ℕ × ℕ) = λ y. cond y (cond (nat_lt n (2 ^ 64)) next None) None in
    let wanted : Bool → Option (ℕ × ℕ) = λ y. cond ((y && all) && nat_lt w (2 ^ 64)) (Some (w, k + suc m)) None in
    let digit : (y : Bool) → after y ≡ wanted y = elim [
      | true ↦ last n k m w (2 ^ 64) all next (grows b n (piece e t) some) (scan_is b e n (k + 1) t some)
      | false ↦ refl
    ] in
    let p : ℕ → List ℕ = λ i. take i (c ∷ t) in
    let told : ℕ → Option (ℕ × ℕ) = λ i. cond (list_all (λ c. is_digit c b) (p i) && nat_lt (digits_value_after b v (p i)) (2 ^ 64)) (Some (digits_value_after b v (p i), k + i)) None in
    let one : suc m ≡ 1 + m = omega arith in
    let stops : (x : Bool) → cond x (Some (v, k)) (after (is_digit c b)) ≡ told (cond (not x) (1 + m) 0) = elim [
      | true ↦ known v k (2 ^ 64) small
      | false ↦ digit (is_digit c b) ∙ ap told one
    ] in
    stops (c == e)

-- what the digits come to, as the number of them and how many they are
abbrev pub told : Option (ℕ × ℕ) → Option (ℕ × ℕ)
told (Some p) = written p.0 p.1
told None = None

ends : (all small : Bool) (w l : ℕ) → told (cond (all && small) (Some (w, 0 + l)) None) ≡ elim (cond ((nat_lt 0 l && all) && small) (Some w) None) [ Some v ↦ Some (v, l) | None ↦ None ]
ends all small w l = grind (arith, nat_tests)

module _ (r : Radix) (t : List ℕ) (b e : ℕ) (is : b ≡ base r) where
  outcome_is : told (outcome (base r) e 0 0 t) ≡ number_before r t e
  unfolding outcome total piece
  outcome_is =
      let p : List ℕ = take (length_before e t) t in
      let all : Bool = list_all (λ c. is_digit c (base r)) p in
      let w : ℕ = digits_value (base r) p in
      let long : length p ≡ length_before e t = length-prefix_len (λ c. not (c == e)) t in
      let shape : ℕ → Option (ℕ × ℕ) = λ n. elim (cond ((nat_lt 0 n && all) && nat_lt w (2 ^ 64)) (Some w) None) [ Some v ↦ Some (v, length_before e t) | None ↦ None ] in
      ends all (nat_lt w (2 ^ 64)) w (length_before e t) ∙ ap shape (sym long)

  pub scanned : (x : Option (ℕ × ℕ)) → x ≡ scan b e 0 0 t → told x ≡ number_before r t e
  scanned x h = ap told (h ∙ scan_is b e 0 0 t (rw is (some_digits r)) (omega arith)) ∙ ap (λ n. told (outcome n e 0 0 t)) is ∙ outcome_is

-- what is read at a place
module _ (t : List ℕ) (b e v k i : ℕ) where
  pub at_end : length t ≤ i → Some (v, k) ≡ scan b e v k (drop i t)
  unfolding scan
  at_end past = rw (drop_all i t past) refl

  module _ (inside : i < length t) where
    pub at_stop : get_or t i 0 ≡ e → Some (v, k) ≡ scan b e v k (drop i t)
    unfolding scan
    at_stop same = rw (drop_more t i 0 inside) (grind (arith, nat_tests, same))

    pub at_other : (get_or t i 0 ≡ e → ⊥) → b ≤ digit_value (get_or t i 0) → None ≡ scan b e v k (drop i t)
    unfolding scan
    at_other other none = rw (drop_more t i 0 inside) (grind (arith, nat_tests, other, none))

    module _ (other : get_or t i 0 ≡ e → ⊥) where
      pub at_large : 2 ^ 64 ≤ v * b + digit_value (get_or t i 0) → None ≡ scan b e v k (drop i t)
      unfolding scan
      at_large large = rw (drop_more t i 0 inside) (grind (arith, nat_tests, other, large))

      pub goes_on : digit_value (get_or t i 0) < b → v * b + digit_value (get_or t i 0) < 2 ^ 64 → scan b e (v * b + digit_value (get_or t i 0)) (k + 1) (drop (i + 1) t) ≡ scan b e v k (drop i t)
      unfolding scan
      goes_on digit small = rw (drop_more t i 0 inside) (grind (arith, nat_tests, other, digit, small))
