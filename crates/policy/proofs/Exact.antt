-- Where only one number can stand for a displacement, the byte that a test of it finds is the lowest.
use Rattle.std.proofs.Common.{◌≡◌, ℕ, ◌<◌, Bool, true, false, cond, ◌&&◌, ℤ, pos, negsuc, ◌≤ℤ◌, Some, None, sym, refl, ap, ◌∙◌, arith}
use Rattle.std.specs.Int.Signed.{le_z, shr_z}
use Rattle.std.proofs.lemmas.Int.{ints}
use Rattle.std.specs.Ordering.{int_eq}
use Rattle.std.proofs.lemmas.Bool.Decides.{nat_tests, Decides-int_eq}
use Rattle.policy.specs.Bytes.{byte_of, exact_byte}
use Rattle.policy.specs.Lowest.{SignedByte, Lowest, lowest}
use Rattle.policy.specs.Meanings.{plain_spread, scaled_spread}
use Rattle.policy.proofs.LowestIs.{int_eq_no, lowest_unique}
use Rattle.policy.specs.Shifts.{shr_times}

in_range : (v : ℤ) → (le_z (negsuc 127) v && le_z v (pos 127)) ≡ true → SignedByte v
in_range v e = (grind (arith, ints, nat_tests), grind (arith, ints, nat_tests))

out_of_range : (v : ℤ) → (le_z (negsuc 127) v && le_z v (pos 127)) ≡ false → SignedByte v → ⊥
out_of_range v e s = grind (arith, ints, nat_tests)

same_le : (v u : ℤ) → v ≡ u → v ≤ℤ u
same_le v u e = omega (arith, ints)

moved : (v u : ℤ) → v ≡ u → SignedByte u → SignedByte v
moved v u e s = (omega (arith, ints, s.0), omega (arith, ints, s.1))

-- q is the one number that f can take to d
module _ (f : ℤ → ℤ) (d q : ℤ) (only : (u : ℤ) → f u ≡ d → q ≡ u) where
  there : (b : Bool) → int_eq (f q) d ≡ b → SignedByte q → Lowest f d (cond b (Some q) None)
  there true e s = (s, (Decides-int_eq (f q) d).0 e, λ u t h. same_le q u (only u h))
  there false e s = λ u t h. int_eq_no (f q) d e (ap f (only u h) ∙ h)

  tested : (b : Bool) → (le_z (negsuc 127) q && le_z q (pos 127)) ≡ b → Lowest f d (elim (cond b (Some q) None) [ Some v ↦ cond (int_eq (f v) d) (Some v) None | None ↦ None ])
  tested true e = there (int_eq (f q) d) refl (in_range q e)
  tested false e = λ u t h. out_of_range q e (moved q u (only u h) t)

  ranged : f q ≡ d → (b : Bool) → (le_z (negsuc 127) q && le_z q (pos 127)) ≡ b → Lowest f d (cond b (Some q) None)
  ranged p true e = (in_range q e, p, λ u t h. same_le q u (only u h))
  ranged p false e = λ u t h. out_of_range q e (moved q u (only u h) t)

pub plain_lowest : (d : ℤ) → byte_of d ≡ lowest plain_spread d
plain_lowest d = lowest_unique plain_spread d (byte_of d) (ranged plain_spread d d (λ u h. sym h) refl (le_z (negsuc 127) d && le_z d (pos 127)) refl)

pub exact_lowest : (n : ℕ) (d : ℤ) → 0 < n → exact_byte n d ≡ lowest (scaled_spread n) d
exact_lowest n d h =
    lowest_unique (scaled_spread n) d (exact_byte n d) (tested (scaled_spread n) d (shr_z d n) (λ u e. ap (λ z. shr_z z n) (sym e) ∙ shr_times n u h) (le_z (negsuc 127) (shr_z d n) && le_z (shr_z d n) (pos 127)) refl)
