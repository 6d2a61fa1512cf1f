-- A shift by the place of a scale's one bit multiplies and divides by the scale.
use Rattle.std.specs.Prelude.{◌≡◌, ℕ, zero, suc, ◌+◌, ◌-◌, ◌*◌, ◌/◌, ◌%◌, ◌^◌, ◌<◌, ◌≤◌, ℤ, pos, negsuc, neg_ℤ, FitsSigned, refl}
use Rattle.std.proofs.Common.{◌∙◌, ap, mul-div_cancel, suc-mul, arith, to_z, of_z}
use Rattle.std.proofs.Math.Arith.{digits_div}
use Rattle.std.specs.Int.Signed.{mag, shr_z}
use Rattle.std.specs.Int.{w8, w32}
use Rattle.std.proofs.Math.Facts.{sfits_widen}
use Rattle.std.proofs.lemmas.Nat.{mul-le}
use Rattle.std.proofs.lemmas.Int.{ints, wrapping_mul_is, int_wrap_fits}
use Rattle.policy.specs.Bytes.{moved_up}
use Rattle.policy.specs.Lowest.{SignedByte, Displacement}
use Rattle.policy.specs.Meanings.{scaled_spread}

neg_small : (m b : ℕ) → m ≤ suc b → mag (neg_ℤ (pos m)) ≤ b
neg_small zero b h = omega arith
neg_small (suc m) b h = omega arith

-- a signed byte times a scale is from -8192 to 8191
times_small : (n : ℕ) (v : ℤ) → n ≤ 64 → mag v ≤ 127 → mag (scaled_spread n v) ≤ 8191
times_small n (pos a) h s = let p : a * n ≤ 127 * 64 = mul-le a n 127 64 s h in omega arith
times_small n (negsuc a) h s =
    let p : suc a * n ≤ 128 * 64 = mul-le (suc a) n 128 64 (omega arith) h in neg_small (suc a * n) 8191 (omega arith)

pub times_fits : (n : ℕ) (v : ℤ) → n ≤ 64 → FitsSigned w8 v → FitsSigned w32 (scaled_spread n v)
times_fits n v h f = let p = times_small n v h (omega (arith, f.sfits)) in record { sfits = omega arith }

-- to move the bits of a signed byte up by k places is to multiply it by two to the k
pub moved_times : (n k : ℕ) (v : ℤ) → 2 ^ k ≡ n → n ≤ 64 → FitsSigned w8 v → moved_up v k ≡ scaled_spread n v
moved_times n k v e h f =
    let g : FitsSigned w32 (pos n) = record { sfits = omega arith } in
    ap (λ m. to_z w32 (of_z w32 v * m % 2 ^ 32)) e
    ∙ wrapping_mul_is w32 v (pos n) (sfits_widen tt f) g
    ∙ int_wrap_fits w32 (scaled_spread n v) (times_fits n v h f)

neg_shr : (m n a : ℕ) → m ≡ suc a * n → 0 < n → shr_z (neg_ℤ (pos m)) n ≡ negsuc a
neg_shr zero n a e h = let p = suc-mul a n in let no : ⊥ = omega arith in elim no [ ]
neg_shr (suc m) n a e h =
    let p = suc-mul a n in
    let q : m ≡ a * n + (n - 1) = omega arith in
    let r : n - 1 < n = omega arith in ap negsuc (ap (λ x. x / n) q ∙ digits_div a r)

-- what is multiplied by n is got back from the quotient
pub shr_times : (n : ℕ) (v : ℤ) → 0 < n → shr_z (scaled_spread n v) n ≡ v
shr_times n (pos a) h = ap pos (mul-div_cancel a h)
shr_times n (negsuc a) h = neg_shr (suc a * n) n a refl h

-- a number of eight bits is a signed byte
pub byte_signed : (v : ℤ) → FitsSigned w8 v → SignedByte v
byte_signed (pos a) f = (omega (arith, ints, f.sfits), omega (arith, ints, f.sfits))
byte_signed (negsuc a) f = (omega (arith, ints, f.sfits), omega (arith, ints, f.sfits))

pub times_within : (n : ℕ) (v : ℤ) → n ≤ 64 → SignedByte v → Displacement (scaled_spread n v)
times_within n v h s =
    let p = times_small n v h (byte_mag v s) in within (scaled_spread n v) p
  where
    byte_mag : (z : ℤ) → SignedByte z → mag z ≤ 127
    byte_mag (pos a) s = omega (arith, ints, s.0, s.1)
    byte_mag (negsuc a) s = omega (arith, ints, s.0, s.1)

    within : (z : ℤ) → mag z ≤ 8191 → Displacement z
    within (pos a) p = (omega (arith, ints), omega (arith, ints))
    within (negsuc a) p = (omega (arith, ints), omega (arith, ints))
