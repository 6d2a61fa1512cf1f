-- The low bytes of a number.
use Rattle.std.proofs.Common.{◌≡◌, ℕ, zero, suc, ◌-◌, ◌*◌, ◌%◌, ◌^◌, ◌<◌, ◌≤◌, ◌∷◌, take, refl, ap, arith}
use Rattle.std.specs.Int.{byte_at, bytes_low_first}

pub take_low : (i k m n : ℕ) → m ≤ k → take m (bytes_low_first i k n) ≡ bytes_low_first i m n
take_low i k zero n h = refl
take_low i zero (suc m) n h = absurd (omega arith)
take_low i (suc k) (suc m) n h = ap (λ l. byte_at i n ∷ l) (take_low (suc i) k m n (omega arith))

-- half of what k bytes hold is less than that
pub half_below : (k m : ℕ) → 1 ≤ k → k ≤ 4 → 256 ^ k ≤ m → 1 * 2 ^ (8 * k - 1) % 18446744073709551616 < m
half_below zero m one few h = absurd (omega arith)
half_below (suc zero) m one few h = omega arith
half_below (suc (suc zero)) m one few h = omega arith
half_below (suc (suc (suc zero))) m one few h = omega arith
half_below (suc (suc (suc (suc zero)))) m one few h = omega arith
half_below (suc (suc (suc (suc (suc k))))) m one few h = absurd (omega arith)
