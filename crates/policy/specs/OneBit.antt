-- A number with a single one bit is two to the count of its trailing zeros.
use Rattle.std.specs.Prelude.{◌≡◌, ℕ, zero, suc, ◌/◌, ◌%◌, ◌^◌, ◌<◌, count_ones, refl}
use Rattle.std.proofs.Common.{sym, pow-suc, arith}
use Rattle.std.specs.Int.Count.{ones_step, count_trailing_zeros, under}
use Rattle.std.proofs.lemmas.Nat.{ones-le}

no_ones : (k n : ℕ) → n < 2 ^ k → count_ones n ≡ 0 → n ≡ 0
no_ones zero n h e = omega arith
no_ones (suc k) n h e =
    let s = ones_step n in
    let half : n / 2 < 2 ^ k = omega (arith, pow-suc 2 k) in
    let rest : count_ones (n / 2) ≡ 0 = omega arith in
    let z = no_ones k (n / 2) half rest in
    omega arith

step : (k n d : ℕ) → d ≡ n % 2 → (d ≡ 0 → (2 ^ count_trailing_zeros k (n / 2) ≡ n / 2) × (count_trailing_zeros k (n / 2) < k)) → (d ≡ 1 → n ≡ 1) → (2 ^ under d (count_trailing_zeros k (n / 2)) ≡ n) × (under d (count_trailing_zeros k (n / 2)) < suc k)
step k n zero e f g = let p = f refl in (omega (arith, pow-suc 2 (count_trailing_zeros k (n / 2))), omega arith)
step k n (suc d) e f g = let one : n ≡ 1 = g (omega arith) in (sym one, omega arith)

pub one_bit : (k n : ℕ) → n < 2 ^ k → count_ones n ≡ 1 → (2 ^ count_trailing_zeros k n ≡ n) × (count_trailing_zeros k n < k)
unfolding count_trailing_zeros
one_bit zero n h e = let z = ones-le 0 n h in omega arith
one_bit (suc k) n h e =
    let s = ones_step n in
    let half : n / 2 < 2 ^ k = omega (arith, pow-suc 2 k) in
    step k n (n % 2) refl (λ d. one_bit k (n / 2) half (omega arith))
    (λ d. let rest : count_ones (n / 2) ≡ 0 = omega arith in let z = no_ones k (n / 2) half rest in omega arith)
