-- What a search by number finds has that number.
use Rattle.std.specs.Prelude.{◌≡◌, ℕ, suc, ◌+◌, Bool, true, false, cond, ◌&&◌, List, [], ◌∷◌, length, is_some, Some, Option, ◌==◌, nat_le, nat_lt, refl}
use Rattle.std.proofs.Common.{◌∙◌, arith}
use Rattle.std.proofs.lemmas.Bool.Decides.{nat_tests}
use Rattle.machine.specs.Codes.{look}

step : {X : Type 0} (code : X → ℕ) (n : ℕ) (v x : X) (rest : Option X) (t : Bool) → (n == code v) ≡ t → (rest ≡ Some x → code x ≡ n) → cond t (Some v) rest ≡ Some x → code x ≡ n
step code n v x rest true e f s =
    let same : v ≡ x = cc in
    let hit : n ≡ code v = grind (arith, nat_tests) in
    cc
step code n v x rest false e f s = f s

pub look_there : {X : Type 0} (code : X → ℕ) (xs : List X) (n : ℕ) (x : X) → look code xs n ≡ Some x → code x ≡ n
look_there code [] n x e = grind arith
look_there code (v ∷ xs) n x e = step code n v x (look code xs n) (n == code v) refl (look_there code xs n x) e

-- the values of the list have the numbers from k up, one by one
abbrev pub runs : {X : Type 0} → (X → ℕ) → List X → ℕ → Bool
runs code [] k = true
runs code (x ∷ xs) k = code x == k && runs code xs (k + 1)

run_step : {X : Type 0} (n k m c : ℕ) (v : X) (rest : Option X) (t : Bool) → (n == c) ≡ t → c ≡ k → is_some rest ≡ (nat_le (k + 1) n && nat_lt n (k + 1 + m)) → is_some (cond t (Some v) rest) ≡ (nat_le k n && nat_lt n (k + suc m))
run_step n k m c v rest true e f g = let hit : n ≡ k = grind (arith, nat_tests) in grind (arith, nat_tests)
run_step n k m c v rest false e f g = let miss : n ≡ k → ⊥ = λ h. grind (arith, nat_tests) in g ∙ grind (arith, nat_tests)

-- such a list has a value for each number of the run, and for no other
pub look_run : {X : Type 0} (code : X → ℕ) (xs : List X) (k n : ℕ) → runs code xs k ≡ true → is_some (look code xs n) ≡ (nat_le k n && nat_lt n (k + length xs))
look_run code [] k n r = grind (arith, nat_tests)
look_run code (x ∷ xs) k n r =
    let here : code x ≡ k = grind (arith, nat_tests) in
    let on : runs code xs (k + 1) ≡ true = grind (arith, nat_tests) in
    run_step n k (length xs) (code x) x (look code xs n) (n == code x) refl here (look_run code xs (k + 1) n on)
