-- A register is found by its name.
use Rattle.std.proofs.Common.{◌≡◌, ℕ, zero, suc, ◌+◌, ◌-◌, ◌<◌, ◌≤◌, Bool, true, false, cond, eqb, List, [], ◌∷◌, length, get_or, Some, None, Option, sym, refl, ap, ◌∙◌, arith}
use Rattle.std.specs.Prelude.{position}
use Rattle.std.specs.List.{position_from}
use Rattle.std.proofs.lemmas.Iterator.Adapters.{position_from-zero}
use Rattle.std.proofs.lemmas.Bool.Decides.{nat_tests}
use Rattle.machine.specs.Names.{names, same_name, name_from, name_register, NameThere, NameBack}

placed_from : (vs : List (List ℕ)) (w : List ℕ) (k : ℕ) → position_from (λ v. same_name v w) k vs ≡ name_from vs w k
placed_from [] w k = refl
placed_from (v ∷ vs) w k = ap (cond (same_name v w) (Some k)) (placed_from vs w (k + 1))

-- the place of a name in the table is the number of its register
pub placed : (w : List ℕ) → position (λ v. same_name v w) names ≡ name_register w
placed w = position_from-zero (λ v. same_name v w) names ∙ placed_from names w 0

pub names_length : length names ≡ 181
unfolding names
names_length = refl

-- each name of the list from place k on is found at its own place, told by computation
abbrev each_found : List (List ℕ) → List (List ℕ) → ℕ → Bool
each_found vs [] k = true
each_found vs (w ∷ ws) k = elim (name_from vs w 0) [ Some n ↦ cond (eqb n k) (each_found vs ws (k + 1)) false | None ↦ false ]

all_found : each_found names names 0 ≡ true
unfolding names
all_found = refl

found_step : (r : Option ℕ) (k : ℕ) (b : Bool) → elim r [ Some n ↦ cond (eqb n k) b false | None ↦ false ] ≡ true → (r ≡ Some k) × (b ≡ true)
found_step (Some n) k b e = (grind (arith, nat_tests), grind (arith, nat_tests))
found_step None k b e = grind arith

found_at : (vs ws : List (List ℕ)) (k i : ℕ) → each_found vs ws k ≡ true → i < length ws → name_from vs (get_or ws i []) 0 ≡ Some (k + i)
found_at vs [] k i e h = grind arith
found_at vs (w ∷ ws) k zero e h =
    let s = found_step (name_from vs w 0) k (each_found vs ws (k + 1)) e in
    let here : k + 0 ≡ k = omega arith in
    s.0 ∙ ap Some (sym here)
found_at vs (w ∷ ws) k (suc i) e h =
    let s = found_step (name_from vs w 0) k (each_found vs ws (k + 1)) e in
    let on : k + 1 + i ≡ k + suc i = omega arith in
    found_at vs ws (k + 1) i s.1 (omega arith) ∙ ap Some on

pub name_there : NameThere
name_there n h = found_at names names 0 n all_found (omega (arith, names_length)) ∙ ap Some (omega arith)

back_step : (t : Bool) (v w : List ℕ) (vs : List (List ℕ)) (k n : ℕ) → same_name v w ≡ t → (name_from vs w (k + 1) ≡ Some n → (k + 1 ≤ n) × (n - (k + 1) < length vs) × (same_name (get_or vs (n - (k + 1)) []) w ≡ true)) → cond t (Some k) (name_from vs w (k + 1)) ≡ Some n → (k ≤ n) × (n - k < length (v ∷ vs)) × (same_name (get_or (v ∷ vs) (n - k) []) w ≡ true)
back_step true v w vs k n e f s =
    let same : k ≡ n = cc in
    let at : n - k ≡ 0 = omega arith in
    (omega arith, omega arith, rw at e)
back_step false v w vs k n e f s =
    let r = f s in
    let at : n - k ≡ suc (n - (k + 1)) = omega (arith, r.0) in
    (omega (arith, r.0), omega (arith, r.0, r.1), rw at r.2)

name_back_from : (vs : List (List ℕ)) (w : List ℕ) (k n : ℕ) → name_from vs w k ≡ Some n → (k ≤ n) × (n - k < length vs) × (same_name (get_or vs (n - k) []) w ≡ true)
name_back_from [] w k n e = grind arith
name_back_from (v ∷ vs) w k n e = back_step (same_name v w) v w vs k n refl (name_back_from vs w (k + 1) n) e

pub name_back : NameBack
name_back w n e =
    let r = name_back_from names w 0 n e in
    let at : n - 0 ≡ n = omega arith in
    (omega (arith, r.1, names_length), rw at at r.2)
