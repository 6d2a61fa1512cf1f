-- Answers taken apart.
use Rattle.std.proofs.Common.{◌≡◌, ℕ, Bool, true, false, cond, Ok, Err, Result, sym, refl, ◌∙◌, arith}
use Rattle.gather.specs.Parts as Parts
use Rattle.gather.specs.declared.refusal.Refusal.{Refusal}

-- a refusal is no acceptance
pub no_err : {X E : Type 0} {A : Type 0} (e : E) (x : X) → ◌≡◌ {A = Result X E} (Err e) (Ok x) → A
no_err e x h = let z : ◌≡◌ {A = ℕ} 0 1 = cc in absurd (omega arith)

pub then_ok : {X Y T : Type 0} (a : Result X (Refusal T)) (f : X → Result Y (Refusal T)) (y : Y) → Parts.then a f ≡ Ok y → (x : X) × (a ≡ Ok x) × (f x ≡ Ok y)
then_ok (Ok x) f y e = (x, refl, e)
then_ok (Err r) f y e = no_err r y e

pub past : {X E : Type 0} (b : Bool) (e : E) (rest : Result X E) (x : X) → cond b (Err e) rest ≡ Ok x → (b ≡ false) × (rest ≡ Ok x)
past true e rest x h = no_err e x h
past false e rest x h = (refl, h)

-- what a test lets through is what was accepted
pub kept_ok : {X E : Type 0} (b : Bool) (e : E) (x y : X) → cond b (Ok x) (Err e) ≡ Ok y → y ≡ x
kept_ok true e x y h = cc
kept_ok false e x y h = no_err e y h

pub same_ok : {X E : Type 0} (x y : X) → ◌≡◌ {A = Result X E} (Ok x) (Ok y) → x ≡ y
same_ok x y h = cc

-- a test is not both
pub clash : {A : Type 0} (b : Bool) → b ≡ true → b ≡ false → A
clash b t f = let z : true ≡ false = sym t ∙ f in let k : ◌≡◌ {A = ℕ} 0 1 = cc in absurd (omega arith)
