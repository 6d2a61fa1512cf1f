-- The value of each number, and steps one after the other.
use Rattle.std.proofs.Common.{◌≡◌, ℕ, Bool, true, ◌&&◌, List, is_some, is_ok, Some, None, Ok, Err, Option, Result, refl, ap, ◌∙◌, arith}
use Rattle.fault.specs.declared.making.MakingFault.{MakingFault}
use Rattle.machine.specs.Codes.{look}
use Rattle.machine.specs.Look.{look_there}
use Rattle.instruction.specs.Making.{or_field, then}

pub field_some : {X : Type 0} (o : Option X) (x : X) → or_field o ≡ Ok x → o ≡ Some x
field_some (Some y) x e = let same : y ≡ x = cc in ap Some same
field_some None x e = grind arith

pub field_test : {X : Type 0} (o : Option X) → is_ok (or_field o) ≡ is_some o
field_test (Some y) = refl
field_test None = refl

-- what is found by a number has that number
pub field_there : {X : Type 0} (code : X → ℕ) (xs : List X) (n : ℕ) (x : X) → or_field (look code xs n) ≡ Ok x → code x ≡ n
field_there code xs n x e = look_there code xs n x (field_some (look code xs n) x e)

pub then_ok : {X Y : Type 0} (r : Result X MakingFault) (f : X → Result Y MakingFault) (y : Y) → then r f ≡ Ok y → (x : X) × (r ≡ Ok x) × (f x ≡ Ok y)
then_ok (Ok x) f y e = (x, refl, e)
then_ok (Err k) f y e = grind arith

pub then_test : {X Y : Type 0} (r : Result X MakingFault) (f : X → Result Y MakingFault) (b : Bool) → ((x : X) → is_ok (f x) ≡ b) → is_ok (then r f) ≡ (is_ok r && b)
then_test (Ok x) f b h = h x
then_test (Err k) f b h = refl

-- one step more, where the first is told by a test
pub then_told : {X Y : Type 0} (r : Result X MakingFault) (f : X → Result Y MakingFault) (a b : Bool) → is_ok r ≡ a → ((x : X) → is_ok (f x) ≡ b) → is_ok (then r f) ≡ (a && b)
then_told r f a b p h = then_test r f b h ∙ ap (λ t. t && b) p

-- the last step
pub then_last : {X Y : Type 0} (r : Result X MakingFault) (f : X → Result Y MakingFault) (a : Bool) → is_ok r ≡ a → ((x : X) → is_ok (f x) ≡ true) → is_ok (then r f) ≡ a
then_last (Ok x) f a p h = h x ∙ p
then_last (Err k) f a p h = p
