-- A register is known by its number alone.
use Rattle.std.proofs.Common.{◌≡◌, ℕ, ◌<◌, ◌≤◌, Bool, true, false, leb, is_some, Some, None, Option, sym, refl, ap, ◌∙◌, arith, le-leb, MatchOption}
use mathlib.Core.HLevel.{is_prop→PathP}
use Rattle.std.proofs.Math.Bridge.{le_prop}
use Rattle.std.proofs.lemmas.Bool.{lt-leb}
use Rattle.machine.specs.declared.register.Register.{Register}
use Rattle.machine.specs.Registers.{register_told, register_of}

pub same_register : (a b : Register) → a.number ≡ b.number → a ≡ b
same_register a b p = λ i. record { number = p i; known = is_prop→PathP (λ i. p i ≤ 180) (λ i. le_prop) a.known b.known i }

told_some : (a : Register) (t : Bool) (e : leb a.number 180 ≡ t) → t ≡ true → Some a ≡ register_told a.number t e
told_some a true e n = ap Some (same_register a _ refl)
told_some a false e n = grind arith

-- every register is the register of its number
pub register_there : (a : Register) → Some a ≡ register_of a.number
unfolding register_of
register_there a = told_some a (leb a.number 180) refl (le-leb a.number 180 a.known)

pub register_found : (a : Register) → register_of a.number ≡ Some a
register_found a = sym (register_there a)

told_none : (n : ℕ) (t : Bool) (e : leb n 180 ≡ t) → t ≡ false → None ≡ register_told n t e
told_none n true e f = grind arith
told_none n false e f = refl

pub register_above : (n : ℕ) → 180 < n → None ≡ register_of n
unfolding register_of
register_above n h = told_none n (leb n 180) refl (lt-leb n 180 h)

told_number : (n : ℕ) (t : Bool) (e : leb n 180 ≡ t) (x : Register) → register_told n t e ≡ Some x → x.number ≡ n
told_number n true e x p = ap (λ (o : Option Register). elim o [ Some r ↦ r.number | None ↦ n ]) (sym p)
told_number n false e x p = grind arith

-- the register of a number has that number
pub register_back : (n : ℕ) (x : Register) → register_of n ≡ Some x → x.number ≡ n
unfolding register_of
register_back n x p = told_number n (leb n 180) refl x p

told_within : (n : ℕ) (t : Bool) (e : leb n 180 ≡ t) → is_some (register_told n t e) ≡ t
told_within n true e = refl
told_within n false e = refl

pub register_within : (n : ℕ) → is_some (register_of n) ≡ leb n 180
unfolding register_of
register_within n = told_within n (leb n 180) refl

-- a register of this number, or none above 180, is the register of the number
pub register_known : (n : ℕ) (o : Option Register) → MatchOption o (180 < n) (λ x. x.number ≡ n) → o ≡ register_of n
register_known n (Some x) e = register_there x ∙ ap register_of e
register_known n None e = register_above n e
