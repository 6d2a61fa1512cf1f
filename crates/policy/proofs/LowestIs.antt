-- The scan from -128 up finds the lowest signed byte, and no other answer is that.
use Rattle.std.proofs.Common.{◌≡◌, ℕ, zero, suc, Bool, true, false, cond, ◌⊎◌, ℤ, pos, negsuc, ◌+ℤ◌, ◌≤ℤ◌, ◌<ℤ◌, is_some, Some, None, Option, sym, refl, ap, ◌∙◌, subst, inl, inr, arith}
use Rattle.std.proofs.lemmas.Int.{ints}
use Rattle.std.specs.Ordering.{int_eq}
use Rattle.std.proofs.lemmas.Bool.Decides.{Decides-int_eq}
use Rattle.policy.specs.Lowest.{SignedByte, Lowest, lowest_from, lowest, Reached, ShorteningIsLowest, ShortensWhatIsReached}

pub int_eq_no : (a b : ℤ) → int_eq a b ≡ false → a ≡ b → ⊥
int_eq_no a b e p = let q : int_eq a b ≡ true = (Decides-int_eq a b).1 p in grind arith

above : (v u : ℤ) → v ≤ℤ u → (u ≡ v) ⊎ ((v +ℤ pos 1) ≤ℤ u)
above v u h = grind (arith, ints)

-- Lowest among the k numbers from v up
abbrev From : ℕ → ℤ → (ℤ → ℤ) → ℤ → Option ℤ → Type 0
From k v f d (Some w) = (v ≤ℤ w) × (w <ℤ (v +ℤ pos k)) × (f w ≡ d) × ((u : ℤ) → v ≤ℤ u → u <ℤ (v +ℤ pos k) → f u ≡ d → w ≤ℤ u)
From k v f d None = (u : ℤ) → v ≤ℤ u → u <ℤ (v +ℤ pos k) → f u ≡ d → ⊥

from_is : (k : ℕ) (v : ℤ) (f : ℤ → ℤ) (d : ℤ) → From k v f d (lowest_from k f d v)
unfolding lowest_from
from_is zero v f d = λ u a b e. omega (arith, ints)
from_is (suc k) v f d = go (from_is k (v +ℤ pos 1) f d) (int_eq (f v) d) refl
  where
    more : (o : Option ℤ) → (f v ≡ d → ⊥) → From k (v +ℤ pos 1) f d o → From (suc k) v f d o
    more (Some w) n p =
        (omega (arith, ints, p.0), omega (arith, ints, p.1), p.2, λ u a b e. elim (above v u a) [ inl q ↦ elim (n (sym (ap f q) ∙ e)) [ ] | inr q ↦ p.3 u q (omega (arith, ints, b, q)) e ])
    more None n p = λ u a b e. elim (above v u a) [ inl q ↦ n (sym (ap f q) ∙ e) | inr q ↦ p u q (omega (arith, ints, b, q)) e ]

    go : From k (v +ℤ pos 1) f d (lowest_from k f d (v +ℤ pos 1)) → (t : Bool) → int_eq (f v) d ≡ t → From (suc k) v f d (cond t (Some v) (lowest_from k f d (v +ℤ pos 1)))
    go h true e = (omega (arith, ints), omega (arith, ints), (Decides-int_eq (f v) d).0 e, λ u a b q. a)
    go h false e = more (lowest_from k f d (v +ℤ pos 1)) (int_eq_no (f v) d e) h

small_from : (f : ℤ → ℤ) (d : ℤ) (o : Option ℤ) → From 256 (negsuc 127) f d o → Lowest f d o
small_from f d (Some w) p = ((p.0, omega (arith, ints, p.1)), p.2, λ u s e. p.3 u s.0 (omega (arith, ints, s.1)) e)
small_from f d None p = λ u s e. p u s.0 (omega (arith, ints, s.1)) e

pub lowest_is : (f : ℤ → ℤ) (d : ℤ) → Lowest f d (lowest f d)
unfolding lowest
lowest_is f d = small_from f d (lowest_from 256 f d (negsuc 127)) (from_is 256 (negsuc 127) f d)

lowest_one : (f : ℤ → ℤ) (d : ℤ) (a b : Option ℤ) → Lowest f d a → Lowest f d b → a ≡ b
lowest_one f d (Some v) (Some w) p q =
    let x : v ≤ℤ w = p.2 w q.0 q.1 in
    let y : w ≤ℤ v = q.2 v p.0 p.1 in
    let e : v ≡ w = omega (arith, ints) in ap Some e
lowest_one f d (Some v) None p q = elim (q v p.0 p.1) [ ]
lowest_one f d None (Some w) p q = elim (p w q.0 q.1) [ ]
lowest_one f d None None p q = refl

pub lowest_unique : (f : ℤ → ℤ) (d : ℤ) (r : Option ℤ) → Lowest f d r → r ≡ lowest f d
lowest_unique f d r p = lowest_one f d r (lowest f d) p (lowest_is f d)

-- what each answer says
pub lowest_some : (f : ℤ → ℤ) (d v : ℤ) → lowest f d ≡ Some v → SignedByte v × (f v ≡ d) × ((u : ℤ) → SignedByte u → f u ≡ d → v ≤ℤ u)
lowest_some f d v e = subst (Lowest f d) e (lowest_is f d)

pub lowest_none : (f : ℤ → ℤ) (d : ℤ) → lowest f d ≡ None → (u : ℤ) → SignedByte u → f u ≡ d → ⊥
lowest_none f d e = subst (Lowest f d) e (lowest_is f d)

pub lowest_reached : ShortensWhatIsReached
lowest_reached f d = at (lowest f d) (lowest_is f d)
  where
    at : (r : Option ℤ) → Lowest f d r → (is_some r ≡ true → Reached f d) × (Reached f d → is_some r ≡ true)
    at (Some v) p = (λ e. (v, p.0, p.1), λ q. refl)
    at None p = (λ e. let no : ⊥ = grind arith in elim no [ ], λ q. elim (p q.0 q.1 q.2) [ ])

pub shortening_is_lowest : ShorteningIsLowest
shortening_is_lowest f d = (lowest_is f d, lowest_unique f d)
