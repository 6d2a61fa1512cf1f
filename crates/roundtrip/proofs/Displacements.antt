-- Displacements: what goes out in the size asked, and what is read of it.
use Rattle.std.proofs.Common.{◌≡◌, ℕ, ◌+◌, ◌%◌, ◌<◌, ◌≤◌, Bool, true, false, cond, ◌&&◌, eqb, ltb, ◌⊎◌, ℤ, pos, negsuc, Some, None, Ok, Option, Result, sym, refl, ap, ◌∙◌, inl, inr, arith, w8, w32, w64, SFits, to_z, of_z}
use Rattle.std.proofs.lemmas.Bool.Decides.{nat_tests}
use Rattle.std.proofs.lemmas.Int.{ints, to_z-of_z}
use Rattle.policy.specs.Lowest.{lowest, SignedByte}
use Rattle.policy.proofs.LowestIs.{lowest_some}
use Rattle.gather.specs.declared.memory.Out.{Out}
use Rattle.gather.specs.declared.memory.Out.TheVariants.{Nothing, Byte, Full, Wrong}
use Rattle.gather.specs.declared.parts.RmPart.{RmPart}
use Rattle.gather.specs.declared.refusal.Refusal.{Refusal}
use Rattle.gather.specs.Parts.{refusing, blank}
use Rattle.fault.specs.declared.operand.OperandFault.TheVariants as F
use Rattle.gather.specs.Memory.{displ_checked, sized_out, displ_out, out_displ, is_wrong}
use Rattle.reader.specs.Addresses.{modulo, displ_number}
use Rattle.roundtrip.proofs.Basics.{no_err, same_ok}
use Rattle.roundtrip.proofs.Shapes.{Goes, displ_length}

-- a displacement that an address takes
abbrev pub Ranged : ℕ → ℕ → Type 0
Ranged width d = (width ≡ 8 → (d < 2147483648) ⊎ (18446744071562067968 ≤ d)) × (width ≡ 4 → (d < 4294967296) ⊎ (18446744071562067968 ≤ d))

pub ranged : (width d : ℕ) → displ_checked width d ≡ Ok tt → Ranged width d
unfolding displ_checked
ranged width d e = (λ w. wide w, λ w. narrow w)
  where
    wide : width ≡ 8 → (d < 2147483648) ⊎ (18446744071562067968 ≤ d)
    wide w = grind (arith, nat_tests)

    narrow : width ≡ 4 → (d < 4294967296) ⊎ (18446744071562067968 ≤ d)
    narrow w = grind (arith, nat_tests)

-- 32 bits extended by their sign to 64
pub extended : (v : ℕ) → v < 4294967296 → ((v < 2147483648) × (of_z w64 (to_z w32 v) ≡ v)) ⊎ ((2147483648 ≤ v) × (of_z w64 (to_z w32 v) ≡ v + 18446744069414584320))
extended v h = go (ltb v 2147483648) refl
  where
    go : (t : Bool) → ltb v 2147483648 ≡ t → ((v < 2147483648) × (of_z w64 (to_z w32 v) ≡ v)) ⊎ ((2147483648 ≤ v) × (of_z w64 (to_z w32 v) ≡ v + 18446744069414584320))
    go true e = inl (grind (arith, nat_tests))
    go false e = inr (grind (arith, nat_tests))

-- the low 32 bits say the whole displacement
pub whole_back : (width d : ℕ) → d < 18446744073709551616 → (width ≡ 4) ⊎ (width ≡ 8) → Ranged width d → modulo width (of_z w64 (to_z w32 (d % 4294967296))) ≡ modulo width d
whole_back width d h (inl w) r =
    let s = extended (d % 4294967296) (omega arith) in
    let q = r.1 w in
    let k : of_z w64 (to_z w32 (d % 4294967296)) % 4294967296 ≡ d % 4294967296 = omega arith in
    rw w k
whole_back width d h (inr w) r =
    let s = extended (d % 4294967296) (omega arith) in
    let q = r.0 w in
    let k : of_z w64 (to_z w32 (d % 4294967296)) % 18446744073709551616 ≡ d % 18446744073709551616 = omega arith in
    rw w k

-- what goes out stands for the displacement
abbrev pub Stands : (ℤ → ℤ) → ℕ → Out → Type 0
Stands f d Nothing = d ≡ 0
Stands f d (Byte v) = SignedByte v × (f v ≡ to_z w32 (d % 4294967296))
Stands f d Full = Unit {0}
Stands f d Wrong = Unit {0}

abbrev pub out_value : ℕ → Out → ℕ
out_value d Nothing = 0
out_value d (Byte v) = of_z w8 v
out_value d Full = d % 4294967296
out_value d Wrong = 0

byte_fits : (v : ℤ) → SignedByte v → SFits w8 v
byte_fits (pos n) h = grind (arith, ints)
byte_fits (negsuc n) h = grind (arith, ints)

pub byte_small : (v : ℤ) → SignedByte v → of_z w8 v < 256
byte_small v h = let s = byte_fits v h in omega (arith, ints)

pub byte_back : (v : ℤ) → SignedByte v → to_z w8 (of_z w8 v) ≡ v
byte_back v h = to_z-of_z w8 v (byte_fits v h)

zero_back : (width d : ℕ) → d ≡ 0 → modulo width 0 ≡ modulo width d
zero_back width d e = ap (modulo width) (sym e)

pub out_back : (f : ℤ → ℤ) (width d : ℕ) (out : Out) (base : Option ℕ) → d < 18446744073709551616 → (width ≡ 4) ⊎ (width ≡ 8) → Ranged width d → Stands f d out → Goes base out
    → modulo width (displ_number f (displ_length (out_displ d out)) (out_value d out)) ≡ modulo width d
out_back f width d Nothing base h w r s g = zero_back width d s
out_back f width d (Byte v) base h w r s g = ap (λ z. modulo width (of_z w64 (f z))) (byte_back v s.0) ∙ ap (λ z. modulo width (of_z w64 z)) s.1 ∙ whole_back width d h w r
out_back f width d Full base h w r s g = whole_back width d h w r
out_back f width d Wrong (Some k) h w r s g = absurd g
out_back f width d Wrong None h w r s g = absurd g

-- the way that the size asked takes
lowest_told : (f : ℤ → ℤ) (d : ℕ) (o : Option ℤ) (out : Out) → lowest f (to_z w32 (d % 4294967296)) ≡ o → ◌≡◌ {A = Result Out (Refusal RmPart)} (elim o [ Some v ↦ Ok (Byte v) | None ↦ Ok Full ]) (Ok out) → Stands f d out × (out ≡ Nothing → ⊥)
lowest_told f d (Some v) out l e =
    let s = same_ok (Byte v) out e in
    let k = lowest_some f (to_z w32 (d % 4294967296)) v l in
    let no : out ≡ Nothing → ⊥ = λ n. let z : ◌≡◌ {A = ℕ} 0 1 = cc in omega arith in
    (coe 0 1 (j. Stands f d (s j)) (k.0, k.1), no)
lowest_told f d None out l e =
    let s = same_ok Full out e in
    let no : out ≡ Nothing → ⊥ = λ n. let z : ◌≡◌ {A = ℕ} 0 1 = cc in omega arith in
    (coe 0 1 (j. Stands f d (s j)) tt, no)

sized_ok : (f : ℤ → ℤ) (bytes d size : ℕ) (out : Out) → sized_out f bytes d size ≡ Ok out → Stands f d out × (out ≡ Nothing → size ≡ 0)
sized_ok f bytes d size out e = go (eqb size 1) refl (eqb size bytes) (eqb size 0) refl (eqb d 0) refl e
  where
    go : (one : Bool) → eqb size 1 ≡ one → (whole : Bool) → (none : Bool) → eqb size 0 ≡ none → (zero : Bool) → eqb d 0 ≡ zero
        → ◌≡◌ {A = Result Out (Refusal RmPart)} (cond one (elim (lowest f (to_z w32 (d % 4294967296))) [ Some v ↦ Ok (Byte v) | None ↦ Ok Full ]) (cond whole (Ok Full) (cond none (cond zero (Ok Nothing) (refusing F.DisplacementNotZero blank)) (Ok Wrong)))) (Ok out)
        → Stands f d out × (out ≡ Nothing → size ≡ 0)
    go true a whole none b zero c h = let k = lowest_told f d (lowest f (to_z w32 (d % 4294967296))) out refl h in (k.0, λ n. absurd (k.1 n))
    go false a true none b zero c h = let s = same_ok Full out h in (coe 0 1 (j. Stands f d (s j)) tt, λ n. let z : ◌≡◌ {A = ℕ} 0 1 = cc in absurd (omega arith))
    go false a false true b true c h = let s = same_ok Nothing out h in let z : d ≡ 0 = grind (arith, nat_tests) in (coe 0 1 (j. Stands f d (s j)) z, λ n. grind (arith, nat_tests))
    go false a false true b false c h = no_err _ out h
    go false a false false b zero c h = let s = same_ok Wrong out h in (coe 0 1 (j. Stands f d (s j)) tt, λ n. let z : ◌≡◌ {A = ℕ} 0 1 = cc in absurd (omega arith))

goes_from : (k size : ℕ) (out : Out) → is_wrong out ≡ false → (out ≡ Nothing → k % 8 ≡ 5 → ⊥) → Goes (Some k) out
goes_from k size Nothing w n = n refl
goes_from k size (Byte v) w n = tt
goes_from k size Full w n = tt
goes_from k size Wrong w n = let z : ◌≡◌ {A = ℕ} 0 1 = cc in omega arith

-- over a base
pub based_ok : (f : ℤ → ℤ) (bytes k d size : ℕ) (out : Out) → displ_out f bytes (Some k) d size ≡ Ok out → is_wrong out ≡ false → Stands f d out × Goes (Some k) out
based_ok f bytes k d size out e w = go (eqb size 0 && eqb (k % 8) 5) refl (eqb d 0) e
  where
    go : (t : Bool) → (eqb size 0 && eqb (k % 8) 5) ≡ t → (zero : Bool) → ◌≡◌ {A = Result Out (Refusal RmPart)} (cond t (cond zero (sized_out f bytes d 1) (refusing F.DisplacementNotZero blank)) (sized_out f bytes d size)) (Ok out)
        → Stands f d out × Goes (Some k) out
    go true t true h = let s = sized_ok f bytes d 1 out h in (s.0, goes_from k size out w (λ n. let z = s.1 n in absurd (omega arith)))
    go true t false h = no_err _ out h
    go false t zero h = let s = sized_ok f bytes d size out h in (s.0, goes_from k size out w (λ n five. let z = s.1 n in grind (arith, nat_tests)))

-- without one
pub unbased_ok : (f : ℤ → ℤ) (bytes d size : ℕ) (out : Out) → displ_out f bytes None d size ≡ Ok out → out ≡ Full
unbased_ok f bytes d size out e = sym (same_ok Full out e)
