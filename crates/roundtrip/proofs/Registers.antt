-- Registers by their numbers in the bytes.
use Rattle.std.proofs.Common.{◌≡◌, ℕ, ◌+◌, ◌-◌, ◌<◌, ◌≤◌, Bool, true, false, cond, ◌&&◌, ◌||◌, eqb, ltb, refl, arith}
use Rattle.std.proofs.lemmas.Bool.Decides.{nat_tests}
use Rattle.machine.specs.declared.mode.Mode.{Mode}
use Rattle.machine.specs.Modes.{is64}
use Rattle.record.specs.declared.head.Head.{Head}
use Rattle.record.specs.declared.op.RegisterRange.{RegisterRange}
use Rattle.record.specs.Facts.{BankFacts}
use Rattle.record.specs.Rules.{is_evex, is_legacy}
use Rattle.gather.specs.Address.{in_range}
use Rattle.gather.specs.Registers.{reg_part}
use Rattle.fields.specs.Registers.{register_there}
use Rattle.reader.specs.Operands.{register_of}

-- a number that a bank has
pub record Number (h : Head) (embedded : Bool) (m : Mode) (k : ℕ) : Type 0 where
  pub small : k < 32
  pub old : is_evex h ≡ false → k < 16
  pub low : is64 m ≡ false → k < 8
  pub inside : embedded ≡ true → k < 16

module _ (h : Head) (embedded : Bool) (m : Mode) (g : RegisterRange) (n : ℕ) (facts : BankFacts h embedded g) (r : in_range m g n ≡ true) where
  abbrev k : ℕ
  k = (reg_part g n).number

  bounds : (g.lo ≤ n) × (n ≤ g.hi)
  bounds = (grind (arith, nat_tests), grind (arith, nat_tests))

  low_bound : is64 m ≡ false → n ≤ g.lo + 7
  low_bound z = grind (arith, nat_tests)

  byte_case : (one : Bool) → eqb g.lo 1 ≡ one → Number h embedded m k × (register_there m g k ≡ true)
  unfolding register_there
  byte_case true e =
      let z : g.lo ≡ 1 = grind (arith, nat_tests) in
      let f = facts.bytes z in
      let b = bounds in
      let s : k < 16 = grind (arith, nat_tests) in
      let l : is64 m ≡ false → k < 8 = λ o. (let q = low_bound o in grind (arith, nat_tests)) in
      (record { small = omega arith; old = λ _. s; low = l; inside = λ _. s }, there l s e)
    where
      there : (is64 m ≡ false → k < 8) → k < 16 → eqb g.lo 1 ≡ true → register_there m g k ≡ true
      there l s e = go (is64 m) refl
        where
          go : (t : Bool) → is64 m ≡ t → ((t || ltb k 8) && ltb k (cond (eqb g.lo 1) 16 (g.hi + 1 - g.lo))) ≡ true
          go true t = grind (arith, nat_tests)
          go false t = let q = l t in grind (arith, nat_tests)
  byte_case false e =
      let z : g.lo ≡ 1 → ⊥ = λ w. grind (arith, nat_tests) in
      let a = facts.all z in
      let b = bounds in
      let s : k ≡ n - g.lo = grind (arith, nat_tests) in
      let l : is64 m ≡ false → k < 8 = λ o. (let q = low_bound o in omega arith) in
      let o : is_evex h ≡ false → k < 16 = λ v. (let q = facts.old v z in omega arith) in
      let i : embedded ≡ true → k < 16 = λ v. (let q = facts.low v z in omega arith) in
      (record { small = omega arith; old = o; low = l; inside = i }, there l s e)
    where
      there : (is64 m ≡ false → k < 8) → k ≡ n - g.lo → eqb g.lo 1 ≡ false → register_there m g k ≡ true
      there l s e = go (is64 m) refl bounds
        where
          go : (t : Bool) → is64 m ≡ t → (g.lo ≤ n) × (n ≤ g.hi) → ((t || ltb k 8) && ltb k (cond (eqb g.lo 1) 16 (g.hi + 1 - g.lo))) ≡ true
          go true t b = grind (arith, nat_tests)
          go false t b = let q = l t in grind (arith, nat_tests)

  pub number_fits : Number h embedded m k × (register_there m g k ≡ true)
  number_fits = byte_case (eqb g.lo 1) refl

  -- the register that was handed in, where REX is there if it asks for it and is not if it forbids it
  pub register_back : (rex : Bool) → ((reg_part g n).rex ≡ true → rex ≡ true) → ((reg_part g n).high ≡ true → rex ≡ false) → register_of g rex k ≡ n
  register_back rex w f = go (eqb g.lo 1) refl
    where
      go : (one : Bool) → eqb g.lo 1 ≡ one → register_of g rex k ≡ n
      go true e =
          let z : g.lo ≡ 1 = grind (arith, nat_tests) in
          let t = facts.bytes z in
          let b = bounds in
          last rex w f b z t e
        where
          last : (rex : Bool) → ((reg_part g n).rex ≡ true → rex ≡ true) → ((reg_part g n).high ≡ true → rex ≡ false) → (g.lo ≤ n) × (n ≤ g.hi) → g.lo ≡ 1 → (g.hi ≡ 20) × (is_legacy h ≡ true) → eqb g.lo 1 ≡ true → register_of g rex k ≡ n
          last true w f b z t e = grind (arith, nat_tests)
          last false w f b z t e = grind (arith, nat_tests)
      go false e = let b = bounds in grind (arith, nat_tests)
