-- The size of an address, and the registers that it is made of.
use Rattle.std.proofs.Common.{◌≡◌, ℕ, ◌+◌, ◌-◌, ◌<◌, ◌≤◌, Bool, true, false, cond, not, ◌&&◌, eqb, ◌⊎◌, is_some, Some, None, Ok, Option, refl, inl, inr, arith}
use Rattle.std.proofs.lemmas.Bool.{not-false}
use Rattle.std.proofs.lemmas.Bool.Decides.{nat_tests}
use Rattle.machine.specs.declared.code_size.CodeSize.{CodeSize}
use Rattle.machine.specs.declared.code_size.CodeSize.TheVariants.{Unknown, Code16, Code32, Code64}
use Rattle.machine.specs.declared.mode.Mode.{Mode}
use Rattle.machine.specs.declared.mode.Mode.TheVariants.{Bits16, Bits32, Bits64}
use Rattle.machine.specs.Modes.{is64, mode_bytes}
use Rattle.instruction.specs.declared.made.Instruction.{Instruction}
use Rattle.instruction.specs.Getters.{displ_bytes}
use Rattle.record.specs.declared.op.RegisterRange.{RegisterRange}
use Rattle.gather.specs.Address.{code_bytes, register_bytes, joined_bytes, address_chosen, address_bytes}
use Rattle.gather.specs.Memory.{address_bank, is_rip, index_bank, base_allowed, index_allowed, checked_of, bank_number}
use Rattle.fields.specs.Prefixes.{address_width}
use Rattle.reader.specs.Addresses.{first_general}
use Rattle.roundtrip.proofs.Basics.{past}
use Rattle.roundtrip.proofs.Shapes.{Below, named, first_index}

pub checked_ok : (wide base index two : Bool) → checked_of wide base index two ≡ Ok tt → (wide ≡ false) × (base ≡ true) × (index ≡ true)
checked_ok wide base index two e =
    let a = past wide _ _ tt e in
    let b = past (not base) _ _ tt a.1 in
    let c = past (not index) _ _ tt b.1 in
    (a.0, not-false base b.0, not-false index c.0)

-- the vector bank of an index, where the record names one
abbrev pub VectorBank : Option RegisterRange → Type 0
VectorBank (Some g) = (77 ≤ g.lo) × (g.hi ≤ g.lo + 31)
VectorBank None = Unit {0}

code_known : (m : Mode) (s : CodeSize) → (code_bytes m s ≡ 2) ⊎ ((code_bytes m s ≡ 4) ⊎ (code_bytes m s ≡ 8))
code_known Bits16 Unknown = inl refl
code_known Bits32 Unknown = inr (inl refl)
code_known Bits64 Unknown = inr (inr refl)
code_known m Code16 = inl refl
code_known m Code32 = inr (inl refl)
code_known m Code64 = inr (inr refl)

displ_known : (n : ℕ) → (displ_bytes n < 2) ⊎ ((displ_bytes n ≡ 2) ⊎ ((displ_bytes n ≡ 4) ⊎ (displ_bytes n ≡ 8)))
displ_known n = grind (arith, nat_tests)

pub bytes4 : (n : ℕ) → 37 ≤ n → n ≤ 52 → register_bytes n ≡ 4
bytes4 n a b = grind (arith, nat_tests)

pub bytes8 : (n : ℕ) → 53 ≤ n → n ≤ 68 → register_bytes n ≡ 8
bytes8 n a b = grind (arith, nat_tests)

pub bytes0 : (n : ℕ) → 77 ≤ n → register_bytes n ≡ 0
bytes0 n a = grind (arith, nat_tests)

-- by numbers alone
sizes : (a b displ code bytes : ℕ) → bytes ≡ address_chosen (joined_bytes a b) displ code → (code ≡ 2) ⊎ ((code ≡ 4) ⊎ (code ≡ 8)) → (displ < 2) ⊎ ((displ ≡ 2) ⊎ ((displ ≡ 4) ⊎ (displ ≡ 8)))
    → eqb bytes 2 ≡ false → (a ≡ 0) ⊎ (a ≡ 4) → (b ≡ 0) ⊎ (b ≡ 4) → (bytes ≡ 4) ⊎ (bytes ≡ 8)
sizes a b displ code bytes e c d n (inl x) (inl y) = grind (arith, nat_tests)
sizes a b displ code bytes e c d n (inl x) (inr y) = grind (arith, nat_tests)
sizes a b displ code bytes e c d n (inr x) (inl y) = grind (arith, nat_tests)
sizes a b displ code bytes e c d n (inr x) (inr y) = grind (arith, nat_tests)

-- a base of the bank, or none
base_bytes : (m : Mode) (bytes n : ℕ) → eqb bytes 8 ≡ false → is_rip n ≡ false → base_allowed m bytes n ≡ true → (register_bytes n ≡ 0) ⊎ (register_bytes n ≡ 4)
base_bytes m bytes n w r h = go (eqb n 0) refl
  where
    go : (t : Bool) → eqb n 0 ≡ t → (register_bytes n ≡ 0) ⊎ (register_bytes n ≡ 4)
    go true e = inl (let z : n ≡ 0 = grind (arith, nat_tests) in rw z refl)
    go false e = let lo : 37 ≤ n = grind (arith, nat_tests) in let hi : n ≤ 52 = grind (arith, nat_tests) in inr (bytes4 n lo hi)

index_bytes : (m : Mode) (bytes : ℕ) (vsib : Option RegisterRange) (n : ℕ) → eqb bytes 8 ≡ false → VectorBank vsib → index_allowed m bytes vsib n ≡ true → (register_bytes n ≡ 0) ⊎ (register_bytes n ≡ 4)
index_bytes m bytes vsib n w v h = go (eqb n 0) refl vsib v h
  where
    go : (t : Bool) → eqb n 0 ≡ t → (vsib : Option RegisterRange) → VectorBank vsib → index_allowed m bytes vsib n ≡ true → (register_bytes n ≡ 0) ⊎ (register_bytes n ≡ 4)
    go true e g v h = inl (let z : n ≡ 0 = grind (arith, nat_tests) in rw z refl)
    go false e (Some g) v h = inl (let lo : 77 ≤ n = grind (arith, nat_tests) in bytes0 n lo)
    go false e None v h = let lo : 37 ≤ n = grind (arith, nat_tests) in let hi : n ≤ 52 = grind (arith, nat_tests) in inr (bytes4 n lo hi)

-- an address is of 32 or 64 bits where it is not of 16
pub size_known : (m : Mode) (i : Instruction) (vsib : Option RegisterRange) → VectorBank vsib → eqb (address_bytes m i) 2 ≡ false → is_rip i.memory.base.number ≡ false
    → base_allowed m (address_bytes m i) i.memory.base.number ≡ true → index_allowed m (address_bytes m i) vsib i.memory.index.number ≡ true → (address_bytes m i ≡ 4) ⊎ (address_bytes m i ≡ 8)
unfolding address_bytes
size_known m i vsib v n r b x = go (eqb (address_bytes m i) 8) refl
  where
    go : (t : Bool) → eqb (address_bytes m i) 8 ≡ t → (address_bytes m i ≡ 4) ⊎ (address_bytes m i ≡ 8)
    go true e = inr (grind (arith, nat_tests))
    go false e = sizes (register_bytes i.memory.base.number) (register_bytes i.memory.index.number) (displ_bytes i.memory.displ_size) (code_bytes m i.code_size) (address_bytes m i) refl (code_known m i.code_size) (displ_known i.memory.displ_size) n (base_bytes m (address_bytes m i) i.memory.base.number e r b) (index_bytes m (address_bytes m i) vsib i.memory.index.number e v x)

-- 67 says the size of the address
pub width_back : (m : Mode) (bytes : ℕ) → (bytes ≡ 4) ⊎ (bytes ≡ 8) → (not (is64 m) && eqb bytes 8) ≡ false → address_width m (not (eqb bytes (mode_bytes m))) ≡ bytes
width_back Bits16 bytes w h = grind (arith, nat_tests)
width_back Bits32 bytes w h = grind (arith, nat_tests)
width_back Bits64 bytes w h = grind (arith, nat_tests)

abbrev bank_for : Bool → RegisterRange
bank_for w = cond w record { lo = 53; hi = 68 } record { lo = 37; hi = 52 }

-- registers by their numbers in their banks
pub base_named : (m : Mode) (bytes n : ℕ) → is_rip n ≡ false → base_allowed m bytes n ≡ true
    → Below 16 (bank_number (address_bank bytes) n) × (is64 m ≡ false → Below 8 (bank_number (address_bank bytes) n)) × (named (first_general bytes) (bank_number (address_bank bytes) n) ≡ n)
base_named m bytes n r h = go (eqb n 0) refl (eqb bytes 8) refl
  where
    go : (t : Bool) → eqb n 0 ≡ t → (w : Bool) → eqb bytes 8 ≡ w
        → Below 16 (cond t None (Some (n - (bank_for w).lo))) × (is64 m ≡ false → Below 8 (cond t None (Some (n - (bank_for w).lo)))) × (named (cond w 53 37) (cond t None (Some (n - (bank_for w).lo))) ≡ n)
    go true e w f = (tt, λ _. tt, grind (arith, nat_tests))
    go false e true f = (grind (arith, nat_tests), λ o. grind (arith, nat_tests), grind (arith, nat_tests))
    go false e false f = (grind (arith, nat_tests), λ o. grind (arith, nat_tests), grind (arith, nat_tests))

abbrev pub IndexBelow : Option RegisterRange → Option ℕ → Type 0
IndexBelow (Some g) (Some j) = (j < 32) × (j < g.hi + 1 - g.lo)
IndexBelow (Some g) None = Unit {0}
IndexBelow None (Some j) = j < 16
IndexBelow None None = Unit {0}

pub index_named : (m : Mode) (bytes : ℕ) (vsib : Option RegisterRange) (n : ℕ) → VectorBank vsib → index_allowed m bytes vsib n ≡ true
    → IndexBelow vsib (bank_number (index_bank bytes vsib) n) × (is64 m ≡ false → Below 8 (bank_number (index_bank bytes vsib) n)) × (named (first_index bytes vsib) (bank_number (index_bank bytes vsib) n) ≡ n)
index_named m bytes (Some g) n v h = go (eqb n 0) refl
  where
    go : (t : Bool) → eqb n 0 ≡ t → IndexBelow (Some g) (cond t None (Some (n - g.lo))) × (is64 m ≡ false → Below 8 (cond t None (Some (n - g.lo)))) × (named g.lo (cond t None (Some (n - g.lo))) ≡ n)
    go true e = (tt, λ _. tt, grind (arith, nat_tests))
    go false e = ((grind (arith, nat_tests), grind (arith, nat_tests)), λ o. grind (arith, nat_tests), grind (arith, nat_tests))
index_named m bytes None n v h = go (eqb n 0) refl (eqb bytes 8) refl
  where
    go : (t : Bool) → eqb n 0 ≡ t → (w : Bool) → eqb bytes 8 ≡ w → IndexBelow None (cond t None (Some (n - (bank_for w).lo))) × (is64 m ≡ false → Below 8 (cond t None (Some (n - (bank_for w).lo)))) × (named (cond w 53 37) (cond t None (Some (n - (bank_for w).lo))) ≡ n)
    go true e w f = (tt, λ _. tt, grind (arith, nat_tests))
    go false e true f = (grind (arith, nat_tests), λ o. grind (arith, nat_tests), grind (arith, nat_tests))
    go false e false f = (grind (arith, nat_tests), λ o. grind (arith, nat_tests), grind (arith, nat_tests))

-- none where the number is 0, and some register where it is not
pub bank_none : (g : RegisterRange) (n : ℕ) → is_some (bank_number g n) ≡ not (eqb n 0)
bank_none g n = grind (arith, nat_tests)
