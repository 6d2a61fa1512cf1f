-- Memory operands with 16-bit addresses.
use Rattle.std.proofs.Common.{◌≡◌, ℕ, ◌+◌, ◌%◌, ◌<◌, Bool, true, false, cond, not, ◌&&◌, ◌||◌, eqb, ltb, ℤ, is_some, Some, None, Ok, Option, Result, sym, refl, ap, ◌∙◌, arith, w8, w16, w64, to_z, of_z}
use Rattle.std.proofs.lemmas.Bool.Decides.{nat_tests}
use Rattle.fault.specs.declared.operand.OperandFault.TheVariants as F
use Rattle.machine.specs.declared.mode.Mode.{Mode}
use Rattle.machine.specs.declared.mode.Mode.TheVariants.{Bits16, Bits32, Bits64}
use Rattle.machine.specs.Modes.{is64, mode_bytes}
use Rattle.machine.specs.Scales.{scale_number}
use Rattle.instruction.specs.declared.made.Instruction.{Instruction}
use Rattle.instruction.specs.Getters.{displ_bytes}
use Rattle.policy.specs.Lowest.{lowest}
use Rattle.policy.proofs.LowestIs.{lowest_some}
use Rattle.record.specs.declared.op.RegisterRange.{RegisterRange}
use Rattle.gather.specs.declared.parts.Displ.{Displ}
use Rattle.gather.specs.declared.parts.Displ.TheVariants as D
use Rattle.gather.specs.declared.parts.RmPart.{RmPart}
use Rattle.gather.specs.declared.refusal.Refusal.{Refusal}
use Rattle.gather.specs.Memory16.{rm16, offset16, far16, one16_of, one16, sized16, based16, mem16}
use Rattle.gather.specs.Parts.{plain_part, refusing, blank}
use Rattle.fields.specs.Prefixes.{address_width}
use Rattle.fields.specs.ModRms.{displ_size}
use Rattle.reader.specs.Addresses.{modulo, base16, index16, displ_number, counts_on}
use Rattle.roundtrip.proofs.Basics.{no_err, past, same_ok, clash}
use Rattle.roundtrip.proofs.Shapes.{displ_length, mod_rm_read}
use Rattle.roundtrip.proofs.Displacements.{byte_back}
use Rattle.roundtrip.proofs.MemorySays.{Says, displ_value}

-- what a ModRM of 16 bits says, by its mod and rm
pub record Row (mode rm base index : ℕ) : Type 0 where
  pub rm_lt : rm < 8
  pub base_is : base16 (mod_rm_read 0 0 (plain_part mode rm D.Absent)) ≡ base
  pub index_is : index16 (mod_rm_read 0 0 (plain_part mode rm D.Absent)) ≡ index
  pub counted : counts_on base ≡ false

row : (base index rm mode : ℕ) → rm16 base index ≡ Some rm → (eqb base 0 && eqb index 0) ≡ false → (mode ≡ 0 → (eqb base 26 && eqb index 0) ≡ false) → Row mode rm base index
row base index rm mode e n z = go (eqb base 24 && eqb index 27) refl (eqb base 24 && eqb index 28) refl (eqb base 26 && eqb index 27) refl (eqb base 26 && eqb index 28) refl (eqb base 27 && eqb index 0) refl (eqb base 28 && eqb index 0) refl (eqb base 26 && eqb index 0) refl (eqb base 24 && eqb index 0) refl e
  where
    said : (k : ℕ) → ◌≡◌ {A = Option ℕ} (Some k) (Some rm) → k ≡ rm
    said k h = cc

    go : (a : Bool) → (eqb base 24 && eqb index 27) ≡ a → (b : Bool) → (eqb base 24 && eqb index 28) ≡ b → (c : Bool) → (eqb base 26 && eqb index 27) ≡ c → (d : Bool) → (eqb base 26 && eqb index 28) ≡ d → (f : Bool) → (eqb base 27 && eqb index 0) ≡ f
        → (g : Bool) → (eqb base 28 && eqb index 0) ≡ g → (h : Bool) → (eqb base 26 && eqb index 0) ≡ h → (k : Bool) → (eqb base 24 && eqb index 0) ≡ k
        → cond a (Some 0) (cond b (Some 1) (cond c (Some 2) (cond d (Some 3) (cond f (Some 4) (cond g (Some 5) (cond h (Some 6) (cond k (Some 7) (cond (eqb base 0 && eqb index 0) (Some 6) None)))))))) ≡ Some rm → Row mode rm base index
    go true p b q c r d s f t g u h v k w e = let z = said 0 e in record { rm_lt = omega arith; base_is = grind (arith, nat_tests); index_is = grind (arith, nat_tests); counted = grind (arith, nat_tests) }
    go false p true q c r d s f t g u h v k w e = let z = said 1 e in record { rm_lt = omega arith; base_is = grind (arith, nat_tests); index_is = grind (arith, nat_tests); counted = grind (arith, nat_tests) }
    go false p false q true r d s f t g u h v k w e = let z = said 2 e in record { rm_lt = omega arith; base_is = grind (arith, nat_tests); index_is = grind (arith, nat_tests); counted = grind (arith, nat_tests) }
    go false p false q false r true s f t g u h v k w e = let z = said 3 e in record { rm_lt = omega arith; base_is = grind (arith, nat_tests); index_is = grind (arith, nat_tests); counted = grind (arith, nat_tests) }
    go false p false q false r false s true t g u h v k w e = let z = said 4 e in record { rm_lt = omega arith; base_is = grind (arith, nat_tests); index_is = grind (arith, nat_tests); counted = grind (arith, nat_tests) }
    go false p false q false r false s false t true u h v k w e = let z = said 5 e in record { rm_lt = omega arith; base_is = grind (arith, nat_tests); index_is = grind (arith, nat_tests); counted = grind (arith, nat_tests) }
    go false p false q false r false s false t false u true v k w e = let y = said 6 e in record { rm_lt = omega arith; base_is = grind (arith, nat_tests); index_is = grind (arith, nat_tests); counted = grind (arith, nat_tests) }
    go false p false q false r false s false t false u false v true w e = let z = said 7 e in record { rm_lt = omega arith; base_is = grind (arith, nat_tests); index_is = grind (arith, nat_tests); counted = grind (arith, nat_tests) }
    go false p false q false r false s false t false u false v false w e = let k : ◌≡◌ {A = Option ℕ} None (Some rm) = rw n at e in clash false (ap is_some k) refl

-- 16 bits by their sign are the same modulo two to the sixteenth
signed16 : (v : ℕ) → v < 65536 → of_z w64 (to_z w16 v) % 65536 ≡ v
signed16 v h = go (ltb v 32768) refl
  where
    go : (t : Bool) → ltb v 32768 ≡ t → of_z w64 (to_z w16 v) % 65536 ≡ v
    go true e = let z : of_z w64 (to_z w16 v) ≡ v = grind (arith, nat_tests) in omega arith
    go false e = let z : of_z w64 (to_z w16 v) ≡ v + 18446744073709486080 = grind (arith, nat_tests) in omega arith

width16 : (m : Mode) → is64 m ≡ false → address_width m (not (eqb 2 (mode_bytes m))) ≡ 2
width16 Bits16 h = refl
width16 Bits32 h = refl
width16 Bits64 h = clash true refl h

no_sib16 : (m n : Bool) → (m && (n && false)) ≡ false
no_sib16 true true = refl
no_sib16 true false = refl
no_sib16 false n = refl

or_true : (b : Bool) → (b || true) ≡ true
or_true true = refl
or_true false = refl

module _ (f : ℤ → ℤ) (m : Mode) (must : Bool) (vsib : Option RegisterRange) (i : Instruction) (n : is_some vsib ≡ false) (t : is64 m ≡ false) where
  -- the displacement of such an address
  abbrev DisplSays : Displ → Type 0
  DisplSays d = (place imm : ℕ) → modulo 2 (displ_number f (displ_length d) (displ_value place imm d)) ≡ modulo 2 i.mem_displ

  says16 : (mode rm : ℕ) (d : Displ) → mode < 3 → rm < 8 → base16 (mod_rm_read 0 0 (plain_part mode rm d)) ≡ i.memory.base.number → index16 (mod_rm_read 0 0 (plain_part mode rm d)) ≡ i.memory.index.number
      → counts_on i.memory.base.number ≡ false → displ_size 2 (mod_rm_read 0 0 (plain_part mode rm d)) ≡ displ_length d → DisplSays d → Says f m must vsib i 2 (plain_part mode rm d)
  says16 mode rm d mlt rlt b x c size says =
      record {
        fits = record { mode_lt = omega arith; rm_lt = rlt; b_lt = omega arith; x_lt = omega arith; v2_lt = omega arith; sib_fits = tt };
        memory = mlt;
        low = λ _. (refl, refl, refl);
        plain = λ _. refl;
        width_is = width16 m t;
        sib_there = λ at reg. no_sib16 (not (eqb mode 3)) (eqb rm 4);
        size = λ at reg. size;
        with_sib = λ _ z. clash true refl z;
        vector = λ g e. clash (is_some vsib) (ap is_some e) n;
        base = λ lead at reg h. b;
        index = λ lead at reg h _. x;
        scale = λ lead at reg h. sym (ap (λ z. cond z 0 (scale_number i.memory.scale)) (or_true (eqb i.memory.index.number 0)));
        displ = λ next place imm e far. ap (λ z. modulo 2 (cond z (next + displ_number f (displ_length d) (displ_value place imm d)) (displ_number f (displ_length d) (displ_value place imm d)))) c ∙ says place imm;
      }

  -- no base: two bytes
  offset16_says : (p : RmPart) → i.memory.base.number ≡ 0 → i.memory.index.number ≡ 0 → offset16 i.mem_displ ≡ Ok p → Says f m must vsib i 2 p
  offset16_says p b x e =
      let a = past (ltb 65535 i.mem_displ) _ _ p e in
      let twice : i.mem_displ % 65536 % 65536 % 65536 ≡ i.mem_displ % 65536 = omega arith in
      coe 0 1 (j. Says f m must vsib i 2 (same_ok _ p a.1 j)) (says16 0 6 (D.Size2 (i.mem_displ % 65536)) (omega arith) (omega arith) (sym b) (sym x) (rw b refl) refl (λ place imm. twice))

  module _ (rm : ℕ) (r : rm16 i.memory.base.number i.memory.index.number ≡ Some rm) (some : (eqb i.memory.base.number 0 && eqb i.memory.index.number 0) ≡ false) where
    none16 : (p : RmPart) → (eqb i.memory.base.number 26 && eqb i.memory.index.number 0) ≡ false → i.mem_displ ≡ 0 → ◌≡◌ {A = Result RmPart (Refusal RmPart)} (Ok (plain_part 0 rm D.Absent)) (Ok p) → Says f m must vsib i 2 p
    none16 p bp z e =
        let w = row i.memory.base.number i.memory.index.number rm 0 r some (λ _. bp) in
        let not_6 : rm ≡ 6 → ⊥ = λ k. (let q : base16 (mod_rm_read 0 0 (plain_part 0 6 D.Absent)) ≡ i.memory.base.number = ap (λ y. base16 (mod_rm_read 0 0 (plain_part 0 y D.Absent))) (sym k) ∙ w.base_is in let u : index16 (mod_rm_read 0 0 (plain_part 0 6 D.Absent)) ≡ i.memory.index.number = ap (λ y. index16 (mod_rm_read 0 0 (plain_part 0 y D.Absent))) (sym k) ∙ w.index_is in clash (eqb i.memory.base.number 0 && eqb i.memory.index.number 0) (grind (arith, nat_tests)) some) in
        let size : displ_size 2 (mod_rm_read 0 0 (plain_part 0 rm D.Absent)) ≡ 0 = grind (arith, nat_tests) in
        coe 0 1 (j. Says f m must vsib i 2 (same_ok _ p e j)) (says16 0 rm D.Absent (omega arith) w.rm_lt w.base_is w.index_is w.counted size (λ place imm. ap (modulo 2) (sym z)))

    two16 : (p : RmPart) → ◌≡◌ {A = Result RmPart (Refusal RmPart)} (Ok (plain_part 2 rm (D.Size2 (i.mem_displ % 65536)))) (Ok p) → Says f m must vsib i 2 p
    two16 p e =
        let w = row i.memory.base.number i.memory.index.number rm 2 r some (λ z. absurd (omega arith)) in
        let twice : i.mem_displ % 65536 % 65536 % 65536 ≡ i.mem_displ % 65536 = omega arith in
        coe 0 1 (j. Says f m must vsib i 2 (same_ok _ p e j)) (says16 2 rm (D.Size2 (i.mem_displ % 65536)) (omega arith) w.rm_lt w.base_is w.index_is w.counted refl (λ place imm. twice))

    one16_says : (p : RmPart) → ◌≡◌ {A = Result RmPart (Refusal RmPart)} (Ok (one16 f rm i.mem_displ)) (Ok p) → Says f m must vsib i 2 p
    one16_says p e = go (lowest f (to_z w16 (i.mem_displ % 65536))) refl e
      where
        go : (o : Option ℤ) → lowest f (to_z w16 (i.mem_displ % 65536)) ≡ o → ◌≡◌ {A = Result RmPart (Refusal RmPart)} (Ok (one16_of o rm (i.mem_displ % 65536))) (Ok p) → Says f m must vsib i 2 p
        go (Some v) l e =
            let k = lowest_some f (to_z w16 (i.mem_displ % 65536)) v l in
            let w = row i.memory.base.number i.memory.index.number rm 1 r some (λ z. absurd (omega arith)) in
            let byte : of_z w64 (f (to_z w8 (of_z w8 v))) % 65536 ≡ i.mem_displ % 65536 = ap (λ z. of_z w64 (f z) % 65536) (byte_back v k.0) ∙ ap (λ z. of_z w64 z % 65536) k.1 ∙ signed16 (i.mem_displ % 65536) (omega arith) in
            coe 0 1 (j. Says f m must vsib i 2 (same_ok _ p e j)) (says16 1 rm (D.Size1 (of_z w8 v)) (omega arith) w.rm_lt w.base_is w.index_is w.counted refl (λ place imm. byte))
        go None l e = two16 p e

    sized16_says : (p : RmPart) (size : ℕ) → (size ≡ 0 → (eqb i.memory.base.number 26 && eqb i.memory.index.number 0) ≡ false) → sized16 f rm i.mem_displ size ≡ Ok p → Says f m must vsib i 2 p
    sized16_says p size bp e = go (eqb size 1) refl (eqb size 0) refl (eqb i.mem_displ 0) refl (eqb size 2) e
      where
        go : (a : Bool) → eqb size 1 ≡ a → (b : Bool) → eqb size 0 ≡ b → (c : Bool) → eqb i.mem_displ 0 ≡ c → (d : Bool)
            → ◌≡◌ {A = Result RmPart (Refusal RmPart)} (cond a (Ok (one16 f rm i.mem_displ)) (cond b (cond c (Ok (plain_part 0 rm D.Absent)) (refusing F.DisplacementNotZero (plain_part 0 rm D.Absent))) (cond d (Ok (plain_part 2 rm (D.Size2 (i.mem_displ % 65536)))) (refusing F.Size16 (plain_part 0 rm D.Absent))))) (Ok p)
            → Says f m must vsib i 2 p
        go true x b y c z d h = one16_says p h
        go false x true y true z d h = none16 p (bp (grind (arith, nat_tests))) (grind (arith, nat_tests)) h
        go false x true y false z d h = no_err _ p h
        go false x false y c z true h = two16 p h
        go false x false y c z false h = no_err _ p h

    based16_says : (p : RmPart) (size : ℕ) → based16 f rm (eqb i.memory.base.number 26 && eqb i.memory.index.number 0) i.mem_displ size ≡ Ok p → Says f m must vsib i 2 p
    based16_says p size e =
        let a = past (far16 i.mem_displ) _ _ p e in
        go (eqb i.memory.base.number 26 && eqb i.memory.index.number 0) refl (eqb size 0) refl (eqb i.mem_displ 0) a.1
      where
        go : (bp : Bool) → (eqb i.memory.base.number 26 && eqb i.memory.index.number 0) ≡ bp → (z : Bool) → eqb size 0 ≡ z → (c : Bool)
            → ◌≡◌ {A = Result RmPart (Refusal RmPart)} (cond (bp && z) (cond c (sized16 f rm i.mem_displ 1) (refusing F.DisplacementNotZero (plain_part 0 rm D.Absent))) (sized16 f rm i.mem_displ size)) (Ok p) → Says f m must vsib i 2 p
        go true x true y true h = sized16_says p 1 (λ q. absurd (omega arith)) h
        go true x true y false h = no_err _ p h
        go true x false y c h = sized16_says p size (λ q. clash (eqb size 0) (rw q refl) y) h
        go false x z y c h = sized16_says p size (λ q. x) h

-- every memory operand with a 16-bit address
pub mem16_says : (f : ℤ → ℤ) (m : Mode) (must : Bool) (vsib : Option RegisterRange) (i : Instruction) (p : RmPart) → is_some vsib ≡ false → mem16 f m i ≡ Ok p → Says f m must vsib i 2 p
mem16_says f m must vsib i p n e =
    let a = past (is64 m) _ _ p e in
    go (rm16 i.memory.base.number i.memory.index.number) refl (eqb i.memory.base.number 0 && eqb i.memory.index.number 0) refl a.0 a.1
  where
    go : (o : Option ℕ) → rm16 i.memory.base.number i.memory.index.number ≡ o → (z : Bool) → (eqb i.memory.base.number 0 && eqb i.memory.index.number 0) ≡ z → is64 m ≡ false
        → ◌≡◌ {A = Result RmPart (Refusal RmPart)} (elim o [ None ↦ refusing F.Registers16 blank | Some rm ↦ cond z (offset16 i.mem_displ) (based16 f rm (eqb i.memory.base.number 26 && eqb i.memory.index.number 0) i.mem_displ (displ_bytes i.memory.displ_size)) ]) (Ok p)
        → Says f m must vsib i 2 p
    go None r z b t h = no_err _ p h
    go (Some rm) r true b t h = offset16_says f m must vsib i n t p (grind (arith, nat_tests)) (grind (arith, nat_tests)) h
    go (Some rm) r false b t h = based16_says f m must vsib i n t rm r b p (displ_bytes i.memory.displ_size) h
