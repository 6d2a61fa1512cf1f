-- Memory operands with 32-bit and 64-bit addresses.
use Rattle.std.proofs.Common.{◌≡◌, ℕ, ◌+◌, ◌-◌, ◌%◌, ◌<◌, ◌≤◌, Bool, true, false, cond, not, ◌&&◌, ◌||◌, eqb, ltb, ◌⊎◌, ℤ, is_some, Some, None, Ok, Option, Result, sym, refl, ap, ◌∙◌, inl, inr, arith, w32, w64, to_z, of_z}
use Rattle.std.proofs.lemmas.Bool.{not-false, or_parts}
use Rattle.std.proofs.lemmas.Bool.Decides.{nat_tests}
use Rattle.machine.specs.declared.mode.Mode.{Mode}
use Rattle.machine.specs.declared.scale.Scale.{Scale}
use Rattle.machine.specs.declared.scale.Scale.TheVariants as Scales
use Rattle.machine.specs.Modes.{is64}
use Rattle.machine.specs.Scales.{scale_number}
use Rattle.instruction.specs.declared.made.Instruction.{Instruction}
use Rattle.instruction.specs.Getters.{displ_bytes}
use Rattle.record.specs.declared.op.RegisterRange.{RegisterRange}
use Rattle.gather.specs.declared.memory.Out.{Out}
use Rattle.gather.specs.declared.memory.Out.TheVariants.{Nothing, Byte, Full, Wrong}
use Rattle.gather.specs.declared.parts.Displ.TheVariants as D
use Rattle.gather.specs.declared.parts.RmPart.{RmPart}
use Rattle.gather.specs.Address.{address_bytes, in_range, register_bytes, joined_bytes}
use Rattle.gather.specs.Memory.{is_rip, mem, mem_checked, rip_mem, ranged_mem, is_bare, offset_mem, based_mem, address_of, displ_out, out_displ, address_part, is_wrong, is_stack_pointer, bank_number, address_bank, index_bank, base_allowed, index_allowed, displ_checked, wants_sib, out_mode, bit3, bit4, low3_or}
use Rattle.gather.specs.declared.refusal.Refusal.{Refusal}
use Rattle.gather.specs.Parts.{plain_part, refusing}
use Rattle.fault.specs.declared.operand.OperandFault.TheVariants as F
use Rattle.encoder.specs.Fields.{rip_distance, reaches, displ_far}
use Rattle.roundtrip.specs.Law.{Words}
use Rattle.fields.specs.declared.lead.Lead.{Lead}
use Rattle.reader.specs.Addresses.{modulo, displ_number, index_of, scale_of, index16, counts_on, first_general}
use Rattle.roundtrip.specs.Meant.{scale_meant}
use Rattle.roundtrip.proofs.Basics.{no_err, then_ok, past, same_ok, clash}
use Rattle.roundtrip.proofs.Shapes.{displ_length, PartFits, part_fits, part_low, Holds, mod_rm_read, Below, Goes, named, Indexed, first_index, base_back, index_back, scale_back, size_back, sib_there, mode_small}
use Rattle.roundtrip.proofs.Displacements.{Ranged, ranged, extended, whole_back, Stands, out_value, out_back, based_ok, unbased_ok}
use Rattle.roundtrip.proofs.Addressing.{checked_ok, VectorBank, size_known, width_back, base_named, index_named, IndexBelow, bank_none}
use Rattle.roundtrip.proofs.MemorySays.{Says, displ_value, displ_in}

-- RIP targets.

sign_back : (d : ℕ) → d < 18446744073709551616 → (d < 2147483648) ⊎ (18446744071562067968 ≤ d) → of_z w64 (to_z w32 (d % 4294967296)) ≡ d
sign_back d h (inl q) = let s = extended (d % 4294967296) (omega arith) in omega arith
sign_back d h (inr q) = let s = extended (d % 4294967296) (omega arith) in omega arith

sum_back : (next t d : ℕ) → next < 18446744073709551616 → t < 18446744073709551616 → d ≡ (t + (18446744073709551616 - next)) % 18446744073709551616 → (next + d) % 18446744073709551616 ≡ t % 18446744073709551616
sum_back next t d n h e = omega arith

rip_core : (next t d : ℕ) → next < 18446744073709551616 → t < 18446744073709551616 → d ≡ (t + (18446744073709551616 - next)) % 18446744073709551616 → (d < 2147483648) ⊎ (18446744071562067968 ≤ d)
    → (next + of_z w64 (to_z w32 (d % 4294967296))) % 18446744073709551616 ≡ t % 18446744073709551616
rip_core next t d n h e q =
    let small : d < 18446744073709551616 = omega arith in
    ap (λ z. (next + z) % 18446744073709551616) (sign_back d small q) ∙ sum_back next t d n h e

pub rip64_back : (next place imm t : ℕ) → t < 18446744073709551616 → next ≡ (place + (4 + imm)) % 18446744073709551616 → reaches 18446744073709551616 2147483648 (rip_distance 18446744073709551616 t place imm) ≡ true
    → (next + of_z w64 (to_z w32 (rip_distance 18446744073709551616 t place imm % 4294967296))) % 18446744073709551616 ≡ t % 18446744073709551616
rip64_back next place imm t h n k =
    let q : (rip_distance 18446744073709551616 t place imm < 2147483648) ⊎ (18446744071562067968 ≤ rip_distance 18446744073709551616 t place imm) = grind (arith, nat_tests) in
    rip_core next t (rip_distance 18446744073709551616 t place imm) (omega arith) h (ap (λ z. (t + (18446744073709551616 - z)) % 18446744073709551616) (sym n)) q

pub rip32_back : (next place imm t : ℕ) → next ≡ (place + (4 + imm)) % 18446744073709551616 → (next + of_z w64 (to_z w32 (rip_distance 4294967296 t place imm))) % 4294967296 ≡ t % 4294967296
rip32_back next place imm t n = let s = extended (rip_distance 4294967296 t place imm) (omega arith) in omega arith

-- every scale is below four
pub scale_small : (s : Scale) → scale_number s < 4
scale_small Scales.By1 = omega arith
scale_small Scales.By2 = omega arith
scale_small Scales.By4 = omega arith
scale_small Scales.By8 = omega arith

plain_fits : (rm : ℕ) (d : D.the_data) → rm < 8 → PartFits (plain_part 0 rm d)
plain_fits rm d h = record { mode_lt = omega arith; rm_lt = h; b_lt = omega arith; x_lt = omega arith; v2_lt = omega arith; sib_fits = tt }

no_sib_asked : (must : Bool) (vsib : Option RegisterRange) → (is_some vsib ≡ true → must ≡ true) → must ≡ false → (is_some vsib ≡ false) × ((must || is_some vsib) ≡ false)
no_sib_asked must vsib v n = go (is_some vsib) refl
  where
    go : (t : Bool) → is_some vsib ≡ t → (is_some vsib ≡ false) × ((must || is_some vsib) ≡ false)
    go true e = clash must (v e) n
    go false e = (e, simp (n, e))

some_vector : {A : Type 0} (vsib : Option RegisterRange) (g : RegisterRange) → is_some vsib ≡ false → vsib ≡ Some g → A
some_vector vsib g n e = clash (is_some vsib) (ap is_some e) n

no_index : (vsib : Option RegisterRange) (lead : Lead) (width : ℕ) → index_of width vsib lead None ≡ 0
no_index vsib lead width = refl

no_scale : (width index scale : ℕ) → index ≡ 0 → ◌≡◌ {A = ℕ} 0 (scale_meant width index scale)
no_scale width index scale e = rw e refl

abbrev or_none : Bool → ℕ → Option ℕ
or_none t n = cond t None (Some n)

module _ (f : ℤ → ℤ) (m : Mode) (must : Bool) (vsib : Option RegisterRange) (i : Instruction) (words : Words i) where
  -- RIP and EIP
  rip64_says : is64 m ≡ true → is_some vsib ≡ false → (must || is_some vsib) ≡ false → i.memory.base.number ≡ 70 → i.memory.index.number ≡ 0 → Says f m must vsib i 8 (plain_part 0 5 (D.RipRelSize4Target64 i.mem_displ))
  rip64_says t v n b x =
      record {
        fits = plain_fits 5 _ (omega arith);
        memory = omega arith;
        low = λ z. clash (is64 m) t z;
        plain = λ _. refl;
        width_is = width_back m 8 (inr refl) (simp t);
        sib_there = λ at reg. refl;
        size = λ at reg. refl;
        with_sib = λ z _. clash (must || is_some vsib) z n;
        vector = λ g e. some_vector vsib g v e;
        base = λ lead at reg h. simp (t, b);
        index = λ lead at reg h _. sym x;
        scale = λ lead at reg h. no_scale 8 _ _ x;
        displ = λ next place imm e far. ap (λ z. displ_in 8 next z (displ_number f 4 (displ_value place imm (D.RipRelSize4Target64 i.mem_displ)))) b ∙ rip64_back next place imm i.mem_displ words.displ e (not-false _ far);
      }

  rip32_says : is64 m ≡ true → is_some vsib ≡ false → (must || is_some vsib) ≡ false → i.memory.base.number ≡ 69 → i.memory.index.number ≡ 0 → Says f m must vsib i 4 (plain_part 0 5 (D.RipRelSize4Target32 (i.mem_displ % 4294967296)))
  rip32_says t v n b x =
      record {
        fits = plain_fits 5 _ (omega arith);
        memory = omega arith;
        low = λ z. clash (is64 m) t z;
        plain = λ _. refl;
        width_is = width_back m 4 (inl refl) (simp t);
        sib_there = λ at reg. refl;
        size = λ at reg. refl;
        with_sib = λ z _. clash (must || is_some vsib) z n;
        vector = λ g e. some_vector vsib g v e;
        base = λ lead at reg h. simp (t, b);
        index = λ lead at reg h _. sym x;
        scale = λ lead at reg h. no_scale 4 _ _ x;
        displ = λ next place imm e far. ap (λ z. displ_in 4 next z (displ_number f 4 (displ_value place imm (D.RipRelSize4Target32 (i.mem_displ % 4294967296))))) b ∙ rip32_back next place imm (i.mem_displ % 4294967296) e ∙ twice;
      }
    where
      twice : i.mem_displ % 4294967296 % 4294967296 ≡ i.mem_displ % 4294967296
      twice = omega arith

  at_width : (w : ℕ) (p : RmPart) → address_bytes m i ≡ w → Says f m must vsib i w p → Says f m must vsib i (address_bytes m i) p
  at_width w p e s = coe 0 1 (j. Says f m must vsib i (sym e j) p) s

  at_part : (p q : RmPart) → p ≡ q → Says f m must vsib i (address_bytes m i) p → Says f m must vsib i (address_bytes m i) q
  at_part p q e s = coe 0 1 (j. Says f m must vsib i (address_bytes m i) (e j)) s

  -- the size of the address under RIP and EIP
  rip_width : (base : ℕ) (w : ℕ) → i.memory.base.number ≡ base → i.memory.index.number ≡ 0 → joined_bytes (register_bytes base) (register_bytes 0) ≡ w → not (eqb w 0) ≡ true → address_bytes m i ≡ w
  unfolding address_bytes
  rip_width base w b x e n = simp (b, x, e, n)

  pub rip_says : (p : RmPart) → (is_some vsib ≡ true → must ≡ true) → is_rip i.memory.base.number ≡ true → rip_mem m must i ≡ Ok p → Says f m must vsib i (address_bytes m i) p
  unfolding rip_mem
  rip_says p v r e =
      let a = past (not (eqb i.memory.index.number 0)) _ _ p e in
      let b = past (not (eqb (scale_number i.memory.scale) 0)) _ _ p a.1 in
      let c = past (not (is64 m)) _ _ p b.1 in
      let d = past must _ _ p c.1 in
      let x : i.memory.index.number ≡ 0 = grind (arith, nat_tests) in
      go (eqb i.memory.base.number 70) refl (ltb 4294967295 i.mem_displ) d.1 (not-false _ c.0) (no_sib_asked must vsib v d.0) x
    where
      go : (t : Bool) → eqb i.memory.base.number 70 ≡ t → (far : Bool)
          → ◌≡◌ {A = Result RmPart (Refusal RmPart)} (cond t (Ok (plain_part 0 5 (D.RipRelSize4Target64 i.mem_displ))) (cond far (refusing F.EipTarget (plain_part 0 5 (D.RipRelSize4Target32 0))) (Ok (plain_part 0 5 (D.RipRelSize4Target32 (i.mem_displ % 4294967296)))))) (Ok p)
          → is64 m ≡ true → (is_some vsib ≡ false) × ((must || is_some vsib) ≡ false) → i.memory.index.number ≡ 0 → Says f m must vsib i (address_bytes m i) p
      go true t far h w n x =
          let b : i.memory.base.number ≡ 70 = grind (arith, nat_tests) in
          at_part _ p (same_ok _ p h) (at_width 8 _ (rip_width 70 8 b x refl refl) (rip64_says w n.0 n.1 b x))
      go false t true h w n x = no_err _ p h
      go false t false h w n x =
          let b : i.memory.base.number ≡ 69 = grind (arith, nat_tests) in
          at_part _ p (same_ok _ p h) (at_width 4 _ (rip_width 69 4 b x refl refl) (rip32_says w n.0 n.1 b x))

  -- an offset alone
  module _ (width : ℕ) (wide : (width ≡ 4) ⊎ (width ≡ 8)) (old : (not (is64 m) && eqb width 8) ≡ false) (ranges : Ranged width i.mem_displ) (n : is_some vsib ≡ false) (b : i.memory.base.number ≡ 0) (x : i.memory.index.number ≡ 0) where
    twice : i.mem_displ % 4294967296 % 4294967296 ≡ i.mem_displ % 4294967296
    twice = omega arith

    not_two : eqb width 2 ≡ false
    not_two = grind (arith, nat_tests)

    offset_displ : (next : ℕ) → displ_in width next i.memory.base.number (displ_number f 4 (i.mem_displ % 4294967296 % 4294967296)) ≡ modulo width i.mem_displ
    offset_displ next = (λ j. displ_in width next (b j) (displ_number f 4 (twice j))) ∙ whole_back width i.mem_displ words.displ wide ranges

    abbrev offset_part : ℕ → RmPart
    offset_part scale = record { mode = 0; rm = 4; b = 0; x = 0; v2 = 0; sib = Some record { scale = scale; index = 4; base = 5 }; displ = D.Size4 (i.mem_displ % 4294967296) }

    sib_offset_says : (scale : ℕ) → scale < 4 → Says f m must vsib i width (offset_part scale)
    sib_offset_says scale s =
        record {
          fits = record { mode_lt = omega arith; rm_lt = omega arith; b_lt = omega arith; x_lt = omega arith; v2_lt = omega arith; sib_fits = (s, omega arith, omega arith) };
          memory = omega arith;
          low = λ _. (refl, refl, refl);
          plain = λ _. refl;
          width_is = width_back m width wide old;
          sib_there = λ at reg. simp not_two;
          size = λ at reg. simp not_two;
          with_sib = λ _ _. refl;
          vector = λ g e. some_vector vsib g n e;
          base = λ lead at reg h. simp (not_two, b);
          index = λ lead at reg h _. offset_index lead h;
          scale = λ lead at reg h. offset_scale lead h;
          displ = λ next place imm e far. offset_displ next;
        }
      where
        offset_index : (lead : Lead) → Holds lead (offset_part scale) → cond (eqb width 2) (index16 (mod_rm_read 0 0 (offset_part scale))) (index_of width vsib lead (mod_rm_read 0 0 (offset_part scale)).sib) ≡ i.memory.index.number
        offset_index lead h = go vsib n
          where
            go : (o : Option RegisterRange) → is_some o ≡ false → cond (eqb width 2) (index16 (mod_rm_read 0 0 (offset_part scale))) (index_of width o lead (mod_rm_read 0 0 (offset_part scale)).sib) ≡ i.memory.index.number
            go (Some g) z = clash true refl z
            go None z = simp (not_two, h.x, x)

        offset_scale : (lead : Lead) → Holds lead (offset_part scale) → cond (eqb width 2) 0 (scale_of vsib lead (mod_rm_read 0 0 (offset_part scale)).sib) ≡ scale_meant width i.memory.index.number (scale_number i.memory.scale)
        offset_scale lead h = go vsib n
          where
            go : (o : Option RegisterRange) → is_some o ≡ false → cond (eqb width 2) 0 (scale_of o lead (mod_rm_read 0 0 (offset_part scale)).sib) ≡ scale_meant width i.memory.index.number (scale_number i.memory.scale)
            go (Some g) z = clash true refl z
            go None z = simp (not_two, h.x, x)

    plain_offset_says : is64 m ≡ false → (must || is_some vsib) ≡ false → Says f m must vsib i width (plain_part 0 5 (D.Size4 (i.mem_displ % 4294967296)))
    plain_offset_says t a =
        record {
          fits = plain_fits 5 _ (omega arith);
          memory = omega arith;
          low = λ _. (refl, refl, refl);
          plain = λ _. refl;
          width_is = width_back m width wide old;
          sib_there = λ at reg. refl;
          size = λ at reg. simp not_two;
          with_sib = λ z _. clash (must || is_some vsib) z a;
          vector = λ g e. some_vector vsib g n e;
          base = λ lead at reg h. simp (not_two, t, b);
          index = λ lead at reg h _. simp (not_two, x);
          scale = λ lead at reg h. simp (not_two, x);
          displ = λ next place imm e far. offset_displ next;
        }

    pub offset_says : (p : RmPart) → offset_mem m must vsib (scale_number i.memory.scale) i.mem_displ ≡ Ok p → Says f m must vsib i width p
    unfolding offset_mem
    offset_says p e =
        let a = past (is_some vsib) _ _ p e in
        go (is64 m || (not (eqb (scale_number i.memory.scale) 0) || must)) refl a.1
      where
        here : (q : RmPart) → q ≡ p → Says f m must vsib i width q → Says f m must vsib i width p
        here q z s = coe 0 1 (j. Says f m must vsib i width (z j)) s

        go : (t : Bool) → (is64 m || (not (eqb (scale_number i.memory.scale) 0) || must)) ≡ t
            → ◌≡◌ {A = Result RmPart (Refusal RmPart)} (cond t (Ok (offset_part (scale_number i.memory.scale))) (Ok (plain_part 0 5 (D.Size4 (i.mem_displ % 4294967296))))) (Ok p) → Says f m must vsib i width p
        go true t h = here _ (same_ok _ p h) (sib_offset_says (scale_number i.memory.scale) (scale_small i.memory.scale))
        go false t h =
            let parts = or_parts (is64 m) _ t in
            let l = parts.0 in
            let k = (or_parts _ must parts.1).1 in
            here _ (same_ok _ p h) (plain_offset_says l (simp (k, n)))

  -- base and index
  module _ (width : ℕ) (wide : (width ≡ 4) ⊎ (width ≡ 8)) (old : (not (is64 m) && eqb width 8) ≡ false) (ranges : Ranged width i.mem_displ) (bank : VectorBank vsib) (v : is_some vsib ≡ true → must ≡ true)
      (b : base_allowed m width i.memory.base.number ≡ true) (x : index_allowed m width vsib i.memory.index.number ≡ true) (not_rip : is_rip i.memory.base.number ≡ false) where
    abbrev base_is : Option ℕ
    base_is = bank_number (address_bank width) i.memory.base.number

    abbrev index_is : Option ℕ
    index_is = bank_number (index_bank width vsib) i.memory.index.number

    abbrev scale_is : ℕ
    scale_is = scale_number i.memory.scale

    not_2 : eqb width 2 ≡ false
    not_2 = grind (arith, nat_tests)

    based : Below 16 base_is × (is64 m ≡ false → Below 8 base_is) × (named (first_general width) base_is ≡ i.memory.base.number)
    based = base_named m width i.memory.base.number not_rip b

    indexed : IndexBelow vsib index_is × (is64 m ≡ false → Below 8 index_is) × (named (first_index width vsib) index_is ≡ i.memory.index.number)
    indexed = index_named m width vsib i.memory.index.number bank x

    below_k : (o : Option ℕ) (k : ℕ) → Below 16 o → o ≡ Some k → k < 16
    below_k (Some j) k h e = let z : j ≡ k = cc in rw (sym z) h
    below_k None k h e = clash false (ap is_some e) refl

    below_32 : (vsib : Option RegisterRange) (o : Option ℕ) → IndexBelow vsib o → Below 32 o
    below_32 (Some g) (Some j) h = h.0
    below_32 (Some g) None h = tt
    below_32 None (Some j) h = omega arith
    below_32 None None h = tt

    -- neither the stack pointer, nor none in place of a vector
    index_said : (o : Option RegisterRange) (j : Option ℕ) → IndexBelow o j → (is_some o ≡ true → is_some j ≡ true) → (j ≡ Some 4 → is_some o ≡ true) → Indexed o j
    index_said (Some g) (Some j) h s k = h.0
    index_said (Some g) None h s k = clash false (s refl) refl
    index_said None (Some j) h s k = (h, λ z. clash false (k (ap Some z)) refl)
    index_said None None h s k = tt

    scaled : (o : Option RegisterRange) (g : RegisterRange) (n : ℕ) → cond (is_some (bank_number g n)) scale_is 0 ≡ scale_meant width n scale_is
    scaled o g n = go (eqb n 0) (eqb width 2) not_2
      where
        go : (t w : Bool) → w ≡ false → cond (is_some (or_none t (n - g.lo))) scale_is 0 ≡ cond (t || w) 0 scale_is
        go true w e = refl
        go false w e = simp e

    abbrev part : Out → RmPart
    part out = address_part must base_is index_is scale_is i.mem_displ out

    displ_of_out : (out : Out) (place imm : ℕ) → displ_value place imm (out_displ i.mem_displ out) ≡ out_value i.mem_displ out
    displ_of_out Nothing place imm = refl
    displ_of_out (Byte u) place imm = refl
    displ_of_out Full place imm = omega arith
    displ_of_out Wrong place imm = refl

    not_counted : counts_on i.memory.base.number ≡ false
    not_counted = not_rip

    out_far : (out : Out) (place imm : ℕ) → displ_far place imm (out_displ i.mem_displ out) ≡ false
    out_far Nothing place imm = refl
    out_far (Byte u) place imm = refl
    out_far Full place imm = refl
    out_far Wrong place imm = refl

    part_displ : (out : Out) → (part out).displ ≡ out_displ i.mem_displ out
    part_displ out = go (wants_sib must base_is index_is scale_is)
      where
        go : (t : Bool) → (cond {A = RmPart} t record { mode = out_mode base_is out; rm = 4; b = bit3 base_is; x = bit3 index_is; v2 = bit4 index_is; sib = Some record { scale = scale_is; index = low3_or 4 index_is; base = low3_or 5 base_is }; displ = out_displ i.mem_displ out } record { mode = out_mode base_is out; rm = low3_or 0 base_is; b = bit3 base_is; x = 0; v2 = 0; sib = None; displ = out_displ i.mem_displ out }).displ ≡ out_displ i.mem_displ out
        go true = refl
        go false = refl

    sib_asked : (out : Out) → (must || is_some vsib) ≡ true → (part out).rm ≡ 4
    sib_asked out h = go must refl vsib v h
      where
        go : (t : Bool) → must ≡ t → (o : Option RegisterRange) → (is_some o ≡ true → must ≡ true) → (must || is_some o) ≡ true → (part out).rm ≡ 4
        go true e o v h = grind (arith, nat_tests)
        go false e (Some g) v h = clash must (v refl) e
        go false e None v h = clash (must || false) h (simp e)

    no_vector_bit : (out : Out) → is_some vsib ≡ false → (part out).v2 ≡ 0
    no_vector_bit out h = go vsib h index_is indexed.0
      where
        go : (o : Option RegisterRange) → is_some o ≡ false → (j : Option ℕ) → IndexBelow o j → (address_part must base_is j scale_is i.mem_displ out).v2 ≡ 0
        go (Some g) e j k = clash true refl e
        go None e (Some j) k = grind (arith, nat_tests)
        go None e None k = grind (arith, nat_tests)

    part_mode : (out : Out) → (part out).mode < 3
    part_mode out = let z = mode_small base_is out in grind (arith, nat_tests)

    in_vector : (g : RegisterRange) → vsib ≡ Some g → is_some index_is ≡ true → in_range m g i.memory.index.number ≡ true
    in_vector g e s = go vsib e x (sym (bank_none (index_bank width vsib) i.memory.index.number) ∙ s)
      where
        go : (o : Option RegisterRange) → o ≡ Some g → index_allowed m width o i.memory.index.number ≡ true → not (eqb i.memory.index.number 0) ≡ true → in_range m g i.memory.index.number ≡ true
        go (Some h) e a n = let z : h ≡ g = cc in let k : in_range m h i.memory.index.number ≡ true = grind (arith, nat_tests) in coe 0 1 (j. in_range m (z j) i.memory.index.number ≡ true) k
        go None e a n = clash false (ap is_some e) refl

    based_part_says : (out : Out) → Stands f i.mem_displ out → Goes base_is out → Indexed vsib index_is → (is_some base_is ≡ false → is_some index_is ≡ true) → (is_some vsib ≡ true → is_some index_is ≡ true) → Says f m must vsib i width (part out)
    based_part_says out st go_out ix some vx =
        record {
          fits = part_fits must base_is index_is scale_is i.mem_displ out (scale_small i.memory.scale) (below_32 vsib index_is indexed.0);
          memory = part_mode out;
          low = λ t. part_low must base_is index_is scale_is i.mem_displ out (based.1 t) (indexed.1 t);
          plain = no_vector_bit out;
          width_is = width_back m width wide old;
          sib_there = λ at reg. sib_there m width at reg scale_is i.mem_displ must wide base_is index_is out go_out;
          size = λ at reg. size_back m width at reg scale_is i.mem_displ must wide base_is index_is out go_out some ∙ ap displ_length (sym (part_displ out));
          with_sib = λ h _. sib_asked out h;
          vector = λ g e. (not_2, in_vector g e (vx (ap is_some e)));
          base = λ lead at reg h. simp not_2 (base_back m width at reg scale_is i.mem_displ must wide lead base_is index_is out h go_out (λ k. below_k base_is k based.0) ∙ based.2);
          index = λ lead at reg h w. simp not_2 (index_back m width at reg scale_is i.mem_displ must wide lead vsib base_is index_is out h w ix ∙ indexed.2);
          scale = λ lead at reg h. ap (λ t. cond t 0 (scale_of vsib lead (mod_rm_read at reg (part out)).sib)) not_2 ∙ scale_back m width at reg scale_is i.mem_displ must wide lead vsib base_is index_is out h ix ∙ scaled vsib (index_bank width vsib) i.memory.index.number;
          displ = λ next place imm e far. displ_said out next place imm st go_out;
        }
      where
        displ_said : (out : Out) (next place imm : ℕ) → Stands f i.mem_displ out → Goes base_is out
            → displ_in width next i.memory.base.number (displ_number f (displ_length (part out).displ) (displ_value place imm (part out).displ)) ≡ modulo width i.mem_displ
        displ_said out next place imm st g =
            ap (λ z. displ_in width next i.memory.base.number (displ_number f (displ_length z) (displ_value place imm z))) (part_displ out)
            ∙ ap (λ z. displ_in width next i.memory.base.number (displ_number f (displ_length (out_displ i.mem_displ out)) z)) (displ_of_out out place imm)
            ∙ ap (λ t. modulo width (cond t (next + displ_number f (displ_length (out_displ i.mem_displ out)) (out_value i.mem_displ out)) (displ_number f (displ_length (out_displ i.mem_displ out)) (out_value i.mem_displ out)))) not_counted
            ∙ out_back f width i.mem_displ out base_is words.displ wide ranges st g

    stack_not : (j : ℕ) → is_stack_pointer i.memory.index.number ≡ false → index_is ≡ Some j → j ≡ 4 → is_some vsib ≡ true
    stack_not j s e z = go vsib indexed.2 (e ∙ ap Some z)
      where
        go : (o : Option RegisterRange) → named (first_index width o) index_is ≡ i.memory.index.number → index_is ≡ Some 4 → is_some o ≡ true
        go (Some g) n e = refl
        go None n e =
            let k : named (first_general width) (Some 4) ≡ i.memory.index.number = ap (named (first_general width)) (sym e) ∙ n in
            let q : is_stack_pointer i.memory.index.number ≡ true = grind (arith, nat_tests) in
            clash (is_stack_pointer i.memory.index.number) q s

    out_of : (out : Out) → displ_out f width base_is i.mem_displ (displ_bytes i.memory.displ_size) ≡ Ok out → is_wrong out ≡ false → Stands f i.mem_displ out × Goes base_is out
    out_of out e w = go base_is e
      where
        go : (o : Option ℕ) → displ_out f width o i.mem_displ (displ_bytes i.memory.displ_size) ≡ Ok out → Stands f i.mem_displ out × Goes o out
        go (Some k) e = based_ok f width k i.mem_displ (displ_bytes i.memory.displ_size) out e w
        go None e = let z = unbased_ok f width i.mem_displ (displ_bytes i.memory.displ_size) out e in (coe 0 1 (j. Stands f i.mem_displ (sym z j)) tt, coe 0 1 (j. Goes None (sym z j)) tt)

    pub based_says : (p : RmPart) → (is_some base_is ≡ false → is_some index_is ≡ true) → (is_some vsib ≡ true → is_some index_is ≡ true) → based_mem f width must (address_of width vsib i) ≡ Ok p → Says f m must vsib i width p
    unfolding based_mem address_of
    based_says p some vx e =
        let t = then_ok _ _ p e in
        let out = t.0 in
        let a = past (is_wrong out) _ _ p t.2 in
        let b = past (is_stack_pointer i.memory.index.number) _ _ p a.1 in
        let o = out_of out t.1 a.0 in
        coe 0 1 (j. Says f m must vsib i width (same_ok _ p b.1 j)) (based_part_says out o.0 o.1 (index_said vsib index_is indexed.0 vx (λ z. stack_not 4 b.0 z refl)) some vx)

  -- neither base nor index
  bare_is : is_bare i ≡ true → (i.memory.base.number ≡ 0) × (i.memory.index.number ≡ 0)
  unfolding is_bare
  bare_is e = (grind (arith, nat_tests), grind (arith, nat_tests))

  some_of : (width : ℕ) → is_bare i ≡ false → is_some (bank_number (address_bank width) i.memory.base.number) ≡ false → is_some (bank_number (index_bank width vsib) i.memory.index.number) ≡ true
  unfolding is_bare
  some_of width e n =
      let a = bank_none (address_bank width) i.memory.base.number in
      let b = bank_none (index_bank width vsib) i.memory.index.number in
      b ∙ grind (arith, nat_tests)

  vector_index : (width : ℕ) → is_bare i ≡ false → (i.memory.index.number ≡ 0 → i.memory.base.number ≡ 0) → is_some (bank_number (index_bank width vsib) i.memory.index.number) ≡ true
  unfolding is_bare
  vector_index width e h = bank_none (index_bank width vsib) i.memory.index.number ∙ go (eqb i.memory.index.number 0) refl
    where
      go : (t : Bool) → eqb i.memory.index.number 0 ≡ t → not t ≡ true
      go true z =
          let x : i.memory.index.number ≡ 0 = grind (arith, nat_tests) in
          let b = h x in
          let k : (eqb i.memory.base.number 0 && eqb i.memory.index.number 0) ≡ true = grind (arith, nat_tests) in
          clash (eqb i.memory.base.number 0 && eqb i.memory.index.number 0) k e
      go false z = refl

  offset_none : (p : RmPart) → offset_mem m must vsib (scale_number i.memory.scale) i.mem_displ ≡ Ok p → is_some vsib ≡ false
  unfolding offset_mem
  offset_none p e = (past (is_some vsib) _ _ p e).0

  -- every memory operand with such an address
  pub mem_says : (p : RmPart) → VectorBank vsib → (is_some vsib ≡ true → must ≡ true) → (is_some vsib ≡ true → i.memory.index.number ≡ 0 → i.memory.base.number ≡ 0) → eqb (address_bytes m i) 2 ≡ false → mem f m (address_bytes m i) must vsib i ≡ Ok p → Says f m must vsib i (address_bytes m i) p
  unfolding mem mem_checked ranged_mem
  mem_says p bank v bare not_2 e =
      let t = then_ok (mem_checked m (address_bytes m i) vsib i) _ p e in
      let c = checked_ok _ _ _ _ t.1 in
      go (is_rip i.memory.base.number) refl c.0 c.1 c.2 t.2
    where
      ranged_case : (not (is64 m) && eqb (address_bytes m i) 8) ≡ false → base_allowed m (address_bytes m i) i.memory.base.number ≡ true → index_allowed m (address_bytes m i) vsib i.memory.index.number ≡ true
          → is_rip i.memory.base.number ≡ false → ranged_mem f m (address_bytes m i) must vsib i ≡ Ok p → Says f m must vsib i (address_bytes m i) p
      ranged_case old b x r h =
          let t = then_ok (displ_checked (address_bytes m i) i.mem_displ) _ p h in
          last (is_bare i) refl (size_known m i vsib bank not_2 r b x) (ranged (address_bytes m i) i.mem_displ t.1) t.2
        where
          last : (z : Bool) → is_bare i ≡ z → (address_bytes m i ≡ 4) ⊎ (address_bytes m i ≡ 8) → Ranged (address_bytes m i) i.mem_displ
              → cond z (offset_mem m must vsib (scale_number i.memory.scale) i.mem_displ) (based_mem f (address_bytes m i) must (address_of (address_bytes m i) vsib i)) ≡ Ok p → Says f m must vsib i (address_bytes m i) p
          last true z wide ranges k = let q = bare_is z in offset_says (address_bytes m i) wide old ranges (offset_none p k) q.0 q.1 p k
          last false z wide ranges k =
              based_says (address_bytes m i) wide old ranges bank v b x r p (some_of (address_bytes m i) z) (λ s. vector_index (address_bytes m i) z (bare s)) k

      go : (rip : Bool) → is_rip i.memory.base.number ≡ rip → (not (is64 m) && eqb (address_bytes m i) 8) ≡ false → base_allowed m (address_bytes m i) i.memory.base.number ≡ true → index_allowed m (address_bytes m i) vsib i.memory.index.number ≡ true
          → cond rip (rip_mem m must i) (ranged_mem f m (address_bytes m i) must vsib i) ≡ Ok p → Says f m must vsib i (address_bytes m i) p
      go true r old b x h = rip_says p v r h
      go false r old b x h = ranged_case old b x r h
