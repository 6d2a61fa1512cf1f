-- What an operand leaves alone, and that numbers stay in range.
use Rattle.std.proofs.Common.{◌≡◌, ℕ, ◌/◌, ◌%◌, ◌<◌, Bool, true, false, cond, ◌||◌, eqb, leb, ℤ, is_some, Some, None, Ok, Option, sym, refl, ap, ◌∙◌, arith}
use Rattle.std.proofs.lemmas.Bool.{or_left, or_from}
use Rattle.std.proofs.lemmas.Bool.Decides.{nat_tests}
use Rattle.fault.specs.declared.operand.OperandFault.TheVariants as F
use Rattle.machine.specs.declared.mode.Mode.{Mode}
use Rattle.machine.specs.declared.op_kind.OpKind.{OpKind}
use Rattle.machine.specs.Modes.{is64}
use Rattle.machine.specs.OpKinds.{kind_number}
use Rattle.instruction.specs.declared.made.Instruction.{Instruction}
use Rattle.instruction.specs.Getters.{imm64, low8}
use Rattle.record.specs.declared.class.Class.TheVariants.{RmSlot, RegSlot, Vvvv}
use Rattle.record.specs.declared.head.Head.{Head}
use Rattle.record.specs.declared.imm.ImmShape.{ImmShape}
use Rattle.record.specs.declared.imm.ImmShape.TheVariants as Shape
use Rattle.record.specs.declared.op.Op.{Op}
use Rattle.record.specs.declared.op.Op.TheVariants.{ModRmRm, O, ModRmReg, RegEmbed8, Reg, Hx}
use Rattle.record.specs.declared.op.RegisterRange.{RegisterRange}
use Rattle.record.specs.declared.sound.Record.{Record}
use Rattle.record.specs.Classes.{op_number, belongs}
use Rattle.record.specs.Facts.{BankFacts}
use Rattle.record.specs.Immediates.{imm_after, imm_first, imm_byte}
use Rattle.record.specs.Rules.{range_vector16, range_vector32}
use Rattle.gather.specs.declared.absolute.Offset.{Offset}
use Rattle.gather.specs.declared.parts.Imm.{Imm}
use Rattle.gather.specs.declared.parts.Imm.TheVariants as Imms
use Rattle.gather.specs.declared.parts.Parts.{Parts}
use Rattle.gather.specs.declared.parts.RmPart.{RmPart}
use Rattle.gather.specs.declared.register.RegPart.{RegPart}
use Rattle.gather.specs.Address.{address_bytes, in_range}
use Rattle.gather.specs.Immediates.{byte_operand, same_kind}
use Rattle.gather.specs.declared.parts.Displ.TheVariants.{Absent}
use Rattle.gather.specs.Memory.{mem}
use Rattle.gather.specs.Memory16.{mem16}
use Rattle.gather.specs.Parts.{refusing, blank}
use Rattle.gather.specs.Registers.{reg_part}
use Rattle.gather.specs.Steps.{Spread, mem_sized, broadcasts, with_rm, with_flags, with_imm, addressing, put_rm_register, put_reg, put_embedded, put_vvvv, put_offset}
use Rattle.encoder.specs.Fields.{imm_length}
use Rattle.roundtrip.specs.Law.{Words}
use Rattle.roundtrip.proofs.Basics.{past, kept_ok, clash}
use Rattle.roundtrip.proofs.Shapes.{PartFits}
use Rattle.roundtrip.proofs.Addressing.{VectorBank}
use Rattle.roundtrip.proofs.MemorySays.{Says}
use Rattle.roundtrip.proofs.Memory32.{mem_says}
use Rattle.roundtrip.proofs.Memory16.{mem16_says}
use Rattle.roundtrip.proofs.Registers.{Number, number_fits}
use Rattle.roundtrip.proofs.Wrote.{MemoryWrote}

-- every number of the parts is in its range; outside mode 64 no bit of a head is asked for
pub record Fit (h : Head) (m : Mode) (p : Parts) : Type 0 where
  pub reg : Number h false m p.reg
  pub low : p.low < 8
  pub vvvv : Number h false m p.vvvv
  pub rm : PartFits p.rm
  pub rm_low : is64 m ≡ false → (p.rm.b ≡ 0) × (p.rm.x ≡ 0) × (p.rm.v2 ≡ 0)
  pub rex : is64 m ≡ false → p.flags.rex ≡ false

-- the immediate that the operands so far make up
abbrev pub ImmIs : Instruction → ImmShape → Imm → Type 0
ImmIs i Shape.Nothing x = x ≡ Imms.Absent
ImmIs i Shape.Ib x = x ≡ Imms.Size1 (low8 i.immediate)
ImmIs i Shape.IbIb x = x ≡ Imms.Size1And1 (low8 i.immediate) (low8 i.mem_displ)
ImmIs i Shape.Id x = x ≡ Imms.Size4 i.immediate
ImmIs i Shape.Iq x = x ≡ Imms.Size8 (imm64 i)
ImmIs i (Shape.J s) x = imm_length x ≡ s
ImmIs i Shape.Wrong x = Unit {0}

-- what the operand in ModRM.rm, the opcode or the offset owns
pub record SameRm (p q : Parts) : Type 0 where
  pub rm : q.rm ≡ p.rm
  pub low : q.low ≡ p.low
  pub p67 : q.flags.p67 ≡ p.flags.p67
  pub broadcast : q.flags.broadcast ≡ p.flags.broadcast

pub record Frame (h : Head) (m : Mode) (i : Instruction) (op : Op) (p q : Parts) : Type 0 where
  pub rm_same : belongs RmSlot op ≡ false → SameRm p q
  pub reg_same : belongs RegSlot op ≡ false → q.reg ≡ p.reg
  pub v_same : belongs Vvvv op ≡ false → q.vvvv ≡ p.vvvv
  pub imm_same : leb 9 (op_number op) ≡ false → q.imm ≡ p.imm
  pub imm_on : (s : ImmShape) → ImmIs i s p.imm → ImmIs i (imm_after s (Some op)) q.imm
  pub w_same : q.flags.w ≡ p.flags.w
  pub rex_up : p.flags.rex ≡ true → q.flags.rex ≡ true
  pub high_up : p.flags.high ≡ true → q.flags.high ≡ true
  pub fit : Fit h m p → Fit h m q

-- the vector bank of an operand with a vector index
vector_bank : (g : RegisterRange) → (range_vector16 g || range_vector32 g) ≡ true → VectorBank (Some g)
vector_bank g e = go (range_vector16 g) refl (range_vector32 g) refl e
  where
    go : (a : Bool) → range_vector16 g ≡ a → (b : Bool) → range_vector32 g ≡ b → (a || b) ≡ true → VectorBank (Some g)
    go true x b y e = (grind (arith, nat_tests), grind (arith, nat_tests))
    go false x true y e = (grind (arith, nat_tests), grind (arith, nat_tests))
    go false x false y e = clash false e refl

rex_low : (m : Mode) (g : RegisterRange) (n : ℕ) → in_range m g n ≡ true → is64 m ≡ false → (reg_part g n).rex ≡ false
rex_low m g n r z = grind (arith, nat_tests)

module _ (sp : Spread) (m : Mode) (r : Record) (i : Instruction) (words : Words i) where
  -- every memory operand says its address
  pub sized_says : (must : Bool) (vsib : Option RegisterRange) (part : RmPart) → VectorBank vsib → (is_some vsib ≡ true → must ≡ true) → (is_some vsib ≡ true → i.memory.index.number ≡ 0 → i.memory.base.number ≡ 0)
      → mem_sized (sp r (broadcasts r i)) m (address_bytes m i) must vsib i ≡ Ok part → Says (sp r (broadcasts r i)) m must vsib i (address_bytes m i) part
  sized_says must vsib part bank v bare e = go (eqb (address_bytes m i) 2) refl e
    where
      f : ℤ → ℤ
      f = sp r (broadcasts r i)

      go : (t : Bool) → eqb (address_bytes m i) 2 ≡ t → cond t (cond (is_some vsib) (refusing F.Vsib16 blank) (mem16 (sp r (broadcasts r i)) m i)) (mem (sp r (broadcasts r i)) m (address_bytes m i) must vsib i) ≡ Ok part
          → Says (sp r (broadcasts r i)) m must vsib i (address_bytes m i) part
      go true t e =
          let a = past (is_some vsib) _ _ part e in
          let w : address_bytes m i ≡ 2 = grind (arith, nat_tests) in
          coe 0 1 (j. Says (sp r (broadcasts r i)) m must vsib i (sym w j) part) (mem16_says (sp r (broadcasts r i)) m must vsib i part a.0 a.1)
      go false t e = mem_says (sp r (broadcasts r i)) m must vsib i words part bank v bare t e

  abbrev h : Head
  h = r.raw.head

  frame_at : (op : Op) (p q t : Parts) → q ≡ t → Frame h m i op p t → Frame h m i op p q
  frame_at op p q t e f = coe 0 1 (j. Frame h m i op p (sym e j)) f

  -- a memory operand
  memory_frame : (op : Op) (p : Parts) (part : RmPart) (p67 broadcast must : Bool) (vsib : Option RegisterRange) → belongs RmSlot op ≡ true → ((s : ImmShape) → imm_after s (Some op) ≡ s) → Says (sp r (broadcasts r i)) m must vsib i (address_bytes m i) part
      → Frame h m i op p (with_flags (with_rm p part) (addressing p.flags p67 broadcast))
  memory_frame op p part p67 broadcast must vsib slot on says =
      record {
        rm_same = λ z. clash (belongs RmSlot op) slot z;
        reg_same = λ _. refl;
        v_same = λ _. refl;
        imm_same = λ _. refl;
        imm_on = λ s x. coe 0 1 (j. ImmIs i (sym (on s) j) p.imm) x;
        w_same = refl;
        rex_up = λ x. x;
        high_up = λ x. x;
        fit = λ f. record { reg = f.reg; low = f.low; vvvv = f.vvvv; rm = says.fits; rm_low = says.low; rex = f.rex };
      }

  wrote_memory : (op : Op) (must : Bool) (vsib : Option RegisterRange) (p q : Parts) → belongs RmSlot op ≡ true → ((s : ImmShape) → imm_after s (Some op) ≡ s) → VectorBank vsib → (is_some vsib ≡ true → must ≡ true)
      → (is_some vsib ≡ true → i.memory.index.number ≡ 0 → i.memory.base.number ≡ 0) → MemoryWrote sp m r i must vsib p q → Frame h m i op p q
  wrote_memory op must vsib p q slot on bank v bare w = frame_at op p q _ w.parts (memory_frame op p w.part _ _ must vsib slot on (sized_says must vsib w.part bank v bare w.is))

  -- a register in ModRM.rm
  rm_register_fits : (n : ℕ) → n < 32 → PartFits record { mode = 3; rm = n % 8; b = n / 8 % 2; x = n / 16; v2 = 0; sib = None; displ = Absent }
  rm_register_fits n h = record { mode_lt = omega arith; rm_lt = omega arith; b_lt = omega arith; x_lt = omega arith; v2_lt = omega arith; sib_fits = tt }

  module _ (g : RegisterRange) (n : ℕ) (p : Parts) (inside : in_range m g n ≡ true) where
    abbrev part : RegPart
    part = reg_part g n

    no_rex : Fit h m p → is64 m ≡ false → (p.flags.rex || part.rex) ≡ false
    no_rex f z = or_from p.flags.rex part.rex (f.rex z) (rex_low m g n inside z)

    rm_frame : BankFacts h false g → Frame h m i (ModRmRm g) p (put_rm_register p part)
    rm_frame facts =
        let k = (number_fits h false m g n facts inside).0 in
        record {
          rm_same = λ z. clash true refl z;
          reg_same = λ _. refl;
          v_same = λ _. refl;
          imm_same = λ _. refl;
          imm_on = λ s x. x;
          w_same = refl;
          rex_up = or_left p.flags.rex part.rex;
          high_up = or_left p.flags.high part.high;
          fit = λ f. record { reg = f.reg; low = f.low; vvvv = f.vvvv; rm = rm_register_fits part.number k.small; rm_low = λ z. low_bits (k.low z); rex = no_rex f };
        }
      where
        low_bits : part.number < 8 → (part.number / 8 % 2 ≡ 0) × (part.number / 16 ≡ 0) × (◌≡◌ {A = ℕ} 0 0)
        low_bits z = (omega arith, omega arith, refl)

    reg_frame : BankFacts h false g → Frame h m i (ModRmReg g) p (put_reg p part)
    reg_frame facts =
        record {
          rm_same = λ _. record { rm = refl; low = refl; p67 = refl; broadcast = refl };
          reg_same = λ z. clash true refl z;
          v_same = λ _. refl;
          imm_same = λ _. refl;
          imm_on = λ s x. x;
          w_same = refl;
          rex_up = or_left p.flags.rex part.rex;
          high_up = or_left p.flags.high part.high;
          fit = λ f. record { reg = (number_fits h false m g n facts inside).0; low = f.low; vvvv = f.vvvv; rm = f.rm; rm_low = f.rm_low; rex = no_rex f };
        }

    vvvv_frame : BankFacts h false g → Frame h m i (Hx g) p (put_vvvv p part)
    vvvv_frame facts =
        record {
          rm_same = λ _. record { rm = refl; low = refl; p67 = refl; broadcast = refl };
          reg_same = λ _. refl;
          v_same = λ z. clash true refl z;
          imm_same = λ _. refl;
          imm_on = λ s x. x;
          w_same = refl;
          rex_up = λ x. x;
          high_up = λ x. x;
          fit = λ f. record { reg = f.reg; low = f.low; vvvv = (number_fits h false m g n facts inside).0; rm = f.rm; rm_low = f.rm_low; rex = f.rex };
        }

    embedded_frame : BankFacts h true g → Frame h m i (RegEmbed8 g) p (put_embedded p part)
    embedded_frame facts =
        let k = (number_fits h true m g n facts inside).0 in
        let s : part.number < 16 = k.inside refl in
        record {
          rm_same = λ z. clash true refl z;
          reg_same = λ _. refl;
          v_same = λ _. refl;
          imm_same = λ _. refl;
          imm_on = λ s x. x;
          w_same = refl;
          rex_up = or_left p.flags.rex part.rex;
          high_up = or_left p.flags.high part.high;
          fit = λ f. record { reg = f.reg; low = omega arith; vvvv = f.vvvv; rm = record { mode_lt = f.rm.mode_lt; rm_lt = f.rm.rm_lt; b_lt = omega arith; x_lt = f.rm.x_lt; v2_lt = f.rm.v2_lt; sib_fits = f.rm.sib_fits }; rm_low = λ z. low_bits (k.low z) (f.rm_low z); rex = no_rex f };
        }
      where
        low_bits : part.number < 8 → (p.rm.b ≡ 0) × (p.rm.x ≡ 0) × (p.rm.v2 ≡ 0) → (part.number / 8 ≡ 0) × (p.rm.x ≡ 0) × (p.rm.v2 ≡ 0)
        low_bits z f = (omega arith, f.1, f.2)

  -- an absolute offset
  offset_frame : (p : Parts) (o : Offset) → Frame h m i O p (put_offset p o)
  offset_frame p o =
      record {
        rm_same = λ z. clash true refl z;
        reg_same = λ _. refl;
        v_same = λ _. refl;
        imm_same = λ _. refl;
        imm_on = λ s x. x;
        w_same = refl;
        rex_up = λ x. x;
        high_up = λ x. x;
        fit = λ f. record { reg = f.reg; low = f.low; vvvv = f.vvvv; rm = record { mode_lt = f.rm.mode_lt; rm_lt = f.rm.rm_lt; b_lt = f.rm.b_lt; x_lt = f.rm.x_lt; v2_lt = f.rm.v2_lt; sib_fits = f.rm.sib_fits }; rm_low = f.rm_low; rex = f.rex };
      }

  -- nothing is altered
  still_frame : (n : ℕ) (p : Parts) → Frame h m i (Reg n) p p
  still_frame n p = record { rm_same = λ _. record { rm = refl; low = refl; p67 = refl; broadcast = refl }; reg_same = λ _. refl; v_same = λ _. refl; imm_same = λ _. refl; imm_on = λ s x. x; w_same = refl; rex_up = λ x. x; high_up = λ x. x; fit = λ f. f }

  -- an immediate
  imm_frame : (op : Op) (p : Parts) (x : Imm) → belongs RmSlot op ≡ false → leb 9 (op_number op) ≡ true → ((s : ImmShape) → ImmIs i s p.imm → ImmIs i (imm_after s (Some op)) x) → Frame h m i op p (with_imm p x)
  imm_frame op p x slot imm on =
      record {
        rm_same = λ _. record { rm = refl; low = refl; p67 = refl; broadcast = refl };
        reg_same = λ _. refl;
        v_same = λ _. refl;
        imm_same = λ z. clash (leb 9 (op_number op)) imm z;
        imm_on = on;
        w_same = refl;
        rex_up = λ x. x;
        high_up = λ x. x;
        fit = λ f. record { reg = f.reg; low = f.low; vvvv = f.vvvv; rm = f.rm; rm_low = f.rm_low; rex = f.rex };
      }

  -- nothing stands before, else the list is wrong
  first_on : (shape s : ImmShape) (x y : Imm) → ImmIs i shape y → ImmIs i s x → ImmIs i (imm_first s shape) y
  first_on shape Shape.Nothing x y h e = h
  first_on shape Shape.Ib x y h e = tt
  first_on shape Shape.IbIb x y h e = tt
  first_on shape Shape.Id x y h e = tt
  first_on shape Shape.Iq x y h e = tt
  first_on shape (Shape.J s) x y h e = tt
  first_on shape Shape.Wrong x y h e = tt

  byte_on : (k kind : OpKind) (s : ImmShape) (x y : Imm) → byte_operand x k kind i ≡ Ok y → ImmIs i s x → ImmIs i (imm_byte s) y
  byte_on k kind Shape.Nothing x y e z = kept_ok (same_kind k kind) F.OpKind _ y (ap (λ w. byte_operand w k kind i) (sym z) ∙ e)
  byte_on k kind Shape.Ib x y e z = kept_ok (eqb (kind_number kind) 7) F.OpKind _ y (ap (λ w. byte_operand w k kind i) (sym z) ∙ e)
  byte_on k kind Shape.IbIb x y e z = tt
  byte_on k kind Shape.Id x y e z = tt
  byte_on k kind Shape.Iq x y e z = tt
  byte_on k kind (Shape.J s) x y e z = tt
  byte_on k kind Shape.Wrong x y e z = tt
