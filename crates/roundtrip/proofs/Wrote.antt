-- What an operand that is not refused leaves.
use Rattle.std.proofs.Common.{◌≡◌, ℕ, Bool, true, false, cond, not, eqb, ◌⊎◌, is_some, Some, None, Ok, Err, Option, Result, refl, ap, inl, inr, arith}
use Rattle.std.proofs.lemmas.Bool.Decides.{nat_tests}
use Rattle.fault.specs.declared.operand.OperandFault.{OperandFault}
use Rattle.fault.specs.declared.operand.OperandFault.TheVariants as F
use Rattle.machine.specs.declared.mode.Mode.{Mode}
use Rattle.machine.specs.declared.op_kind.OpKind.{OpKind}
use Rattle.machine.specs.declared.place.Place.{Place}
use Rattle.instruction.specs.declared.made.Instruction.{Instruction}
use Rattle.instruction.specs.Getters.{op_kind_at, op_register_at, imm64}
use Rattle.record.specs.declared.op.Op.{Op}
use Rattle.record.specs.declared.op.Op.TheVariants.{ModRmRm, ModRmRmMemOnly, Vsib, O, ModRmReg, RegEmbed8, Reg, Hx, Ib, Id, Iq, J}
use Rattle.record.specs.declared.op.RegisterRange.{RegisterRange}
use Rattle.record.specs.declared.sound.Record.{Record}
use Rattle.gather.specs.declared.absolute.Offset.{Offset}
use Rattle.gather.specs.declared.immediate.Branch.{Branch}
use Rattle.gather.specs.declared.parts.Imm.{Imm}
use Rattle.gather.specs.declared.parts.Imm.TheVariants as Imms
use Rattle.gather.specs.declared.parts.Parts.{Parts}
use Rattle.gather.specs.declared.parts.RmPart.{RmPart}
use Rattle.gather.specs.declared.refusal.Refusal.{Refusal}
use Rattle.gather.specs.declared.register.RegPart.{RegPart}
use Rattle.gather.specs.Absolute.{absolute}
use Rattle.machine.specs.Modes.{mode_bytes}
use Rattle.gather.specs.Address.{address_bytes, in_range}
use Rattle.gather.specs.Immediates.{byte_operand, branch_of, same_kind}
use Rattle.gather.specs.Registers.{is_register, is_memory, ranged_register, register_operand, reg_part}
use Rattle.gather.specs.Steps.{Spread, op_step, rm_memory, register_step, memory_step, offset_step, imm_step, branch_step, fixed_step, fixed_told, mem_only, faulty, with_rm, with_flags, with_imm, addressing, put_rm_register, put_reg, put_embedded, put_vvvv, put_offset, put_branch, mem_sized, broadcasts}
use Rattle.roundtrip.proofs.Basics.{clash}

-- a refusal is there
refused : {A : Type 0} (f : OperandFault) → ◌≡◌ {A = Option OperandFault} (Some f) None → A
refused f e = clash true refl (ap is_some e)

eqb_same : (a b : ℕ) → eqb a b ≡ true → a ≡ b
eqb_same a b e = grind (arith, nat_tests)

-- memory under ModRM
pub record MemoryWrote (sp : Spread) (m : Mode) (r : Record) (i : Instruction) (must : Bool) (vsib : Option RegisterRange) (p q : Parts) : Type 0 where
  pub part : RmPart
  pub is : mem_sized (sp r (broadcasts r i)) m (address_bytes m i) must vsib i ≡ Ok part
  pub parts : q ≡ with_flags (with_rm p part) (addressing p.flags (not (eqb (address_bytes m i) (mode_bytes m))) (broadcasts r i))

-- a register of a range
pub record RegisterWrote (m : Mode) (g : RegisterRange) (n : ℕ) (put : RegPart → Parts) (q : Parts) : Type 0 where
  pub inside : in_range m g n ≡ true
  pub parts : q ≡ put (reg_part g n)

pub record OffsetWrote (m : Mode) (k : OpKind) (i : Instruction) (p q : Parts) : Type 0 where
  pub offset : Offset
  pub is : absolute m k i ≡ Ok offset
  pub parts : q ≡ put_offset p offset

pub record ByteWrote (k kind : OpKind) (i : Instruction) (p q : Parts) : Type 0 where
  pub imm : Imm
  pub is : byte_operand p.imm k kind i ≡ Ok imm
  pub parts : q ≡ with_imm p imm

module _ (sp : Spread) (m : Mode) (r : Record) (i : Instruction) (at : Place) where
  abbrev kind : OpKind
  kind = op_kind_at i at

  abbrev number : ℕ
  number = op_register_at i at

  abbrev pub Wrote : Op → Parts → Parts → Type 0
  Wrote (ModRmRm g) p q = ((is_register kind ≡ true) × RegisterWrote m g number (put_rm_register p) q) ⊎ ((is_register kind ≡ false) × (is_memory kind ≡ true) × MemoryWrote sp m r i false None p q)
  Wrote (ModRmRmMemOnly must) p q = (is_memory kind ≡ true) × MemoryWrote sp m r i must None p q
  Wrote (Vsib g) p q = (is_memory kind ≡ true) × MemoryWrote sp m r i true (Some g) p q
  Wrote O p q = OffsetWrote m kind i p q
  Wrote (ModRmReg g) p q = RegisterWrote m g number (put_reg p) q
  Wrote (RegEmbed8 g) p q = RegisterWrote m g number (put_embedded p) q
  Wrote (Reg n) p q = (n ≡ number) × (q ≡ p)
  Wrote (Hx g) p q = RegisterWrote m g number (put_vvvv p) q
  Wrote (Ib k) p q = ByteWrote k kind i p q
  Wrote (Id k) p q = q ≡ with_imm p (Imms.Size4 i.immediate)
  Wrote Iq p q = q ≡ with_imm p (Imms.Size8 (imm64 i))
  Wrote (J k size) p q = q ≡ put_branch p (branch_of m k size i)

  ranged_wrote : (p : Parts) (g : RegisterRange) (put : RegPart → Parts) → (register_step p put (ranged_register m g number)).fault ≡ None → RegisterWrote m g number put (register_step p put (ranged_register m g number)).parts
  ranged_wrote p g put e = go (in_range m g number) refl e
    where
      go : (t : Bool) → in_range m g number ≡ t → (register_step p put (cond t (Ok (reg_part g number)) (Err F.RegisterRange))).fault ≡ None → RegisterWrote m g number put (register_step p put (cond t (Ok (reg_part g number)) (Err F.RegisterRange))).parts
      go true t e = record { inside = t; parts = refl }
      go false t e = refused F.RegisterRange e

  register_wrote : (p : Parts) (g : RegisterRange) (put : RegPart → Parts) → (register_step p put (register_operand m g kind number)).fault ≡ None → RegisterWrote m g number put (register_step p put (register_operand m g kind number)).parts
  register_wrote p g put e = go (is_register kind) e
    where
      go : (t : Bool) → (register_step p put (cond t (ranged_register m g number) (Err F.OpKind))).fault ≡ None → RegisterWrote m g number put (register_step p put (cond t (ranged_register m g number) (Err F.OpKind))).parts
      go true e = ranged_wrote p g put e
      go false e = refused F.OpKind e

  memory_wrote : (must : Bool) (vsib : Option RegisterRange) (p : Parts) → (rm_memory sp m r i must vsib p).fault ≡ None → MemoryWrote sp m r i must vsib p (rm_memory sp m r i must vsib p).parts
  unfolding rm_memory
  memory_wrote must vsib p e = go (mem_sized (sp r (broadcasts r i)) m (address_bytes m i) must vsib i) refl e
    where
      go : (a : Result RmPart (Refusal RmPart)) → mem_sized (sp r (broadcasts r i)) m (address_bytes m i) must vsib i ≡ a → (memory_step p (not (eqb (address_bytes m i) (mode_bytes m))) (broadcasts r i) a).fault ≡ None
          → MemoryWrote sp m r i must vsib p (memory_step p (not (eqb (address_bytes m i) (mode_bytes m))) (broadcasts r i) a).parts
      go (Ok part) a e = record { part = part; is = a; parts = refl }
      go (Err f) a e = refused f.fault e

  only_wrote : (must : Bool) (vsib : Option RegisterRange) (p : Parts) → (mem_only kind p (rm_memory sp m r i must vsib p)).fault ≡ None → (is_memory kind ≡ true) × MemoryWrote sp m r i must vsib p (mem_only kind p (rm_memory sp m r i must vsib p)).parts
  only_wrote must vsib p e = go (is_register kind) (is_memory kind) refl e
    where
      go : (a b : Bool) → is_memory kind ≡ b → (cond a (faulty p F.RegisterNotAllowed) (cond b (rm_memory sp m r i must vsib p) (faulty p F.NeitherRegisterNorMemory))).fault ≡ None
          → (is_memory kind ≡ true) × MemoryWrote sp m r i must vsib p (cond a (faulty p F.RegisterNotAllowed) (cond b (rm_memory sp m r i must vsib p) (faulty p F.NeitherRegisterNorMemory))).parts
      go true b z e = refused F.RegisterNotAllowed e
      go false true z e = (z, memory_wrote must vsib p e)
      go false false z e = refused F.NeitherRegisterNorMemory e

  offset_wrote : (p : Parts) (a : Result Offset (Refusal Offset)) → absolute m kind i ≡ a → (offset_step p a).fault ≡ None → OffsetWrote m kind i p (offset_step p a).parts
  offset_wrote p (Ok o) a e = record { offset = o; is = a; parts = refl }
  offset_wrote p (Err f) a e = refused f.fault e

  byte_wrote : (k : OpKind) (p : Parts) (a : Result Imm OperandFault) → byte_operand p.imm k kind i ≡ a → (imm_step p a).fault ≡ None → ByteWrote k kind i p (imm_step p a).parts
  byte_wrote k p (Ok x) a e = record { imm = x; is = a; parts = refl }
  byte_wrote k p (Err f) a e = refused f e

  expected_wrote : (p : Parts) (x : Imm) (t : Bool) → (imm_step p (cond t (Ok x) (Err F.OpKind))).fault ≡ None → (imm_step p (cond t (Ok x) (Err F.OpKind))).parts ≡ with_imm p x
  expected_wrote p x true e = refl
  expected_wrote p x false e = refused F.OpKind e

  branch_wrote : (p : Parts) (b : Branch) (t : Bool) → (branch_step p (cond t (Ok b) (Err F.OpKind))).fault ≡ None → (branch_step p (cond t (Ok b) (Err F.OpKind))).parts ≡ put_branch p b
  branch_wrote p b true e = refl
  branch_wrote p b false e = refused F.OpKind e

  fixed_wrote : (n : ℕ) (p : Parts) → (fixed_step p (fixed_told n kind number)).fault ≡ None → (n ≡ number) × ((fixed_step p (fixed_told n kind number)).parts ≡ p)
  fixed_wrote n p e = go (is_register kind) (eqb n number) refl e
    where
      go : (a b : Bool) → eqb n number ≡ b → (fixed_step p (cond (not a) (Err F.OpKind) (cond b (Ok tt) (Err F.FixedRegister)))).fault ≡ None
          → (n ≡ number) × ((fixed_step p (cond (not a) (Err F.OpKind) (cond b (Ok tt) (Err F.FixedRegister)))).parts ≡ p)
      go true true z e = (eqb_same n number z, refl)
      go true false z e = refused F.FixedRegister e
      go false b z e = refused F.OpKind e

  pub wrote : (op : Op) (p : Parts) → (op_step sp m r i at op p).fault ≡ None → Wrote op p (op_step sp m r i at op p).parts
  unfolding op_step
  wrote (ModRmRm g) p e = go (is_register kind) refl (is_memory kind) refl e
    where
      go : (a : Bool) → is_register kind ≡ a → (b : Bool) → is_memory kind ≡ b
          → (cond a (register_step p (put_rm_register p) (ranged_register m g number)) (cond b (rm_memory sp m r i false None p) (faulty p F.NeitherRegisterNorMemory))).fault ≡ None
          → Wrote (ModRmRm g) p (cond a (register_step p (put_rm_register p) (ranged_register m g number)) (cond b (rm_memory sp m r i false None p) (faulty p F.NeitherRegisterNorMemory))).parts
      go true x b y e = inl (x, ranged_wrote p g (put_rm_register p) e)
      go false x true y e = inr (x, y, memory_wrote false None p e)
      go false x false y e = refused F.NeitherRegisterNorMemory e
  wrote (ModRmRmMemOnly must) p e = only_wrote must None p e
  wrote (Vsib g) p e = only_wrote true (Some g) p e
  wrote O p e = offset_wrote p (absolute m kind i) refl e
  wrote (ModRmReg g) p e = register_wrote p g (put_reg p) e
  wrote (RegEmbed8 g) p e = register_wrote p g (put_embedded p) e
  wrote (Reg n) p e = fixed_wrote n p e
  wrote (Hx g) p e = register_wrote p g (put_vvvv p) e
  wrote (Ib k) p e = byte_wrote k p (byte_operand p.imm k kind i) refl e
  wrote (Id k) p e = expected_wrote p (Imms.Size4 i.immediate) (same_kind k kind) e
  wrote Iq p e = expected_wrote p (Imms.Size8 (imm64 i)) _ e
  wrote (J k size) p e = branch_wrote p (branch_of m k size i) (same_kind k kind) e
