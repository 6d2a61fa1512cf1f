-- The immediates of a sound record take at most eight bytes.
use Rattle.std.specs.Prelude.{fold}
use Rattle.std.specs.List.{list_all}
use Rattle.record.specs.Classes.{op_places}
use Rattle.std.proofs.Common.{◌≡◌, ℕ, ◌≤◌, Bool, true, false, List, [], ◌∷◌, Some, None, Option, sym, refl, ap, ◌∙◌, arith}
use Rattle.std.proofs.lemmas.Bool.Decides.{nat_tests}
use Rattle.machine.specs.declared.op_kind.OpKind.{OpKind}
use Rattle.machine.specs.OpKinds.{kind_number}
use Rattle.record.specs.declared.imm.ImmShape.{ImmShape}
use Rattle.record.specs.declared.imm.ImmShape.TheVariants as Imm
use Rattle.record.specs.declared.op.Op.{Op}
use Rattle.record.specs.declared.op.Op.TheVariants.{ModRmRm, ModRmRmMemOnly, Vsib, O, ModRmReg, RegEmbed8, Reg, Hx, Ib, Id, Iq, J}
use Rattle.record.specs.Immediates.{imm_after, imm_byte, imm_first, imm_count, imm_shape}
use Rattle.record.specs.Rules.{branch_holds, op_imm_holds, shape_known}
use Rattle.record.specs.Facts.{ImmBytesKnown}
use Rattle.std.proofs.lemmas.Bool.{and_parts}
use Rattle.record.proofs.Soundness.{rules_kept}

branch_few : (n s : ℕ) (k : OpKind) → kind_number k ≡ n → branch_holds k s ≡ true → s ≤ 8
branch_few n s k p e = grind (arith, nat_tests)

byte_few : (x : ImmShape) → imm_count (imm_byte x) ≤ 8
byte_few Imm.Nothing = omega arith
byte_few Imm.Ib = omega arith
byte_few Imm.IbIb = omega arith
byte_few Imm.Id = omega arith
byte_few Imm.Iq = omega arith
byte_few (Imm.J s) = omega arith
byte_few Imm.Wrong = omega arith

first_few : (x y : ImmShape) → imm_count y ≤ 8 → imm_count (imm_first x y) ≤ 8
first_few Imm.Nothing y h = h
first_few Imm.Ib y h = omega arith
first_few Imm.IbIb y h = omega arith
first_few Imm.Id y h = omega arith
first_few Imm.Iq y h = omega arith
first_few (Imm.J s) y h = omega arith
first_few Imm.Wrong y h = omega arith

after_few : (x : ImmShape) (o : Option Op) → op_imm_holds o ≡ true → imm_count x ≤ 8 → imm_count (imm_after x o) ≤ 8
after_few x (Some (ModRmRm r)) e h = h
after_few x (Some (ModRmRmMemOnly must)) e h = h
after_few x (Some (Vsib r)) e h = h
after_few x (Some O) e h = h
after_few x (Some (ModRmReg r)) e h = h
after_few x (Some (RegEmbed8 r)) e h = h
after_few x (Some (Reg n)) e h = h
after_few x (Some (Hx r)) e h = h
after_few x (Some (Ib k)) e h = byte_few x
after_few x (Some (Id k)) e h = first_few x Imm.Id (omega arith)
after_few x (Some Iq) e h = first_few x Imm.Iq (omega arith)
after_few x (Some (J k s)) e h = first_few x (Imm.J s) (branch_few (kind_number k) s k refl e)
after_few x None e h = h

all_few : (os : List (Option Op)) (x : ImmShape) → list_all op_imm_holds os ≡ true → imm_count x ≤ 8 → imm_count (fold imm_after x os) ≤ 8
all_few [] x e h = h
all_few (o ∷ os) x e h = let both = and_parts (op_imm_holds o) (list_all op_imm_holds os) e in all_few os (imm_after x o) both.1 (after_few x o both.0 h)

not_wrong : (x : ImmShape) → shape_known x ≡ true → x ≡ Imm.Wrong → ⊥
not_wrong x k e = let z : ◌≡◌ {A = Bool} false true = sym (ap shape_known e) ∙ k in grind arith

pub imm_bytes_known : ImmBytesKnown
imm_bytes_known r =
    let x = r.raw.operands in
    let e = and_parts (shape_known (imm_shape x)) _ (rules_kept r).immediates in
    (not_wrong (imm_shape x) e.0, all_few (op_places x) Imm.Nothing e.1 (omega arith))
