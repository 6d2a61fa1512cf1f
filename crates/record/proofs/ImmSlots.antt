-- The immediate operands of a sound record and the slots of its immediate field are as many.
use Rattle.std.specs.Prelude.{fold, sum_by}
use Rattle.std.proofs.lemmas.List.Sums.{sum_by-cons}
use Rattle.std.proofs.Common.{◌≡◌, ℕ, ◌+◌, true, List, [], ◌∷◌, Some, None, Option, refl, arith}
use Rattle.record.specs.declared.imm.ImmShape.{ImmShape}
use Rattle.record.specs.declared.imm.ImmShape.TheVariants as Imm
use Rattle.record.specs.declared.op.Op.{Op}
use Rattle.record.specs.declared.op.Op.TheVariants.{ModRmRm, ModRmRmMemOnly, Vsib, O, ModRmReg, RegEmbed8, Reg, Hx, Ib, Id, Iq, J}
use Rattle.record.specs.Classes.{bit, op_places}
use Rattle.record.specs.Immediates.{imm_after, imm_byte, imm_first, imm_shape}
use Rattle.record.specs.Rules.{shape_known}
use Rattle.record.specs.Facts.{imm_slots, is_immediate, ImmediatesOwnedOnce}
use Rattle.std.proofs.lemmas.Bool.{and_parts}
use Rattle.record.proofs.Soundness.{rules_kept}

-- one step that stays known came from a known one and takes one slot for an immediate
abbrev Grows : ImmShape → ImmShape → ℕ → Type 0
Grows x y n = (shape_known x ≡ true) × (imm_slots y ≡ imm_slots x + n)

byte_grows : (x : ImmShape) → shape_known (imm_byte x) ≡ true → Grows x (imm_byte x) 1
byte_grows Imm.Nothing k = (refl, refl)
byte_grows Imm.Ib k = (refl, refl)
byte_grows Imm.IbIb k = grind arith
byte_grows Imm.Id k = grind arith
byte_grows Imm.Iq k = grind arith
byte_grows (Imm.J s) k = grind arith
byte_grows Imm.Wrong k = grind arith

first_grows : (x y : ImmShape) → imm_slots y ≡ 1 → shape_known (imm_first x y) ≡ true → Grows x (imm_first x y) 1
first_grows Imm.Nothing y s k = (refl, s)
first_grows Imm.Ib y s k = grind arith
first_grows Imm.IbIb y s k = grind arith
first_grows Imm.Id y s k = grind arith
first_grows Imm.Iq y s k = grind arith
first_grows (Imm.J n) y s k = grind arith
first_grows Imm.Wrong y s k = grind arith

after_grows : (x : ImmShape) (o : Option Op) → shape_known (imm_after x o) ≡ true → Grows x (imm_after x o) (bit (is_immediate o))
after_grows x (Some (ModRmRm r)) k = (k, omega arith)
after_grows x (Some (ModRmRmMemOnly must)) k = (k, omega arith)
after_grows x (Some (Vsib r)) k = (k, omega arith)
after_grows x (Some O) k = (k, omega arith)
after_grows x (Some (ModRmReg r)) k = (k, omega arith)
after_grows x (Some (RegEmbed8 r)) k = (k, omega arith)
after_grows x (Some (Reg n)) k = (k, omega arith)
after_grows x (Some (Hx r)) k = (k, omega arith)
after_grows x (Some (Ib e)) k = byte_grows x k
after_grows x (Some (Id e)) k = first_grows x Imm.Id refl k
after_grows x (Some Iq) k = first_grows x Imm.Iq refl k
after_grows x (Some (J e s)) k = first_grows x (Imm.J s) refl k
after_grows x None k = (k, omega arith)

all_grow : (os : List (Option Op)) (x : ImmShape) → shape_known (fold imm_after x os) ≡ true → Grows x (fold imm_after x os) (sum_by (λ o. bit (is_immediate o)) os)
all_grow [] x k = (k, omega arith)
all_grow (o ∷ os) x k =
    let rest = all_grow os (imm_after x o) k in
    let here = after_grows x o rest.0 in
    let slots : Option Op → ℕ = λ o. bit (is_immediate o) in
    let all : imm_slots (fold imm_after (imm_after x o) os) ≡ imm_slots x + sum_by slots (o ∷ os) = omega (arith, here.1, rest.1, sum_by-cons slots o os) in
    (here.0, all)

pub immediates_owned_once : ImmediatesOwnedOnce
immediates_owned_once r =
    let x = r.raw.operands in
    let grown = all_grow (op_places x) Imm.Nothing (and_parts (shape_known (imm_shape x)) _ (rules_kept r).immediates).0 in
    omega (arith, grown.1)
