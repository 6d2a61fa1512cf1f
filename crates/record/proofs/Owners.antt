-- Each slot of a sound record has at most one owner.
use Rattle.std.proofs.Common.{◌≡◌, ℕ, ◌+◌, ◌≤◌, Bool, true, cond, leb, ◌∷◌, Option, ap, ◌∙◌, arith}
use Rattle.std.proofs.lemmas.Bool.Decides.{nat_tests}
use Rattle.record.specs.declared.class.Class.{Class}
use Rattle.record.specs.declared.class.Class.TheVariants.{RmSlot, Memory, Broadcastable, Vector, Offset, Embedded, RegSlot, Vvvv}
use Rattle.record.specs.declared.op.Op.{Op}
use Rattle.record.specs.declared.sound.Record.{Record}
use Rattle.record.specs.Classes.{belongs_at, op_places, class_count}
use Rattle.record.specs.Facts.{owners, is_slot, SlotsOwnedOnce}
use Rattle.std.proofs.lemmas.Bool.{and_parts}
use Rattle.std.proofs.lemmas.List.Sums.{sum_by-append, sum_by-cons}
use Rattle.record.proofs.Soundness.{rules_kept}

at_most : (n : ℕ) → leb n 1 ≡ true → n ≤ 1
at_most n e = grind (arith, nat_tests)

pub slot_once : (r : Record) (c : Class) → is_slot c ≡ true → class_count c r.raw.operands ≤ 1
slot_once r RmSlot s =
    let x = r.raw.operands in
    at_most (class_count RmSlot x) (and_parts (leb (class_count RmSlot x) 1) _ (rules_kept r).slots).0
slot_once r Memory s = grind arith
slot_once r Broadcastable s = grind arith
slot_once r Vector s = grind arith
slot_once r Offset s = grind arith
slot_once r Embedded s = grind arith
slot_once r RegSlot s =
    let x = r.raw.operands in
    let rest = (and_parts (leb (class_count RmSlot x) 1) _ (rules_kept r).slots).1 in
    at_most (class_count RegSlot x) (and_parts (leb (class_count RegSlot x) 1) _ rest).0
slot_once r Vvvv s =
    let x = r.raw.operands in
    let rest = (and_parts (leb (class_count RmSlot x) 1) _ (rules_kept r).slots).1 in
    at_most (class_count Vvvv x) (and_parts (leb (class_count RegSlot x) 1) _ rest).1

pub slots_owned_once : SlotsOwnedOnce
slots_owned_once r c front back o s e b =
    let one : Option Op → ℕ = λ o. cond (belongs_at c o) 1 0 in
    let here : one o ≡ 1 = ap (λ (t : Bool). cond t 1 0) b in
    let all : owners c (op_places r.raw.operands) ≡ owners c front + owners c (o ∷ back) = ap (owners c) e ∙ sum_by-append one front (o ∷ back) in
    let split : owners c (o ∷ back) ≡ one o + owners c back = sum_by-cons one o back in
    let few : owners c (op_places r.raw.operands) ≤ 1 = slot_once r c s in
    (omega arith, omega arith)
