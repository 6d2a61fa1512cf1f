-- The first byte after the prefixes of a legacy record is no prefix, and no REX in mode 64.
use Rattle.std.proofs.Common.{◌≡◌, ℕ, zero, suc, ◌+◌, ◌/◌, ◌<◌, Bool, true, false, cond, not, ◌&&◌, ◌||◌, eqb, sym, refl, ap, ◌∙◌, arith}
use Rattle.record.specs.declared.class.Class.TheVariants.{Embedded}
use Rattle.record.specs.declared.flags.Flag.TheVariants as Flags
use Rattle.record.specs.declared.head.LegacyHead.{LegacyHead}
use Rattle.record.specs.declared.raw.RawRecord.{RawRecord}
use Rattle.record.specs.Classes.{has_class}
use Rattle.record.specs.Flags.{has_flag}
use Rattle.record.specs.Rules.{begins, begins_embedded, only_old, first_holds, head_first_holds, is_prefix, is_rex}
use Rattle.record.specs.Facts.{first_byte_of, FirstByteBegins}
use Rattle.std.specs.List.{list_all, range_with_len}
use Rattle.std.proofs.lemmas.Bool.{and_parts}
use Rattle.record.proofs.Soundness.{rules_kept}

-- one test of so many in a row, by the place
nth_in_row : (f : ℕ → Bool) (b n low : ℕ) → list_all f (range_with_len b n) ≡ true → low < n → f (b + low) ≡ true
nth_in_row f b zero low e h = grind arith
nth_in_row f b (suc n) zero e h = ap f (omega arith) ∙ (and_parts (f b) _ e).0
nth_in_row f b (suc n) (suc low) e h = ap f (omega arith) ∙ nth_in_row f (b + 1) n low (and_parts (f b) _ e).1 (omega arith)

clear : (p x old : Bool) → (not p && (not x || old)) ≡ true → (p ≡ false) × (old ≡ false → x ≡ false)
clear true x old e = grind arith
clear false true true e = (refl, λ f. grind arith)
clear false true false e = grind arith
clear false false old e = (refl, λ f. refl)

begun : (old : Bool) (b : ℕ) → begins old b ≡ true → (is_prefix b ≡ false) × (old ≡ false → is_rex b ≡ false)
begun old b e = clear (is_prefix b) (is_rex b) old e

first_begun : (r : RawRecord) (h : LegacyHead) (low : ℕ) (one two embedded : Bool) → low < 8 → cond one (begins (only_old r) h.table_byte1) (cond two (begins (only_old r) (r.op_code / 256)) (cond embedded (begins_embedded (only_old r) r.op_code) (begins (only_old r) r.op_code))) ≡ true → begins (only_old r) (cond one h.table_byte1 (cond two (r.op_code / 256) (cond embedded (r.op_code + low) r.op_code))) ≡ true
first_begun r h low true two embedded l e = e
first_begun r h low false true embedded l e = e
first_begun r h low false false true l e = nth_in_row (begins (only_old r)) r.op_code 8 low e l
first_begun r h low false false false l e = e

old_not : (old new : Bool) → new ≡ true → (old && not new) ≡ false
old_not true true e = refl
old_not true false e = grind arith
old_not false new e = refl

pub first_byte_begins : FirstByteBegins
first_byte_begins r h low p l =
    let raw = r.raw in
    let held : head_first_holds raw raw.head ≡ true = (and_parts _ (head_first_holds raw raw.head) (rules_kept r).first_byte).1 in
    let first : first_holds raw h ≡ true = sym (ap (head_first_holds raw) p) ∙ held in
    let begun_here = begun (only_old raw) (first_byte_of raw h low) (first_begun raw h low (not (eqb h.table_byte1 0)) raw.is_2byte_opcode (has_class Embedded raw.operands) l first) in
    (begun_here.0, λ new. begun_here.1 (old_not (has_flag raw.enc_flags3 Flags.Bit16Or32) (has_flag raw.enc_flags3 Flags.Bit64) new))
