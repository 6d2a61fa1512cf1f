-- Lengths: of the fields, and of the whole.
use Rattle.std.proofs.Common.{◌≡◌, ℕ, ◌+◌, ◌≤◌, Bool, true, false, ltb, List, length, Some, None, Ok, Err, Option, Result, sym, refl, ap, ◌∙◌, arith, length-append}
use Rattle.std.proofs.lemmas.Bool.Decides.{nat_tests}
use Rattle.std.specs.Option.{option_or}
use Rattle.fault.specs.declared.encode.EncodeFault.{EncodeFault}
use Rattle.fault.specs.declared.encoding.EncodingFault.{EncodingFault}
use Rattle.fault.specs.declared.encoding.EncodingFault.TheVariants as E
use Rattle.machine.specs.declared.mode.Mode.{Mode}
use Rattle.machine.specs.Modes.{mode_named}
use Rattle.instruction.specs.declared.made.Instruction.{Instruction}
use Rattle.gather.specs.declared.parts.Displ.{Displ}
use Rattle.gather.specs.declared.parts.Displ.TheVariants as D
use Rattle.gather.specs.declared.parts.Imm.{Imm}
use Rattle.gather.specs.declared.parts.Imm.TheVariants as I
use Rattle.gather.specs.declared.parts.Parts.{Parts}
use Rattle.gather.specs.Gathered.{gathered}
use Rattle.gather.specs.Steps.{Spread}
use Rattle.record.specs.declared.sound.Record.{Record}
use Rattle.encoder.specs.declared.settings.Settings.{Settings}
use Rattle.encoder.specs.Encode.{refuse_if, head_bytes, code_bytes, displ_bytes_onto, imm_bytes_onto, line_bytes, line_fault, answer_of, steps_of, settings_made, by_mode, encode_of}
use Rattle.encoder.specs.Fields.{imm_length, displ_onto, imm_onto}
use Rattle.encoder.specs.Laws.{LengthWithoutAddress, AnswerIsLength}

abbrev displ_length : Displ → ℕ
displ_length D.Absent = 0
displ_length (D.Size1 b) = 1
displ_length (D.Size2 n) = 2
displ_length (D.Size4 n) = 4
displ_length (D.Size8 n) = 8
displ_length (D.RipRelSize4Target32 t) = 4
displ_length (D.RipRelSize4Target64 t) = 4

pub length_displ : (l : List ℕ) (at imm : ℕ) (d : Displ) → length (displ_onto l at imm d) ≡ length l + displ_length d
unfolding displ_onto
length_displ l at imm D.Absent = omega arith
length_displ l at imm (D.Size1 b) = length-append l _
length_displ l at imm (D.Size2 n) = length-append l _
length_displ l at imm (D.Size4 n) = length-append l _
length_displ l at imm (D.Size8 n) = simp length-append (omega arith)
length_displ l at imm (D.RipRelSize4Target32 t) = length-append l _
length_displ l at imm (D.RipRelSize4Target64 t) = length-append l _

pub length_imm : (l : List ℕ) (at : ℕ) (x : Imm) → length (imm_onto l at x) ≡ length l + imm_length x
unfolding imm_onto
length_imm l at I.Absent = omega arith
length_imm l at (I.Size1 a) = length-append l _
length_imm l at (I.Size1And1 a b) = simp length-append (omega arith)
length_imm l at (I.Size4 n) = length-append l _
length_imm l at (I.Size8 n) = simp length-append (omega arith)
length_imm l at (I.RipRelSize1Target16 t) = length-append l _
length_imm l at (I.RipRelSize1Target32 t) = length-append l _
length_imm l at (I.RipRelSize1Target64 t) = length-append l _
length_imm l at (I.RipRelSize2Target16 t) = length-append l _
length_imm l at (I.RipRelSize4Target32 t) = length-append l _
length_imm l at (I.RipRelSize4Target64 t) = length-append l _

-- the whole line: what stands before the displacement, and the two fields
pub length_line : (s : Settings) (address : ℕ) (r : Record) (i : Instruction) (p : Parts) → length (line_bytes s address r i p) ≡ length (code_bytes r.raw p (head_bytes s r.raw p i)) + displ_length p.rm.displ + imm_length p.imm
unfolding line_bytes imm_bytes_onto displ_bytes_onto
length_line s address r i p = length_imm _ _ p.imm ∙ ap (λ n. n + imm_length p.imm) (length_displ _ _ _ p.rm.displ)

steps_length : (sp : Spread) (s : Settings) (m : Mode) (r : Record) (i : Instruction) (here there : ℕ) → length (steps_of sp s m here r i).bytes ≡ length (steps_of sp s m there r i).bytes
unfolding steps_of
steps_length sp s m r i here there = length_line s here r i (gathered sp m r i).parts ∙ sym (length_line s there r i (gathered sp m r i).parts)

chosen_length : (sp : Spread) (r : Record) (i : Instruction) (here there : ℕ) (s : Result Settings EncodingFault) (o : Option Mode) → length (by_mode sp here r i s o).bytes ≡ length (by_mode sp there r i s o).bytes
chosen_length sp r i here there (Ok s) (Some m) = steps_length sp s m r i here there
chosen_length sp r i here there (Err f) (Some m) = refl
chosen_length sp r i here there s None = refl

pub length_without_address : LengthWithoutAddress
unfolding encode_of
length_without_address sp s mode r i here there = chosen_length sp r i here there (settings_made s) (mode_named mode)

answer_none : (f : Option EncodeFault) (k n : ℕ) → answer_of f k ≡ Ok n → (f ≡ None) × (k ≡ n)
answer_none (Some e) k n p = grind arith
answer_none None k n p = let same : k ≡ n = cc in (refl, same)

or_none : (f g : Option EncodeFault) → option_or f g ≡ None → (f ≡ None) × (g ≡ None)
or_none (Some e) g p = grind arith
or_none None g p = (refl, p)

not_refused : (b : Bool) (e : EncodingFault) → refuse_if b e ≡ None → b ≡ false
not_refused true e p = grind arith
not_refused false e p = refl

short : (n : ℕ) → ltb 15 n ≡ false → n ≤ 15
short n e = grind (arith, nat_tests)

line_short : (s : Settings) (address : ℕ) (r : Record) (i : Instruction) (p : Parts) (f : Option EncodeFault) → line_fault s address r i p f ≡ None → length (line_bytes s address r i p) ≤ 15
unfolding line_fault line_bytes
line_short s address r i p f e =
    let a = or_none _ _ e in
    let b = or_none _ _ a.0 in
    let c = or_none _ _ b.0 in
    short _ (not_refused _ E.TooLong c.1)

chosen_answer : (sp : Spread) (address : ℕ) (r : Record) (i : Instruction) (n : ℕ) (s : Result Settings EncodingFault) (o : Option Mode) → (by_mode sp address r i s o).answer ≡ Ok n → (n ≡ length (by_mode sp address r i s o).bytes) × (n ≤ 15)
unfolding steps_of
chosen_answer sp address r i n (Ok s) (Some m) e =
    let g = gathered sp m r i in
    let a = answer_none (line_fault s address r i g.parts g.fault) _ n e in
    let b = line_short s address r i g.parts g.fault a.0 in
    (sym a.1, omega (arith, a.1, b))
chosen_answer sp address r i n (Err f) (Some m) e = grind arith
chosen_answer sp address r i n s None e = grind arith

pub answer_is_length : AnswerIsLength
unfolding encode_of
answer_is_length sp s mode address r i n e = chosen_answer sp address r i n (settings_made s) (mode_named mode) e
