-- An instruction keeps the numbers that it was made of, and they make it again.
use Rattle.std.proofs.Common.{◌≡◌, ℕ, Bool, true, false, cond, eqb, Some, None, Ok, Option, Result, sym, refl, ap, ◌∙◌, arith}
use Rattle.std.proofs.lemmas.Bool.Decides.{nat_tests}
use Rattle.fault.specs.declared.making.MakingFault.{MakingFault}
use Rattle.machine.specs.declared.code_size.CodeSize.{CodeSize}
use Rattle.machine.specs.declared.op_kind.OpKind.{OpKind}
use Rattle.machine.specs.declared.opmask.Opmask.{Opmask}
use Rattle.machine.specs.declared.register.Register.{Register}
use Rattle.machine.specs.declared.rounding.RoundingControl.{RoundingControl}
use Rattle.machine.specs.declared.scale.Scale.{Scale}
use Rattle.machine.specs.declared.segment.Segment.{Segment}
use Rattle.machine.specs.CodeSizes.{size_number, sizes}
use Rattle.machine.specs.OpKinds.{kind_number, kinds}
use Rattle.machine.specs.Opmasks.{opmask_number, opmasks}
use Rattle.machine.specs.Registers.{register_of}
use Rattle.machine.specs.Roundings.{rounding_number, roundings}
use Rattle.machine.specs.Scales.{scale_number, scales}
use Rattle.machine.specs.Segments.{segment_number, segments, segment_named}
use Rattle.machine.specs.Registered.{register_back}
use Rattle.instruction.specs.declared.made.EvexFields.{EvexFields}
use Rattle.instruction.specs.declared.made.MemoryFields.{MemoryFields}
use Rattle.instruction.specs.declared.made.FirstFour.{FirstFour}
use Rattle.instruction.specs.declared.made.PrefixFields.{PrefixFields}
use Rattle.instruction.specs.declared.raw.RawInstruction.{RawInstruction}
use Rattle.instruction.specs.Fields.{segment_or_none, raw_of}
use Rattle.instruction.specs.Making.{or_field, then, size_made, kind_made, scale_made, opmask_made, rounding_made, register_made, segment_made, prefixes_made, memory_made, four_made, kinds_made, registers_made, evex_made, MadeThere}
use Rattle.instruction.proofs.Leaves.{field_some, field_there, then_ok}

same_ok : {X : Type 0} (x y : X) → ◌≡◌ {A = Result X MakingFault} (Ok x) (Ok y) → x ≡ y
same_ok x y e = cc

size_there : (n : ℕ) (x : CodeSize) → size_made n ≡ Ok x → size_number x ≡ n
unfolding size_made
size_there n x e = field_there size_number sizes n x e

kind_there : (n : ℕ) (x : OpKind) → kind_made n ≡ Ok x → kind_number x ≡ n
unfolding kind_made
kind_there n x e = field_there kind_number kinds n x e

scale_there : (n : ℕ) (x : Scale) → scale_made n ≡ Ok x → scale_number x ≡ n
unfolding scale_made
scale_there n x e = field_there scale_number scales n x e

opmask_there : (n : ℕ) (x : Opmask) → opmask_made n ≡ Ok x → opmask_number x ≡ n
unfolding opmask_made
opmask_there n x e = field_there opmask_number opmasks n x e

rounding_there : (n : ℕ) (x : RoundingControl) → rounding_made n ≡ Ok x → rounding_number x ≡ n
unfolding rounding_made
rounding_there n x e = field_there rounding_number roundings n x e

number_there : (n : ℕ) (x : Register) → register_made n ≡ Ok x → x.number ≡ n
unfolding register_made
number_there n x e = register_back n x (field_some (register_of n) x e)

segment_cases : (n : ℕ) (t : Bool) (x : Option Segment) → eqb n 0 ≡ t → cond t (Ok None) (then (or_field (segment_named n)) (λ s. Ok (Some s))) ≡ Ok x → segment_or_none x ≡ n
segment_cases n true x z e =
    let zero : n ≡ 0 = grind (arith, nat_tests) in
    sym (ap segment_or_none (same_ok None x e)) ∙ sym zero
segment_cases n false x z e =
    let s = then_ok (or_field (segment_named n)) (λ s. Ok (Some s)) x e in
    sym (ap segment_or_none (same_ok (Some s.0) x s.2)) ∙ field_there segment_number segments n s.0 s.1

segment_there : (n : ℕ) (x : Option Segment) → segment_made n ≡ Ok x → segment_or_none x ≡ n
unfolding segment_made
segment_there n x e = segment_cases n (eqb n 0) x refl e

-- each group of fields keeps its numbers
abbrev PrefixesOf : PrefixFields → RawInstruction → Type 0
PrefixesOf p i = (segment_or_none p.segment ≡ i.segment) × (p.lock ≡ i.lock) × (p.repe ≡ i.repe) × (p.repne ≡ i.repne)

prefixes_there : (i : RawInstruction) (p : PrefixFields) → prefixes_made i ≡ Ok p → PrefixesOf p i
prefixes_there i p e =
    let a = then_ok (segment_made i.segment) _ p e in
    let s = sym (same_ok _ p a.2) in
    (ap (λ (x : PrefixFields). segment_or_none x.segment) s ∙ segment_there i.segment a.0 a.1, ap (λ (x : PrefixFields). x.lock) s, ap (λ (x : PrefixFields). x.repe) s, ap (λ (x : PrefixFields). x.repne) s)

abbrev MemoryOf : MemoryFields → RawInstruction → Type 0
MemoryOf m i = (m.base.number ≡ i.base) × (m.index.number ≡ i.index) × (scale_number m.scale ≡ i.scale) × (m.displ_size ≡ i.displ_size)

memory_there : (i : RawInstruction) (m : MemoryFields) → memory_made i ≡ Ok m → MemoryOf m i
memory_there i m e =
    let a = then_ok (register_made i.base) _ m e in
    let b = then_ok (register_made i.index) _ m a.2 in
    let c = then_ok (scale_made i.scale) _ m b.2 in
    let s = sym (same_ok _ m c.2) in
    (ap (λ (x : MemoryFields). x.base.number) s ∙ number_there i.base a.0 a.1, ap (λ (x : MemoryFields). x.index.number) s ∙ number_there i.index b.0 b.1, ap (λ (x : MemoryFields). scale_number x.scale) s ∙ scale_there i.scale c.0 c.1, ap (λ (x : MemoryFields). x.displ_size) s)

four_there : {X : Type 0} (code : X → ℕ) (made : ℕ → Result X MakingFault) → ((n : ℕ) (x : X) → made n ≡ Ok x → code x ≡ n) → (a b c d : ℕ) (v : FirstFour X) → four_made made a b c d ≡ Ok v → (code v.op0 ≡ a) × (code v.op1 ≡ b) × (code v.op2 ≡ c) × (code v.op3 ≡ d)
four_there {X = X} code made there a b c d v e =
    let p = then_ok (made a) _ v e in
    let q = then_ok (made b) _ v p.2 in
    let r = then_ok (made c) _ v q.2 in
    let t = then_ok (made d) _ v r.2 in
    let s = sym (same_ok _ v t.2) in
    (ap (λ (x : FirstFour X). code x.op0) s ∙ there a p.0 p.1, ap (λ (x : FirstFour X). code x.op1) s ∙ there b q.0 q.1, ap (λ (x : FirstFour X). code x.op2) s ∙ there c r.0 r.1, ap (λ (x : FirstFour X). code x.op3) s ∙ there d t.0 t.1)

abbrev EvexOf : EvexFields → RawInstruction → Type 0
EvexOf v i = (opmask_number v.opmask ≡ i.opmask) × (v.zeroing ≡ i.zeroing) × (v.broadcast ≡ i.broadcast) × (v.sae ≡ i.sae) × (rounding_number v.rounding ≡ i.rounding)

evex_there : (i : RawInstruction) (v : EvexFields) → evex_made i ≡ Ok v → EvexOf v i
evex_there i v e =
    let a = then_ok (opmask_made i.opmask) _ v e in
    let b = then_ok (rounding_made i.rounding) _ v a.2 in
    let s = sym (same_ok _ v b.2) in
    (ap (λ (x : EvexFields). opmask_number x.opmask) s ∙ opmask_there i.opmask a.0 a.1, ap (λ (x : EvexFields). x.zeroing) s, ap (λ (x : EvexFields). x.broadcast) s, ap (λ (x : EvexFields). x.sae) s, ap (λ (x : EvexFields). rounding_number x.rounding) s ∙ rounding_there i.rounding b.0 b.1)

pub made_there : MadeThere
made_there i x e =
    let a = then_ok (size_made i.code_size) _ x e in
    let b = then_ok (prefixes_made i) _ x a.2 in
    let c = then_ok (memory_made i) _ x b.2 in
    let d = then_ok (kinds_made i) _ x c.2 in
    let f = then_ok (registers_made i) _ x d.2 in
    let g = then_ok (evex_made i) _ x f.2 in
    let p = prefixes_there i b.0 b.1 in
    let m = memory_there i c.0 c.1 in
    let k = four_there kind_number kind_made kind_there i.kind0 i.kind1 i.kind2 i.kind3 d.0 d.1 in
    let r = four_there (λ x. x.number) register_made number_there i.reg0 i.reg1 i.reg2 i.reg3 f.0 f.1 in
    let v = evex_there i g.0 g.1 in
    let z = size_there i.code_size a.0 a.1 in
    ap raw_of (sym (same_ok _ x g.2))
    ∙ (λ t. record { code_size = z t; segment = p.0 t; lock = p.1 t; repe = p.2 t; repne = p.3 t; base = m.0 t; index = m.1 t; scale = m.2 t; displ_size = m.3 t; mem_displ = i.mem_displ; immediate = i.immediate; kind0 = k.0 t; kind1 = k.1 t; kind2 = k.2 t; kind3 = k.3 t; reg0 = r.0 t; reg1 = r.1 t; reg2 = r.2 t; reg3 = r.3 t; opmask = v.0 t; zeroing = v.1 t; broadcast = v.2 t; sae = v.3 t; rounding = v.4 t })
