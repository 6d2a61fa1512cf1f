-- Numbers make an instruction exactly when each is in its range.
use Rattle.std.proofs.Common.{◌≡◌, ℕ, Bool, true, false, cond, ◌&&◌, ◌||◌, eqb, leb, is_ok, Some, None, Ok, Result, refl, ◌∙◌}
use Rattle.fault.specs.declared.making.MakingFault.{MakingFault}
use Rattle.machine.specs.CodeSizes.{size_named}
use Rattle.machine.specs.OpKinds.{kind_named}
use Rattle.machine.specs.Opmasks.{opmask_named}
use Rattle.machine.specs.Registers.{register_of}
use Rattle.machine.specs.Roundings.{rounding_named}
use Rattle.machine.specs.Scales.{scale_named}
use Rattle.machine.specs.Segments.{segment_named}
use Rattle.machine.specs.Registered.{register_within}
use Rattle.machine.proofs.Within.{size_within, kind_within, rounding_within, segment_within, scale_within, opmask_within}
use Rattle.instruction.specs.declared.raw.RawInstruction.{RawInstruction}
use Rattle.instruction.specs.Fields.{segment_known, memory_known, kinds_known, registers_known, evex_known}
use Rattle.instruction.specs.Making.{or_field, then, size_made, kind_made, scale_made, opmask_made, rounding_made, register_made, segment_made, prefixes_made, memory_made, four_made, kinds_made, registers_made, evex_made, MadeWhereInRange}
use Rattle.instruction.proofs.Leaves.{field_test, then_told, then_last}

size_test : (n : ℕ) → is_ok (size_made n) ≡ leb n 3
unfolding size_made
size_test n = field_test (size_named n) ∙ size_within n

kind_test : (n : ℕ) → is_ok (kind_made n) ≡ leb n 24
unfolding kind_made
kind_test n = field_test (kind_named n) ∙ kind_within n

scale_test : (n : ℕ) → is_ok (scale_made n) ≡ leb n 3
unfolding scale_made
scale_test n = field_test (scale_named n) ∙ scale_within n

opmask_test : (n : ℕ) → is_ok (opmask_made n) ≡ leb n 7
unfolding opmask_made
opmask_test n = field_test (opmask_named n) ∙ opmask_within n

rounding_test : (n : ℕ) → is_ok (rounding_made n) ≡ leb n 4
unfolding rounding_made
rounding_test n = field_test (rounding_named n) ∙ rounding_within n

register_test : (n : ℕ) → is_ok (register_made n) ≡ leb n 180
unfolding register_made
register_test n = field_test (register_of n) ∙ register_within n

segment_either : (n : ℕ) (t : Bool) → eqb n 0 ≡ t → is_ok (cond t (Ok None) (then (or_field (segment_named n)) (λ s. Ok (Some s)))) ≡ (t || (leb 71 n && leb n 76))
segment_either n true e = refl
segment_either n false e = then_last (or_field (segment_named n)) (λ s. Ok (Some s)) (leb 71 n && leb n 76) (field_test (segment_named n) ∙ segment_within n) (λ s. refl)

segment_test : (n : ℕ) → is_ok (segment_made n) ≡ segment_known n
unfolding segment_made
segment_test n = segment_either n (eqb n 0) refl

prefixes_test : (i : RawInstruction) → is_ok (prefixes_made i) ≡ segment_known i.segment
prefixes_test i = then_last (segment_made i.segment) _ (segment_known i.segment) (segment_test i.segment) (λ s. refl)

memory_test : (i : RawInstruction) → is_ok (memory_made i) ≡ memory_known i
memory_test i =
    then_told (register_made i.base) _ (leb i.base 180) _ (register_test i.base) (λ b.
    then_told (register_made i.index) _ (leb i.index 180) _ (register_test i.index) (λ x.
    then_last (scale_made i.scale) _ (leb i.scale 3) (scale_test i.scale) (λ s. refl)))

four_test : {X : Type 0} (made : ℕ → Result X MakingFault) (known : ℕ → Bool) → ((n : ℕ) → is_ok (made n) ≡ known n) → (a b c d : ℕ) → is_ok (four_made made a b c d) ≡ (known a && (known b && (known c && known d)))
four_test made known test a b c d =
    then_told (made a) _ (known a) _ (test a) (λ x.
    then_told (made b) _ (known b) _ (test b) (λ y.
    then_told (made c) _ (known c) _ (test c) (λ z.
    then_last (made d) _ (known d) (test d) (λ w. refl))))

evex_test : (i : RawInstruction) → is_ok (evex_made i) ≡ evex_known i
evex_test i =
    then_told (opmask_made i.opmask) _ (leb i.opmask 7) _ (opmask_test i.opmask) (λ k.
    then_last (rounding_made i.rounding) _ (leb i.rounding 4) (rounding_test i.rounding) (λ r. refl))

pub made_where_in_range : MadeWhereInRange
made_where_in_range i =
    then_told (size_made i.code_size) _ (leb i.code_size 3) _ (size_test i.code_size) (λ s.
    then_told (prefixes_made i) _ (segment_known i.segment) _ (prefixes_test i) (λ p.
    then_told (memory_made i) _ (memory_known i) _ (memory_test i) (λ m.
    then_told (kinds_made i) _ (kinds_known i) _ (four_test kind_made (λ n. leb n 24) kind_test i.kind0 i.kind1 i.kind2 i.kind3) (λ k.
    then_told (registers_made i) _ (registers_known i) _ (four_test register_made (λ n. leb n 180) register_test i.reg0 i.reg1 i.reg2 i.reg3) (λ r.
    then_last (evex_made i) _ (evex_known i) (evex_test i) (λ e. refl))))))
