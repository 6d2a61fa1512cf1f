-- One byte of displacement exactly where some byte stands for it.
use Rattle.std.proofs.Common.{◌≡◌, ℕ, ◌%◌, ℤ, is_some, Some, None, Ok, Option, Result, sym, refl, ap, ◌∙◌, w16, w32, to_z}
use Rattle.policy.specs.Lowest.{lowest}
use Rattle.policy.proofs.LowestIs.{lowest_reached}
use Rattle.gather.specs.declared.memory.Out.{Out}
use Rattle.gather.specs.declared.memory.Out.TheVariants.{Byte, Full}
use Rattle.gather.specs.declared.parts.RmPart.{RmPart}
use Rattle.gather.specs.declared.refusal.Refusal.{Refusal}
use Rattle.gather.specs.Memory16.{one16_of}
use Rattle.gather.specs.Laws.{one_byte, is_size1, OneByteExactlyWhereOneStands}

told : (o : Option ℤ) (out : Out) → ◌≡◌ {A = Result Out (Refusal RmPart)} (elim o [ Some v ↦ Ok (Byte v) | None ↦ Ok Full ]) (Ok out) → one_byte out ≡ is_some o
told (Some v) out e = let same : Byte v ≡ out = cc in sym (ap one_byte same)
told None out e = let same : Full ≡ out = cc in sym (ap one_byte same)

told16 : (o : Option ℤ) (rm low : ℕ) → is_size1 (one16_of o rm low).displ ≡ is_some o
told16 (Some v) rm low = refl
told16 None rm low = refl

pub one_byte_exactly : OneByteExactlyWhereOneStands
one_byte_exactly = (
  λ f bytes base d out e.
      let t = told (lowest f (to_z w32 (d % 4294967296))) out e in
      let r = lowest_reached f (to_z w32 (d % 4294967296)) in
      (λ h. r.0 (sym t ∙ h), λ h. t ∙ r.1 h),
  λ f rm d.
      let t = told16 (lowest f (to_z w16 (d % 65536))) rm (d % 65536) in
      let r = lowest_reached f (to_z w16 (d % 65536)) in
      (λ h. r.0 (sym t ∙ h), λ h. t ∙ r.1 h),
)
