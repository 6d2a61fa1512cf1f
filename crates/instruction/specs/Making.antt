use Rattle.std.specs.Prelude.{◌≡◌, ℕ, cond, is_ok, Some, None, Ok, Err, Option, Result, ◌==◌}
use Rattle.fault.specs.declared.making.MakingFault.{MakingFault}
use Rattle.fault.specs.declared.making.MakingFault.TheVariants.{Field}
use Rattle.machine.specs.CodeSizes.{size_named}
use Rattle.machine.specs.OpKinds.{kind_named}
use Rattle.machine.specs.Opmasks.{opmask_named}
use Rattle.machine.specs.Registers.{register_of}
use Rattle.machine.specs.Roundings.{rounding_named}
use Rattle.machine.specs.Scales.{scale_named}
use Rattle.machine.specs.Segments.{segment_named}
use Rattle.machine.specs.declared.code_size.CodeSize.{CodeSize}
use Rattle.machine.specs.declared.op_kind.OpKind.{OpKind}
use Rattle.machine.specs.declared.opmask.Opmask.{Opmask}
use Rattle.machine.specs.declared.register.Register.{Register}
use Rattle.machine.specs.declared.rounding.RoundingControl.{RoundingControl}
use Rattle.machine.specs.declared.scale.Scale.{Scale}
use Rattle.machine.specs.declared.segment.Segment.{Segment}
use Rattle.instruction.specs.declared.made.EvexFields.{EvexFields}
use Rattle.instruction.specs.declared.made.Instruction.{Instruction}
use Rattle.instruction.specs.declared.made.MemoryFields.{MemoryFields}
use Rattle.instruction.specs.declared.made.FirstFour.{FirstFour}
use Rattle.instruction.specs.declared.made.PrefixFields.{PrefixFields}
use Rattle.instruction.specs.declared.raw.RawInstruction.{RawInstruction}
use Rattle.instruction.specs.Fields.{in_range, raw_of}

-- the value, or refusal 61 where there is none
abbrev pub or_field : {X : Type 0} → Option X → Result X MakingFault
or_field (Some x) = Ok x
or_field None = Err Field

-- what follows with the value, and the refusal where there is none
abbrev pub then : {X Y : Type 0} → Result X MakingFault → (X → Result Y MakingFault) → Result Y MakingFault
then (Ok x) f = f x
then (Err e) f = Err e

-- the value of each number, or refusal 61
unfoldable pub size_made : ℕ → Result CodeSize MakingFault
size_made n = or_field (size_named n)

unfoldable pub kind_made : ℕ → Result OpKind MakingFault
kind_made n = or_field (kind_named n)

unfoldable pub scale_made : ℕ → Result Scale MakingFault
scale_made n = or_field (scale_named n)

unfoldable pub opmask_made : ℕ → Result Opmask MakingFault
opmask_made n = or_field (opmask_named n)

unfoldable pub rounding_made : ℕ → Result RoundingControl MakingFault
rounding_made n = or_field (rounding_named n)

unfoldable pub register_made : ℕ → Result Register MakingFault
register_made n = or_field (register_of n)

unfoldable pub segment_made : ℕ → Result (Option Segment) MakingFault
segment_made n = cond (n == 0) (Ok None) (then (or_field (segment_named n)) (λ s. Ok (Some s)))

abbrev pub prefixes_made : RawInstruction → Result PrefixFields MakingFault
prefixes_made i = then (segment_made i.segment) (λ s. Ok record { segment = s; lock = i.lock; repe = i.repe; repne = i.repne })

abbrev pub memory_made : RawInstruction → Result MemoryFields MakingFault
memory_made i =
    then (register_made i.base) (λ b.
    then (register_made i.index) (λ x.
    then (scale_made i.scale) (λ s.
    Ok record { base = b; index = x; scale = s; displ_size = i.displ_size })))

-- the values of four numbers, by what makes one
abbrev pub four_made : {X : Type 0} → (ℕ → Result X MakingFault) → ℕ → ℕ → ℕ → ℕ → Result (FirstFour X) MakingFault
four_made made a b c d =
    then (made a) (λ a.
    then (made b) (λ b.
    then (made c) (λ c.
    then (made d) (λ d.
    Ok record { op0 = a; op1 = b; op2 = c; op3 = d }))))

abbrev pub kinds_made : RawInstruction → Result (FirstFour OpKind) MakingFault
kinds_made i = four_made kind_made i.kind0 i.kind1 i.kind2 i.kind3

abbrev pub registers_made : RawInstruction → Result (FirstFour Register) MakingFault
registers_made i = four_made register_made i.reg0 i.reg1 i.reg2 i.reg3

abbrev pub evex_made : RawInstruction → Result EvexFields MakingFault
evex_made i =
    then (opmask_made i.opmask) (λ k.
    then (rounding_made i.rounding) (λ r.
    Ok record { opmask = k; zeroing = i.zeroing; broadcast = i.broadcast; sae = i.sae; rounding = r }))

-- an instruction of these numbers, or refusal 61 where one is out of range
abbrev pub instruction_of : RawInstruction → Result Instruction MakingFault
instruction_of i =
    then (size_made i.code_size) (λ s.
    then (prefixes_made i) (λ p.
    then (memory_made i) (λ m.
    then (kinds_made i) (λ k.
    then (registers_made i) (λ r.
    then (evex_made i) (λ e.
    Ok record { code_size = s; prefixes = p; memory = m; mem_displ = i.mem_displ; immediate = i.immediate; kinds = k; registers = r; evex = e }))))))

-- numbers make an instruction exactly when each is in its range
abbrev pub MadeWhereInRange : Type 0
MadeWhereInRange = (i : RawInstruction) → is_ok (instruction_of i) ≡ in_range i

-- an instruction keeps the numbers that it was made of
abbrev pub MadeThere : Type 0
MadeThere = (i : RawInstruction) (x : Instruction) → instruction_of i ≡ Ok x → raw_of x ≡ i

-- and its numbers make it again
abbrev pub MadeBack : Type 0
MadeBack = (x : Instruction) → instruction_of (raw_of x) ≡ Ok x
