-- Immediate operands and branches.
use Rattle.std.specs.Prelude.{ℕ, Bool, false, cond, not, Ok, Err, Result, ◌==◌}
use Rattle.fault.specs.declared.operand.OperandFault.{OperandFault}
use Rattle.fault.specs.declared.operand.OperandFault.TheVariants as F
use Rattle.machine.specs.declared.mode.Mode.{Mode}
use Rattle.machine.specs.declared.op_kind.OpKind.{OpKind}
use Rattle.machine.specs.OpKinds.{kind_number}
use Rattle.instruction.specs.declared.made.Instruction.{Instruction}
use Rattle.instruction.specs.Getters.{low8, low16, low32, imm64}
use Rattle.gather.specs.declared.immediate.Branch.{Branch}
use Rattle.gather.specs.declared.parts.Imm.{Imm}
use Rattle.gather.specs.declared.parts.Imm.TheVariants.{Absent, Size1, Size1And1, Size4, Size8, RipRelSize1Target16, RipRelSize1Target32, RipRelSize1Target64, RipRelSize2Target16, RipRelSize4Target32, RipRelSize4Target64}
use Rattle.machine.specs.Modes.{mode_bytes}

abbrev pub same_kind : OpKind → OpKind → Bool
same_kind a b = kind_number a == kind_number b

-- what an operand gives where its kind is the one expected
abbrev pub expecting : {X : Type 0} → OpKind → OpKind → X → Result X OperandFault
expecting expected k x = cond (same_kind expected k) (Ok x) (Err F.OpKind)

-- the number of the kind of a second immediate byte
abbrev pub second_kind : ℕ
second_kind = 7

-- an immediate byte: behind another it is the second, and expects the kind of one
abbrev pub byte_operand : Imm → OpKind → OpKind → Instruction → Result Imm OperandFault
byte_operand (Size1 first) expected k i = cond (kind_number k == second_kind) (Ok (Size1And1 first (low8 i.mem_displ))) (Err F.OpKind)
byte_operand Absent expected k i = expecting expected k (Size1 (low8 i.immediate))
byte_operand (Size1And1 a b) expected k i = expecting expected k (Size1 (low8 i.immediate))
byte_operand (Size4 n) expected k i = expecting expected k (Size1 (low8 i.immediate))
byte_operand (Size8 n) expected k i = expecting expected k (Size1 (low8 i.immediate))
byte_operand (RipRelSize1Target16 t) expected k i = expecting expected k (Size1 (low8 i.immediate))
byte_operand (RipRelSize1Target32 t) expected k i = expecting expected k (Size1 (low8 i.immediate))
byte_operand (RipRelSize1Target64 t) expected k i = expecting expected k (Size1 (low8 i.immediate))
byte_operand (RipRelSize2Target16 t) expected k i = expecting expected k (Size1 (low8 i.immediate))
byte_operand (RipRelSize4Target32 t) expected k i = expecting expected k (Size1 (low8 i.immediate))
byte_operand (RipRelSize4Target64 t) expected k i = expecting expected k (Size1 (low8 i.immediate))

abbrev pub wide_operand : OpKind → Instruction → Result Imm OperandFault
wide_operand k i = cond (kind_number k == 10) (Ok (Size8 (imm64 i))) (Err F.OpKind)

-- a 66 prefix for a target of 16 bits outside mode 16, and of 32 bits in mode 16
abbrev pub prefix16 : Mode → Bool
prefix16 m = not (mode_bytes m == 2)

abbrev pub prefix32 : Mode → Bool
prefix32 m = mode_bytes m == 2

-- a branch by the size of its displacement and the kind of its target
abbrev pub branch_of : Mode → OpKind → ℕ → Instruction → Branch
branch_of m k size i =
    cond (kind_number k == 1)
    (cond (size == 1) record { imm = RipRelSize1Target16 (low16 i.mem_displ); p66 = prefix16 m } record { imm = RipRelSize2Target16 (low16 i.mem_displ); p66 = prefix16 m })
    (cond (kind_number k == 2)
    (cond (size == 1) record { imm = RipRelSize1Target32 (low32 i.mem_displ); p66 = prefix32 m } record { imm = RipRelSize4Target32 (low32 i.mem_displ); p66 = prefix32 m })
    (cond (size == 1) record { imm = RipRelSize1Target64 i.mem_displ; p66 = false } record { imm = RipRelSize4Target64 i.mem_displ; p66 = false }))

abbrev pub branch_operand : Mode → OpKind → ℕ → OpKind → Instruction → Result Branch OperandFault
branch_operand m expected size k i = expecting expected k (branch_of m expected size i)
