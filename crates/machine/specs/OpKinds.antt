use Rattle.std.specs.Prelude.{ℕ, List, [], ◌∷◌, Option}
use Rattle.machine.specs.Codes.{look}
use Rattle.machine.specs.declared.op_kind.OpKind.{OpKind}
use Rattle.machine.specs.declared.op_kind.OpKind.TheVariants.{Register, NearBranch16, NearBranch32, NearBranch64, FarBranch16, FarBranch32, Immediate8, Immediate8Second, Immediate16, Immediate32, Immediate64, Immediate8to16, Immediate8to32, Immediate8to64, Immediate32to64, MemorySegSi, MemorySegEsi, MemorySegRsi, MemorySegDi, MemorySegEdi, MemorySegRdi, MemoryEsDi, MemoryEsEdi, MemoryEsRdi, Memory}

-- the number of an operand kind, 0 to 24
abbrev pub kind_number : OpKind → ℕ
kind_number Register = 0
kind_number NearBranch16 = 1
kind_number NearBranch32 = 2
kind_number NearBranch64 = 3
kind_number FarBranch16 = 4
kind_number FarBranch32 = 5
kind_number Immediate8 = 6
kind_number Immediate8Second = 7
kind_number Immediate16 = 8
kind_number Immediate32 = 9
kind_number Immediate64 = 10
kind_number Immediate8to16 = 11
kind_number Immediate8to32 = 12
kind_number Immediate8to64 = 13
kind_number Immediate32to64 = 14
kind_number MemorySegSi = 15
kind_number MemorySegEsi = 16
kind_number MemorySegRsi = 17
kind_number MemorySegDi = 18
kind_number MemorySegEdi = 19
kind_number MemorySegRdi = 20
kind_number MemoryEsDi = 21
kind_number MemoryEsEdi = 22
kind_number MemoryEsRdi = 23
kind_number Memory = 24

abbrev pub kinds : List OpKind
kinds = Register ∷ NearBranch16 ∷ NearBranch32 ∷ NearBranch64 ∷ FarBranch16 ∷ FarBranch32 ∷ Immediate8 ∷ Immediate8Second ∷ Immediate16 ∷ Immediate32 ∷ Immediate64 ∷ Immediate8to16 ∷ Immediate8to32 ∷ Immediate8to64 ∷ Immediate32to64 ∷ MemorySegSi ∷ MemorySegEsi ∷ MemorySegRsi ∷ MemorySegDi ∷ MemorySegEdi ∷ MemorySegRdi ∷ MemoryEsDi ∷ MemoryEsEdi ∷ MemoryEsRdi ∷ Memory ∷ []

-- the value of a number
abbrev pub kind_named : ℕ → Option OpKind
kind_named = look kind_number kinds
