-- Every refusal has a number, an operand place (5 where there is none) and a layer. This is the one list of them.
use Rattle.std.specs.Prelude.{ℕ}
use Rattle.machine.specs.Places.{place_number}
use Rattle.fault.specs.declared.code.FaultCode.{FaultCode}
use Rattle.fault.specs.declared.fault.Fault.{Fault}
use Rattle.fault.specs.declared.fault.Fault.TheVariants.{Making, Encode, Append, Read}
use Rattle.fault.specs.declared.making.MakingFault.TheVariants.{Unsound, Field}
use Rattle.fault.specs.declared.encode.EncodeFault.TheVariants.{Operand, Encoding}
use Rattle.fault.specs.declared.append.AppendFault.TheVariants as Appending
use Rattle.fault.specs.declared.operand.OperandFault.{OperandFault}
use Rattle.fault.specs.declared.operand.OperandFault.TheVariants as O
use Rattle.fault.specs.declared.encoding.EncodingFault.{EncodingFault}
use Rattle.fault.specs.declared.encoding.EncodingFault.TheVariants as E
use Rattle.fault.specs.declared.sheet.SheetFault.{SheetFault}
use Rattle.fault.specs.declared.sheet.SheetFault.TheVariants as S
use Rattle.fault.specs.declared.reader.ReadFault.{ReadFault}
use Rattle.fault.specs.declared.reader.ReadFault.TheVariants as R
use Rattle.fault.specs.declared.rule.Rule.{Rule}
use Rattle.fault.specs.declared.rule.Rule.TheVariants.{Fields, Ranges, Slots, ModRm, Immediates, Heads, Modes, FirstByte}

-- the rules of a sound record, in the order in which they are tried
abbrev pub rule_number : Rule → ℕ
rule_number Fields = 1
rule_number Ranges = 2
rule_number Slots = 3
rule_number ModRm = 4
rule_number Immediates = 5
rule_number Heads = 6
rule_number Modes = 7
rule_number FirstByte = 8

-- layer 2, with the operand's place
abbrev pub operand_number : OperandFault → ℕ
operand_number O.OpKind = 3
operand_number O.FixedRegister = 4
operand_number O.RegisterRange = 5
operand_number O.RegisterNotAllowed = 6
operand_number O.NeitherRegisterNorMemory = 7
operand_number O.AbsoluteRegisters = 8
operand_number O.AbsoluteScale = 9
operand_number O.Absolute16In64 = 10
operand_number O.DisplacementU16 = 11
operand_number O.DisplacementU32 = 12
operand_number O.Absolute64Outside64 = 13
operand_number O.AbsoluteSize = 14
operand_number O.Vsib16 = 15
operand_number O.Address16In64 = 16
operand_number O.Registers16 = 17
operand_number O.Displacement16 = 18
operand_number O.DisplacementNotZero = 19
operand_number O.DisplacementI8 = 20
operand_number O.Size16 = 21
operand_number O.Address64Outside64 = 22
operand_number O.Size = 23
operand_number O.RipIndex = 24
operand_number O.RipScale = 25
operand_number O.RipOutside64 = 26
operand_number O.RipWithSib = 27
operand_number O.EipTarget = 28
operand_number O.DisplacementI32 = 29
operand_number O.Displacement32 = 30
operand_number O.VsibOffsetOnly = 31
operand_number O.SizeOfAddress = 32
operand_number O.StackPointerIndex = 33

-- layer 3
abbrev pub encoding_number : EncodingFault → ℕ
encoding_number E.Only1632 = 1
encoding_number E.Only64 = 2
encoding_number E.HighByteWithRex = 35
encoding_number E.OpmaskNotAllowed = 36
encoding_number E.OpmaskRequired = 37
encoding_number E.SaeNotAllowed = 38
encoding_number E.RoundingNotAllowed = 39
encoding_number E.BroadcastNotAllowed = 40
encoding_number E.ZeroingNotAllowed = 41
encoding_number E.RipDistance = 42
encoding_number E.BranchDistance = 43
encoding_number E.TooLong = 44
encoding_number E.VsibWithoutIndex = 45
encoding_number E.MemoryWithRounding = 46
encoding_number E.Setting = 53
encoding_number E.Mode = 55

-- layer 4
abbrev pub sheet_number : SheetFault → ℕ
sheet_number S.PageShort = 50
sheet_number S.IndexFull = 51
sheet_number S.NoRecord = 52
sheet_number S.Setting = 53
sheet_number S.Shrunk = 54
sheet_number S.Mode = 55

-- layer 5
abbrev pub read_number : ReadFault → ℕ
read_number R.Mode = 55
read_number R.Ends = 70
read_number R.Differs = 71

abbrev pub coded : ℕ → ℕ → ℕ → FaultCode
coded number place layer = record { number = number; place = place; layer = layer }

abbrev pub fault_code : Fault → FaultCode
fault_code (Making (Unsound rule)) = coded 60 5 1
fault_code (Making Field) = coded 61 5 1
fault_code (Encode (Operand p f)) = coded (operand_number f) (place_number p) 2
fault_code (Encode (Encoding f)) = coded (encoding_number f) 5 3
fault_code (Append (Appending.Sheet f)) = coded (sheet_number f) 5 4
fault_code (Append (Appending.Encode (Operand p f))) = coded (operand_number f) (place_number p) 2
fault_code (Append (Appending.Encode (Encoding f))) = coded (encoding_number f) 5 3
fault_code (Read f) = coded (read_number f) 5 5
