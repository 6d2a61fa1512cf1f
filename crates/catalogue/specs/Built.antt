-- The built-in table: ten records, by number.
use Rattle.std.specs.Prelude.{false, List, [], ◌∷◌, pos, negsuc, Some, None}
use Rattle.machine.specs.declared.code_size.CodeSize.TheVariants.{Unknown, Code32, Code64}
use Rattle.machine.specs.declared.op_kind.OpKind.TheVariants.{Immediate8to32, NearBranch64}
use Rattle.record.specs.declared.head.Head.{Head}
use Rattle.record.specs.declared.head.Head.TheVariants.{Legacy, Vex, Evex}
use Rattle.record.specs.declared.op.Op.{Op}
use Rattle.record.specs.declared.op.Op.TheVariants.{ModRmRm, Vsib, O, ModRmReg, RegEmbed8, Reg, Hx, Ib, Iq, J}
use Rattle.record.specs.declared.op.Operands.{Operands}
use Rattle.record.specs.declared.raw.RawRecord.{RawRecord}

-- a legacy record's head without table bytes and mandatory prefix
abbrev plain : Head
plain = Legacy record { table_byte1 = 0; table_byte2 = 0; mandatory_prefix = 0 }

abbrev one : Op → Operands
one a = record { op0 = Some a; op1 = None; op2 = None; op3 = None; op4 = None }

abbrev two : Op → Op → Operands
two a b = record { op0 = Some a; op1 = Some b; op2 = None; op3 = None; op4 = None }

abbrev three : Op → Op → Op → Operands
three a b c = record { op0 = Some a; op1 = Some b; op2 = Some c; op3 = None; op4 = None }

-- MOV r32,r/m32 (8B /r)
abbrev pub row0 : RawRecord
row0 = record { head = plain; op_code = 0x8B; group_index = negsuc 0; rm_group_index = negsuc 0; enc_flags3 = record { bits = 0x30000 }; op_size = Code32; addr_size = Unknown; is_2byte_opcode = false; n = 1; nb = 1; operands = two (ModRmReg record { lo = 37; hi = 52 }) (ModRmRm record { lo = 37; hi = 52 }) }

-- MOV r64,r/m64
abbrev pub row1 : RawRecord
row1 = record { head = plain; op_code = 0x8B; group_index = negsuc 0; rm_group_index = negsuc 0; enc_flags3 = record { bits = 0x20000 }; op_size = Code64; addr_size = Unknown; is_2byte_opcode = false; n = 1; nb = 1; operands = two (ModRmReg record { lo = 53; hi = 68 }) (ModRmRm record { lo = 53; hi = 68 }) }

-- MOV r8,r/m8 (8A /r)
abbrev pub row2 : RawRecord
row2 = record { head = plain; op_code = 0x8A; group_index = negsuc 0; rm_group_index = negsuc 0; enc_flags3 = record { bits = 0x30000 }; op_size = Unknown; addr_size = Unknown; is_2byte_opcode = false; n = 1; nb = 1; operands = two (ModRmReg record { lo = 1; hi = 20 }) (ModRmRm record { lo = 1; hi = 20 }) }

-- ADD r/m32,imm8 (83 /0)
abbrev pub row3 : RawRecord
row3 = record { head = plain; op_code = 0x83; group_index = pos 0; rm_group_index = negsuc 0; enc_flags3 = record { bits = 0x30000 }; op_size = Code32; addr_size = Unknown; is_2byte_opcode = false; n = 1; nb = 1; operands = two (ModRmRm record { lo = 37; hi = 52 }) (Ib Immediate8to32) }

-- JMP rel8 in mode 64 (EB)
abbrev pub row4 : RawRecord
row4 = record { head = plain; op_code = 0xEB; group_index = negsuc 0; rm_group_index = negsuc 0; enc_flags3 = record { bits = 0x20000 }; op_size = Unknown; addr_size = Unknown; is_2byte_opcode = false; n = 1; nb = 1; operands = one (J NearBranch64 1) }

-- MOV r64,imm64 (B8+)
abbrev pub row5 : RawRecord
row5 = record { head = plain; op_code = 0xB8; group_index = negsuc 0; rm_group_index = negsuc 0; enc_flags3 = record { bits = 0x20000 }; op_size = Code64; addr_size = Unknown; is_2byte_opcode = false; n = 1; nb = 1; operands = two (RegEmbed8 record { lo = 53; hi = 68 }) (Iq) }

-- VADDPS ymm,ymm,ymm/m256
abbrev pub row6 : RawRecord
row6 = record { head = Vex record { table = 1; last_byte = 0x04; mask_w_l = 0x80; mask_l = 0x00; w1 = false }; op_code = 0x58; group_index = negsuc 0; rm_group_index = negsuc 0; enc_flags3 = record { bits = 0x30000 }; op_size = Unknown; addr_size = Unknown; is_2byte_opcode = false; n = 1; nb = 1; operands = three (ModRmReg record { lo = 109; hi = 124 }) (Hx record { lo = 109; hi = 124 }) (ModRmRm record { lo = 109; hi = 124 }) }

-- VADDPS zmm{k}{z},zmm,zmm/m512/m32bcst{er}
abbrev pub row7 : RawRecord
row7 = record { head = Evex record { table = 1; p1_bits = 0x04; ll_bits = 0x40; mask_w = 0x00; mask_ll = 0x00 }; op_code = 0x58; group_index = negsuc 0; rm_group_index = negsuc 0; enc_flags3 = record { bits = 0x6C030000 }; op_size = Unknown; addr_size = Unknown; is_2byte_opcode = false; n = 64; nb = 4; operands = three (ModRmReg record { lo = 141; hi = 172 }) (Hx record { lo = 141; hi = 172 }) (ModRmRm record { lo = 141; hi = 172 }) }

-- VPGATHERDD zmm{k},vm32z
abbrev pub row8 : RawRecord
row8 = record { head = Evex record { table = 2; p1_bits = 0x05; ll_bits = 0x40; mask_w = 0x00; mask_ll = 0x00 }; op_code = 0x90; group_index = negsuc 0; rm_group_index = negsuc 0; enc_flags3 = record { bits = 0xA0030000 }; op_size = Unknown; addr_size = Unknown; is_2byte_opcode = false; n = 4; nb = 4; operands = two (ModRmReg record { lo = 141; hi = 172 }) (Vsib record { lo = 141; hi = 172 }) }

-- MOV EAX,moffs32 (A1)
abbrev pub row9 : RawRecord
row9 = record { head = plain; op_code = 0xA1; group_index = negsuc 0; rm_group_index = negsuc 0; enc_flags3 = record { bits = 0x30000 }; op_size = Code32; addr_size = Unknown; is_2byte_opcode = false; n = 1; nb = 1; operands = two (Reg 37) (O) }

unfoldable pub built_rows : List RawRecord
built_rows = row0 ∷ row1 ∷ row2 ∷ row3 ∷ row4 ∷ row5 ∷ row6 ∷ row7 ∷ row8 ∷ row9 ∷ []
