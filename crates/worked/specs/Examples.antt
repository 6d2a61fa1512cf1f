-- Worked examples of the built-in table: what is handed in, and the bytes and the answer that come of it.
use Rattle.std.specs.Prelude.{◌≡◌, ℕ, false, List, [], ◌∷◌, Some, None, Ok, Err, Result}
use Rattle.std.specs.List.{AllByRecursion}
use Rattle.fault.specs.declared.encode.EncodeFault.{EncodeFault}
use Rattle.fault.specs.declared.encode.EncodeFault.TheVariants.{Operand, Encoding}
use Rattle.fault.specs.declared.encoding.EncodingFault.TheVariants.{HighByteWithRex, BranchDistance, Mode}
use Rattle.fault.specs.declared.operand.OperandFault.TheVariants.{SizeOfAddress}
use Rattle.machine.specs.declared.place.Place.TheVariants.{Op1}
use Rattle.instruction.specs.declared.raw.RawInstruction.{RawInstruction}
use Rattle.instruction.specs.Making.{instruction_of}
use Rattle.catalogue.specs.Built.{built_rows}
use Rattle.catalogue.specs.Meaning.{row_of}
use Rattle.instruction.specs.declared.settings.RawSettings.{RawSettings}
use Rattle.encoder.specs.Encode.{EncodingOf, encode_of, refused_with}
use Rattle.policy.specs.Meanings.{port_spread}

-- an instruction at 0x1000: the record's number, the mode, and what is asked
pub record Example : Type 0 where
  pub number : ℕ
  pub mode : ℕ
  pub asked : RawInstruction
  pub bytes : List ℕ
  pub answer : Result ℕ EncodeFault

-- a memory operand: base, index, power of the scale, raw size and displacement
pub record Address : Type 0 where
  pub base : ℕ
  pub index : ℕ
  pub scale : ℕ
  pub size : ℕ
  pub displ : ℕ

abbrev at : ℕ → ℕ → ℕ → ℕ → ℕ → Address
at b x s z d = record { base = b; index = x; scale = s; size = z; displ = d }

-- kinds and registers of three operands, an address, an immediate and an opmask; nothing else is asked
abbrev asks : (k0 k1 k2 r0 r1 : ℕ) → Address → (imm mask : ℕ) → RawInstruction
asks k0 k1 k2 r0 r1 a imm mask =
    record { code_size = 0; segment = 0; lock = false; repe = false; repne = false; base = a.base; index = a.index; scale = a.scale; displ_size = a.size; mem_displ = a.displ; immediate = imm; kind0 = k0; kind1 = k1; kind2 = k2; kind3 = 0; reg0 = r0; reg1 = r1; reg2 = 0; reg3 = 0; opmask = mask; zeroing = false; broadcast = false; sae = false; rounding = 0 }

abbrev example : ℕ → ℕ → RawInstruction → List ℕ → Result ℕ EncodeFault → Example
example n m i bs a = record { number = n; mode = m; asked = i; bytes = bs; answer = a }

abbrev pub examples : List Example
examples =
    -- MOV EAX, [RBP], [R13], [RSP]
    example 0 64 (asks 0 24 0 37 0 (at 58 0 0 0 0) 0 0) (0x8B ∷ (0x45 ∷ (0x00 ∷ []))) (Ok 3)
    ∷ (example 0 64 (asks 0 24 0 37 0 (at 66 0 0 0 0) 0 0) (0x41 ∷ (0x8B ∷ (0x45 ∷ (0x00 ∷ [])))) (Ok 4)
    ∷ (example 0 64 (asks 0 24 0 37 0 (at 57 0 0 0 0) 0 0) (0x8B ∷ (0x04 ∷ (0x24 ∷ []))) (Ok 3)
    -- MOV RAX, [RIP target 0x2000], and ADD there with an immediate behind it
    ∷ (example 1 64 (asks 0 24 0 53 0 (at 70 0 0 0 0x2000) 0 0) (0x48 ∷ (0x8B ∷ (0x05 ∷ (0xF9 ∷ (0x0F ∷ (0x00 ∷ (0x00 ∷ []))))))) (Ok 7)
    ∷ (example 3 64 (asks 24 12 0 0 0 (at 70 0 0 0 0x2000) 1 0) (0x83 ∷ (0x05 ∷ (0xF9 ∷ (0x0F ∷ (0x00 ∷ (0x00 ∷ (0x01 ∷ []))))))) (Ok 7)
    -- mode 32: MOV EAX, [0x10] and [BP+SI-1]
    ∷ (example 0 32 (asks 0 24 0 37 0 (at 0 0 0 3 0x10) 0 0) (0x8B ∷ (0x05 ∷ (0x10 ∷ (0x00 ∷ (0x00 ∷ (0x00 ∷ [])))))) (Ok 6)
    ∷ (example 0 32 (asks 0 24 0 37 0 (at 26 27 0 1 0xFFFFFFFFFFFFFFFF) 0 0) (0x67 ∷ (0x8B ∷ (0x42 ∷ (0xFF ∷ [])))) (Ok 4)
    -- [RAX+1] asked in four bytes; AH beside R8
    ∷ (example 0 64 (asks 0 24 0 37 0 (at 53 0 0 3 1) 0 0) (0x8B ∷ (0x00 ∷ [])) (Err (Operand Op1 SizeOfAddress))
    ∷ (example 2 64 (asks 0 24 0 5 0 (at 61 0 0 0 0) 0 0) (0x41 ∷ (0x8A ∷ (0x20 ∷ []))) (Err (Encoding HighByteWithRex))
    -- JMP to 0x1081 and 0x1082
    ∷ (example 4 64 (asks 3 0 0 0 0 (at 0 0 0 0 0x1081) 0 0) (0xEB ∷ (0x7F ∷ [])) (Ok 2)
    ∷ (example 4 64 (asks 3 0 0 0 0 (at 0 0 0 0 0x1082) 0 0) (0xEB ∷ (0x80 ∷ [])) (Err (Encoding BranchDistance))
    -- VADDPS ZMM1, ZMM2, [RAX+0x40] and [RAX+0x41], asked in one byte
    ∷ (example 7 64 (asks 0 0 24 142 143 (at 53 0 0 1 0x40) 0 0) (0x62 ∷ (0xF1 ∷ (0x6C ∷ (0x48 ∷ (0x58 ∷ (0x48 ∷ (0x01 ∷ []))))))) (Ok 7)
    ∷ (example 7 64 (asks 0 0 24 142 143 (at 53 0 0 1 0x41) 0 0) (0x62 ∷ (0xF1 ∷ (0x6C ∷ (0x48 ∷ (0x58 ∷ (0x88 ∷ (0x41 ∷ (0x00 ∷ (0x00 ∷ (0x00 ∷ [])))))))))) (Ok 10)
    -- VPGATHERDD ZMM1 under K1, [ZMM2*4+0x40], asked in one byte
    ∷ (example 8 64 (asks 0 24 0 142 0 (at 0 143 2 1 0x40) 0 1) (0x62 ∷ (0xF2 ∷ (0x7D ∷ (0x49 ∷ (0x90 ∷ (0x0C ∷ (0x95 ∷ (0x40 ∷ (0x00 ∷ (0x00 ∷ (0x00 ∷ []))))))))))) (Ok 11)
    ∷ [])))))))))))))

abbrev zero_settings : RawSettings
zero_settings = record { prevent_vex2 = 0; vex_wig = 0; vex_lig = 0; evex_wig = 0; evex_lig = 0 }

-- the encoding of an example under the repository's own policy
abbrev pub outcome : Example → EncodingOf
outcome e =
    elim (row_of built_rows e.number) [
      | Some r ↦ elim (instruction_of e.asked) [ Ok i ↦ encode_of port_spread zero_settings e.mode 0x1000 r i | Err f ↦ refused_with Mode ]
      | None ↦ refused_with Mode
    ]

-- every example comes out as stated
abbrev pub ExamplesComeOut : Type 0
ExamplesComeOut = AllByRecursion (λ (e : Example). ((outcome e).bytes ≡ e.bytes) × ((outcome e).answer ≡ e.answer)) examples
