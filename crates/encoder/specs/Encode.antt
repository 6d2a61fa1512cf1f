-- An instruction's encoding: the bytes written, and the length or the first refusal.
use Rattle.std.specs.Prelude.{ℕ, ◌+◌, ◌%◌, Bool, cond, not, ◌&&◌, ◌||◌, List, [], ◌++◌, length, Some, None, Ok, Err, Option, Result, ◌==◌, nat_le, nat_lt}
use Rattle.std.specs.Bool.{then_some}
use Rattle.std.specs.List.{list_any}
use Rattle.std.specs.Option.{option_or, option_map}
use Rattle.fault.specs.declared.encode.EncodeFault.{EncodeFault}
use Rattle.fault.specs.declared.encode.EncodeFault.TheVariants.{Encoding}
use Rattle.fault.specs.declared.encoding.EncodingFault.{EncodingFault}
use Rattle.fault.specs.declared.encoding.EncodingFault.TheVariants as E
use Rattle.machine.specs.declared.mode.Mode.{Mode}
use Rattle.machine.specs.declared.place.Place.{Place}
use Rattle.machine.specs.Modes.{mode_named}
use Rattle.machine.specs.Places.{places}
use Rattle.instruction.specs.declared.made.Instruction.{Instruction}
use Rattle.instruction.specs.Getters.{op_kind_at}
use Rattle.gather.specs.declared.gathering.Gathering.{Gathering}
use Rattle.gather.specs.declared.parts.Parts.{Parts}
use Rattle.gather.specs.Gathered.{gathered}
use Rattle.gather.specs.Registers.{is_memory}
use Rattle.gather.specs.Steps.{Spread}
use Rattle.record.specs.declared.class.Class.TheVariants.{Memory, Vector}
use Rattle.record.specs.declared.flags.Flag.TheVariants as Flags
use Rattle.record.specs.declared.head.Head.{Head}
use Rattle.record.specs.declared.head.Head.TheVariants.{Legacy, Vex, Evex}
use Rattle.record.specs.declared.raw.RawRecord.{RawRecord}
use Rattle.record.specs.declared.sound.Record.{Record}
use Rattle.record.specs.Classes.{belongs_at, has_class}
use Rattle.record.specs.Facts.{op_at, has_mod_rm}
use Rattle.record.specs.Flags.{has_flag}
use Rattle.record.specs.Rules.{is_evex}
use Rattle.encoder.specs.declared.settings.EvexLig.{EvexLig}
use Rattle.instruction.specs.declared.settings.RawSettings.{RawSettings}
use Rattle.encoder.specs.declared.settings.Settings.{Settings}
use Rattle.encoder.specs.Fields.{opcode_number, opcode_onto, mod_rm_onto, imm_length, displ_onto, displ_far, imm_onto, imm_far}
use Rattle.encoder.specs.Heads.{prefixes_onto, repe_stands, has_rex, legacy_onto, vex_onto, evex_onto, evex_fault, rounds}
use Rattle.encoder.specs.Lines.{opt}

abbrev pub refuse_if : Bool → EncodingFault → Option EncodeFault
refuse_if b f = then_some b (Encoding f)

-- Head.

abbrev pub by_head : Head → Settings → RawRecord → Parts → Instruction → List ℕ → List ℕ
by_head (Legacy h) s r p i l = legacy_onto l h p
by_head (Vex h) s r p i l = vex_onto l s h p
by_head (Evex h) s r p i l = evex_onto l s r.enc_flags3 h p i.evex

-- FWAIT and prefixes, then the head
unfoldable pub head_bytes : Settings → RawRecord → Parts → Instruction → List ℕ
head_bytes s r p i =
    by_head r.head s r p i (prefixes_onto ([] ++ opt (has_flag r.enc_flags3 Flags.Fwait) 0x9B) p.flags i.prefixes (repe_stands r.head))

-- AH to BH beside a REX prefix
abbrev pub legacy_fault : Parts → Option EncodingFault
legacy_fault p = then_some (has_rex p && p.flags.high) E.HighByteWithRex

abbrev pub by_head_fault : Head → RawRecord → Parts → Instruction → Option EncodingFault
by_head_fault (Legacy h) r p i = legacy_fault p
by_head_fault (Vex h) r p i = None
by_head_fault (Evex h) r p i = evex_fault r.enc_flags3 p.flags.broadcast i.evex

unfoldable pub head_fault : RawRecord → Parts → Instruction → Option EncodingFault
head_fault r p i = by_head_fault r.head r p i

-- Fields.

-- the address of the byte behind l
unfoldable pub address_behind : ℕ → List ℕ → ℕ
address_behind address l = (address + length l) % 18446744073709551616

-- opcode, ModRM and SIB
unfoldable pub code_bytes : RawRecord → Parts → List ℕ → List ℕ
code_bytes r p l = mod_rm_onto (opcode_onto l r.is_2byte_opcode (opcode_number r.op_code p.low)) (has_mod_rm r) p

unfoldable pub displ_bytes_onto : ℕ → Parts → List ℕ → List ℕ
displ_bytes_onto address p l = displ_onto l (address_behind address l) (imm_length p.imm) p.rm.displ

unfoldable pub rip_far : ℕ → Parts → List ℕ → Bool
rip_far address p l = displ_far (address_behind address l) (imm_length p.imm) p.rm.displ

unfoldable pub imm_bytes_onto : ℕ → Parts → List ℕ → List ℕ
imm_bytes_onto address p l = imm_onto l (address_behind address l) p.imm

unfoldable pub branch_far : ℕ → Parts → List ℕ → Bool
branch_far address p l = imm_far (address_behind address l) p.imm

-- Departures.

unfoldable pub base_alone : Instruction → Bool
base_alone i = not (i.memory.base.number == 0) && i.memory.index.number == 0

-- an address with a vector index has a base and no index
unfoldable pub vsib_bare : RawRecord → Instruction → Bool
vsib_bare r i = base_alone i && has_class Vector r.operands

unfoldable pub memory_at : RawRecord → Instruction → Place → Bool
memory_at r i p = belongs_at Memory (op_at r.operands p) && is_memory (op_kind_at i p)

-- some operand is memory under ModRM
unfoldable pub uses_memory : RawRecord → Instruction → Bool
uses_memory r i = list_any (memory_at r i) places

abbrev pub rounds_evex : RawRecord → Instruction → Bool
rounds_evex r i = is_evex r.head && (i.evex.sae || rounds i.evex)

-- EVEX memory with suppress-all-exceptions or rounding
unfoldable pub rounded_memory : RawRecord → Instruction → Bool
rounded_memory r i = rounds_evex r i && uses_memory r i

-- The whole.

-- the bytes behind the head's: opcode, ModRM and SIB, displacement, immediate
abbrev pub finished_bytes : ℕ → RawRecord → Parts → List ℕ → List ℕ
finished_bytes address r p l = imm_bytes_onto address p (displ_bytes_onto address p (code_bytes r p l))

-- the refusals behind the head's, in their order
abbrev pub finished_fault : ℕ → RawRecord → Instruction → Parts → List ℕ → Option EncodeFault → Option EncodeFault
finished_fault address r i p l f =
    option_or (option_or (option_or (option_or (option_or f
    (refuse_if (rip_far address p (code_bytes r p l)) E.RipDistance))
    (refuse_if (branch_far address p (displ_bytes_onto address p (code_bytes r p l))) E.BranchDistance))
    (refuse_if (nat_lt 15 (length (finished_bytes address r p l))) E.TooLong))
    (refuse_if (vsib_bare r i) E.VsibWithoutIndex))
    (refuse_if (rounded_memory r i) E.MemoryWithRounding)

unfoldable pub line_bytes : Settings → ℕ → Record → Instruction → Parts → List ℕ
line_bytes s address r i p = finished_bytes address r.raw p (head_bytes s r.raw p i)

-- the refusals behind the operands', in their order
unfoldable pub line_fault : Settings → ℕ → Record → Instruction → Parts → Option EncodeFault → Option EncodeFault
line_fault s address r i p f = finished_fault address r.raw i p (head_bytes s r.raw p i) (option_or f (option_map Encoding (head_fault r.raw p i)))

abbrev pub answer_of : Option EncodeFault → ℕ → Result ℕ EncodeFault
answer_of (Some e) n = Err e
answer_of None n = Ok n

-- the bytes that the steps write, and the answer
pub record EncodingOf : Type 0 where
  pub bytes : List ℕ
  pub answer : Result ℕ EncodeFault

abbrev pub steps_from : Settings → ℕ → Record → Instruction → Gathering → EncodingOf
steps_from s address r i g =
    record { bytes = line_bytes s address r i g.parts; answer = answer_of (line_fault s address r i g.parts g.fault) (length (line_bytes s address r i g.parts)) }

unfoldable pub steps_of : Spread → Settings → Mode → ℕ → Record → Instruction → EncodingOf
steps_of sp s m address r i = steps_from s address r i (gathered sp m r i)

-- Settings.

abbrev pub settings_known : RawSettings → Bool
settings_known s = nat_le s.prevent_vex2 1 && (nat_le s.vex_wig 1 && (nat_le s.vex_lig 1 && (nat_le s.evex_wig 1 && nat_le s.evex_lig 3)))

-- the low and the high bit
abbrev pub lig_of : ℕ → EvexLig
lig_of n = record { low = (n % 2 == 1); high = nat_le 2 n }

abbrev pub settings_of : RawSettings → Settings
settings_of s =
    record { prevent_vex2 = (s.prevent_vex2 == 1); vex_wig = (s.vex_wig == 1); vex_lig = (s.vex_lig == 1); evex_wig = (s.evex_wig == 1); evex_lig = lig_of s.evex_lig }

abbrev pub settings_made : RawSettings → Result Settings EncodingFault
settings_made s = cond (settings_known s) (Ok (settings_of s)) (Err E.Setting)

abbrev pub refused_with : EncodingFault → EncodingOf
refused_with f = record { bytes = []; answer = Err (Encoding f) }

-- the mode first, then the settings, then the steps
abbrev pub by_mode : Spread → ℕ → Record → Instruction → Result Settings EncodingFault → Option Mode → EncodingOf
by_mode sp address r i (Ok s) (Some m) = steps_of sp s m address r i
by_mode sp address r i (Err f) (Some m) = refused_with f
by_mode sp address r i s None = refused_with E.Mode

unfoldable pub encode_of : Spread → RawSettings → ℕ → ℕ → Record → Instruction → EncodingOf
encode_of sp s mode address r i = by_mode sp address r i (settings_made s) (mode_named mode)
