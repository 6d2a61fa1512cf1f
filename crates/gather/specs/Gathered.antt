-- All operands of an instruction, in the order of their places.
use Rattle.std.specs.Prelude.{ℕ, Bool, true, false, cond, not, ◌&&◌, ℤ, pos, negsuc, Some, None, Ok, Err, Option, Result, ◌==◌}
use Rattle.std.specs.List.{fold}
use Rattle.std.specs.Option.{option_or}
use Rattle.fault.specs.declared.encode.EncodeFault.{EncodeFault}
use Rattle.fault.specs.declared.encode.EncodeFault.TheVariants.{Operand, Encoding}
use Rattle.fault.specs.declared.encoding.EncodingFault.TheVariants as E
use Rattle.fault.specs.declared.operand.OperandFault.{OperandFault}
use Rattle.machine.specs.declared.code_size.CodeSize.{CodeSize}
use Rattle.machine.specs.declared.code_size.CodeSize.TheVariants.{Unknown, Code16, Code32, Code64}
use Rattle.machine.specs.declared.mode.Mode.{Mode}
use Rattle.machine.specs.declared.place.Place.{Place}
use Rattle.machine.specs.Places.{places}
use Rattle.instruction.specs.declared.made.Instruction.{Instruction}
use Rattle.record.specs.declared.flags.Flag.TheVariants as Flags
use Rattle.record.specs.declared.raw.RawRecord.{RawRecord}
use Rattle.record.specs.declared.sound.Record.{Record}
use Rattle.record.specs.Facts.{op_at}
use Rattle.record.specs.Flags.{has_flag}
use Rattle.gather.specs.declared.gathering.Gathering.{Gathering}
use Rattle.gather.specs.declared.parts.Displ.TheVariants.{Absent}
use Rattle.gather.specs.declared.parts.HeadFlags.{HeadFlags}
use Rattle.gather.specs.declared.parts.Imm.TheVariants as Imms
use Rattle.gather.specs.declared.parts.Parts.{Parts}
use Rattle.gather.specs.declared.parts.RmPart.{RmPart}
use Rattle.machine.specs.Modes.{is64, mode_bytes}
use Rattle.gather.specs.Parts.{plain_part, blank}
use Rattle.gather.specs.Steps.{Spread, Step, told, op_step}

-- a group's number, 0 for none
abbrev pub group_number : ℤ → ℕ
group_number (pos n) = n
group_number (negsuc n) = 0

-- a fixed ModRM.rm comes with mod 11
abbrev pub group_rm : ℤ → RmPart
group_rm (pos n) = plain_part 3 n Absent
group_rm (negsuc n) = blank

-- a prefix for a size of 16 bits outside mode 16, and of 32 bits where the mode does not take them by itself
abbrev pub asks_prefix : Mode → CodeSize → (takes32 : Bool) → Bool
asks_prefix m Unknown takes32 = false
asks_prefix m Code16 takes32 = not (mode_bytes m == 2)
asks_prefix m Code32 takes32 = not takes32
asks_prefix m Code64 takes32 = false

abbrev pub is_64 : CodeSize → Bool
is_64 Unknown = false
is_64 Code16 = false
is_64 Code32 = false
is_64 Code64 = true

-- modes 32 and 64 take operands of 32 bits by themselves, mode 32 addresses
abbrev pub start_flags : Mode → RawRecord → HeadFlags
start_flags m r =
    record { p66 = asks_prefix m r.op_size (not (mode_bytes m == 2)); p67 = asks_prefix m r.addr_size (mode_bytes m == 4); w = is_64 r.op_size && not (has_flag r.enc_flags3 Flags.DefaultOpSize64); rex = false; high = false; broadcast = false }

-- the parts before any operand
abbrev pub start_parts : Mode → RawRecord → Parts
start_parts m r =
    record { rm = group_rm r.rm_group_index; reg = group_number r.group_index; low = 0; vvvv = 0; imm = Imms.Absent; flags = start_flags m r }

-- the record is for another mode
abbrev pub mode_fault : (m64 old new : Bool) → Option EncodeFault
mode_fault m64 old new = cond (m64 && (old && not new)) (Some (Encoding E.Only1632)) (cond (not m64 && (new && not old)) (Some (Encoding E.Only64)) None)

unfoldable pub start : Mode → Record → Gathering
start m r =
    record { parts = start_parts m r.raw; fault = mode_fault (is64 m) (has_flag r.raw.enc_flags3 Flags.Bit16Or32) (has_flag r.raw.enc_flags3 Flags.Bit64) }

-- the first refusal is kept
abbrev pub keep_first : Option EncodeFault → Place → Result (Unit {0}) OperandFault → Option EncodeFault
keep_first before at (Err f) = option_or before (Some (Operand at f))
keep_first before at (Ok u) = before

abbrev pub after_step : Option EncodeFault → Place → Step → Gathering
after_step f at s = record { parts = s.parts; fault = keep_first f at (told s) }

-- the operand at a place, where there is one
unfoldable pub place_step : Spread → Mode → Record → Instruction → Place → Gathering → Gathering
place_step sp m r i at g = elim (op_at r.raw.operands at) [ Some op ↦ after_step g.fault at (op_step sp m r i at op g.parts) | None ↦ g ]

-- all places in their order
abbrev pub in_order : Spread → Mode → Record → Instruction → Gathering
in_order sp m r i = fold (λ g at. place_step sp m r i at g) (start m r) places

-- the same, shut: the layers above see the name and its laws
unfoldable pub gathered : Spread → Mode → Record → Instruction → Gathering
gathered sp m r i = in_order sp m r i
