-- The reading of an instruction, and what it says without the places of bytes.
use Rattle.std.specs.Prelude.{ℕ, ◌+◌, ◌%◌, List, Some, None, Ok, Err, Option, Result}
use Rattle.fault.specs.declared.reader.ReadFault.{ReadFault}
use Rattle.fault.specs.declared.reader.ReadFault.TheVariants as F
use Rattle.machine.specs.declared.mode.Mode.{Mode}
use Rattle.machine.specs.declared.place.Place.TheVariants.{Op0, Op1, Op2, Op3, Op4}
use Rattle.machine.specs.Modes.{mode_named}
use Rattle.record.specs.declared.sound.Record.{Record}
use Rattle.fields.specs.declared.cut.Cut.{Cut}
use Rattle.fields.specs.Bytes.{then, window}
use Rattle.fields.specs.Cuts.{cut_of}
use Rattle.reader.specs.declared.operand.Operand.{Operand}
use Rattle.reader.specs.declared.reading.Layout.{Layout}
use Rattle.reader.specs.declared.reading.Meaning.{Meaning}
use Rattle.reader.specs.declared.reading.ByPlace.{ByPlace}
use Rattle.reader.specs.declared.reading.Reading.{Reading}
use Rattle.reader.specs.Operands.{Spread, operand_at, ib_before, broadcast_of, imm_place}

-- the address behind the instruction
abbrev pub next_of : ℕ → Cut → ℕ
next_of address c = (address + c.end) % 18446744073709551616

-- where each field begins, and where the last one ends
abbrev pub layout_of : Cut → Layout
layout_of c = record { head = c.prefixes.end; opcode = c.lead.end; mod_rm = c.code.end; displacement = c.mod_rm.end; immediate = imm_place c; end = c.end }

unfoldable pub operands_of : Spread → Mode → Record → ℕ → Cut → ByPlace (Operand × ℕ)
operands_of sp m r next c =
    let x = r.raw.operands in
    record { op0 = operand_at sp m r next c (ib_before x Op0) x.op0; op1 = operand_at sp m r next c (ib_before x Op1) x.op1; op2 = operand_at sp m r next c (ib_before x Op2) x.op2; op3 = operand_at sp m r next c (ib_before x Op3) x.op3; op4 = operand_at sp m r next c (ib_before x Op4) x.op4 }

abbrev pub reading_of : Spread → Mode → ℕ → Record → Cut → Reading
reading_of sp m address r c =
    record { operands = operands_of sp m r (next_of address c) c; segment = c.prefixes.segment; opmask = c.lead.opmask; zeroing = c.lead.zeroing; broadcast = broadcast_of c; layout = layout_of c }

abbrev pub read_in : Spread → ℕ → Record → List ℕ → Option Mode → Result Reading ReadFault
read_in sp address r l (Some m) = then (cut_of m r.raw (window l)) (λ c. Ok (reading_of sp m address r c))
read_in sp address r l None = Err F.Mode

-- what the bytes from the first on say under a record
unfoldable pub read_of : Spread → ℕ → ℕ → Record → List ℕ → Result Reading ReadFault
read_of sp mode address r l = read_in sp address r l (mode_named mode)

-- the operand without the place of its bytes
abbrev pub plain : Option (Operand × ℕ) → Option Operand
plain (Some x) = Some x.0
plain None = None

-- what an instruction says
abbrev pub meaning_of : Reading → Meaning
meaning_of x =
    let o = x.operands in
    record { operands = record { op0 = plain o.op0; op1 = plain o.op1; op2 = plain o.op2; op3 = plain o.op3; op4 = plain o.op4 }; segment = x.segment; opmask = x.opmask; zeroing = x.zeroing; broadcast = x.broadcast }
