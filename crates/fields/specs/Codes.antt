-- The opcode.
use Rattle.std.specs.Prelude.{ℕ, ◌+◌, ◌*◌, ◌/◌, ◌%◌, Bool, cond, ◌&&◌, List, Result, ◌==◌}
use Rattle.fault.specs.declared.reader.ReadFault.{ReadFault}
use Rattle.machine.specs.declared.mode.Mode.{Mode}
use Rattle.record.specs.declared.class.Class.TheVariants.{Embedded}
use Rattle.record.specs.declared.raw.RawRecord.{RawRecord}
use Rattle.record.specs.Classes.{has_class}
use Rattle.record.specs.Rules.{each}
use Rattle.fields.specs.declared.code.Code.{Code}
use Rattle.fields.specs.declared.lead.Lead.{Lead}
use Rattle.fields.specs.Bytes.{then, holding, required, byte_at}
use Rattle.fields.specs.Registers.{register_holds}

-- the opcode's last byte, but for the register in its low three bits
abbrev pub code_holds : RawRecord → ℕ → Bool
code_holds r c = cond (has_class Embedded r.operands) (c / 8 == r.op_code % 256 / 8) (c == r.op_code % 256)

-- with that register: B is its fourth bit
abbrev pub last_holds : Mode → RawRecord → Lead → ℕ → Bool
last_holds m r lead c = code_holds r c && each (register_holds m Embedded (8 * lead.b + c % 8)) r.operands

-- the opcode's last byte at place n of l
abbrev pub last_of : Mode → RawRecord → Lead → ℕ → List ℕ → ℕ → Result Code ReadFault
last_of m r lead at l n = then (byte_at l n) (λ c. holding (last_holds m r lead c) record { end = at + n + 1; low = c % 8 })

-- the opcode of one byte or two that begins at the place `at`, where l begins
unfoldable pub code_of : Mode → RawRecord → Lead → ℕ → List ℕ → Result Code ReadFault
code_of m r lead at l =
    cond r.is_2byte_opcode
    (then (byte_at l 0) (λ c. then (required (c == r.op_code / 256)) (λ _. last_of m r lead at l 1)))
    (last_of m r lead at l 0)
