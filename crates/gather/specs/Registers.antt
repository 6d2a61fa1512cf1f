-- Register operands.
use Rattle.std.specs.Prelude.{ℕ, ◌-◌, ◌/◌, ◌%◌, Bool, cond, ◌&&◌, None, Ok, Err, Result, ◌==◌, nat_le}
use Rattle.fault.specs.declared.operand.OperandFault.{OperandFault}
use Rattle.fault.specs.declared.operand.OperandFault.TheVariants as F
use Rattle.machine.specs.declared.mode.Mode.{Mode}
use Rattle.machine.specs.declared.op_kind.OpKind.{OpKind}
use Rattle.machine.specs.OpKinds.{kind_number}
use Rattle.record.specs.declared.op.RegisterRange.{RegisterRange}
use Rattle.gather.specs.declared.parts.Displ.TheVariants.{Absent}
use Rattle.gather.specs.declared.parts.RmPart.{RmPart}
use Rattle.gather.specs.declared.register.RegPart.{RegPart}
use Rattle.gather.specs.Address.{in_range}

-- the number of a register in its range, and what it asks of REX; in the 8-bit bank SPL to DIL share numbers with AH to BH
abbrev pub reg_part : RegisterRange → ℕ → RegPart
reg_part r n =
    record { number = cond (r.lo == 1 && nat_le 9 n) (n - r.lo - 4) (n - r.lo); rex = r.lo == 1 && (nat_le 9 n && nat_le n 12); high = r.lo == 1 && (nat_le 5 n && nat_le n 8) }

-- a register of the range that the mode allows
abbrev pub ranged_register : Mode → RegisterRange → ℕ → Result RegPart OperandFault
ranged_register m r n = cond (in_range m r n) (Ok (reg_part r n)) (Err F.RegisterRange)

abbrev pub is_register : OpKind → Bool
is_register k = kind_number k == 0

abbrev pub is_memory : OpKind → Bool
is_memory k = kind_number k == 24

-- an operand that has to be such a register
abbrev pub register_operand : Mode → RegisterRange → OpKind → ℕ → Result RegPart OperandFault
register_operand m r k n = cond (is_register k) (ranged_register m r n) (Err F.OpKind)

-- a register in ModRM.rm: mod 11, its number cut into rm, B and X
abbrev pub rm_register : RegPart → RmPart
rm_register p = record { mode = 3; rm = p.number % 8; b = p.number / 8 % 2; x = p.number / 16; v2 = 0; sib = None; displ = Absent }
