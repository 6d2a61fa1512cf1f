-- Registers by their numbers in the bytes.
use Rattle.std.specs.Prelude.{ℕ, ◌+◌, ◌-◌, Bool, true, cond, not, ◌&&◌, ◌||◌, Some, None, Option, ◌==◌, nat_lt}
use Rattle.machine.specs.declared.mode.Mode.{Mode}
use Rattle.machine.specs.Modes.{is64}
use Rattle.record.specs.declared.class.Class.{Class}
use Rattle.record.specs.declared.op.Op.{Op}
use Rattle.record.specs.declared.op.Op.TheVariants.{ModRmRm, ModRmRmMemOnly, Vsib, O, ModRmReg, RegEmbed8, Reg, Hx, Ib, Id, Iq, J}
use Rattle.record.specs.declared.op.RegisterRange.{RegisterRange}
use Rattle.record.specs.Classes.{belongs}

-- the registers of an operand, none of them where it names no range
abbrev pub op_range : Op → RegisterRange
op_range (ModRmRm g) = g
op_range (ModRmRmMemOnly must) = record { lo = 0; hi = 0 }
op_range (Vsib g) = g
op_range O = record { lo = 0; hi = 0 }
op_range (ModRmReg g) = g
op_range (RegEmbed8 g) = g
op_range (Reg n) = record { lo = 0; hi = 0 }
op_range (Hx g) = g
op_range (Ib k) = record { lo = 0; hi = 0 }
op_range (Id k) = record { lo = 0; hi = 0 }
op_range Iq = record { lo = 0; hi = 0 }
op_range (J k s) = record { lo = 0; hi = 0 }

-- how many numbers a bank has: the 8-bit one has 16, though four of them stand for two registers each
abbrev pub bank_size : RegisterRange → ℕ
bank_size g = cond (g.lo == 1) 16 (g.hi + 1 - g.lo)

-- the bank has a register of the number; outside mode 64 it has eight
unfoldable pub register_there : Mode → RegisterRange → ℕ → Bool
register_there m g n = (is64 m || nat_lt n 8) && nat_lt n (bank_size g)

-- an operand of the class is a register of its bank
abbrev pub register_holds : Mode → Class → ℕ → Option Op → Bool
register_holds m c n (Some op) = not (belongs c op) || register_there m (op_range op) n
register_holds m c n None = true
