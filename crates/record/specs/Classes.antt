use Rattle.std.specs.Prelude.{ℕ, Bool, true, false, ◌||◌, List, [], ◌∷◌, Some, None, Option, ◌==◌, nat_le, count_by}
use Rattle.std.specs.List.{list_any}
use Rattle.record.specs.declared.class.Class.{Class}
use Rattle.record.specs.declared.class.Class.TheVariants.{RmSlot, Memory, Broadcastable, Vector, Offset, Embedded, RegSlot, Vvvv}
use Rattle.record.specs.declared.op.Op.{Op}
use Rattle.record.specs.declared.op.Op.TheVariants.{ModRmRm, ModRmRmMemOnly, Vsib, O, ModRmReg, RegEmbed8, Reg, Hx, Ib, Id, Iq, J}
use Rattle.record.specs.declared.op.Operands.{Operands}

-- the number of an operand's kind, 1 to 12
abbrev pub op_number : Op → ℕ
op_number (ModRmRm r) = 1
op_number (ModRmRmMemOnly must) = 2
op_number (Vsib r) = 3
op_number O = 4
op_number (ModRmReg r) = 5
op_number (RegEmbed8 r) = 6
op_number (Reg n) = 7
op_number (Hx r) = 8
op_number (Ib k) = 9
op_number (Id k) = 10
op_number Iq = 11
op_number (J k s) = 12

-- which kinds belong to a class
abbrev pub kind_belongs : Class → ℕ → Bool
kind_belongs RmSlot n = nat_le n 4 || n == 6
kind_belongs Memory n = nat_le n 3
kind_belongs Broadcastable n = nat_le n 2
kind_belongs Vector n = n == 3
kind_belongs Offset n = n == 4
kind_belongs Embedded n = n == 6
kind_belongs RegSlot n = n == 5
kind_belongs Vvvv n = n == 8

abbrev pub belongs : Class → Op → Bool
belongs c o = kind_belongs c (op_number o)

abbrev pub belongs_at : Class → Option Op → Bool
belongs_at c (Some o) = belongs c o
belongs_at c None = false

abbrev pub bit : Bool → ℕ
bit true = 1
bit false = 0

-- the places in their order
abbrev pub op_places : Operands → List (Option Op)
op_places x = x.op0 ∷ x.op1 ∷ x.op2 ∷ x.op3 ∷ x.op4 ∷ []

-- how many operands belong to a class
abbrev pub class_count : Class → Operands → ℕ
class_count c x = count_by (belongs_at c) (op_places x)

abbrev pub has_class : Class → Operands → Bool
has_class c x = list_any (belongs_at c) (op_places x)
