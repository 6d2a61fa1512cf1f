-- Memory operands with 32-bit and 64-bit addresses.
use Rattle.std.specs.Prelude.{ℕ, ◌-◌, ◌/◌, ◌%◌, Bool, true, false, cond, not, ◌&&◌, ◌||◌, ℤ, is_some, Some, None, Ok, Option, Result, ◌==◌, nat_le, nat_lt}
use Rattle.std.proofs.Common.{to_z, of_z}
use Rattle.std.specs.Int.{w8, w32}
use Rattle.fault.specs.declared.operand.OperandFault.TheVariants as F
use Rattle.machine.specs.declared.mode.Mode.{Mode}
use Rattle.machine.specs.Scales.{scale_number}
use Rattle.instruction.specs.declared.made.Instruction.{Instruction}
use Rattle.instruction.specs.Getters.{displ_bytes}
use Rattle.policy.specs.Lowest.{lowest}
use Rattle.record.specs.declared.op.RegisterRange.{RegisterRange}
use Rattle.gather.specs.declared.memory.Address.{Address}
use Rattle.gather.specs.declared.memory.Out.{Out}
use Rattle.gather.specs.declared.memory.Out.TheVariants.{Nothing, Byte, Full, Wrong}
use Rattle.gather.specs.declared.parts.Displ.{Displ}
use Rattle.gather.specs.declared.parts.Displ.TheVariants.{Absent, Size1, Size4, RipRelSize4Target32, RipRelSize4Target64}
use Rattle.gather.specs.declared.parts.RmPart.{RmPart}
use Rattle.gather.specs.declared.refusal.Refusal.{Refusal}
use Rattle.machine.specs.Modes.{is64}
use Rattle.gather.specs.Address.{in_range}
use Rattle.gather.specs.Parts.{plain_part, blank, refusing, then}

-- the general registers that addresses of this many bytes are made of
abbrev pub address_bank : ℕ → RegisterRange
address_bank bytes = cond (bytes == 8) record { lo = 53; hi = 68 } record { lo = 37; hi = 52 }

abbrev pub is_rip : ℕ → Bool
is_rip n = n == 69 || n == 70

-- the index registers: the vector bank that the record names, else those of the base
abbrev pub index_bank : ℕ → Option RegisterRange → RegisterRange
index_bank bytes (Some r) = r
index_bank bytes None = address_bank bytes

abbrev pub base_allowed : Mode → ℕ → ℕ → Bool
base_allowed m bytes n = n == 0 || (is_rip n || in_range m (address_bank bytes) n)

abbrev pub index_allowed : Mode → ℕ → Option RegisterRange → ℕ → Bool
index_allowed m bytes vsib n = n == 0 || in_range m (index_bank bytes vsib) n

-- addresses of 64 bits only in mode 64, registers of their banks, a size that there is
abbrev pub checked_of : (wide base index two : Bool) → Result (Unit {0}) (Refusal RmPart)
checked_of wide base index two =
    cond wide (refusing F.Address64Outside64 blank) (
    cond (not base) (refusing F.RegisterRange blank) (
    cond (not index) (refusing F.RegisterRange blank) (
    cond two (refusing F.Size blank) (Ok tt))))

unfoldable pub mem_checked : Mode → ℕ → Option RegisterRange → Instruction → Result (Unit {0}) (Refusal RmPart)
mem_checked m bytes vsib i =
    checked_of (not (is64 m) && bytes == 8) (base_allowed m bytes i.memory.base.number) (index_allowed m bytes vsib i.memory.index.number) (displ_bytes i.memory.displ_size == 2)

-- an address that counts from the next instruction
abbrev pub rip_part : ℕ → ℕ → Result RmPart (Refusal RmPart)
rip_part base target =
    cond (base == 70) (Ok (plain_part 0 5 (RipRelSize4Target64 target))) (
    cond (nat_lt 4294967295 target) (refusing F.EipTarget (plain_part 0 5 (RipRelSize4Target32 0))) (Ok (plain_part 0 5 (RipRelSize4Target32 (target % 4294967296)))))

unfoldable pub rip_mem : Mode → Bool → Instruction → Result RmPart (Refusal RmPart)
rip_mem m must i =
    cond (not (i.memory.index.number == 0)) (refusing F.RipIndex blank) (
    cond (not (scale_number i.memory.scale == 0)) (refusing F.RipScale blank) (
    cond (not (is64 m)) (refusing F.RipOutside64 blank) (
    cond must (refusing F.RipWithSib blank) (
    rip_part i.memory.base.number i.mem_displ))))

-- the displacement within 32 signed bits, or for 32-bit addresses unsigned too
unfoldable pub displ_checked : ℕ → ℕ → Result (Unit {0}) (Refusal RmPart)
displ_checked bytes d =
    cond (bytes == 8)
    (cond (nat_le 2147483648 d && nat_lt d 18446744071562067968) (refusing F.DisplacementI32 blank) (Ok tt))
    (cond (nat_le 4294967296 d && nat_lt d 18446744071562067968) (refusing F.Displacement32 blank) (Ok tt))

-- neither base nor index: with a SIB byte where one is wanted or mode 64 would read RIP
unfoldable pub offset_mem : Mode → Bool → Option RegisterRange → ℕ → ℕ → Result RmPart (Refusal RmPart)
offset_mem m must vsib scale d =
    cond (is_some vsib) (refusing F.VsibOffsetOnly blank) (
    cond (is64 m || (not (scale == 0) || must))
    (Ok record { mode = 0; rm = 4; b = 0; x = 0; v2 = 0; sib = Some record { scale = scale; index = 4; base = 5 }; displ = Size4 (d % 4294967296) })
    (Ok (plain_part 0 5 (Size4 (d % 4294967296)))))

-- how the displacement goes out in the size asked, over a base of this number in its bank
abbrev pub sized_out : (ℤ → ℤ) → ℕ → ℕ → ℕ → Result Out (Refusal RmPart)
sized_out f bytes d size =
    cond (size == 1) (elim (lowest f (to_z w32 (d % 4294967296))) [ Some v ↦ Ok (Byte v) | None ↦ Ok Full ]) (
    cond (size == bytes) (Ok Full) (
    cond (size == 0) (cond (d == 0) (Ok Nothing) (refusing F.DisplacementNotZero blank)) (Ok Wrong)))

-- with no base always whole; a base whose low bits are 101 needs a displacement
abbrev pub displ_out : (ℤ → ℤ) → ℕ → Option ℕ → ℕ → ℕ → Result Out (Refusal RmPart)
displ_out f bytes None d size = Ok Full
displ_out f bytes (Some base) d size =
    cond (size == 0 && base % 8 == 5) (cond (d == 0) (sized_out f bytes d 1) (refusing F.DisplacementNotZero blank)) (sized_out f bytes d size)

-- ModRM.mod of a displacement
abbrev pub out_mode : Option ℕ → Out → ℕ
out_mode base Nothing = 0
out_mode base (Byte v) = 1
out_mode None Full = 0
out_mode (Some base) Full = 2
out_mode base Wrong = 0

abbrev pub out_displ : ℕ → Out → Displ
out_displ d Nothing = Absent
out_displ d (Byte v) = Size1 (of_z w8 v)
out_displ d Full = Size4 (d % 4294967296)
out_displ d Wrong = Absent

-- the number of a register in its bank, none where there is none
abbrev pub bank_number : RegisterRange → ℕ → Option ℕ
bank_number r n = cond (n == 0) None (Some (n - r.lo))

abbrev pub low3_or : ℕ → Option ℕ → ℕ
low3_or d (Some n) = n % 8
low3_or d None = d

abbrev pub bit3 : Option ℕ → ℕ
bit3 (Some n) = n / 8 % 2
bit3 None = 0

abbrev pub bit4 : Option ℕ → ℕ
bit4 (Some n) = n / 16
bit4 None = 0

-- a SIB byte is there for an index, a scale, a base whose low bits are 100, none, or where the record wants one
abbrev pub wants_sib : Bool → Option ℕ → Option ℕ → ℕ → Bool
wants_sib must base index scale = is_some index || (low3_or 4 base == 4 || (not (scale == 0) || must))

abbrev pub is_stack_pointer : ℕ → Bool
is_stack_pointer n = n == 41 || n == 57

-- the parts of base and index, with the displacement that goes out
abbrev pub address_part : Bool → Option ℕ → Option ℕ → ℕ → ℕ → Out → RmPart
address_part must base index scale d out =
    cond (wants_sib must base index scale)
    record { mode = out_mode base out; rm = 4; b = bit3 base; x = bit3 index; v2 = bit4 index; sib = Some record { scale = scale; index = low3_or 4 index; base = low3_or 5 base }; displ = out_displ d out }
    record { mode = out_mode base out; rm = low3_or 0 base; b = bit3 base; x = 0; v2 = 0; sib = None; displ = out_displ d out }

-- what ESP or RSP as index leaves: SIB has its scale and no more
abbrev pub stack_left : Option ℕ → ℕ → ℕ → Out → RmPart
stack_left base scale d out =
    record { mode = out_mode base out; rm = 4; b = 0; x = 0; v2 = 0; sib = Some record { scale = scale; index = 0; base = 0 }; displ = out_displ d out }

abbrev pub is_wrong : Out → Bool
is_wrong Nothing = false
is_wrong (Byte v) = false
is_wrong Full = false
is_wrong Wrong = true

-- a size that is not the address's is refused at the end, and hides a stack pointer as index
abbrev pub address_answer : Out → RmPart → Bool → RmPart → Result RmPart (Refusal RmPart)
address_answer out part stack left =
    cond (is_wrong out) (refusing F.SizeOfAddress (cond stack left part)) (cond stack (refusing F.StackPointerIndex left) (Ok part))

-- base and index by their numbers in their banks, and what else the address consists of
unfoldable pub address_of : ℕ → Option RegisterRange → Instruction → Address
address_of bytes vsib i =
    record { base = bank_number (address_bank bytes) i.memory.base.number; index = bank_number (index_bank bytes vsib) i.memory.index.number; stack = is_stack_pointer i.memory.index.number; scale = scale_number i.memory.scale; displ = i.mem_displ; size = displ_bytes i.memory.displ_size }

unfoldable pub based_mem : (ℤ → ℤ) → ℕ → Bool → Address → Result RmPart (Refusal RmPart)
based_mem f bytes must a =
    then (displ_out f bytes a.base a.displ a.size) (λ out.
    address_answer out (address_part must a.base a.index a.scale a.displ out) a.stack (stack_left a.base a.scale a.displ out))

-- neither base nor index
unfoldable pub is_bare : Instruction → Bool
is_bare i = i.memory.base.number == 0 && i.memory.index.number == 0

-- the displacement's range, then an offset alone, then base and index
unfoldable pub ranged_mem : (ℤ → ℤ) → Mode → ℕ → Bool → Option RegisterRange → Instruction → Result RmPart (Refusal RmPart)
ranged_mem f m bytes must vsib i =
    then (displ_checked bytes i.mem_displ) (λ _.
    cond (is_bare i)
    (offset_mem m must vsib (scale_number i.memory.scale) i.mem_displ)
    (based_mem f bytes must (address_of bytes vsib i)))

-- a memory operand with an address of this many bytes, 4 or 8; others are refused by the checks of the registers
unfoldable pub mem : (ℤ → ℤ) → Mode → ℕ → Bool → Option RegisterRange → Instruction → Result RmPart (Refusal RmPart)
mem f m bytes must vsib i =
    then (mem_checked m bytes vsib i) (λ _. cond (is_rip i.memory.base.number) (rip_mem m must i) (ranged_mem f m bytes must vsib i))
