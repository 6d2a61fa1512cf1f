-- The address size of a memory operand, and which registers a mode allows of a range.
use Rattle.std.specs.Prelude.{ℕ, ◌+◌, Bool, cond, not, ◌&&◌, ◌||◌, ◌==◌, nat_le, nat_lt}
use Rattle.machine.specs.declared.code_size.CodeSize.{CodeSize}
use Rattle.machine.specs.declared.code_size.CodeSize.TheVariants.{Unknown, Code16, Code32, Code64}
use Rattle.machine.specs.declared.mode.Mode.{Mode}
use Rattle.machine.specs.Modes.{is64, mode_bytes}
use Rattle.instruction.specs.declared.made.Instruction.{Instruction}
use Rattle.instruction.specs.Getters.{displ_bytes}
use Rattle.record.specs.declared.op.RegisterRange.{RegisterRange}

-- the bytes of an address in a code size that is stated, and in a mode where it is not
abbrev pub code_bytes : Mode → CodeSize → ℕ
code_bytes m Unknown = mode_bytes m
code_bytes m Code16 = 2
code_bytes m Code32 = 4
code_bytes m Code64 = 8

-- the bytes of an address that a register is part of, 0 where it tells nothing
abbrev pub register_bytes : ℕ → ℕ
register_bytes n =
    cond (nat_le 21 n && nat_le n 36) 2 (cond ((nat_le 37 n && nat_le n 52) || n == 69) 4 (cond ((nat_le 53 n && nat_le n 68) || n == 70) 8 0))

-- two registers together: registers of different sizes give a size that no address has
abbrev pub joined_bytes : ℕ → ℕ → ℕ
joined_bytes a b = cond (a == b) a (a + b)

-- the bytes of a memory operand's address: by its registers, else by the displacement's size, else by the code size
abbrev pub address_chosen : (registers displ code : ℕ) → ℕ
address_chosen registers displ code = cond (not (registers == 0)) registers (cond (nat_le 2 displ) displ code)

unfoldable pub address_bytes : Mode → Instruction → ℕ
address_bytes m i =
    address_chosen (joined_bytes (register_bytes i.memory.base.number) (register_bytes i.memory.index.number)) (displ_bytes i.memory.displ_size) (code_bytes m i.code_size)

-- the last register of a range that a mode allows: outside mode 64 the first eight
abbrev pub range_last : Mode → RegisterRange → ℕ
range_last m r = cond (not (is64 m) && nat_lt (r.lo + 7) r.hi) (r.lo + 7) r.hi

abbrev pub in_range : Mode → RegisterRange → ℕ → Bool
in_range m r n = nat_le r.lo n && nat_le n (range_last m r)
