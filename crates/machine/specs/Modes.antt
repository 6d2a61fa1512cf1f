use Rattle.std.specs.Prelude.{ℕ, Bool, true, false, List, [], ◌∷◌, Option}
use Rattle.machine.specs.Codes.{look}
use Rattle.machine.specs.declared.mode.Mode.{Mode}
use Rattle.machine.specs.declared.mode.Mode.TheVariants.{Bits16, Bits32, Bits64}

-- the bits of a mode
abbrev pub mode_number : Mode → ℕ
mode_number Bits16 = 16
mode_number Bits32 = 32
mode_number Bits64 = 64

abbrev pub modes : List Mode
modes = Bits16 ∷ Bits32 ∷ Bits64 ∷ []

-- the value of a number
abbrev pub mode_named : ℕ → Option Mode
mode_named = look mode_number modes

-- whether the code is of 64 bits
abbrev pub is64 : Mode → Bool
is64 Bits16 = false
is64 Bits32 = false
is64 Bits64 = true

-- the bytes of an address in a mode
abbrev pub mode_bytes : Mode → ℕ
mode_bytes Bits16 = 2
mode_bytes Bits32 = 4
mode_bytes Bits64 = 8
