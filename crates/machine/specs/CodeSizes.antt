use Rattle.std.specs.Prelude.{ℕ, List, [], ◌∷◌, Option}
use Rattle.machine.specs.Codes.{look}
use Rattle.machine.specs.declared.code_size.CodeSize.{CodeSize}
use Rattle.machine.specs.declared.code_size.CodeSize.TheVariants.{Unknown, Code16, Code32, Code64}

-- the number of a code size, 0 to 3
abbrev pub size_number : CodeSize → ℕ
size_number Unknown = 0
size_number Code16 = 1
size_number Code32 = 2
size_number Code64 = 3

abbrev pub sizes : List CodeSize
sizes = Unknown ∷ Code16 ∷ Code32 ∷ Code64 ∷ []

-- the value of a number
abbrev pub size_named : ℕ → Option CodeSize
size_named = look size_number sizes
