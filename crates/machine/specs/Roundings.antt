use Rattle.std.specs.Prelude.{ℕ, List, [], ◌∷◌, Option}
use Rattle.machine.specs.Codes.{look}
use Rattle.machine.specs.declared.rounding.RoundingControl.{RoundingControl}
use Rattle.machine.specs.declared.rounding.RoundingControl.TheVariants.{Unstated, ToNearest, Down, Up, TowardZero}

-- the number of a rounding, 0 to 4
abbrev pub rounding_number : RoundingControl → ℕ
rounding_number Unstated = 0
rounding_number ToNearest = 1
rounding_number Down = 2
rounding_number Up = 3
rounding_number TowardZero = 4

abbrev pub roundings : List RoundingControl
roundings = Unstated ∷ ToNearest ∷ Down ∷ Up ∷ TowardZero ∷ []

-- the value of a number
abbrev pub rounding_named : ℕ → Option RoundingControl
rounding_named = look rounding_number roundings
