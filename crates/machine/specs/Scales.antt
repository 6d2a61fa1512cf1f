use Rattle.std.specs.Prelude.{ℕ, List, [], ◌∷◌, Option}
use Rattle.machine.specs.Codes.{look}
use Rattle.machine.specs.declared.scale.Scale.{Scale}
use Rattle.machine.specs.declared.scale.Scale.TheVariants.{By1, By2, By4, By8}

-- the power of two of a scale, 0 to 3
abbrev pub scale_number : Scale → ℕ
scale_number By1 = 0
scale_number By2 = 1
scale_number By4 = 2
scale_number By8 = 3

abbrev pub scales : List Scale
scales = By1 ∷ By2 ∷ By4 ∷ By8 ∷ []

-- the value of a number
abbrev pub scale_named : ℕ → Option Scale
scale_named = look scale_number scales
