use Rattle.std.specs.Prelude.{ℕ, List, [], ◌∷◌, Option}
use Rattle.machine.specs.Codes.{look}
use Rattle.machine.specs.declared.opmask.Opmask.{Opmask}
use Rattle.machine.specs.declared.opmask.Opmask.TheVariants.{Unmasked, K1, K2, K3, K4, K5, K6, K7}

-- the number of an opmask, 0 to 7
abbrev pub opmask_number : Opmask → ℕ
opmask_number Unmasked = 0
opmask_number K1 = 1
opmask_number K2 = 2
opmask_number K3 = 3
opmask_number K4 = 4
opmask_number K5 = 5
opmask_number K6 = 6
opmask_number K7 = 7

abbrev pub opmasks : List Opmask
opmasks = Unmasked ∷ K1 ∷ K2 ∷ K3 ∷ K4 ∷ K5 ∷ K6 ∷ K7 ∷ []

-- the value of a number
abbrev pub opmask_named : ℕ → Option Opmask
opmask_named = look opmask_number opmasks
