use Rattle.std.specs.Prelude.{ℕ, List, [], ◌∷◌, Option}
use Rattle.machine.specs.Codes.{look}
use Rattle.machine.specs.declared.place.Place.{Place}
use Rattle.machine.specs.declared.place.Place.TheVariants.{Op0, Op1, Op2, Op3, Op4}

-- the number of an operand place, 0 to 4
abbrev pub place_number : Place → ℕ
place_number Op0 = 0
place_number Op1 = 1
place_number Op2 = 2
place_number Op3 = 3
place_number Op4 = 4

abbrev pub places : List Place
places = Op0 ∷ Op1 ∷ Op2 ∷ Op3 ∷ Op4 ∷ []

-- the value of a number
abbrev pub place_named : ℕ → Option Place
place_named = look place_number places
