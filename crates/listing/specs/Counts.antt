use Rattle.std.specs.Prelude.{ℕ, List, length, Option, take_while, is_some}

-- how many operands there are before the first place that has none
abbrev pub count_of : {A : Type 0} → List (Option A) → ℕ
count_of l = length (take_while is_some l)
