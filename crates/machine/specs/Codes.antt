use Rattle.std.specs.Prelude.{ℕ, cond, List, [], ◌∷◌, Some, None, Option, ◌==◌}

-- the value of the list that has the number n, none where no value has it
abbrev pub look : {X : Type 0} → (X → ℕ) → List X → ℕ → Option X
look code [] n = None
look code (x ∷ xs) n = cond (n == code x) (Some x) (look code xs n)
