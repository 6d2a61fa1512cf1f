use Rattle.std.specs.Prelude.{◌≡◌, ℕ, ◌-◌, ◌<◌, cond, ◌&&◌, List, ◌∷◌, ◌++◌, length, take, drop, Some, None, Option, ◌==◌, ◌≢◌, nat_lt, slice_index}

-- a line without such a byte at its end
abbrev pub less_last : List ℕ → ℕ → List ℕ
less_last l b = cond (nat_lt 0 (length l) && slice_index l (length l - 1) == b) (take (length l - 1) l) l

-- a line without such a byte at its start
abbrev pub less_first : List ℕ → ℕ → List ℕ
less_first l b = cond (nat_lt 0 (length l) && slice_index l 0 == b) (drop 1 l) l

-- no such byte stands in a text
abbrev Free : List ℕ → ℕ → Type 0
Free l b = (k : ℕ) → k < length l → slice_index l k ≢ b

-- a line is cut at the first such byte, and whole where there is none
abbrev pub Cut : List ℕ → ℕ → List ℕ → Option (List ℕ) → Type 0
Cut l b x (Some y) = (l ≡ x ++ b ∷ y) × Free x b
Cut l b x None = (l ≡ x) × Free x b
