use Rattle.std.specs.Prelude.{ℕ, Bool, cond, List, [], ◌∷◌, take}
use Rattle.encoder.specs.declared.line.Line.{Line}

-- the bytes used
unfoldable pub used : Line → List ℕ
used l = take l.count l.bytes

-- a byte that is there or not
abbrev pub opt : Bool → ℕ → List ℕ
opt b x = cond b (x ∷ []) []
