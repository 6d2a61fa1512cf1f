-- Bytes by place, and numbers of several bytes.
use Rattle.std.specs.Prelude.{ℕ, zero, suc, ◌+◌, ◌*◌, Bool, cond, List, [], ◌∷◌, take, Ok, Err, Result, ◌==◌}
use Rattle.fault.specs.declared.reader.ReadFault.{ReadFault}
use Rattle.fault.specs.declared.reader.ReadFault.TheVariants.{Ends, Differs}

-- a refusal ends the reading
abbrev pub then : {X Y : Type 0} → Result X ReadFault → (X → Result Y ReadFault) → Result Y ReadFault
then (Ok x) f = f x
then (Err e) f = Err e

-- x, where the bytes are those of the record
abbrev pub holding : {X : Type 0} → Bool → X → Result X ReadFault
holding b x = cond b (Ok x) (Err Differs)

abbrev pub required : Bool → Result (Unit {0}) ReadFault
required b = cond b (Ok tt) (Err Differs)

-- at most fifteen bytes are looked at
unfoldable pub window : List ℕ → List ℕ
window l = take 15 l

-- the byte at a place
unfoldable pub byte_at : List ℕ → ℕ → Result ℕ ReadFault
byte_at [] n = Err Ends
byte_at (b ∷ bs) zero = Ok b
byte_at (b ∷ bs) (suc n) = byte_at bs n

-- behind a byte that has to be this one; 0 for none
abbrev pub fixed_at : List ℕ → ℕ → ℕ → Result ℕ ReadFault
fixed_at l n byte = cond (byte == 0) (Ok n) (then (byte_at l n) (λ b. holding (b == byte) (n + 1)))

-- numbers of two, four and eight bytes, the lowest first
abbrev pub two_at : List ℕ → ℕ → Result ℕ ReadFault
two_at l n = then (byte_at l n) (λ a. then (byte_at l (n + 1)) (λ b. Ok (a + 256 * b)))

unfoldable pub four_at : List ℕ → ℕ → Result ℕ ReadFault
four_at l n = then (two_at l n) (λ a. then (two_at l (n + 2)) (λ b. Ok (a + 65536 * b)))

abbrev pub eight_at : List ℕ → ℕ → Result ℕ ReadFault
eight_at l n = then (four_at l n) (λ a. then (four_at l (n + 4)) (λ b. Ok (a + 4294967296 * b)))

-- the number of so many bytes, 0, 1, 2, 4 or 8, that l begins with
unfoldable pub number_of : List ℕ → ℕ → Result ℕ ReadFault
number_of l size = cond (size == 0) (Ok 0) (cond (size == 1) (byte_at l 0) (cond (size == 2) (two_at l 0) (cond (size == 4) (four_at l 0) (eight_at l 0))))
