-- The lowest signed byte that a meaning takes to a displacement.
use Rattle.std.specs.Ordering.{int_eq}
use Rattle.std.specs.Prelude.{◌≡◌, ℕ, zero, suc, true, cond, ℤ, pos, negsuc, ◌+ℤ◌, ◌≤ℤ◌, is_some, Some, None, Option, ◌≢◌}

-- v is a signed byte
abbrev pub SignedByte : ℤ → Type 0
SignedByte v = (negsuc 127 ≤ℤ v) × (v ≤ℤ pos 127)

-- d is a signed number of 32 bits
abbrev pub Displacement : ℤ → Type 0
Displacement d = (negsuc 2147483647 ≤ℤ d) × (d ≤ℤ pos 2147483647)

-- the first of the k numbers from v up that f takes to d
unfoldable pub lowest_from : ℕ → (ℤ → ℤ) → ℤ → ℤ → Option ℤ
lowest_from zero f d v = None
lowest_from (suc k) f d v = cond (int_eq (f v) d) (Some v) (lowest_from k f d (v +ℤ pos 1))

-- the first of the 256 signed bytes from -128 up that f takes to d
unfoldable pub lowest : (ℤ → ℤ) → ℤ → Option ℤ
lowest f d = lowest_from 256 f d (negsuc 127)

-- r is a signed byte that f takes to d, and below every other such byte; none where no signed byte stands for d
abbrev pub Lowest : (ℤ → ℤ) → ℤ → Option ℤ → Type 0
Lowest f d (Some v) = SignedByte v × (f v ≡ d) × ((u : ℤ) → SignedByte u → f u ≡ d → v ≤ℤ u)
Lowest f d None = (u : ℤ) → SignedByte u → f u ≢ d

-- whatever the bytes mean, shortening answers the lowest byte that stands for the displacement, and no other answer is that
abbrev pub ShorteningIsLowest : Type 0
ShorteningIsLowest = (f : ℤ → ℤ) (d : ℤ) → Lowest f d (lowest f d) × ((r : Option ℤ) → Lowest f d r → r ≡ lowest f d)

-- some signed byte stands for d
abbrev pub Reached : (ℤ → ℤ) → ℤ → Type 0
Reached f d = (v : ℤ) × SignedByte v × (f v ≡ d)

-- whatever the bytes mean, shortening answers a byte exactly where some signed byte stands for the displacement
abbrev pub ShortensWhatIsReached : Type 0
ShortensWhatIsReached = (f : ℤ → ℤ) (d : ℤ) → (is_some (lowest f d) ≡ true → Reached f d) × (Reached f d → is_some (lowest f d) ≡ true)
