use Rattle.std.specs.Prelude.{◌≡◌, ℕ, ◌+◌, ◌-◌, ◌<◌, ◌≤◌, Bool, true, false, cond, ◌&&◌, Some, None, Option, nat_le, nat_lt}
use Rattle.machine.specs.declared.byte_code.ByteCode.{ByteCode}

-- the number, 0 to 15, by which an 8-bit register is written: SPL to DIL share 4 to 7 with AH to BH
abbrev pub byte_number : ℕ → ℕ
byte_number n = cond (nat_le 9 n) (n - 5) (n - 1)

-- SPL, BPL, SIL and DIL are written with a REX prefix only
abbrev pub byte_rex : ℕ → Bool
byte_rex n = nat_le 9 n && nat_le n 12

-- AH, CH, DH and BH are written without one only
abbrev pub byte_high : ℕ → Bool
byte_high n = nat_le 5 n && nat_le n 8

-- how a register of the 8-bit bank is written
abbrev pub byte_code : ℕ → Option ByteCode
byte_code n = cond (nat_le 1 n && nat_le n 20) (Some record { number = byte_number n; rex = byte_rex n; high = byte_high n }) None

-- the 8-bit register that a number stands for, with a REX prefix and without
abbrev pub byte_register : ℕ → Bool → ℕ
byte_register k rex = cond (nat_lt k 4) (k + 1) (cond (nat_lt k 8 && cond rex false true) (k + 1) (k + 5))

-- an 8-bit register is read back under every prefix that it can be written with
abbrev pub ByteThere : Type 0
ByteThere = (n : ℕ) (rex : Bool) → 1 ≤ n → n ≤ 20 → (byte_rex n ≡ true → rex ≡ true) → (byte_high n ≡ true → rex ≡ false) → (byte_number n < 16) × (byte_register (byte_number n) rex ≡ n)

-- the register that a number stands for is written by that number, and can be under that prefix
abbrev pub ByteBack : Type 0
ByteBack = (k : ℕ) (rex : Bool) → k < 16 → (1 ≤ byte_register k rex) × (byte_register k rex ≤ 20) × (byte_number (byte_register k rex) ≡ k) × (byte_rex (byte_register k rex) ≡ true → rex ≡ true) × (byte_high (byte_register k rex) ≡ true → rex ≡ false)
