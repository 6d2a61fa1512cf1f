use Rattle.std.specs.Prelude.{◌≡◌, ℕ, ◌+◌, ◌-◌, ◌<◌, cond, Some, None, Option, ◌==◌, nat_lt}
use Rattle.machine.specs.declared.bank.Bank.{Bank}
use Rattle.machine.specs.declared.bank.Bank.TheVariants.{Gpr8, Gpr16, Gpr32, Gpr64, Ip, Seg, Xmm, Ymm, Zmm, Mask}

-- the number of a bank's first register
abbrev pub bank_first : Bank → ℕ
bank_first Gpr8 = 1
bank_first Gpr16 = 21
bank_first Gpr32 = 37
bank_first Gpr64 = 53
bank_first Ip = 69
bank_first Seg = 71
bank_first Xmm = 77
bank_first Ymm = 109
bank_first Zmm = 141
bank_first Mask = 173

-- how many registers a bank has
abbrev pub bank_count : Bank → ℕ
bank_count Gpr8 = 20
bank_count Gpr16 = 16
bank_count Gpr32 = 16
bank_count Gpr64 = 16
bank_count Ip = 2
bank_count Seg = 6
bank_count Xmm = 32
bank_count Ymm = 32
bank_count Zmm = 32
bank_count Mask = 8

-- the bank of a register; 0, which stands for no register, and what no register has as its number are in none
abbrev pub bank_of : ℕ → Option Bank
bank_of n =
    cond (n == 0) None (
    cond (nat_lt n 21) (Some Gpr8) (
    cond (nat_lt n 37) (Some Gpr16) (
    cond (nat_lt n 53) (Some Gpr32) (
    cond (nat_lt n 69) (Some Gpr64) (
    cond (nat_lt n 71) (Some Ip) (
    cond (nat_lt n 77) (Some Seg) (
    cond (nat_lt n 109) (Some Xmm) (
    cond (nat_lt n 141) (Some Ymm) (
    cond (nat_lt n 173) (Some Zmm) (
    cond (nat_lt n 181) (Some Mask) None))))))))))

-- the place of a number in a bank, 0 where there is none
abbrev pub place_in : Option Bank → ℕ → ℕ
place_in (Some b) n = n - bank_first b
place_in None n = 0

-- the place of a register in its bank
abbrev pub bank_index : ℕ → ℕ
bank_index n = place_in (bank_of n) n

-- from a register to its bank and place, and back to the register
abbrev pub BankThere : Type 0
BankThere = (n : ℕ) (b : Bank) → bank_of n ≡ Some b → (bank_index n < bank_count b) × (bank_first b + bank_index n ≡ n)

-- from a bank and a place to the register, and back to both
abbrev pub BankBack : Type 0
BankBack = (b : Bank) (i : ℕ) → i < bank_count b → (bank_of (bank_first b + i) ≡ Some b) × (bank_index (bank_first b + i) ≡ i)
