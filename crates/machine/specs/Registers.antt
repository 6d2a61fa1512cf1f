use Rattle.std.specs.Prelude.{◌≡◌, ℕ, ◌+◌, Bool, true, false, cond, List, Some, None, Option, nat_le, nat_lt, refl}
use Rattle.std.proofs.Common.{leb-true}
use Rattle.machine.specs.declared.bank.Bank.{Bank}
use Rattle.machine.specs.declared.register.Register.{Register}
use Rattle.machine.specs.Banks.{bank_first, bank_count}
use Rattle.machine.specs.Bytes.{byte_register}
use Rattle.machine.specs.Names.{name_register}

abbrev pub register_told : (n : ℕ) (known : Bool) → nat_le n 180 ≡ known → Option Register
register_told n true e = Some record { number = n; known = leb-true n 180 e }
register_told n false e = None

-- the register of a number, none above 180
unfoldable pub register_of : ℕ → Option Register
register_of n = register_told n (nat_le n 180) refl

-- every register is the register of its number
abbrev pub RegisterThere : Type 0
RegisterThere = (x : Register) → register_of x.number ≡ Some x

-- and the register of a number has that number
abbrev pub RegisterBack : Type 0
RegisterBack = (n : ℕ) (x : Register) → register_of n ≡ Some x → x.number ≡ n

-- the register of a name that is filled up with zeros to five places
abbrev pub register_named : List ℕ → Option Register
register_named w = elim (name_register w) [ Some n ↦ register_of n | None ↦ None ]

-- the register at a place of a bank
abbrev pub bank_register : Bank → ℕ → Option Register
bank_register b i = cond (nat_lt i (bank_count b)) (register_of (bank_first b + i)) None

-- the 8-bit register that a number stands for, with a REX prefix and without
abbrev pub byte_numbered : ℕ → Bool → Option Register
byte_numbered k rex = cond (nat_lt k 16) (register_of (byte_register k rex)) None
