-- A register's bank and place in it, and the way back.
use Rattle.std.proofs.Common.{◌≡◌, ℕ, ◌+◌, ◌-◌, ◌<◌, ◌≤◌, Some, None, Option, ap, ◌∙◌, arith}
use Rattle.std.proofs.lemmas.Bool.Decides.{nat_tests}
use Rattle.machine.specs.declared.bank.Bank.{Bank}
use Rattle.machine.specs.declared.bank.Bank.TheVariants.{Gpr8, Gpr16, Gpr32, Gpr64, Ip, Seg, Xmm, Ymm, Zmm, Mask}
use Rattle.machine.specs.Banks.{bank_first, bank_count, bank_of, place_in, bank_index, BankThere, BankBack}

-- a register lies within the run of its bank
pub bank_run : (n : ℕ) (b : Bank) → bank_of n ≡ Some b → (bank_first b ≤ n) × (n < bank_first b + bank_count b)
bank_run n Gpr8 e = (grind (arith, nat_tests), grind (arith, nat_tests))
bank_run n Gpr16 e = (grind (arith, nat_tests), grind (arith, nat_tests))
bank_run n Gpr32 e = (grind (arith, nat_tests), grind (arith, nat_tests))
bank_run n Gpr64 e = (grind (arith, nat_tests), grind (arith, nat_tests))
bank_run n Ip e = (grind (arith, nat_tests), grind (arith, nat_tests))
bank_run n Seg e = (grind (arith, nat_tests), grind (arith, nat_tests))
bank_run n Xmm e = (grind (arith, nat_tests), grind (arith, nat_tests))
bank_run n Ymm e = (grind (arith, nat_tests), grind (arith, nat_tests))
bank_run n Zmm e = (grind (arith, nat_tests), grind (arith, nat_tests))
bank_run n Mask e = (grind (arith, nat_tests), grind (arith, nat_tests))

-- and every number of the run is in the bank
pub bank_holds : (n : ℕ) (b : Bank) → bank_first b ≤ n → n < bank_first b + bank_count b → bank_of n ≡ Some b
bank_holds n Gpr8 l h = grind (arith, nat_tests)
bank_holds n Gpr16 l h = grind (arith, nat_tests)
bank_holds n Gpr32 l h = grind (arith, nat_tests)
bank_holds n Gpr64 l h = grind (arith, nat_tests)
bank_holds n Ip l h = grind (arith, nat_tests)
bank_holds n Seg l h = grind (arith, nat_tests)
bank_holds n Xmm l h = grind (arith, nat_tests)
bank_holds n Ymm l h = grind (arith, nat_tests)
bank_holds n Zmm l h = grind (arith, nat_tests)
bank_holds n Mask l h = grind (arith, nat_tests)

pub index_is : (n : ℕ) (b : Bank) → bank_of n ≡ Some b → bank_index n ≡ n - bank_first b
index_is n b e = ap (λ (o : Option Bank). place_in o n) e

pub bank_there : BankThere
bank_there n b e =
    let run = bank_run n b e in
    let is = index_is n b e in
    (omega arith, omega arith)

pub bank_back : BankBack
bank_back b i h =
    let here : bank_of (bank_first b + i) ≡ Some b = bank_holds (bank_first b + i) b (omega arith) (omega arith) in
    (here, index_is (bank_first b + i) b here ∙ omega arith)

pub index_none : (n : ℕ) → bank_of n ≡ None → bank_index n ≡ 0
index_none n e = ap (λ (o : Option Bank). place_in o n) e

-- a place within a bank is a known register
pub bank_fits : (b : Bank) (i : ℕ) → i < bank_count b → bank_first b + i ≤ 180
bank_fits Gpr8 i h = omega arith
bank_fits Gpr16 i h = omega arith
bank_fits Gpr32 i h = omega arith
bank_fits Gpr64 i h = omega arith
bank_fits Ip i h = omega arith
bank_fits Seg i h = omega arith
bank_fits Xmm i h = omega arith
bank_fits Ymm i h = omega arith
bank_fits Zmm i h = omega arith
bank_fits Mask i h = omega arith
