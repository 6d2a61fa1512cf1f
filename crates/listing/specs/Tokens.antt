use Rattle.std.specs.Prelude.{ℕ, Bool, true, false, cond, ◌&&◌, ◌||◌, List, Some, None, Option, ◌==◌, nat_le, option_map}
use Rattle.machine.specs.Banks.{bank_of, bank_index}
use Rattle.machine.specs.Opmasks.{opmask_named}
use Rattle.machine.specs.declared.bank.Bank.{Bank}
use Rattle.machine.specs.declared.bank.Bank.TheVariants as bank
use Rattle.listing.specs.Making.{named_of}
use Rattle.listing.specs.declared.token.Decoration.{Decoration}
use Rattle.listing.specs.declared.token.Decoration.TheVariants.{Mask}
use Rattle.listing.specs.declared.token.Mark.{Mark as Sign}
use Rattle.listing.specs.declared.token.Mark.TheVariants.{Open, Close, Plus, Minus, Times, Comma, Colon, Slash}

-- a digit, a letter or a low line
abbrev pub word_byte : ℕ → Bool
word_byte b = (nat_le 48 b && nat_le b 57) || ((nat_le 65 b && nat_le b 90) || ((nat_le 97 b && nat_le b 122) || b == 95))

-- a space, a tab or a byte that ends a line
abbrev pub blank_byte : ℕ → Bool
blank_byte b = b == 32 || (b == 9 || (b == 13 || b == 10))

-- the mark that a byte is
abbrev pub mark_of : ℕ → Option Sign
mark_of b =
    cond (b == 91) (Some Open) (
    cond (b == 93) (Some Close) (
    cond (b == 43) (Some Plus) (
    cond (b == 45) (Some Minus) (
    cond (b == 42) (Some Times) (
    cond (b == 44) (Some Comma) (
    cond (b == 58) (Some Colon) (
    cond (b == 47) (Some Slash) None)))))))

-- whether a bank is that of masks
abbrev pub mask_bank : Option Bank → Bool
mask_bank (Some bank.Mask) = true
mask_bank _ = false

-- the mask K1 to K7 that a name is
abbrev pub mask_of : List ℕ → Option Decoration
mask_of w = elim (named_of w) [
  | Some x ↦ cond (mask_bank (bank_of x.number)) (cond (bank_index x.number == 0) None (option_map Mask (opmask_named (bank_index x.number)))) None
  | None ↦ None
]
