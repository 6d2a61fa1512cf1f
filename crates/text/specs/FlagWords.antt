use Rattle.std.specs.Prelude.{ℕ, cond, List, take, drop, Some, None, codes, Option, ◌==◌, bit_or}
use Rattle.std.specs.Str.{bytes_eq}
use Rattle.machine.specs.declared.code_size.CodeSize.{CodeSize}
use Rattle.machine.specs.declared.code_size.CodeSize.TheVariants.{Code16, Code32, Code64}
use Rattle.numerals.specs.declared.Radix.TheVariants.{Decimal, Hexadecimal}
use Rattle.text.specs.Values.{whole_of}
use Rattle.text.specs.declared.code_part.FlagPart.{FlagPart}

-- the bit of a flag's word
abbrev pub flag_weight : List ℕ → Option ℕ
flag_weight w =
    cond (bytes_eq w (codes "default64")) (Some 0x1000) (
    cond (bytes_eq w (codes "fwait")) (Some 0x8000) (
    cond (bytes_eq w (codes "m16_32")) (Some 0x10000) (
    cond (bytes_eq w (codes "m64")) (Some 0x20000) (
    cond (bytes_eq w (codes "bcst")) (Some 0x4000000) (
    cond (bytes_eq w (codes "round")) (Some 0x8000000) (
    cond (bytes_eq w (codes "sae")) (Some 0x10000000) (
    cond (bytes_eq w (codes "mask")) (Some 0x20000000) (
    cond (bytes_eq w (codes "zero")) (Some 0x40000000) (
    cond (bytes_eq w (codes "mask_required")) (Some 0x80000000) None)))))))))

-- a width by its number of bits
abbrev pub width_named : List ℕ → Option CodeSize
width_named w =
    cond (bytes_eq w (codes "16")) (Some Code16) (
    cond (bytes_eq w (codes "32")) (Some Code32) (
    cond (bytes_eq w (codes "64")) (Some Code64) None))

-- the flags with one word more that has no argument
abbrev pub flag_name : FlagPart → List ℕ → Option FlagPart
flag_name f w =
    cond (bytes_eq (take 2 w) (codes "op"))
    (elim (width_named (drop 2 w)) [ Some s ↦ Some (record f { op_size = s }) | None ↦ None ])
    (cond (bytes_eq (take 4 w) (codes "addr"))
    (elim (width_named (drop 4 w)) [ Some s ↦ Some (record f { addr_size = s }) | None ↦ None ])
    (elim (flag_weight w) [ Some b ↦ Some (record f { bits = bit_or f.bits b }) | None ↦ None ]))

-- the flags with one word more that has an argument
abbrev pub flag_value : FlagPart → List ℕ → List ℕ → Option FlagPart
flag_value f k a =
    cond (bytes_eq k (codes "bits")) (elim (whole_of Hexadecimal a 0xFFFFFFFF) [ Some b ↦ Some (record f { bits = bit_or f.bits b }) | None ↦ None ]) (
    cond (bytes_eq k (codes "n")) (elim (whole_of Decimal a 255) [ Some v ↦ Some (record f { n = v }) | None ↦ None ]) (
    cond (bytes_eq k (codes "nb")) (elim (whole_of Decimal a 255) [ Some v ↦ Some (record f { nb = v }) | None ↦ None ]) None))

-- the flags with one word more, by its key, mark and argument
abbrev pub flag_word : FlagPart → List ℕ → Option ℕ → List ℕ → Option FlagPart
flag_word f k None a = flag_name f k
flag_word f k (Some m) a = cond (m == 61) (flag_value f k a) None
