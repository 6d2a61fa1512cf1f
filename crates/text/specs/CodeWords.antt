use Rattle.std.specs.Prelude.{ℕ, true, cond, ◌&&◌, List, length, negsuc, Some, None, codes, Option, ◌==◌}
use Rattle.std.specs.Str.{bytes_eq}
use Rattle.numerals.specs.declared.Radix.TheVariants.{Hexadecimal}
use Rattle.text.specs.Values.{whole_of, small_word}
use Rattle.text.specs.declared.code_part.CodePart.{CodePart}

-- an opcode in hexadecimal; four digits are two bytes
abbrev pub code_named : List ℕ → Option CodePart
code_named w = elim (whole_of Hexadecimal w 0xFFFFFFFF) [
  | Some c ↦ Some record { op_code = c; is_2byte = length w == 4; group = negsuc 0; rm_group = negsuc 0 }
  | None ↦ None
]

-- an opcode with one word more, by its key, mark and argument
abbrev pub code_word : CodePart → List ℕ → Option ℕ → List ℕ → Option CodePart
code_word c k None a = cond (bytes_eq k (codes "2byte")) (Some (record c { is_2byte = true })) None
code_word c k (Some m) a =
    cond (m == 47 && length k == 0) (elim (small_word a) [ Some v ↦ Some (record c { group = v }) | None ↦ None ]) (
    cond (m == 61 && bytes_eq k (codes "rm")) (elim (small_word a) [ Some v ↦ Some (record c { rm_group = v }) | None ↦ None ]) None)
