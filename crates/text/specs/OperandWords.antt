use Rattle.std.specs.Prelude.{ℕ, ◌+◌, ◌-◌, true, false, cond, ◌&&◌, List, ◌++◌, length, replicate, take, drop, Some, None, codes, Option, ◌==◌, nat_le, slice_index}
use Rattle.std.specs.List.{position}
use Rattle.std.specs.Str.{bytes_eq}
use Rattle.machine.specs.declared.op_kind.OpKind.{OpKind}
use Rattle.machine.specs.declared.op_kind.OpKind.TheVariants.{NearBranch16, NearBranch32, NearBranch64, Immediate8, Immediate8Second, Immediate16, Immediate32, Immediate64, Immediate8to16, Immediate8to32, Immediate8to64, Immediate32to64}
use Rattle.machine.specs.OpKinds.{kind_named}
use Rattle.machine.specs.Registers.{register_named}
use Rattle.numerals.specs.declared.Radix.TheVariants.{Decimal}
use Rattle.record.specs.declared.op.Op.{Op}
use Rattle.record.specs.declared.op.Op.TheVariants.{ModRmRm, ModRmRmMemOnly, Vsib, O, ModRmReg, RegEmbed8, Reg, Hx, Ib, Id, Iq, J}
use Rattle.record.specs.declared.op.RegisterRange.{RegisterRange}
use Rattle.text.specs.Values.{whole_of}

abbrev from_to : ℕ → ℕ → RegisterRange
from_to l h = record { lo = l; hi = h }

-- a bank of registers, of a vector bank the first 16 or all 32
abbrev pub range_named : List ℕ → Option RegisterRange
range_named w =
    cond (bytes_eq w (codes "r8")) (Some (from_to 1 20)) (
    cond (bytes_eq w (codes "r16")) (Some (from_to 21 36)) (
    cond (bytes_eq w (codes "r32")) (Some (from_to 37 52)) (
    cond (bytes_eq w (codes "r64")) (Some (from_to 53 68)) (
    cond (bytes_eq w (codes "seg")) (Some (from_to 71 76)) (
    cond (bytes_eq w (codes "k")) (Some (from_to 173 180)) (
    cond (bytes_eq w (codes "xmm")) (Some (from_to 77 92)) (
    cond (bytes_eq w (codes "ymm")) (Some (from_to 109 124)) (
    cond (bytes_eq w (codes "zmm")) (Some (from_to 141 156)) (
    cond (bytes_eq w (codes "xmm32")) (Some (from_to 77 108)) (
    cond (bytes_eq w (codes "ymm32")) (Some (from_to 109 140)) (
    cond (bytes_eq w (codes "zmm32")) (Some (from_to 141 172)) None)))))))))))

-- two register numbers with a `-` between them
abbrev pub range_numbers : List ℕ → Option RegisterRange
range_numbers w = elim (position (λ b. b == 45) w) [
  | Some d ↦ elim (whole_of Decimal (take d w) 255) [
    | Some l ↦ elim (whole_of Decimal (drop (d + 1) w) 255) [ Some h ↦ Some (from_to l h) | None ↦ None ]
    | None ↦ None
  ]
  | None ↦ None
]

abbrev pub range_word : List ℕ → Option RegisterRange
range_word w = elim (range_named w) [ Some r ↦ Some r | None ↦ range_numbers w ]

-- any operand kind, by its number
abbrev pub kind_code : List ℕ → Option OpKind
kind_code w = elim (whole_of Decimal w 255) [ Some n ↦ kind_named n | None ↦ None ]

-- `#` and a number
abbrev kind_numbered : List ℕ → Option OpKind
kind_numbered w = cond (slice_index w 0 == 35) (kind_code (drop 1 w)) None

-- the kind that an immediate expects
abbrev pub imm_kind : List ℕ → Option OpKind
imm_kind w =
    cond (bytes_eq w (codes "8")) (Some Immediate8) (
    cond (bytes_eq w (codes "8_2nd")) (Some Immediate8Second) (
    cond (bytes_eq w (codes "16")) (Some Immediate16) (
    cond (bytes_eq w (codes "32")) (Some Immediate32) (
    cond (bytes_eq w (codes "64")) (Some Immediate64) (
    cond (bytes_eq w (codes "8to16")) (Some Immediate8to16) (
    cond (bytes_eq w (codes "8to32")) (Some Immediate8to32) (
    cond (bytes_eq w (codes "8to64")) (Some Immediate8to64) (
    cond (bytes_eq w (codes "32to64")) (Some Immediate32to64) (kind_numbered w)))))))))

-- the kind that a branch expects
abbrev pub branch_kind : List ℕ → Option OpKind
branch_kind w =
    cond (bytes_eq w (codes "16")) (Some NearBranch16) (
    cond (bytes_eq w (codes "32")) (Some NearBranch32) (
    cond (bytes_eq w (codes "64")) (Some NearBranch64) (kind_numbered w)))

-- a name of two to five bytes, filled up with zeros
abbrev pub five : List ℕ → Option (List ℕ)
five w = cond (nat_le 2 (length w) && nat_le (length w) 5) (Some (w ++ replicate (5 - length w) 0)) None

-- a register by its name, or by its number
abbrev pub fixed_word : List ℕ → Option ℕ
fixed_word w = elim (five w) [
  | Some name ↦ elim (register_named name) [ Some r ↦ Some r.number | None ↦ whole_of Decimal w 255 ]
  | None ↦ whole_of Decimal w 255
]

-- an operand without an argument
abbrev pub plain_op : List ℕ → Option Op
plain_op w =
    cond (bytes_eq w (codes "mem")) (Some (ModRmRmMemOnly false)) (
    cond (bytes_eq w (codes "mem_sib")) (Some (ModRmRmMemOnly true)) (
    cond (bytes_eq w (codes "moffs")) (Some O) (
    cond (bytes_eq w (codes "iq")) (Some Iq) None)))

-- an operand over a range of registers
abbrev pub ranged_op : List ℕ → RegisterRange → Option Op
ranged_op k r =
    cond (bytes_eq k (codes "rm")) (Some (ModRmRm r)) (
    cond (bytes_eq k (codes "vsib")) (Some (Vsib r)) (
    cond (bytes_eq k (codes "reg")) (Some (ModRmReg r)) (
    cond (bytes_eq k (codes "embed")) (Some (RegEmbed8 r)) (
    cond (bytes_eq k (codes "vvvv")) (Some (Hx r)) None))))

-- the size of a branch's displacement, by its word or as `j` and a number
abbrev pub branch_size : List ℕ → Option ℕ
branch_size k =
    cond (bytes_eq k (codes "rel8")) (Some 1) (
    cond (bytes_eq k (codes "rel16")) (Some 2) (
    cond (bytes_eq k (codes "rel32")) (Some 4) (
    cond (slice_index k 0 == 106) (whole_of Decimal (drop 1 k) 255) None)))

abbrev pub branch_op : List ℕ → List ℕ → Option Op
branch_op k a = elim (branch_size k) [ Some s ↦ elim (branch_kind a) [ Some x ↦ Some (J x s) | None ↦ None ] | None ↦ None ]

abbrev pub imm_op : List ℕ → List ℕ → Option Op
imm_op k a =
    cond (bytes_eq k (codes "ib")) (elim (imm_kind a) [ Some x ↦ Some (Ib x) | None ↦ None ]) (
    cond (bytes_eq k (codes "id")) (elim (imm_kind a) [ Some x ↦ Some (Id x) | None ↦ None ]) None)

-- an operand with an argument
abbrev pub marked_op : List ℕ → List ℕ → Option Op
marked_op k a =
    cond (bytes_eq k (codes "fixed")) (elim (fixed_word a) [ Some n ↦ Some (Reg n) | None ↦ None ])
    (elim (range_word a) [
      | Some r ↦ ranged_op k r
      | None ↦ elim (branch_op k a) [ Some o ↦ Some o | None ↦ imm_op k a ]
    ])

-- the operand of a word, by its key, mark and argument
abbrev pub operand_word : List ℕ → Option ℕ → List ℕ → Option Op
operand_word k None a = plain_op k
operand_word k (Some m) a = cond (m == 58) (marked_op k a) None
