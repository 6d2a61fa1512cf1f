use Rattle.std.specs.Prelude.{ℕ, ◌+◌, cond, List, Some, None, Ok, Err, codes, Option, Result, ◌==◌, nat_lt, slice_set}
use Rattle.std.specs.Str.{bytes_eq}
use Rattle.record.specs.declared.head.Head as heads
use Rattle.record.specs.declared.head.Head.TheVariants.{Legacy, Vex, Evex}
use Rattle.record.specs.declared.op.Op.{Op}
use Rattle.text.specs.Words.{key_of, mark_of, arg_of}
use Rattle.text.specs.CodeWords.{code_named, code_word}
use Rattle.text.specs.FlagWords.{flag_word}
use Rattle.text.specs.HeadWords.{head_named, head_word}
use Rattle.text.specs.OperandWords.{operand_word}
use Rattle.text.specs.declared.draft.Draft.{Draft}
use Rattle.text.specs.declared.draft.Section.{Section}
use Rattle.text.specs.declared.draft.Section.TheVariants.{Name, Head, OpCode, Flags, Operands}
use Rattle.text.specs.declared.row.Span.{Span}
use Rattle.text.specs.declared.row_fault.RowFault.{RowFault}
use Rattle.text.specs.declared.row_fault.Wanted as wants
use Rattle.text.specs.declared.row_fault.Wanted.TheVariants as want

-- a draft that is changed in place, where what it was given fits
abbrev pub kept : Option (Unit {0}) → Draft → Option Draft
kept (Some u) d = Some d
kept None d = None

abbrev pub read : Result (Unit {0}) RowFault → Draft → Result Draft RowFault
read (Ok u) d = Ok d
read (Err f) d = Err f

abbrev pub more_words : ℕ → ℕ
more_words n = cond (nat_lt n 255) (n + 1) 255

abbrev head_wanted : heads.Head → wants.Wanted
head_wanted (Legacy h) = want.LegacyWord
head_wanted (Vex h) = want.VexWord
head_wanted (Evex h) = want.EvexWord

abbrev section_wanted : Section → ℕ → heads.Head → wants.Wanted
section_wanted Name n h = want.Name
section_wanted Head n h = cond (n == 0) want.Head (head_wanted h)
section_wanted OpCode n h = cond (n == 0) want.OpCode want.CodeWord
section_wanted Flags n h = want.FlagWord
section_wanted Operands n h = want.OperandWord

-- what may stand next
abbrev pub wanted_of : Draft → wants.Wanted
wanted_of d = section_wanted d.section d.words d.head

abbrev pub with_name : Draft → Span → Draft
with_name d p = record d { name = record { from = cond (d.words == 0) p.from d.name.from; to = p.to } }

abbrev pub with_head : Draft → List ℕ → Option Draft
with_head d w = elim (cond (d.words == 0) (head_named w) (head_word d.head (key_of w) (mark_of w) (arg_of w))) [
  | Some h ↦ Some (record d { head = h })
  | None ↦ None
]

abbrev pub with_code : Draft → List ℕ → Option Draft
with_code d w = elim (cond (d.words == 0) (code_named w) (code_word d.code (key_of w) (mark_of w) (arg_of w))) [
  | Some c ↦ Some (record d { code = c })
  | None ↦ None
]

abbrev pub with_flags : Draft → List ℕ → Option Draft
with_flags d w = elim (flag_word d.flags (key_of w) (mark_of w) (arg_of w)) [
  | Some f ↦ Some (record d { flags = f })
  | None ↦ None
]

-- with an operand or none put at the next place, none past the fifth
abbrev placed : Draft → Option Op → Option Draft
placed d x = cond (nat_lt d.words 5) (Some (record d { operands = slice_set d.operands d.words x })) None

-- with an operand, or with an empty place for `-`
abbrev pub with_operand : Draft → List ℕ → Option Draft
with_operand d w =
    cond (bytes_eq w (codes "-")) (placed d None)
    (elim (operand_word (key_of w) (mark_of w) (arg_of w)) [ Some x ↦ placed d (Some x) | None ↦ None ])

abbrev next_section : Section → ℕ → Option Section
next_section Name n = cond (nat_lt 0 n) (Some Head) None
next_section Head n = cond (nat_lt 0 n) (Some OpCode) None
next_section OpCode n = cond (nat_lt 0 n) (Some Flags) None
next_section Flags n = Some Operands
next_section Operands n = None

-- with one word more
abbrev pub counted : Draft → Draft
counted d = record d { words = more_words d.words }

-- after a bar, in the next section
abbrev pub bar_after : Draft → Option Draft
bar_after d = elim (next_section d.section d.words) [ Some s ↦ Some (record d { section = s; words = 0 }) | None ↦ None ]

abbrev section_word : Section → Draft → List ℕ → Span → Option Draft
section_word Name d w p = Some (with_name d p)
section_word Head d w p = with_head d w
section_word OpCode d w p = with_code d w
section_word Flags d w p = with_flags d w
section_word Operands d w p = with_operand d w

abbrev pub word_after : Draft → List ℕ → Span → Option Draft
word_after d w p = cond (bytes_eq w (codes "|")) (bar_after d) (elim (section_word d.section d w p) [ Some e ↦ Some (counted e) | None ↦ None ])

-- a draft with the word that stands at some places of the line
abbrev pub step_of : Draft → List ℕ → Span → Result Draft RowFault
step_of d w p = elim (word_after d w p) [ Some e ↦ Ok e | None ↦ Err record { column = p.from + 1; wanted = wanted_of d } ]
