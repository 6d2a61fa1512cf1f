use Rattle.std.specs.Prelude.{ℕ, zero, suc, ◌+◌, false, cond, List, length, replicate, negsuc, None, Ok, Err, Option, Result, nat_le, slice_index_or, slice_range}
use Rattle.machine.specs.declared.code_size.CodeSize.TheVariants.{Unknown}
use Rattle.record.specs.declared.head.Head.TheVariants.{Legacy}
use Rattle.record.specs.declared.op.Op.{Op}
use Rattle.record.specs.declared.raw.RawRecord.{RawRecord}
use Rattle.text.specs.Drafts.{step_of}
use Rattle.text.specs.Words.{word_begin, word_end}
use Rattle.text.specs.declared.draft.Draft.{Draft}
use Rattle.text.specs.declared.draft.Section.{Section}
use Rattle.text.specs.declared.draft.Section.TheVariants.{Name, Head, OpCode, Flags, Operands}
use Rattle.text.specs.declared.row.Row.{Row}
use Rattle.text.specs.declared.row_fault.RowFault.{RowFault}
use Rattle.text.specs.declared.row_fault.Wanted.TheVariants.{Bar}

-- nothing said yet
abbrev pub empty_draft : Draft
empty_draft = record {
  section = Name;
  words = 0;
  name = record { from = 0; to = 0 };
  head = Legacy record { table_byte1 = 0; table_byte2 = 0; mandatory_prefix = 0 };
  code = record { op_code = 0; is_2byte = false; group = negsuc 0; rm_group = negsuc 0 };
  flags = record { bits = 0; op_size = Unknown; addr_size = Unknown; n = 1; nb = 1 };
  operands = replicate 5 None;
}

abbrev nth : Draft → ℕ → Option Op
nth d p = slice_index_or d.operands p None

abbrev raw_of : Draft → RawRecord
raw_of d = record {
  head = d.head;
  op_code = d.code.op_code;
  group_index = d.code.group;
  rm_group_index = d.code.rm_group;
  enc_flags3 = record { bits = d.flags.bits };
  op_size = d.flags.op_size;
  addr_size = d.flags.addr_size;
  is_2byte_opcode = d.code.is_2byte;
  n = d.flags.n;
  nb = d.flags.nb;
  operands = record { op0 = nth d 0; op1 = nth d 1; op2 = nth d 2; op3 = nth d 3; op4 = nth d 4 };
}

abbrev finish_in : Section → Draft → ℕ → Result Row RowFault
finish_in Name d k = Err record { column = k; wanted = Bar }
finish_in Head d k = Err record { column = k; wanted = Bar }
finish_in OpCode d k = Err record { column = k; wanted = Bar }
finish_in Flags d k = Err record { column = k; wanted = Bar }
finish_in Operands d k = Ok record { name = d.name; «record» = raw_of d }

-- the row, where all parts are there at the column k of the line's end
abbrev pub finish_of : Draft → ℕ → Result Row RowFault
finish_of d k = finish_in d.section d k

abbrev pub carry : Result Draft RowFault → (Draft → Result Draft RowFault) → Result Draft RowFault
carry (Ok d) f = f d
carry (Err e) f = Err e

-- the draft d with the words of l from `at` on, n words at most
unfoldable pub words_from : ℕ → Draft → List ℕ → ℕ → Result Draft RowFault
words_from zero d l at = Ok d
words_from (suc n) d l at =
    cond (nat_le (length l) at) (Ok d)
    (carry (step_of d (slice_range l at (word_end l at)) record { from = at; to = word_end l at }) (λ e. words_from n e l (word_begin l (word_end l at))))

-- all that the words of a line say
abbrev pub draft_of : List ℕ → Result Draft RowFault
draft_of l = words_from (length l) empty_draft l (word_begin l 0)

-- the row of a line
abbrev pub row_of : List ℕ → Result Row RowFault
row_of l = elim (draft_of l) [ Ok d ↦ finish_of d (length l + 1) | Err e ↦ Err e ]
