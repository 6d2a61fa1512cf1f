use Rattle.std.specs.Prelude.{ℕ, ◌/◌, ◌%◌, Bool, true, false, cond, ◌&&◌, List, length, Some, None, Ok, Err, Option, Result, ◌==◌, nat_lt, slice_index, slice_index_or, fold, map, is_some, unwrap_or, ◌||◌}
use Rattle.std.specs.List.{range_with_len}
use Rattle.std.specs.Char.{to_ascii_uppercase}
use Rattle.machine.specs.OpKinds.{kind_number}
use Rattle.machine.specs.Registers.{register_named}
use Rattle.machine.specs.declared.op_kind.OpKind.{OpKind}
use Rattle.machine.specs.declared.op_kind.OpKind.TheVariants as kind
use Rattle.machine.specs.declared.register.Register.{Register as Named}
use Rattle.instruction.specs.declared.raw.RawInstruction.{RawInstruction}
use Rattle.record.specs.declared.op.Op.{Op}
use Rattle.record.specs.declared.op.Op.TheVariants.{Ib, Id, Iq, J}
use Rattle.record.specs.declared.op.Operands.{Operands}
use Rattle.record.specs.Classes.{op_places}
use Rattle.listing.specs.Counts.{count_of}
use Rattle.listing.specs.declared.line.Asked.{Asked}
use Rattle.listing.specs.declared.line.Given.{Given}
use Rattle.listing.specs.declared.line.Given.TheVariants.{Register, Number, Memory}
use Rattle.listing.specs.declared.line.Memory.{Memory as Place}
use Rattle.listing.specs.declared.making.Slot.{Slot}
use Rattle.listing.specs.declared.line_fault.ListingFault.{ListingFault}
use Rattle.listing.specs.declared.line_fault.Wanted.TheVariants.{FewerOperands}

abbrev pub place_of : List ℕ → ℕ → ℕ
place_of w at = cond (nat_lt at (length w)) (to_ascii_uppercase (slice_index w at)) 0

-- a word in upper case, filled up with zeros to five places
abbrev pub padded_of : List ℕ → List ℕ
padded_of w = map (place_of w) (range_with_len 0 5)

-- the register with a name
abbrev pub named_of : List ℕ → Option Named
named_of w = cond (nat_lt 5 (length w)) None (register_named (padded_of w))

-- the kind that a number has at a record's operand: that of an immediate byte where the record expects none
abbrev pub expected_of : Option Op → OpKind
expected_of (Some (Ib k)) = k
expected_of (Some (Id k)) = k
expected_of (Some (J k s)) = k
expected_of (Some Iq) = kind.Immediate64
expected_of _ = kind.Immediate8

abbrev pub kind_of : Slot → OpKind
kind_of s = elim s.given [
  | Some g ↦ elim g [ Number n ↦ expected_of s.op | Memory ↦ kind.Memory | Register x ↦ kind.Register ]
  | None ↦ kind.Register
]

abbrev pub register_of : Option Given → ℕ
register_of (Some (Register x)) = x
register_of (Some (Number n)) = 0
register_of (Some Memory) = 0
register_of None = 0

-- whether a number of a kind stands in the displacement alone: a branch target or a second byte
abbrev pub displaced : OpKind → Bool
displaced kind.NearBranch16 = true
displaced kind.NearBranch32 = true
displaced kind.NearBranch64 = true
displaced kind.Immediate8Second = true
displaced _ = false

-- the immediate after an operand
abbrev pub imm_after : ℕ → Slot → ℕ
imm_after i s = elim s.given [
  | Some g ↦ elim g [ Number n ↦ cond (displaced (expected_of s.op)) i (n % 4294967296) | Memory ↦ i | Register x ↦ i ]
  | None ↦ i
]

-- what a number of a kind leaves in the displacement: a target, a second byte, the high half of 64 bits
abbrev pub displ_with : OpKind → ℕ → ℕ → ℕ
displ_with kind.NearBranch16 n d = n
displ_with kind.NearBranch32 n d = n
displ_with kind.NearBranch64 n d = n
displ_with kind.Immediate8Second n d = n % 256
displ_with kind.Immediate64 n d = n / 4294967296
displ_with _ n d = d

-- the displacement after an operand
abbrev pub displ_after : ℕ → Slot → ℕ
displ_after d s = elim s.given [
  | Some g ↦ elim g [ Number n ↦ displ_with (expected_of s.op) n d | Memory ↦ d | Register x ↦ d ]
  | None ↦ d
]

-- the number of a size in bytes
abbrev pub raw_size : ℕ → ℕ
raw_size s = cond (s == 4) 3 (cond (s == 8) 4 s)

-- the number of the size where none is asked for
abbrev pub usual_size : ℕ → Place → ℕ
usual_size mode m =
    cond (m.base == 69 || m.base == 70) 0 (
    cond (m.base == 0 && m.index == 0) (cond (mode == 16) 2 (cond (mode == 32) 3 4)) (
    cond (is_some m.displ) 1 0))

abbrev pub size_of : ℕ → Place → ℕ
size_of mode m = elim m.size [ Some s ↦ raw_size s | None ↦ usual_size mode m ]

abbrev pub no_memory : Place
no_memory = record { segment = 0; base = 0; index = 0; scale = 0; displ = None; size = None }

-- the memory operand, with nothing said where there is none
abbrev pub memory_of : Asked → Place
memory_of a = unwrap_or a.memory no_memory

abbrev pub slot_at : Asked → List (Option Op) → ℕ → Slot
slot_at a l k = record { given = slice_index_or a.operands k None; op = slice_index_or l k None }

-- the operands, each beside the record's at its place
abbrev pub slots_of : Asked → List (Option Op) → List Slot
slots_of a l = map (slot_at a l) (range_with_len 0 5)

-- the immediate after all operands
abbrev pub imm_of : List Slot → ℕ
imm_of l = fold imm_after 0 l

-- the displacement after all operands, where it was d at their begin
abbrev pub displ_of : ℕ → List Slot → ℕ
displ_of d l = fold displ_after d l

abbrev pub no_slot : Slot
no_slot = record { given = None; op = None }

abbrev pub kind_at : List Slot → ℕ → ℕ
kind_at l k = kind_number (kind_of (slice_index_or l k no_slot))

abbrev pub register_at : List Slot → ℕ → ℕ
register_at l k = register_of (slice_index_or l k no_slot).given

-- the fields of the instruction that is asked for, at its operands beside a record's
abbrev pub fields_of : Asked → ℕ → List Slot → RawInstruction
fields_of a mode l = record {
  code_size = 0;
  segment = (memory_of a).segment;
  lock = false;
  repe = false;
  repne = false;
  base = (memory_of a).base;
  index = (memory_of a).index;
  scale = (memory_of a).scale;
  displ_size = size_of mode (memory_of a);
  mem_displ = displ_of (unwrap_or (memory_of a).displ 0) l;
  immediate = imm_of l;
  kind0 = kind_at l 0;
  kind1 = kind_at l 1;
  kind2 = kind_at l 2;
  kind3 = kind_at l 3;
  reg0 = register_at l 0;
  reg1 = register_at l 1;
  reg2 = register_at l 2;
  reg3 = register_at l 3;
  opmask = a.dress.opmask;
  zeroing = a.dress.zeroing;
  broadcast = a.dress.broadcast;
  sae = a.dress.sae;
  rounding = a.dress.rounding;
}

-- the instruction, or a fault where the record has fewer operands
abbrev pub instruction_of : Asked → ℕ → Operands → Result RawInstruction ListingFault
instruction_of a mode o =
    cond (nat_lt (count_of (op_places o)) a.count) (Err record { column = a.column; wanted = FewerOperands })
    (Ok (fields_of a mode (slots_of a (op_places o))))
