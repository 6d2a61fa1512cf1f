use Rattle.std.specs.Prelude.{ℕ, ◌+◌, cond, List, ℤ, Some, None, Ok, Err, Option, Result, ◌==◌, slice_index_or}
use Rattle.instruction.specs.declared.raw.RawInstruction.{RawInstruction}
use Rattle.record.specs.declared.head.EvexHead.{EvexHead}
use Rattle.record.specs.declared.head.Head.{Head}
use Rattle.record.specs.declared.head.Head.TheVariants.{Legacy, Vex, Evex}
use Rattle.record.specs.declared.head.LegacyHead.{LegacyHead}
use Rattle.record.specs.declared.head.VexHead.{VexHead}
use Rattle.record.specs.declared.op.Op.{Op}
use Rattle.record.specs.declared.op.Op.TheVariants.{ModRmRm, ModRmRmMemOnly, Vsib, O, ModRmReg, RegEmbed8, Reg, Hx, Ib, Id, Iq, J}
use Rattle.record.specs.declared.op.Operands.{Operands}
use Rattle.record.specs.declared.op.RegisterRange.{RegisterRange}
use Rattle.record.specs.declared.raw.RawRecord.{RawRecord}
use Rattle.text.specs.Line.{nothing, numbers_of}
use Rattle.text.specs.Numbers.{byte_of, word_of, long_of, small_of, flag_of, kind_of, code_size_of}
use Rattle.text.specs.declared.case.Case.{Case}
use Rattle.instruction.specs.declared.settings.RawSettings.{RawSettings}
use Rattle.text.specs.declared.case_fault.CaseFault.{CaseFault}
use Rattle.text.specs.declared.numbers.Numbers.{Numbers}

-- the number of a place
abbrev pub nth : Numbers → ℕ → ℤ
nth ns p = (slice_index_or ns.all p nothing).0

abbrev pub settings_of : Numbers → RawSettings
settings_of ns = record { prevent_vex2 = byte_of (nth ns 2); vex_wig = byte_of (nth ns 3); vex_lig = byte_of (nth ns 4); evex_wig = byte_of (nth ns 5); evex_lig = byte_of (nth ns 6) }

abbrev pub legacy_of : Numbers → LegacyHead
legacy_of ns = record { table_byte1 = byte_of (nth ns 17); table_byte2 = byte_of (nth ns 18); mandatory_prefix = byte_of (nth ns 19) }

abbrev pub vex_of : Numbers → VexHead
vex_of ns = record { table = byte_of (nth ns 17); last_byte = byte_of (nth ns 18); mask_w_l = byte_of (nth ns 19); mask_l = byte_of (nth ns 20); w1 = flag_of (nth ns 21) }

abbrev pub evex_of : Numbers → EvexHead
evex_of ns = record { table = byte_of (nth ns 17); p1_bits = byte_of (nth ns 18); ll_bits = byte_of (nth ns 19); mask_w = byte_of (nth ns 20); mask_ll = byte_of (nth ns 21) }

abbrev pub head_of : Numbers → Head
head_of ns = cond (long_of (nth ns 7) == 0) (Legacy (legacy_of ns)) (cond (long_of (nth ns 7) == 1) (Vex (vex_of ns)) (Evex (evex_of ns)))

abbrev pub range_of : Numbers → ℕ → RegisterRange
range_of ns p = record { lo = byte_of (nth ns p); hi = byte_of (nth ns (p + 1)) }

-- the operand whose kind stands at a place
abbrev pub operand_of : Numbers → ℕ → Option Op
operand_of ns p =
    cond (long_of (nth ns p) == 1) (Some (ModRmRm (range_of ns (p + 1)))) (
    cond (long_of (nth ns p) == 2) (Some (ModRmRmMemOnly (flag_of (nth ns (p + 1))))) (
    cond (long_of (nth ns p) == 3) (Some (Vsib (range_of ns (p + 1)))) (
    cond (long_of (nth ns p) == 4) (Some O) (
    cond (long_of (nth ns p) == 5) (Some (ModRmReg (range_of ns (p + 1)))) (
    cond (long_of (nth ns p) == 6) (Some (RegEmbed8 (range_of ns (p + 1)))) (
    cond (long_of (nth ns p) == 7) (Some (Reg (byte_of (nth ns (p + 1))))) (
    cond (long_of (nth ns p) == 8) (Some (Hx (range_of ns (p + 1)))) (
    cond (long_of (nth ns p) == 9) (Some (Ib (kind_of (nth ns (p + 1))))) (
    cond (long_of (nth ns p) == 10) (Some (Id (kind_of (nth ns (p + 1))))) (
    cond (long_of (nth ns p) == 11) (Some Iq) (
    cond (long_of (nth ns p) == 12) (Some (J (kind_of (nth ns (p + 1))) (byte_of (nth ns (p + 2))))) None)))))))))))

abbrev pub operands_of : Numbers → Operands
operands_of ns = record { op0 = operand_of ns 22; op1 = operand_of ns 25; op2 = operand_of ns 28; op3 = operand_of ns 31; op4 = operand_of ns 34 }

abbrev pub record_of : Numbers → RawRecord
record_of ns = record {
  head = head_of ns;
  op_code = word_of (nth ns 8);
  group_index = small_of (nth ns 9);
  rm_group_index = small_of (nth ns 10);
  enc_flags3 = record { bits = word_of (nth ns 11) };
  op_size = code_size_of (nth ns 12);
  addr_size = code_size_of (nth ns 13);
  is_2byte_opcode = flag_of (nth ns 14);
  n = byte_of (nth ns 15);
  nb = byte_of (nth ns 16);
  operands = operands_of ns;
}

abbrev pub instruction_of : Numbers → RawInstruction
instruction_of ns = record {
  code_size = byte_of (nth ns 37);
  segment = byte_of (nth ns 38);
  lock = flag_of (nth ns 39);
  repe = flag_of (nth ns 40);
  repne = flag_of (nth ns 41);
  base = byte_of (nth ns 42);
  index = byte_of (nth ns 43);
  scale = byte_of (nth ns 44);
  displ_size = byte_of (nth ns 45);
  mem_displ = long_of (nth ns 46);
  immediate = word_of (nth ns 47);
  kind0 = byte_of (nth ns 48);
  kind1 = byte_of (nth ns 49);
  kind2 = byte_of (nth ns 50);
  kind3 = byte_of (nth ns 51);
  reg0 = byte_of (nth ns 52);
  reg1 = byte_of (nth ns 53);
  reg2 = byte_of (nth ns 54);
  reg3 = byte_of (nth ns 55);
  opmask = byte_of (nth ns 56);
  zeroing = flag_of (nth ns 57);
  broadcast = flag_of (nth ns 58);
  sae = flag_of (nth ns 59);
  rounding = byte_of (nth ns 60);
}

-- the case that 61 numbers stand for
abbrev pub case_of : Numbers → Case
case_of ns = record { mode = long_of (nth ns 0); rip = long_of (nth ns 1); settings = settings_of ns; «record» = record_of ns; instruction = instruction_of ns }

-- the case of a line
abbrev pub parse_of : List ℕ → Result Case CaseFault
parse_of l = elim (numbers_of l) [ Ok ns ↦ Ok (case_of ns) | Err e ↦ Err e ]
