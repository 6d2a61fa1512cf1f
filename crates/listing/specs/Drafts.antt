use Rattle.std.specs.Prelude.{ℕ, ◌-◌, Bool, true, false, cond, not, ◌&&◌, ◌||◌, [], ◌∷◌, Some, None, Ok, Err, Option, Result, ◌==◌, nat_le, nat_lt, slice_set, is_some}
use Rattle.machine.specs.Banks.{bank_of}
use Rattle.machine.specs.declared.bank.Bank.{Bank}
use Rattle.machine.specs.declared.bank.Bank.TheVariants.{Xmm, Ymm, Zmm}
use Rattle.machine.specs.declared.opmask.Opmask.TheVariants.{Unmasked}
use Rattle.machine.specs.declared.register.Register.{Register}
use Rattle.machine.specs.declared.rounding.RoundingControl.TheVariants.{Unstated}
use Rattle.machine.specs.declared.scale.Scale.{Scale}
use Rattle.machine.specs.declared.scale.Scale.TheVariants.{By1, By2, By4, By8}
use Rattle.machine.specs.declared.segment.Segment.{Segment}
use Rattle.machine.specs.Opmasks.{opmask_number}
use Rattle.machine.specs.Roundings.{rounding_number}
use Rattle.listing.specs.declared.draft.Draft.{Draft}
use Rattle.listing.specs.declared.draft.Setting.{Setting}
use Rattle.listing.specs.declared.draft.Setting.TheVariants as setting
use Rattle.listing.specs.declared.draft.Stage.{Stage}
use Rattle.listing.specs.declared.draft.Stage.TheVariants as stage
use Rattle.listing.specs.declared.line.Line.{Line}
use Rattle.listing.specs.declared.line.Line.TheVariants as line
use Rattle.listing.specs.declared.line_fault.ListingFault.{ListingFault}
use Rattle.listing.specs.declared.line_fault.Wanted.{Wanted}
use Rattle.listing.specs.declared.line_fault.Wanted.TheVariants as wanted
use Rattle.listing.specs.declared.request.Address.{Address}
use Rattle.listing.specs.declared.request.Decorations.{Decorations}
use Rattle.listing.specs.declared.request.Operand.{Operand}
use Rattle.listing.specs.declared.request.Operand.TheVariants as operand
use Rattle.listing.specs.declared.request.Request.{Request}
use Rattle.listing.specs.Counts.{count_of}
use Rattle.listing.specs.Requests.{asked_of}
use Rattle.listing.specs.declared.token.Decoration.{Decoration}
use Rattle.listing.specs.declared.token.Decoration.TheVariants.{Mask, Zeroing, Broadcast, Sae, Rounding}

-- a number behind a minus, by two's complement; none past 2 ^ 63
abbrev pub negated_of : ℕ → Option ℕ
negated_of n = cond (n == 0) (Some 0) (cond (nat_le n 9223372036854775808) (Some (18446744073709551616 - n)) None)

-- the scale that a factor is
abbrev pub factor_of : ℕ → Option Scale
factor_of n = cond (n == 1) (Some By1) (cond (n == 2) (Some By2) (cond (n == 4) (Some By4) (cond (n == 8) (Some By8) None)))

abbrev pub is_number : Operand → Bool
is_number (operand.Number n) = true
is_number (operand.Register x) = false
is_number operand.Memory = false

-- what is asked for with one operand more, at the first free place; the fifth is a number
abbrev pub put_of : Request → Operand → ℕ → Option Request
put_of a g c = cond (nat_lt 4 (count_of a.operands) || (count_of a.operands == 4 && not (is_number g))) None
    (Some record { number = a.number; column = c; operands = slice_set a.operands (count_of a.operands) (Some g); memory = a.memory; dress = a.dress })

-- the decorations with one more
abbrev pub dressed_of : Decorations → Decoration → Option Decorations
dressed_of d (Mask k) = cond (opmask_number d.opmask == 0) (Some record { opmask = k; zeroing = d.zeroing; broadcast = d.broadcast; sae = d.sae; rounding = d.rounding }) None
dressed_of d Zeroing = Some record { opmask = d.opmask; zeroing = true; broadcast = d.broadcast; sae = d.sae; rounding = d.rounding }
dressed_of d Broadcast = Some record { opmask = d.opmask; zeroing = d.zeroing; broadcast = true; sae = d.sae; rounding = d.rounding }
dressed_of d Sae = Some record { opmask = d.opmask; zeroing = d.zeroing; broadcast = d.broadcast; sae = true; rounding = d.rounding }
dressed_of d (Rounding k) = cond (rounding_number d.rounding == 0) (Some record { opmask = d.opmask; zeroing = d.zeroing; broadcast = d.broadcast; sae = d.sae; rounding = k }) None

-- memory in a segment, with nothing else said yet
abbrev pub memory_at : Option Segment → Address
memory_at s = record { segment = s; base = None; index = None; scale = By1; displ = None; size = None }

-- an address with an index
abbrev pub indexed_of : Address → Register → Option Address
indexed_of m x = cond (is_some m.index) None (Some record { segment = m.segment; base = m.base; index = Some x; scale = m.scale; displ = m.displ; size = m.size })

-- whether a bank is one of vectors
abbrev pub vector_bank : Option Bank → Bool
vector_bank (Some Xmm) = true
vector_bank (Some Ymm) = true
vector_bank (Some Zmm) = true
vector_bank _ = false

abbrev pub vector : Register → Bool
vector x = vector_bank (bank_of x.number)

-- an address with a register that has no factor: a vector is the index, else the first is the base
abbrev pub held_of : Address → Register → Option Address
held_of m x = cond (vector x || is_some m.base) (indexed_of m x)
    (Some record { segment = m.segment; base = Some x; index = m.index; scale = m.scale; displ = m.displ; size = m.size })

-- an address with a displacement
abbrev pub moved_of : Address → ℕ → Option Address
moved_of m d = cond (is_some m.displ) None (Some record { segment = m.segment; base = m.base; index = m.index; scale = m.scale; displ = Some d; size = m.size })

-- what is expected at a stage
abbrev pub wanted_of : Stage → Wanted
wanted_of stage.First = wanted.First
wanted_of stage.Mode = wanted.Mode
wanted_of stage.Address = wanted.Address
wanted_of (stage.Done s) = wanted.End
wanted_of stage.Operand = wanted.Operand
wanted_of stage.Negative = wanted.Number
wanted_of (stage.Register x) = wanted.Comma
wanted_of (stage.Open s) = wanted.Open
wanted_of (stage.Term m) = wanted.Term
wanted_of (stage.Held x) = wanted.Target
wanted_of stage.Factor = wanted.Factor
wanted_of stage.Close = wanted.Close
wanted_of stage.Memory = wanted.Comma
wanted_of stage.Size = wanted.Size
wanted_of stage.After = wanted.Comma

abbrev pub setting_of : Setting → Line
setting_of (setting.Mode m) = line.Mode m
setting_of (setting.At n) = line.At n

-- what is wrong where the next thing is not the expected one
abbrev pub fault_of : Draft → ListingFault
fault_of d = record { column = d.column; wanted = wanted_of d.stage }

abbrev pub ended_asked : Draft → Result (Option Line) ListingFault
ended_asked d = Ok (Some (line.Asked (asked_of d.request)))

-- the line, where it may end at a stage
abbrev pub ended_of : Draft → Stage → Result (Option Line) ListingFault
ended_of d stage.First = Ok None
ended_of d (stage.Done s) = Ok (Some (setting_of s))
ended_of d stage.Operand = cond (count_of d.request.operands == 0) (ended_asked d) (Err (fault_of d))
ended_of d (stage.Register x) = ended_asked d
ended_of d stage.Memory = ended_asked d
ended_of d stage.After = ended_asked d
ended_of d _ = Err (fault_of d)

abbrev pub finish_of : Draft → Result (Option Line) ListingFault
finish_of d = ended_of d d.stage

-- nothing said yet
abbrev pub empty_draft : Draft
empty_draft = record {
  stage = stage.First;
  column = 0;
  request = record {
    number = 0;
    column = 0;
    operands = None ∷ None ∷ None ∷ None ∷ None ∷ [];
    memory = None;
    dress = record { opmask = Unmasked; zeroing = false; broadcast = false; sae = false; rounding = Unstated };
  };
}
