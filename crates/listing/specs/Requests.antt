use Rattle.std.specs.Prelude.{ℕ, List, length, map, Some, None, Option, slice_index_or, ◌≡◌}
use Rattle.std.specs.Option.{option_map}
use Rattle.std.specs.List.{range_with_len}
use Rattle.machine.specs.Opmasks.{opmask_number}
use Rattle.machine.specs.Roundings.{rounding_number}
use Rattle.machine.specs.Scales.{scale_number}
use Rattle.machine.specs.Segments.{segment_number}
use Rattle.machine.specs.declared.register.Register.{Register as Named}
use Rattle.machine.specs.declared.segment.Segment.{Segment}
use Rattle.listing.specs.declared.line.Asked.{Asked}
use Rattle.listing.specs.declared.line.Dress.{Dress}
use Rattle.listing.specs.declared.line.Given.{Given}
use Rattle.listing.specs.declared.line.Given.TheVariants as given
use Rattle.listing.specs.declared.line.Line.{Line}
use Rattle.listing.specs.declared.line.Line.TheVariants as line
use Rattle.listing.specs.declared.line.Memory.{Memory as Place}
use Rattle.listing.specs.declared.request.Address.{Address}
use Rattle.listing.specs.declared.request.Decorations.{Decorations}
use Rattle.listing.specs.declared.request.Operand.{Operand}
use Rattle.listing.specs.declared.request.Operand.TheVariants as operand
use Rattle.listing.specs.declared.request.Request.{Request}
use Rattle.listing.specs.Counts.{count_of}

-- the number of a register, 0 where there is none
abbrev pub register_number : Option Named → ℕ
register_number (Some x) = x.number
register_number None = 0

-- the number of a segment, 0 where there is none
abbrev pub segment_of : Option Segment → ℕ
segment_of (Some s) = segment_number s
segment_of None = 0

abbrev pub given_of : Operand → Given
given_of (operand.Register x) = given.Register x.number
given_of (operand.Number n) = given.Number n
given_of operand.Memory = given.Memory

abbrev pub given_at : Request → ℕ → Option Given
given_at r k = option_map given_of (slice_index_or r.operands k None)

abbrev pub givens_of : Request → List (Option Given)
givens_of r = map (given_at r) (range_with_len 0 5)

abbrev pub numbers_of_memory : Address → Place
numbers_of_memory m = record { segment = segment_of m.segment; base = register_number m.base; index = register_number m.index; scale = scale_number m.scale; displ = m.displ; size = m.size }

abbrev pub numbers_of_dress : Decorations → Dress
numbers_of_dress d = record { opmask = opmask_number d.opmask; zeroing = d.zeroing; broadcast = d.broadcast; sae = d.sae; rounding = rounding_number d.rounding }

-- what is asked for, in numbers
abbrev pub asked_of : Request → Asked
asked_of r = record { number = r.number; count = count_of r.operands; column = r.column; operands = givens_of r; memory = option_map numbers_of_memory r.memory; dress = numbers_of_dress r.dress }

-- a line's numbers are those of registers, segments, scales, masks and roundings that there are, and of its five places
abbrev pub Names : Line → Type 0
Names (line.Asked a) = (r : Request) × (length r.operands ≡ 5) × (a ≡ asked_of r)
Names (line.Mode m) = Unit
Names (line.At n) = Unit
