use Rattle.std.specs.Prelude.{ℕ, List, [], ◌∷◌, Option}
use Rattle.machine.specs.Codes.{look}
use Rattle.machine.specs.declared.segment.Segment.{Segment}
use Rattle.machine.specs.declared.segment.Segment.TheVariants.{Es, Cs, Ss, Ds, Fs, Gs}

-- the register number of a segment, 71 to 76
abbrev pub segment_number : Segment → ℕ
segment_number Es = 71
segment_number Cs = 72
segment_number Ss = 73
segment_number Ds = 74
segment_number Fs = 75
segment_number Gs = 76

abbrev pub segments : List Segment
segments = Es ∷ Cs ∷ Ss ∷ Ds ∷ Fs ∷ Gs ∷ []

-- the value of a number
abbrev pub segment_named : ℕ → Option Segment
segment_named = look segment_number segments

-- the byte that overrides the segment of a memory operand
abbrev pub segment_prefix : Segment → ℕ
segment_prefix Es = 38
segment_prefix Cs = 46
segment_prefix Ss = 54
segment_prefix Ds = 62
segment_prefix Fs = 100
segment_prefix Gs = 101

-- the segment that a prefix byte names
abbrev pub prefix_segment : ℕ → Option Segment
prefix_segment = look segment_prefix segments
