-- Fields as parts of the page.
use Rattle.std.specs.Prelude.{◌≡◌, ℕ, ◌-◌, List, take, drop}
use Rattle.reader.specs.declared.field.Field.{Field}
use Rattle.reader.specs.declared.field.Field.TheVariants as Fields
use Rattle.reader.specs.declared.field.FieldName.{FieldName}
use Rattle.reader.specs.declared.field.FieldName.TheVariants as Names
use Rattle.reader.specs.declared.reading.Layout.{Layout}

-- the bytes of the page from one place to another
abbrev pub part : List ℕ → ℕ → ℕ → List ℕ
part page from to = take (to - from) (drop from page)

-- where a field begins and ends
abbrev pub field_begin : FieldName → Layout → ℕ
field_begin Names.Prefixes l = 0
field_begin Names.Head l = l.head
field_begin Names.Opcode l = l.opcode
field_begin Names.ModRm l = l.mod_rm
field_begin Names.Displacement l = l.displacement
field_begin Names.Immediate l = l.immediate

abbrev pub field_end : FieldName → Layout → ℕ
field_end Names.Prefixes l = l.head
field_end Names.Head l = l.opcode
field_end Names.Opcode l = l.mod_rm
field_end Names.ModRm l = l.displacement
field_end Names.Displacement l = l.immediate
field_end Names.Immediate l = l.end

-- a field is the page's bytes from where it begins to where it ends, with the place of the first
abbrev pub FieldIs : Field → FieldName → List ℕ → ℕ → Type 0
FieldIs (Fields.Prefixes s at) name page to = (name ≡ Names.Prefixes) × (s.now ≡ part page at to)
FieldIs (Fields.Head s at) name page to = (name ≡ Names.Head) × (s.now ≡ part page at to)
FieldIs (Fields.Opcode s at) name page to = (name ≡ Names.Opcode) × (s.now ≡ part page at to)
FieldIs (Fields.ModRm s at) name page to = (name ≡ Names.ModRm) × (s.now ≡ part page at to)
FieldIs (Fields.Displacement s at) name page to = (name ≡ Names.Displacement) × (s.now ≡ part page at to)
FieldIs (Fields.Immediate s at) name page to = (name ≡ Names.Immediate) × (s.now ≡ part page at to)

abbrev pub field_place : Field → ℕ
field_place (Fields.Prefixes s at) = at
field_place (Fields.Head s at) = at
field_place (Fields.Opcode s at) = at
field_place (Fields.ModRm s at) = at
field_place (Fields.Displacement s at) = at
field_place (Fields.Immediate s at) = at
