-- What a catalogue means: for each number, no record or one sound record.
use Rattle.std.specs.List.{list_any}
use Rattle.std.specs.Option.{option_and_then}
use Rattle.std.specs.Prelude.{◌≡◌, ℕ, cond, List, slice_get, is_some, None, Option, ◌==◌, nat_lt}
use Rattle.record.specs.declared.raw.RawRecord.{RawRecord}
use Rattle.record.specs.declared.sound.Record.{Record}
use Rattle.record.specs.Making.{record_of, sound_or_none}
use Rattle.catalogue.specs.Built.{built_rows}

-- rows by place; a row that breaks a rule is none
unfoldable pub row_of : List RawRecord → ℕ → Option Record
row_of rows n = option_and_then (λ r. sound_or_none (record_of r)) (slice_get rows n)

-- r where n is among the numbers, else none
abbrev pub allowed_of : List ℕ → ℕ → Option Record → Option Record
allowed_of numbers n r = cond (list_any (λ x. x == n) numbers) r None

-- the built-in table has ten records, at the numbers 0 to 9, each of them sound
abbrev pub TenSoundRecords : Type 0
TenSoundRecords = (n : ℕ) → is_some (row_of built_rows n) ≡ nat_lt n 10
