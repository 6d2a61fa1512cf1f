-- What the encoder accepts, the reader reads back.
use Rattle.std.specs.Prelude.{◌≡◌, ℕ, ◌<◌, List, ◌++◌, length, Some, Ok}
use Rattle.instruction.specs.declared.made.Instruction.{Instruction}
use Rattle.record.specs.declared.sound.Record.{Record}
use Rattle.gather.specs.Steps.{Spread}
use Rattle.instruction.specs.declared.settings.RawSettings.{RawSettings}
use Rattle.encoder.specs.Encode.{encode_of}
use Rattle.reader.specs.declared.reading.Reading.{Reading}
use Rattle.reader.specs.Readings.{read_of, meaning_of}
use Rattle.roundtrip.specs.Meant.{meant}

-- the fields of an instruction are words of their sizes, as those of every value are
pub record Words (i : Instruction) : Type 0 where
  pub displ : i.mem_displ < 18446744073709551616
  pub immediate : i.immediate < 4294967296

-- one reading, whatever bytes follow: it says what was handed in, and is as long as the line
pub record ReadsBack (sp : Spread) (mode address : ℕ) (r : Record) (i : Instruction) (l : List ℕ) : Type 0 where
  pub reading : Reading
  pub read : (rest : List ℕ) → read_of sp mode address r (l ++ rest) ≡ Ok reading
  pub meaning : meant mode r i ≡ Some (meaning_of reading)
  pub length : reading.layout.end ≡ length l

-- for every policy, settings, mode, address, sound record and instruction: what is accepted is read back
abbrev pub AcceptedReadsBack : Type 0
AcceptedReadsBack =
    (sp : Spread) (s : RawSettings) (mode address : ℕ) (r : Record) (i : Instruction) (n : ℕ) → Words i → (encode_of sp s mode address r i).answer ≡ Ok n → ReadsBack sp mode address r i (encode_of sp s mode address r i).bytes
