-- What holds of every encoding.
use Rattle.std.specs.Prelude.{◌≡◌, ℕ, ◌≤◌, length, Ok}
use Rattle.instruction.specs.declared.made.Instruction.{Instruction}
use Rattle.gather.specs.Steps.{Spread}
use Rattle.record.specs.declared.sound.Record.{Record}
use Rattle.instruction.specs.declared.settings.RawSettings.{RawSettings}
use Rattle.encoder.specs.Encode.{encode_of}

-- how many bytes are written depends on no address
abbrev pub LengthWithoutAddress : Type 0
LengthWithoutAddress =
    (sp : Spread) (s : RawSettings) (mode : ℕ) (r : Record) (i : Instruction) (here there : ℕ) → length (encode_of sp s mode here r i).bytes ≡ length (encode_of sp s mode there r i).bytes

-- an accepted encoding answers the count of its bytes, which is at most fifteen
abbrev pub AnswerIsLength : Type 0
AnswerIsLength =
    (sp : Spread) (s : RawSettings) (mode address : ℕ) (r : Record) (i : Instruction) (n : ℕ) → (encode_of sp s mode address r i).answer ≡ Ok n → (n ≡ length (encode_of sp s mode address r i).bytes) × (n ≤ 15)
