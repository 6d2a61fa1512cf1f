use Rattle.std.specs.Prelude.{◌≡◌, is_some, Some, None, Ok, Err, Option, Result, refl}
use Rattle.std.proofs.Common.{ap}
use Rattle.fault.specs.declared.rule.Rule.{Rule}
use Rattle.fault.specs.declared.making.MakingFault.{MakingFault}
use Rattle.fault.specs.declared.making.MakingFault.TheVariants.{Unsound}
use Rattle.record.specs.declared.raw.RawRecord.{RawRecord}
use Rattle.record.specs.declared.sound.Record.{Record}
use Rattle.record.specs.Rules.{broken}

-- what becomes of fields whose first broken rule is told
abbrev pub judged : (raw : RawRecord) (told : Option Rule) → broken raw ≡ told → Result Record MakingFault
judged raw (Some rule) e = Err (Unsound rule)
judged raw None e = Ok record { raw = raw; sound = ap is_some e }

-- a sound record of these fields, or the first rule that they break
abbrev pub record_of : RawRecord → Result Record MakingFault
record_of raw = judged raw (broken raw) refl

-- the sound record of these fields, none where they break a rule
abbrev pub sound_or_none : Result Record MakingFault → Option Record
sound_or_none (Ok r) = Some r
sound_or_none (Err e) = None
