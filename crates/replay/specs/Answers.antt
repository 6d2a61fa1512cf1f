use Rattle.std.specs.Prelude.{ℕ, Some, None}
use Rattle.fault.specs.Numbers.{rule_number}
use Rattle.record.specs.Rules.{broken}
use Rattle.record.specs.declared.raw.RawRecord.{RawRecord}

-- the number of the first rule that a record breaks, 0 for none
abbrev pub sound_of : RawRecord → ℕ
sound_of r = elim (broken r) [ Some rule ↦ rule_number rule | None ↦ 0 ]
