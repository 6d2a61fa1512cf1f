-- What operands are gathered for.
use Rattle.std.specs.Prelude.{Bool, ℤ}
use Rattle.record.specs.declared.sound.Record.{Record}
use Rattle.gather.specs.declared.case.Case.{Case}
use Rattle.gather.specs.Steps.{broadcasts}

-- what a byte of displacement stands for
abbrev pub meaning : {P : Type 0} → (P → Record → Bool → ℤ → ℤ) → Case P → ℤ → ℤ
meaning spread c = spread c.policy.now c.record.now (broadcasts c.record.now c.instruction.now)
