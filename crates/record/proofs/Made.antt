-- Two sound records of the same fields are one, since that they break no rule is a fact with one proof at most.
use Rattle.std.proofs.Common.{◌≡◌, false, is_some, Some, None, Ok, Err, Option, Result, refl, ap, ◌∙◌, arith, MatchResult}
use Rattle.std.proofs.Math.Bool.{Bool-set}
use mathlib.Core.HLevel.{is_prop→PathP}
use Rattle.fault.specs.declared.rule.Rule.{Rule}
use Rattle.fault.specs.declared.making.MakingFault.{MakingFault}
use Rattle.fault.specs.declared.making.MakingFault.TheVariants.{Unsound}
use Rattle.record.specs.declared.raw.RawRecord.{RawRecord}
use Rattle.record.specs.declared.sound.Record.{Record}
use Rattle.record.specs.Rules.{broken}
use Rattle.record.specs.Making.{judged, record_of}

pub same_record : (a b : Record) → a.raw ≡ b.raw → a ≡ b
same_record a b p = λ i. record { raw = p i; sound = is_prop→PathP (λ i. is_some (broken (p i)) ≡ false) (λ i. Bool-set (is_some (broken (p i))) false) a.sound b.sound i }

judged_none : (a : Record) (told : Option Rule) (e : broken a.raw ≡ told) → told ≡ None → Ok a ≡ judged a.raw told e
judged_none a (Some rule) e n = grind arith
judged_none a None e n = ap Ok (same_record a _ refl)

-- a sound record is what its fields make
pub made_ok : (a : Record) (raw : RawRecord) → a.raw ≡ raw → broken raw ≡ None → Ok a ≡ record_of raw
made_ok a raw p n = judged_none a (broken a.raw) refl (ap broken p ∙ n) ∙ ap record_of p

judged_some : (raw : RawRecord) (rule : Rule) (told : Option Rule) (e : broken raw ≡ told) → told ≡ Some rule → Err (Unsound rule) ≡ judged raw told e
judged_some raw rule (Some other) e n = let same : rule ≡ other = cc in ap (λ x. Err (Unsound x)) same
judged_some raw rule None e n = grind arith

pub made_err : (raw : RawRecord) (rule : Rule) → broken raw ≡ Some rule → Err (Unsound rule) ≡ record_of raw
made_err raw rule n = judged_some raw rule (broken raw) refl n

-- what is judged by the first broken rule is what the fields make
pub made_judged : (raw : RawRecord) (r : Result Record MakingFault) → MatchResult r (λ x. (x.raw ≡ raw) × (broken raw ≡ None)) (λ e. (rule : Rule) × (e ≡ Unsound rule) × (broken raw ≡ Some rule)) → r ≡ record_of raw
made_judged raw (Ok x) e = made_ok x raw e.0 e.1
made_judged raw (Err f) e = ap Err e.1 ∙ made_err raw e.0 e.2
