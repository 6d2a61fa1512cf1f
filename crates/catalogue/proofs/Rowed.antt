-- Rows by place, and the built-in rows, each of which breaks no rule.
use Rattle.std.proofs.Common.{◌≡◌, ℕ, zero, suc, Bool, true, false, not, ltb, List, [], ◌∷◌, length, is_some, Some, None, Option, sym, refl, ap, ◌∙◌, arith}
use Rattle.std.specs.Int.Count.{ones}
use Rattle.std.specs.Prelude.{slice_get}
use Rattle.std.specs.List.{list_all}
use Rattle.std.specs.Option.{option_and_then}
use Rattle.std.proofs.lemmas.Bool.{and_parts, not-true}
use Rattle.std.proofs.lemmas.Bool.Decides.{nat_tests}
use Rattle.fault.specs.declared.rule.Rule.{Rule}
use Rattle.record.specs.declared.raw.RawRecord.{RawRecord}
use Rattle.record.specs.declared.sound.Record.{Record}
use Rattle.record.specs.Rules.{broken}
use Rattle.record.specs.Making.{record_of, sound_or_none}
use Rattle.record.proofs.Made.{made_ok}
use Rattle.catalogue.specs.Built.{built_rows}
use Rattle.catalogue.specs.Meaning.{row_of, TenSoundRecords}

no_rule : (o : Option Rule) → is_some o ≡ false → o ≡ None
no_rule (Some rule) e = grind arith
no_rule None e = refl

-- a record of a row is what the row stands for
pub row_sound : (rows : List RawRecord) (n : ℕ) (a : Record) → slice_get rows n ≡ Some a.raw → row_of rows n ≡ Some a
unfolding row_of
row_sound rows n a e =
    ap (option_and_then (λ r. sound_or_none (record_of r))) e ∙ sym (ap sound_or_none (made_ok a a.raw refl (no_rule (broken a.raw) a.sound)))

pub row_past : (rows : List RawRecord) (n : ℕ) → slice_get rows n ≡ None → row_of rows n ≡ None
unfolding row_of
row_past rows n e = ap (option_and_then (λ r. sound_or_none (record_of r))) e

abbrev keeps_rules : RawRecord → Bool
keeps_rules r = not (is_some (broken r))

all_at : (rows : List RawRecord) (n : ℕ) (r : RawRecord) → list_all keeps_rules rows ≡ true → slice_get rows n ≡ Some r → is_some (broken r) ≡ false
all_at [] n r e h = grind arith
all_at (x ∷ xs) zero r e h =
    let same : x ≡ r = cc in
    let here : keeps_rules x ≡ true = (and_parts (keeps_rules x) _ e).0 in
    not-true (is_some (broken r)) (ap keeps_rules (sym same) ∙ here)
all_at (x ∷ xs) (suc n) r e h = all_at xs n r (and_parts (keeps_rules x) _ e).1 h

-- the ten rows, by computation
built_all : list_all keeps_rules built_rows ≡ true
unfolding built_rows ones
built_all = refl

pub built_length : length built_rows ≡ 10
unfolding built_rows
built_length = refl

-- a row of the built-in table breaks no rule
pub built_sound : (n : ℕ) (r : RawRecord) → slice_get built_rows n ≡ Some r → is_some (broken r) ≡ false
built_sound n r h = all_at built_rows n r built_all h

found : (rows : List RawRecord) (n : ℕ) → is_some (slice_get rows n) ≡ ltb n (length rows)
found [] n = grind (arith, nat_tests)
found (r ∷ rs) zero = grind (arith, nat_tests)
found (r ∷ rs) (suc n) = let on = found rs n in grind (arith, nat_tests, on)

by_place : (n : ℕ) (o : Option RawRecord) → slice_get built_rows n ≡ o → is_some o ≡ ltb n (length built_rows) → is_some (row_of built_rows n) ≡ ltb n 10
by_place n (Some r) e t =
    let a : Record = record { raw = r; sound = built_sound n r e } in
    ap is_some (row_sound built_rows n a e) ∙ t ∙ ap (ltb n) built_length
by_place n None e t = ap is_some (row_past built_rows n e) ∙ t ∙ ap (ltb n) built_length

pub ten_sound_records : TenSoundRecords
ten_sound_records n = by_place n (slice_get built_rows n) refl (found built_rows n)
