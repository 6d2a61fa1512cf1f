-- A sound record keeps every rule.
use Rattle.std.proofs.Common.{◌≡◌, Bool, true, false, cond, not, is_some, Some, Option, refl, arith}
use Rattle.fault.specs.declared.rule.Rule.{Rule}
use Rattle.record.specs.Rules.{fields_hold, ranges_hold, slots_hold, mod_rm_holds, immediates_hold, heads_hold, modes_hold, first_byte_holds}
use Rattle.record.specs.Facts.{RulesKept}

-- where no test of a chain speaks, the first passed and the rest say nothing
passed : (t : Bool) (rule : Rule) (rest : Option Rule) → is_some (cond (not t) (Some rule) rest) ≡ false → (t ≡ true) × (is_some rest ≡ false)
passed true rule rest e = (refl, e)
passed false rule rest e = grind arith

pub rules_kept : RulesKept
rules_kept r =
    let a = passed (fields_hold r.raw) _ _ r.sound in
    let b = passed (ranges_hold r.raw) _ _ a.1 in
    let c = passed (slots_hold r.raw) _ _ b.1 in
    let d = passed (mod_rm_holds r.raw) _ _ c.1 in
    let e = passed (immediates_hold r.raw) _ _ d.1 in
    let f = passed (heads_hold r.raw) _ _ e.1 in
    let g = passed (modes_hold r.raw) _ _ f.1 in
    let h = passed (first_byte_holds r.raw) _ _ g.1 in
    record { fields = a.0; ranges = b.0; slots = c.0; mod_rm = d.0; immediates = e.0; heads = f.0; modes = g.0; first_byte = h.0 }
