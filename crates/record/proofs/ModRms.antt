-- Whether a sound record has a ModRM byte follows from its operands and groups; its immediate bytes are few.
use Rattle.std.proofs.Common.{◌≡◌, Bool, true, false, ◌||◌, arith}
use Rattle.record.specs.declared.class.Class.TheVariants.{Memory, Offset, RegSlot}
use Rattle.record.specs.Classes.{has_class}
use Rattle.record.specs.Rules.{mod_rm_fits, grouped}
use Rattle.record.specs.Facts.{ModRmFollows}
use Rattle.record.proofs.Soundness.{rules_kept}

-- the rule over its five tests
fits_follow : (reg group mem rm_group offset : Bool) → mod_rm_fits reg group mem rm_group offset ≡ true → (((mem || reg) || (group || rm_group)) ≡ (mem || rm_group)) × (offset ≡ true → ((mem || reg) || (group || rm_group)) ≡ false)
fits_follow reg group mem rm_group offset e = (grind arith, λ o. grind arith)

pub mod_rm_follows : ModRmFollows
mod_rm_follows r =
    let x = r.raw.operands in
    fits_follow (has_class RegSlot x) (grouped r.raw.group_index) (has_class Memory x) (grouped r.raw.rm_group_index) (has_class Offset x) (rules_kept r).mod_rm
