use Rattle.std.proofs.Common.{sym, ◌∙◌}
use Rattle.catalogue.specs.Built.{built_rows}
use Rattle.catalogue.proofs.Rowed.{row_past, row_sound, built_sound}
use Rattle.catalogue.proofs.built_in.BuiltInCatalogue.get.Goals as goal

pub returns-in_err-raw : goal.returns-in_err-raw
returns-in_err-raw c = c.from_residual.ensures ∙ sym (row_past built_rows c.args.number (sym c.in_err-raw.ensures))

pub invariant_of-result : goal.invariant_of-result
invariant_of-result c = record { sound = built_sound c.args.number c.in_ok-raw.raw (sym c.in_ok-raw.ensures) }

pub returns : goal.returns
returns c = sym (row_sound built_rows c.args.number _ (sym c.in_ok-raw.ensures))
