use Rattle.std.proofs.Common.{refl}
use Rattle.catalogue.specs.Built.{built_rows}
use Rattle.catalogue.proofs.table.rows.Goals as goal

pub returns : goal.returns
unfolding built_rows
returns c = refl
