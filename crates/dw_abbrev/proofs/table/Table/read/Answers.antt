use Rattle.std.proofs.Common.{◌≡◌, Option, subst}
use Rattle.std.specs.Prelude.{IfSome}
use Rattle.dw_abbrev.specs.Table.{Table}
use Rattle.dw_abbrev.proofs.table.Table.read.Goals as goal

pub returns-in-Ok-Some-clause-only : goal.returns-in-Ok-Some-clause-only
returns-in-Ok-Some-clause-only c t at = (subst (λ (o : Option Table). IfSome o (λ x. x ≡ t)) c.in-Ok-Some.field-0-is (c.in-Ok-Some.ensures.only t at).0, tt)
