use Rattle.std.proofs.Common.{refl}
use Rattle.dw_abbrev.proofs.PlaceLemmas.{still_numbered}
use Rattle.dw_abbrev.proofs.decls.note.Goals as goal

pub returns-then-code-list-clause-ok : goal.returns-then-code-list-clause-ok
returns-then-code-list-clause-ok c d same =
    still_numbered c.args.places.now.entries c.args.list.now d c.args.code c.requires.places (c.if-not-is_empty.ensures.0 refl) c.if-code-list.true same
