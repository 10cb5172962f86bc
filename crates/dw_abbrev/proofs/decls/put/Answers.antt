use Rattle.std.proofs.Common.{◌≡◌, ◌∙◌, ℕ, List, length, None, refl, sym, ap, eqb}
use Rattle.std.specs.Map.{lookup}
use Rattle.indexmap.proofs.CallerLemmas.{insert_entry-new}
use Rattle.dw_abbrev.proofs.PlaceLemmas.{no_place, put_behind}
use Rattle.dw_abbrev.proofs.decls.put.Goals as goal

pub returns-clause-ok : goal.returns-clause-ok
returns-clause-ok c d same =
    let ds = c.args.list.now in
    let none : lookup (eqb c.args.code) c.args.places.now.entries ≡ None = ap (lookup (eqb c.args.code)) c.requires.there ∙ no_place 0 ds c.args.code c.requires.new in
    put_behind c.args.places.now.entries c.insert.new.self.entries ds d c.args.code _ c.requires.there refl
    (c.in_ok-insert.ensures.entries ∙ insert_entry-new eqb c.args.places.now c.args.code _ none) same
