use Rattle.std.proofs.Common.{◌≡◌, ℕ, List, sym, subst, rules}
use Rattle.std.specs.Rc.{rc_value}
use Rattle.dw_abbrev.specs.Table.{TableAt}
use Rattle.dw_abbrev.proofs.Kept.{kept_put}
use Rattle.dw_abbrev.proofs.tables.Tables.put.Goals as goal

pub invariant_of-self : goal.invariant_of-self
invariant_of-self c =
    let same : c.insert.new.self.entries ≡ c.self.inside.kept.entries = search rules in
    rw same c.self.invariant

pub invariant_of-self-2 : goal.invariant_of-self-2
invariant_of-self-2 c =
    let abbreviations : List ℕ = c.self.inside.abbreviations.now in
    let stands : TableAt abbreviations c.args.offset c.args.table.value = subst (λ (s : List ℕ). TableAt s c.args.offset c.args.table.value) (sym c.self.view_is) c.requires in
    rw c.in_ok-insert.ensures.entries (kept_put rc_value (λ o t. TableAt abbreviations o t) c.self.inside.kept.entries c.args.offset c.args.table c.self.invariant stands)
