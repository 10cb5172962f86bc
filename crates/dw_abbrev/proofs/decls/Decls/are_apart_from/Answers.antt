use Rattle.std.proofs.Common.{◌≡◌, List, [], Option, Some, None, MatchOption, subst}
use Rattle.dw_abbrev.specs.Table.{Declaration}
use Rattle.dw_abbrev.specs.Places.{AreApart}
use Rattle.dw_abbrev.specs.TableView.{joined}
use Rattle.dw_abbrev.proofs.PlaceLemmas.{apart_from_all, none_left}
use Rattle.dw_abbrev.proofs.decls.Decls.are_apart_from.Goals as goal

at_end : {X A : Type 0} (B : X → Type 0) (r : Option X) → r ≡ None → MatchOption r A B → A
at_end B None e h = h
at_end B (Some x) e h = absurd cc

pub returns : goal.returns
returns c done =
    let apart = subst (λ (xs : List Declaration). AreApart xs []) c.self.view_is c.self.invariant.apart in
    apart_from_all c.args.self.now (joined c.args.runs.now) apart (c.loop-decl.invariant (none_left (joined c.args.runs.now) c.loop-decl.left.now (at_end _ c.split_first.result c.in_default.is c.split_first.ensures.cases)))
