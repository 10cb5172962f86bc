use Rattle.std.proofs.Common.{◌≡◌, ◌+◌, Option, false, length, sym, ap, subst, ◌∙◌}
use Rattle.std.specs.Prelude.{IfSome, option_map}
use Rattle.dw_form.specs.Form.{Attribute}
use Rattle.dw_tree.specs.Steps.{Growing, NextFits}
use Rattle.dw_header.specs.Header.{context_of}
use Rattle.dw_unit.specs.Draft.{Drafted, drafted_size, passes_limit, partial_of, value_bytes, PartialFits}
use Rattle.dw_unit.proofs.DraftLemmas.{begun_some, ended_value, value_kept, ended_size}
use Rattle.dw_unit.proofs.draft.Draft.end_value.Goals as goal

pub invariant_of-self : goal.invariant_of-self
invariant_of-self c =
    let a = c.self.inside in
    let d : Drafted = record { header = a.header; table = a.tree.table; place = a.tree.place; padding = a.padding.items } in
    let new : Growing = c.end_value.new.self in
    let x = begun_some (λ (v : Attribute). length (value_bytes d v)) (partial_of d) c.in-Some.size (c.in-Some.ensures.size ∙ ap (λ (y : Drafted). option_map (λ (v : Attribute). length (value_bytes y v)) (partial_of y)) (sym c.self.view_is)) in
    let fits : NextFits (context_of d.header) d.table d.place.unfinished x.0 = subst (λ (o : Option Attribute). IfSome o (λ v. NextFits (context_of d.header) d.table d.place.unfinished v)) x.1 (subst (λ (y : Drafted). IfSome (partial_of y) (λ v. NextFits (context_of y.header) y.table y.place.unfinished v)) (sym c.self.view_is) c.requires.fits) in
    let short : passes_limit d (length (value_bytes d x.0)) ≡ false = subst (λ (o : Option Attribute). IfSome o (λ v. passes_limit d (length (value_bytes d v)) ≡ false)) x.1 (subst (λ (y : Drafted). IfSome (partial_of y) (λ v. passes_limit y (length (value_bytes y v)) ≡ false)) (sym c.self.view_is) c.requires.short) in
    value_kept d a.tree a.padded c.self.invariant x.0 fits new (c.end_value.ensures ∙ ended_value a.tree x.0 x.1) short

pub returns-in-Some-clause-size : goal.returns-in-Some-clause-size
returns-in-Some-clause-size c =
    let a = c.self.inside in
    let d : Drafted = record { header = a.header; table = a.tree.table; place = a.tree.place; padding = a.padding.items } in
    let new : Growing = c.end_value.new.self in
    subst (λ (y : Drafted). IfSome (partial_of y) (λ v. drafted_size (record { header = a.header; table = new.table; place = new.place; padding = a.padding.items }) ≡ drafted_size y + length (value_bytes y v))) c.self.view_is
    (ended_size d a.tree a.padded c.self.invariant new c.end_value.ensures (subst PartialFits (sym c.self.view_is) c.requires.fits))
