use Rattle.std.proofs.Common.{◌≡◌, refl, ◌∙◌, true, false, is_some, sym, ap}
use Rattle.dw_leb.specs.Number.{Unsigned}
use Rattle.dw_abbrev.specs.Table.{declared_in}
use Rattle.dw_abbrev.proofs.BuildLemmas.{add_twice, add_long, add_right, table_added}
use Rattle.dw_abbrev.proofs.builder.TableBuilder.add.Goals.{in-Ok, in-Err}
use Rattle.dw_abbrev.proofs.builder.TableBuilder.add.Goals as goal

pub returns-then-has-clause-refused : goal.returns-then-has-clause-refused
returns-then-has-clause-refused c =
    let ds = c.self.inside.decls in
    let same : c.code-code.result.value ≡ c.args.decl.code.value = ap (λ (u : Unsigned). u.value) c.code-code.ensures in
    let e : is_some (declared_in ds c.args.decl.code.value) ≡ true = rw same at (sym c.has.ensures ∙ c.if-has.true) in
    rw (← c.self.view_is, add_twice ds c.args.decl e) refl

pub returns-then-has_too_many-clause-refused : goal.returns-then-has_too_many-clause-refused
returns-then-has_too_many-clause-refused c =
    let ds = c.self.inside.decls in
    let same : c.code-code.result.value ≡ c.args.decl.code.value = ap (λ (u : Unsigned). u.value) c.code-code.ensures in
    let e : is_some (declared_in ds c.args.decl.code.value) ≡ false = rw same at (sym c.has.ensures ∙ c.if-has.false) in
    rw (← c.self.view_is, add_long ds c.args.decl e (sym c.has_too_many.ensures.count ∙ c.if-has_too_many.true)) refl

pub invariant_of-self : goal.invariant_of-self
invariant_of-self c =
    let ds = c.self.inside.decls in
    let same : c.code-code.result.value ≡ c.args.decl.code.value = ap (λ (u : Unsigned). u.value) c.code-code.ensures in
    let e : is_some (declared_in ds c.args.decl.code.value) ≡ false = rw same at (sym c.has.ensures ∙ c.if-has.false) in
    elim c.match-push.branch [
      | in-Ok w ↦ rw w.in-Ok.ensures.ok (table_added ds c.args.decl e (c.has_too_many.ensures.fits c.if-has_too_many.false) c.self.invariant)
      | in-Err w ↦ rw w.in-Err.ensures.unchanged c.self.invariant
    ]

pub returns-clause-added : goal.returns-clause-added
returns-clause-added c = elim c.match-push.branch [
  | in-Ok w ↦ rw (w.result-is, w.in-Ok.ensures.ok, ← c.self.view_is) refl
  | in-Err w ↦ rw w.result-is tt
]

pub returns-clause-allowed : goal.returns-clause-allowed
returns-clause-allowed c =
    let ds = c.self.inside.decls in
    let same : c.code-code.result.value ≡ c.args.decl.code.value = ap (λ (u : Unsigned). u.value) c.code-code.ensures in
    let e : is_some (declared_in ds c.args.decl.code.value) ≡ false = rw same at (sym c.has.ensures ∙ c.if-has.false) in
    elim c.match-push.branch [
      | in-Ok w ↦ rw (w.result-is, ← c.self.view_is) (add_right ds c.args.decl e (sym c.has_too_many.ensures.count ∙ c.if-has_too_many.false))
      | in-Err w ↦ rw w.result-is tt
    ]

pub returns-clause-refused : goal.returns-clause-refused
returns-clause-refused c =
    let ds = c.self.inside.decls in
    let same : c.code-code.result.value ≡ c.args.decl.code.value = ap (λ (u : Unsigned). u.value) c.code-code.ensures in
    let e : is_some (declared_in ds c.args.decl.code.value) ≡ false = rw same at (sym c.has.ensures ∙ c.if-has.false) in
    elim c.match-push.branch [
      | in-Ok w ↦ rw w.result-is tt
      | in-Err w ↦ rw (w.result-is, ← c.self.view_is, add_right ds c.args.decl e (sym c.has_too_many.ensures.count ∙ c.if-has_too_many.false)) refl
    ]
