use Rattle.std.proofs.Common.{arith}
use Rattle.std.proofs.lemmas.Bool.{ltb-false}
use Rattle.dw_abbrev.proofs.BuildLemmas.{declaration_fits}
use Rattle.dw_abbrev.proofs.decl.Decl.has_too_many.Goals as goal

pub returns-clause-fits : goal.returns-clause-fits
returns-clause-fits c few =
    let i = c.self.inside in
    rw (← c.self.view_is) (declaration_fits i.code i.tag i.children i.pairs.items i.name_zero i.form_zero c.self.invariant.name_zero c.self.invariant.form_zero c.self.invariant.some c.self.invariant.pairs (omega (arith, ltb-false 1024 c.len.result few, c.len.ensures, i.pairs.ok.0)))
