use Rattle.std.proofs.Common.{List, ℕ, subst}
use Rattle.std.proofs.lemmas.Result.{err_from_is_err_and}
use Rattle.std.specs.Io.KnownBytes.{Appends}
use Rattle.dw_leb.specs.Watch.{inner_of, AppendsFront}
use Rattle.dw_form.specs.Lent.{attribute_of}
use Rattle.dw_abbrev.specs.PairView.{pair_of}
use Rattle.dw_tree.proofs.WriteLemmas.{lent_spelling}
use Rattle.dw_tree.proofs.write.write_one.Goals as goal

pub write_value-requires-clause-spelled : goal.write_value-requires-clause-spelled
write_value-requires-clause-spelled g c =
    let x = c.requires.first in
    (lent_spelling c.args.ctx (pair_of c.args.pair.now) c.args.heads.now c.args.pool.now x (attribute_of c.in-Some.value) (c.in-Some.ensures.put x.value x.start x.rest x.fits x.lies x.split).0).0

pub returns-in_err-write_value-in-Some-clause-written : goal.returns-in_err-write_value-in-Some-clause-written
returns-in_err-write_value-in-Some-clause-written g c =
    let x = c.requires.first in
    let p = err_from_is_err_and c.from_residual.result c.from_residual.ensures.1 in
    let same = (lent_spelling c.args.ctx (pair_of c.args.pair.now) c.args.heads.now c.args.pool.now x (attribute_of c.in-Some.value) (c.in-Some.ensures.put x.value x.start x.rest x.fits x.lies x.split).0).1 in
    rw p.1 (subst (λ (s : List ℕ). AppendsFront (g.W.Write.contents (inner_of c.args.writer.now)) (g.W.Write.contents (inner_of c.write_value.new.writer)) s) same c.in_err-write_value-in-Some.ensures.written)

pub returns-clause-written : goal.returns-clause-written
returns-clause-written g c =
    let x = c.requires.first in
    let same = (lent_spelling c.args.ctx (pair_of c.args.pair.now) c.args.heads.now c.args.pool.now x (attribute_of c.in-Some.value) (c.in-Some.ensures.put x.value x.start x.rest x.fits x.lies x.split).0).1 in
    subst (λ (s : List ℕ). Appends (g.W.Write.contents (inner_of c.args.writer.now)) (g.W.Write.contents (inner_of c.write_value.new.writer)) s) same c.in_ok-write_value-in-Some.ensures.written
