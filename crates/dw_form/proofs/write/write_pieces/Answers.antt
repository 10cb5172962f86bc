use Rattle.std.proofs.Common.{subst, List, ℕ, ◌++◌}
use Rattle.std.specs.Io.KnownBytes.{Appends}
use Rattle.dw_leb.specs.Watch.{inner_of, Wrote, AppendsFront}
use Rattle.dw_leb.specs.Transfers.{wrote_then, wrote_err}
use Rattle.dw_form.specs.Lent.{attribute_of}
use Rattle.dw_form.specs.Pieces.{head_of, content_of, tail_of, pieces_of, via_bytes}
use Rattle.dw_form.proofs.write.write_pieces.Goals as goal

pub returns-in_err-write_via-clause-written : goal.returns-in_err-write_via-clause-written
returns-in_err-write_via-clause-written g c =
    let a = attribute_of c.args.value.now in
    wrote_err _ _ (via_bytes a.via) (pieces_of c.args.ctx c.args.shape a.value) _ c.from_residual.ensures.0 c.in_err-write_via.ensures.written

pub returns-in_err-write_head-clause-written : goal.returns-in_err-write_head-clause-written
returns-in_err-write_head-clause-written g c =
    let a = attribute_of c.args.value.now in
    wrote_then _ _ _ (via_bytes a.via) (pieces_of c.args.ctx c.args.shape a.value) _ c.in_ok-write_via.ensures.written
    (wrote_err _ _ (head_of c.args.ctx c.args.shape a.value) (content_of a.value ++ tail_of a.value) _ c.from_residual-in_err-write_head.ensures.0 c.in_err-write_head.ensures.written)

pub returns-in_err-write_all-clause-written : goal.returns-in_err-write_all-clause-written
returns-in_err-write_all-clause-written g c =
    let a = attribute_of c.args.value.now in
    let front : AppendsFront (g.W.Write.contents (inner_of c.write_head.new.writer)) (g.W.Write.contents (inner_of c.write_all.new.writer)) (content_of a.value) =
    subst (λ (bytes : List ℕ). AppendsFront (g.W.Write.contents (inner_of c.write_head.new.writer)) (g.W.Write.contents (inner_of c.write_all.new.writer)) bytes) c.content.ensures c.write_all.ensures.front in
    wrote_then _ _ _ (via_bytes a.via) (pieces_of c.args.ctx c.args.shape a.value) _ c.in_ok-write_via.ensures.written
    (wrote_then _ _ _ (head_of c.args.ctx c.args.shape a.value) (content_of a.value ++ tail_of a.value) _ c.in_ok-write_head.ensures.written
    (wrote_err _ _ (content_of a.value) (tail_of a.value) _ c.from_residual-in_err-write_all.ensures.0 front))

pub returns-clause-written : goal.returns-clause-written
returns-clause-written g c =
    let a = attribute_of c.args.value.now in
    let whole : Appends (g.W.Write.contents (inner_of c.write_head.new.writer)) (g.W.Write.contents (inner_of c.write_all.new.writer)) (content_of a.value) =
    subst (λ (bytes : List ℕ). Appends (g.W.Write.contents (inner_of c.write_head.new.writer)) (g.W.Write.contents (inner_of c.write_all.new.writer)) bytes) c.content.ensures c.in_ok-write_all.ensures.ok in
    let end : Wrote (g.W.Write.contents (inner_of c.write_all.new.writer)) (g.W.Write.contents (inner_of c.write_all-2.new.writer)) (tail_of a.value) c.write_all-2.result =
    subst (λ (bytes : List ℕ). Wrote (g.W.Write.contents (inner_of c.write_all.new.writer)) (g.W.Write.contents (inner_of c.write_all-2.new.writer)) bytes c.write_all-2.result) c.tail.ensures c.write_all-2.ensures.written in
    wrote_then _ _ _ (via_bytes a.via) (pieces_of c.args.ctx c.args.shape a.value) _ c.in_ok-write_via.ensures.written
    (wrote_then _ _ _ (head_of c.args.ctx c.args.shape a.value) (content_of a.value ++ tail_of a.value) _ c.in_ok-write_head.ensures.written
    (wrote_then _ _ _ (content_of a.value) (tail_of a.value) _ whole end))
