use Rattle.std.proofs.Common.{◌++◌, ◌∙◌, List, ℕ, take, arith, length-append, length-take}
use Rattle.std.proofs.lemmas.Result.{err_from_is_err_and}
use Rattle.dw_leb.specs.Transfers.{consumes_more}
use Rattle.dw_feed.proofs.bytes.read_through.Goals as goal

pub returns-in_err-extend_from_slice-clause-bytes : goal.returns-in_err-extend_from_slice-clause-bytes
returns-in_err-extend_from_slice-clause-bytes g c =
    let p = err_from_is_err_and c.from_residual.result c.from_residual.ensures.1 in
    let before = c.loop-left.invariant.taken in
    let next = take c.in-Ok.got c.read_part.new.part in
    rw (p.1, p.2) (
      before.0 ++ next,
      omega (arith, length-append before.0 next, length-take c.in-Ok.got c.read_part.new.part, before.2, c.in-Ok.ensures.bound.0, c.read_part.auto.part, length-take c.min-want.result c.loop-left.chunk, c.min-want.ensures, c.if-got-eq0.false),
      consumes_more _ _ _ _ _ before.3 c.in-Ok.ensures.bytes.0,
    )

pub returns-in_err-extend_from_slice-clause-memory : goal.returns-in_err-extend_from_slice-clause-memory
returns-in_err-extend_from_slice-clause-memory g c =
    let p = err_from_is_err_and c.from_residual.result c.from_residual.ensures.1 in
    let before = c.loop-left.invariant.taken in
    let next = take c.in-Ok.got c.read_part.new.part in
    rw (p.1, p.2) (
      before.0 ++ next,
      omega (arith, length-append before.0 next, length-take c.in-Ok.got c.read_part.new.part, c.in-Ok.ensures.bound.0, c.in-Ok.ensures.bound.1, c.read_part.auto.part, length-take c.min-want.result c.loop-left.chunk, c.if-got-eq0.false),
      consumes_more _ _ _ _ _ before.3 c.in-Ok.ensures.bytes.0,
    )

pub returns-in_err-extend_from_slice-clause-kept : goal.returns-in_err-extend_from_slice-clause-kept
returns-in_err-extend_from_slice-clause-kept g c =
    let p = err_from_is_err_and c.from_residual.result c.from_residual.ensures.1 in
    let before = c.loop-left.invariant.taken in
    let next = take c.in-Ok.got c.read_part.new.part in
    rw (p.1, p.2) (
      before.0,
      next,
      ◌∙◌ {A = List ℕ} {b = c.loop-left.bytes.items} c.in_err-extend_from_slice.ensures.items before.1,
      consumes_more _ _ _ _ _ before.3 c.in-Ok.ensures.bytes.0,
    )
