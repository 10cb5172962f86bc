use Rattle.std.proofs.Common.{◌≡◌, ◌++◌, length, sym, ap, subst, ◌∙◌, arith, length-append}
use Rattle.std.specs.Prelude.{IsSome, is_ok}
use Rattle.dw_tree.specs.Steps.{Growing, partial_in}
use Rattle.dw_tree.specs.DraftView.{front}
use Rattle.dw_tree.proofs.Begins.{partial_is, partial_open, front_stays, more_or_none}
use Rattle.dw_tree.proofs.draft.TreeDraft.bytes.Goals as goal

pub invariant_of-self : goal.invariant_of-self
invariant_of-self c =
    let a = c.self.inside in
    let pool = a.pool.items in
    let b = partial_is a (subst (λ (g : Growing). IsSome (partial_in g.place.unfinished)) (sym c.self.view_is) c.requires.partial) in
    let h = partial_open a b.0 b.1 c.self.invariant in
    let more = more_or_none (is_ok c.extend_from_slice.result) pool c.args.piece.now in
    let items : c.extend_from_slice.new.self.items ≡ pool ++ more.0 = c.extend_from_slice.ensures.items ∙ more.1 in
    let stays : front a.partial c.extend_from_slice.new.self.items ≡ front a.partial pool = ap (front a.partial) items ∙ front_stays a.partial b.0 pool more.0 b.1 h.within in
    let g = c.self.invariant.given in
    record {
      given = rw stays (record { context_fits = g.context_fits; tokens = g.tokens; values = g.values; lists = g.lists; room = g.room; near = g.near; counted = g.counted });
      partial = rw b.1 (record { within = omega (arith, h.within, ap length items, length-append pool more.0); unfinished = h.unfinished; room = h.room });
    }
