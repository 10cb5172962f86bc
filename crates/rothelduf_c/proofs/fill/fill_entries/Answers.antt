use Rattle.std.proofs.Common.{◌≡◌, ℕ, List, ◌++◌, length, take, map, ap, sym, ◌∙◌}
use Rattle.std.proofs.Math.Seq.{take-append_seam}
use Rattle.dw_tree.specs.Lent.{EntryAt}
use Rattle.rothelduf_c.specs.Seen.{seen_entry}
use Rattle.rothelduf_c.proofs.fill.fill_entries.Goals as goal

front : (all ys zs : List EntryAt) (n : ℕ) → all ≡ ys ++ zs → n ≡ length ys → take n all ≡ ys
front all ys zs n e k = ap (λ (m : ℕ). take m all) k ∙ (ap (take (length ys)) e ∙ take-append_seam ys zs)

pub returns-in-None-clause-filled : goal.returns-in-None-clause-filled
returns-in-None-clause-filled c =
    let i = c.loop-entry.invariant in
    i.3 ∙ ap (map seen_entry) (sym (front _ _ _ _ i.4 i.2))

pub returns-then-n-out-clause-filled : goal.returns-then-n-out-clause-filled
returns-then-n-out-clause-filled c =
    let i = c.loop-entry.invariant in
    i.3 ∙ ap (map seen_entry) (sym (front _ _ _ _ i.4 i.2))
