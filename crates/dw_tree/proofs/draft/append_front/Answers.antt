use Rattle.std.proofs.Common.{◌≡◌, ◌+◌, ◌++◌, ℕ, List, length, take, ap, ◌∙◌, arith}
use Rattle.std.proofs.lemmas.List.{take-take}
use Rattle.std.proofs.Math.Seq.{take-append-add}
use Rattle.dw_tree.proofs.draft.append_front.Goals as goal

pub returns-clause-items : goal.returns-clause-items
returns-clause-items c =
    let old = c.args.list.now.items in
    let bytes = c.args.bytes.now in
    let n = c.args.size in
    let before : c.len-before.result ≡ length old = c.len-before.ensures ∙ c.args.list.now.ok.0 in
    c.truncate.ensures.items
    ∙ ap (λ (i : ℕ). take (i + n) c.extend_from_slice-2.new.self.items) before
    ∙ ap (take (length old + n)) c.in_ok-extend_from_slice.ensures.items
    ∙ take-append-add old (take 32 bytes) n
    ∙ ap (λ (b : List ℕ). old ++ b) (take-take n 32 bytes (omega (arith, c.if-size-gt-AT_ONCE.false)))
