use Rattle.std.proofs.Common.{◌≡◌, ◌∙◌, ◌*◌, ◌/◌, ◌%◌, ◌<◌, ◌^◌, ℕ, List, length, subst, arith}
use Rattle.std.specs.Prelude.{bit_or, slice_set}
use Rattle.std.proofs.lemmas.Nat.{pow_below}
use Rattle.dw_section.specs.EntryOffsets.{Adds}
use Rattle.dw_section.proofs.Marked.{one_added, there_is}
use Rattle.dw_section.proofs.entry_offsets.EntryOffsets.mark.Goals as goal

pub returns-then-at-len : goal.returns-then-at-len
returns-then-at-len c =
    let words : List ℕ = c.self.inside.words.items in
    let new : ℕ = c.args.offset in
    let small : 2 ^ (new % 64) < 18446744073709551616 = pow_below (new % 64) 64 (omega arith) in
    let power : 1 * 2 ^ (new % 64) % 18446744073709551616 ≡ 2 ^ (new % 64) = omega (arith, small) in
    let inside : new / 64 < length words = omega (arith, c.if-at-len.true, c.len.ensures, c.self.inside.words.ok.0) in
    subst (λ (old : List ℕ). Adds new old (slice_set words (new / 64) (bit_or c.index_mut.result.now (1 * 2 ^ (new % 64) % 18446744073709551616)))) c.self.view_is
    (one_added new words c.index_mut.result.now (1 * 2 ^ (new % 64) % 18446744073709551616) (c.index_mut.ensures.value ∙ there_is words (new / 64) c.index_mut.result.now inside) power inside)
