use Rattle.std.proofs.Common.{◌≤◌, ◌-◌, List, ℕ, arith, length, subst, sym, take, ap, ◌∙◌}
use Rattle.std.proofs.lemmas.List.{length-take-le, take-take}
use Rattle.dw_tool.specs.Output.{Puts}
use Rattle.dw_tool.proofs.text.push_label.Goals as goal

pub slice_bounds-append_front-end : goal.slice_bounds-append_front-end
slice_bounds-append_front-end g c =
    let bs = c.as_bytes-bytes.result.now in
    let long : 32 ≤ length bs = subst (λ (t : List ℕ). 32 ≤ length t) (sym c.as_bytes-bytes.ensures.value) c.requires.long in
    sym (length-take-le 32 bs long)

pub append_front-requires-clause-within : goal.append_front-requires-clause-within
append_front-requires-clause-within g c =
    let bs = c.as_bytes-bytes.result.now in
    let long : 32 ≤ length bs = subst (λ (t : List ℕ). 32 ≤ length t) (sym c.as_bytes-bytes.ensures.value) c.requires.long in
    let short : length bs ≤ 56 = subst (λ (t : List ℕ). length t ≤ 56) (sym c.as_bytes-bytes.ensures.value) c.requires.short in
    omega (arith, length-take-le 32 bs long, short)

pub returns : goal.returns
returns g c =
    let bs = c.as_bytes-bytes.result.now in
    let short : length bs ≤ 56 = subst (λ (t : List ℕ). length t ≤ 56) (sym c.as_bytes-bytes.ensures.value) c.requires.short in
    let front : length bs - 24 ≤ 32 = omega (arith, short) in
    subst (λ (t : List ℕ). Puts g.W.Write.contents c.args.out.now c.append_front.new.self t c.append_front.result)
    (take-take (length bs - 24) 32 bs front ∙ ap (λ (t : List ℕ). take (length t - 24) t) c.as_bytes-bytes.ensures.value) c.append_front.ensures
