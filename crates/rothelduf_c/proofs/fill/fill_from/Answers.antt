use Rattle.std.proofs.Common.{◌≡◌, ◌<◌, ◌+◌, ◌++◌, ◌∷◌, [], List, length, take, map, ap, sym, ◌∙◌, arith, append_assoc, length-append, slice_set}
use Rattle.std.proofs.lemmas.List.{length-set, map-append, take_more_set}
use Rattle.dw_tree.specs.Lent.{EntryAt, attributes_of}
use Rattle.rothelduf_c.specs.Seen.{seen_attr}
use Rattle.rothelduf_c.specs.Walked as walked
use Rattle.rothelduf_c.specs.declared.structs.CAttr.{CAttr}
use Rattle.rothelduf_c.specs.declared.structs.CEntry.{CEntry}
use Rattle.rothelduf_c.proofs.Walked.{all_of_one_more, walked_of_one_more}
use Rattle.rothelduf_c.proofs.fill.fill_from.Goals as goal

pub loop-entry-preserved : goal.loop-entry-preserved
loop-entry-preserved c =
    let l = c.loop-entry in let i = l.invariant in let e = c.in-Some.entry in let next = c.in-Some-add_attributes.next in
    let told = c.in-Some-add_attributes.ensures in
    let place : next ≡ l.m + length (attributes_of e) = told.place in
    let count : l.m ≡ length (walked.all_attributes l.yielded) = i.5 in
    let all : walked.all_attributes (l.yielded ++ e ∷ []) ≡ walked.all_attributes l.yielded ++ attributes_of e =
    all_of_one_more l.yielded e in
    let more : next ≡ length (walked.all_attributes (l.yielded ++ e ∷ [])) =
    omega (arith, place, count, ap length all, length-append (walked.all_attributes l.yielded) (attributes_of e)) in
    let from : next ≡ 0 + length (walked.all_attributes l.yielded) + length (attributes_of e) = omega (arith, place, count) in
    let entries : take (l.n + 1) (slice_set l.entries l.n c.placed.result) ≡ walked.walked 0 (l.yielded ++ e ∷ []) =
    take_more_set l.entries l.n c.placed.result (omega (arith, c.if-n-entries.false))
    ∙ (ap (λ (xs : List CEntry). xs ++ c.placed.result ∷ []) i.6
    ∙ (ap (λ (x : CEntry). walked.walked 0 l.yielded ++ x ∷ []) c.placed.ensures
    ∙ sym (walked_of_one_more 0 l.yielded e next from))) in
    let attributes : take next c.add_attributes.new.out ≡ map seen_attr (walked.all_attributes (l.yielded ++ e ∷ [])) =
    told.filled
    ∙ (ap (λ (xs : List CAttr). xs ++ map seen_attr (attributes_of e)) i.7
    ∙ (sym (map-append seen_attr (walked.all_attributes l.yielded) (attributes_of e)) ∙ ap (map seen_attr) (sym all))) in
    let room : l.n < length l.entries = omega (arith, c.if-n-entries.false) in
    let kept : length (slice_set l.entries l.n c.placed.result) ≡ length l.entries = length-set l.entries l.n c.placed.result in
    let one_more : l.n + 1 ≡ length (l.yielded ++ e ∷ []) = omega (arith, i.4, length-append l.yielded (e ∷ [])) in
    (omega (arith, room, kept), kept ∙ i.1, omega (arith, told.within, told.length), told.length ∙ i.3, one_more, more, entries, attributes, i.8 ∙ (ap (λ (xs : List EntryAt). l.yielded ++ xs) c.in-Some.ensures.steps ∙ sym (append_assoc l.yielded (e ∷ []) _)))
