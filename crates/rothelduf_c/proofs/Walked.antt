-- One more entry behind others.
use Rattle.std.proofs.Common.{◌≡◌, ℕ, ◌+◌, List, [], ◌∷◌, ◌++◌, length, sym, ◌∙◌, ap, arith, append_assoc, append-nil, length-append}
use Rattle.dw_tree.specs.Lent.{EntryAt, LentAttribute, attributes_of}
use Rattle.rothelduf_c.specs.Walked.{all_attributes, placed, walked}
use Rattle.rothelduf_c.specs.declared.structs.CEntry.{CEntry}

pub all_of_one_more : (given : List EntryAt) (e : EntryAt)
    → all_attributes (given ++ e ∷ []) ≡ all_attributes given ++ attributes_of e
all_of_one_more [] e = append-nil (attributes_of e)
all_of_one_more (g ∷ given) e =
    ap (λ (xs : List LentAttribute). attributes_of g ++ xs) (all_of_one_more given e)
    ∙ sym (append_assoc (attributes_of g) (all_attributes given) (attributes_of e))

pub walked_of_one_more : (at : ℕ) (given : List EntryAt) (e : EntryAt) (place : ℕ)
    → place ≡ at + length (all_attributes given) + length (attributes_of e)
    → walked at (given ++ e ∷ []) ≡ walked at given ++ placed place e ∷ []
walked_of_one_more at [] e place is = ap (λ (p : ℕ). placed p e ∷ []) (let q : at + length (attributes_of e) ≡ place = omega (arith, is) in q)
walked_of_one_more at (g ∷ given) e place is =
    let next = at + length (attributes_of g) in
    let k : place ≡ next + length (all_attributes given) + length (attributes_of e) =
    omega (arith, is, length-append (attributes_of g) (all_attributes given)) in
    ap (λ (xs : List CEntry). placed next g ∷ xs) (walked_of_one_more next given e place k)
