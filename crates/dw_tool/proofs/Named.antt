-- Numbers by their names, in a list in which both are distinct.
use Rattle.std.proofs.Common.{◌≡◌, ◌∙◌, ◌&&◌, ◌+◌, ◌<◌, ◌≤◌, ◌==◌, ℕ, Bool, true, false, List, [], ◌∷◌, ◌++◌, length, Option, Some, None, Bor, option_map, nat_lt, refl, sym, ap, subst, arith}
use Rattle.std.specs.Prelude.{codes, nat_le, IfSome}
use Rattle.std.proofs.lemmas.Bool.{leb-true}
use Rattle.std.proofs.lemmas.List.{length-append}
use Rattle.std.specs.List.{list_all}
use Rattle.std.specs.Option.{option_map_or}
use Rattle.std.specs.Str.{bytes_eq}
use Rattle.std.proofs.lemmas.Bool.Decides.{Decides-eqb, Decides-ltb}
use Rattle.std.proofs.lemmas.Slice.Eq.{bytes_eq-Decides}
use Rattle.dw_tool.specs.Names.{Names, attribute_names, tag_names, name_in, number_named}
use Rattle.dw_tool.specs.Pieces.{padding, tag_label, attribute_label}

both_true : (a b : Bool) → (a && b) ≡ true → (a ≡ true) × (b ≡ true)
both_true true b e = (refl, e)
both_true false b e = cc

-- the number of the entry has the entry's name in the list
abbrev has_name : Names → ℕ × List ℕ → Bool
has_name names entry = option_map_or (λ name. bytes_eq name entry.1) (name_in names entry.0) false

-- the name of the entry has the entry's number in the list
abbrev has_number : Names → ℕ × List ℕ → Bool
has_number names entry = option_map_or (λ number. number == entry.0) (number_named names entry.1) false

name_is : (names : Names) (entry : ℕ × List ℕ) → has_name names entry ≡ true → name_in names entry.0 ≡ Some entry.1
name_is names entry e = go (name_in names entry.0) refl
  where
    go : (o : Option (List ℕ)) → name_in names entry.0 ≡ o → name_in names entry.0 ≡ Some entry.1
    go None is = let bad : false ≡ true = rw is at e in cc
    go (Some name) is = let same : bytes_eq name entry.1 ≡ true = rw is at e in is ∙ ap Some ((bytes_eq-Decides name entry.1).0 same)

number_is : (names : Names) (entry : ℕ × List ℕ) → has_number names entry ≡ true → number_named names entry.1 ≡ Some entry.0
number_is names entry e = go (number_named names entry.1) refl
  where
    go : (o : Option ℕ) → number_named names entry.1 ≡ o → number_named names entry.1 ≡ Some entry.0
    go None is = let bad : false ≡ true = rw is at e in cc
    go (Some number) is = let same : (number == entry.0) ≡ true = rw is at e in is ∙ ap Some ((Decides-eqb number entry.0).0 same)

-- the number that is found for a name has that name
found_back : (names rest : Names) (name : List ℕ) (n : ℕ) → list_all (has_name names) rest ≡ true → number_named rest name ≡ Some n → name_in names n ≡ Some name
found_back names [] name n all is = cc
found_back names (entry ∷ rest) name n all is = go (bytes_eq entry.1 name) refl (found_back names rest name n (both_true (has_name names entry) _ all).1)
  where
    go : (t : Bool) → bytes_eq entry.1 name ≡ t → (number_named rest name ≡ Some n → name_in names n ≡ Some name) → name_in names n ≡ Some name
    go true same next =
        let here : Some entry.0 ≡ Some n = rw same at is in
        let number : n ≡ entry.0 = cc in
        rw number (name_is names entry (both_true (has_name names entry) _ all).0 ∙ ap Some ((bytes_eq-Decides entry.1 name).0 same))
    go false other next = next (rw other at is)

-- the name that is found for a number has that number
found_forth : (names rest : Names) (name : List ℕ) (n : ℕ) → list_all (has_number names) rest ≡ true → name_in rest n ≡ Some name → number_named names name ≡ Some n
found_forth names [] name n all is = cc
found_forth names (entry ∷ rest) name n all is = go (entry.0 == n) refl (found_forth names rest name n (both_true (has_number names entry) _ all).1)
  where
    go : (t : Bool) → (entry.0 == n) ≡ t → (name_in rest n ≡ Some name → number_named names name ≡ Some n) → number_named names name ≡ Some n
    go true same next =
        let here : Some entry.1 ≡ Some name = rw same at is in
        let text : name ≡ entry.1 = cc in
        rw text (number_is names entry (both_true (has_number names entry) _ all).0 ∙ ap Some ((Decides-eqb entry.0 n).0 same))
    go false other next = next (rw other at is)

-- each name is short
name_short : (names : Names) (most n : ℕ) (name : List ℕ) → list_all (λ entry. nat_le (length entry.1) most) names ≡ true → name_in names n ≡ Some name → length name ≤ most
name_short [] most n name all is = cc
name_short (entry ∷ rest) most n name all is = go (entry.0 == n) refl (name_short rest most n name (both_true (nat_le (length entry.1) most) _ all).1)
  where
    go : (t : Bool) → (entry.0 == n) ≡ t → (name_in rest n ≡ Some name → length name ≤ most) → length name ≤ most
    go true same next =
        let here : Some entry.1 ≡ Some name = rw same at is in
        let text : name ≡ entry.1 = cc in
        rw text (leb-true (length entry.1) most (both_true (nat_le (length entry.1) most) _ all).0)
    go false other next = next (rw other at is)

tag_size : (n : ℕ) (name : List ℕ) → name_in tag_names n ≡ Some name → (32 ≤ length (tag_label name ++ padding)) × (length (tag_label name ++ padding) ≤ 56)
tag_size n name is =
    let short : length name ≤ 22 = name_short tag_names 22 n name refl is in
    let front : length (codes " DW_TAG_") ≡ 8 = refl in
    let behind : length padding ≡ 24 = refl in
    let all : length (tag_label name ++ padding) ≡ 8 + length name + 24 = omega (arith, length-append (tag_label name) padding, length-append (codes " DW_TAG_") name, front, behind) in
    (omega (arith, all), omega (arith, all, short))

attribute_size : (n : ℕ) (name : List ℕ) → name_in attribute_names n ≡ Some name → (32 ≤ length (attribute_label name ++ padding)) × (length (attribute_label name ++ padding) ≤ 56)
attribute_size n name is =
    let short : length name ≤ 22 = name_short attribute_names 22 n name refl is in
    let front : length (codes "\n  DW_AT_") ≡ 9 = refl in
    let space : length (codes " ") ≡ 1 = refl in
    let behind : length padding ≡ 24 = refl in
    let all : length (attribute_label name ++ padding) ≡ 9 + (length name + 1) + 24 =
    omega (arith, length-append (attribute_label name) padding, length-append (codes "\n  DW_AT_") (name ++ codes " "), length-append name (codes " "), front, space, behind) in
    (omega (arith, all), omega (arith, all, short))

-- what is said of each label of a name is said of the one that is found
of_label : (P : List ℕ → Type 0) (found : Option (Bor (List ℕ))) (label : List ℕ → List ℕ) (names : Option (List ℕ)) → option_map (λ it. it.now) found ≡ option_map label names → ((name : List ℕ) → names ≡ Some name → P (label name)) → IfSome found (λ it. P it.now)
of_label P None label names is all = tt
of_label P (Some it) label None is all = cc
of_label P (Some it) label (Some name) is all =
    let text : it.now ≡ label name = cc in
    subst P (sym text) (all name refl)

pub tag_long : (found : Option (Bor (List ℕ))) (n : ℕ) → option_map (λ it. it.now) found ≡ option_map (λ name. tag_label name ++ padding) (name_in tag_names n) → IfSome found (λ it. 32 ≤ length it.now)
tag_long found n is = of_label (λ label. 32 ≤ length label) found (λ name. tag_label name ++ padding) (name_in tag_names n) is (λ name here. (tag_size n name here).0)

pub tag_short : (found : Option (Bor (List ℕ))) (n : ℕ) → option_map (λ it. it.now) found ≡ option_map (λ name. tag_label name ++ padding) (name_in tag_names n) → IfSome found (λ it. length it.now ≤ 56)
tag_short found n is = of_label (λ label. length label ≤ 56) found (λ name. tag_label name ++ padding) (name_in tag_names n) is (λ name here. (tag_size n name here).1)

pub attribute_long : (found : Option (Bor (List ℕ))) (n : ℕ) → option_map (λ it. it.now) found ≡ option_map (λ name. attribute_label name ++ padding) (name_in attribute_names n) → IfSome found (λ it. 32 ≤ length it.now)
attribute_long found n is = of_label (λ label. 32 ≤ length label) found (λ name. attribute_label name ++ padding) (name_in attribute_names n) is (λ name here. (attribute_size n name here).0)

pub attribute_short : (found : Option (Bor (List ℕ))) (n : ℕ) → option_map (λ it. it.now) found ≡ option_map (λ name. attribute_label name ++ padding) (name_in attribute_names n) → IfSome found (λ it. length it.now ≤ 56)
attribute_short found n is = of_label (λ label. length label ≤ 56) found (λ name. attribute_label name ++ padding) (name_in attribute_names n) is (λ name here. (attribute_size n name here).1)

-- no number is above this one
below_limit : (limit : ℕ) (rest : Names) (name : List ℕ) (n : ℕ) → list_all (λ entry. nat_lt entry.0 limit) rest ≡ true → number_named rest name ≡ Some n → n < limit
below_limit limit [] name n all is = cc
below_limit limit (entry ∷ rest) name n all is = go (bytes_eq entry.1 name) refl (below_limit limit rest name n (both_true (nat_lt entry.0 limit) _ all).1)
  where
    go : (t : Bool) → bytes_eq entry.1 name ≡ t → (number_named rest name ≡ Some n → n < limit) → n < limit
    go true same next =
        let here : Some entry.0 ≡ Some n = rw same at is in
        let number : n ≡ entry.0 = cc in
        rw number ((Decides-ltb entry.0 limit).0 (both_true (nat_lt entry.0 limit) _ all).0)
    go false other next = next (rw other at is)

pub back : (name : List ℕ) (n : ℕ) → number_named attribute_names name ≡ Some n → name_in attribute_names n ≡ Some name
back name n is = found_back attribute_names attribute_names name n refl is

pub forth : (name : List ℕ) (n : ℕ) → name_in attribute_names n ≡ Some name → number_named attribute_names name ≡ Some n
forth name n is = found_forth attribute_names attribute_names name n refl is

-- where no number of a name is below 141, there is none
pub none_left : (name : List ℕ) → ((n : ℕ) → n < 141 → name_in attribute_names n ≡ Some name → ⊥) → None ≡ number_named attribute_names name
none_left name none = go (number_named attribute_names name) refl
  where
    go : (o : Option ℕ) → number_named attribute_names name ≡ o → None ≡ number_named attribute_names name
    go None is = sym is
    go (Some n) is = absurd (none n (below_limit 141 attribute_names name n refl is) (back name n is))
