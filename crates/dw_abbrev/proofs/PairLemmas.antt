-- The steps of reading pairs.
use Rattle.std.proofs.Common.{◌≡◌, ◌<◌, ◌≤◌, ℕ, true, false, List, [], ◌∷◌, ◌++◌, length, Option, Some, None, sym, subst, ◌∙◌}
use Rattle.std.specs.Prelude.{map}
use Rattle.std.proofs.lemmas.List.{length-map, map-append}
use Rattle.dw_leb.specs.declared.errors.Reason.{Reason}
use Rattle.dw_leb.specs.declared.errors.ReadError.{ReadError}
use Rattle.dw_leb.specs.Number.{Unsigned, Signed}
use Rattle.dw_leb.specs.Reader.{◌and_then◌}
use Rattle.dw_leb.specs.ReadNumber.{read_uleb}
use Rattle.dw_abbrev.specs.Table.{Pair, half, too_many, refused_pair, is_end, pair_parts}
use Rattle.dw_abbrev.specs.ReadTable.{read_names, read_constant, read_pairs}
use Rattle.dw_abbrev.specs.Place.{Gives, IsErrorAt, fault_at, then_second, then_both, checked_fails, twice_refuses, twice_passes, ReadTo, nothing_yet, one_item, items_end, head_fails, body_fails}

module _ (abbreviations : List ℕ) (at before : ℕ) where
  pub form_fails : (name : Unsigned) (next : ℕ) → Gives read_uleb abbreviations at name next → (e : ReadError) → IsErrorAt read_uleb abbreviations next e → IsErrorAt (read_names before) abbreviations at e
  form_fails name next g e h = checked_fails _ (too_many before) abbreviations at e (checked_fails _ half abbreviations at e (then_second read_uleb (λ _. read_uleb) abbreviations at name next g e h))

  module _ (name form : Unsigned) (form_at next : ℕ) (g : Gives read_uleb abbreviations at name form_at) (h : Gives read_uleb abbreviations form_at form next) where
    pub names_refused : (reason : Reason) → refused_pair before (name, form) ≡ Some reason → IsErrorAt (read_names before) abbreviations at (fault_at at reason)
    names_refused reason e = twice_refuses (read_uleb and_then λ _. read_uleb) half (too_many before) abbreviations at (name, form) next (then_both read_uleb (λ _. read_uleb) abbreviations at name form_at g form next h) reason e

    pub names_pass : refused_pair before (name, form) ≡ None → Gives (read_names before) abbreviations at (name, form) next
    names_pass e = twice_passes (read_uleb and_then λ _. read_uleb) half (too_many before) abbreviations at (name, form) next (then_both read_uleb (λ _. read_uleb) abbreviations at name form_at g form next h) e

abbrev pub PairsTo : List ℕ → ℕ → List Pair → ℕ → Type 0
PairsTo abbreviations start list here = ReadTo (λ before. read_names (length before)) is_end read_constant abbreviations start (map pair_parts list) here

pub no_pairs : (abbreviations : List ℕ) (start : ℕ) → start ≤ length abbreviations → PairsTo abbreviations start [] start
no_pairs abbreviations start within = nothing_yet (λ before. read_names (length before)) is_end read_constant abbreviations start within

module _ (abbreviations : List ℕ) (start : ℕ) (list : List Pair) (here : ℕ) (r : PairsTo abbreviations start list here) (count : ℕ) (e : count ≡ length list) where
  counted : count ≡ length (map pair_parts list)
  counted = e ∙ sym (length-map list pair_parts)

  pub names_fail : (e : ReadError) → IsErrorAt (read_names count) abbreviations here e → IsErrorAt read_pairs abbreviations start e
  names_fail e h = head_fails (λ before. read_names (length before)) is_end read_constant abbreviations start (map pair_parts list) here r e (subst (λ (n : ℕ). IsErrorAt (read_names n) abbreviations here e) counted h)

  module _ (x : Unsigned × Unsigned) (behind : ℕ) (g : Gives (read_names count) abbreviations here x behind) where
    names_there : Gives (read_names (length (map pair_parts list))) abbreviations here x behind
    names_there = subst (λ (n : ℕ). Gives (read_names n) abbreviations here x behind) counted g

    pub pairs_end : is_end x ≡ true → Gives read_pairs abbreviations start (map pair_parts list, x) behind
    pairs_end e = items_end (λ before. read_names (length before)) is_end read_constant abbreviations start (map pair_parts list) here r x behind names_there e

    pub constant_fails : is_end x ≡ false → (e : ReadError) → IsErrorAt (read_constant x) abbreviations behind e → IsErrorAt read_pairs abbreviations start e
    constant_fails f e h = body_fails (λ before. read_names (length before)) is_end read_constant abbreviations start (map pair_parts list) here r x behind names_there f e h

    pub one_pair : is_end x ≡ false → here < behind → (constant : Option Signed) (next : ℕ) → Gives (read_constant x) abbreviations behind constant next
        → PairsTo abbreviations start (list ++ (record { name = x.0; form = x.1; constant = constant }) ∷ []) next
    one_pair f lt constant next h =
        subst (λ (xs : List _). ReadTo (λ before. read_names (length before)) is_end read_constant abbreviations start xs next) (sym (map-append pair_parts list ((record { name = x.0; form = x.1; constant = constant }) ∷ [])))
        (one_item (λ before. read_names (length before)) is_end read_constant abbreviations start (map pair_parts list) here r x behind names_there lt f constant next h)
