use Rattle.std.proofs.Common.{◌≡◌, ℕ, ap, sym, ◌∙◌, refl}
use Rattle.std.specs.Borrow.{Bor}
use Rattle.std.specs.Prelude.{List, Result, Ok, length}
use Rattle.dw_form.specs.Form.{Value, Num}
use Rattle.dw_unit.specs.Unit.{WholeUnit}
use Rattle.dw_strings.specs.Text.{StringSections, Placed, named_place, text_if_placed, text_in_place}
use Rattle.dw_strings.specs.TextView.{place_of, sections_of, seen, seen_place}
use Rattle.dw_strings.specs.declared.fault.StrFault.{StrFault}
use Rattle.dw_strings.specs.declared.place.TextPlace.{TextPlace}
use Rattle.std.proofs.lemmas.Result.{err_from_is_err_and}
use Rattle.rothelduf_c.proofs.ask.text_of.Goals as goal
use Rattle.rothelduf_c.specs.Texts.{IsAt, IsTextOf}
use Rattle.rothelduf_c.specs.declared.structs.CText.{CText}

-- what the library tells of a value that is this number is told of the number
asked : (S : StringSections) (u : WholeUnit) (form form' number : ℕ) (value : Value) (told : Placed)
    → told ≡ named_place S u form' value → form' ≡ form → value ≡ Num number → named_place S u form (Num number) ≡ told
asked S u form form' number value told e f g =
    sym (e ∙ (ap (λ (x : ℕ). named_place S u x value) f ∙ ap (λ (x : Value). named_place S u form x) g))

-- a place that is told, and the text that is lent from there
found : (S : StringSections) (u : WholeUnit) (form form' number : ℕ) (value : Value) (at : Result TextPlace StrFault)
    (x y : TextPlace) (lent : Result (Bor (List ℕ)) StrFault) (b : Bor (List ℕ)) (t : CText)
    → seen_place at ≡ named_place S u form' value → form' ≡ form → value ≡ Num number → at ≡ Ok x → x ≡ y
    → seen lent ≡ text_in_place S (place_of x) → lent ≡ Ok b → IsAt t (place_of y) → length b.now ≡ t.length
    → IsTextOf S u form number t
found S u form form' number value at x y lent b t e f g is_at is_y there is_lent begins size =
    let placed : named_place S u form (Num number) ≡ Ok (place_of y) =
    asked S u form form' number value _ e f g ∙ (ap seen_place is_at ∙ ap (λ (p : TextPlace). Ok (place_of p)) is_y) in
    let told : text_in_place S (place_of y) ≡ Ok b.now =
    ap (λ (p : TextPlace). text_in_place S (place_of p)) (sym is_y) ∙ (sym there ∙ ap seen is_lent) in
    record { place = place_of y; bytes = b.now; place_is = placed; at = begins; text_is = ap (text_if_placed S) placed ∙ told; length_is = size }

pub returns-in-Str-clause-found : goal.returns-in-Str-clause-found
returns-in-Str-clause-found c = λ u known.
    found (sections_of c.args.strings.now) u _ _ _ _ _ _ _ _ _ _ (c.place.ensures u known) c.number_of.ensures.form c.number_of.ensures.value
    c.in_ok-place.was c.in-Str.is c.text_at.ensures c.in_ok-length.was (refl, refl) refl

pub returns-in-LineStr-clause-found : goal.returns-in-LineStr-clause-found
returns-in-LineStr-clause-found c = λ u known.
    found (sections_of c.args.strings.now) u _ _ _ _ _ _ _ _ _ _ (c.place.ensures u known) c.number_of.ensures.form c.number_of.ensures.value
    c.in_ok-place.was c.in-LineStr.is c.text_at.ensures c.in_ok-length.was (refl, refl) refl

pub returns-in-Own-clause-found : goal.returns-in-Own-clause-found
returns-in-Own-clause-found c = λ u known.
    found (sections_of c.args.strings.now) u _ _ _ _ _ _ _ _ _ _ (c.place.ensures u known) c.number_of.ensures.form c.number_of.ensures.value
    c.in_ok-place.was c.in-Own.is c.text_at.ensures c.in_ok-length.was (refl, refl) refl

pub returns-in_err-place-clause-none : goal.returns-in_err-place-clause-none
returns-in_err-place-clause-none c = λ u known.
    let S = sections_of c.args.strings.now in
    let p = err_from_is_err_and c.from_residual.result c.from_residual.ensures.1 in
    rw (p.1, p.2) (ap (text_if_placed S) (asked S u _ _ _ _ _ (c.place.ensures u known) c.number_of.ensures.form c.number_of.ensures.value)
    ∙ ap (λ (r : Result TextPlace StrFault). text_if_placed S (seen_place r)) c.in_err-place.was)

pub returns-in_err-length-clause-none : goal.returns-in_err-length-clause-none
returns-in_err-length-clause-none c = λ u known.
    let S = sections_of c.args.strings.now in
    let p = err_from_is_err_and c.from_residual-in_err-length.result c.from_residual-in_err-length.ensures.1 in
    rw (p.1, p.2) (ap (text_if_placed S) (asked S u _ _ _ _ _ (c.place.ensures u known) c.number_of.ensures.form c.number_of.ensures.value)
    ∙ (ap (λ (r : Result TextPlace StrFault). text_if_placed S (seen_place r)) c.in_ok-place.was ∙ (sym c.text_at.ensures ∙ ap seen c.in_err-length.was)))
