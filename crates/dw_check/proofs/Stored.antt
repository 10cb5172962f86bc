-- Which places are named by numbers that name texts.
use Rattle.std.proofs.Common.{◌≡◌, ◌∙◌, ℕ, Bool, true, false, Option, None, Some, Ok, Err, refl, sym, subst}
use Rattle.std.specs.Prelude.{◌==◌, is_some, if◌then◌else◌}
use Rattle.std.proofs.lemmas.Bool.{eqb-true}
use Rattle.dw_form.specs.Form.{Value, at_number}
use Rattle.dw_form.specs.Lent.{number_in, text_in}
use Rattle.dw_header.specs.Header.{Header}
use Rattle.dw_unit.specs.Unit.{WholeUnit}
use Rattle.dw_section.specs.StringBase.{base_of}
use Rattle.dw_strings.specs.declared.fault.StrFault.{StrFault}
use Rattle.dw_strings.specs.declared.fault.StrFault.TheVariants.{NotText, Supplementary}
use Rattle.dw_strings.specs.Text.{StringSections, Place, Placed, InStr, at_entry, by_index, by_number, stored, stored_forms, named_place, number_at, own_text}
use Rattle.dw_leb.specs.Number.{offset_size}
use Rattle.std.specs.Prelude.{◌+◌, ◌*◌}
use Rattle.dw_check.proofs.Repeating.{eqb_sym}

either : {X : Type 0} (Q : Option X → Type 0) (b : Bool) (x y : Option X) → Q x → Q y → Q (if b then x else y)
either Q true x y p q = p
either Q false x y p q = q

at_offset : (o : Option ℕ) (p : Place) → at_entry o ≡ Ok p → (offset : ℕ) × (p ≡ InStr offset)
at_offset None p e = absurd cc
at_offset (Some offset) p e = let same : InStr offset ≡ p = cc in (offset, sym same)

by_its_index : (s : StringSections) (h : Header) (base : Option ℕ) (index : ℕ) (p : Place) → by_index s h base index ≡ Ok p → (offset : ℕ) × (p ≡ InStr offset)
by_its_index s h None index p e = absurd cc
by_its_index s h (Some base) index p e = at_offset (number_at h.order (offset_size h.format) s.str_offsets (base + index * offset_size h.format)) p e

-- if that place is answered, it is one of .debug_str
abbrev InStrIf : Placed → Place → Type 0
InStrIf answered p = answered ≡ Ok p → (offset : ℕ) × (p ≡ InStr offset)

-- a place that the number is of itself, or by its index, or is none
of_str : (n : ℕ) (p : Place) → InStrIf (Ok (InStr n)) p
of_str n p e = let same : InStr n ≡ p = cc in (n, sym same)

of_none : (why : StrFault) (p : Place) → InStrIf (Err why) p
of_none why p e = absurd cc

in_str : (s : StringSections) (u : WholeUnit) (n form : ℕ) (p : Place) → (0x1f == form) ≡ false → InStrIf (stored s u n (at_number form stored_forms)) p
in_str s u n form p h =
    let index = by_its_index s u.header (base_of u) n p in
    let none = of_none Supplementary p in
    either (λ o. InStrIf (stored s u n o) p) (0x0e == form) _ _ (of_str n p) (rw h
    (either (λ o. InStrIf (stored s u n o) p) (0x1a == form) _ _ index
    (either (λ o. InStrIf (stored s u n o) p) (0x25 == form) _ _ index
    (either (λ o. InStrIf (stored s u n o) p) (0x26 == form) _ _ index
    (either (λ o. InStrIf (stored s u n o) p) (0x27 == form) _ _ index
    (either (λ o. InStrIf (stored s u n o) p) (0x28 == form) _ _ index
    (either (λ o. InStrIf (stored s u n o) p) (0x1d == form) _ _ none
    (either (λ o. InStrIf (stored s u n o) p) (0x1f21 == form) _ _ none (of_none NotText p)))))))))

-- a number under another form than line_strp names a text of .debug_str
pub only_str : (s : StringSections) (u : WholeUnit) (form : ℕ) (v : Value) (p : Place) → is_some (at_number form stored_forms) ≡ true → (form == 0x1f) ≡ false → named_place s u form v ≡ Ok p → (offset : ℕ) × (p ≡ InStr offset)
only_str s u form v p some other = by (form == 0x08) refl (number_in v)
  where
    by : (own : Bool) → (form == 0x08) ≡ own → (n : Option ℕ) → (if own then own_text (text_in v) else by_number s u form n) ≡ Ok p → (offset : ℕ) × (p ≡ InStr offset)
    by true is n e =
        let none : is_some (at_number 0x08 stored_forms) ≡ true = subst (λ (f : ℕ). is_some (at_number f stored_forms) ≡ true) (eqb-true form 0x08 is) some in
        absurd cc
    by false is None e = absurd cc
    by false is (Some n) e = in_str s u n form p (eqb_sym 0x1f form ∙ other) e
