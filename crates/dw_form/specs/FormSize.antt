-- How many bytes the values of a form have, where the form alone tells (section 7.5.6).
use Rattle.std.specs.Prelude.{◌≡◌, ◌≤◌, ℕ, List, [], ◌∷◌, Option, Some, None, ◌==◌, if◌then◌else◌, Bool, true, false}
use Rattle.std.proofs.Common.{refl, subst}
use Rattle.std.proofs.lemmas.Bool.{eqb-true}
use Rattle.std.specs.List.{AllByRecursion}
use Rattle.dw_leb.specs.Constants.{DW_FORM_GNU_ref_alt, DW_FORM_GNU_strp_alt, DW_FORM_addr, DW_FORM_addrx1}
use Rattle.dw_leb.specs.Constants.{DW_FORM_addrx2, DW_FORM_addrx3, DW_FORM_addrx4, DW_FORM_data1, DW_FORM_data16}
use Rattle.dw_leb.specs.Constants.{DW_FORM_data2, DW_FORM_data4, DW_FORM_data8, DW_FORM_flag, DW_FORM_flag_present}
use Rattle.dw_leb.specs.Constants.{DW_FORM_line_strp, DW_FORM_ref1, DW_FORM_ref2, DW_FORM_ref4, DW_FORM_ref8}
use Rattle.dw_leb.specs.Constants.{DW_FORM_ref_addr, DW_FORM_ref_sig8, DW_FORM_ref_sup4, DW_FORM_ref_sup8}
use Rattle.dw_leb.specs.Constants.{DW_FORM_sec_offset, DW_FORM_strp, DW_FORM_strp_sup, DW_FORM_strx1, DW_FORM_strx2}
use Rattle.dw_leb.specs.Constants.{DW_FORM_strx3, DW_FORM_strx4}
use Rattle.dw_leb.specs.Number.{offset_size}
use Rattle.dw_form.specs.declared.shape.Ctx.{Ctx}
use Rattle.dw_form.specs.declared.shape.Shape.{Shape}
use Rattle.dw_form.specs.declared.shape.Shape.TheVariants as shapes
use Rattle.dw_form.specs.declared.size.FormSize.{FormSize}
use Rattle.dw_form.specs.declared.size.FormSize.TheVariants.{Bytes, Address, Offset}
use Rattle.dw_form.specs.Form.{at_number, shape}

-- the forms whose values have a size that the form tells
abbrev pub told_forms : List (ℕ × FormSize)
told_forms =
    (DW_FORM_addr, Address)
    ∷ (DW_FORM_data2, Bytes 2)
    ∷ (DW_FORM_data4, Bytes 4)
    ∷ (DW_FORM_data8, Bytes 8)
    ∷ (DW_FORM_data1, Bytes 1)
    ∷ (DW_FORM_flag, Bytes 1)
    ∷ (DW_FORM_strp, Offset)
    ∷ (DW_FORM_ref_addr, Offset)
    ∷ (DW_FORM_ref1, Bytes 1)
    ∷ (DW_FORM_ref2, Bytes 2)
    ∷ (DW_FORM_ref4, Bytes 4)
    ∷ (DW_FORM_ref8, Bytes 8)
    ∷ (DW_FORM_sec_offset, Offset)
    ∷ (DW_FORM_flag_present, Bytes 0)
    ∷ (DW_FORM_ref_sup4, Bytes 4)
    ∷ (DW_FORM_strp_sup, Offset)
    ∷ (DW_FORM_data16, Bytes 16)
    ∷ (DW_FORM_line_strp, Offset)
    ∷ (DW_FORM_ref_sig8, Bytes 8)
    ∷ (DW_FORM_ref_sup8, Bytes 8)
    ∷ (DW_FORM_strx1, Bytes 1)
    ∷ (DW_FORM_strx2, Bytes 2)
    ∷ (DW_FORM_strx3, Bytes 3)
    ∷ (DW_FORM_strx4, Bytes 4)
    ∷ (DW_FORM_addrx1, Bytes 1)
    ∷ (DW_FORM_addrx2, Bytes 2)
    ∷ (DW_FORM_addrx3, Bytes 3)
    ∷ (DW_FORM_addrx4, Bytes 4)
    ∷ (DW_FORM_GNU_ref_alt, Offset)
    ∷ (DW_FORM_GNU_strp_alt, Offset)
    ∷ []

abbrev pub told_form : ℕ → Option FormSize
told_form form = at_number form told_forms

abbrev pub FormSizeFits : FormSize → Type 0
FormSizeFits (Bytes n) = n ≤ 16
FormSizeFits _ = Unit {0}

-- in a unit of this address size and format
abbrev pub size_in : Ctx → FormSize → ℕ
size_in k (Bytes n) = n
size_in k Address = k.address_size
size_in k Offset = offset_size k.format

-- ---- the form table says the same

-- the values of a shape have this size, whatever their bytes
abbrev pub HasSize : Option Shape → ℕ → Type 0
HasSize None n = ⊥
HasSize (Some (shapes.Fixed m)) n = m ≡ n
HasSize (Some shapes.Present) n = 0 ≡ n
HasSize (Some _) n = ⊥

at_row : (P : ℕ → FormSize → Type 0) (n : ℕ) (rows : List (ℕ × FormSize)) (x : FormSize)
    → AllByRecursion (λ (row : ℕ × FormSize). P row.0 row.1) rows → at_number n rows ≡ Some x → P n x
at_row P n [] x all e = absurd cc
at_row P n (row ∷ rows) x all e = by (row.0 == n) refl e (at_row P n rows x all.1)
  where
    by : (b : Bool) → (row.0 == n) ≡ b → (if b then Some row.1 else at_number n rows) ≡ Some x
        → (at_number n rows ≡ Some x → P n x) → P n x
    by true is h others =
        let same : row.1 ≡ x = cc in
        subst (λ (y : FormSize). P n y) same (subst (λ (m : ℕ). P m row.1) (eqb-true row.0 n is) all.0)
    by false is h others = others h

all_told : (k : Ctx)
    → AllByRecursion (λ (row : ℕ × FormSize). HasSize (shape row.0 k.address_size k.format) (size_in k row.1))
    told_forms
unfolding shape
all_told k = (
  refl,
  (
    refl,
    (
      refl,
      (
        refl,
        (
          refl,
          (
            refl,
            (
              refl,
              (
                refl,
                (
                  refl,
                  (
                    refl,
                    (
                      refl,
                      (
                        refl,
                        (
                          refl,
                          (
                            refl,
                            (
                              refl,
                              (
                                refl,
                                (
                                  refl,
                                  (
                                    refl,
                                    (
                                      refl,
                                      (
                                        refl,
                                        (
                                          refl,
                                          (refl, (refl, (refl, (refl, (refl, (refl, (refl, (refl, (refl, tt))))))))),
                                        ),
                                      ),
                                    ),
                                  ),
                                ),
                              ),
                            ),
                          ),
                        ),
                      ),
                    ),
                  ),
                ),
              ),
            ),
          ),
        ),
      ),
    ),
  ),
)

pub told_shape : (k : Ctx) (form : ℕ) (s : FormSize) → told_form form ≡ Some s
    → HasSize (shape form k.address_size k.format) (size_in k s)
told_shape k form s e =
    at_row (λ (n : ℕ) (x : FormSize). HasSize (shape n k.address_size k.format) (size_in k x)) form told_forms s
    (all_told k) e
