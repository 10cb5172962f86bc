-- Declarations that are looked up, and written, run by run.
use Rattle.std.proofs.Common.{◌≡◌, ℕ, List, [], ◌∷◌, ◌++◌, Some, None, refl, sym, ap, ◌∙◌, append_assoc}
use Rattle.dw_leb.specs.Number.{uleb}
use Rattle.dw_abbrev.specs.Table.{Declaration, declared_in, table, zero_of}
use Rattle.dw_abbrev.specs.TableView.{joined, with_shared}
use Rattle.dw_abbrev.specs.Spelling.{declaration_bytes, declarations_bytes}
use Rattle.dw_abbrev.proofs.SpellLemmas.{table_spelled}
use Rattle.dw_abbrev.proofs.ListLemmas.{declared_before, declared_after, append_none}

pub bytes_behind : (xs ys : List Declaration) → declarations_bytes (xs ++ ys) ≡ declarations_bytes xs ++ declarations_bytes ys
bytes_behind [] ys = refl
bytes_behind (x ∷ xs) ys = ap (λ (s : List ℕ). declaration_bytes x ++ s) (bytes_behind xs ys) ∙ sym (append_assoc (declaration_bytes x) (declarations_bytes xs) (declarations_bytes ys))

-- ---- what a table shares, behind its own

pub shared_is : (own : List Declaration) (runs : List (List Declaration)) → with_shared own runs ≡ own ++ joined runs
shared_is own [] = sym (append_none own)
shared_is own (run ∷ runs) = refl

pub shared_alone : (runs : List (List Declaration)) → with_shared [] runs ≡ joined runs
shared_alone [] = refl
shared_alone (run ∷ runs) = refl

pub own_declared : (own : List Declaration) (runs : List (List Declaration)) (code : ℕ) (d : Declaration) → declared_in own code ≡ Some d → declared_in (with_shared own runs) code ≡ Some d
own_declared own runs code d e = ap (λ (ds : List Declaration). declared_in ds code) (shared_is own runs) ∙ declared_before own (joined runs) code d e

pub shared_declared : (own : List Declaration) (runs : List (List Declaration)) (code : ℕ) → declared_in own code ≡ None → declared_in (with_shared own runs) code ≡ declared_in (joined runs) code
shared_declared own runs code e = ap (λ (ds : List Declaration). declared_in ds code) (shared_is own runs) ∙ declared_after own (joined runs) code e

pub shared_bytes : (own : List Declaration) (runs : List (List Declaration)) → declarations_bytes (with_shared own runs) ≡ declarations_bytes own ++ declarations_bytes (joined runs)
shared_bytes own runs = ap declarations_bytes (shared_is own runs) ∙ bytes_behind own (joined runs)

pub parts_bytes : (own : List Declaration) (runs : List (List Declaration)) (width : ℕ) → table.Fits (record { declarations = with_shared own runs; last_zero = width })
    → declarations_bytes own ++ (declarations_bytes (joined runs) ++ uleb.spell (zero_of width)) ≡ table.spell (record { declarations = with_shared own runs; last_zero = width })
parts_bytes own runs width fits =
    sym (append_assoc (declarations_bytes own) (declarations_bytes (joined runs)) (uleb.spell (zero_of width)))
    ∙ (ap (λ (s : List ℕ). s ++ uleb.spell (zero_of width)) (sym (shared_bytes own runs)) ∙ sym (table_spelled (record { declarations = with_shared own runs; last_zero = width }) fits))
