-- What is found at an offset: an entry that begins there, and None only where none does.
use Rattle.std.proofs.Common.{◌≡◌, ◌≢◌, ℕ, zero, suc, Bool, true, false, List, [], ◌∷◌, Option, Some, None, refl, sym, ap, subst, ◌∙◌, arith}
use Rattle.std.specs.Prelude.{◌==◌, ◌↔◌, IfSome, if◌then◌else◌}
use Rattle.std.specs.List.{All, Contains}
use Rattle.std.proofs.lemmas.Bool.{eqb-true, eqb-false}
use Rattle.dw_tree.specs.Lent.{EntryAt, find_at}

behind : (x e : EntryAt) (xs : List EntryAt) → Contains xs e → Contains (x ∷ xs) e
behind x e xs c = (suc c.0, omega (arith, c.1), c.2)

found_is : (o : ℕ) (xs : List EntryAt) → IfSome (find_at o xs) (λ e. Contains xs e × (e.offset ≡ o))
found_is o [] = tt
found_is o (x ∷ xs) = by (x.offset == o) refl (find_at o xs) (found_is o xs)
  where
    by : (b : Bool) → (x.offset == o) ≡ b → (r : Option EntryAt) → IfSome r (λ e. Contains xs e × (e.offset ≡ o)) → IfSome (if b then Some x else r) (λ e. Contains (x ∷ xs) e × (e.offset ≡ o))
    by true h r k = ((0, omega arith, refl), eqb-true x.offset o h)
    by false h None k = tt
    by false h (Some e) k = (behind x e xs k.0, k.1)

none_is : (o : ℕ) (xs : List EntryAt) → find_at o xs ≡ None → All (λ e. e.offset ≢ o) xs
none_is o [] h = λ k d l. absurd (omega (arith, l))
none_is o (x ∷ xs) h = by (x.offset == o) refl (find_at o xs) (none_is o xs) h
  where
    by : (b : Bool) → (x.offset == o) ≡ b → (r : Option EntryAt) → (r ≡ None → All (λ e. e.offset ≢ o) xs) → (if b then Some x else r) ≡ None → All (λ e. e.offset ≢ o) (x ∷ xs)
    by true e r ih n = absurd cc
    by false e r ih n = head
      where
        head : All (λ e. e.offset ≢ o) (x ∷ xs)
        head zero d l = eqb-false x.offset o e
        head (suc k) d l = ih n k d (omega (arith, l))

-- where none begins there, none is found
none_back : (o : ℕ) (xs : List EntryAt) → All (λ e. e.offset ≢ o) xs → find_at o xs ≡ None
none_back o xs h = by (find_at o xs) (found_is o xs)
  where
    by : (r : Option EntryAt) → IfSome r (λ e. Contains xs e × (e.offset ≡ o)) → r ≡ None
    by None k = refl
    by (Some e) k = absurd (h k.0.0 e k.0.1 (ap (λ (y : EntryAt). y.offset) k.0.2 ∙ k.1))

-- what is answered, where that is what is found
pub found_by : (o : ℕ) (xs : List EntryAt) (r : Option EntryAt) → r ≡ find_at o xs → IfSome r (λ e. Contains xs e × (e.offset ≡ o))
found_by o xs r is = subst (λ (y : Option EntryAt). IfSome y (λ e. Contains xs e × (e.offset ≡ o))) (sym is) (found_is o xs)

pub none_by : (o : ℕ) (xs : List EntryAt) (r : Option EntryAt) → r ≡ find_at o xs → r ≡ None ↔ All (λ e. e.offset ≢ o) xs
none_by o xs r is = (λ n. none_is o xs (sym is ∙ n), λ h. is ∙ none_back o xs h)
