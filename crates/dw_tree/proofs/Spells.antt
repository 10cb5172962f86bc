-- One more row.
use Rattle.std.proofs.Common.{◌≡◌, ◌≢◌, ◌⊎◌, ℕ, zero, suc, ◌+◌, ◌≤◌, ◌<◌, List, [], ◌∷◌, ◌++◌, length, get_or, set, drop, refl, sym, ◌∙◌, ap, ap₂, subst, arith, add-one, eq-or-lt_of_le, inl, inr, append_assoc, append-nil, length-append, length-set, get_or-set_other, get_or-set_same}
use Rattle.std.proofs.lemmas.Grind.{fold-append}
use Rattle.std.proofs.lemmas.List.{drop-append-le}
use Rattle.std.proofs.Math.Seq.{drop-append_seam}
use Rattle.dw_leb.specs.Number.{Unsigned}
use Rattle.dw_tree.specs.declared.row.Row.{Row}
use Rattle.dw_tree.specs.Tree.{leaf, branch, Forest}
use Rattle.dw_form.specs.Form.{Attribute}
use Rattle.dw_tree.specs.Row.{Token, leaf_row, branch_row, null_row, all_rows, rows_of}
use Rattle.dw_tree.specs.Place.{Frame, Spot, nowhere, leave, step, spot_after, rows_before, open_rows, rows_before-push}
use Rattle.dw_tree.specs.Flat.{IsEntry}
use Rattle.dw_tree.specs.DraftInvariant.{IsSpelled, IsIn, EndsAt, HaveEnds}

pub after-push : (ts : List Token) (t : Token) → spot_after (ts ++ t ∷ []) ≡ step (spot_after ts) t
after-push ts t = fold-append step nowhere ts (t ∷ [])

-- members
pub in_left : (i : ℕ) (xs ys : List ℕ) → IsIn i xs → IsIn i (xs ++ ys)
in_left i [] ys h = elim h [ ]
in_left i (x ∷ xs) ys (inl e) = inl e
in_left i (x ∷ xs) ys (inr h) = inr (in_left i xs ys h)

pub in_last : (n : ℕ) (xs : List ℕ) → IsIn n (xs ++ n ∷ [])
in_last n [] = inl refl
in_last n (x ∷ xs) = inr (in_last n xs)

pub in_or_last : (i n : ℕ) (xs : List ℕ) → IsIn i (xs ++ n ∷ []) → IsIn i xs ⊎ (i ≡ n)
in_or_last i n [] (inl e) = inr e
in_or_last i n [] (inr h) = elim h [ ]
in_or_last i n (x ∷ xs) (inl e) = inl (inl e)
in_or_last i n (x ∷ xs) (inr h) = elim (in_or_last i n xs h) [ inl k ↦ inl (inr k) | inr e ↦ inr e ]

pub snoc_inj : (xs ys : List ℕ) (a b : ℕ) → xs ++ a ∷ [] ≡ ys ++ b ∷ [] → (xs ≡ ys) × (a ≡ b)
snoc_inj [] [] a b e = (refl, cc)
snoc_inj [] (y ∷ []) a b e = absurd cc
snoc_inj [] (y ∷ z ∷ ys) a b e = absurd cc
snoc_inj (x ∷ []) [] a b e = absurd cc
snoc_inj (x ∷ z ∷ xs) [] a b e = absurd cc
snoc_inj (x ∷ xs) (y ∷ ys) a b e = let tails : xs ++ a ∷ [] ≡ ys ++ b ∷ [] = cc in let k : (xs ≡ ys) × (a ≡ b) = snoc_inj xs ys a b tails in (let p : xs ≡ ys = k.0 in cc, k.1)

pub eq_or_not : (i j : ℕ) → (i ≡ j) ⊎ (i ≢ j)
eq_or_not zero zero = inl refl
eq_or_not zero (suc j) = inr (λ e. omega (arith, e))
eq_or_not (suc i) zero = inr (λ e. omega (arith, e))
eq_or_not (suc i) (suc j) = elim (eq_or_not i j) [ inl e ↦ inl (ap suc e) | inr n ↦ inr (λ e. n (omega (arith, e))) ]

pub snoc_nil : {X : Type 0} (xs : List X) (x : X) → xs ++ x ∷ [] ≡ [] → ⊥
snoc_nil [] x e = cc
snoc_nil (y ∷ xs) x e = cc

-- an end stays when a row is added
pub ends_more : (ts : List Token) (t : Token) (i end : ℕ) → i ≤ length ts → EndsAt ts i end → EndsAt (ts ++ t ∷ []) i end
ends_more ts t i end l h = record {
  tree = h.tree;
  whole = drop-append-le i ts (t ∷ []) l
      ∙ (ap (λ (xs : List Token). xs ++ t ∷ []) h.whole
      ∙ (append_assoc (rows_of h.tree) (drop end ts) (t ∷ [])
      ∙ ap (λ (xs : List Token). rows_of h.tree ++ xs) (sym (drop-append-le end ts (t ∷ []) h.within))));
  within = rw (length-append ts (t ∷ [])) (omega (arith, h.within));
}

-- the last row, and those before it
last_row : {X : Type 0} (xs : List X) (x d : X) → get_or (xs ++ x ∷ []) (length xs) d ≡ x
last_row [] x d = refl
last_row (y ∷ xs) x d = last_row xs x d

row_before : {X : Type 0} (xs : List X) (x d : X) (i : ℕ) → i < length xs → get_or (xs ++ x ∷ []) i d ≡ get_or xs i d
row_before [] x d i h = absurd (omega arith)
row_before (y ∷ xs) x d zero h = refl
row_before (y ∷ xs) x d (suc i) h = row_before xs x d i (omega arith)

-- what is said of the rows, and of one more
ends_push : (rows : List Row) (r : Row) (ts : List Token) (t : Token) (open_at open_at' : List ℕ) → length rows ≡ length ts
    → ((i : ℕ) → IsIn i open_at → IsIn i open_at') → (IsEntry r.kind → IsIn (length rows) open_at' ⊎ EndsAt (ts ++ t ∷ []) (length rows) r.end)
    → HaveEnds rows ts open_at → HaveEnds (rows ++ r ∷ []) (ts ++ t ∷ []) open_at'
ends_push rows r ts t open_at open_at' len keeps new h i d l =
    elim (≤_or i (length rows) (omega (arith, length-append rows (r ∷ [])))) [
      | inl lt ↦ (let here : get_or (rows ++ r ∷ []) i d ≡ get_or rows i d = row_before rows r d i lt in
          subst (λ (q : Row). IsEntry q.kind → IsIn i open_at' ⊎ EndsAt (ts ++ t ∷ []) i q.end) (sym here)
          (λ k. elim (h i d lt k) [ inl o ↦ inl (keeps i o) | inr e ↦ inr (ends_more ts t i (get_or rows i d).end (omega arith) e) ]))
      | inr eq ↦ (let here : get_or (rows ++ r ∷ []) i d ≡ r = ap (λ (j : ℕ). get_or (rows ++ r ∷ []) j d) eq ∙ last_row rows r d in
          subst (λ (q : Row). IsEntry q.kind → IsIn i open_at' ⊎ EndsAt (ts ++ t ∷ []) i q.end) (sym here)
          (subst (λ (j : ℕ). IsEntry r.kind → IsIn j open_at' ⊎ EndsAt (ts ++ t ∷ []) j r.end) (sym eq) new))
    ]
  where
    ≤_or : (i n : ℕ) → i < n + 1 → (i < n) ⊎ (i ≡ n)
    ≤_or i n l = elim (eq-or-lt_of_le {n = i} {m = n} (omega arith)) [ inl a ↦ inr a | inr b ↦ inl b ]

-- the same facts of a spot that is named
pub record Leads (ts : List Token) (open_at : List ℕ) (s : Spot) : Type 0 where
  pub spelled : ts ≡ rows_before s.above s.left
  pub opened : open_at ≡ open_rows s.above

pub is_spelled_by : (rows : List Row) (ts : List Token) (open_at : List ℕ) (s : Spot) → spot_after ts ≡ s → length rows ≡ length ts → HaveEnds rows ts open_at → Leads ts open_at s → IsSpelled rows ts open_at
is_spelled_by rows ts open_at s e len ends h = let P : Spot → Type 0 = Leads ts open_at in let k : Leads ts open_at (spot_after ts) = subst P (sym e) h in record { ends = ends; long = len; spelled = k.spelled; opened = k.opened }

longer_by_one : (rows : List Row) (r : Row) (ts : List Token) (t : Token) → length rows ≡ length ts → length (rows ++ r ∷ []) ≡ length (ts ++ t ∷ [])
longer_by_one rows r ts t e = omega (arith, length-append rows (r ∷ []), length-append ts (t ∷ []), e)

past_suc : {X : Type 0} (xs : List X) (x : X) → drop (suc (length xs)) (xs ++ x ∷ []) ≡ []
past_suc [] x = refl
past_suc (y ∷ xs) x = past_suc xs x

past_end : {X : Type 0} (xs : List X) (x : X) → drop (length xs + 1) (xs ++ x ∷ []) ≡ []
past_end xs x = rw add-one (past_suc xs x)

pub spells_leaf : (rows : List Row) (r : Row) (ts : List Token) (open_at : List ℕ) (c : Unsigned) (vs : List Attribute) → r.end ≡ length rows + 1 → IsSpelled rows ts open_at → IsSpelled (rows ++ r ∷ []) (ts ++ leaf_row c vs ∷ []) open_at
spells_leaf rows r ts open_at c vs er h =
    is_spelled_by _ _ _ _ (after-push ts (leaf_row c vs)) (longer_by_one rows r ts (leaf_row c vs) h.long)
    (ends_push rows r ts (leaf_row c vs) open_at open_at h.long (λ i k. k)
    (λ k. inr (record {
      tree = leaf c vs;
      whole = rw (er, h.long) (drop-append_seam ts (leaf_row c vs ∷ []) ∙ ap (λ (xs : List Token). leaf_row c vs ∷ xs) (sym (past_end ts (leaf_row c vs))));
      within = rw (er, length-append ts (leaf_row c vs ∷ []), h.long) (omega arith);
    }))
    h.ends)
    (record {
      spelled = ap (λ (xs : List Token). xs ++ leaf_row c vs ∷ []) h.spelled ∙ sym (rows_before-push (spot_after ts).above (spot_after ts).left (leaf c vs));
      opened = h.opened;
    })

pub spells_branch : (rows : List Row) (r : Row) (ts : List Token) (open_at : List ℕ) (n : ℕ) (c : Unsigned) (vs : List Attribute) → n ≡ length ts → IsSpelled rows ts open_at → IsSpelled (rows ++ r ∷ []) (ts ++ branch_row c vs ∷ []) (open_at ++ n ∷ [])
spells_branch rows r ts open_at n c vs e h =
    is_spelled_by _ _ _ _ (after-push ts (branch_row c vs)) (longer_by_one rows r ts (branch_row c vs) h.long)
    (ends_push rows r ts (branch_row c vs) open_at (open_at ++ n ∷ []) h.long (λ i k. in_left i open_at (n ∷ []) k)
    (λ k. inl (subst (λ (m : ℕ). IsIn m (open_at ++ n ∷ [])) (e ∙ sym h.long) (in_last n open_at))) h.ends)
    (record {
      spelled = ap (λ (xs : List Token). xs ++ branch_row c vs ∷ []) h.spelled;
      opened = ap₂ (λ (xs : List ℕ) (m : ℕ). xs ++ m ∷ []) h.opened (e ∙ ap length h.spelled);
    })

-- the innermost open entry is closed: its row has its end, and a null comes
module _ (rows rows' : List Row) (q r : Row) (ts : List Token) (open_at : List ℕ) (at w : ℕ)
    (er : rows' ≡ set rows at q ++ r ∷ []) (null : IsEntry r.kind → ⊥) (eq : q.end ≡ length ts + 1) (h : IsSpelled rows ts (open_at ++ at ∷ [])) where
  ends_null : (e : Frame) (es : List Frame) (f : Forest) → ts ≡ rows_before es e.left ++ branch_row e.code e.values ∷ all_rows f → open_at ≡ open_rows es → at ≡ length (rows_before es e.left)
      → HaveEnds rows' (ts ++ null_row w ∷ []) open_at
  ends_null e es f et eo ea =
      let lt : at < length rows = omega (arith, h.long, ap length et, length-append (rows_before es e.left) (branch_row e.code e.values ∷ all_rows f), ea) in
      let closed : EndsAt (ts ++ null_row w ∷ []) at (length ts + 1) = record {
        tree = branch e.code e.values f w;
        whole =
            ap (λ (xs : List Token). drop at (xs ++ null_row w ∷ [])) et
            ∙ (ap (drop at) (append_assoc (rows_before es e.left) (branch_row e.code e.values ∷ all_rows f) (null_row w ∷ []))
            ∙ (ap (λ (k : ℕ). drop k (rows_before es e.left ++ (branch_row e.code e.values ∷ (all_rows f ++ null_row w ∷ [])))) ea
            ∙ (drop-append_seam (rows_before es e.left) (branch_row e.code e.values ∷ (all_rows f ++ null_row w ∷ []))
            ∙ (sym (append-nil (rows_of (branch e.code e.values f w)))
            ∙ ap (λ (xs : List Token). rows_of (branch e.code e.values f w) ++ xs) (sym (past_end ts (null_row w)))))));
        within = omega (arith, length-append ts (null_row w ∷ []));
      } in
      let changed : HaveEnds (set rows at q) ts (open_at ++ at ∷ []) → HaveEnds (set rows at q ++ r ∷ []) (ts ++ null_row w ∷ []) (open_at ++ at ∷ []) =
      ends_push (set rows at q) r ts (null_row w) (open_at ++ at ∷ []) (open_at ++ at ∷ []) (length-set rows at q ∙ h.long) (λ i k. k) (λ k. absurd (null k)) in
      subst (λ (rs : List Row). HaveEnds rs (ts ++ null_row w ∷ []) open_at) (sym er) (λ i d l k.
      elim (eq_or_not i at) [
        | inl same ↦ inr (subst (λ (j : ℕ). EndsAt (ts ++ null_row w ∷ []) j (get_or (set rows at q ++ r ∷ []) j d).end) (sym same)
            (subst (λ (p : Row). EndsAt (ts ++ null_row w ∷ []) at p.end) (sym (row_before (set rows at q) r d at (rw (length-set rows at q) lt) ∙ get_or-set_same rows at q d lt))
            (subst (EndsAt (ts ++ null_row w ∷ []) at) (sym eq) closed)))
        | inr ne ↦ other i d ne l k
      ])
    where
      other : (i : ℕ) (d : Row) → i ≢ at → i < length (set rows at q ++ r ∷ []) → IsEntry (get_or (set rows at q ++ r ∷ []) i d).kind → IsIn i open_at ⊎ EndsAt (ts ++ null_row w ∷ []) i (get_or (set rows at q ++ r ∷ []) i d).end
      other i d ne l k =
          elim (eq-or-lt_of_le {n = i} {m = length rows} (omega (arith, length-append (set rows at q) (r ∷ []), length-set rows at q))) [
            | inl last ↦ absurd (null (subst (λ (p : Row). IsEntry p.kind) (ap (λ (j : ℕ). get_or (set rows at q ++ r ∷ []) j d) (last ∙ sym (length-set rows at q)) ∙ last_row (set rows at q) r d) k))
            | inr lt ↦ (let here : get_or (set rows at q ++ r ∷ []) i d ≡ get_or rows i d = row_before (set rows at q) r d i (rw (length-set rows at q) lt) ∙ get_or-set_other rows at i q d ne in
                elim (h.ends i d lt (subst (λ (p : Row). IsEntry p.kind) here k)) [
                  | inl o ↦ elim (in_or_last i at open_at o) [ inl o' ↦ inl o' | inr bad ↦ absurd (ne bad) ]
                  | inr en ↦ inr (subst (λ (p : Row). EndsAt (ts ++ null_row w ∷ []) i p.end) (sym here) (ends_more ts (null_row w) i (get_or rows i d).end (omega (arith, h.long)) en))
                ])
          ]

  spells_null_by : (es : List Frame) (f : Forest) → spot_after ts ≡ record { above = es; left = f } → ts ≡ rows_before es f → open_at ++ at ∷ [] ≡ open_rows es → IsSpelled rows' (ts ++ null_row w ∷ []) open_at
  spells_null_by [] f e et eo = absurd (snoc_nil open_at at eo)
  spells_null_by (e ∷ es) f en et eo =
      let inj : (open_at ≡ open_rows es) × (at ≡ length (rows_before es e.left)) = snoc_inj open_at (open_rows es) at (length (rows_before es e.left)) eo in
      is_spelled_by _ _ _ (leave w (record { above = e ∷ es; left = f })) (after-push ts (null_row w) ∙ ap (leave w) en)
      (ap length er ∙ longer_by_one (set rows at q) r ts (null_row w) (length-set rows at q ∙ h.long))
      (ends_null e es f et inj.0 inj.1)
      (record {
        spelled = ap (λ (xs : List Token). xs ++ null_row w ∷ []) et
            ∙ (append_assoc (rows_before es e.left) (branch_row e.code e.values ∷ all_rows f) (null_row w ∷ [])
            ∙ sym (rows_before-push es e.left (branch e.code e.values f w)));
        opened = inj.0;
      })

  pub spells_null : IsSpelled rows' (ts ++ null_row w ∷ []) open_at
  spells_null = spells_null_by (spot_after ts).above (spot_after ts).left refl h.spelled h.opened

-- an open entry's row is among the rows
pub open_inside : (rows : List Row) (ts : List Token) (open_at : List ℕ) (at : ℕ) → IsSpelled rows ts (open_at ++ at ∷ []) → at < length rows
open_inside rows ts open_at at h = by_frames (spot_after ts).above (spot_after ts).left h.spelled h.opened
  where
    by_frames : (es : List Frame) (f : Forest) → ts ≡ rows_before es f → open_at ++ at ∷ [] ≡ open_rows es → at < length rows
    by_frames [] f et eo = absurd (snoc_nil open_at at eo)
    by_frames (e ∷ es) f et eo = omega (arith, h.long, ap length et, length-append (rows_before es e.left) (branch_row e.code e.values ∷ all_rows f), (snoc_inj open_at (open_rows es) at (length (rows_before es e.left)) eo).1)
