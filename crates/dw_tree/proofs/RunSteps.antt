-- The steps of writing values in runs.
use Rattle.std.proofs.Common.{◌≡◌, ℕ, ◌+◌, ◌-◌, ◌≤◌, List, [], ◌∷◌, ◌++◌, length, take, drop, Option, refl, sym, ap, ap₂, subst, ◌∙◌, arith, append_assoc, append-nil, length-take-le}
use Rattle.std.proofs.lemmas.List.{take-append-drop}
use Rattle.std.proofs.Math.Seq.{drop-append-add, take-append-add}
use Rattle.std.specs.Prelude.{Result, Ok, Err}
use Rattle.dw_leb.specs.declared.errors.WriteError.{WriteError}
use Rattle.dw_leb.specs.Watch.{Wrote}
use Rattle.dw_leb.specs.PartlyWritten.{PartlyWritten, partly_last, partly_fails}
use Rattle.dw_form.specs.declared.shape.Ctx.{Ctx}
use Rattle.dw_form.specs.Form.{attribute}
use Rattle.dw_abbrev.specs.Table.{Pair}
use Rattle.dw_tree.specs.RowHeads.{Here, First, Next, next_here, run_bytes, first_bytes, behind_first, first_is, behind_is}
use Rattle.dw_tree.specs.WholeHeads.{IsWhole, whole_next}

pub drop-more : (run : List ℕ) (size n : ℕ) → size ≤ length run → drop (size + n) run ≡ drop n (drop size run)
drop-more run size n within =
    let long = length-take-le size run within in
    ap (λ (b : List ℕ). drop (size + n) b) (sym (take-append-drop size run))
    ∙ (ap (λ (m : ℕ). drop (m + n) (take size run ++ drop size run)) (sym long) ∙ drop-append-add (take size run) (drop size run) n)

pub take-more : (run : List ℕ) (size n : ℕ) → size ≤ length run → take (size + n) run ≡ take size run ++ take n (drop size run)
take-more run size n within =
    let long = length-take-le size run within in
    ap (λ (b : List ℕ). take (size + n) b) (sym (take-append-drop size run))
    ∙ (ap (λ (m : ℕ). take (m + n) (take size run ++ drop size run)) (sym long) ∙ take-append-add (take size run) (drop size run) n)

module _ (k : Ctx) (ps : List Pair) (p : Pair) (rest : List Pair) (run pool : List ℕ) (size : ℕ) (is : ps ≡ p ∷ rest) (within : size ≤ length run) (here : Here k ps (drop size run) pool) where
  abbrev pub next : Next k p rest (drop size run) pool
  next = next_here k p rest (drop size run) pool (subst (λ (qs : List Pair). Here k qs (drop size run) pool) is here)

  abbrev pub first : First k p (drop size run) pool
  first = next.first

  -- the next value stays in the run
  pub joins_run : (end : ℕ) → size ≤ end → IsWhole k p.form.value (drop size run) (end - size)
      → (take size run ++ run_bytes k ps (drop size run) pool ≡ take end run ++ run_bytes k rest (drop end run) pool) × Here k rest (drop end run) pool
  joins_run end le whole =
      let n : ℕ = end - size in
      let sum : size + n ≡ end = omega (arith, le) in
      let t = whole_next k p (drop size run) pool n whole first in
      let behind : drop end run ≡ first.rest = ap (λ (m : ℕ). drop m run) (sym sum) ∙ (drop-more run size n within ∙ t.1) in
      let front : take end run ≡ take size run ++ (attribute k p.form.value p.constant).spell first.value = ap (λ (m : ℕ). take m run) (sym sum) ∙ (take-more run size n within ∙ ap (λ (b : List ℕ). take size run ++ b) t.0) in (
        ap (λ (qs : List Pair). take size run ++ run_bytes k qs (drop size run) pool) is
            ∙ (ap (λ (b : List ℕ). take size run ++ b) next.spelled
            ∙ (sym (append_assoc (take size run) ((attribute k p.form.value p.constant).spell first.value) (run_bytes k rest first.rest pool))
            ∙ ap₂ (λ (a b : List ℕ). a ++ run_bytes k rest b pool) (sym front) (sym behind))),
        subst (λ (b : List ℕ). Here k rest b pool) (sym behind) next.others,
      )

  -- the next value is written by itself
  pub parts : run_bytes k ps (drop size run) pool ≡ first_bytes k p (drop size run) pool ++ run_bytes k rest (behind_first k p (drop size run) pool) pool
  parts =
      ap (λ (qs : List Pair). run_bytes k qs (drop size run) pool) is
      ∙ (next.spelled ∙ ap₂ (λ (a b : List ℕ). a ++ run_bytes k rest b pool) (sym (first_is k p (drop size run) pool first)) (sym (behind_is k p (drop size run) pool first)))

  pub others : Here k rest (behind_first k p (drop size run) pool) pool
  others = subst (λ (b : List ℕ). Here k rest b pool) (sym (behind_is k p (drop size run) pool first)) next.others

pub none_left : (k : Ctx) (ps : List Pair) (hs pool : List ℕ) → ps ≡ [] → run_bytes k ps hs pool ≡ []
none_left k ps hs pool e = ap (λ (qs : List Pair). run_bytes k qs hs pool) e

pub partly_wrote : {X : Type 0} (a b d : Option (List ℕ)) (x all : List ℕ) (r : Result X WriteError) → PartlyWritten a b x all → Wrote b d x r → Wrote a d all r
partly_wrote a b d x all (Ok v) t h = partly_last a b d x all t h
partly_wrote a b d x all (Err e) t h = partly_fails a b d x [] all (subst (λ (s : List ℕ). PartlyWritten a b s all) (sym (append-nil x)) t) h

pub no_items : {X : Type 0} (xs : List X) → length xs ≡ 0 → xs ≡ []
no_items [] h = refl
no_items (x ∷ xs) h = absurd (omega (arith, h))
