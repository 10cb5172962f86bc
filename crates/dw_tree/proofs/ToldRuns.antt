-- A run of values may begin behind those whose forms tell their sizes.
use Rattle.std.proofs.Common.{◌≡◌, ℕ, zero, suc, ◌+◌, ◌-◌, ◌≤◌, List, [], ◌∷◌, ◌++◌, length, take, drop, refl, sym, ap, ap₂, subst, ◌∙◌, arith, append_assoc, length-drop}
use Rattle.dw_form.specs.declared.shape.Ctx.{Ctx}
use Rattle.dw_form.specs.FormSize.{size_in}
use Rattle.dw_abbrev.specs.Table.{Pair}
use Rattle.dw_abbrev.specs.Prefix.{AreTold}
use Rattle.dw_tree.specs.RowHeads.{Here, run_bytes}
use Rattle.dw_tree.specs.ToldFronts.{ToldFront, told_is}
use Rattle.dw_tree.specs.WholeHeads.{IsWhole, sized_whole, whole_next}
use Rattle.dw_tree.proofs.RunSteps.{first, joins_run, take-more, drop-more}

-- these values stand at the front as they are spelled, and behind them those of the other pairs
pub record Begins (k : Ctx) (ps : List Pair) (hs pool : List ℕ) (size : ℕ) (others : List Pair) : Type 0 where
  pub front : run_bytes k ps hs pool ≡ take size hs ++ run_bytes k others (drop size hs) pool
  pub here : Here k others (drop size hs) pool
  pub within : size ≤ length hs

none_first : (k : Ctx) (ps : List Pair) (hs pool : List ℕ) (size : ℕ) → size ≡ 0 → Here k ps hs pool → Begins k ps hs pool size ps
none_first k ps hs pool size is here = subst (λ (n : ℕ). Begins k ps hs pool n ps) (sym is) (record { front = refl; here = here; within = omega arith })

begins_by : (k : Ctx) (ps : List Pair) (hs pool : List ℕ) (count size : ℕ) → count ≤ length ps → AreTold k (take count ps) size → Here k ps hs pool → Begins k ps hs pool size (drop count ps)
begins_by k ps hs pool zero size le told here = none_first k ps hs pool size told here
begins_by k [] hs pool (suc count) size le told here = absurd (omega (arith, le))
begins_by k (p ∷ ps) hs pool (suc count) size le (s, m, is, sum, more) here =
    let n : ℕ = size_in k s in
    let none : 0 ≤ length hs = omega arith in
    let whole = sized_whole k p.form.value hs n (told_is k p s is) in
    let first_there = whole_next k p hs pool n whole (first k (p ∷ ps) p ps hs pool 0 refl none here) in
    let same : n ≡ n - 0 = omega arith in
    let j = joins_run k (p ∷ ps) p ps hs pool 0 refl none here n (omega arith) (subst (IsWhole k p.form.value hs) same whole) in
    let i = begins_by k ps (drop n hs) pool count m (omega (arith, le)) more j.1 in
    let own : n ≤ length hs = first_there.2 in
    let all : Begins k (p ∷ ps) hs pool (n + m) (drop count ps) = record {
      front = j.0 ∙ (ap (λ (b : List ℕ). take n hs ++ b) i.front
          ∙ (sym (append_assoc (take n hs) (take m (drop n hs)) (run_bytes k (drop count ps) (drop m (drop n hs)) pool))
          ∙ ap₂ (λ (a b : List ℕ). a ++ run_bytes k (drop count ps) b pool) (sym (take-more hs n m own)) (sym (drop-more hs n m own))));
      here = subst (λ (b : List ℕ). Here k (drop count ps) b pool) (sym (drop-more hs n m own)) i.here;
      within = omega (arith, i.within, own, length-drop n hs);
    } in
    subst (λ (t : ℕ). Begins k (p ∷ ps) hs pool t (drop count ps)) (sym sum) all

pub begins : (k : Ctx) (ps : List Pair) (hs pool : List ℕ) (size : ℕ) (others : List Pair) → ToldFront k ps size others → Here k ps hs pool → Begins k ps hs pool size others
begins k ps hs pool size others told here = subst (Begins k ps hs pool size) (sym told.3) (begins_by k ps hs pool told.0 size told.1 told.2 here)
