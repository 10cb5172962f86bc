-- The heads of values under their pairs, and of rows: what they are, and that they give the values.
use Rattle.std.specs.Prelude.{◌≡◌, ◌<◌, ◌^◌, ℕ, ◌+◌, List, [], ◌∷◌, ◌++◌, length, take, drop, Option, Some, None}
use Rattle.std.proofs.Common.{refl, sym, ap, subst, ◌∙◌, arith, append_assoc, append-nil, length-append}
use Rattle.std.proofs.lemmas.List.{drop_at, take_at}
use Rattle.dw_form.specs.declared.shape.Ctx.{Ctx}
use Rattle.dw_form.specs.Form.{Attribute, attribute}
use Rattle.dw_form.specs.StoredView.{bytes_in}
use Rattle.dw_abbrev.specs.Table.{Pair, Table, declared}
use Rattle.dw_tree.specs.Tree.{values, declared_pairs}
use Rattle.dw_tree.specs.Row.{Token, leaf_row, branch_row, null_row}
use Rattle.dw_tree.specs.Place.{UnfinishedEntry, Place, rows_before}
use Rattle.dw_tree.specs.PoolBytes.{joined, held, row_values}
use Rattle.dw_form.specs.Head.{head, head_at, Lies}
use Rattle.dw_form.specs.HeadLent.{head_there}

-- ---- the values of one entry

-- the heads of values, whose contents stand one behind the other in the pool, from a place on
abbrev pub heads : Ctx → List Pair → ℕ → List Attribute → List ℕ
heads k ps start [] = []
heads k [] start (v ∷ vs) = []
heads k (p ∷ ps) start (v ∷ vs) = head k p.form.value start v ++ heads k ps (start + length (bytes_in v)) vs

-- the values by their heads
abbrev pub put_in : Option (Attribute × ℕ) → (ℕ → List Attribute) → List Attribute
put_in None others = []
put_in (Some x) others = x.0 ∷ others x.1

abbrev pub values_at : Ctx → List Pair → List ℕ → List ℕ → List Attribute
values_at k [] b pool = []
values_at k (p ∷ ps) b pool = put_in (head_at k p.form.value p.constant b pool) (λ n. values_at k ps (drop n b) pool)

pub lies_first : (pool : List ℕ) (start : ℕ) (xs ys : List ℕ) → Lies pool start (xs ++ ys) → Lies pool start xs
lies_first pool start xs ys h =
    record {
      before = h.before;
      after = ys ++ h.after;
      split = h.split ∙ ap (λ (b : List ℕ). h.before ++ b) (append_assoc xs ys h.after);
      at = h.at;
    }

pub lies_next : (pool : List ℕ) (start : ℕ) (xs ys : List ℕ) → Lies pool start (xs ++ ys)
    → Lies pool (start + length xs) ys
lies_next pool start xs ys h = record {
  before = h.before ++ xs;
  after = h.after;
  split =
      h.split
      ∙ (ap (λ (b : List ℕ). h.before ++ b) (append_assoc xs ys h.after)
      ∙ sym (append_assoc h.before xs (ys ++ h.after)));
  at = length-append h.before xs ∙ ap (λ (n : ℕ). n + length xs) h.at;
}

-- values are read back from their heads, whatever follows
pub values_there : (k : Ctx) (ps : List Pair) (vs : List Attribute) (start : ℕ) (rest pool : List ℕ)
    → (values k ps).Fits vs → Lies pool start (joined vs) → length pool < 256 ^ 8
    → values_at k ps (heads k ps start vs ++ rest) pool ≡ vs
values_there k [] [] start rest pool fits lies small = refl
values_there k [] (v ∷ vs) start rest pool fits lies small = absurd fits
values_there k (p ∷ ps) [] start rest pool fits lies small = absurd fits
values_there k (p ∷ ps) (v ∷ vs) start rest pool fits lies small =
    let own = head k p.form.value start v in
    let others = heads k ps (start + length (bytes_in v)) vs in
    let split : (own ++ others) ++ rest ≡ own ++ (others ++ rest) = append_assoc own others rest in
    let first : head_at k p.form.value p.constant ((own ++ others) ++ rest) pool ≡ Some (v, length own) =
    ap (λ (b : List ℕ). head_at k p.form.value p.constant b pool) split
    ∙ head_there k p.form.value p.constant v start (others ++ rest) pool
    (lies_first pool start (bytes_in v) (joined vs) lies) small fits.0 in
    let behind : drop (length own) ((own ++ others) ++ rest) ≡ others ++ rest =
    ap (λ (b : List ℕ). drop (length own) b) split ∙ drop_at own (others ++ rest) (length own) refl in
    ap (λ (o : Option (Attribute × ℕ)). put_in o (λ n. values_at k ps (drop n ((own ++ others) ++ rest)) pool)) first
    ∙ ap (λ (ws : List Attribute). v ∷ ws)
    (ap (λ (b : List ℕ). values_at k ps b pool) behind
    ∙ values_there k ps vs (start + length (bytes_in v)) rest pool fits.1
    (lies_next pool start (bytes_in v) (joined vs) lies) small)

-- ---- one more value, under the next pair

-- the heads of the first values, where there are fewer values than pairs: the values so far of an entry that is read
pub heads_push : (k : Ctx) (ps qs : List Pair) (p : Pair) (vs : List Attribute) (v : Attribute) (start : ℕ)
    → length vs ≡ length ps
    → heads k (ps ++ p ∷ qs) start (vs ++ v ∷ [])
    ≡ heads k (ps ++ p ∷ qs) start vs ++ head k p.form.value (start + length (joined vs)) v
heads_push k [] qs p [] v start e =
    let same : start ≡ start + 0 = omega arith in
    append-nil (head k p.form.value start v) ∙ ap (λ (n : ℕ). head k p.form.value n v) same
heads_push k [] qs p (w ∷ ws) v start e = absurd cc
heads_push k (q ∷ ps) qs p [] v start e = absurd cc
heads_push k (q ∷ ps) qs p (w ∷ ws) v start e =
    let own = head k q.form.value start w in
    let sum : start + length (bytes_in w) + length (joined ws) ≡ start + length (bytes_in w ++ joined ws) =
    omega (arith, length-append (bytes_in w) (joined ws)) in
    ap (λ (b : List ℕ). own ++ b) (heads_push k ps qs p ws v (start + length (bytes_in w)) (omega (arith, e)))
    ∙ (sym
    (append_assoc own (heads k (ps ++ p ∷ qs) (start + length (bytes_in w)) ws)
    (head k p.form.value (start + length (bytes_in w) + length (joined ws)) v))
    ∙ ap (λ (n : ℕ). (own ++ heads k (ps ++ p ∷ qs) (start + length (bytes_in w)) ws) ++ head k p.form.value n v) sum)

-- ---- rows

abbrev pub row_heads : Ctx → Table → ℕ → Token → List ℕ
row_heads k t start (leaf_row code vs) = heads k (declared_pairs (declared t code.value)) start vs
row_heads k t start (branch_row code vs) = heads k (declared_pairs (declared t code.value)) start vs
row_heads k t start (null_row w) = []

-- the heads of rows, the first content of which stands at a place of the pool
abbrev pub rows_heads : Ctx → Table → ℕ → List Token → List ℕ
rows_heads k t start [] = []
rows_heads k t start (x ∷ xs) = row_heads k t start x ++ rows_heads k t (start + length (joined (row_values x))) xs

-- one list of rows and then another
pub rows_heads-append : (k : Ctx) (t : Table) (start : ℕ) (xs ys : List Token)
    → rows_heads k t start (xs ++ ys) ≡ rows_heads k t start xs ++ rows_heads k t (start + length (held xs)) ys
rows_heads-append k t start [] ys =
    let same : start ≡ start + 0 = omega arith in
    ap (λ (n : ℕ). rows_heads k t n ys) same
rows_heads-append k t start (x ∷ xs) ys =
    let own = row_heads k t start x in
    let next = start + length (joined (row_values x)) in
    let sum : next + length (held xs) ≡ start + length (joined (row_values x) ++ held xs) =
    omega (arith, length-append (joined (row_values x)) (held xs)) in
    ap (λ (b : List ℕ). own ++ b) (rows_heads-append k t next xs ys)
    ∙ (sym (append_assoc own (rows_heads k t next xs) (rows_heads k t (next + length (held xs)) ys))
    ∙ ap (λ (n : ℕ). (own ++ rows_heads k t next xs) ++ rows_heads k t n ys) sum)

-- of a tree with one open place: those of its rows, and of the values so far of the unfinished entry
abbrev pub unfinished_heads : Ctx → Table → ℕ → Option UnfinishedEntry → List ℕ
unfinished_heads k t start None = []
unfinished_heads k t start (Some r) = heads k (declared_pairs (declared t r.code.value)) start r.values

abbrev pub heads_in : Ctx → Table → Place → List ℕ
heads_in k t p =
    rows_heads k t 0 (rows_before p.spot.above p.spot.left)
    ++ unfinished_heads k t (length (held (rows_before p.spot.above p.spot.left))) p.unfinished

-- from the pool's first byte
pub rows_heads-from : (k : Ctx) (t : Table) (xs ys : List Token)
    → rows_heads k t 0 (xs ++ ys) ≡ rows_heads k t 0 xs ++ rows_heads k t (length (held xs)) ys
rows_heads-from k t xs ys =
    let same : 0 + length (held xs) ≡ length (held xs) = omega arith in
    rows_heads-append k t 0 xs ys ∙ ap (λ (n : ℕ). rows_heads k t 0 xs ++ rows_heads k t n ys) same

pub held-append : (xs ys : List Token) → held (xs ++ ys) ≡ held xs ++ held ys
held-append [] ys = refl
held-append (x ∷ xs) ys =
    ap (λ (b : List ℕ). joined (row_values x) ++ b) (held-append xs ys)
    ∙ sym (append_assoc (joined (row_values x)) (held xs) (held ys))

-- ---- the account: the heads and the pool are those of the rows and of the values so far of an entry that is
-- read, and no others

pub record Account (k : Ctx) (t : Table) (xs : List Token) (ps : List Pair) (vs : List Attribute) (hs pool : List ℕ)
    : Type 0 where
  pub heads_are : hs ≡ rows_heads k t 0 xs ++ heads k ps (length (held xs)) vs
  pub pool_is : pool ≡ held xs ++ joined vs

pub joined-push : (vs : List Attribute) (v : Attribute) → joined (vs ++ v ∷ []) ≡ joined vs ++ bytes_in v
joined-push [] v = append-nil (bytes_in v)
joined-push (w ∷ vs) v =
    ap (λ (b : List ℕ). bytes_in w ++ b) (joined-push vs v) ∙ sym (append_assoc (bytes_in w) (joined vs) (bytes_in v))

module _ (k : Ctx) (t : Table) (xs : List Token) (hs pool : List ℕ) where
  -- the values so far, from where the rows' heads end
  pub values_so_far : (ps : List Pair) (vs : List Attribute) → Account k t xs ps vs hs pool → (values k ps).Fits vs
      → length pool < 256 ^ 8 → values_at k ps (drop (length (rows_heads k t 0 xs)) hs) pool ≡ vs
  values_so_far ps vs a fits small =
      let before = rows_heads k t 0 xs in
      let own = heads k ps (length (held xs)) vs in
      let lies : Lies pool (length (held xs)) (joined vs) =
      record {
        before = held xs;
        after = [];
        split = a.pool_is ∙ ap (λ (b : List ℕ). held xs ++ b) (sym (append-nil (joined vs)));
        at = refl;
      } in
      ap (λ (b : List ℕ). values_at k ps b pool)
      (ap (drop (length before)) a.heads_are ∙ (drop_at before own (length before) refl ∙ sym (append-nil own)))
      ∙ values_there k ps vs (length (held xs)) [] pool fits lies small

  -- one more value
  pub account_value : (ps qs : List Pair) (p : Pair) (vs : List Attribute) (v : Attribute) → length vs ≡ length ps
      → Account k t xs (ps ++ p ∷ qs) vs hs pool
      → Account k t xs (ps ++ p ∷ qs) (vs ++ v ∷ []) (hs ++ head k p.form.value (length pool) v) (pool ++ bytes_in v)
  account_value ps qs p vs v e a =
      let all : List Pair = ps ++ p ∷ qs in
      let at = length (held xs) in
      let place : length pool ≡ at + length (joined vs) = ap length a.pool_is ∙ length-append (held xs) (joined vs) in
      record {
        heads_are = ap (λ (b : List ℕ). b ++ head k p.form.value (length pool) v) a.heads_are
            ∙ (append_assoc (rows_heads k t 0 xs) (heads k all at vs) (head k p.form.value (length pool) v)
            ∙ ap (λ (b : List ℕ). rows_heads k t 0 xs ++ b)
            (ap (λ (n : ℕ). heads k all at vs ++ head k p.form.value n v) place
            ∙ sym (heads_push k ps qs p vs v at e)));
        pool_is =
            ap (λ (b : List ℕ). b ++ bytes_in v) a.pool_is
            ∙ (append_assoc (held xs) (joined vs) (bytes_in v)
            ∙ ap (λ (b : List ℕ). held xs ++ b) (sym (joined-push vs v)));
      }

  -- an entry with all its values is a row
  pub account_row : (ps : List Pair) (vs : List Attribute) (x : Token) → row_values x ≡ vs
      → row_heads k t (length (held xs)) x ≡ heads k ps (length (held xs)) vs → Account k t xs ps vs hs pool
      → Account k t (xs ++ x ∷ []) [] [] hs pool
  account_row ps vs x e own a = record {
    heads_are =
        a.heads_are
        ∙ (ap (λ (b : List ℕ). rows_heads k t 0 xs ++ b)
        (sym own ∙ sym (append-nil (row_heads k t (length (held xs)) x)))
        ∙ (sym (rows_heads-from k t xs (x ∷ [])) ∙ sym (append-nil (rows_heads k t 0 (xs ++ x ∷ [])))));
    pool_is =
        a.pool_is
        ∙ (ap (λ (b : List ℕ). held xs ++ b) (ap joined (sym e) ∙ sym (append-nil (joined (row_values x))))
        ∙ (sym (held-append xs (x ∷ [])) ∙ sym (append-nil (held (xs ++ x ∷ [])))));
  }

  -- the entry that is read is taken back
  pub account_undone : (ps : List Pair) (vs : List Attribute) (first from : ℕ) → first ≡ length (rows_heads k t 0 xs)
      → from ≡ length (held xs) → Account k t xs ps vs hs pool → Account k t xs [] [] (take first hs) (take from pool)
  account_undone ps vs first from e f a = record {
    heads_are =
        ap (take first) a.heads_are
        ∙ (take_at (rows_heads k t 0 xs) (heads k ps (length (held xs)) vs) first (sym e)
        ∙ sym (append-nil (rows_heads k t 0 xs)));
    pool_is = ap (take from) a.pool_is ∙ (take_at (held xs) (joined vs) from (sym f) ∙ sym (append-nil (held xs)));
  }

-- ---- heads at a place

-- the heads of values under these pairs stand at the front of hs, their contents in the pool
pub record Here (k : Ctx) (ps : List Pair) (hs pool : List ℕ) : Type 0 where
  pub given : List Attribute
  pub start : ℕ
  pub rest : List ℕ
  pub fits : (values k ps).Fits given
  pub split : hs ≡ heads k ps start given ++ rest
  pub lies : Lies pool start (joined given)
  pub small : length pool < 256 ^ 8

abbrev pub run_bytes : Ctx → List Pair → List ℕ → List ℕ → List ℕ
run_bytes k ps hs pool = (values k ps).spell (values_at k ps hs pool)

pub values_here : (k : Ctx) (ps : List Pair) (hs pool : List ℕ) (h : Here k ps hs pool)
    → values_at k ps hs pool ≡ h.given
values_here k ps hs pool h =
    ap (λ (b : List ℕ). values_at k ps b pool) h.split
    ∙ values_there k ps h.given h.start h.rest pool h.fits h.lies h.small

-- the first of them
pub record First (k : Ctx) (p : Pair) (hs pool : List ℕ) : Type 0 where
  pub value : Attribute
  pub start : ℕ
  pub rest : List ℕ
  pub fits : (attribute k p.form.value p.constant).Fits value
  pub split : hs ≡ head k p.form.value start value ++ rest
  pub lies : Lies pool start (bytes_in value)
  pub small : length pool < 256 ^ 8

-- its spelling, and what stands behind its head
abbrev pub bytes_found : Ctx → Pair → Option (Attribute × ℕ) → List ℕ
bytes_found k p None = []
bytes_found k p (Some x) = (attribute k p.form.value p.constant).spell x.0

abbrev pub behind_found : List ℕ → Option (Attribute × ℕ) → List ℕ
behind_found hs None = []
behind_found hs (Some x) = drop x.1 hs

abbrev pub first_bytes : Ctx → Pair → List ℕ → List ℕ → List ℕ
first_bytes k p hs pool = bytes_found k p (head_at k p.form.value p.constant hs pool)

abbrev pub behind_first : Ctx → Pair → List ℕ → List ℕ → List ℕ
behind_first k p hs pool = behind_found hs (head_at k p.form.value p.constant hs pool)

module _ (k : Ctx) (p : Pair) (hs pool : List ℕ) (x : First k p hs pool) where
  pub first_found : head_at k p.form.value p.constant hs pool
      ≡ Some (x.value, length (head k p.form.value x.start x.value))
  first_found =
      ap (λ (b : List ℕ). head_at k p.form.value p.constant b pool) x.split
      ∙ head_there k p.form.value p.constant x.value x.start x.rest pool x.lies x.small x.fits

  pub first_is : first_bytes k p hs pool ≡ (attribute k p.form.value p.constant).spell x.value
  first_is = ap (bytes_found k p) first_found

  pub behind_is : behind_first k p hs pool ≡ x.rest
  behind_is =
      ap (behind_found hs) first_found
      ∙ (ap (drop (length (head k p.form.value x.start x.value))) x.split
      ∙ drop_at (head k p.form.value x.start x.value) x.rest (length (head k p.form.value x.start x.value)) refl)

-- and the others behind it
pub record Next (k : Ctx) (p : Pair) (ps : List Pair) (hs pool : List ℕ) : Type 0 where
  pub first : First k p hs pool
  pub others : Here k ps first.rest pool
  pub spelled : run_bytes k (p ∷ ps) hs pool
      ≡ (attribute k p.form.value p.constant).spell first.value ++ run_bytes k ps first.rest pool

pub next_here : (k : Ctx) (p : Pair) (ps : List Pair) (hs pool : List ℕ) → Here k (p ∷ ps) hs pool → Next k p ps hs pool
next_here k p ps hs pool h = by h.given refl
  where
    by : (vs : List Attribute) → h.given ≡ vs → Next k p ps hs pool
    by [] e = absurd (subst (λ (ws : List Attribute). (values k (p ∷ ps)).Fits ws) e h.fits)
    by (v ∷ vs) e =
        let fits : (values k (p ∷ ps)).Fits (v ∷ vs) =
        subst (λ (ws : List Attribute). (values k (p ∷ ps)).Fits ws) e h.fits in
        let own = head k p.form.value h.start v in
        let lies : Lies pool h.start (bytes_in v ++ joined vs) =
        subst (λ (ws : List Attribute). Lies pool h.start (joined ws)) e h.lies in
        let behind = heads k ps (h.start + length (bytes_in v)) vs ++ h.rest in
        let others : Here k ps behind pool =
        record {
          given = vs;
          start = h.start + length (bytes_in v);
          rest = h.rest;
          fits = fits.1;
          split = refl;
          lies = lies_next pool h.start (bytes_in v) (joined vs) lies;
          small = h.small;
        } in
        record {
          first =
              record {
                value = v;
                start = h.start;
                rest = behind;
                fits = fits.0;
                lies = lies_first pool h.start (bytes_in v) (joined vs) lies;
                small = h.small;
                split = h.split
                    ∙ (ap (λ (ws : List Attribute). heads k (p ∷ ps) h.start ws ++ h.rest) e
                    ∙ append_assoc own (heads k ps (h.start + length (bytes_in v)) vs) h.rest);
              };
          others = others;
          spelled = ap (λ (ws : List Attribute). (values k (p ∷ ps)).spell ws) (values_here k (p ∷ ps) hs pool h ∙ e)
              ∙ ap (λ (ws : List Attribute). (attribute k p.form.value p.constant).spell v ++ (values k ps).spell ws)
              (sym (values_here k ps behind pool others));
        }
