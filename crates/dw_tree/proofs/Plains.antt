-- Several values that are no texts or blocks: their heads are their bytes, and they are given one after the other.
use Rattle.std.proofs.Common.{◌≡◌, ℕ, suc, ◌+◌, ◌<◌, ◌≤◌, Bool, true, false, List, [], ◌∷◌, ◌++◌, length, drop, Option, Some, None, refl, sym, ap, subst, ◌∙◌, arith, append_assoc, append-nil, length-append}
use Rattle.std.proofs.lemmas.List.{drop-drop}
use Rattle.std.proofs.lemmas.Bool.{ne_eqb}
use Rattle.dw_leb.specs.Number.{Unsigned, uleb}
use Rattle.dw_leb.specs.View.{uleb_of}
use Rattle.dw_form.specs.declared.shape.Ctx.{Ctx}
use Rattle.dw_form.specs.Form.{Attribute, attribute}
use Rattle.dw_abbrev.specs.Table.{Pair, Declaration, Table, declared, is_null}
use Rattle.dw_tree.specs.Tree.{declared_pairs, nesting}
use Rattle.dw_tree.specs.declared.row.Row.{Row}
use Rattle.dw_tree.specs.declared.row.Unfinished.{Unfinished}
use Rattle.dw_tree.specs.Row.{Token}
use Rattle.dw_tree.specs.Place.{Spot, spot_after, Place}
use Rattle.dw_tree.specs.Flat.{pairs_at}
use Rattle.dw_tree.specs.Steps.{Growing, FirstFits, first_bytes, settled, settle_by, settle, with_values, ArePlain}
use Rattle.dw_tree.specs.Completed.{one_given, settled_rows, settled_open, settled_unfinished}
use Rattle.dw_tree.specs.DraftInvariant.{AreLists}
use Rattle.dw_tree.proofs.Lists.{StandFor, entry_opens, entry_begun}
use Rattle.dw_tree.proofs.Plain.{plain_given, plain_more}

-- given so many values
abbrev pub given_all : ℕ → Unfinished → Unfinished
given_all n r = record { code = r.code; offset = r.offset; first = r.first; given = n; count = r.count; children = r.children; pool = r.pool }

-- there are as many pairs as values
pub plain_few : (k : Ctx) (ps : List Pair) (vs : List Attribute) (bytes : List ℕ) → ArePlain k ps vs bytes → length vs ≤ length ps
plain_few k ps [] bytes h = omega arith
plain_few k [] (v ∷ vs) bytes h = absurd h
plain_few k (p ∷ ps) (v ∷ vs) bytes h = omega (arith, plain_few k ps vs h.1.0 h.1.2)

next_drop : (ps qs : List Pair) (p : Pair) (n : ℕ) → drop n ps ≡ p ∷ qs → drop (n + 1) ps ≡ qs
next_drop ps qs p n e = sym (drop-drop 1 n ps) ∙ ap (drop 1) e

-- ---- what the lists stand for

module _ (k : Ctx) (t : Table) (start : ℕ) (rows : List Row) (pool open_at : List ℕ) (xs : List Token) where
  pub plains_given : (ws : List Attribute) (v : Attribute) (hs : List ℕ) (here : ℕ) (vs : List Attribute) (r : Unfinished) → AreLists k t start rows hs pool open_at (Some r) here xs vs
      → (qs : List Pair) → drop (length vs) (pairs_at t r.code.value) ≡ qs → (bytes : List ℕ) → ArePlain k qs (v ∷ ws) bytes → r.given + suc (length ws) ≤ r.count
      → (rows' : List Row) (open' : List ℕ) (o : Option Unfinished) (hs' : List ℕ) (n m total here' : ℕ) → total ≡ r.given + suc (length ws) → hs' ≡ hs ++ bytes → here' ≡ here + length bytes → m ≡ length rows → n ≡ length open_at + 1
      → rows' ≡ settled_rows (given_all total r) n rows → open' ≡ settled_open (given_all total r) m open_at → o ≡ settled_unfinished (given_all total r)
      → StandFor k t start rows' hs' pool open' o here' (settle t (spot_after xs) (uleb_of r.code) (vs ++ v ∷ ws))
  plains_given ws v hs here vs r l [] ds bytes h few rows' open' o hs' n m total here' et eh en em eo er eq eu = absurd h
  plains_given [] v hs here vs r l (p ∷ qs) ds bytes h few rows' open' o hs' n m total here' et eh en em eo er eq eu =
      let same : given_all total r ≡ one_given r = ap (λ (i : ℕ). given_all i r) (omega (arith, et)) in
      let fits : FirstFits k (drop (length vs) (pairs_at t r.code.value)) v = subst (λ (ps : List Pair). FirstFits k ps v) (sym ds) h.0.0 in
      let own : bytes ≡ first_bytes k (drop (length vs) (pairs_at t r.code.value)) v =
      h.1.1 ∙ ap (λ (b : List ℕ). (attribute k p.form.value p.constant).spell v ++ b) h.1.2 ∙ append-nil ((attribute k p.form.value p.constant).spell v) ∙ ap (λ (ps : List Pair). first_bytes k ps v) (sym ds) in
      plain_given k t start rows hs pool open_at here xs vs r l v fits h.0.1 bytes own rows' hs' open' o n m here' eh en em eo
      (er ∙ ap (λ (u : Unfinished). settled_rows u n rows) same) (eq ∙ ap (λ (u : Unfinished). settled_open u m open_at) same) (eu ∙ ap settled_unfinished same)
  plains_given (w ∷ ws) v hs here vs r l (p ∷ qs) ds bytes h few rows' open' o hs' n m total here' et eh en em eo er eq eu =
      let one : List ℕ = (attribute k p.form.value p.constant).spell v in
      let rest = h.1.0 in
      let fits : FirstFits k (drop (length vs) (pairs_at t r.code.value)) v = subst (λ (ps : List Pair). FirstFits k ps v) (sym ds) h.0.0 in
      let own : one ≡ first_bytes k (drop (length vs) (pairs_at t r.code.value)) v = ap (λ (ps : List Pair). first_bytes k ps v) (sym ds) in
      let l1 = plain_more k t start rows hs pool open_at here xs vs r l v fits h.0.1 one own (hs ++ one) (here + length one) refl refl (omega (arith, few)) in
      let many : length (vs ++ v ∷ []) ≡ length vs + 1 = length-append vs (v ∷ []) in
      let behind : drop (length (vs ++ v ∷ [])) (pairs_at t r.code.value) ≡ qs = ap (λ (i : ℕ). drop i (pairs_at t r.code.value)) many ∙ next_drop (pairs_at t r.code.value) qs p (length vs) ds in
      let all : length bytes ≡ length one + length rest = ap length h.1.1 ∙ length-append one rest in
      subst (λ (us : List Attribute). StandFor k t start rows' hs' pool open' o here' (settle t (spot_after xs) (uleb_of r.code) us)) (append_assoc vs (v ∷ []) (w ∷ ws))
      (plains_given ws w (hs ++ one) (here + length one) (vs ++ v ∷ []) (one_given r) l1 qs behind rest h.1.2 (omega (arith, few))
      rows' open' o hs' n m total here' (omega (arith, et)) (eh ∙ ap (λ (b : List ℕ). hs ++ b) h.1.1 ∙ sym (append_assoc hs one rest)) (omega (arith, en, all)) em eo er eq eu)

-- ---- what it is for the definitions

-- an entry that isn't complete
waits : (t : Table) (s : Spot) (code : Unsigned) (vs : List Attribute) (d : Declaration) → declared t code.value ≡ Some d → length vs < length d.pairs → settle t s code vs ≡ record { spot = s; unfinished = Some (record { code = code; values = vs; partial = None }) }
waits t s code vs d known h =
    ap (λ (o : Option Declaration). settle_by o s code vs) known
    ∙ ap (λ (b : Bool). settled b d.children s code vs) (ne_eqb (length vs) (length d.pairs) (λ e. omega (arith, h, e)))
    ∙ by d.children
  where
    by : (b : Bool) → settled false b s code vs ≡ record { spot = s; unfinished = Some (record { code = code; values = vs; partial = None }) }
    by true = refl
    by false = refl

pub values_settle : (k : Ctx) (t : Table) (start : ℕ) (s : Spot) (code : Unsigned) (d : Declaration) → declared t code.value ≡ Some d → (ws vs : List Attribute) → length vs + length ws ≤ length d.pairs
    → with_values ws (record { context = k; table = t; start = start; place = settle t s code vs }) ≡ record { context = k; table = t; start = start; place = settle t s code (vs ++ ws) }
values_settle k t start s code d known [] vs h = ap (λ (us : List Attribute). record { context = k; table = t; start = start; place = settle t s code us }) (sym (append-nil vs))
values_settle k t start s code d known (w ∷ ws) vs h =
    let at : Place → Growing = λ p. record { context = k; table = t; start = start; place = p } in
    ap (λ (p : Place). with_values (w ∷ ws) (at p)) (waits t s code vs d known (omega (arith, h)))
    ∙ values_settle k t start s code d known ws (vs ++ w ∷ []) (omega (arith, h, length-append vs (w ∷ [])))
    ∙ ap (λ (us : List Attribute). at (settle t s code us)) (append_assoc vs (w ∷ []) ws)

-- ---- an entry begins, and is given its first values

module _ (k : Ctx) (t : Table) (start : ℕ) (rows : List Row) (hs pool open_at : List ℕ) (here : ℕ) (xs : List Token) (vs : List Attribute) (l : AreLists k t start rows hs pool open_at None here xs vs) (r : Unfinished) (d : Declaration)
    (known : declared t r.code.value ≡ Some d) (children : d.children ≡ r.children) (count : length d.pairs ≡ r.count) (offset : r.offset ≡ here) (first : r.first ≡ length hs) (from : r.pool ≡ length pool)
    (fits : uleb.Fits (uleb_of r.code)) (not_null : is_null (uleb_of r.code) ≡ false) (level : length (spot_after xs).above < nesting) where
  pub begun_with : (ws : List Attribute) (bytes : List ℕ) → ArePlain k d.pairs ws bytes → r.given ≡ length ws
      → (rows' : List Row) (open' : List ℕ) (o : Option Unfinished) (hs' : List ℕ) (n m here' : ℕ) → hs' ≡ hs ++ bytes → here' ≡ here + (r.code.width + length bytes) → m ≡ length rows → n ≡ length open_at + 1
      → rows' ≡ settled_rows r n rows → open' ≡ settled_open r m open_at → o ≡ settled_unfinished r
      → StandFor k t start rows' hs' pool open' o here' (settle t (spot_after xs) (uleb_of r.code) ws)
  begun_with [] bytes h g rows' open' o hs' n m here' eh en em eo er eq eu =
      let same : hs' ≡ hs = eh ∙ ap (λ (b : List ℕ). hs ++ b) h ∙ append-nil hs in
      subst (λ (b : List ℕ). StandFor k t start rows' b pool open' o here' (settle t (spot_after xs) (uleb_of r.code) [])) (sym same)
      (entry_begun k t start rows hs pool open_at here xs vs l r d known children count g offset first from fits not_null level here' (omega (arith, en, ap length h)) rows' open' o n m em eo er eq eu)
  begun_with (w ∷ ws) bytes h g rows' open' o hs' n m here' eh en em eo er eq eu =
      let few = plain_few k d.pairs (w ∷ ws) bytes h in
      let l0 = entry_opens k t start rows hs pool open_at here xs vs l (given_all 0 r) d known children count refl offset first from fits not_null level (here + r.code.width) refl (omega (arith, few, count)) in
      let all : pairs_at t r.code.value ≡ d.pairs = ap declared_pairs known in
      plains_given k t start rows pool open_at xs ws w hs (here + r.code.width) [] (given_all 0 r) l0 d.pairs all bytes h (omega (arith, few, count))
      rows' open' o hs' n m r.given here' (omega (arith, g)) eh (omega (arith, en)) em eo er eq eu
