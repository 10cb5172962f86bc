-- A value that is no text or block: its head is its spelling, and the pool has nothing of it.
use Rattle.std.proofs.Common.{◌≡◌, ℕ, ◌+◌, true, List, [], ◌∷◌, ◌++◌, length, take, drop, Option, Some, refl, sym, ap, ◌∙◌, arith, append-nil}
use Rattle.std.proofs.lemmas.List.{take_all}
use Rattle.dw_leb.specs.View.{uleb_of}
use Rattle.dw_form.specs.declared.shape.Ctx.{Ctx}
use Rattle.dw_form.specs.Form.{Attribute, Value, Num, Wide, Uleb, Sleb, Block, Text, Present, Implicit}
use Rattle.dw_form.specs.StoredView.{value_bytes}
use Rattle.dw_form.specs.Head.{finder, via_width}
use Rattle.dw_form.specs.HeadFront.{own_size, front_bytes}
use Rattle.dw_form.specs.HeadSize.{is_plain}
use Rattle.dw_abbrev.specs.Table.{Table}
use Rattle.dw_tree.specs.declared.row.Row.{Row}
use Rattle.dw_tree.specs.declared.row.Unfinished.{Unfinished}
use Rattle.dw_tree.specs.Row.{Token}
use Rattle.dw_tree.specs.Place.{spot_after}
use Rattle.dw_tree.specs.Flat.{pairs_at}
use Rattle.dw_tree.specs.Steps.{FirstFits, first_bytes, settle}
use Rattle.dw_tree.specs.Completed.{one_given, settled_rows, settled_open, settled_unfinished}
use Rattle.dw_tree.specs.DraftInvariant.{AreLists}
use Rattle.dw_tree.proofs.Lists.{StandFor, one_given_is_short, value_given, value_more}

all_taken : (v : Value) (via : ℕ) (bytes : List ℕ) → is_plain v ≡ true → take (own_size v via (length bytes)) bytes ≡ bytes
all_taken (Num x) via bytes e = take_all (length bytes) bytes (omega arith)
all_taken (Wide x) via bytes e = take_all (length bytes) bytes (omega arith)
all_taken (Uleb u) via bytes e = take_all (length bytes) bytes (omega arith)
all_taken (Sleb x) via bytes e = take_all (length bytes) bytes (omega arith)
all_taken (Block w b) via bytes e = absurd cc
all_taken (Text b) via bytes e = absurd cc
all_taken Present via bytes e = take_all (length bytes) bytes (omega arith)
all_taken (Implicit c) via bytes e = take_all (length bytes) bytes (omega arith)

no_finder : (v : Value) (n : ℕ) → is_plain v ≡ true → finder n v ≡ []
no_finder (Num x) n e = refl
no_finder (Wide x) n e = refl
no_finder (Uleb u) n e = refl
no_finder (Sleb x) n e = refl
no_finder (Block w b) n e = absurd cc
no_finder (Text b) n e = absurd cc
no_finder Present n e = refl
no_finder (Implicit c) n e = refl

no_content : (v : Value) → is_plain v ≡ true → value_bytes v ≡ []
no_content (Num x) e = refl
no_content (Wide x) e = refl
no_content (Uleb u) e = refl
no_content (Sleb x) e = refl
no_content (Block w b) e = absurd cc
no_content (Text b) e = absurd cc
no_content Present e = refl
no_content (Implicit c) e = refl

front_alone : (v : Attribute) (bytes : List ℕ) (n : ℕ) → is_plain v.value ≡ true → front_bytes v bytes ++ finder n v.value ≡ bytes
front_alone v bytes n e =
    ap (λ (b : List ℕ). front_bytes v bytes ++ b) (no_finder v.value n e) ∙ (append-nil (front_bytes v bytes) ∙ all_taken v.value (via_width v.via) bytes e)

-- one more such value, whose bytes go behind the heads
pub plain_given : (k : Ctx) (t : Table) (start : ℕ) (rows : List Row) (hs pool open_at : List ℕ) (here : ℕ) (xs : List Token) (vs : List Attribute) (r : Unfinished) (l : AreLists k t start rows hs pool open_at (Some r) here xs vs)
    (v : Attribute) → FirstFits k (drop (length vs) (pairs_at t r.code.value)) v → is_plain v.value ≡ true → (bytes : List ℕ) → bytes ≡ first_bytes k (drop (length vs) (pairs_at t r.code.value)) v
    → (rows' : List Row) (hs' open' : List ℕ) (o : Option Unfinished) (n m here' : ℕ) → hs' ≡ hs ++ bytes → here' ≡ here + length bytes → m ≡ length rows → n ≡ length open_at + 1
    → rows' ≡ settled_rows (one_given r) n rows → open' ≡ settled_open (one_given r) m open_at → o ≡ settled_unfinished (one_given r)
    → StandFor k t start rows' hs' pool open' o here' (settle t (spot_after xs) (uleb_of r.code) (vs ++ v ∷ []))
plain_given k t start rows hs pool open_at here xs vs r l v fits plain bytes e rows' hs' open' o n m here' eh en em eo er eq eu =
    let own = first_bytes k (drop (length vs) (pairs_at t r.code.value)) v in
    value_given k t start rows hs pool open_at here xs vs r l v fits hs' pool
    (eh ∙ ap (λ (b : List ℕ). hs ++ b) (e ∙ sym (front_alone v own (length pool) plain)))
    (sym (append-nil pool) ∙ ap (λ (b : List ℕ). pool ++ b) (sym (no_content v.value plain)))
    l.small here' (en ∙ ap (λ (b : List ℕ). here + length b) e) rows' open' o n m em eo er eq eu

-- the same, where others are still to come
pub plain_more : (k : Ctx) (t : Table) (start : ℕ) (rows : List Row) (hs pool open_at : List ℕ) (here : ℕ) (xs : List Token) (vs : List Attribute) (r : Unfinished) (l : AreLists k t start rows hs pool open_at (Some r) here xs vs)
    (v : Attribute) → FirstFits k (drop (length vs) (pairs_at t r.code.value)) v → is_plain v.value ≡ true → (bytes : List ℕ) → bytes ≡ first_bytes k (drop (length vs) (pairs_at t r.code.value)) v
    → (hs' : List ℕ) (here' : ℕ) → hs' ≡ hs ++ bytes → here' ≡ here + length bytes → one_given_is_short r
    → AreLists k t start rows hs' pool open_at (Some (one_given r)) here' xs (vs ++ v ∷ [])
plain_more k t start rows hs pool open_at here xs vs r l v fits plain bytes e hs' here' eh en short =
    let own = first_bytes k (drop (length vs) (pairs_at t r.code.value)) v in
    value_more k t start rows hs pool open_at here xs vs r l v fits hs' pool
    (eh ∙ ap (λ (b : List ℕ). hs ++ b) (e ∙ sym (front_alone v own (length pool) plain)))
    (sym (append-nil pool) ∙ ap (λ (b : List ℕ). pool ++ b) (sym (no_content v.value plain)))
    l.small here' (en ∙ ap (λ (b : List ℕ). here + length b) e) short
