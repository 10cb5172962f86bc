-- What of the heads of an entry's values becomes another, and that the values are then those with the number put.
use Rattle.std.proofs.Common.{◌≡◌, ℕ, ℤ, ◌+◌, ◌≤◌, ◌<◌, ◌^◌, List, [], ◌∷◌, ◌++◌, length, take, drop, refl, sym, ◌∙◌, ap, ap₂, subst, arith, length-append, append_assoc, take_all, Bool, true, false, Option, Some, None, option_map}
use Rattle.std.specs.Prelude.{◌==◌, if◌then◌else◌, IsSome}
use Rattle.std.proofs.lemmas.Bool.{ne_eqb}
use Rattle.std.proofs.lemmas.List.{drop_at, drop-drop}
use Rattle.std.proofs.Math.Seq.{drop-append-add, take-append-add}
use Rattle.dw_leb.specs.Number.{Signed}
use Rattle.dw_form.specs.declared.shape.Ctx.{Ctx}
use Rattle.dw_form.specs.Form.{Value, Num, Wide, Uleb, Sleb, Block, Text, Present, Implicit, Attribute, attribute}
use Rattle.dw_form.specs.StoredView.{bytes_in}
use Rattle.dw_form.specs.Pieces.{form_in, spelling, has_spelling}
use Rattle.dw_form.specs.Head.{head, head_at, Lies, via_width}
use Rattle.dw_form.specs.HeadLent.{head_there}
use Rattle.dw_form.specs.HeadFront.{own_size, front_bytes}
use Rattle.dw_form.specs.HeadSize.{is_plain}
use Rattle.dw_form.specs.Renumber.{renumbered, with_value}
use Rattle.dw_form.specs.Renumbered.{number_kept, old_content, new_content, new_head as plain_head, head_kept}
use Rattle.dw_abbrev.specs.Table.{Pair}
use Rattle.dw_tree.specs.Tree.{values}
use Rattle.dw_tree.specs.PoolBytes.{joined}
use Rattle.dw_tree.specs.RowHeads.{heads, lies_first, lies_next, behind_found, behind_first}
use Rattle.dw_tree.specs.Lent.{LentAttribute, lent_attribute, lent_attributes, first_named}
use Rattle.dw_tree.specs.Put.{or_own, put_value, put_first}
use Rattle.dw_tree.specs.Patch.{Patch, patch_by, patch_in, from_front, moved}

-- ---- a value without content is all front

plain_size : (v : Value) (via n : ℕ) → is_plain v ≡ true → own_size v via n ≡ n
plain_size (Num x) via n e = refl
plain_size (Wide x) via n e = refl
plain_size (Uleb u) via n e = refl
plain_size (Sleb s) via n e = refl
plain_size (Block width bytes) via n e = absurd cc
plain_size (Text bytes) via n e = absurd cc
plain_size Present via n e = refl
plain_size (Implicit s) via n e = refl

pub plain_front : (b : Attribute) (s : List ℕ) → is_plain b.value ≡ true → front_bytes b s ≡ s
plain_front b s e = ap (λ (n : ℕ). take n s) (plain_size b.value (via_width b.via) (length s) e) ∙ take_all (length s) s (omega arith)

-- ---- one value

-- whether it takes the number or not, it keeps its size and its content
pub record ValueKept (k : Ctx) (form : ℕ) (c : Option Signed) (v w : Attribute) : Type 0 where
  pub fits : (attribute k form c).Fits w
  pub size : length ((attribute k form c).spell w) ≡ length ((attribute k form c).spell v)
  pub content : bytes_in w ≡ bytes_in v
  pub head_size : (start : ℕ) → length (head k form start w) ≡ length (head k form start v)

pub value_kept : (k : Ctx) (form : ℕ) (c : Option Signed) (x : ℤ) (v : Attribute) → (attribute k form c).Fits v → ValueKept k form c v (put_value k form x v)
value_kept k form c x v fits = by (renumbered k (form_in form v.via) x v.value) refl
  where
    by : (o : Option Value) → renumbered k (form_in form v.via) x v.value ≡ o → ValueKept k form c v (or_own v (option_map (with_value v) o))
    by None e = record { fits = fits; size = refl; content = refl; head_size = λ start. refl }
    by (Some w) e =
        let h = number_kept k form c v x w fits e in
        record { fits = h.fits; size = h.size; content = new_content k form c v (with_value v w) fits h ∙ sym (old_content k form c v (with_value v w) fits h); head_size = λ start. head_kept k form c v (with_value v w) fits h start }

-- ---- the values of an entry

pub record AllKept (k : Ctx) (ps : List Pair) (vs ws : List Attribute) : Type 0 where
  pub fits : (values k ps).Fits ws
  pub size : length ((values k ps).spell ws) ≡ length ((values k ps).spell vs)
  pub content : joined ws ≡ joined vs
  pub heads_size : (start : ℕ) → length (heads k ps start ws) ≡ length (heads k ps start vs)

pub values_kept : (k : Ctx) (name : ℕ) (x : ℤ) (ps : List Pair) (vs : List Attribute) → (values k ps).Fits vs → AllKept k ps vs (put_first k name x ps vs)
values_kept k name x [] vs fits = record { fits = fits; size = refl; content = refl; heads_size = λ start. refl }
values_kept k name x (p ∷ ps) [] fits = absurd fits
values_kept k name x (p ∷ ps) (v ∷ vs) fits = by (p.name.value == name) (values_kept k name x ps vs fits.1)
  where
    by : (b : Bool) → AllKept k ps vs (put_first k name x ps vs) → AllKept k (p ∷ ps) (v ∷ vs) (if b then put_value k p.form.value x v ∷ vs else v ∷ put_first k name x ps vs)
    by true ih =
        let w = put_value k p.form.value x v in
        let h = value_kept k p.form.value p.constant x v fits.0 in
        record {
          fits = (h.fits, fits.1);
          size = omega (arith, h.size, length-append ((attribute k p.form.value p.constant).spell w) ((values k ps).spell vs), length-append ((attribute k p.form.value p.constant).spell v) ((values k ps).spell vs));
          content = ap (λ (b : List ℕ). b ++ joined vs) h.content;
          heads_size = λ start.
              let one = length-append (head k p.form.value start w) (heads k ps (start + length (bytes_in w)) vs) in
              let two = length-append (head k p.form.value start v) (heads k ps (start + length (bytes_in v)) vs) in
              let same = ap (λ (b : List ℕ). length (heads k ps (start + length b) vs)) h.content in
              omega (arith, one, two, same, h.head_size start);
        }
    by false ih =
        let ws = put_first k name x ps vs in
        record {
          fits = (fits.0, ih.fits);
          size = omega (arith, ih.size, length-append ((attribute k p.form.value p.constant).spell v) ((values k ps).spell ws), length-append ((attribute k p.form.value p.constant).spell v) ((values k ps).spell vs));
          content = ap (λ (b : List ℕ). bytes_in v ++ b) ih.content;
          heads_size = λ start.
              let n = start + length (bytes_in v) in
              omega (arith, length-append (head k p.form.value start v) (heads k ps n ws), length-append (head k p.form.value start v) (heads k ps n vs), ih.heads_size n);
        }

-- ---- what the code finds

-- heads in which these bytes stand at a place instead
abbrev pub pasted : List ℕ → Patch → List ℕ
pasted hs q = take q.0 hs ++ (q.1 ++ drop (q.0 + length q.1) hs)

pub record Patched (hs : List ℕ) (q : Patch) (new : List ℕ) : Type 0 where
  pub within : q.0 + length q.1 ≤ length hs
  pub is : pasted hs q ≡ new

-- behind other heads
pub patched_behind : (own hs : List ℕ) (q : Patch) (new : List ℕ) → Patched hs q new → Patched (own ++ hs) (moved (length own) q) (own ++ new)
patched_behind own hs q new h = record {
  within = omega (arith, h.within, length-append own hs);
  is =
      let sum : length own + q.0 + length q.1 ≡ length own + (q.0 + length q.1) = omega arith in
      ap₂ (λ (a b : List ℕ). a ++ (q.1 ++ b)) (take-append-add own hs q.0) (ap (λ (n : ℕ). drop n (own ++ hs)) sum ∙ drop-append-add own hs (q.0 + length q.1))
      ∙ (append_assoc own (take q.0 hs) (q.1 ++ drop (q.0 + length q.1) hs) ∙ ap (λ (b : List ℕ). own ++ b) h.is);
}

-- at the front
patched_front : (old new rest : List ℕ) → length new ≡ length old → Patched (old ++ rest) (from_front new) (new ++ rest)
patched_front old new rest e = record {
  within = omega (arith, e, length-append old rest);
  is = ap (λ (b : List ℕ). new ++ b) (drop_at old rest (0 + length new) (omega (arith, e)));
}

some_mapped : {X Y : Type 0} (f : X → Y) (o : Option X) (y : Y) → option_map f o ≡ Some y → (x : X) × (o ≡ Some x) × (f x ≡ y)
some_mapped f None y e = absurd cc
some_mapped f (Some x) y e = (x, refl, cc)

module _ (k : Ctx) (name : ℕ) (x : ℤ) (pool : List ℕ) (small : length pool < 256 ^ 8) where
  pub values_patched : (ps : List Pair) (vs : List Attribute) (start : ℕ) (rest : List ℕ) (q : Patch) → (values k ps).Fits vs → Lies pool start (joined vs) → patch_in k name x ps (heads k ps start vs ++ rest) pool ≡ Some q
      → Patched (heads k ps start vs ++ rest) q (heads k ps start (put_first k name x ps vs) ++ rest)
  values_patched [] vs start rest q fits lies e = absurd cc
  values_patched (p ∷ ps) [] start rest q fits lies e = absurd fits
  values_patched (p ∷ ps) (v ∷ vs) start rest q fits lies e =
      by (p.name.value == name) (λ r f. values_patched ps vs next rest r fits.1 (lies_next pool start (bytes_in v) (joined vs) lies) f)
      (ap (λ (o : Option (Attribute × ℕ)). patch_by k x p (p.name.value == name) o (λ n. patch_in k name x ps (drop n hs) pool)) (sym found) ∙ e)
    where
      own : List ℕ
      own = head k p.form.value start v

      next : ℕ
      next = start + length (bytes_in v)

      others : List ℕ
      others = heads k ps next vs

      hs : List ℕ
      hs = (own ++ others) ++ rest

      split : hs ≡ own ++ (others ++ rest)
      split = append_assoc own others rest

      found : head_at k p.form.value p.constant hs pool ≡ Some (v, length own)
      found = ap (λ (b : List ℕ). head_at k p.form.value p.constant b pool) split ∙ head_there k p.form.value p.constant v start (others ++ rest) pool (lies_first pool start (bytes_in v) (joined vs) lies) small fits.0

      behind : drop (length own) hs ≡ others ++ rest
      behind = ap (drop (length own)) split ∙ drop_at own (others ++ rest) (length own) refl

      first : (o : Option Value) → renumbered k (form_in p.form.value v.via) x v.value ≡ o → option_map from_front (option_map (spelling k p.form.value) (option_map (with_value v) o)) ≡ Some q
          → Patched hs q (heads k (p ∷ ps) start (or_own v (option_map (with_value v) o) ∷ vs) ++ rest)
      first None e f = absurd cc
      first (Some w) e f =
          let b = with_value v w in
          let h = number_kept k p.form.value p.constant v x w fits.0 e in
          let new = head k p.form.value start b in
          let same : new ≡ spelling k p.form.value b = plain_head k p.form.value p.constant v b fits.0 h start ∙ sym (has_spelling k p.form.value p.constant b h.fits).1 in
          let found_is : from_front (spelling k p.form.value b) ≡ q = cc in
          let is : from_front new ≡ q = ap from_front same ∙ found_is in
          let none : length (bytes_in b) ≡ length (bytes_in v) = ap length (new_content k p.form.value p.constant v b fits.0 h ∙ sym (old_content k p.form.value p.constant v b fits.0 h)) in
          let whole : new ++ (others ++ rest) ≡ heads k (p ∷ ps) start (b ∷ vs) ++ rest =
          sym (append_assoc new others rest) ∙ ap (λ (n : ℕ). (new ++ heads k ps (start + n) vs) ++ rest) (sym none) in
          subst (λ (r : Patch). Patched hs r (heads k (p ∷ ps) start (b ∷ vs) ++ rest)) is
          (subst (λ (a : List ℕ). Patched a (from_front new) (heads k (p ∷ ps) start (b ∷ vs) ++ rest)) (sym split)
          (subst (λ (z : List ℕ). Patched (own ++ (others ++ rest)) (from_front new) z) whole (patched_front own new (others ++ rest) (head_kept k p.form.value p.constant v b fits.0 h start))))

      by : (b : Bool) → ((r : Patch) → patch_in k name x ps (others ++ rest) pool ≡ Some r → Patched (others ++ rest) r (heads k ps next (put_first k name x ps vs) ++ rest)) → patch_by k x p b (Some (v, length own)) (λ n. patch_in k name x ps (drop n hs) pool) ≡ Some q
          → Patched hs q (heads k (p ∷ ps) start (if b then put_value k p.form.value x v ∷ vs else v ∷ put_first k name x ps vs) ++ rest)
      by true later f = first (renumbered k (form_in p.form.value v.via) x v.value) refl f
      by false later f =
          let m : (r : Patch) × (patch_in k name x ps (drop (length own) hs) pool ≡ Some r) × (moved (length own) r ≡ q) = some_mapped (moved (length own)) (patch_in k name x ps (drop (length own) hs) pool) q f in
          let ih = later m.0 (ap (λ (b : List ℕ). patch_in k name x ps b pool) (sym behind) ∙ m.1) in
          let new = heads k ps next (put_first k name x ps vs) in
          subst (λ (r : Patch). Patched hs r ((own ++ new) ++ rest)) m.2
          (subst (λ (a : List ℕ). Patched a (moved (length own) m.0) ((own ++ new) ++ rest)) (sym split)
          (subst (λ (z : List ℕ). Patched (own ++ (others ++ rest)) (moved (length own) m.0) z) (sym (append_assoc own new rest)) (patched_behind own (others ++ rest) m.0 (new ++ rest) ih)))

  -- where the first value of the name takes the number, there is a place
  pub values_found : (ps : List Pair) (vs : List Attribute) (start at : ℕ) (rest : List ℕ) (a : LentAttribute) → (values k ps).Fits vs → Lies pool start (joined vs) → first_named name (lent_attributes k at ps vs) ≡ Some a
      → IsSome (renumbered k a.form x a.attr.value) → patch_in k name x ps (heads k ps start vs ++ rest) pool ≡ None → ⊥
  values_found [] vs start at rest a fits lies first takes e = absurd cc
  values_found (p ∷ ps) [] start at rest a fits lies first takes e = absurd fits
  values_found (p ∷ ps) (v ∷ vs) start at rest a fits lies first takes e =
      by (p.name.value == name) (λ g f. values_found ps vs next (at + length (spelling k p.form.value v)) rest a fits.1 (lies_next pool start (bytes_in v) (joined vs) lies) g takes f) first
      (ap (λ (o : Option (Attribute × ℕ)). patch_by k x p (p.name.value == name) o (λ n. patch_in k name x ps (drop n hs) pool)) (sym found) ∙ e)
    where
      own : List ℕ
      own = head k p.form.value start v

      next : ℕ
      next = start + length (bytes_in v)

      others : List ℕ
      others = heads k ps next vs

      hs : List ℕ
      hs = (own ++ others) ++ rest

      split : hs ≡ own ++ (others ++ rest)
      split = append_assoc own others rest

      found : head_at k p.form.value p.constant hs pool ≡ Some (v, length own)
      found = ap (λ (b : List ℕ). head_at k p.form.value p.constant b pool) split ∙ head_there k p.form.value p.constant v start (others ++ rest) pool (lies_first pool start (bytes_in v) (joined vs) lies) small fits.0

      behind : drop (length own) hs ≡ others ++ rest
      behind = ap (drop (length own)) split ∙ drop_at own (others ++ rest) (length own) refl

      is_there : (o : Option Value) → IsSome o → option_map from_front (option_map (spelling k p.form.value) (option_map (with_value v) o)) ≡ None → ⊥
      is_there None some f = absurd cc
      is_there (Some w) some f = absurd cc

      none_mapped : (o : Option Patch) → option_map (moved (length own)) o ≡ None → o ≡ None
      none_mapped None h = refl
      none_mapped (Some r) h = absurd cc

      by : (b : Bool) → (first_named name (lent_attributes k (at + length (spelling k p.form.value v)) ps vs) ≡ Some a → patch_in k name x ps (others ++ rest) pool ≡ None → ⊥) → (if b then Some (lent_attribute at p v) else first_named name (lent_attributes k (at + length (spelling k p.form.value v)) ps vs)) ≡ Some a
          → patch_by k x p b (Some (v, length own)) (λ n. patch_in k name x ps (drop n hs) pool) ≡ None → ⊥
      by true later g f =
          let same : lent_attribute at p v ≡ a = cc in
          is_there (renumbered k (form_in p.form.value v.via) x v.value) (subst (λ (y : LentAttribute). IsSome (renumbered k y.form x y.attr.value)) (sym same) takes) f
      by false later g f = later g (ap (λ (b : List ℕ). patch_in k name x ps b pool) (sym behind) ∙ none_mapped (patch_in k name x ps (drop (length own) hs) pool) f)

-- ---- a step of the code

abbrev some_patch : Patch → Option Patch
some_patch q = Some q

moved_twice : (m n : ℕ) (o : Option Patch) → option_map (moved m) (option_map (moved n) o) ≡ option_map (moved (m + n)) o
moved_twice m n None = refl
moved_twice m n (Some q) =
    let sum : m + (n + q.0) ≡ m + n + q.0 = omega arith in
    ap (λ (i : ℕ). some_patch (i, q.1)) sum

-- a value of another name is passed
pub patch_step : (k : Ctx) (name : ℕ) (x : ℤ) (ps : List Pair) (p : Pair) (rest : List Pair) (hs pool : List ℕ) (at : ℕ) (v : Attribute) (own : ℕ) → ps ≡ p ∷ rest → head_at k p.form.value p.constant (drop at hs) pool ≡ Some (v, own)
    → (p.name.value ≡ name → ⊥) → option_map (moved at) (patch_in k name x ps (drop at hs) pool) ≡ option_map (moved (at + own)) (patch_in k name x rest (drop (at + own) hs) pool)
patch_step k name x ps p rest hs pool at v own is found other =
    ap (λ (qs : List Pair). option_map (moved at) (patch_in k name x qs (drop at hs) pool)) is
    ∙ (ap (λ (b : Bool). option_map (moved at) (patch_by k x p b (head_at k p.form.value p.constant (drop at hs) pool) (λ n. patch_in k name x rest (drop n (drop at hs)) pool))) (ne_eqb p.name.value name other)
    ∙ (ap (λ (o : Option (Attribute × ℕ)). option_map (moved at) (patch_by k x p false o (λ n. patch_in k name x rest (drop n (drop at hs)) pool))) found
    ∙ (moved_twice at own (patch_in k name x rest (drop own (drop at hs)) pool)
    ∙ ap (λ (b : List ℕ). option_map (moved (at + own)) (patch_in k name x rest b pool)) (drop-drop own at hs))))

-- what stands behind it
pub behind_step : (k : Ctx) (p : Pair) (hs pool : List ℕ) (at : ℕ) (v : Attribute) (own : ℕ) → head_at k p.form.value p.constant (drop at hs) pool ≡ Some (v, own) → behind_first k p (drop at hs) pool ≡ drop (at + own) hs
behind_step k p hs pool at v own found = ap (behind_found (drop at hs)) found ∙ drop-drop own at hs
