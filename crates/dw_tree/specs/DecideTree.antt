-- Values of a declaration, entries and their children, padding: each reader decides its part.
use Rattle.std.proofs.Common.{◌≡◌, ℕ, zero, suc, ◌+◌, ◌-◌, ◌<◌, ◌≤◌, Bool, true, false, cond, List, [], ◌∷◌, ◌++◌, length, drop, Option, Some, None, refl, sym, ap, subst, ◌∙◌, append_assoc, arith}
use Rattle.std.specs.Prelude.{if◌then◌else◌, ◌==◌}
use Rattle.std.proofs.lemmas.Bool.{eqb-true, eqb-false, ne_eqb}
use Rattle.std.proofs.lemmas.List.{drop_at, length-append}
use Rattle.dw_leb.specs.declared.errors.Reason.{Reason}
use Rattle.dw_leb.specs.declared.errors.Reason.TheVariants.{SecondRoot, TooDeep}
use Rattle.dw_leb.specs.Part.{Breaks, Part, After, ◌then◌, judged, nothing, optional, refused, Taken}
use Rattle.dw_leb.specs.Number.{Unsigned, uleb}
use Rattle.dw_leb.specs.Repeat.{repeated, ItemsFit}
use Rattle.dw_leb.specs.Reader.{Outcome, Found, Broken, Reader, ◌and_then◌, behind, paired, mapped, checked, returned}
use Rattle.dw_leb.specs.ReadNumber.{read_uleb}
use Rattle.dw_leb.specs.Decide.{Decides, Says, AreBytes, AreBytes-behind, found, broken, IsView, then_decides, judged_decides, seen_decides, nothing_decides, refused_decides, optional_decides}
use Rattle.dw_leb.specs.PartLaws.{Stays, After_stays, then_stays, judged_stays, nothing_stays, refused_stays, optional_stays}
use Rattle.dw_leb.specs.DecideRepeat.{behind_at, repeated_decides, repeated_stays, items_end}
use Rattle.dw_leb.specs.DecideNumber.{uleb_decides, uleb_stays, uleb_some}
use Rattle.dw_form.specs.declared.shape.Ctx.{Ctx}
use Rattle.dw_form.specs.Form.{Attribute, attribute}
use Rattle.dw_form.specs.DecideForm.{attribute_decides, attribute_stays}
use Rattle.dw_abbrev.specs.Table.{Pair, Table, is_null, zero_of, declared}
use Rattle.dw_abbrev.specs.DecideTable.{null_is}
use Rattle.dw_tree.specs.Tree.{Tree, leaf, branch, Forest, none, more, Body, node_of, nodes_of, as_node, as_nodes, first_value, no_value, values, declared_pairs, declares_children, bad_root, bad_child, body, children, tree, nulls, AreNulls, not_null, MoreBreaks, PaddingBreaks}
use Rattle.dw_tree.specs.ReadTree.{node_from, nodes_from, read_values, read_body, read_children, read_tree, read_padding}

-- ---- lists of numbers and of values

first_value_back : (xs : List Attribute) (a : Attribute × List Attribute) → first_value xs ≡ Some a → (a.0 ∷ a.1) ≡ xs
first_value_back [] a e = absurd cc
first_value_back (x ∷ xs) a e = let c : (x, xs) ≡ a = cc in ap (λ (y : Attribute × List Attribute). y.0 ∷ y.1) (sym c)

no_value_back : (xs : List Attribute) (a : Unit {0}) → no_value xs ≡ Some a → [] ≡ xs
no_value_back [] a e = refl
no_value_back (x ∷ xs) a e = absurd cc

pub values_decides : (k : Ctx) (ps : List Pair) → Decides (values k ps) (read_values k ps)
values_decides k [] =
    seen_decides nothing (returned tt) no_value (λ _. [])
    (record { back = λ x a e fits. no_value_back x a e; there = λ a fits. refl }) nothing_decides
values_decides k (p ∷ ps) =
    seen_decides (attribute k p.form.value p.constant then λ _. values k ps) _ first_value _
    (record { back = λ x a e fits. first_value_back x a e; there = λ a fits. refl })
    (then_decides _ _ _ _ (attribute_decides k p.form.value p.constant) (λ _. values_decides k ps))

values_stays : (k : Ctx) (ps : List Pair) → Stays (values k ps).Break
values_stays k [] = nothing_stays
values_stays k (p ∷ ps) =
    then_stays (attribute k p.form.value p.constant) (λ _. values k ps) (attribute_stays k p.form.value p.constant)
    (λ _. values_stays k ps)

-- ---- entries

abbrev EndsNull : Part (Forest × Unsigned) → Type 0
EndsNull kids = (x : Forest × Unsigned) → kids.Fits x → is_null x.1 ≡ true

node_back : (t : Tree) → node_from (node_of t) ≡ t
node_back (leaf code vs) = refl
node_back (branch code vs ts w) = refl

nodes_back : (f : Forest) → nodes_from (nodes_of f) ≡ f
nodes_back none = refl
nodes_back (more t ts) = rw (node_back t, nodes_back ts) refl

node_there : (k : Ctx) (t : Table) (kids : Part (Forest × Unsigned)) → EndsNull kids → (x : Unsigned × Body)
    → (body k t kids x.0).Fits x.1 → node_of (node_from x) ≡ x
node_there k t kids ends x fits = by x.0 x.1.0 x.1.1 (declares_children (declared t x.0.value)) fits.1
  where
    by : (code : Unsigned) (vs : List Attribute) (o : Option (Forest × Unsigned)) (b : Bool) → (optional b kids).Fits o
        → node_of (node_from (code, (vs, o))) ≡ (code, (vs, o))
    by code vs None b fits = refl
    by code vs (Some f) true fits = ap (λ (u : Unsigned). (code, (vs, Some (f.0, u)))) (null_is f.1 (ends f fits))
    by code vs (Some f) false fits = absurd fits

-- every item's own part gives back its nodes
nodes_there : (head : List (Unsigned × Body) → Part Unsigned) (content : Unsigned → Part Body)
    → ((x : Unsigned × Body) → (content x.0).Fits x.1 → node_of (node_from x) ≡ x)
    → (before xs : List (Unsigned × Body)) (end : Unsigned) → ItemsFit head is_null content before xs end
    → nodes_of (nodes_from xs) ≡ xs
nodes_there head content each before [] end fits = refl
nodes_there head content each before (x ∷ xs) end fits =
    rw (each x fits.0.2, nodes_there head content each (before ++ x ∷ []) xs end fits.1) refl

nodes_view : (head : List (Unsigned × Body) → Part Unsigned) (content : Unsigned → Part Body)
    → ((x : Unsigned × Body) → (content x.0).Fits x.1 → node_of (node_from x) ≡ x)
    → IsView (repeated head is_null content) as_nodes (λ x. (nodes_from x.0, x.1))
nodes_view head content each = record {
  back =
      λ x a e fits.
      let c : (nodes_of x.0, x.1) ≡ a = cc in
      ap (λ (y : List (Unsigned × Body) × Unsigned). (nodes_from y.0, y.1)) (sym c)
      ∙ ap (λ (f : Forest). (f, x.1)) (nodes_back x.0);
  there = λ a fits. rw (nodes_there head content each [] a.0 a.1 fits) refl;
}

child_wide : (t : Table) (room : Bool) (before : List (Unsigned × Body)) (h : Unsigned)
    → (judged uleb (bad_child t room)).Fits h → 0 < length (uleb.spell h)
child_wide t room before h fits = uleb_some h fits.0

body_decides : (k : Ctx) (t : Table) (kids : Part (Forest × Unsigned)) (R : Reader (Forest × Unsigned)) → Decides kids R
    → (code : Unsigned) → Decides (body k t kids code) (read_body k t R code)
body_decides k t kids R it code =
    then_decides _ _ _ _ (values_decides k (declared_pairs (declared t code.value)))
    (λ _. optional_decides (declares_children (declared t code.value)) kids R it)

pub children_end : (k : Ctx) (t : Table) (room : ℕ) → EndsNull (children k t room)
unfolding children
children_end k t zero x fits =
    items_end (λ _. judged uleb (bad_child t false)) is_null (λ _. refused TooDeep) [] (nodes_of x.0) x.1 fits
children_end k t (suc room) x fits =
    items_end (λ _. judged uleb (bad_child t true)) is_null (body k t (children k t room)) [] (nodes_of x.0) x.1 fits

pub children_decides : (k : Ctx) (t : Table) (room : ℕ) → Decides (children k t room) (read_children k t room)
unfolding children read_children
children_decides k t zero =
    seen_decides (repeated (λ _. judged uleb (bad_child t false)) is_null (λ _. refused TooDeep)) _ as_nodes _
    (nodes_view (λ _. judged uleb (bad_child t false)) (λ _. refused TooDeep) (λ x fits. absurd fits))
    (repeated_decides (λ _. judged uleb (bad_child t false)) is_null (λ _. refused TooDeep) _ _
    (λ _. judged_decides uleb read_uleb (bad_child t false) uleb_decides) (λ _. refused_decides TooDeep)
    (child_wide t false))
children_decides k t (suc room) =
    seen_decides (repeated (λ _. judged uleb (bad_child t true)) is_null (body k t (children k t room))) _ as_nodes _
    (nodes_view (λ _. judged uleb (bad_child t true)) (body k t (children k t room))
    (node_there k t (children k t room) (children_end k t room)))
    (repeated_decides (λ _. judged uleb (bad_child t true)) is_null (body k t (children k t room)) _
    (read_body k t (read_children k t room)) (λ _. judged_decides uleb read_uleb (bad_child t true) uleb_decides)
    (body_decides k t (children k t room) (read_children k t room) (children_decides k t room)) (child_wide t true))

pub tree_decides : (k : Ctx) (t : Table) (room : ℕ) → Decides (tree k t room) (read_tree k t room)
unfolding read_tree
tree_decides k t room = seen_decides (judged uleb (bad_root t) then body k t (children k t room)) _ as_node node_from
    (record {
      back = λ x a e fits. let c : node_of x ≡ a = cc in ap node_from (sym c) ∙ node_back x;
      there =
          λ a fits.
          ap (λ (y : Unsigned × Body). Some y)
          (node_there k t (children k t room) (children_end k t room) a fits.1);
    })
    (then_decides _ _ _ _ (judged_decides uleb read_uleb (bad_root t) uleb_decides)
    (body_decides k t (children k t room) (read_children k t room) (children_decides k t room)))

body_stays : (k : Ctx) (t : Table) (kids : Part (Forest × Unsigned)) → Stays kids.Break → (code : Unsigned)
    → Stays (body k t kids code).Break
body_stays k t kids it code =
    then_stays (values k (declared_pairs (declared t code.value)))
    (λ _. optional (declares_children (declared t code.value)) kids)
    (values_stays k (declared_pairs (declared t code.value)))
    (λ _. optional_stays (declares_children (declared t code.value)) kids it)

children_stays : (k : Ctx) (t : Table) (room : ℕ) → Stays (children k t room).Break
unfolding children
children_stays k t zero =
    repeated_stays (λ _. judged uleb (bad_child t false)) is_null (λ _. refused TooDeep) _ _
    (λ _. judged_decides uleb read_uleb (bad_child t false) uleb_decides) (λ _. refused_decides TooDeep)
    (child_wide t false)
    (λ _. judged_stays uleb (bad_child t false) uleb_stays) (λ _. refused_stays Body TooDeep)
children_stays k t (suc room) =
    repeated_stays (λ _. judged uleb (bad_child t true)) is_null (body k t (children k t room)) _
    (read_body k t (read_children k t room)) (λ _. judged_decides uleb read_uleb (bad_child t true) uleb_decides)
    (body_decides k t (children k t room) (read_children k t room) (children_decides k t room)) (child_wide t true)
    (λ _. judged_stays uleb (bad_child t true) uleb_stays)
    (body_stays k t (children k t room) (children_stays k t room))

pub tree_stays : (k : Ctx) (t : Table) (room : ℕ) → Stays (tree k t room).Break
tree_stays k t room =
    then_stays (judged uleb (bad_root t)) (body k t (children k t room)) (judged_stays uleb (bad_root t) uleb_stays)
    (body_stays k t (children k t room) (children_stays k t room))

-- ---- padding

pub After_split : (s t : List ℕ) (P : Breaks) (bytes : List ℕ) (lim offset : ℕ) (reason : Reason)
    → After (s ++ t) P bytes lim offset reason → After s (After t P) bytes lim offset reason
After_split s t P bytes lim offset reason h =
    let sum : length (s ++ t) ≡ length s + length t = length-append s t in
    let within : length (s ++ t) ≤ lim = h.within in
    let total : offset ≡ length (s ++ t) + h.own = h.sum in
    let left : lim - length (s ++ t) ≡ lim - length s - length t = omega arith in
    record {
      rest = t ++ h.rest;
      own = length t + h.own;
      split = h.split ∙ append_assoc s t h.rest;
      within = omega arith;
      sum = omega arith;
      breaks =
          record {
            rest = h.rest;
            own = h.own;
            split = refl;
            within = omega arith;
            sum = refl;
            breaks = subst (λ (n : ℕ). P h.rest n h.own reason) left h.breaks;
          };
    }

null_fits : (w : ℕ) → uleb.Fits (zero_of w) → (judged uleb not_null).Fits (zero_of w)
null_fits w fits = (fits, refl)

abbrev null_part : Part Unsigned
null_part = judged uleb not_null

null_decides : Decides null_part (checked read_uleb not_null)
null_decides = judged_decides uleb read_uleb not_null uleb_decides

abbrev next_null : ℕ → Reader (Unsigned × List ℕ)
next_null fuel = checked read_uleb not_null and_then λ _. read_padding fuel

pub padding_step : (fuel : ℕ) (bytes : List ℕ) (lim : ℕ) → 0 < lim
    → read_padding (suc fuel) bytes lim ≡ mapped (λ x. x.0.width ∷ x.1) (next_null fuel bytes lim)
padding_step fuel bytes lim lt = rw (ne_eqb lim 0 (λ e. omega (arith, e))) refl

pub padding_take : (fuel : ℕ) (ws rest : List ℕ) (lim : ℕ) → AreNulls ws → length (nulls ws) ≡ lim
    → length (nulls ws) ≤ fuel → read_padding fuel (nulls ws ++ rest) lim ≡ found ws (length (nulls ws))
padding_take zero [] rest lim fits e enough = refl
padding_take (suc fuel) [] rest lim fits e enough = rw (← e) refl
padding_take zero (w ∷ ws) rest lim fits e enough =
    absurd (omega (arith, uleb_some (zero_of w) fits.0, length-append (uleb.spell (zero_of w)) (nulls ws)))
padding_take (suc fuel) (w ∷ ws) rest lim fits e enough =
    let one : List ℕ = uleb.spell (zero_of w) in
    let some : 0 < length one = uleb_some (zero_of w) fits.0 in
    let sum : length (one ++ nulls ws) ≡ length one + length (nulls ws) = length-append one (nulls ws) in
    ap (λ (b : List ℕ). read_padding (suc fuel) b lim) (append_assoc one (nulls ws) rest)
    ∙ padding_step fuel (one ++ (nulls ws ++ rest)) lim (omega arith)
    ∙ ap (mapped (λ x. x.0.width ∷ x.1))
    (behind_at null_part (checked read_uleb not_null) null_decides (λ _. read_padding fuel) (zero_of w)
    (nulls ws ++ rest) lim (null_fits w fits.0) (omega arith)
    ∙ ap (paired (zero_of w) (length one))
    (padding_take fuel ws rest (lim - length one) fits.1 (omega arith) (omega arith)))
    ∙ ap (λ (n : ℕ). found (w ∷ ws) n) (sym sum)

pub padding_fault : (fuel : ℕ) (ws bytes : List ℕ) (lim offset : ℕ) (reason : Reason) → AreNulls ws
    → After (nulls ws) MoreBreaks bytes lim offset reason → length bytes < fuel
    → read_padding fuel bytes lim ≡ broken (List ℕ) offset reason
padding_fault zero ws bytes lim offset reason fits h enough = absurd (omega (arith, enough))
padding_fault (suc fuel) [] bytes lim offset reason fits h enough =
    let lim0 : lim - 0 ≡ lim = omega arith in
    let own : 0 + h.own ≡ offset = omega (arith, h.sum) in
    let breaks : MoreBreaks h.rest lim h.own reason =
    subst (λ (n : ℕ). MoreBreaks h.rest n h.own reason) lim0 h.breaks in
    ap (λ (b : List ℕ). read_padding (suc fuel) b lim) h.split
    ∙ padding_step fuel h.rest lim breaks.0
    ∙ ap (λ (o : _). mapped (λ x. x.0.width ∷ x.1) (behind o (λ _. read_padding fuel) h.rest lim))
    (null_decides.faults h.rest lim h.own reason breaks.1)
    ∙ ap (λ (n : ℕ). broken (List ℕ) n reason) (omega arith)
padding_fault (suc fuel) (w ∷ ws) bytes lim offset reason fits h enough =
    let one : List ℕ = uleb.spell (zero_of w) in
    let some : 0 < length one = uleb_some (zero_of w) fits.0 in
    let a = After_split one (nulls ws) MoreBreaks bytes lim offset reason h in
    let len : length bytes ≡ length one + length a.rest = ap length a.split ∙ length-append one a.rest in
    ap (λ (b : List ℕ). read_padding (suc fuel) b lim) a.split
    ∙ padding_step fuel (one ++ a.rest) lim (omega (arith, a.within))
    ∙ ap (mapped (λ x. x.0.width ∷ x.1))
    (behind_at null_part (checked read_uleb not_null) null_decides (λ _. read_padding fuel) (zero_of w) a.rest lim
    (null_fits w fits.0) a.within
    ∙ ap (paired (zero_of w) (length one))
    (padding_fault fuel ws a.rest (lim - length one) a.own reason fits.1 a.breaks (omega arith)))
    ∙ ap (λ (n : ℕ). broken (List ℕ) n reason) (sym a.sum)

pub padding_stays : Stays PaddingBreaks
padding_stays bytes tail lim offset reason ne h = (
  h.0,
  h.1,
  After_stays (nulls h.0) MoreBreaks (λ b m l o r n g. (g.0, judged_stays uleb not_null uleb_stays b m l o r n g.1))
      bytes tail lim offset reason ne h.2,
)

-- nulls that end exactly at the unit's end
pub record Padded (bytes : List ℕ) (lim : ℕ) (ws : List ℕ) (size : ℕ) : Type 0 where
  pub rest : List ℕ
  pub fits : AreNulls ws
  pub split : bytes ≡ nulls ws ++ rest
  pub is_size : length (nulls ws) ≡ size
  pub to_end : size ≡ lim

abbrev pub PaddingSays : List ℕ → ℕ → Outcome (List ℕ) → Type 0
PaddingSays bytes lim (Found ws size) = Padded bytes lim ws size
PaddingSays bytes lim (Broken offset reason) = PaddingBreaks bytes lim offset reason

not_null_none : (u : Unsigned) → not_null u ≡ None → is_null u ≡ true
not_null_none u e = by (is_null u) e
  where
    by : (b : Bool) → cond b None (Some SecondRoot) ≡ None → b ≡ true
    by true h = refl
    by false h = absurd cc

padding_said : (bytes : List ℕ) (lim : ℕ) (u : Unsigned) (size : ℕ) → 0 < lim → (g : Taken null_part bytes lim u size)
    (o : Outcome (List ℕ)) → PaddingSays g.rest (lim - size) o
    → PaddingSays bytes lim (mapped (λ x. x.0.width ∷ x.1) (paired u size o))
padding_said bytes lim u size some g (Found ws own) h =
    let z : zero_of u.width ≡ u = null_is u (not_null_none u g.fits.1) in
    let one : List ℕ = uleb.spell (zero_of u.width) in
    let same : one ≡ uleb.spell u = ap (λ (v : Unsigned). uleb.spell v) z in
    let len : length one ≡ size = ap length same ∙ g.is_size in
    let sum : length (one ++ nulls ws) ≡ length one + length (nulls ws) = length-append one (nulls ws) in
    record {
      rest = h.rest;
      fits = (subst (λ (v : Unsigned). uleb.Fits v) (sym z) g.fits.0, h.fits);
      split =
          g.split ∙ ap (λ (t : List ℕ). uleb.spell u ++ t) h.split
          ∙ ap (λ (t : List ℕ). t ++ (nulls ws ++ h.rest)) (sym same) ∙ sym (append_assoc one (nulls ws) h.rest);
      is_size = omega (arith, h.is_size);
      to_end = omega (arith, h.to_end, g.within);
    }
padding_said bytes lim u size some g (Broken offset reason) h =
    let z : zero_of u.width ≡ u = null_is u (not_null_none u g.fits.1) in
    let one : List ℕ = uleb.spell (zero_of u.width) in
    let same : one ≡ uleb.spell u = ap (λ (v : Unsigned). uleb.spell v) z in
    let len : length one ≡ size = ap length same ∙ g.is_size in
    let sum : length (one ++ nulls h.0) ≡ length one + length (nulls h.0) = length-append one (nulls h.0) in
    let a = h.2 in
    let left : lim - size - length (nulls h.0) ≡ lim - length (one ++ nulls h.0) = omega arith in (
      u.width ∷ h.0,
      (subst (λ (v : Unsigned). uleb.Fits v) (sym z) g.fits.0, h.1),
      record {
        rest = a.rest;
        own = a.own;
        split =
            g.split ∙ ap (λ (t : List ℕ). uleb.spell u ++ t) a.split
            ∙ ap (λ (t : List ℕ). t ++ (nulls h.0 ++ a.rest)) (sym same) ∙ sym (append_assoc one (nulls h.0) a.rest);
        within = omega (arith, a.within, g.within);
        sum = omega (arith, a.sum);
        breaks = subst (λ (n : ℕ). MoreBreaks a.rest n a.own reason) left a.breaks;
      },
    )

abbrev PaddingSaid : ℕ → Type 0
PaddingSaid fuel =
    (bytes : List ℕ) (lim : ℕ) → AreBytes bytes → length bytes < fuel
    → PaddingSays bytes lim (read_padding fuel bytes lim)

padding_says_step : (fuel : ℕ) → PaddingSaid fuel → PaddingSaid (suc fuel)
padding_says_step fuel ih bytes lim fit lt = by (lim == 0) refl
  where
    one : 0 < lim → (o : Outcome Unsigned) → Says null_part bytes lim o
        → PaddingSays bytes lim (mapped (λ x. x.0.width ∷ x.1) (behind o (λ _. read_padding fuel) bytes lim))
    one some (Broken offset reason) h =
        let lim0 : lim ≡ lim - 0 = omega arith in (
          [],
          tt,
          record {
            rest = bytes;
            own = offset;
            split = refl;
            within = omega arith;
            sum = omega arith;
            breaks = subst (λ (n : ℕ). MoreBreaks bytes n offset reason) lim0 (some, h);
          },
        )
    one some (Found u size) g =
        let d : drop size bytes ≡ g.rest =
        ap (λ (t : List ℕ). drop size t) g.split ∙ drop_at (uleb.spell u) g.rest size g.is_size in
        let wide : 0 < length (uleb.spell u) = uleb_some u g.fits.0 in
        let len : length bytes ≡ length (uleb.spell u) + length g.rest =
        ap length g.split ∙ length-append (uleb.spell u) g.rest in
        rw d
        (padding_said bytes lim u size some g (read_padding fuel g.rest (lim - size))
        (ih g.rest (lim - size) (AreBytes-behind (uleb.spell u) g.rest (rw g.split at fit)) (omega (arith, lt))))

    by : (v : Bool) → (lim == 0) ≡ v
        → PaddingSays bytes lim (if v then Found [] 0 else mapped (λ x. x.0.width ∷ x.1) (next_null fuel bytes lim))
    by true e = record { rest = bytes; fits = tt; split = refl; is_size = refl; to_end = sym (eqb-true lim 0 e) }
    by false e =
        one (omega (arith, eqb-false lim 0 e)) (checked read_uleb not_null bytes lim) (null_decides.says bytes lim fit)

pub padding_says : (fuel : ℕ) → PaddingSaid fuel
padding_says zero = λ bytes lim fit lt. absurd (omega (arith, lt))
padding_says (suc fuel) = padding_says_step fuel (padding_says fuel)
