-- A place of a unit where the next field begins: that all before it has a spelling, and how the next field breaks
-- there.
use Rattle.std.specs.Prelude.{◌≡◌, ℕ, zero, suc, ◌-◌, ◌<◌, List, [], ◌∷◌, length, true, false, Option, Some, None}
use Rattle.dw_leb.specs.Part.{Breaks, judged}
use Rattle.dw_leb.specs.Number.{Unsigned, uleb}
use Rattle.dw_leb.specs.Repeat.{ItemFits}
use Rattle.dw_form.specs.declared.shape.Ctx.{Ctx}
use Rattle.dw_form.specs.Form.{attribute}
use Rattle.dw_abbrev.specs.Table.{Pair, Table, declared, is_null}
use Rattle.dw_tree.specs.Tree.{Tree, Forest, none, more, node_of, values, declared_pairs, declares_children, unknown, bad_root, bad_child, body, children, nesting, AreNulls, MoreBreaks, unit_tree}
use Rattle.dw_tree.specs.Place.{Frame, UnfinishedEntry}
use Rattle.dw_tree.specs.Steps.{FirstsFit, next_pairs}
use Rattle.dw_feed.specs.Room.{has_room}

module _ (k : Ctx) (t : Table) where
  -- an entry of a chain, with room for so many levels below it
  abbrev pub ChildFits : ℕ → Tree → Type 0
  ChildFits room x =
      ItemFits (λ _. judged uleb (bad_child t true)) is_null (body k t (children k t room)) [] (node_of x)

  -- the entries of a chain that has room for so many levels
  abbrev pub ChainFits : ℕ → Forest → Type 0
  ChainFits zero none = Unit {0}
  ChainFits zero (more x ts) = ⊥
  ChainFits (suc room) none = Unit {0}
  ChainFits (suc room) (more x ts) = ChildFits room x × ChainFits (suc room) ts

  -- a code that may begin an entry
  pub record BeginsEntry (code : Unsigned) : Type 0 where
    pub fits : uleb.Fits code
    pub some : is_null code ≡ false
    pub known : unknown t code.value ≡ None

  -- an open entry has all its values, and children
  pub record IsOpen (f : Frame) : Type 0 where
    pub begins : BeginsEntry f.code
    pub values_fit : (values k (declared_pairs (declared t f.code.value))).Fits f.values
    pub parent : declares_children (declared t f.code.value) ≡ true

  -- what stands before a place in its chain: entries, or outermost at most the root
  abbrev pub RootFits : Forest → Type 0
  RootFits none = Unit {0}
  RootFits (more x none) = (unit_tree k t).Fits x
  RootFits (more x (more y ts)) = ⊥

  abbrev pub LeftFits : List Frame → ℕ → Forest → Type 0
  LeftFits [] room ts = RootFits ts
  LeftFits (f ∷ fs) room ts = ChainFits room ts

  -- nothing stands before the root
  abbrev pub BeforeFits : List Frame → ℕ → Forest → Type 0
  BeforeFits [] room ts = ts ≡ none
  BeforeFits (f ∷ fs) room ts = ChainFits room ts

  -- these entries are open, and the chain at the place has room for so many levels
  abbrev pub FramesFit : List Frame → ℕ → Type 0
  FramesFit [] room = room ≡ nesting
  FramesFit (f ∷ fs) room = IsOpen f × BeforeFits fs (suc room) f.left × FramesFit fs (suc room)

  -- an entry is unfinished: its code may begin one here, and some of its values are still to come
  pub record UnfinishedFits (fs : List Frame) (ts : Forest) (room : ℕ) (r : UnfinishedEntry) : Type 0 where
    pub begins : BeginsEntry r.code
    pub deep : 0 < room
    pub before : BeforeFits fs room ts
    pub values_fit : FirstsFit k (declared_pairs (declared t r.code.value)) r.values
    pub short : length r.values < length (declared_pairs (declared t r.code.value))

  -- what stands last before the place: the closed entries of its chain, or the unfinished entry
  abbrev pub SpotFits : List Frame → Forest → ℕ → Option UnfinishedEntry → Type 0
  SpotFits fs ts room None = LeftFits fs room ts
  SpotFits fs ts room (Some r) = UnfinishedFits fs ts room r

  -- nulls stand behind a closed root alone
  abbrev pub PaddingFits : List Frame → Forest → Option UnfinishedEntry → List ℕ → Type 0
  PaddingFits fs ts o [] = Unit {0}
  PaddingFits [] (more x ts) None (w ∷ ws) = AreNulls (w ∷ ws)
  PaddingFits fs ts o (w ∷ ws) = ⊥

  -- all that stands before the place has a spelling, with room for so many levels below it
  pub record PlaceFits (fs : List Frame) (ts : Forest) (o : Option UnfinishedEntry) (padding : List ℕ) : Type 0 where
    pub room : ℕ
    pub frames_fit : FramesFit fs room
    pub spot_fits : SpotFits fs ts room o
    pub padding_fits : PaddingFits fs ts o padding

  -- ---- the next field

  -- the value of the first of these pairs breaks
  abbrev pub ValueBreaks : List Pair → Breaks
  ValueBreaks [] bytes lim offset reason = ⊥
  ValueBreaks (p ∷ ps) bytes lim offset reason = (attribute k p.form.value p.constant).Break bytes lim offset reason

  -- the next field breaks: a value of the unfinished entry, the root's code, a code or null of a chain, a null of the
  -- padding
  abbrev pub NextBreaks : List Frame → Forest → Option UnfinishedEntry → Breaks
  NextBreaks fs ts (Some r) = ValueBreaks (next_pairs t r)
  NextBreaks [] none None = (judged uleb (bad_root t)).Break
  NextBreaks [] (more x ts) None = MoreBreaks
  NextBreaks (f ∷ fs) ts None = (judged uleb (bad_child t (has_room (nesting - length (f ∷ fs))))).Break
