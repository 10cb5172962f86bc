-- Types whose texts are chains: marks and qualifiers one behind the other, and then a word.
use Rattle.std.specs.Prelude.{◌≡◌, ◌≤◌, ◌++◌, ℕ, suc, Bool, true, false, List, [], Vec, Result, Ok, Err, codes, unwrap_or}
use Rattle.std.specs.declared.alloc.AllocError.{AllocError}
use Rattle.std.specs.declared.alloc.Global.{Global}
use Rattle.dw_tree.specs.Lent.{EntryAt}
use Rattle.dw_ctype.specs.declared.kind.Kind.{Kind}
use Rattle.dw_ctype.specs.declared.kind.Kind.TheVariants.{Named, Tagged}
use Rattle.dw_ctype.specs.declared.typed.Typed.{Typed}
use Rattle.dw_ctype.specs.Names.{keyword}
use Rattle.dw_ctype.specs.Types.{Source, kind_of, name_of, say, under, under_type, is_bracketed}
use Rattle.dw_ctype.specs.InOrder.{cut, kind_cut, right, kind_right, word_before}
use Rattle.dw_ctype.specs.Visits.{visits, kind_visits}
use Rattle.dw_ctype.specs.Append.{Puts}

-- down to so many levels: the text is whole, nothing stands behind its declarator or in brackets, and it needs few
-- visits
pub record IsChain (s : Source) (depth : ℕ) (t : Typed) : Type 0 where
  pub whole : cut s.items depth t ≡ false
  pub ends : right s depth t ≡ []
  pub plain : (steps : ℕ) → is_bracketed (under_type (under s.items steps) s.items t) ≡ false
  pub few : visits s.items depth t ≤ suc depth

-- the same of an entry of an item, whose types' texts are so many levels deep
pub record IsChainFrom (s : Source) (depth i : ℕ) (e : EntryAt) : Type 0 where
  pub whole : kind_cut (cut s.items depth) s.items i e (kind_of e) ≡ false
  pub ends : kind_right (right s depth) (say s depth) s i e (kind_of e) ≡ []
  pub plain : (steps : ℕ) → is_bracketed (under s.items steps i e) ≡ false
  pub few : kind_visits (visits s.items depth) s.items i e (kind_of e) ≤ suc depth

-- what the text of an entry that goes on to no type has before its declarator
abbrev pub end_left : Source → ℕ → EntryAt → Kind → Bool → List ℕ
end_left s i e Named empty = word_before (unwrap_or (name_of s i e) (codes "<noname>")) empty
end_left s i e (Tagged k) empty = word_before (keyword k ++ unwrap_or (name_of s i e) (codes "{...}")) empty
end_left s i e _ empty = word_before (codes "<tag>") empty

-- what a call leaves that appends a text, or answers true and appends nothing. P is known where it tried
abbrev pub Tried : Type 0 → Vec ℕ Global → Vec ℕ Global → List ℕ → Result Bool AllocError → Type 0
Tried P old new text (Ok true) = new ≡ old
Tried P old new text (Ok false) = P × Puts old new text (Ok false)
Tried P old new text (Err e) = P × Puts {X = Bool} old new text (Err e)
