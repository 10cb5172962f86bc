-- Where a text is given, and appended.
use Rattle.std.proofs.Common.{◌≡◌, ◌∙◌, ℕ, Bool, true, false, List, ◌++◌, Some, Result, Ok, Err, refl, sym, ap, arith}
use Rattle.std.specs.Prelude.{Vec, nat_le, is_some, is_err}
use Rattle.std.specs.declared.alloc.Global.{Global}
use Rattle.std.specs.declared.alloc.AllocError.{AllocError}
use Rattle.std.proofs.lemmas.Bool.{le-leb}
use Rattle.dw_tree.specs.Lent.{EntryAt}
use Rattle.dw_section.specs.Lookup.{entry}
use Rattle.dw_section.specs.declared.id.EntryId.{EntryId}
use Rattle.dw_ctype.specs.declared.typed.Typed.{Typed}
use Rattle.dw_ctype.specs.Answer.{answer, answer_by, answer_of}
use Rattle.dw_ctype.specs.Append.{Grows}
use Rattle.dw_ctype.specs.Chain.{IsChain, Tried}
use Rattle.dw_ctype.specs.Types.{Source, say, subject, type_text}
use Rattle.dw_ctype.specs.Visits.{less, visits, entry_text_visits}

-- as much was there to be taken
pub few : (n left : ℕ) → is_some (less n left) ≡ true → nat_le n left ≡ true
few n left h = by (nat_le n left) refl
  where
    by : (v : Bool) → nat_le n left ≡ v → nat_le n left ≡ true
    by true e = e
    by false e = let same : is_some (less n left) ≡ false = rw e refl in cc

pub few_answered : (s : Source) (t : Typed) (name : List ℕ) → nat_le (visits s.items 64 t) 1024 ≡ true → answer_by s t name ≡ Ok (say s 64 t name)
few_answered s t name h = rw h refl

-- what is answered for an entry is what is for the type of which its text is
pub answer_is : (s : Source) (id : EntryId) (name : List ℕ) (e : EntryAt) (t : Typed) → entry s.items id ≡ Some e → t ≡ subject s.items id e → answer s id name ≡ answer_by s t name
answer_is s id name e t there is = ap (answer_of s id name) there ∙ ap (λ (x : Typed). answer_by s x name) (sym is)

pub answered : (s : Source) (id : EntryId) (name : List ℕ) (e : EntryAt) → entry s.items id ≡ Some e → nat_le (entry_text_visits s.items id e) 1024 ≡ true → answer s id name ≡ Ok (type_text s id e name)
answered s id name e there h = ap (answer_of s id name) there ∙ rw h refl

-- a chain needs few visits
pub chain_answered : (s : Source) (id : EntryId) (name : List ℕ) (e : EntryAt) (t : Typed) → entry s.items id ≡ Some e → t ≡ subject s.items id e → IsChain s 64 t → answer s id name ≡ Ok (type_text s id e name)
chain_answered s id name e t there is h =
    let few_of = h.few in
    answered s id name e there (ap (λ (x : Typed). nat_le (visits s.items 64 x) 1024) (sym is) ∙ le-leb (visits s.items 64 t) 1024 (omega (arith, few_of)))

pub grown : {X : Type 0} (r : Result X AllocError) (old new text : List ℕ) → is_err r ≡ false → Grows old new text r → new ≡ old ++ text
grown (Ok v) old new text h grows = grows
grown (Err e) old new text h grows = cc

-- where it was no chain nothing was appended
pub tried_other : (P : Type 0) (text : List ℕ) {old new : Vec ℕ Global} (r : Result Bool AllocError) → r ≡ Ok true → Tried P old new text r → new ≡ old
tried_other P text (Ok true) is h = h
tried_other P text (Ok false) is h = absurd cc
tried_other P text (Err e) is h = absurd cc
