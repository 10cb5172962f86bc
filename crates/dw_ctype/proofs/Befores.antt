-- What is known of a type once the text before its declarator is appended.
use Rattle.std.proofs.Common.{◌≡◌, ◌∙◌, ◌-◌, ◌<◌, ℕ, Bool, true, false, List, Result, Ok, Err, Some, refl, sym, ap}
use Rattle.std.specs.Prelude.{IfOk}
use Rattle.std.specs.declared.alloc.AllocError.{AllocError}
use Rattle.dw_tree.specs.Lent.{EntryAt}
use Rattle.dw_section.specs.Item.{Item}
use Rattle.dw_section.specs.Lookup.{entry}
use Rattle.dw_section.specs.declared.id.EntryId.{EntryId}
use Rattle.dw_ctype.specs.declared.left.Before.{Before}
use Rattle.dw_ctype.specs.declared.typed.Typed.{Typed}
use Rattle.dw_ctype.specs.declared.typed.Typed.TheVariants.{Entry}
use Rattle.dw_ctype.specs.InOrder.{cut, type_cut, kind_cut}
use Rattle.dw_ctype.specs.Types.{kind_of}
use Rattle.dw_ctype.proofs.Levels.{cut_next}

pub ok_then : {X E : Type 0} {P Q : X → Type 0} (r : Result X E) → ((x : X) → P x → Q x) → IfOk r P → IfOk r Q
ok_then (Ok x) f h = f x h
ok_then (Err e) f h = tt

-- what holds of all values, if there is one
pub ok_all : {X E : Type 0} {P : X → Type 0} (r : Result X E) → ((x : X) → P x) → IfOk r P
ok_all (Ok x) f = f x
ok_all (Err e) f = tt

-- of a type that is written as a word
pub word_cut : (known : Bool) (r : Result Before AllocError) → known ≡ false → IfOk r (λ b. b ≡ record { cut = false; chain = true }) → IfOk r (λ b. b.cut ≡ known)
word_cut known r is h = ok_then r (λ b e. ap (λ (x : Before). x.cut) e ∙ sym is) h

-- whether the depth ends the text of an entry that a type is
pub cut_from : (items : List Item) (depth : ℕ) (t : Typed) (id : EntryId) (e : EntryAt) → 0 < depth → t ≡ Entry id → entry items id ≡ Some e
    → kind_cut (cut items (depth - 1)) items id.item e (kind_of e) ≡ cut items depth t
cut_from items depth t id e deep is there =
    let here : kind_cut (cut items (depth - 1)) items id.item e (kind_of e) ≡ type_cut (cut items (depth - 1)) items t = rw (is, there) refl in
    here ∙ cut_next items depth t deep
