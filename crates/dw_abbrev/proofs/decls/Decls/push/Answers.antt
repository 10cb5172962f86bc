use Rattle.std.proofs.Common.{◌≡◌, ◌∙◌, ◌++◌, ◌∷◌, [], Bool, false, List, None, Ok, Err, Result, OnOk, is_err, sym, subst, ap}
use Rattle.dw_leb.specs.Number.{Unsigned}
use Rattle.dw_abbrev.specs.Table.{Declaration, declared_in}
use Rattle.dw_abbrev.specs.Places.{AreApart, ArePlaces}
use Rattle.dw_abbrev.proofs.PlaceLemmas.{apart_push}
use Rattle.dw_abbrev.proofs.decls.Decls.push.Goals as goal

taken_down : {X E P : Type 0} (r : Result X E) → is_err r ≡ false → OnOk r P → P
taken_down (Ok x) e h = h
taken_down (Err x) e h = absurd cc

pub invariant_of-self-2 : goal.invariant_of-self-2
invariant_of-self-2 c =
    let ds : List Declaration = c.self.inside.list.items in
    let d : Declaration = c.args.decl in
    let same : c.make_room.new.list.items ≡ ds = c.make_room.ensures.items in
    let listed : c.push_reserved.new.self.items ≡ ds ++ d ∷ [] = c.push_reserved.ensures.items ∙ ap (λ (xs : List Declaration). xs ++ d ∷ []) same in
    let slice : c.as_slice.result.now ≡ ds = c.as_slice.ensures.value ∙ same in
    let absent : declared_in ds d.code.value ≡ None = subst (λ (xs : List Declaration). declared_in xs d.code.value ≡ None) (sym c.self.view_is) c.requires in
    let placed = taken_down c.note.result (sym c.is_err-2.ensures.value ∙ c.if-is_err-2.false) c.note.ensures.ok d (ap (λ (u : Unsigned). u.value) (sym c.code-code.ensures)) in
    record {
      places = subst (λ (xs : List Declaration). ArePlaces c.note.new.places.entries xs) (ap (λ (xs : List Declaration). xs ++ d ∷ []) slice ∙ sym listed) placed;
      apart = subst (λ (xs : List Declaration). AreApart xs []) (sym listed) (apart_push ds d c.self.invariant.apart absent);
    }
