-- Lines that are found, one after the other, and whether there is any.
use Rattle.std.proofs.Common.{◌≡◌, ◌∙◌, ℕ, Bool, true, false, ◌||◌, List, [], ◌∷◌, ◌++◌, Option, Ok, refl, sym, ap, length, map}
use Rattle.dw_section.specs.declared.item.Item.{Item as TheItem}
use Rattle.dw_section.specs.ItemView.{item_of}
use Rattle.dw_tool.specs.declared.output.Output.{Output}
use Rattle.dw_tool.specs.Output.{Puts}
use Rattle.dw_tool.specs.Find.{is_any}
use Rattle.dw_tool.proofs.Appending.{Reaches, reaches_end, reaches_more}

-- what was put is the text without the rest, and it says whether there is any text yet
pub record Finds {W : Type 0} (contents : W → Option (List ℕ)) (old new : Output W) (found : Bool) (rest text : List ℕ) : Type 0 where
  pub reaches : Reaches contents old new rest text
  pub any : is_any text ≡ found || is_any rest

any_both : (a b : List ℕ) → is_any (a ++ b) ≡ is_any a || is_any b
any_both [] b = refl
any_both (x ∷ a) b = refl

or_grouped : (p q r : Bool) → p || (q || r) ≡ (p || q) || r
or_grouped true q r = refl
or_grouped false q r = refl

or_false : (p : Bool) → p || false ≡ p
or_false true = refl
or_false false = refl

-- one piece more
pub finds_more : {W : Type 0} {v : Bool} (contents : W → Option (List ℕ)) (old mid new : Output W) (found : Bool) (a rest text : List ℕ)
    → Finds contents old mid found (a ++ rest) text → Puts contents mid new a (Ok v) → v ≡ is_any a → Finds contents old new (found || v) rest text
finds_more {v = v} contents old mid new found a rest text h k is = record {
  reaches = reaches_more h.reaches k;
  any = h.any ∙ ap (λ (b : Bool). found || b) (any_both a rest ∙ ap (λ (b : Bool). b || is_any rest) (sym is)) ∙ or_grouped found v (is_any rest);
}

-- nothing is to come
pub finds_puts : {W : Type 0} (contents : W → Option (List ℕ)) (old new : Output W) (found : Bool) (text : List ℕ) → Finds contents old new found [] text → Puts contents old new text (Ok found)
finds_puts contents old new found text h = reaches_end h.reaches

pub finds_any : {W : Type 0} (contents : W → Option (List ℕ)) (old new : Output W) (found : Bool) (text : List ℕ) → Finds contents old new found [] text → found ≡ is_any text
finds_any contents old new found text h = sym (or_false found) ∙ sym h.any

-- no item is left
pub none_left : (xs : List TheItem) → length xs ≡ 0 → map item_of xs ≡ []
none_left [] e = refl
none_left (x ∷ xs) e = absurd cc
