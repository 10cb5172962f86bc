-- The values at the front of an entry whose sizes their forms tell (section 7.5.6).
use Rattle.std.specs.Prelude.{◌≡◌, ◌≤◌, ◌⊎◌, ℕ, zero, suc, ◌+◌, ◌*◌, List, [], ◌∷◌, ◌++◌, length, take, slice_get, Option, Some, None, is_some, ◌==◌, ◌&&◌, if◌then◌else◌}
use Rattle.std.proofs.Common.{refl, sym, ap, subst, ◌∙◌, arith, length-append}
use Rattle.std.proofs.lemmas.List.{take-append-le, take_all}
use Rattle.dw_leb.specs.Constants.{DW_FORM_implicit_const}
use Rattle.dw_leb.specs.Number.{offset_size}
use Rattle.dw_form.specs.declared.shape.Ctx.{Ctx}
use Rattle.dw_form.specs.declared.size.FormSize.{FormSize}
use Rattle.dw_form.specs.declared.size.FormSize.TheVariants.{Bytes, Address, Offset}
use Rattle.dw_form.specs.FormSize.{told_form, size_in}
use Rattle.dw_abbrev.specs.Table.{Pair}
use Rattle.dw_abbrev.specs.declared.prefix.FixedPrefix.{FixedPrefix}

-- how many bytes the values of a pair have, where its form tells; those that are a constant of their declaration have
-- none
abbrev pub told : Pair → Option FormSize
told p = if is_some p.constant && p.form.value == DW_FORM_implicit_const then Some (Bytes 0) else told_form p.form.value

-- each pair tells the size of its values, and these are so many bytes in all
abbrev pub AreTold : Ctx → List Pair → ℕ → Type 0
AreTold k [] n = n ≡ 0
AreTold k (p ∷ ps) n = (s : FormSize) × (m : ℕ) × (told p ≡ Some s) × (n ≡ size_in k s + m) × AreTold k ps m

-- in a unit of this address size and format
abbrev pub prefix_size : Ctx → FixedPrefix → ℕ
prefix_size k f = f.bytes + (f.addresses * k.address_size + f.offsets * offset_size k.format)

-- a value of this size has so many bytes in each unit, or else is one address or one offset
abbrev pub bytes_in : FormSize → ℕ
bytes_in (Bytes n) = n
bytes_in _ = 0

abbrev pub addresses_in : FormSize → ℕ
addresses_in Address = 1
addresses_in _ = 0

abbrev pub offsets_in : FormSize → ℕ
offsets_in Offset = 1
offsets_in _ = 0

-- no more pairs could be counted
abbrev pub Stops : Option Pair → ℕ → Type 0
Stops None n = Unit {0}
Stops (Some p) n = (told p ≡ None) ⊎ (n ≡ 1024)

-- the values of the first pairs, as many as have sizes that are told
pub record IsPrefix (ps : List Pair) (f : FixedPrefix) : Type 0 where
  pub within : f.count ≤ length ps
  pub told : (k : Ctx) → AreTold k (take f.count ps) (prefix_size k f)
  pub most : Stops (slice_get ps f.count) f.count

-- ---- one pair more

told_push : (k : Ctx) (ps : List Pair) (p : Pair) (s : FormSize) (n m : ℕ) → AreTold k ps n → told p ≡ Some s
    → m ≡ n + size_in k s → AreTold k (ps ++ p ∷ []) m
told_push k [] p s n m h e is = (s, 0, e, omega (arith, h, is), refl)
told_push k (q ∷ ps) p s n m h e is =
    (h.0, h.1 + size_in k s, h.2, omega (arith, h.3, is), told_push k ps p s h.1 (h.1 + size_in k s) h.4 e refl)

get_push : (ps : List Pair) (p : Pair) (n : ℕ) → suc n ≤ length ps → slice_get (ps ++ p ∷ []) n ≡ slice_get ps n
get_push [] p n h = absurd (omega (arith, h))
get_push (q ∷ ps) p zero h = refl
get_push (q ∷ ps) p (suc n) h = get_push ps p n (omega (arith, h))

get_last : (ps : List Pair) (p : Pair) (n : ℕ) → n ≡ length ps → slice_get (ps ++ p ∷ []) n ≡ Some p
get_last [] p zero h = refl
get_last [] p (suc n) h = absurd (omega (arith, h))
get_last (q ∷ ps) p zero h = absurd (omega (arith, h))
get_last (q ∷ ps) p (suc n) h = get_last ps p n (omega (arith, h))

get_past : (ps : List Pair) (n : ℕ) → length ps ≤ n → slice_get ps n ≡ None
get_past [] n h = refl
get_past (q ∷ ps) zero h = absurd (omega (arith, h))
get_past (q ∷ ps) (suc n) h = get_past ps n (omega (arith, h))

module _ (ps : List Pair) (p : Pair) (f : FixedPrefix) (is : IsPrefix ps f) where
  same_told : (k : Ctx) → AreTold k (take f.count (ps ++ p ∷ [])) (prefix_size k f)
  same_told k =
      subst (λ (qs : List Pair). AreTold k qs (prefix_size k f)) (sym (take-append-le f.count ps (p ∷ []) is.within))
      (is.told k)

  within_more : f.count ≤ length (ps ++ p ∷ [])
  within_more = omega (arith, is.within, length-append ps (p ∷ []))

  -- a pair behind one that isn't counted
  pub prefix_kept : suc f.count ≤ length ps → IsPrefix (ps ++ p ∷ []) f
  prefix_kept h =
      record {
        within = within_more;
        told = same_told;
        most = subst (λ (o : Option Pair). Stops o f.count) (sym (get_push ps p f.count h)) is.most;
      }

  -- a pair that isn't counted itself
  pub prefix_stops : f.count ≡ length ps → (told p ≡ None) ⊎ (f.count ≡ 1024) → IsPrefix (ps ++ p ∷ []) f
  prefix_stops e h =
      record {
        within = within_more;
        told = same_told;
        most = subst (λ (o : Option Pair). Stops o f.count) (sym (get_last ps p f.count e)) h;
      }

  -- one that is
  pub prefix_with : (s : FormSize) (new : FixedPrefix) → f.count ≡ length ps → told p ≡ Some s → new.count ≡ f.count + 1
      → ((k : Ctx) → prefix_size k new ≡ prefix_size k f + size_in k s) → IsPrefix (ps ++ p ∷ []) new
  prefix_with s new e t n sum =
      let all : length (ps ++ p ∷ []) ≡ new.count = omega (arith, length-append ps (p ∷ []), e, n) in
      record {
        within = omega (arith, all);
        told = λ k.
            let own : AreTold k ps (prefix_size k f) =
            subst (λ (qs : List Pair). AreTold k qs (prefix_size k f)) (take_all f.count ps (omega (arith, e)))
            (is.told k) in
            subst (λ (qs : List Pair). AreTold k qs (prefix_size k new))
            (sym (take_all new.count (ps ++ p ∷ []) (omega (arith, all))))
            (told_push k ps p s (prefix_size k f) (prefix_size k new) own t (sum k));
        most =
            subst (λ (o : Option Pair). Stops o new.count)
            (sym (get_past (ps ++ p ∷ []) new.count (omega (arith, all)))) tt;
      }

-- ---- those of the first pairs, and no more

get_behind : (front rest : List Pair) (n : ℕ) → length front ≡ n → slice_get (front ++ rest) n ≡ slice_get rest 0
get_behind [] rest zero e = refl
get_behind [] rest (suc n) e = absurd (omega (arith, e))
get_behind (q ∷ front) rest zero e = absurd (omega (arith, e))
get_behind (q ∷ front) rest (suc n) e = get_behind front rest n (omega (arith, e))

pub prefix_front : (front rest : List Pair) (f : FixedPrefix) → IsPrefix front f → length front ≡ f.count
    → Stops (slice_get rest 0) f.count → IsPrefix (front ++ rest) f
prefix_front front rest f is all stops = record {
  within = omega (arith, all, length-append front rest);
  told =
      λ k.
      subst (λ (qs : List Pair). AreTold k qs (prefix_size k f)) (sym (take-append-le f.count front rest is.within))
      (is.told k);
  most = subst (λ (o : Option Pair). Stops o f.count) (sym (get_behind front rest f.count all)) stops;
}

pub prefix_empty : (f : FixedPrefix) → f.count ≡ 0 → ((k : Ctx) → prefix_size k f ≡ 0) → IsPrefix [] f
prefix_empty f e s =
    record {
      within = omega (arith, e);
      told = λ k. subst (λ (n : ℕ). AreTold k (take n []) (prefix_size k f)) (sym e) (s k);
      most = tt;
    }

regroup : (b x y c u v m n : ℕ) → (b + c) + ((x + u) * m + (y + v) * n) ≡ (b + (x * m + y * n)) + (c + (u * m + v * n))
regroup b x y c u v m n = omega arith

pub parts_size : (k : Ctx) (s : FormSize)
    → size_in k s ≡ bytes_in s + (addresses_in s * k.address_size + offsets_in s * offset_size k.format)
parts_size k (Bytes n) = omega arith
parts_size k Address = omega arith
parts_size k Offset = omega arith

-- the value has so many bytes, addresses and offsets
pub prefix_parts : (ps : List Pair) (p : Pair) (f : FixedPrefix) → IsPrefix ps f → length ps ≡ f.count → (s : FormSize)
    → told p ≡ Some s → (new : FixedPrefix) (b u v : ℕ) → new.count ≡ f.count + 1 → new.bytes ≡ f.bytes + b
    → new.addresses ≡ f.addresses + u → new.offsets ≡ f.offsets + v
    → ((k : Ctx) → size_in k s ≡ b + (u * k.address_size + v * offset_size k.format)) → IsPrefix (ps ++ p ∷ []) new
prefix_parts ps p f is all s t new b u v n eb eu ev own =
    prefix_with ps p f is s new (sym all) t n (λ k.
    ap (λ (i : ℕ). i + (new.addresses * k.address_size + new.offsets * offset_size k.format)) eb
    ∙ ap (λ (i : ℕ). (f.bytes + b) + (i * k.address_size + new.offsets * offset_size k.format)) eu
    ∙ ap (λ (i : ℕ). (f.bytes + b) + ((f.addresses + u) * k.address_size + i * offset_size k.format)) ev
    ∙ regroup f.bytes f.addresses f.offsets b u v k.address_size (offset_size k.format)
    ∙ ap (λ (i : ℕ). prefix_size k f + i) (sym (own k)))
