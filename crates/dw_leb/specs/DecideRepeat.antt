-- Items until a head that ends them.
use Rattle.std.proofs.Common.{◌≡◌, ℕ, zero, suc, ◌+◌, ◌-◌, ◌<◌, ◌≤◌, Bool, true, false, List, [], ◌∷◌, ◌++◌, length, drop, Option, Some, None, refl, sym, ap, subst, ◌∙◌, append_assoc, arith, inl, inr}
use Rattle.std.specs.Prelude.{if◌then◌else◌}
use Rattle.std.proofs.lemmas.List.{drop_at, length-append}
use Rattle.dw_leb.specs.Part.{Reason, Part, Taken}
use Rattle.dw_leb.specs.Repeat.{item_bytes, ItemFits, items_bytes, ItemsFit, BreaksBehind, repeated}
use Rattle.dw_leb.specs.Reader.{Outcome, Found, Broken, Reader, paired, behind, ◌and_then◌, mapped, read_optional, joined, read_items, read_repeated}
use Rattle.dw_leb.specs.Decide.{Decides, Says, AreBytes, AreBytes-behind, found, broken}
use Rattle.dw_leb.specs.PartLaws.{Stays, After_stays}

pub behind_at : {A B : Type 0} (P : Part A) (R : Reader A) (it : Decides P R) (S : A → Reader B) (a : A) (rest : List ℕ)
    (lim : ℕ) → P.Fits a → length (P.spell a) ≤ lim
    → (R and_then S) (P.spell a ++ rest) lim ≡ paired a (length (P.spell a)) (S a rest (lim - length (P.spell a)))
behind_at P R it S a rest lim fits within =
    rw (it.takes a rest lim fits within)
    (ap (λ (b : List ℕ). paired a (length (P.spell a)) (S a b (lim - length (P.spell a))))
    (drop_at (P.spell a) rest (length (P.spell a)) refl))

module _ {H B : Type 0} (head : List (H × B) → Part H) (ends : H → Bool) (body : H → Part B)
    (RH : List (H × B) → Reader H) (RB : H → Reader B)
    (dh : (before : List (H × B)) → Decides (head before) (RH before)) (db : (h : H) → Decides (body h) (RB h))
    (wide : (before : List (H × B)) (h : H) → (head before).Fits h → 0 < length ((head before).spell h)) where
  abbrev from : List (H × B) → Part (List (H × B) × H)
  from before = record {
    spell = λ x. items_bytes head ends body before x.0 x.1;
    Fits = λ x. ItemsFit head ends body before x.0 x.1;
    Break =
        λ bytes lim offset reason. (xs : List (H × B)) × BreaksBehind head ends body before xs bytes lim offset reason;
  }

  abbrev rest_of : ℕ → List (H × B) → H → Reader (Option (B × (List (H × B) × H)))
  rest_of fuel before h =
      read_optional (if ends h then false else true)
      (RB h and_then λ b. read_items RH ends RB fuel (before ++ (h, b) ∷ []))

  -- an end, and an item, at the front
  at_end : (fuel : ℕ) (before : List (H × B)) (h : H) (rest : List ℕ) (lim : ℕ) → ends h ≡ true
      → rest_of fuel before h rest lim ≡ found None 0
  at_end fuel before h rest lim e = rw e refl

  at_item : (fuel : ℕ) (before : List (H × B)) (h : H) (rest : List ℕ) (lim : ℕ) → ends h ≡ false
      → rest_of fuel before h rest lim
      ≡ mapped (λ a. Some a) ((RB h and_then λ b. read_items RH ends RB fuel (before ++ (h, b) ∷ [])) rest lim)
  at_item fuel before h rest lim e = rw e refl

  item_at : (fuel : ℕ) (before : List (H × B)) (x : H × B) (rest : List ℕ) (lim : ℕ) → ItemFits head ends body before x
      → length (item_bytes head ends body before x) ≤ lim
      → read_items RH ends RB (suc fuel) before (item_bytes head ends body before x ++ rest) lim
      ≡ mapped joined
      (paired x.0 (length ((head before).spell x.0))
      (mapped (λ a. Some a)
      (paired x.1 (length ((body x.0).spell x.1))
      (read_items RH ends RB fuel (before ++ x ∷ []) rest
      (lim - length (item_bytes head ends body before x))))))
  item_at fuel before x rest lim fits within =
      let hs : List ℕ = (head before).spell x.0 in
      let bs : List ℕ = (body x.0).spell x.1 in
      let sum : length (hs ++ bs) ≡ length hs + length bs = length-append hs bs in
      let left : lim - length hs - length bs ≡ lim - length (hs ++ bs) = omega arith in
      ap (λ (b : List ℕ). read_items RH ends RB (suc fuel) before b lim) (append_assoc hs bs rest)
      ∙ ap (mapped joined)
      (behind_at (head before) (RH before) (dh before) (rest_of fuel before) x.0 (bs ++ rest) lim fits.0
      (omega arith))
      ∙ ap (λ (o : _). mapped joined (paired x.0 (length hs) o))
      (at_item fuel before x.0 (bs ++ rest) (lim - length hs) fits.1
      ∙ ap (mapped (λ a. Some a))
      (behind_at (body x.0) (RB x.0) (db x.0) (λ b. read_items RH ends RB fuel (before ++ (x.0, b) ∷ [])) x.1 rest
      (lim - length hs) fits.2 (omega arith)
      ∙ ap (λ (n : ℕ). paired x.1 (length bs) (read_items RH ends RB fuel (before ++ x ∷ []) rest n)) left))

  items_take : (fuel : ℕ) (before xs : List (H × B)) (end : H) (rest : List ℕ) (lim : ℕ)
      → ItemsFit head ends body before xs end → length (items_bytes head ends body before xs end) ≤ lim
      → length (items_bytes head ends body before xs end) ≤ fuel
      → read_items RH ends RB fuel before (items_bytes head ends body before xs end ++ rest) lim
      ≡ found (xs, end) (length (items_bytes head ends body before xs end))
  items_take zero before [] end rest lim fits within enough = absurd (omega (arith, wide before end fits.0))
  items_take (suc fuel) before [] end rest lim fits within enough =
      let zero_more : length ((head before).spell end) + 0 ≡ length ((head before).spell end) = omega arith in
      ap (mapped joined)
      (behind_at (head before) (RH before) (dh before) (rest_of fuel before) end rest lim fits.0 within)
      ∙ ap (λ (o : _). mapped joined (paired end (length ((head before).spell end)) o))
      (at_end fuel before end rest (lim - length ((head before).spell end)) fits.1)
      ∙ ap (λ (n : ℕ). found ([], end) n) zero_more
  items_take zero before (x ∷ xs) end rest lim fits within enough =
      absurd
      (omega (
        arith,
        wide before x.0 fits.0.0,
        length-append (item_bytes head ends body before x) (items_bytes head ends body (before ++ x ∷ []) xs end),
        length-append ((head before).spell x.0) ((body x.0).spell x.1),
      ))
  items_take (suc fuel) before (x ∷ xs) end rest lim fits within enough =
      let one : List ℕ = item_bytes head ends body before x in
      let others : List ℕ = items_bytes head ends body (before ++ x ∷ []) xs end in
      let whole_sum : length (one ++ others) ≡ length one + length others = length-append one others in
      let sum : length one ≡ length ((head before).spell x.0) + length ((body x.0).spell x.1) =
      length-append ((head before).spell x.0) ((body x.0).spell x.1) in
      let some : 0 < length ((head before).spell x.0) = wide before x.0 fits.0.0 in
      let total : length ((head before).spell x.0) + (length ((body x.0).spell x.1) + length others)
      ≡ length (one ++ others) =
      omega arith in
      ap (λ (b : List ℕ). read_items RH ends RB (suc fuel) before b lim) (append_assoc one others rest)
      ∙ item_at fuel before x (others ++ rest) lim fits.0 (omega arith)
      ∙ ap
      (λ (o : _).
      mapped joined
      (paired x.0 (length ((head before).spell x.0))
      (mapped (λ a. Some a) (paired x.1 (length ((body x.0).spell x.1)) o))))
      (items_take fuel (before ++ x ∷ []) xs end rest (lim - length one) fits.1 (omega arith) (omega arith))
      ∙ ap (λ (n : ℕ). found (x ∷ xs, end) n) total

  items_fault : (fuel : ℕ) (before xs : List (H × B)) (bytes : List ℕ) (lim offset : ℕ) (reason : Reason)
      → length bytes < fuel → BreaksBehind head ends body before xs bytes lim offset reason
      → read_items RH ends RB fuel before bytes lim ≡ broken _ offset reason
  items_fault zero before xs bytes lim offset reason lt h = absurd (omega (arith, lt))
  items_fault (suc fuel) before [] bytes lim offset reason lt h = elim h [
    | inl one ↦ ap (λ (o : _). mapped joined (behind o (rest_of fuel before) bytes lim))
        ((dh before).faults bytes lim offset reason one)
    | inr two ↦ let hs : List ℕ = (head before).spell two.0 in let after = two.3 in
        ap (λ (b : List ℕ). read_items RH ends RB (suc fuel) before b lim) after.split
        ∙ ap (mapped joined)
        (behind_at (head before) (RH before) (dh before) (rest_of fuel before) two.0 after.rest lim two.1
        after.within)
        ∙ ap (λ (o : _). mapped joined (paired two.0 (length hs) o))
        (at_item fuel before two.0 after.rest (lim - length hs) two.2
        ∙ ap
        (λ (o : _).
        mapped (λ a. Some a)
        (behind o (λ b. read_items RH ends RB fuel (before ++ (two.0, b) ∷ [])) after.rest (lim - length hs)))
        ((db two.0).faults after.rest (lim - length hs) after.own reason after.breaks))
        ∙ ap (λ (n : ℕ). broken (List (H × B) × H) n reason) (sym after.sum)
  ]
  items_fault (suc fuel) before (x ∷ xs) bytes lim offset reason lt h =
      let after = h.1 in
      let one : List ℕ = item_bytes head ends body before x in
      let sum : length one ≡ length ((head before).spell x.0) + length ((body x.0).spell x.1) =
      length-append ((head before).spell x.0) ((body x.0).spell x.1) in
      let some : 0 < length ((head before).spell x.0) = wide before x.0 h.0.0 in
      let split : length bytes ≡ length one + length after.rest =
      ap length after.split ∙ length-append one after.rest in
      let total : length ((head before).spell x.0) + (length ((body x.0).spell x.1) + after.own) ≡ offset =
      omega (arith, after.sum) in
      ap (λ (b : List ℕ). read_items RH ends RB (suc fuel) before b lim) after.split
      ∙ item_at fuel before x after.rest lim h.0 after.within
      ∙ ap
      (λ (o : _).
      mapped joined
      (paired x.0 (length ((head before).spell x.0))
      (mapped (λ a. Some a) (paired x.1 (length ((body x.0).spell x.1)) o))))
      (items_fault fuel (before ++ x ∷ []) xs after.rest (lim - length one) after.own reason (omega arith)
      after.breaks)
      ∙ ap (λ (n : ℕ). broken (List (H × B) × H) n reason) total

  -- the other direction: what an item's reader says, and then what is said of the rest
  items_said : (fuel : ℕ) (before : List (H × B)) (bytes : List ℕ) (lim : ℕ) (h : H) (size : ℕ)
      (g : Taken (head before) bytes lim h size) (e : ends h ≡ false) (b : B) (own : ℕ)
      (k : Taken (body h) g.rest (lim - size) b own) (three : Outcome (List (H × B) × H))
      → Says (from (before ++ (h, b) ∷ [])) k.rest (lim - size - own) three
      → Says (from before) bytes lim (mapped joined (paired h size (mapped (λ a. Some a) (paired b own three))))
  items_said fuel before bytes lim h size g e b own k (Broken offset reason) q =
      let hs : List ℕ = (head before).spell h in
      let bs : List ℕ = (body h).spell b in
      let sum : length (hs ++ bs) ≡ length hs + length bs = length-append hs bs in
      let left : lim - size - own ≡ lim - length (hs ++ bs) = omega (arith, g.is_size, k.is_size) in (
        (h, b) ∷ q.0,
        (
          (g.fits, e, k.fits),
          record {
            rest = k.rest;
            own = offset;
            split = g.split ∙ ap (λ (t : List ℕ). hs ++ t) k.split ∙ sym (append_assoc hs bs k.rest);
            within = omega (arith, g.is_size, k.is_size, g.within, k.within);
            sum = omega (arith, g.is_size, k.is_size);
            breaks =
                subst (λ (n : ℕ). BreaksBehind head ends body (before ++ (h, b) ∷ []) q.0 k.rest n offset reason) left
                q.1;
          },
        ),
      )
  items_said fuel before bytes lim h size g e b own k (Found x more) q =
      let hs : List ℕ = (head before).spell h in
      let bs : List ℕ = (body h).spell b in
      let others : List ℕ = items_bytes head ends body (before ++ (h, b) ∷ []) x.0 x.1 in
      let sum : length (hs ++ bs) ≡ length hs + length bs = length-append hs bs in
      let whole_sum : length ((hs ++ bs) ++ others) ≡ length (hs ++ bs) + length others =
      length-append (hs ++ bs) others in
      record {
        rest = q.rest;
        fits = ((g.fits, e, k.fits), q.fits);
        split =
            g.split ∙ ap (λ (t : List ℕ). hs ++ t) (k.split ∙ ap (λ (t : List ℕ). bs ++ t) q.split)
            ∙ sym (append_assoc hs bs (others ++ q.rest)) ∙ sym (append_assoc (hs ++ bs) others q.rest);
        is_size = omega (arith, g.is_size, k.is_size, q.is_size);
        within = omega (arith, g.within, k.within, q.within);
      }

  abbrev Said : ℕ → Type 0
  Said fuel =
      (before : List (H × B)) (bytes : List ℕ) (lim : ℕ) → AreBytes bytes → length bytes < fuel
      → Says (from before) bytes lim (read_items RH ends RB fuel before bytes lim)

  items_step : (fuel : ℕ) → Said fuel → Said (suc fuel)
  items_step fuel ih before bytes lim fit lt = one (RH before bytes lim) ((dh before).says bytes lim fit)
    where
      two : (h : H) (size : ℕ) (g : Taken (head before) bytes lim h size) → ends h ≡ false → (o : Outcome B)
          → Says (body h) g.rest (lim - size) o
          → Says (from before) bytes lim
          (mapped joined
          (paired h size
          (mapped (λ a. Some a)
          (behind o (λ b. read_items RH ends RB fuel (before ++ (h, b) ∷ [])) g.rest (lim - size)))))
      two h size g e (Broken offset reason) k = (
        [],
        inr (
          h,
          g.fits,
          e,
          record {
            rest = g.rest;
            own = offset;
            split = g.split;
            within = omega (arith, g.is_size, g.within);
            sum = ap (λ (n : ℕ). n + offset) (sym g.is_size);
            breaks = rw g.is_size k;
          },
        ),
      )
      two h size g e (Found b own) k =
          let d : drop own g.rest ≡ k.rest =
          ap (λ (t : List ℕ). drop own t) k.split ∙ drop_at ((body h).spell b) k.rest own k.is_size in
          let some : 0 < length ((head before).spell h) = wide before h g.fits in
          let split : length bytes ≡ length ((head before).spell h) + length g.rest =
          ap length g.split ∙ length-append ((head before).spell h) g.rest in
          let split2 : length g.rest ≡ length ((body h).spell b) + length k.rest =
          ap length k.split ∙ length-append ((body h).spell b) k.rest in
          rw d
          (items_said fuel before bytes lim h size g e b own k
          (read_items RH ends RB fuel (before ++ (h, b) ∷ []) k.rest (lim - size - own))
          (ih (before ++ (h, b) ∷ []) k.rest (lim - size - own)
          (AreBytes-behind ((body h).spell b) k.rest
          (rw k.split at (AreBytes-behind ((head before).spell h) g.rest (rw g.split at fit))))
          (omega (arith, lt))))

      by_end : (h : H) (size : ℕ) (g : Taken (head before) bytes lim h size) (v : Bool) → ends h ≡ v
          → Says (from before) bytes lim
          (mapped joined
          (paired h size
          (read_optional (if v then false else true)
          (RB h and_then λ b. read_items RH ends RB fuel (before ++ (h, b) ∷ [])) g.rest (lim - size))))
      by_end h size g true e =
          record {
            rest = g.rest;
            fits = (g.fits, e);
            split = g.split;
            is_size = omega (arith, g.is_size);
            within = omega (arith, g.within);
          }
      by_end h size g false e =
          two h size g e (RB h g.rest (lim - size))
          ((db h).says g.rest (lim - size) (AreBytes-behind ((head before).spell h) g.rest (rw g.split at fit)))

      one : (o : Outcome H) → Says (head before) bytes lim o
          → Says (from before) bytes lim (mapped joined (behind o (rest_of fuel before) bytes lim))
      one (Broken offset reason) h = ([], inl h)
      one (Found h size) g =
          let d : drop size bytes ≡ g.rest =
          ap (λ (t : List ℕ). drop size t) g.split ∙ drop_at ((head before).spell h) g.rest size g.is_size in
          rw d (by_end h size g (ends h) refl)

  items_say : (fuel : ℕ) → Said fuel
  items_say zero = λ before bytes lim fit lt. absurd (omega (arith, lt))
  items_say (suc fuel) = items_step fuel (items_say fuel)

  pub repeated_decides : Decides (repeated head ends body) (read_repeated RH ends RB)
  repeated_decides = record {
    takes =
        λ x rest lim fits within.
        items_take (suc (length ((repeated head ends body).spell x ++ rest))) [] x.0 x.1 rest lim fits within
        (omega (arith, length-append ((repeated head ends body).spell x) rest));
    faults =
        λ bytes lim offset reason h. items_fault (suc (length bytes)) [] h.0 bytes lim offset reason (omega arith) h.1;
    says = λ bytes lim fit. items_say (suc (length bytes)) [] bytes lim fit (omega arith);
  }

  behind_stays : ((before : List (H × B)) → Stays (head before).Break) → ((h : H) → Stays (body h).Break)
      → (before xs : List (H × B)) → Stays (BreaksBehind head ends body before xs)
  behind_stays sh sb before [] bytes more lim offset reason ne h = elim h [
    | inl one ↦ inl (sh before bytes more lim offset reason ne one)
    | inr two ↦ inr (
      two.0,
      two.1,
      two.2,
      After_stays ((head before).spell two.0) (body two.0).Break (sb two.0) bytes more lim offset reason ne two.3,
    )
  ]
  behind_stays sh sb before (x ∷ xs) bytes more lim offset reason ne h = (
    h.0,
    After_stays (item_bytes head ends body before x) (BreaksBehind head ends body (before ++ x ∷ []) xs)
        (behind_stays sh sb (before ++ x ∷ []) xs) bytes more lim offset reason ne h.1,
  )

  pub repeated_stays : ((before : List (H × B)) → Stays (head before).Break) → ((h : H) → Stays (body h).Break)
      → Stays (repeated head ends body).Break
  repeated_stays sh sb bytes more lim offset reason ne h =
      (h.0, behind_stays sh sb [] h.0 bytes more lim offset reason ne h.1)

-- the head that ends items is an end
pub items_end : {H B : Type 0} (head : List (H × B) → Part H) (ends : H → Bool) (content : H → Part B)
    (before xs : List (H × B)) (end : H) → ItemsFit head ends content before xs end → ends end ≡ true
items_end head ends content before [] end fits = fits.1
items_end head ends content before (x ∷ xs) end fits = items_end head ends content (before ++ x ∷ []) xs end fits.1
