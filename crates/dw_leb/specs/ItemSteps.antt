-- The plain reader of items step by step, as a loop reads them: some items are read, and the rest follows.
use Rattle.std.proofs.Common.{◌≡◌, ℕ, suc, ◌+◌, ◌-◌, ◌<◌, ◌≤◌, Bool, true, false, List, [], ◌∷◌, ◌++◌, length, drop, Option, Some, sym, ap, ◌∙◌, append_assoc, append-nil, arith}
use Rattle.std.specs.Prelude.{if◌then◌else◌}
use Rattle.std.proofs.lemmas.List.{drop-drop, length-append}
use Rattle.dw_leb.specs.declared.errors.Reason.{Reason}
use Rattle.dw_leb.specs.Reader.{Outcome, Found, Broken, Reader, paired, behind, ◌and_then◌, mapped, read_optional, joined, read_items, read_repeated}
use Rattle.dw_leb.specs.Decide.{found, broken}

-- these items of so many bytes stand before what was read
abbrev pub put : {H B : Type 0} → List (H × B) → ℕ → Outcome (List (H × B) × H) → Outcome (List (H × B) × H)
put xs size (Found x more) = Found (xs ++ x.0, x.1) (size + more)
put xs size (Broken offset reason) = Broken (size + offset) reason

put_none : {H B : Type 0} (o : Outcome (List (H × B) × H)) → put [] 0 o ≡ o
put_none (Found x more) = ap (λ (n : ℕ). found x n) (omega arith)
put_none {H} {B} (Broken offset reason) = ap (λ (n : ℕ). broken (List (H × B) × H) n reason) (omega arith)

put_more : {H B : Type 0} (xs ys : List (H × B)) (m n : ℕ) (o : Outcome (List (H × B) × H))
    → put xs m (put ys n o) ≡ put (xs ++ ys) (m + n) o
put_more xs ys m n (Found x more) =
    ap (λ (zs : _). found (zs, x.1) (m + (n + more))) (sym (append_assoc xs ys x.0))
    ∙ ap (λ (k : ℕ). found ((xs ++ ys) ++ x.0, x.1) k) (omega arith)
put_more {H} {B} xs ys m n (Broken offset reason) = ap (λ (k : ℕ). broken (List (H × B) × H) k reason) (omega arith)

module _ {H B : Type 0} (head : List (H × B) → Reader H) (ends : H → Bool) (body : H → Reader B) where
  abbrev rest_of : ℕ → List (H × B) → H → Bool → Reader (Option (B × (List (H × B) × H)))
  rest_of fuel before h v =
      read_optional (if v then false else true)
      (body h and_then λ b. read_items head ends body fuel (before ++ (h, b) ∷ []))

  -- one step: an end, a break of the head, a break of the body, an item
  at_end : (fuel : ℕ) (before : List (H × B)) (bytes : List ℕ) (lim : ℕ) (h : H) (size : ℕ)
      → head before bytes lim ≡ found h size → ends h ≡ true
      → read_items head ends body (suc fuel) before bytes lim ≡ found ([], h) size
  at_end fuel before bytes lim h size e end =
      ap (λ (o : _). mapped joined (behind o (λ h. rest_of fuel before h (ends h)) bytes lim)) e
      ∙ ap (λ (v : Bool). mapped joined (paired h size (rest_of fuel before h v (drop size bytes) (lim - size)))) end
      ∙ ap (λ (n : ℕ). found ([], h) n) (omega arith)

  at_head_break : (fuel : ℕ) (before : List (H × B)) (bytes : List ℕ) (lim : ℕ) (offset : ℕ) (reason : Reason)
      → head before bytes lim ≡ broken H offset reason
      → read_items head ends body (suc fuel) before bytes lim ≡ broken (List (H × B) × H) offset reason
  at_head_break fuel before bytes lim offset reason e =
      ap (λ (o : _). mapped joined (behind o (λ h. rest_of fuel before h (ends h)) bytes lim)) e

  at_body_break : (fuel : ℕ) (before : List (H × B)) (bytes : List ℕ) (lim : ℕ) (h : H) (size : ℕ) (offset : ℕ)
      (reason : Reason) → head before bytes lim ≡ found h size → ends h ≡ false
      → body h (drop size bytes) (lim - size) ≡ broken B offset reason
      → read_items head ends body (suc fuel) before bytes lim ≡ broken (List (H × B) × H) (size + offset) reason
  at_body_break fuel before bytes lim h size offset reason e end b =
      ap (λ (o : _). mapped joined (behind o (λ h. rest_of fuel before h (ends h)) bytes lim)) e
      ∙ ap (λ (v : Bool). mapped joined (paired h size (rest_of fuel before h v (drop size bytes) (lim - size)))) end
      ∙ ap
      (λ (o : _).
      mapped joined
      (paired h size
      (mapped (λ a. Some a)
      (behind o (λ b. read_items head ends body fuel (before ++ (h, b) ∷ [])) (drop size bytes)
      (lim - size)))))
      b

  one_more : (h : H) (b : B) (size own : ℕ) (o : Outcome (List (H × B) × H))
      → mapped joined (paired h size (mapped (λ a. Some a) (paired b own o))) ≡ put ((h, b) ∷ []) (size + own) o
  one_more h b size own (Found x more) = ap (λ (n : ℕ). found ((h, b) ∷ x.0, x.1) n) (omega arith)
  one_more h b size own (Broken offset reason) = ap (λ (n : ℕ). broken (List (H × B) × H) n reason) (omega arith)

  at_item : (fuel : ℕ) (before : List (H × B)) (bytes : List ℕ) (lim : ℕ) (h : H) (b : B) (size own : ℕ)
      → head before bytes lim ≡ found h size → ends h ≡ false
      → body h (drop size bytes) (lim - size) ≡ found b own
      → read_items head ends body (suc fuel) before bytes lim
      ≡ put ((h, b) ∷ []) (size + own)
      (read_items head ends body fuel (before ++ (h, b) ∷ []) (drop (size + own) bytes) (lim - (size + own)))
  at_item fuel before bytes lim h b size own e end f =
      let next : List ℕ → ℕ → Outcome (List (H × B) × H) = read_items head ends body fuel (before ++ (h, b) ∷ []) in
      let left : lim - size - own ≡ lim - (size + own) = omega arith in
      ap (λ (o : _). mapped joined (behind o (λ h. rest_of fuel before h (ends h)) bytes lim)) e
      ∙ ap (λ (v : Bool). mapped joined (paired h size (rest_of fuel before h v (drop size bytes) (lim - size)))) end
      ∙ ap
      (λ (o : _).
      mapped joined
      (paired h size
      (mapped (λ a. Some a)
      (behind o (λ b. read_items head ends body fuel (before ++ (h, b) ∷ [])) (drop size bytes)
      (lim - size)))))
      f
      ∙ one_more h b size own (next (drop own (drop size bytes)) (lim - size - own))
      ∙ ap (λ (s : List ℕ). put ((h, b) ∷ []) (size + own) (next s (lim - size - own))) (drop-drop own size bytes)
      ∙ ap (λ (n : ℕ). put ((h, b) ∷ []) (size + own) (next (drop (size + own) bytes) n)) left

  -- The items before are read, in so many bytes: the whole reading is the reading of the rest, put behind them.
  pub record ReadSoFar (bytes : List ℕ) (lim : ℕ) (before : List (H × B)) (size : ℕ) : Type 0 where
    pub within : size ≤ length bytes
    pub few : length before ≤ size
    pub is_rest : read_repeated head ends body bytes lim
        ≡ put before size
        (read_items head ends body (suc (length bytes - length before)) before (drop size bytes) (lim - size))

  pub none_read : (bytes : List ℕ) (lim : ℕ) → ReadSoFar bytes lim [] 0
  none_read bytes lim = record {
    within = omega arith;
    few = omega arith;
    is_rest =
        let all : length bytes ≡ length bytes - 0 = omega arith in
        let left : lim ≡ lim - 0 = omega arith in
        sym (put_none (read_items head ends body (suc (length bytes)) [] bytes lim))
        ∙ ap (λ (n : ℕ). put [] 0 (read_items head ends body (suc n) [] bytes lim)) all
        ∙ ap (λ (n : ℕ). put [] 0 (read_items head ends body (suc (length bytes - 0)) [] bytes n)) left;
  }

  -- one item more, of at least a byte
  pub one_read : (bytes : List ℕ) (lim : ℕ) (before : List (H × B)) (size : ℕ) → ReadSoFar bytes lim before size
      → (h : H) (b : B) (first own : ℕ)
      → head before (drop size bytes) (lim - size) ≡ found h first → ends h ≡ false
      → body h (drop first (drop size bytes)) (lim - size - first) ≡ found b own
      → 0 < first + own → size + (first + own) ≤ length bytes
      → ReadSoFar bytes lim (before ++ (h, b) ∷ []) (size + (first + own))
  one_read bytes lim before size s h b first own e end f some within =
      let longer : length (before ++ (h, b) ∷ []) ≡ length before + 1 = length-append before ((h, b) ∷ []) in
      let fuel : ℕ = length bytes - length (before ++ (h, b) ∷ []) in
      let fuels : length bytes - length before ≡ suc fuel = omega (arith, s.within, s.few) in
      let next : List ℕ → ℕ → Outcome (List (H × B) × H) =
      read_items head ends body (suc fuel) (before ++ (h, b) ∷ []) in
      let left : lim - size - (first + own) ≡ lim - (size + (first + own)) = omega arith in
      record {
        within = within;
        few = omega (arith, s.few);
        is_rest = s.is_rest
            ∙ ap (λ (n : ℕ). put before size (read_items head ends body (suc n) before (drop size bytes) (lim - size)))
            fuels
            ∙ ap (put before size) (at_item (suc fuel) before (drop size bytes) (lim - size) h b first own e end f)
            ∙ put_more before ((h, b) ∷ []) size (first + own)
            (next (drop (first + own) (drop size bytes)) (lim - size - (first + own)))
            ∙ ap
            (λ (t : List ℕ).
            put (before ++ (h, b) ∷ []) (size + (first + own)) (next t (lim - size - (first + own))))
            (drop-drop (first + own) size bytes)
            ∙ ap
            (λ (n : ℕ).
            put (before ++ (h, b) ∷ []) (size + (first + own)) (next (drop (size + (first + own)) bytes) n))
            left;
      }

  -- the end
  pub all_read : (bytes : List ℕ) (lim : ℕ) (before : List (H × B)) (size : ℕ) → ReadSoFar bytes lim before size
      → (h : H) (first : ℕ)
      → head before (drop size bytes) (lim - size) ≡ found h first → ends h ≡ true
      → read_repeated head ends body bytes lim ≡ found (before, h) (size + first)
  all_read bytes lim before size s h first e end =
      s.is_rest
      ∙ ap (put before size) (at_end (length bytes - length before) before (drop size bytes) (lim - size) h first e end)
      ∙ ap (λ (xs : List (H × B)). found (xs, h) (size + first)) (append-nil before)

  -- a break in the next head
  pub head_breaks : (bytes : List ℕ) (lim : ℕ) (before : List (H × B)) (size : ℕ) → ReadSoFar bytes lim before size
      → (offset : ℕ) (reason : Reason)
      → head before (drop size bytes) (lim - size) ≡ broken H offset reason
      → read_repeated head ends body bytes lim ≡ broken (List (H × B) × H) (size + offset) reason
  head_breaks bytes lim before size s offset reason e =
      s.is_rest
      ∙ ap (put before size)
      (at_head_break (length bytes - length before) before (drop size bytes) (lim - size) offset reason e)

  -- a break behind the next head
  pub body_breaks : (bytes : List ℕ) (lim : ℕ) (before : List (H × B)) (size : ℕ) → ReadSoFar bytes lim before size
      → (h : H) (first offset : ℕ) (reason : Reason)
      → head before (drop size bytes) (lim - size) ≡ found h first → ends h ≡ false
      → body h (drop first (drop size bytes)) (lim - size - first) ≡ broken B offset reason
      → read_repeated head ends body bytes lim ≡ broken (List (H × B) × H) (size + (first + offset)) reason
  body_breaks bytes lim before size s h first offset reason e end f =
      s.is_rest
      ∙ ap (put before size)
      (at_body_break (length bytes - length before) before (drop size bytes) (lim - size) h first offset reason e
      end f)
