-- Declarations that stand one behind the other, and the tables that begin with each of them.
use Rattle.std.proofs.Common.{◌≡◌, ℕ, ◌+◌, ◌-◌, ◌<◌, false, List, [], ◌∷◌, ◌++◌, length, drop, None, refl, sym, ap, subst, ◌∙◌, append_assoc, arith}
use Rattle.std.proofs.lemmas.List.{length-append, length-drop, drop_at, drop-drop}
use Rattle.dw_leb.specs.Part.{Part}
use Rattle.dw_leb.specs.Number.{Unsigned, uleb}
use Rattle.dw_leb.specs.Reader.{Outcome, Reader}
use Rattle.dw_leb.specs.ReadNumber.{read_uleb}
use Rattle.dw_leb.specs.Decide.{AreBytes, Decides, Says, found}
use Rattle.dw_leb.specs.DecideNumber.{uleb_decides}
use Rattle.dw_abbrev.specs.Table.{Declaration, Table, IsZero, is_null, described, described_of, declared_in, zero_of, table, unbounded, TableAt}
use Rattle.dw_abbrev.specs.ReadTable.{read_described}
use Rattle.dw_abbrev.specs.DecideTable.{AreBytes-drop, described_decides}
use Rattle.dw_abbrev.specs.Build.{DeclarationFits}
use Rattle.dw_abbrev.specs.Laws.{table_some}
use Rattle.dw_abbrev.specs.Spelling.{declaration_bytes, declarations_bytes, table_bytes}
use Rattle.dw_abbrev.specs.Place.{Gives, drop_to}
use Rattle.dw_abbrev.specs.Places.{AreApart}
use Rattle.dw_abbrev.specs.Runs.{first_start, AreRows, StandTogether}
use Rattle.dw_abbrev.proofs.SpellLemmas.{declaration_spelled, table_spelled}
use Rattle.dw_abbrev.proofs.DeclLemmas.{zero_is}
use Rattle.dw_abbrev.proofs.BuildLemmas.{nothing_fits, table_led}

-- ---- what a reading gives stands there

module _ {X : Type 0} (P : Part X) (R : Reader X) (it : Decides P R) (abbreviations : List ℕ) (fit : AreBytes abbreviations) (at : ℕ) (x : X) (next : ℕ) (g : Gives R abbreviations at x next) where
  taken : Says P (drop at abbreviations) (unbounded abbreviations) (found x (next - at))
  taken = subst (λ (o : Outcome X). Says P (drop at abbreviations) (unbounded abbreviations) o) (g.reads (unbounded abbreviations) (omega arith)) (it.says (drop at abbreviations) (unbounded abbreviations) (AreBytes-drop at abbreviations fit))

  pub stands_there : drop at abbreviations ≡ P.spell x ++ drop next abbreviations
  stands_there =
      let rest : drop next abbreviations ≡ taken.rest = sym (drop_to abbreviations at next g.forward) ∙ (ap (λ (b : List ℕ). drop (next - at) b) taken.split ∙ drop_at (P.spell x) taken.rest (next - at) taken.is_size) in
      taken.split ∙ ap (λ (b : List ℕ). P.spell x ++ b) (sym rest)

  pub fits_there : P.Fits x
  fits_there = taken.fits

module _ (abbreviations : List ℕ) (fit : AreBytes abbreviations) (at : ℕ) (code : Unsigned) (behind : ℕ) (g : Gives read_uleb abbreviations at code behind) where
  module _ (d : Declaration) (same : d.code ≡ code) (some : is_null code ≡ false) (next : ℕ) (h : Gives read_described abbreviations behind (described_of d) next) where
    pub declaration_there : DeclarationFits d
    declaration_there = record {
      code = subst (λ (u : Unsigned). uleb.Fits u) (sym same) (fits_there uleb read_uleb uleb_decides abbreviations fit at code behind g);
      some = subst (λ (u : Unsigned). is_null u ≡ false) (sym same) some;
      rest = fits_there described read_described described_decides abbreviations fit behind (described_of d) next h;
    }

    pub row_there : drop at abbreviations ≡ declaration_bytes d ++ drop next abbreviations
    row_there =
        stands_there uleb read_uleb uleb_decides abbreviations fit at code behind g
        ∙ (ap (λ (u : Unsigned). uleb.spell u ++ drop behind abbreviations) (sym same)
        ∙ (ap (λ (b : List ℕ). uleb.spell d.code ++ b) (stands_there described read_described described_decides abbreviations fit behind (described_of d) next h)
        ∙ (sym (append_assoc (uleb.spell d.code) (described.spell (described_of d)) (drop next abbreviations))
        ∙ ap (λ (b : List ℕ). b ++ drop next abbreviations) (declaration_spelled d declaration_there.rest))))

-- ---- rows

first_pushed : (starts : List ℕ) (here next : ℕ) → first_start (starts ++ here ∷ []) next ≡ first_start starts here
first_pushed [] here next = refl
first_pushed (start ∷ starts) here next = refl

module _ (abbreviations : List ℕ) where
  pub rows_pushed : (starts : List ℕ) (ds : List Declaration) (here : ℕ) (d : Declaration) (next : ℕ) → AreRows abbreviations starts ds here
      → drop here abbreviations ≡ declaration_bytes d ++ drop next abbreviations → DeclarationFits d → AreRows abbreviations (starts ++ here ∷ []) (ds ++ d ∷ []) next
  rows_pushed [] [] here d next h e fit = (e, fit, tt)
  rows_pushed (start ∷ starts) (x ∷ ds) here d next h e fit =
      (h.0 ∙ ap (λ (n : ℕ). declaration_bytes x ++ drop n abbreviations) (sym (first_pushed starts here next)), h.1, rows_pushed starts ds here d next h.2 e fit)
  rows_pushed [] (x ∷ ds) here d next h e fit = absurd h
  rows_pushed (start ∷ starts) [] here d next h e fit = absurd h

  -- a table with one declaration more in front
  module _ (start : ℕ) (d : Declaration) (next : ℕ) (t : Table) (e : drop start abbreviations ≡ declaration_bytes d ++ drop next abbreviations) (fit : DeclarationFits d)
      (new : declared_in t.declarations d.code.value ≡ None) (there : TableAt abbreviations next t) where
    abbrev led : Table
    led = record { declarations = d ∷ t.declarations; last_zero = t.last_zero }

    led_fits : table.Fits led
    led_fits = table_led d t fit new there.fits

    led_split : drop start abbreviations ≡ table.spell led ++ there.rest
    led_split =
        let zero_bytes = uleb.spell (zero_of t.last_zero) in
        e ∙ (ap (λ (b : List ℕ). declaration_bytes d ++ b) (there.split ∙ ap (λ (b : List ℕ). b ++ there.rest) (table_spelled t there.fits))
        ∙ (sym (append_assoc (declaration_bytes d) (table_bytes t) there.rest)
        ∙ ap (λ (b : List ℕ). b ++ there.rest) (sym (append_assoc (declaration_bytes d) (declarations_bytes t.declarations) zero_bytes) ∙ sym (table_spelled led led_fits))))

    pub led_there : TableAt abbreviations start led
    led_there =
        let sum : length (drop start abbreviations) ≡ length (table.spell led) + length there.rest = ap length led_split ∙ length-append (table.spell led) there.rest in
        let size : length (drop start abbreviations) ≡ length abbreviations - start = length-drop start abbreviations in
        let some : 0 < length (table.spell led) = table_some led led_fits in
        record { inside = omega (arith, sum, size, some); fits = led_fits; rest = there.rest; split = led_split }

  -- the table that begins with the first row
  pub rows_stand : (starts : List ℕ) (ds : List Declaration) (behind : ℕ) (t : Table) → AreRows abbreviations starts ds behind → AreApart ds t.declarations → TableAt abbreviations behind t
      → TableAt abbreviations (first_start starts behind) (record { declarations = ds ++ t.declarations; last_zero = t.last_zero })
  rows_stand [] [] behind t rows apart there = there
  rows_stand (start ∷ starts) (d ∷ ds) behind t rows apart there =
      led_there start d (first_start starts behind) (record { declarations = ds ++ t.declarations; last_zero = t.last_zero }) rows.0 rows.1 apart.0 (rows_stand starts ds behind t rows.2 apart.1 there)
  rows_stand [] (d ∷ ds) behind t rows apart there = absurd rows
  rows_stand (start ∷ starts) [] behind t rows apart there = absurd rows

  -- without the first row
  pub rows_left : (start : ℕ) (starts : List ℕ) (ds : List Declaration) (n : ℕ) (t : Table) → StandTogether abbreviations (start ∷ starts) (drop n ds) t → StandTogether abbreviations starts (drop (n + 1) ds) t
  rows_left start starts ds n t h = go (drop n ds) refl h
    where
      go : (left : List Declaration) → drop n ds ≡ left → StandTogether abbreviations (start ∷ starts) left t → StandTogether abbreviations starts (drop (n + 1) ds) t
      go [] e k = absurd k.rows
      go (d ∷ left) e k =
          let rest : drop (n + 1) ds ≡ left = sym (drop-drop 1 n ds) ∙ ap (λ (xs : List Declaration). drop 1 xs) e in
          rw rest (record { behind = k.behind; rows = k.rows.2; apart = k.apart.1; there = k.there })

  -- the zero that ends a table
  pub zero_stands : AreBytes abbreviations → (here : ℕ) (last : Unsigned) (behind : ℕ) → Gives read_uleb abbreviations here last behind → IsZero last → TableAt abbreviations here (record { declarations = []; last_zero = last.width })
  zero_stands fit here last behind g is =
      let t : Table = record { declarations = []; last_zero = last.width } in
      let number : uleb.Fits (zero_of last.width) = subst (λ (u : Unsigned). uleb.Fits u) (zero_is last is) (fits_there uleb read_uleb uleb_decides abbreviations fit here last behind g) in
      let fits : table.Fits t = nothing_fits last.width number in
      let split : drop here abbreviations ≡ table.spell t ++ drop behind abbreviations =
      stands_there uleb read_uleb uleb_decides abbreviations fit here last behind g
      ∙ ap (λ (b : List ℕ). b ++ drop behind abbreviations) (ap (λ (u : Unsigned). uleb.spell u) (zero_is last is) ∙ sym (table_spelled t fits)) in
      let sum : length (drop here abbreviations) ≡ length (table.spell t) + length (drop behind abbreviations) = ap length split ∙ length-append (table.spell t) (drop behind abbreviations) in
      let size : length (drop here abbreviations) ≡ length abbreviations - here = length-drop here abbreviations in
      let some : 0 < length (table.spell t) = table_some t fits in
      record { inside = omega (arith, sum, size, some); fits = fits; rest = drop behind abbreviations; split = split }
