-- The steps of reading a table.
use Rattle.std.proofs.Common.{◌≡◌, ◌-◌, ◌<◌, ◌≤◌, ℕ, Bool, true, false, List, [], ◌∷◌, ◌++◌, length, drop, Option, Some, None, is_some, refl, sym, ap, subst, ◌∙◌, arith, inl, inr}
use Rattle.std.specs.Prelude.{◌⊎◌, Result, Ok, Err, IfOk, IfSome, IfErr, map, ◌||◌, ◌==◌, if◌then◌else◌}
use Rattle.std.proofs.lemmas.List.{map-append}
use Rattle.dw_leb.specs.declared.errors.Reason.TheVariants.{DuplicateCode}
use Rattle.dw_leb.specs.declared.errors.ReadError.{ReadError}
use Rattle.dw_leb.specs.declared.errors.ReadError.TheVariants as reads
use Rattle.dw_leb.specs.Part.{judged}
use Rattle.dw_leb.specs.Number.{Unsigned, uleb}
use Rattle.dw_leb.specs.Reader.{Outcome}
use Rattle.dw_leb.specs.ReadNumber.{read_uleb}
use Rattle.dw_leb.specs.Decide.{AreBytes, Says, found, broken, judged_decides}
use Rattle.dw_leb.specs.DecideNumber.{uleb_decides}
use Rattle.dw_abbrev.specs.Table.{Declaration, Table, Described, declared_in, is_among, is_null, repeats, described_of, declaration_parts, table, unbounded, TableAt}
use Rattle.dw_abbrev.specs.ReadTable.{read_code, read_described, read_declarations, table_from, read_table}
use Rattle.dw_abbrev.specs.DecideTable.{declarations_back, AreBytes-drop, table_decides}
use Rattle.dw_abbrev.specs.Laws.{one_table_at, no_break_at}
use Rattle.dw_abbrev.specs.TableErrors.{IsScan, IsTableError, Declares, IsFault, refused_memory}
use Rattle.dw_abbrev.specs.Place.{Gives, IsErrorAt, fault_at, checked_refuses, checked_passes, made_fails, made_gives, ReadTo, nothing_yet, one_item, items_end, head_fails, body_fails}

-- ---- look-ups by code

among_step : (v : Bool) (d : Declaration) (o : Option Declaration) (b : Bool) → b ≡ is_some o → v || b ≡ is_some (if v then Some d else o)
among_step true d o b e = refl
among_step false d o b e = e

pub among_declared : (ds : List Declaration) (c : ℕ) → is_among c (map declaration_parts ds) ≡ is_some (declared_in ds c)
among_declared [] c = refl
among_declared (d ∷ ds) c = among_step (c == d.code.value) d (declared_in ds c) _ (among_declared ds c)

pub no_value : {X : Type 0} (o : Option X) → false ≡ is_some o → o ≡ None
no_value None e = refl
no_value (Some x) e = absurd cc

-- ---- a code

module _ (abbreviations : List ℕ) (at : ℕ) (ds : List Declaration) (code : Unsigned) (next : ℕ) (g : Gives read_uleb abbreviations at code next) where
  pub code_repeats : true ≡ is_some (declared_in ds code.value) → IsErrorAt (read_code (map declaration_parts ds)) abbreviations at (fault_at at DuplicateCode)
  code_repeats e = checked_refuses read_uleb (repeats (map declaration_parts ds)) abbreviations at code next g DuplicateCode
      (ap (λ (b : Bool). if b then Some DuplicateCode else None) (among_declared ds code.value ∙ sym e))

  pub code_passes : false ≡ is_some (declared_in ds code.value) → Gives (read_code (map declaration_parts ds)) abbreviations at code next
  code_passes e = checked_passes read_uleb (repeats (map declaration_parts ds)) abbreviations at code next g
      (ap (λ (b : Bool). if b then Some DuplicateCode else None) (among_declared ds code.value ∙ sym e))

-- ---- declarations

abbrev pub DeclsTo : List ℕ → ℕ → List Declaration → ℕ → Type 0
DeclsTo abbreviations start ds here = ReadTo read_code is_null (λ _. read_described) abbreviations start (map declaration_parts ds) here

pub no_decls : (abbreviations : List ℕ) (start : ℕ) → start ≤ length abbreviations → DeclsTo abbreviations start [] start
no_decls abbreviations start within = nothing_yet read_code is_null (λ _. read_described) abbreviations start within

module _ (abbreviations : List ℕ) (start : ℕ) (ds : List Declaration) (here : ℕ) (r : DeclsTo abbreviations start ds here) where
  pub code_fails : (e : ReadError) → IsErrorAt (read_code (map declaration_parts ds)) abbreviations here e → IsErrorAt read_table abbreviations start e
  unfolding read_table
  code_fails e h = made_fails table_from read_declarations abbreviations start e (head_fails read_code is_null (λ _. read_described) abbreviations start (map declaration_parts ds) here r e h)

  module _ (code : Unsigned) (behind : ℕ) (g : Gives (read_code (map declaration_parts ds)) abbreviations here code behind) where
    pub table_there : is_null code ≡ true → Gives read_table abbreviations start (record { declarations = ds; last_zero = code.width }) behind
    unfolding read_table
    table_there e = subst (λ (xs : List Declaration). Gives read_table abbreviations start (record { declarations = xs; last_zero = code.width }) behind) (declarations_back ds)
        (made_gives table_from read_declarations abbreviations start (map declaration_parts ds, code) behind
        (items_end read_code is_null (λ _. read_described) abbreviations start (map declaration_parts ds) here r code behind g e))

    pub declaration_fails : is_null code ≡ false → (e : ReadError) → IsErrorAt read_described abbreviations behind e → IsErrorAt read_table abbreviations start e
    unfolding read_table
    declaration_fails f e h = made_fails table_from read_declarations abbreviations start e (body_fails read_code is_null (λ _. read_described) abbreviations start (map declaration_parts ds) here r code behind g f e h)

    pub one_declaration : is_null code ≡ false → here < behind → (d : Declaration) → d.code ≡ code → (next : ℕ) → Gives read_described abbreviations behind (described_of d) next
        → DeclsTo abbreviations start (ds ++ d ∷ []) next
    one_declaration f lt d same next h =
        let e : map declaration_parts (ds ++ d ∷ []) ≡ map declaration_parts ds ++ (d.code, described_of d) ∷ [] = map-append declaration_parts ds (d ∷ []) in
        subst (λ (xs : List (Unsigned × Described)). ReadTo read_code is_null (λ _. read_described) abbreviations start xs next) (sym e)
        (subst (λ (u : Unsigned). ReadTo read_code is_null (λ _. read_described) abbreviations start (map declaration_parts ds ++ (u, described_of d) ∷ []) next) (sym same)
        (one_item read_code is_null (λ _. read_described) abbreviations start (map declaration_parts ds) here r code behind g lt f (described_of d) next h))

-- ---- a table

module _ (abbreviations : List ℕ) (at : ℕ) (fit : AreBytes abbreviations) where
  abbrev lim : ℕ
  lim = unbounded abbreviations

  said : Says table (drop at abbreviations) lim (read_table (drop at abbreviations) lim)
  said = table_decides.says (drop at abbreviations) lim (AreBytes-drop at abbreviations fit)

  pub table_fits : (t : Table) (next : ℕ) → Gives read_table abbreviations at t next → table.Fits t
  table_fits t next g =
      let h : Says table (drop at abbreviations) lim (found t (next - at)) = subst (λ (o : Outcome Table). Says table (drop at abbreviations) lim o) (g.reads lim (omega arith)) said in
      h.fits

  -- the code at the front of what is read
  pub declares : (here : ℕ) → (here ≡ at) ⊎ Declares abbreviations at → (before : List (Unsigned × Described)) (code : Unsigned) (next : ℕ) → Gives (read_code before) abbreviations here code next
      → here < next → next ≤ length abbreviations → is_null code ≡ false → Declares abbreviations at
  declares here begun before code next g lt within some =
      let all = (judged_decides uleb read_uleb (repeats before) uleb_decides).says (drop here abbreviations) lim (AreBytes-drop here abbreviations fit) in
      let h : Says (judged uleb (repeats before)) (drop here abbreviations) lim (found code (next - here)) =
      subst (λ (o : Outcome Unsigned). Says (judged uleb (repeats before)) (drop here abbreviations) lim o) (g.reads lim (omega arith)) all in
      let there : Declares abbreviations here = record {
        inside = omega (arith, lt, within);
        code = code;
        some = some;
        size = next - here;
        taken = record { rest = h.rest; fits = h.fits.0; split = h.split; is_size = h.is_size; within = h.within };
      } in
      elim begun [
        | inl e ↦ subst (λ (n : ℕ). Declares abbreviations n) e there
        | inr s ↦ s
      ]

  pub table_at : at < length abbreviations → (t : Table) (next : ℕ) → Gives read_table abbreviations at t next → TableAt abbreviations at t
  table_at lt t next g =
      let h : Says table (drop at abbreviations) lim (found t (next - at)) = subst (λ (o : Outcome Table). Says table (drop at abbreviations) lim o) (g.reads lim (omega arith)) said in
      record { inside = lt; fits = h.fits; rest = h.rest; split = h.split }

  pub table_tells : at < length abbreviations → (e : ReadError) → IsErrorAt read_table abbreviations at e → IsTableError abbreviations at e
  table_tells lt (reads.Fault f) g =
      let h : Says table (drop at abbreviations) lim (broken Table (f.offset - at) f.reason) = subst (λ (o : Outcome Table). Says table (drop at abbreviations) lim o) (g.reads lim (omega arith)) said in
      (g.in_table, inr (lt, (f.offset - at, omega (arith, g.forward), h)))
  table_tells lt reads.NoMemory g = tt
  table_tells lt (reads.Io kind) g = absurd g

-- ---- where a table stands, nothing else is answered

pub only_memory : (abbreviations : List ℕ) (offset : ℕ) (t : Table) (e : ReadError) → TableAt abbreviations offset t → IsTableError abbreviations offset e → e ≡ refused_memory
only_memory abbreviations offset t (reads.Fault f) h k = absurd (no_break_at abbreviations offset t f.offset f.reason h k.1)
only_memory abbreviations offset t reads.NoMemory h k = refl
only_memory abbreviations offset t (reads.Io kind) h k = absurd k

-- where another table may be met, too
pub some_there : (abbreviations : List ℕ) (offset : ℕ) → AreBytes abbreviations → offset < length abbreviations → (o : Option Table) → IfSome o (λ t. IsScan abbreviations offset t) → IfSome o (λ t. TableAt abbreviations offset t)
some_there abbreviations offset fit lt None h = tt
some_there abbreviations offset fit lt (Some t) h = table_at abbreviations offset fit lt t h.0 h.1

pub only_that_one : (abbreviations : List ℕ) (offset : ℕ) (r : Result (Option Table) ReadError) → IfOk r (λ o. IfSome o (λ x. TableAt abbreviations offset x)) → IfErr r (λ e. IsTableError abbreviations offset e)
    → (t : Table) → TableAt abbreviations offset t → IfOk r (λ o. IfSome o (λ x. x ≡ t)) × IfErr r (λ e. e ≡ refused_memory)
only_that_one abbreviations offset (Ok (Some x)) h k t at = (one_table_at abbreviations offset x t h at, tt)
only_that_one abbreviations offset (Ok None) h k t at = (tt, tt)
only_that_one abbreviations offset (Err e) h k t at = (tt, only_memory abbreviations offset t e at k)

pub no_memory : (e : ReadError) → IsFault e → e ≡ refused_memory → ⊥
no_memory e h same = subst (λ (x : ReadError). IsFault x) same h
