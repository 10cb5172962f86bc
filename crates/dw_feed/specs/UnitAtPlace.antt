-- A unit by the place behind its header: where the next field breaks, where it is cut off, and when it is whole.
use Rattle.std.proofs.Common.{◌≡◌, ℕ, ◌+◌, ◌-◌, ◌<◌, ◌≤◌, List, [], ◌∷◌, ◌++◌, length, Option, None, refl, sym, ap, subst, ◌∙◌, append_assoc, append-nil, arith, inr, length-append}
use Rattle.dw_leb.specs.declared.errors.Reason.{Reason}
use Rattle.dw_leb.specs.declared.errors.Reason.TheVariants.{Truncated}
use Rattle.dw_leb.specs.Number.{length_field, initial_length}
use Rattle.dw_leb.specs.Reader.{Outcome, Found, Broken}
use Rattle.dw_leb.specs.Decide.{AreBytes}
use Rattle.dw_leb.specs.DecideNumber.{initial-size}
use Rattle.dw_form.specs.declared.shape.Ctx.{Ctx}
use Rattle.dw_abbrev.specs.Table.{Table}
use Rattle.dw_header.specs.declared.versions.Versions.{Versions}
use Rattle.dw_header.specs.Header.{Header, Accepts, fields, fields_of, context_of}
use Rattle.dw_header.specs.FittingHeaders.{fields_fit}
use Rattle.dw_header.specs.HeaderPlace.{HeaderAtUnder, header_bytes}
use Rattle.dw_header.specs.Laws.{HasHeaderBytes}
use Rattle.dw_tree.specs.Tree.{Tree, Forest, none, more, nesting, nulls, AreNulls, unit_tree}
use Rattle.dw_tree.specs.Spelling.{tree_bytes}
use Rattle.dw_tree.specs.Structure.{spelled_by_structure}
use Rattle.dw_tree.specs.Place.{Frame, UnfinishedEntry}
use Rattle.dw_unit.specs.Unit.{WholeUnit, body_bytes, bytes_of, UnitFits, left_behind, EntriesBreak, UnitBreaksUnder}
use Rattle.dw_leb.specs.Moments.{IsCut, front_cut}
use Rattle.dw_feed.specs.PlaceBytes.{place_bytes}
use Rattle.dw_feed.specs.FieldPlace.{PaddingFits, PlaceFits, NextBreaks}
use Rattle.dw_feed.specs.PlaceBreaks.{place_breaks}
use Rattle.dw_feed.specs.NextField.{read_next, next_moment, next_has, GoesOn, next_breaks, next_field}

module _ (h : Header) (n : ℕ) (t : Table) (head : HasHeaderBytes h n) where
  abbrev k : Ctx
  k = context_of h

  -- the bytes up to a place, the header's included
  abbrev pub before_field : List Frame → Forest → Option UnfinishedEntry → List ℕ → List ℕ
  before_field fs ts o padding = header_bytes h n ++ place_bytes k t fs ts o padding

  -- how many bytes the unit has left there
  abbrev pub left_at : List Frame → Forest → Option UnfinishedEntry → List ℕ → ℕ
  left_at fs ts o padding = left_behind h n - length (place_bytes k t fs ts o padding)

  -- ---- the next field; its versions are any that accept the header's

  module _ (versions : Versions) (accepts : Accepts versions h.kind) (fs : List Frame) (ts : Forest)
      (o : Option UnfinishedEntry) (padding : List ℕ) (stands : PlaceFits k t fs ts o padding)
      (within : length (place_bytes k t fs ts o padding) ≤ left_behind h n) where
    abbrev here : List ℕ
    here = place_bytes k t fs ts o padding

    -- the bytes break at the field that begins behind them
    abbrev BreaksHere : List ℕ → Reason → Type 0
    BreaksHere bytes reason =
        UnitBreaksUnder versions h.order t (before_field fs ts o padding ++ bytes)
        (length (before_field fs ts o padding)) reason

    -- where the next field breaks, the unit breaks there
    pub unit_breaks : (bytes : List ℕ) (own : ℕ) (reason : Reason)
        → NextBreaks k t fs ts o bytes (left_at fs ts o padding) own reason → BreaksHere bytes reason
    unit_breaks bytes own reason b =
        let front : own ≡ 0 = next_field k t fs ts o bytes (left_at fs ts o padding) own reason b in
        let i : List ℕ = (length_field h.order).spell (h.format, n) in
        let f : List ℕ = (fields h.order h.format).spell (fields_of h) in
        let split : before_field fs ts o padding ++ bytes ≡ i ++ (f ++ (here ++ bytes)) =
        append_assoc (i ++ f) here bytes ∙ append_assoc i f (here ++ bytes) in
        let there : HeaderAtUnder versions h.order (before_field fs ts o padding ++ bytes) h n = (
          refl,
          here ++ bytes,
          record {
            length_fits = head.length_fits;
            fields_fit = fields_fit versions h accepts head.header_fits;
            split = split;
            within = head.within;
          },
        )
        in
        let entries : EntriesBreak k t (here ++ bytes) (left_behind h n) (length here + own) reason =
        place_breaks k t fs ts o padding stands (here ++ bytes) (left_behind h n) (length here + own) reason
        (record { rest = bytes; own = own; split = refl; within = within; sum = refl; breaks = b }) in
        inr (record {
          header = h;
          count = n;
          stands = there;
          table = t;
          is_table = refl;
          own = length here + own;
          sum = omega (arith, length-append (i ++ f) here, length-append i f, initial-size h.order 0 h.format n, front);
          breaks = entries;
        })

    -- the plain reader of the next field tells it
    pub unit_refused : (bytes : List ℕ) (own : ℕ) (reason : Reason) → GoesOn k t fs ts o (left_at fs ts o padding)
        → AreBytes bytes → read_next k t fs ts o bytes (left_at fs ts o padding) ≡ Broken own reason
        → BreaksHere bytes reason
    unit_refused bytes own reason on fit e =
        unit_breaks bytes own reason (next_breaks k t fs ts o bytes (left_at fs ts o padding) own reason on fit e)

    cut_here : (bytes : List ℕ) → GoesOn k t fs ts o (left_at fs ts o padding) → AreBytes bytes
        → (x : Outcome (Unit {0})) → read_next k t fs ts o bytes (left_at fs ts o padding) ≡ x → IsCut x
        → BreaksHere bytes Truncated
    cut_here bytes on fit (Found x size) e c = absurd c
    cut_here bytes on fit (Broken own reason) e c =
        subst (λ (r : Reason). BreaksHere bytes r) c (unit_refused bytes own reason on fit e)

    -- a field of which fewer bytes are there than it wants: the unit is cut off there
    pub unit_cut : (bytes : List ℕ) → GoesOn k t fs ts o (left_at fs ts o padding) → AreBytes bytes
        → length bytes < next_moment k t fs ts o bytes (left_at fs ts o padding) → BreaksHere bytes Truncated
    unit_cut bytes on fit short =
        cut_here bytes on fit (read_next k t fs ts o bytes (left_at fs ts o padding)) refl
        ((next_has k t fs ts o).waits bytes (left_at fs ts o padding) short)

    -- so is each front of the bytes that is shorter than the field wants
    pub unit_was_cut : (front rest : List ℕ) → GoesOn k t fs ts o (left_at fs ts o padding) → AreBytes front
        → length front < next_moment k t fs ts o (front ++ rest) (left_at fs ts o padding) → BreaksHere front Truncated
    unit_was_cut front rest on fit short =
        cut_here front on fit (read_next k t fs ts o front (left_at fs ts o padding)) refl
        (front_cut (read_next k t fs ts o) (next_moment k t fs ts o) (next_has k t fs ts o) front rest
        (left_at fs ts o padding) short)

  -- ---- a closed root, and the padding to the unit's end

  abbrev pub unit_of : Tree → List ℕ → WholeUnit
  unit_of x ws = record { header = h; table = t; root = x; padding = ws }

  padding_nulls : (x : Tree) (ws : List ℕ) → PaddingFits k t [] (more x none) None ws → AreNulls ws
  padding_nulls x [] p = tt
  padding_nulls x (w ∷ ws) p = p

  root_place : (x : Tree) (ws : List ℕ) → (unit_tree k t).Fits x
      → place_bytes k t [] (more x none) None ws ≡ (unit_tree k t).spell x ++ nulls ws
  unfolding tree_bytes
  root_place x ws fits =
      ap (λ (bs : List ℕ). bs ++ nulls ws)
      (append-nil (tree_bytes k t x) ∙ sym (spelled_by_structure k t (nesting - 1) x fits))

  -- the bytes are a unit
  pub unit_done : (x : Tree) (ws : List ℕ) → PlaceFits k t [] (more x none) None ws
      → length (place_bytes k t [] (more x none) None ws) ≡ left_behind h n
      → UnitFits (unit_of x ws) × (before_field [] (more x none) None ws ≡ bytes_of (unit_of x ws))
  unit_done x ws stands full =
      let i : List ℕ = (length_field h.order).spell (h.format, n) in
      let f : List ℕ = (fields h.order h.format).spell (fields_of h) in
      let e : List ℕ = (unit_tree k t).spell x ++ nulls ws in
      let same : place_bytes k t [] (more x none) None ws ≡ e = root_place x ws stands.spot_fits in
      let size : length (body_bytes (unit_of x ws)) ≡ n =
      length-append f e ∙ omega (arith, ap length same, full, head.within) in (
        record {
          length_fits = subst (λ (m : ℕ). (initial_length h.order 0).Fits (h.format, m)) (sym size) head.length_fits;
          header_fits = head.header_fits;
          tree_fits = stands.spot_fits;
          padding_fits = padding_nulls x ws stands.padding_fits;
        },
        ap (λ (bs : List ℕ). (i ++ f) ++ bs) same
            ∙ (append_assoc i f e
            ∙ ap (λ (m : ℕ). (length_field h.order).spell (h.format, m) ++ (f ++ e)) (sym size)),
      )
