-- Units: the reader takes what is spelled, fails where it fails, and does nothing else.
use Rattle.std.proofs.Common.{◌≡◌, ◌≢◌, ℕ, suc, ◌+◌, ◌-◌, List, ◌++◌, length, drop, refl, sym, ap, subst, ◌∙◌, append_assoc, arith, inl, inr}
use Rattle.std.proofs.lemmas.List.{drop_at, length-append}
use Rattle.dw_leb.specs.declared.errors.Reason.{Reason}
use Rattle.dw_leb.specs.declared.errors.Reason.TheVariants.{Truncated}
use Rattle.dw_leb.specs.Part.{Part}
use Rattle.dw_leb.specs.declared.order.Order.{Order}
use Rattle.dw_leb.specs.Number.{length_field, initial_length}
use Rattle.dw_form.specs.declared.shape.Ctx.{Ctx}
use Rattle.dw_abbrev.specs.Table.{Table, TableAt}
use Rattle.dw_header.specs.declared.versions.Versions.{Versions}
use Rattle.dw_header.specs.Header.{Header, fields, fields_of, context_of}
use Rattle.dw_tree.specs.Tree.{Tree, tree, nesting, nulls, AreNulls, PaddingBreaks, unit_tree}
use Rattle.dw_unit.specs.Unit.{WholeUnit, body_bytes, bytes_of, UnitFrontUnder, left_behind, EntriesBreak, BodyBreaksUnder, UnitBreaksUnder, UnitAtUnder, FailsUnder}
use Rattle.dw_header.specs.HeaderPlace.{SpelledHeaderUnder, HeaderAtUnder, header_size}
use Rattle.dw_leb.specs.declared.errors.SectionId.{SectionId}
use Rattle.dw_leb.specs.declared.errors.SectionId.TheVariants.{Info, Abbrev}
use Rattle.dw_leb.specs.Reader.{Outcome, Found, Broken, ◌and_then◌, behind, paired}
use Rattle.dw_tree.specs.ReadTree.{read_tree, read_padding}
use Rattle.dw_header.specs.ReadHeader.{Heading, read_head}
use Rattle.dw_unit.specs.ReadUnit.{Answer, Unit, Fault, read_entries, with_header, read_body, body_over, read_over, answer_body, answer_table, answer_head, read_unit_under}
use Rattle.dw_abbrev.specs.ReadTable.{read_table_at}
use Rattle.dw_leb.specs.Decide.{Says, AreBytes, AreBytes-behind, found, broken}
use Rattle.dw_leb.specs.PartLaws.{Stays, After_stays}
use Rattle.dw_leb.specs.DecideRepeat.{behind_at}
use Rattle.dw_leb.specs.DecideNumber.{initial-size}
use Rattle.dw_header.specs.DecideHeader.{header_stays, headed_stays}
use Rattle.dw_header.specs.FittingHeaders.{fields_fit, header_fits, header_accepted}
use Rattle.dw_header.specs.HeaderFound.{HeadSays, head_says, head_rest, head_rest_bytes, head_within}
use Rattle.dw_header.specs.Laws.{head_take, head_fault, one_header, headers_stay}
use Rattle.dw_tree.specs.DecideTree.{tree_decides, tree_stays, padding_take, padding_fault, padding_stays, PaddingSays, padding_says}
use Rattle.dw_abbrev.specs.DecideTable.{table_take, table_fault, TableSays, table_says}
use Rattle.dw_abbrev.specs.Laws.{one_table_at}

-- ---- entries

module _ (k : Ctx) (t : Table) where
  abbrev root_part : Part Tree
  root_part = tree k t (nesting - 1)

  pub entries_take : (root : Tree) (ws rest : List ℕ) (lim : ℕ) → root_part.Fits root → AreNulls ws
      → length (root_part.spell root) + length (nulls ws) ≡ lim
      → read_entries k t ((root_part.spell root ++ nulls ws) ++ rest) lim ≡ found (root, ws) lim
  entries_take root ws rest lim fits padded total =
      let all : List ℕ = (root_part.spell root ++ nulls ws) ++ rest in
      let sum : length (root_part.spell root ++ nulls ws) ≡ length (root_part.spell root) + length (nulls ws) =
      length-append (root_part.spell root) (nulls ws) in
      let len : length all ≡ length (root_part.spell root ++ nulls ws) + length rest =
      length-append (root_part.spell root ++ nulls ws) rest in
      ap (λ (b : List ℕ). (read_tree k t (nesting - 1) and_then λ _. read_padding (suc (length all))) b lim)
      (append_assoc (root_part.spell root) (nulls ws) rest)
      ∙ behind_at root_part (read_tree k t (nesting - 1)) (tree_decides k t (nesting - 1))
      (λ _. read_padding (suc (length all))) root (nulls ws ++ rest) lim fits (omega arith)
      ∙ ap (paired root (length (root_part.spell root)))
      (padding_take (suc (length all)) ws rest (lim - length (root_part.spell root)) padded (omega arith)
      (omega arith))
      ∙ ap (λ (n : ℕ). found (root, ws) n) total

  pub entries_fault : (bytes : List ℕ) (lim offset : ℕ) (reason : Reason) → EntriesBreak k t bytes lim offset reason
      → read_entries k t bytes lim ≡ broken (Tree × List ℕ) offset reason
  entries_fault bytes lim offset reason h = elim h [
    | inl one ↦ ap (λ (o : _). behind o (λ _. read_padding (suc (length bytes))) bytes lim)
        ((tree_decides k t (nesting - 1)).faults bytes lim offset reason one)
    | inr two ↦ let a = two.2 in
        let len : length bytes ≡ length (root_part.spell two.0) + length a.rest =
        ap length a.split ∙ length-append (root_part.spell two.0) a.rest in
        ap (λ (b : List ℕ). (read_tree k t (nesting - 1) and_then λ _. read_padding (suc (length bytes))) b lim) a.split
        ∙ behind_at root_part (read_tree k t (nesting - 1)) (tree_decides k t (nesting - 1))
        (λ _. read_padding (suc (length bytes))) two.0 a.rest lim two.1 a.within
        ∙ ap (paired two.0 (length (root_part.spell two.0)))
        (padding_fault (suc (length bytes)) a.breaks.0 a.rest (lim - length (root_part.spell two.0)) a.own reason
        a.breaks.1 a.breaks.2 (omega arith))
        ∙ ap (λ (n : ℕ). broken (Tree × List ℕ) n reason) (sym a.sum)
  ]

  -- a root and nulls that end exactly at the unit's end
  pub record Entries (bytes : List ℕ) (lim : ℕ) (x : Tree × List ℕ) (size : ℕ) : Type 0 where
    pub rest : List ℕ
    pub tree_fits : root_part.Fits x.0
    pub padding_fits : AreNulls x.1
    pub split : bytes ≡ (root_part.spell x.0 ++ nulls x.1) ++ rest
    pub is_size : length (root_part.spell x.0 ++ nulls x.1) ≡ size
    pub to_end : size ≡ lim

  abbrev pub EntriesSay : List ℕ → ℕ → Outcome (Tree × List ℕ) → Type 0
  EntriesSay bytes lim (Found x size) = Entries bytes lim x size
  EntriesSay bytes lim (Broken offset reason) = EntriesBreak k t bytes lim offset reason

  entries_step : (bytes : List ℕ) (lim : ℕ) → AreBytes bytes → (o : Outcome Tree) → Says root_part bytes lim o
      → EntriesSay bytes lim (behind o (λ _. read_padding (suc (length bytes))) bytes lim)
  entries_step bytes lim fit (Broken offset reason) h = inl h
  entries_step bytes lim fit (Found root size) g =
      let d : drop size bytes ≡ g.rest =
      ap (λ (t : List ℕ). drop size t) g.split ∙ drop_at (root_part.spell root) g.rest size g.is_size in
      let len : length bytes ≡ length (root_part.spell root) + length g.rest =
      ap length g.split ∙ length-append (root_part.spell root) g.rest in
      rw d
      (next (read_padding (suc (length bytes)) g.rest (lim - size))
      (padding_says (suc (length bytes)) g.rest (lim - size)
      (AreBytes-behind (root_part.spell root) g.rest (rw g.split at fit)) (omega arith)))
    where
      next : (o : Outcome (List ℕ)) → PaddingSays g.rest (lim - size) o → EntriesSay bytes lim (paired root size o)
      next (Broken offset reason) h =
          inr (
            root,
            g.fits,
            record {
              rest = g.rest;
              own = offset;
              split = g.split;
              within = omega (arith, g.is_size, g.within);
              sum = ap (λ (n : ℕ). n + offset) (sym g.is_size);
              breaks = rw g.is_size h;
            },
          )
      next (Found ws own) h = record {
        rest = h.rest;
        tree_fits = g.fits;
        padding_fits = h.fits;
        split =
            g.split ∙ ap (λ (t : List ℕ). root_part.spell root ++ t) h.split
            ∙ sym (append_assoc (root_part.spell root) (nulls ws) h.rest);
        is_size =
            length-append (root_part.spell root) (nulls ws) ∙ ap (λ (n : ℕ). n + length (nulls ws)) g.is_size
            ∙ ap (λ (n : ℕ). size + n) h.is_size;
        to_end = omega (arith, h.to_end, g.within);
      }

  pub entries_say : (bytes : List ℕ) (lim : ℕ) → AreBytes bytes → EntriesSay bytes lim (read_entries k t bytes lim)
  entries_say bytes lim fit =
      entries_step bytes lim fit (read_tree k t (nesting - 1) bytes lim)
      ((tree_decides k t (nesting - 1)).says bytes lim fit)

  pub entries_stay : Stays (EntriesBreak k t)
  entries_stay bytes tail lim offset reason ne h = elim h [
    | inl one ↦ inl (tree_stays k t (nesting - 1) bytes tail lim offset reason ne one)
    | inr two ↦ inr (
      two.0,
      two.1,
      After_stays (root_part.spell two.0) PaddingBreaks padding_stays bytes tail lim offset reason ne two.2,
    )
  ]

-- ---- what stands behind a header

abbrev len_bytes : Header → ℕ → List ℕ
len_bytes h n = (length_field h.order).spell (h.format, n)

abbrev field_bytes : Header → List ℕ
field_bytes h = (fields h.order h.format).spell (fields_of h)

abbrev pub rest_bytes : WholeUnit → List ℕ
rest_bytes u = (unit_tree (context_of u.header) u.table).spell u.root ++ nulls u.padding

-- the header of a unit at the front stands there, with the unit's length
pub unit_headed : (versions : Versions) (order : Order) (bytes : List ℕ) (u : WholeUnit) (size : ℕ)
    (h : UnitFrontUnder versions order bytes u size)
    → SpelledHeaderUnder versions order bytes u.header.format (length (body_bytes u)) (fields_of u.header)
    (rest_bytes u ++ h.rest)
unit_headed versions order bytes u size h =
    let n : ℕ = length (body_bytes u) in
    let l : List ℕ = len_bytes u.header n in
    let f : List ℕ = field_bytes u.header in
    let e : List ℕ = rest_bytes u in
    let headed : SpelledHeaderUnder versions u.header.order bytes u.header.format n (fields_of u.header) (e ++ h.rest) =
    record {
      length_fits = h.fits.length_fits;
      fields_fit = fields_fit versions u.header h.accepted h.fits.header_fits;
      split = h.split ∙ append_assoc l (f ++ e) h.rest ∙ ap (λ (b : List ℕ). l ++ b) (append_assoc f e h.rest);
      within = omega (arith, length-append f e);
    } in
    subst (λ (o : Order). SpelledHeaderUnder versions o bytes u.header.format n (fields_of u.header) (e ++ h.rest))
    h.order_is headed

abbrev pub unit_header : (versions : Versions) (order : Order) (bytes : List ℕ) (u : WholeUnit) (size : ℕ)
    → UnitFrontUnder versions order bytes u size → HeaderAtUnder versions order bytes u.header (length (body_bytes u))
unit_header versions order bytes u size h =
    (h.order_is, rest_bytes u ++ h.rest, unit_headed versions order bytes u size h)

-- ---- over a table: what is spelled is read, what breaks is refused, and nothing else

abbrev pub OverSays : Versions → Order → Table → List ℕ → Outcome WholeUnit → Type 0
OverSays versions order t bytes (Found u size) = (u.table ≡ t) × UnitFrontUnder versions order bytes u size
OverSays versions order t bytes (Broken offset reason) = UnitBreaksUnder versions order t bytes offset reason

module _ (versions : Versions) (order : Order) (bytes : List ℕ) (h : Header) (n : ℕ)
    (stands : HeaderAtUnder versions order bytes h n) (t : Table) where
  body_there : read_body t bytes (h, n) ≡ with_header h t (read_entries (context_of h) t stands.1 (left_behind h n))
  body_there =
      ap (λ (b : List ℕ). with_header h t (read_entries (context_of h) t b (left_behind h n)))
      (head_rest versions order bytes h n stands)

  body_fault : (own : ℕ) (reason : Reason) → EntriesBreak (context_of h) t stands.1 (left_behind h n) own reason
      → read_body t bytes (h, n) ≡ broken WholeUnit (header_size h + own) reason
  body_fault own reason breaks =
      body_there ∙ ap (with_header h t) (entries_fault (context_of h) t stands.1 (left_behind h n) own reason breaks)

  pub entries_answer : (o : Outcome (Tree × List ℕ)) → EntriesSay (context_of h) t stands.1 (left_behind h n) o
      → OverSays versions order t bytes (with_header h t o)
  entries_answer (Broken own reason) g =
      inr
      (record
      { header = h; count = n; stands = stands; table = t; is_table = refl; own = own; sum = refl; breaks = g })
  entries_answer (Found y size) g =
      let u : WholeUnit = record { header = h; table = t; root = y.0; padding = y.1 } in
      let own : SpelledHeaderUnder versions h.order bytes h.format n (fields_of h) stands.1 =
      subst (λ (o : Order). SpelledHeaderUnder versions o bytes h.format n (fields_of h) stands.1)
      (sym stands.0) stands.2 in
      let l : ℕ → List ℕ = λ m. len_bytes h m in
      let f : List ℕ = field_bytes h in
      let e : List ℕ = rest_bytes u in
      let size_f : length (f ++ e) ≡ length f + length e = length-append f e in
      let n_is : length (body_bytes u) ≡ n =
      omega (arith, size_f, g.is_size, g.to_end, head_within versions order bytes h n stands) in
      let total : length (bytes_of u) ≡ length (l (length (body_bytes u))) + length (f ++ e) =
      length-append (l (length (body_bytes u))) (f ++ e) in (
        refl,
        record {
          order_is = stands.0;
          accepted = header_accepted versions h own.fields_fit;
          fits =
              record {
                length_fits = subst (λ (m : ℕ). (initial_length h.order 0).Fits (h.format, m)) (sym n_is)
                    own.length_fits;
                header_fits = header_fits versions h own.fields_fit;
                tree_fits = g.tree_fits;
                padding_fits = g.padding_fits;
              };
          rest = g.rest;
          split =
              own.split ∙ ap (λ (b : List ℕ). l n ++ (f ++ b)) g.split
              ∙ ap (λ (b : List ℕ). l n ++ b) (sym (append_assoc f e g.rest)) ∙ sym (append_assoc (l n) (f ++ e) g.rest)
              ∙ ap (λ (m : ℕ). (l m ++ (f ++ e)) ++ g.rest) (sym n_is);
          is_size = omega (arith, total, size_f, g.is_size, initial-size h.order 0 h.format (length (body_bytes u)));
        },
      )

  pub body_says : AreBytes bytes → OverSays versions order t bytes (read_body t bytes (h, n))
  body_says fit = subst (λ (o : Outcome WholeUnit). OverSays versions order t bytes o) (sym body_there)
      (entries_answer (read_entries (context_of h) t stands.1 (left_behind h n))
      (entries_say (context_of h) t stands.1 (left_behind h n)
      (head_rest_bytes versions order bytes h n stands fit)))

body_take : (versions : Versions) (order : Order) (bytes : List ℕ) (u : WholeUnit) (size : ℕ)
    (h : UnitFrontUnder versions order bytes u size)
    → read_body u.table bytes (u.header, length (body_bytes u)) ≡ found u size
body_take versions order bytes u size h =
    let n : ℕ = length (body_bytes u) in
    let f : List ℕ = field_bytes u.header in
    let root : List ℕ = (unit_tree (context_of u.header) u.table).spell u.root in
    let size_f : n ≡ length f + length (rest_bytes u) = length-append f (rest_bytes u) in
    let size_e : length (rest_bytes u) ≡ length root + length (nulls u.padding) =
    length-append root (nulls u.padding) in
    let total : length (bytes_of u) ≡ length (len_bytes u.header n) + n =
    length-append (len_bytes u.header n) (body_bytes u) in
    let sized : header_size u.header + left_behind u.header n ≡ size =
    omega (arith, h.is_size, initial-size u.header.order 0 u.header.format n) in
    body_there versions order bytes u.header n (unit_header versions order bytes u size h) u.table
    ∙ ap (with_header u.header u.table)
    (entries_take (context_of u.header) u.table u.root u.padding h.rest (left_behind u.header n) h.fits.tree_fits
    h.fits.padding_fits (omega arith))
    ∙ ap (λ (m : ℕ). found u m) sized

pub over_take : (versions : Versions) (order : Order) (bytes : List ℕ) (u : WholeUnit) (size : ℕ)
    → UnitFrontUnder versions order bytes u size → read_over versions order u.table bytes ≡ found u size
over_take versions order bytes u size h =
    ap (body_over u.table bytes)
    (head_take versions order bytes u.header (length (body_bytes u)) (unit_header versions order bytes u size h))
    ∙ body_take versions order bytes u size h

pub over_fault : (versions : Versions) (order : Order) (t : Table) (bytes : List ℕ) (offset : ℕ) (reason : Reason)
    → UnitBreaksUnder versions order t bytes offset reason
    → read_over versions order t bytes ≡ broken WholeUnit offset reason
over_fault versions order t bytes offset reason (inl one) =
    ap (body_over t bytes) (head_fault versions order bytes offset reason one)
over_fault versions order t bytes offset reason (inr b) =
    subst (λ (s : Table). read_over versions order s bytes ≡ broken WholeUnit offset reason) b.is_table
    (ap (body_over b.table bytes) (head_take versions order bytes b.header b.count b.stands)
    ∙ body_fault versions order bytes b.header b.count b.stands b.table b.own reason b.breaks
    ∙ ap (λ (m : ℕ). broken WholeUnit m reason) (sym b.sum))

over_answer : (versions : Versions) (order : Order) (t : Table) (bytes : List ℕ) → AreBytes bytes
    → (o : Outcome Heading) → HeadSays versions order bytes o → OverSays versions order t bytes (body_over t bytes o)
over_answer versions order t bytes fit (Found x size) h = body_says versions order bytes x.0 x.1 h t fit
over_answer versions order t bytes fit (Broken offset reason) h = inl h

pub over_says : (versions : Versions) (order : Order) (t : Table) (bytes : List ℕ) → AreBytes bytes
    → OverSays versions order t bytes (read_over versions order t bytes)
over_says versions order t bytes fit =
    over_answer versions order t bytes fit (read_head versions order bytes) (head_says versions order bytes fit)

-- ---- a table that stands in a section

module _ (versions : Versions) (order : Order) (abbreviations bytes : List ℕ) (h : Header) (n : ℕ)
    (stands : HeaderAtUnder versions order bytes h n) (t : Table)
    (place : TableAt abbreviations h.abbrev_offset t) where
  at_header : (g : Header) (m : ℕ) (s : Table) → HeaderAtUnder versions order bytes g m → s ≡ t
      → TableAt abbreviations g.abbrev_offset s
  at_header g m s there is =
      subst (λ (x : Header). TableAt abbreviations x.abbrev_offset s)
      (one_header versions order bytes h g n m stands there).0
      (subst (λ (x : Table). TableAt abbreviations h.abbrev_offset x) (sym is) place)

  -- a unit over it is one over the section ..
  pub unit_at : (u : WholeUnit) (size : ℕ) → u.table ≡ t → UnitFrontUnder versions order bytes u size
      → UnitAtUnder versions abbreviations order bytes u size
  unit_at u size is front =
      record {
        table_at = at_header u.header (length (body_bytes u)) u.table
            (unit_header versions order bytes u size front) is;
        front = front;
      }

  -- .. and a break over it is the fault over the section
  pub break_fails : (offset : ℕ) (reason : Reason) → UnitBreaksUnder versions order t bytes offset reason
      → FailsUnder versions order abbreviations bytes Info offset reason
  break_fails offset reason (inl one) = inl one
  break_fails offset reason (inr b) =
      inr
      (record {
        header = b.header;
        count = b.count;
        stands = b.stands;
        table = b.table;
        is_table = at_header b.header b.count b.table b.stands b.is_table;
        own = b.own;
        sum = b.sum;
        breaks = b.breaks;
      })

  pub fails_break : (offset : ℕ) (reason : Reason) → FailsUnder versions order abbreviations bytes Info offset reason
      → UnitBreaksUnder versions order t bytes offset reason
  fails_break offset reason (inl one) = inl one
  fails_break offset reason (inr b) =
      let here : TableAt abbreviations h.abbrev_offset b.table =
      subst (λ (x : Header). TableAt abbreviations x.abbrev_offset b.table)
      (one_header versions order bytes b.header h b.count n b.stands stands).0 b.is_table in
      inr
      (record {
        header = b.header;
        count = b.count;
        stands = b.stands;
        table = b.table;
        is_table = one_table_at abbreviations h.abbrev_offset b.table t here place;
        own = b.own;
        sum = b.sum;
        breaks = b.breaks;
      })

-- ---- over a section: what is spelled is read, what fails is refused with that fault, and nothing else

pub unit_take : (versions : Versions) (abbreviations : List ℕ) (order : Order) (bytes : List ℕ) (u : WholeUnit)
    (size : ℕ) → UnitAtUnder versions abbreviations order bytes u size
    → read_unit_under versions order abbreviations bytes ≡ Unit u size
unfolding read_unit_under
unit_take versions abbreviations order bytes u size h =
    let n : ℕ = length (body_bytes u) in
    ap (answer_head abbreviations bytes)
    (head_take versions order bytes u.header n (unit_header versions order bytes u size h.front))
    ∙ ap (answer_table bytes (u.header, n)) (table_take abbreviations u.header.abbrev_offset u.table h.table_at)
    ∙ ap answer_body (body_take versions order bytes u size h.front)

pub unit_fault : (versions : Versions) (order : Order) (abbreviations bytes : List ℕ) (s : SectionId) (offset : ℕ)
    (reason : Reason) → FailsUnder versions order abbreviations bytes s offset reason
    → read_unit_under versions order abbreviations bytes ≡ Fault s offset reason
unfolding read_unit_under
unit_fault versions order abbreviations bytes Info offset reason (inl one) =
    ap (answer_head abbreviations bytes) (head_fault versions order bytes offset reason one)
unit_fault versions order abbreviations bytes Info offset reason (inr b) =
    ap (answer_head abbreviations bytes) (head_take versions order bytes b.header b.count b.stands)
    ∙ ap (answer_table bytes (b.header, b.count)) (table_take abbreviations b.header.abbrev_offset b.table b.is_table)
    ∙ ap answer_body (body_fault versions order bytes b.header b.count b.stands b.table b.own reason b.breaks)
    ∙ ap (λ (m : ℕ). Fault Info m reason) (sym b.sum)
unit_fault versions order abbreviations bytes Abbrev offset reason (h, n, stands, breaks) =
    ap (answer_head abbreviations bytes) (head_take versions order bytes h n stands)
    ∙ ap (answer_table bytes (h, n)) (table_fault abbreviations h.abbrev_offset offset reason breaks)

abbrev pub AnswerSays : Versions → Order → List ℕ → List ℕ → Answer → Type 0
AnswerSays versions order abbreviations bytes (Unit u size) = UnitAtUnder versions abbreviations order bytes u size
AnswerSays versions order abbreviations bytes (Fault s offset reason) =
    FailsUnder versions order abbreviations bytes s offset reason

module _ (versions : Versions) (order : Order) (abbreviations bytes : List ℕ) (fit_s : AreBytes abbreviations)
    (fit : AreBytes bytes) where
  body_answer : (h : Header) (n : ℕ) → HeaderAtUnder versions order bytes h n → (t : Table)
      → TableAt abbreviations h.abbrev_offset t → (o : Outcome WholeUnit) → OverSays versions order t bytes o
      → AnswerSays versions order abbreviations bytes (answer_body o)
  body_answer h n stands t place (Found u size) g =
      unit_at versions order abbreviations bytes h n stands t place u size g.0 g.1
  body_answer h n stands t place (Broken offset reason) g =
      break_fails versions order abbreviations bytes h n stands t place offset reason g

  table_answer : (h : Header) (n : ℕ) → HeaderAtUnder versions order bytes h n → (o : Outcome Table)
      → TableSays abbreviations h.abbrev_offset o
      → AnswerSays versions order abbreviations bytes (answer_table bytes (h, n) o)
  table_answer h n stands (Found t size) g =
      body_answer h n stands t g (read_body t bytes (h, n)) (body_says versions order bytes h n stands t fit)
  table_answer h n stands (Broken offset reason) g = (h, n, stands, g)

  head_answer : (o : Outcome Heading) → HeadSays versions order bytes o
      → AnswerSays versions order abbreviations bytes (answer_head abbreviations bytes o)
  head_answer (Found x size) g =
      table_answer x.0 x.1 g (read_table_at abbreviations x.0.abbrev_offset)
      (table_says abbreviations x.0.abbrev_offset fit_s)
  head_answer (Broken offset reason) g = inl g

  -- the reader's answer is always right, so every byte list is a unit at the front or fails
  pub unit_says : AnswerSays versions order abbreviations bytes (read_unit_under versions order abbreviations bytes)
  unfolding read_unit_under
  unit_says = head_answer (read_head versions order bytes) (head_says versions order bytes fit)

-- ---- what stays whatever bytes follow

pub front_stays : (versions : Versions) (order : Order) (bytes tail : List ℕ) (u : WholeUnit) (size : ℕ)
    → UnitFrontUnder versions order bytes u size → UnitFrontUnder versions order (bytes ++ tail) u size
front_stays versions order bytes tail u size h =
    record {
      order_is = h.order_is;
      accepted = h.accepted;
      fits = h.fits;
      rest = h.rest ++ tail;
      split = ap (λ (b : List ℕ). b ++ tail) h.split ∙ append_assoc (bytes_of u) h.rest tail;
      is_size = h.is_size;
    }

pub unit_stays : (versions : Versions) (abbreviations : List ℕ) (order : Order) (bytes tail : List ℕ) (u : WholeUnit)
    (size : ℕ) → UnitAtUnder versions abbreviations order bytes u size
    → UnitAtUnder versions abbreviations order (bytes ++ tail) u size
unit_stays versions abbreviations order bytes tail u size h =
    record { table_at = h.table_at; front = front_stays versions order bytes tail u size h.front }

body_stays : (versions : Versions) (order : Order) (IsTable : ℕ → Table → Type 0) (bytes tail : List ℕ) (offset : ℕ)
    (reason : Reason) → reason ≢ Truncated → BodyBreaksUnder versions order IsTable bytes offset reason
    → BodyBreaksUnder versions order IsTable (bytes ++ tail) offset reason
body_stays versions order IsTable bytes tail offset reason ne b = record {
  header = b.header;
  count = b.count;
  stands = (
    b.stands.0,
    b.stands.1 ++ tail,
    headed_stays versions order bytes tail b.header.format b.count (fields_of b.header) b.stands.1 b.stands.2,
  );
  table = b.table;
  is_table = b.is_table;
  own = b.own;
  sum = b.sum;
  breaks =
      entries_stay (context_of b.header) b.table b.stands.1 tail (left_behind b.header b.count) b.own reason ne
      b.breaks;
}

pub break_stays : (versions : Versions) (order : Order) (t : Table) (bytes tail : List ℕ) (offset : ℕ) (reason : Reason)
    → reason ≢ Truncated → UnitBreaksUnder versions order t bytes offset reason
    → UnitBreaksUnder versions order t (bytes ++ tail) offset reason
break_stays versions order t bytes tail offset reason ne (inl one) =
    inl (header_stays versions order bytes tail offset reason ne one)
break_stays versions order t bytes tail offset reason ne (inr two) =
    inr (body_stays versions order (λ _ s. s ≡ t) bytes tail offset reason ne two)

pub fault_stays : (versions : Versions) (order : Order) (abbreviations bytes tail : List ℕ) (s : SectionId) (offset : ℕ)
    (reason : Reason) → (s ≡ Info → reason ≢ Truncated) → FailsUnder versions order abbreviations bytes s offset reason
    → FailsUnder versions order abbreviations (bytes ++ tail) s offset reason
fault_stays versions order abbreviations bytes tail Info offset reason ne (inl one) =
    inl (header_stays versions order bytes tail offset reason (ne refl) one)
fault_stays versions order abbreviations bytes tail Info offset reason ne (inr two) =
    inr (body_stays versions order (TableAt abbreviations) bytes tail offset reason (ne refl) two)
fault_stays versions order abbreviations bytes tail Abbrev offset reason ne (h, n, stands, breaks) =
    (h, n, headers_stay versions order bytes tail h n stands, breaks)
