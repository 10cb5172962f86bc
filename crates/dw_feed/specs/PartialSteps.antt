-- A feed in the middle of a text or block: what was taken of it wants more, more of it is taken, and with what ends it
-- the value is found.
use Rattle.std.proofs.Common.{◌≡◌, ◌⊎◌, ℕ, ◌-◌, ◌<◌, ◌≤◌, List, [], ◌∷◌, ◌++◌, length, Option, Some, None, refl, sym, ap, ◌∙◌, append-nil, arith}
use Rattle.std.specs.Prelude.{option_map}
use Rattle.dw_leb.specs.Part.{Taken}
use Rattle.dw_leb.specs.Decide.{found}
use Rattle.dw_form.specs.Form.{attribute}
use Rattle.dw_form.specs.FormMoments.{attribute_moment}
use Rattle.dw_abbrev.specs.Table.{Pair}
use Rattle.dw_tree.specs.Place.{PartialValue, UnfinishedEntry}
use Rattle.dw_tree.specs.Steps.{partial_in, given_partial, longer, partial_attribute, next_pairs, settle}
use Rattle.dw_feed.specs.NextField.{next_moment, next_value_moment}
use Rattle.dw_feed.specs.FieldOutcomes.{value_found}
use Rattle.dw_feed.specs.BodyFeed.{PartialUnit, partial_taken, pairs_left, value_part, part}
use Rattle.dw_feed.specs.FeedInvariant.{context, frames_of, chain_of, left, wanted}
use Rattle.dw_feed.specs.PartialValues.{IsPartialAs, NamedFits, IsIncomplete, lim_behind, ending, ended_bytes, longer_bytes, partial_wants}
use Rattle.dw_feed.specs.PlainFeed.{field_at, holding}

-- it takes more of its bytes
abbrev pub taking : PartialUnit → List ℕ → PartialUnit
taking g bytes = record {
  header = g.header;
  unit_length = g.unit_length;
  table = g.table;
  place =
      record {
        spot = g.place.spot;
        unfinished = option_map (given_partial (option_map (longer bytes) (partial_in g.place.unfinished)))
            g.place.unfinished;
      };
  padding = g.padding;
  named = g.named;
  to_come = g.to_come - length bytes;
  pending = g.pending;
}

-- the field at the place is the same
pub taking_stays : (g : PartialUnit) (bytes : List ℕ) → holding g [] ≡ holding (taking g bytes) []
taking_stays g bytes =
    ap
    (λ (o : Option UnfinishedEntry).
    record {
      header = g.header;
      unit_length = g.unit_length;
      table = g.table;
      place = record { spot = g.place.spot; unfinished = o };
      padding = g.padding;
      named = None;
      to_come = 0;
      pending = [];
    })
    (by g.place.unfinished (option_map (longer bytes) (partial_in g.place.unfinished)))
  where
    by : (o : Option UnfinishedEntry) (q : Option PartialValue)
        → option_map (given_partial None) o ≡ option_map (given_partial None) (option_map (given_partial q) o)
    by None q = refl
    by (Some r) q = refl

taken_is : (g : PartialUnit) (r : UnfinishedEntry) (b : PartialValue) (p : Pair) (ps : List Pair)
    → g.place.unfinished ≡ Some r → r.partial ≡ Some b → next_pairs g.table r ≡ p ∷ ps → g.pending ≡ []
    → part g ≡ partial_taken (context g) (p ∷ ps) g.to_come b
taken_is g r b p ps unfinished partial next none_pending =
    let is_partial : partial_in g.place.unfinished ≡ Some b = ap partial_in unfinished ∙ partial in
    let is_next : pairs_left g.table g.place.unfinished ≡ p ∷ ps = ap (pairs_left g.table) unfinished ∙ next in
    ap (λ (o : Option PartialValue). value_part g o ++ g.pending) is_partial
    ∙ ap (λ (bs : List ℕ). value_part g (Some b) ++ bs) none_pending
    ∙ append-nil (value_part g (Some b))
    ∙ ap (λ (qs : List Pair). partial_taken (context g) qs g.to_come b) is_next

module _ (g : PartialUnit) (r : UnfinishedEntry) (b : PartialValue) (p : Pair) (ps : List Pair)
    (unfinished : g.place.unfinished ≡ Some r) (partial : r.partial ≡ Some b) (next : next_pairs g.table r ≡ p ∷ ps)
    (none_pending : g.pending ≡ []) where
  -- what was taken of the field at the place
  pub part_is : part g ≡ partial_taken (context g) (p ∷ ps) g.to_come b
  part_is = taken_is g r b p ps unfinished partial next none_pending

  value_wanted : (bytes : List ℕ) → wanted g bytes ≡ attribute_moment (context g) p.form.value bytes (left g)
  value_wanted bytes =
      ap (λ (o : Option UnfinishedEntry). next_moment (context g) g.table (frames_of g) (chain_of g) o bytes (left g))
      unfinished
      ∙ ap (λ (qs : List Pair). next_value_moment (context g) g.table qs bytes (left g)) next

  -- what was taken is longer by the bytes, of a block by no more than are still to come
  pub taking_part : (bytes : List ℕ) → (b.width ≡ None) ⊎ (length bytes ≤ g.to_come)
      → part (taking g bytes) ≡ part g ++ bytes
  taking_part bytes few =
      taken_is (taking g bytes) (given_partial (Some (longer bytes b)) r) (longer bytes b) p ps
      (ap (λ (o : Option UnfinishedEntry). option_map (given_partial (option_map (longer bytes) (partial_in o))) o)
      unfinished
      ∙ ap (λ (q : Option PartialValue). Some (given_partial (option_map (longer bytes) q) r)) partial)
      refl next none_pending
      ∙ longer_bytes (context g) (p ∷ ps) b g.to_come bytes few
      ∙ ap (λ (bs : List ℕ). bs ++ bytes) (sym part_is)

  module _ (is : IsPartialAs (context g) p b) where
    -- it isn't whole: the feed waits in it
    pub partial_waits : NamedFits b.via (left g)
        → IsIncomplete is.shape_is b.width b.bytes g.to_come (lim_behind b.via (left g))
        → length (part g) < wanted g (part g)
    partial_waits named short =
        omega (
          arith,
          partial_wants (context g) p ps b g.to_come (left g) is named short,
          ap length part_is,
          value_wanted (part g),
          ap (λ (bs : List ℕ). attribute_moment (context g) p.form.value bs (left g)) part_is,
        )

    -- all of its bytes are there, and what ends it is at the front of the rest: the value is found
    pub partial_found : g.to_come ≡ 0 → (attribute (context g) p.form.value p.constant).Fits (partial_attribute b)
        → length (part g ++ ending b.width) ≤ left g → (rest : List ℕ)
        → field_at g ((part g ++ ending b.width) ++ rest) (left g)
        ≡ found (settle g.table g.place.spot r.code (r.values ++ partial_attribute b ∷ []), [])
        (length (part g ++ ending b.width))
    partial_found none_left fits within rest =
        let all : part g ++ ending b.width
        ≡ (attribute (context g) p.form.value p.constant).spell (partial_attribute b) =
        ap (λ (bs : List ℕ). bs ++ ending b.width)
        (part_is ∙ ap (λ (n : ℕ). partial_taken (context g) (p ∷ ps) n b) none_left)
        ∙ sym (ended_bytes (context g) p ps b is) in
        let taken :
        Taken (attribute (context g) p.form.value p.constant) ((part g ++ ending b.width) ++ rest) (left g)
        (partial_attribute b) (length (part g ++ ending b.width)) =
        record {
          rest = rest;
          fits = fits;
          split = ap (λ (bs : List ℕ). bs ++ rest) all;
          is_size = sym (ap length all);
          within = within;
        }
        in
        by g.place.unfinished unfinished taken
      where
        by : (o : Option UnfinishedEntry) → o ≡ Some r
            → Taken (attribute (context g) p.form.value p.constant) ((part g ++ ending b.width) ++ rest) (left g)
            (partial_attribute b) (length (part g ++ ending b.width))
            → Rattle.dw_feed.specs.FieldReader.read_field (context g) g.table (frames_of g) (chain_of g) o g.padding
            ((part g ++ ending b.width) ++ rest) (left g)
            ≡ found (settle g.table g.place.spot r.code (r.values ++ partial_attribute b ∷ []), [])
            (length (part g ++ ending b.width))
        by o e taken =
            ap
            (λ (x : Option UnfinishedEntry).
            Rattle.dw_feed.specs.FieldReader.read_field (context g) g.table (frames_of g) (chain_of g) x g.padding
            ((part g ++ ending b.width) ++ rest) (left g))
            e
            ∙ value_found (context g) g.table g.padding ((part g ++ ending b.width) ++ rest) (left g) (frames_of g)
            (chain_of g) r p ps next (partial_attribute b) (length (part g ++ ending b.width)) taken
