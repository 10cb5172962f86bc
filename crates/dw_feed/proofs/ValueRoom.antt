-- A value that is whole is one that a draft may be given.
use Rattle.std.proofs.Common.{◌≡◌, ℕ, ◌≤◌, false, List, length, take, Some, sym, ap, ◌∙◌, arith}
use Rattle.std.specs.Prelude.{Result, Ok, Err, IfOk, IfErr}
use Rattle.std.proofs.lemmas.List.{take_at}
use Rattle.dw_leb.specs.declared.errors.Reason.{Reason}
use Rattle.dw_leb.specs.Part.{Part, Taken}
use Rattle.dw_leb.specs.Reader.{Reader}
use Rattle.dw_leb.specs.Decide.{Decides, found}
use Rattle.dw_form.specs.Form.{Attribute, attribute}
use Rattle.dw_form.specs.Lent.{lent_outcome}
use Rattle.dw_abbrev.specs.Table.{Pair}
use Rattle.dw_tree.specs.Steps.{NextFits, next_pair}
use Rattle.dw_tree.specs.Next.{next_is, fits_next}
use Rattle.dw_unit.specs.Draft.{passes_limit, value_bytes}
use Rattle.dw_feed.specs.BodyFeed.{PartialUnit}
use Rattle.dw_feed.specs.BodyView.{drafted}
use Rattle.dw_feed.specs.FeedInvariant.{context, left}
use Rattle.dw_feed.specs.FieldSteps.{Standing}
use Rattle.dw_feed.proofs.DraftRoom.{room_for}

-- the plain reader's outcome of a value that is lent, by what the call answers of the grammar
pub lent_by : {X Y : Type 0} (P : Part Y) (R : Reader Y) → Decides P R → (bytes : List ℕ) (lim : ℕ) (view : X → Y) (r : Result (X × ℕ) Reason)
    → IfOk r (λ x. Taken P bytes lim (view x.0) x.1) → IfErr r (λ e. P.Break bytes lim 0 e) → R bytes lim ≡ lent_outcome view r
lent_by P R it bytes lim view (Ok x) h g =
    let within : length (P.spell (view x.0)) ≤ lim = omega (arith, h.is_size, h.within) in
    ap (λ (b : List ℕ). R b lim) h.split ∙ it.takes (view x.0) h.rest lim h.fits within ∙ ap (λ (n : ℕ). found (view x.0) n) h.is_size
lent_by P R it bytes lim view (Err reason) h g = it.faults bytes lim 0 reason g

-- it has a spelling as the next value, and there is room for it
pub value_fits : (g : PartialUnit) (p : Pair) → Standing g → next_pair g.table g.place.unfinished ≡ Some p → (bytes : List ℕ) (v : Attribute) (size : ℕ) → Taken (attribute (context g) p.form.value p.constant) bytes (left g) v size
    → NextFits (context g) g.table g.place.unfinished v × (passes_limit (drafted g) (length (value_bytes (drafted g) v)) ≡ false)
value_fits g p stands next bytes v size taken =
    let fits : NextFits (context g) g.table g.place.unfinished v = fits_next (context g) v g.table g.place.unfinished p next taken.fits in
    let spelled = next_is (context g) v g.table g.place.unfinished p next fits in
    (fits, room_for g stands (length (value_bytes (drafted g) v)) (omega (arith, ap length spelled.1, taken.is_size, taken.within)))

-- its bytes are those at the front
pub value_spelled : (g : PartialUnit) (p : Pair) → Standing g → next_pair g.table g.place.unfinished ≡ Some p → (bytes : List ℕ) (v : Attribute) (size : ℕ) → Taken (attribute (context g) p.form.value p.constant) bytes (left g) v size
    → take size bytes ≡ value_bytes (drafted g) v
value_spelled g p stands next bytes v size taken =
    let fits : NextFits (context g) g.table g.place.unfinished v = fits_next (context g) v g.table g.place.unfinished p next taken.fits in
    let spelled = next_is (context g) v g.table g.place.unfinished p next fits in
    let a : List ℕ = (attribute (context g) p.form.value p.constant).spell v in
    ap (take size) taken.split ∙ take_at a taken.rest size taken.is_size ∙ sym spelled.1
