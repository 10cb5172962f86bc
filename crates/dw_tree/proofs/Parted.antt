-- A value's bytes from its head and its content.
use Rattle.std.proofs.Common.{◌≡◌, ◌≤◌, ◌++◌, ℕ, List, length, take, Option, Some, None, refl, sym, ap, ◌∙◌, arith, append_assoc, append-nil, length-append, length-take-le}
use Rattle.std.proofs.lemmas.List.{take_at}
use Rattle.dw_form.specs.declared.shape.Ctx.{Ctx}
use Rattle.dw_form.specs.declared.shape.Shape.{Shape}
use Rattle.dw_form.specs.Form.{Value, Num, Wide, Uleb, Sleb, Block, Text, Present, Implicit, attribute, shape}
use Rattle.dw_form.specs.Pieces.{attribute_pieces, content_of, form_in, form_known, head_of, tail_of, via_bytes}
use Rattle.dw_form.specs.Head.{finder, head, via_width}
use Rattle.dw_form.specs.HeadFront.{front_bytes, front_is, front_size, head_front, own_size}
use Rattle.dw_abbrev.specs.Table.{Pair}
use Rattle.dw_tree.specs.RowHeads.{First, first_bytes, first_is}

-- a head's size tells as much of its front's as the whole spelling's does
size_in_head : (v : Value) (via start all : ℕ) (front own : List ℕ) → length front ≡ own_size v via all → front ++ finder start v ≡ own → own_size v via (length own) ≡ length front
size_in_head (Block w bytes) via start all front own e h = sym e
size_in_head (Text bytes) via start all front own e h = sym e
size_in_head (Num x) via start all front own e h = ap length (sym h) ∙ ap length (append-nil front)
size_in_head (Wide x) via start all front own e h = ap length (sym h) ∙ ap length (append-nil front)
size_in_head (Uleb x) via start all front own e h = ap length (sym h) ∙ ap length (append-nil front)
size_in_head (Sleb x) via start all front own e h = ap length (sym h) ∙ ap length (append-nil front)
size_in_head Present via start all front own e h = ap length (sym h) ∙ ap length (append-nil front)
size_in_head (Implicit x) via start all front own e h = ap length (sym h) ∙ ap length (append-nil front)

module _ (k : Ctx) (p : Pair) (hs pool : List ℕ) (x : First k p hs pool) where
  -- how many bytes of its head the first value is spelled with
  abbrev pub front_count : ℕ
  front_count = front_size x.value (length (head k p.form.value x.start x.value))

  abbrev pub content_and_end : List ℕ
  content_and_end = content_of x.value.value ++ tail_of x.value.value

  pub parted : (first_bytes k p hs pool ≡ take front_count hs ++ content_and_end) × (front_count ≤ length hs)
  parted = by (shape (form_in p.form.value x.value.via) k.address_size k.format) refl
    where
      by : (o : Option Shape) → shape (form_in p.form.value x.value.via) k.address_size k.format ≡ o → (first_bytes k p hs pool ≡ take front_count hs ++ content_and_end) × (front_count ≤ length hs)
      by None e = absurd (form_known k p.form.value p.constant x.value x.fits e)
      by (Some s) e =
          let a = x.value in
          let spelled = (attribute k p.form.value p.constant).spell a in
          let front = front_bytes a spelled in
          let own = head k p.form.value x.start a in
          let behind = finder x.start a.value ++ x.rest in
          let f = front_is k p.form.value p.constant a s x.fits e in
          let joined : front ++ finder x.start a.value ≡ own = head_front k p.form.value p.constant a x.start x.fits in
          let long : length front ≡ front_size a (length spelled) = length-take-le (front_size a (length spelled)) spelled f.1 in
          let count : front_count ≡ length front = size_in_head a.value (via_width a.via) x.start (length spelled) front own long joined in
          let split : hs ≡ front ++ behind = x.split ∙ (ap (λ (b : List ℕ). b ++ x.rest) (sym joined) ∙ append_assoc front (finder x.start a.value) x.rest) in
          let taken : take front_count hs ≡ front = ap (λ (b : List ℕ). take front_count b) split ∙ take_at front behind front_count (sym count) in
          let same : spelled ≡ front ++ content_and_end = (attribute_pieces k p.form.value p.constant a s x.fits e).0 ∙ (sym (append_assoc (via_bytes a.via) (head_of k s a.value) content_and_end) ∙ ap (λ (b : List ℕ). b ++ content_and_end) (sym f.0)) in
          (first_is k p hs pool x ∙ (same ∙ ap (λ (b : List ℕ). b ++ content_and_end) (sym taken)), omega (arith, count, ap length split, length-append front behind))
