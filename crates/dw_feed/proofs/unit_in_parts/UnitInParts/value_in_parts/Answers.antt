use Rattle.std.proofs.Common.{◌≡◌, [], Option, Some, None, length, refl, ap, sym, subst, ◌∙◌, arith, length-append, inl, inr}
use Rattle.std.specs.Prelude.{IsSome}
use Rattle.dw_leb.specs.Number.{Unsigned}
use Rattle.dw_leb.specs.DecideNumber.{uleb_some}
use Rattle.dw_form.specs.Pieces.{via_bytes}
use Rattle.dw_abbrev.specs.PairView.{pair_of}
use Rattle.dw_tree.specs.Steps.{next_pair, partial_in}
use Rattle.dw_feed.specs.BodyFeed.{PartialUnit, part}
use Rattle.dw_feed.specs.FeedInvariant.{left as left_of}
use Rattle.dw_feed.specs.FieldSteps.{Waits, HasPart, keeps_stands, waits_fronts}
use Rattle.dw_feed.specs.Openings.{value_here}
use Rattle.dw_feed.specs.PartialValues.{NamedFits}
use Rattle.dw_feed.specs.ValueSteps.{part_free}
use Rattle.dw_feed.specs.ValueCut.{IsCutHere, cut_here}
use Rattle.dw_feed.proofs.unit_in_parts.UnitInParts.value_in_parts.Goals as goal
use Rattle.dw_feed.proofs.unit_in_parts.UnitInParts.value_in_parts.Goals.{else-is_none-2-via-then-is_none-2+else-is_empty, else-is_none-2-via-else-is_none-2}

-- where nothing is there of a value, no form was named: that has bytes
none_named : (g : PartialUnit) → HasPart g → IsSome (next_pair g.table g.place.unfinished) → partial_in g.place.unfinished ≡ None → part g ≡ [] → g.named ≡ None
none_named g has some free none_there = by g.named refl (value_here g has some free).named_fits
  where
    by : (o : Option Unsigned) → g.named ≡ o → NamedFits o (left_of g) → g.named ≡ None
    by None e fits = e
    by (Some u) e fits = absurd (omega (arith, uleb_some u fits.0.0, ap length (sym (part_free g free) ∙ none_there), length-append (via_bytes g.named) g.pending, ap (λ (o : Option Unsigned). length (via_bytes o)) e))

pub named_form-requires-clause-waits : goal.named_form-requires-clause-waits
named_form-requires-clause-waits c = waits_fronts c.args.self.now c.requires.waits

pub own_value-requires-clause-waits : goal.own_value-requires-clause-waits
own_value-requires-clause-waits c = waits_fronts c.args.self.now c.requires.waits

pub rest_of_value-requires-clause-waits : goal.rest_of_value-requires-clause-waits
rest_of_value-requires-clause-waits c = waits_fronts c.args.self.now c.requires.waits

pub rest_of_value-requires-clause-cut : goal.rest_of_value-requires-clause-cut
rest_of_value-requires-clause-cut c = by c.requires.waits
  where
    g : PartialUnit
    g = c.args.self.now

    by : Waits g → IsCutHere (pair_of c.args.pair.now) g
    by (inl short) = cut_here g (pair_of c.args.pair.now) (keeps_stands g c.requires.stands) c.requires.next short
    by (inr none_there) =
        let unnamed : g.named ≡ None = none_named g c.requires.has (subst IsSome (sym c.requires.next) refl) c.requires.between none_there in
        elim c.else-is_none-2.branch [
          | else-is_none-2-via-then-is_none-2+else-is_empty w ↦ absurd (grind (arith, w.is_empty.ensures, w.if-is_empty.false, ap length (sym (part_free g c.requires.between) ∙ none_there), length-append (via_bytes g.named) g.pending))
          | else-is_none-2-via-else-is_none-2 w ↦ absurd (grind (arith, w.if-is_none-2.false, unnamed))
        ]
