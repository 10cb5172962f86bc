-- A body feed's fields as the unit of the definitions of which only some bytes were taken.
use Rattle.std.proofs.Common.{refl}
use Rattle.std.specs.Prelude.{ℕ, List, Option}
use Rattle.std.specs.Coded.{Coded, code_by, coded×, coded_list, coded_option, coded_ℕ}
use Rattle.dw_leb.specs.Number.{Unsigned}
use Rattle.dw_tree.specs.Codes.{unsigned_code}
use Rattle.dw_unit.specs.Draft.{Drafted, drafted_code}
use Rattle.dw_feed.specs.BodyFeed.{PartialUnit}

-- a unit under construction, and what is there of the next field
abbrev pub coming : Drafted → ℕ → Option Unsigned → ℕ → List ℕ → PartialUnit
coming d n named to_come pending =
    record {
      header = d.header;
      unit_length = n;
      table = d.table;
      place = d.place;
      padding = d.padding;
      named = named;
      to_come = to_come;
      pending = pending;
    }

abbrev pub drafted : PartialUnit → Drafted
drafted g = record { header = g.header; table = g.table; place = g.place; padding = g.padding }

abbrev pub partial_unit_code : Coded PartialUnit
partial_unit_code =
    code_by (Drafted × (ℕ × (Option Unsigned × (ℕ × List ℕ))))
    (coded× drafted_code (coded× coded_ℕ (coded× (coded_option unsigned_code) (coded× coded_ℕ (coded_list coded_ℕ)))))
    (λ g. (drafted g, (g.unit_length, (g.named, (g.to_come, g.pending)))))
    (λ p. coming p.0 p.1.0 p.1.1.0 p.1.1.1.0 p.1.1.1.1) (λ _. refl)
