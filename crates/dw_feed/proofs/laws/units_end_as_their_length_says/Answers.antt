use Rattle.std.proofs.Common.{ℕ, List, ◌++◌, refl}
use Rattle.dw_leb.specs.declared.errors.Reason.{Reason}
use Rattle.dw_leb.specs.declared.errors.SectionId.{SectionId}
use Rattle.dw_leb.specs.declared.order.Order.{Order}
use Rattle.dw_header.specs.declared.versions.Versions.{Versions}
use Rattle.dw_header.specs.declared.versions.Versions.TheVariants.{Five}
use Rattle.dw_unit.specs.Unit.{FailsUnder}
use Rattle.dw_unit.specs.DecideUnit.{unit_says, unit_stays, AnswerSays}
use Rattle.dw_unit.specs.ReadUnit.{Answer, Unit, Fault, read_unit_under}
use Rattle.dw_unit.specs.UnitLaws.{one_fault, not_both}
use Rattle.dw_feed.specs.Laws.{HoldsUnit}
use Rattle.dw_feed.specs.Cut.{whole_never_truncated, whole_fault}
use Rattle.dw_feed.proofs.laws.units_end_as_their_length_says.Goals as goal

from_inside : (versions : Versions) (order : Order) (abbreviations bytes tail : List ℕ) (s : SectionId) (offset : ℕ) (reason : Reason) → HoldsUnit order bytes → FailsUnder versions order abbreviations (bytes ++ tail) s offset reason
    → (a : Answer) → AnswerSays versions order abbreviations bytes a → FailsUnder versions order abbreviations bytes s offset reason
from_inside versions order abbreviations bytes tail s offset reason h fails (Unit u size) g = absurd (not_both versions abbreviations order (bytes ++ tail) u size s offset reason (unit_stays versions abbreviations order bytes tail u size g) fails)
from_inside versions order abbreviations bytes tail s offset reason h fails (Fault z n r) g =
    let same = one_fault versions order abbreviations (bytes ++ tail) z s n offset r reason (whole_fault versions order bytes h abbreviations tail z n r g) fails in
    rw (← same.0, ← same.1, ← same.2) g

pub returns-clause-none_is_cut_under : goal.returns-clause-none_is_cut_under
returns-clause-none_is_cut_under c = λ versions order abbreviations bytes offset h fails. whole_never_truncated versions order bytes h abbreviations offset _ fails refl

pub returns-clause-none_is_cut : goal.returns-clause-none_is_cut
returns-clause-none_is_cut c = returns-clause-none_is_cut_under c Five

pub returns-clause-faults_stay_under : goal.returns-clause-faults_stay_under
returns-clause-faults_stay_under c = λ versions order abbreviations bytes tail s offset reason h fails. whole_fault versions order bytes h abbreviations tail s offset reason fails

pub returns-clause-faults_stay : goal.returns-clause-faults_stay
returns-clause-faults_stay c = returns-clause-faults_stay_under c Five

pub returns-clause-faults_come_under : goal.returns-clause-faults_come_under
returns-clause-faults_come_under c = λ versions order abbreviations bytes tail s offset reason fit_s fit h fails. from_inside versions order abbreviations bytes tail s offset reason h fails (read_unit_under versions order abbreviations bytes) (unit_says versions order abbreviations bytes fit_s fit)

pub returns-clause-faults_come : goal.returns-clause-faults_come
returns-clause-faults_come c = returns-clause-faults_come_under c Five
