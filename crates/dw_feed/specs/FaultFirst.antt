-- A code or null that is refused is told before memory is wanted for it.
use Rattle.std.proofs.Common.{◌≡◌, ◌≢◌, ℕ, ◌-◌, List, [], ◌∷◌, ◌++◌, length, None}
use Rattle.dw_leb.specs.declared.errors.Reason.{Reason}
use Rattle.dw_leb.specs.declared.errors.Reason.TheVariants.{Truncated}
use Rattle.dw_leb.specs.Number.{uleb}
use Rattle.dw_leb.specs.Reader.{Broken, checked}
use Rattle.dw_leb.specs.ReadNumber.{read_uleb}
use Rattle.dw_leb.specs.Decide.{judged_decides}
use Rattle.dw_leb.specs.DecideNumber.{uleb_decides}
use Rattle.dw_form.specs.declared.shape.Ctx.{Ctx}
use Rattle.dw_abbrev.specs.Table.{Table}
use Rattle.dw_tree.specs.Tree.{Forest, none, more, bad_root, bad_child, not_null, nesting}
use Rattle.dw_tree.specs.Place.{Frame}
use Rattle.dw_unit.specs.Unit.{WholeUnit}
use Rattle.dw_feed.specs.Room.{has_room}
use Rattle.dw_feed.specs.declared.progress.Progress.{Progress}
use Rattle.dw_feed.specs.declared.progress.Progress.TheVariants as answers
use Rattle.dw_feed.specs.FieldPlace.{NextBreaks}
use Rattle.dw_feed.specs.BodyFeed.{PartialUnit, BodyFeed, Reading, part}
use Rattle.dw_feed.specs.FeedInvariant.{frames_of, chain_of, context, left}
use Rattle.dw_feed.specs.FieldSteps.{CodeStands, code_meaning, code_read}

-- a code or null comes next, and is refused for good
abbrev pub RefusesCode : PartialUnit → List ℕ → Type 0
RefusesCode g bytes =
    (g.place.unfinished ≡ None) × (own : ℕ) × (reason : Reason) × (reason ≢ Truncated)
    × NextBreaks (context g) g.table (frames_of g) (chain_of g) None bytes (left g) own reason

-- then a growth isn't what is answered
abbrev pub FaultFirst : BodyFeed → List ℕ → Progress WholeUnit → Type 0
FaultFirst (Reading g) piece answers.NoMemory = RefusesCode g (part g ++ piece) → ⊥
FaultFirst feed piece answer = Unit {0}

code_breaks : (k : Ctx) (t : Table) (fs : List Frame) (ts : Forest) (bytes : List ℕ) (lim own : ℕ) (reason : Reason)
    → NextBreaks k t fs ts None bytes lim own reason
    → checked read_uleb (code_meaning t fs ts) bytes lim ≡ Broken own reason
code_breaks k t [] none bytes lim own reason h =
    (judged_decides uleb read_uleb (bad_root t) uleb_decides).faults bytes lim own reason h
code_breaks k t [] (more x ts) bytes lim own reason h =
    (judged_decides uleb read_uleb not_null uleb_decides).faults bytes lim own reason h.1
code_breaks k t (f ∷ fs) ts bytes lim own reason h =
    (judged_decides uleb read_uleb (bad_child t (has_room (nesting - length (f ∷ fs)))) uleb_decides).faults bytes lim
    own reason h

-- one that stands isn't refused
pub none_refused : (g : PartialUnit) (bytes : List ℕ) → CodeStands g bytes → RefusesCode g bytes → ⊥
none_refused g bytes stands (free, own, reason, ne, breaks) =
    ne
    (stands free own reason
    (code_read g free bytes (Broken own reason)
    (code_breaks (context g) g.table (frames_of g) (chain_of g) bytes (left g) own reason breaks)))
