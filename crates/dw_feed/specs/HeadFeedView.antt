-- A feed's fields as the feed of the definitions, and the steps of its calls.
use Rattle.std.proofs.Common.{sym, subst}
use Rattle.std.specs.Prelude.{◌≡◌, ◌≢◌, ℕ, List, Option, Some, None}
use Rattle.dw_leb.specs.declared.errors.Reason.TheVariants.{Truncated}
use Rattle.dw_leb.specs.declared.errors.Fault.{Fault as TheFault}
use Rattle.dw_leb.specs.declared.order.Order.{Order}
use Rattle.dw_header.specs.declared.versions.Versions.{Versions}
use Rattle.dw_header.specs.Header.{Header}
use Rattle.dw_header.specs.HeaderPlace.{HeaderFaultUnder}
use Rattle.dw_feed.specs.declared.head.Answered.{Answered}
use Rattle.dw_feed.specs.declared.head.Answered.TheVariants as answered
use Rattle.dw_feed.specs.declared.progress.Progress.{Progress}
use Rattle.dw_feed.specs.declared.progress.Progress.TheVariants.{More, Done, Fault, NoMemory, Spent}
use Rattle.dw_feed.specs.HeaderCut.{IsCut}
use Rattle.dw_feed.specs.HeadFeed.{HeadState, Reading, Refused, Finished, IsHeader, Ends}

abbrev pub state_of : List ℕ → Option Answered → HeadState
state_of taken None = Reading taken
state_of taken (Some (answered.Fault f)) = Refused f
state_of taken (Some answered.Header) = Finished

-- while more is needed the bytes that were taken are cut off
abbrev pub IsFeed : Versions → Order → HeadState → Type 0
IsFeed versions order (Reading taken) = IsCut versions order taken
IsFeed versions order (Refused f) = Unit {0}
IsFeed versions order Finished = Unit {0}

-- what ends a feed
abbrev pub ended : Progress (Header × ℕ) → Option Answered
ended More = None
ended (Done x) = Some answered.Header
ended (Fault f) = Some (answered.Fault f)
ended NoMemory = Some answered.Header
ended Spent = Some answered.Header

-- a fault that more bytes may mend is none
abbrev pub JudgedAs : TheFault → Progress (Header × ℕ) → Type 0
JudgedAs f More = f.reason ≡ Truncated
JudgedAs f (Done x) = ⊥
JudgedAs f (Fault g) = (g ≡ f) × (f.reason ≢ Truncated)
JudgedAs f NoMemory = ⊥
JudgedAs f Spent = ⊥

-- what these bytes are, which without their last one are cut off
abbrev pub ShowsHead : Versions → Order → List ℕ → Progress (Header × ℕ) → Type 0
ShowsHead versions order bytes More = IsCut versions order bytes
ShowsHead versions order bytes (Done x) = IsHeader versions order bytes x.0 x.1
ShowsHead versions order bytes (Fault f) = HeaderFaultUnder versions order bytes f × (f.reason ≢ Truncated)
ShowsHead versions order bytes NoMemory = ⊥
ShowsHead versions order bytes Spent = ⊥

-- nothing was answered yet
pub reading_cut : (versions : Versions) (order : Order) (taken : List ℕ) (answer : Option Answered) → answer ≡ None
    → IsFeed versions order (state_of taken answer) → IsCut versions order taken
reading_cut versions order taken answer none is =
    subst (λ (o : Option Answered). IsFeed versions order (state_of taken o)) none is

pub reading_ends : (versions : Versions) (order : Order) (taken : List ℕ) (answer : Option Answered) (f : TheFault)
    → answer ≡ None → HeaderFaultUnder versions order taken f → f.reason ≡ Truncated
    → Ends versions order (state_of taken answer) (Some f)
reading_ends versions order taken answer f none fault cut =
    subst (λ (o : Option Answered). Ends versions order (state_of taken o) (Some f)) (sym none) (fault, cut)
