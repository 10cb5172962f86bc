-- A body feed's fields as the feed of the definitions.
use Rattle.std.proofs.Common.{Option, Some, None}
use Rattle.dw_leb.specs.declared.errors.Fault.{Fault}
use Rattle.dw_feed.specs.BodyFeed.{PartialUnit, BodyFeed, Reading, Refused, Finished}
use Rattle.dw_feed.specs.FeedInvariant.{Kept}
use Rattle.dw_feed.specs.FieldSteps.{HoldsPart}

abbrev pub feed_of : Option PartialUnit → Option Fault → BodyFeed
feed_of (Some g) f = Reading g
feed_of None (Some f) = Refused f
feed_of None None = Finished

-- What is true of it between its calls: all before its place has a spelling, within the unit; and what is there of the
-- field at its place is of that field: of a code bytes of its number; of a value the form that it names, and bytes of a
-- number or of a length field, neither of which is whole; or a text or block of which bytes are still to come.
abbrev pub IsBodyFeed : BodyFeed → Type 0
IsBodyFeed (Reading g) = Kept (Reading g) × HoldsPart g
IsBodyFeed (Refused f) = Unit {0}
IsBodyFeed Finished = Unit {0}
