-- How many fields may still come: each has a byte, or is one of the values of the unfinished entry.
use Rattle.std.specs.Prelude.{ℕ, suc, ◌+◌, ◌*◌, List, [], ◌∷◌, length}
use Rattle.dw_abbrev.specs.Table.{Declaration, Table}
use Rattle.dw_feed.specs.BodyFeed.{PartialUnit, pairs_left}

abbrev pub longest_of : List Declaration → ℕ
longest_of [] = 0
longest_of (d ∷ ds) = length d.pairs + longest_of ds

-- no declaration has more pairs
abbrev pub longest : Table → ℕ
longest t = longest_of t.declarations

-- in so many bytes
abbrev pub turns : PartialUnit → ℕ → ℕ
turns g n = n * suc (longest g.table) + length (pairs_left g.table g.place.unfinished)
