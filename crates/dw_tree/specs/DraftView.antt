-- A draft's fields, and what they stand for.
use Rattle.std.specs.Prelude.{ℕ, ◌+◌, ◌<◌, ◌≤◌, ◌^◌, List, length, take, drop, vec_len, vec_capacity, Option, None, Some, option_map, IfSome, IsSome}
use Rattle.dw_leb.specs.View.{uleb_of}
use Rattle.dw_form.specs.Form.{Attribute, IsContext}
use Rattle.dw_tree.specs.declared.draft.TreeDraft.TheInside.{Inside}
use Rattle.dw_tree.specs.declared.row.PartialValue.{PartialValue as StoredPartial}
use Rattle.dw_tree.specs.Place.{PartialValue, Place, spot_after}
use Rattle.dw_tree.specs.Steps.{Growing, given_partial}
use Rattle.dw_tree.specs.Row.{Token}
use Rattle.dw_tree.specs.Flat.{place_of}
use Rattle.dw_tree.specs.DraftInvariant.{AreLists, HasRoom, entry_with}
use Rattle.dw_tree.specs.Counts.{AreCounted}

-- the bytes in the pool of the values that were given: those before the bytes of a partial one
abbrev pub front : Option StoredPartial → List ℕ → List ℕ
front None pool = pool
front (Some b) pool = take b.pool pool

-- a partial value: its bytes are the pool's last
abbrev pub partial_of : List ℕ → StoredPartial → PartialValue
partial_of pool b = record { via = option_map uleb_of b.via; width = b.width; bytes = drop b.pool pool }

abbrev pub place_with : Option StoredPartial → List ℕ → Place → Place
place_with None pool p = p
place_with (Some b) pool p =
    record { spot = p.spot; unfinished = option_map (given_partial (Some (partial_of pool b))) p.unfinished }

-- over the pool's bytes of the values that were given
abbrev pub given : Inside → List ℕ → Growing
given a pool =
    record {
      context = a.context;
      table = a.table.value;
      start = a.start;
      place = place_of a.context a.table.value a.rows.items a.heads.items pool a.unfinished;
    }

abbrev pub growing : Inside → Growing
growing a = record {
  context = a.context;
  table = a.table.value;
  start = a.start;
  place =
      place_with a.partial a.pool.items
      (place_of a.context a.table.value a.rows.items a.heads.items (front a.partial a.pool.items) a.unfinished);
}

-- what is so of the values that were given, whose bytes are these: what the lists stand for
pub record IsGiven (a : Inside) (pool : List ℕ) : Type 0 where
  pub context_fits : IsContext a.context
  pub tokens : List Token
  pub values : List Attribute
  pub lists :
      AreLists a.context a.table.value a.start a.rows.items a.heads.items pool a.nested.items a.unfinished a.here tokens
      values
  pub room : HasRoom a.unfinished (vec_len a.rows) (vec_capacity a.rows) (vec_len a.nested) (vec_capacity a.nested)
  pub near : a.here < 2 ^ 63
  pub counted :
      AreCounted a.table.value
      (record { spot = spot_after tokens; unfinished = option_map (entry_with values) a.unfinished }) a.entries a.asked

-- a partial value belongs to the unfinished entry, and there is room for its head
pub record HasPartial (a : Inside) (b : StoredPartial) : Type 0 where
  pub within : b.pool ≤ length a.pool.items
  pub unfinished : IsSome a.unfinished
  pub room : vec_len a.heads + 48 ≤ vec_capacity a.heads

pub record IsDraft (a : Inside) : Type 0 where
  pub given : IsGiven a (front a.partial a.pool.items)
  pub partial : IfSome a.partial (HasPartial a)
