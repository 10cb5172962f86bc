-- What a handle of a feed owns.
use base.Fml.{Fml, ftrue}
use base.Stored.{Coded}
use denote.RawPtr.{Ptr}
use Rattle.std.specs.Prelude.{Some, None, Option}
use Rattle.std.specs.Coded.{coded_option}
use Rattle.std.specs.Box.Ownership.{box_owns}
use Rattle.std.specs.Global.{Global}
use Rattle.std_heap.specs.contracts.GlobalAllocator.TheImpl.{ghosts}
use Rattle.rothelduf_c.specs.contracts.feeding.Feeding.{the_row}

abbrev pub held_value : Type 0
held_value = Option the_row.Denot

abbrev pub held_coded : Coded held_value
held_coded = coded_option the_row.coded

abbrev pub held_owns : Global → Ptr → held_value → Fml
held_owns alloc p None = ftrue
held_owns alloc p (Some x) = box_owns (ghosts.dealloc_token alloc) the_row p x
