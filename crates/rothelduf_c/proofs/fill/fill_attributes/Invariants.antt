use Rattle.std.proofs.Common.{◌≡◌, ◌≤◌, ◌++◌, length, take, map}
use Rattle.dw_tree.specs.Lent.{attr_of, attributes_of}
use Rattle.rothelduf_c.specs.Seen.{seen_attr}
use Rattle.rothelduf_c.proofs.fill.fill_attributes.Given as goal

abbrev pub invariant-loop-attr : goal.invariant-loop-attr
invariant-loop-attr l = (l.n ≤ length l.out) × (length l.out ≡ length l.fn.out) × (l.n ≡ length (map attr_of l.yielded)) × (take l.n l.out ≡ map seen_attr (map attr_of l.yielded)) × (attributes_of l.fn.entry ≡ map attr_of l.yielded ++ l.attr-iterator)
