-- A unit in which one number is another.
use Rattle.dw_tree.specs.Put.{Edit, put}
use Rattle.dw_unit.specs.Unit.{WholeUnit, tree_of}

-- its tree is the edited one; the header, the table and the padding stay
abbrev pub put_in_unit : Edit → WholeUnit → WholeUnit
put_in_unit e u = record { header = u.header; table = u.table; root = (put e (tree_of u)).root; padding = u.padding }
