-- The moments of codes: of the root, of entries among children, and of the nulls of the padding.
use Rattle.std.proofs.Common.{Bool}
use Rattle.dw_leb.specs.declared.errors.Reason.TheVariants.{SecondRoot}
use Rattle.dw_leb.specs.Reader.{checked}
use Rattle.dw_leb.specs.ReadNumber.{read_uleb}
use Rattle.dw_abbrev.specs.Table.{Table, is_null}
use Rattle.dw_tree.specs.Tree.{bad_root, bad_child, not_null}
use Rattle.dw_leb.specs.Moments.{HasMoment, checked_moment, refuses_unless}
use Rattle.dw_leb.specs.NumberMoments.{leb_moment, uleb_has}
use Rattle.dw_feed.specs.UnitNeverTruncated.{root_judges, child_judges}

pub root_code_has : (t : Table) → HasMoment (checked read_uleb (bad_root t)) leb_moment
root_code_has t = checked_moment read_uleb (bad_root t) (root_judges t) leb_moment uleb_has

pub child_code_has : (t : Table) (room : Bool) → HasMoment (checked read_uleb (bad_child t room)) leb_moment
child_code_has t room = checked_moment read_uleb (bad_child t room) (child_judges t room) leb_moment uleb_has

pub null_has : HasMoment (checked read_uleb not_null) leb_moment
null_has = checked_moment read_uleb not_null (λ u. refuses_unless (is_null u) SecondRoot (λ e. cc)) leb_moment uleb_has
