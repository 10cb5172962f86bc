-- From the plain reader's answer to what shows the kind of an item.
use Rattle.std.proofs.Common.{Bool, ◌≡◌, ℕ, List, Option, sym}
use Rattle.dw_leb.specs.declared.errors.Reason.{Reason}
use Rattle.dw_leb.specs.declared.order.Order.{Order}
use Rattle.dw_leb.specs.Reader.{Outcome, Found, Broken, mapped}
use Rattle.dw_leb.specs.Decide.{Says, AreBytes, found, broken, found_value, broken_value, found_broken}
use Rattle.dw_header.specs.declared.versions.Versions.{Versions}
use Rattle.dw_section.specs.Item.{VersionAndType, version_and_type, is_known, ShowsKind}
use Rattle.dw_section.specs.ReadSection.{read_version_and_type}
use Rattle.dw_section.specs.DecideItem.{version_and_type_decides}

module _ (versions : Versions) (order : Order) (n : ℕ) (bytes : List ℕ) (fit : AreBytes bytes) where
  pub kind_found : (known : Bool) (size : ℕ) → mapped (is_known versions) (read_version_and_type versions order n bytes n) ≡ found known size → ShowsKind versions order n bytes known
  kind_found known size = by (read_version_and_type versions order n bytes n) ((version_and_type_decides versions order n).says bytes n fit)
    where
      by : (o : Outcome (Option VersionAndType)) → Says (version_and_type versions order n) bytes n o → mapped (is_known versions) o ≡ found known size → ShowsKind versions order n bytes known
      by (Found m k) h e = record { seen = m; size = k; taken = h; is = (found_value (is_known versions m) known k size e).0 }
      by (Broken offset reason) h e = absurd (found_broken Bool known size offset reason (sym e))

  pub kind_broken : (offset : ℕ) (reason : Reason) → mapped (is_known versions) (read_version_and_type versions order n bytes n) ≡ broken Bool offset reason → (version_and_type versions order n).Break bytes n offset reason
  kind_broken offset reason = by (read_version_and_type versions order n bytes n) ((version_and_type_decides versions order n).says bytes n fit)
    where
      by : (o : Outcome (Option VersionAndType)) → Says (version_and_type versions order n) bytes n o → mapped (is_known versions) o ≡ broken Bool offset reason → (version_and_type versions order n).Break bytes n offset reason
      by (Found m k) h e = absurd (found_broken Bool (is_known versions m) k offset reason e)
      by (Broken at why) h e = let same = broken_value Bool at offset why reason e in rw (← same.0, ← same.1) h
