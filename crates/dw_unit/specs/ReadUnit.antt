-- Units read by a plain, slow reader.
use Rattle.std.specs.Prelude.{ℕ, suc, ◌+◌, ◌-◌, List, length, drop}
use Rattle.dw_leb.specs.declared.errors.Reason.{Reason}
use Rattle.dw_leb.specs.declared.order.Order.{Order}
use Rattle.dw_leb.specs.declared.errors.SectionId.{SectionId}
use Rattle.dw_leb.specs.declared.errors.SectionId.TheVariants.{Info, Abbrev}
use Rattle.dw_leb.specs.Reader.{Outcome, Found, Broken, Reader, ◌and_then◌}
use Rattle.dw_form.specs.declared.shape.Ctx.{Ctx}
use Rattle.dw_abbrev.specs.Table.{Table}
use Rattle.dw_abbrev.specs.ReadTable.{read_table_at}
use Rattle.dw_header.specs.declared.versions.Versions.{Versions}
use Rattle.dw_header.specs.declared.versions.Versions.TheVariants.{Five}
use Rattle.dw_header.specs.Header.{Header, context_of}
use Rattle.dw_header.specs.HeaderPlace.{header_size}
use Rattle.dw_header.specs.ReadHeader.{Heading, read_head}
use Rattle.dw_tree.specs.ReadTree.{read_tree, read_padding}
use Rattle.dw_tree.specs.Tree.{Tree, nesting}
use Rattle.dw_unit.specs.Unit.{WholeUnit, left_behind}

abbrev pub read_entries : Ctx → Table → Reader (Tree × List ℕ)
read_entries k t bytes lim = ((read_tree k t (nesting - 1)) and_then λ _. read_padding (suc (length bytes))) bytes lim

abbrev pub with_header : Header → Table → Outcome (Tree × List ℕ) → Outcome WholeUnit
with_header h t (Found x size) =
    Found (record { header = h; table = t; root = x.0; padding = x.1 }) (header_size h + size)
with_header h t (Broken offset reason) = Broken (header_size h + offset) reason

-- what stands behind a header and its unit_length
abbrev pub read_body : Table → List ℕ → Heading → Outcome WholeUnit
read_body t bytes x =
    with_header x.0 t (read_entries (context_of x.0) t (drop (header_size x.0) bytes) (left_behind x.0 x.1))

-- ---- over a table that is handed in

abbrev pub body_over : Table → List ℕ → Outcome Heading → Outcome WholeUnit
body_over t bytes (Found x size) = read_body t bytes x
body_over t bytes (Broken offset reason) = Broken offset reason

abbrev pub read_over : Versions → Order → Table → List ℕ → Outcome WholeUnit
read_over versions order t bytes = body_over t bytes (read_head versions order bytes)

-- ---- over an abbreviation section

-- what reading a unit gives
pub data Answer : Type 0 where
  Unit : WholeUnit → ℕ → Answer
  Fault : SectionId → ℕ → Reason → Answer

abbrev pub answer_body : Outcome WholeUnit → Answer
answer_body (Found u size) = Unit u size
answer_body (Broken offset reason) = Fault Info offset reason

abbrev pub answer_table : List ℕ → Heading → Outcome Table → Answer
answer_table bytes x (Found t size) = answer_body (read_body t bytes x)
answer_table bytes x (Broken offset reason) = Fault Abbrev offset reason

abbrev pub answer_head : List ℕ → List ℕ → Outcome Heading → Answer
answer_head abbreviations bytes (Found x size) = answer_table bytes x (read_table_at abbreviations x.0.abbrev_offset)
answer_head abbreviations bytes (Broken offset reason) = Fault Info offset reason

unfoldable pub read_unit_under : Versions → Order → List ℕ → List ℕ → Answer
read_unit_under versions order abbreviations bytes = answer_head abbreviations bytes (read_head versions order bytes)

-- where version 5 alone is accepted
abbrev pub read_unit : Order → List ℕ → List ℕ → Answer
read_unit = read_unit_under Five
