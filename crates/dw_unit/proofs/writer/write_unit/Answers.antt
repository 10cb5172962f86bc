use Rattle.std.proofs.Common.{◌≡◌, ◌++◌, ◌-◌, ◌∙◌, ℕ, List, length, subst, ap}
use Rattle.std.specs.Io.KnownBytes.{Appends}
use Rattle.dw_leb.specs.Watch.{inner_of, Wrote, AppendsFront}
use Rattle.dw_leb.specs.Transfers.{wrote_then, wrote_err}
use Rattle.dw_leb.specs.Number.{length_size}
use Rattle.dw_tree.specs.Tree.{nulls, unit_tree}
use Rattle.dw_tree.specs.Steps.{TreeAt}
use Rattle.dw_unit.specs.Unit.{WholeUnit, body_bytes, bytes_of, UnitFits}
use Rattle.dw_header.specs.declared.versions.Versions.TheVariants.{FourAndFive}
use Rattle.dw_unit.specs.UnitLaws.{written_is_read, written_is_read_under}
use Rattle.dw_unit.proofs.UnitWritten.{counted, parted, head_bytes, root_bytes}
use Rattle.dw_unit.proofs.writer.write_unit.Goals as goal

pub returns-in_err-write_header-clause-written : goal.returns-in_err-write_header-clause-written
returns-in_err-write_header-clause-written g c =
    let i = c.unit.inside in
    let u : WholeUnit = record { header = i.header; table = i.tree.table; root = i.tree.root; padding = i.padding.items } in
    let n = i.size - c.length_size.result in
    let n_is : n ≡ length (body_bytes u) = ap (λ (m : ℕ). i.size - m) (c.length_size.ensures ∙ ap length_size c.format.ensures) ∙ counted u i.size c.unit.invariant.sized in
    let same : (head_bytes u n) ++ (root_bytes u ++ nulls u.padding) ≡ bytes_of c.args.unit.now = parted u n n_is ∙ ap bytes_of c.unit.view_is in
    let a = g.W.Write.contents (inner_of c.args.writer.now) in
    let b = g.W.Write.contents (inner_of c.write_header.new.writer) in
    subst (λ (bytes : List ℕ). Wrote a b bytes c.from_residual.result) same
    (wrote_err a b (head_bytes u n) (root_bytes u ++ nulls u.padding) c.from_residual.result c.from_residual.ensures.0 c.in_err-write_header.ensures.written)

pub returns-in_err-write-clause-written : goal.returns-in_err-write-clause-written
returns-in_err-write-clause-written g c =
    let i = c.unit.inside in
    let u : WholeUnit = record { header = i.header; table = i.tree.table; root = i.tree.root; padding = i.padding.items } in
    let n = i.size - c.length_size.result in
    let n_is : n ≡ length (body_bytes u) = ap (λ (m : ℕ). i.size - m) (c.length_size.ensures ∙ ap length_size c.format.ensures) ∙ counted u i.size c.unit.invariant.sized in
    let same : (head_bytes u n) ++ (root_bytes u ++ nulls u.padding) ≡ bytes_of c.args.unit.now = parted u n n_is ∙ ap bytes_of c.unit.view_is in
    let a = g.W.Write.contents (inner_of c.args.writer.now) in
    let b = g.W.Write.contents (inner_of c.write_header.new.writer) in
    let d = g.W.Write.contents (inner_of c.write.new.writer) in
    let root_is : (unit_tree i.tree.context i.tree.table).spell i.tree.root ≡ root_bytes u = ap (λ (w : TreeAt). (unit_tree w.context w.table).spell w.root) c.unit.invariant.tree_is in
    let r = c.from_residual-in_err-write.result in
    let front : AppendsFront b d (root_bytes u) = subst (λ (bytes : List ℕ). AppendsFront b d bytes) root_is c.in_err-write.ensures.written in
    subst (λ (bytes : List ℕ). Wrote a d bytes r) same
    (wrote_then a b d (head_bytes u n) (root_bytes u ++ nulls u.padding) r c.in_ok-write_header.ensures.written
    (wrote_err b d (root_bytes u) (nulls u.padding) r c.from_residual-in_err-write.ensures.0 front))

pub returns-clause-written : goal.returns-clause-written
returns-clause-written g c =
    let i = c.unit.inside in
    let u : WholeUnit = record { header = i.header; table = i.tree.table; root = i.tree.root; padding = i.padding.items } in
    let n = i.size - c.length_size.result in
    let n_is : n ≡ length (body_bytes u) = ap (λ (m : ℕ). i.size - m) (c.length_size.ensures ∙ ap length_size c.format.ensures) ∙ counted u i.size c.unit.invariant.sized in
    let same : (head_bytes u n) ++ (root_bytes u ++ nulls u.padding) ≡ bytes_of c.args.unit.now = parted u n n_is ∙ ap bytes_of c.unit.view_is in
    let a = g.W.Write.contents (inner_of c.args.writer.now) in
    let b = g.W.Write.contents (inner_of c.write_header.new.writer) in
    let d = g.W.Write.contents (inner_of c.write.new.writer) in
    let root_is : (unit_tree i.tree.context i.tree.table).spell i.tree.root ≡ root_bytes u = ap (λ (w : TreeAt). (unit_tree w.context w.table).spell w.root) c.unit.invariant.tree_is in
    let e = g.W.Write.contents (inner_of c.write_nulls.new.writer) in
    let r = c.write_nulls.result in
    let second : Appends b d (root_bytes u) = subst (λ (bytes : List ℕ). Appends b d bytes) root_is c.in_ok-write.ensures.written in
    let third : Wrote d e (nulls u.padding) r = subst (λ (ws : List ℕ). Wrote d e (nulls ws) r) c.as_slice.ensures.value c.write_nulls.ensures.written in
    subst (λ (bytes : List ℕ). Wrote a e bytes r) same
    (wrote_then a b e (head_bytes u n) (root_bytes u ++ nulls u.padding) r c.in_ok-write_header.ensures.written
    (wrote_then b d e (root_bytes u) (nulls u.padding) r second third))

-- ---- what is written is read back

pub returns-in_err-write_header-clause-read_back : goal.returns-in_err-write_header-clause-read_back
returns-in_err-write_header-clause-read_back g c = λ abbreviations rest place. written_is_read abbreviations rest c.args.unit.now (subst UnitFits c.unit.view_is c.unit.invariant.fits) place

pub returns-in_err-write-clause-read_back : goal.returns-in_err-write-clause-read_back
returns-in_err-write-clause-read_back g c = λ abbreviations rest place. written_is_read abbreviations rest c.args.unit.now (subst UnitFits c.unit.view_is c.unit.invariant.fits) place

pub returns-clause-read_back : goal.returns-clause-read_back
returns-clause-read_back g c = λ abbreviations rest place. written_is_read abbreviations rest c.args.unit.now (subst UnitFits c.unit.view_is c.unit.invariant.fits) place

pub returns-in_err-write_header-clause-read_back_as : goal.returns-in_err-write_header-clause-read_back_as
returns-in_err-write_header-clause-read_back_as g c = λ abbreviations rest place. written_is_read_under FourAndFive abbreviations rest c.args.unit.now tt (subst UnitFits c.unit.view_is c.unit.invariant.fits) place

pub returns-in_err-write-clause-read_back_as : goal.returns-in_err-write-clause-read_back_as
returns-in_err-write-clause-read_back_as g c = λ abbreviations rest place. written_is_read_under FourAndFive abbreviations rest c.args.unit.now tt (subst UnitFits c.unit.view_is c.unit.invariant.fits) place

pub returns-clause-read_back_as : goal.returns-clause-read_back_as
returns-clause-read_back_as g c = λ abbreviations rest place. written_is_read_under FourAndFive abbreviations rest c.args.unit.now tt (subst UnitFits c.unit.view_is c.unit.invariant.fits) place
