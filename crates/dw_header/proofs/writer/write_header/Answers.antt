use Rattle.std.proofs.Common.{◌∙◌, ℕ, List, subst, ap}
use Rattle.dw_leb.specs.declared.order.Order.{Order}
use Rattle.dw_leb.specs.declared.order.Format.{Format}
use Rattle.std.specs.Io.KnownBytes.{Appends}
use Rattle.dw_leb.specs.Watch.{inner_of, Wrote}
use Rattle.dw_leb.specs.Transfers.{wrote_then}
use Rattle.dw_leb.specs.Number.{length_field}
use Rattle.dw_header.specs.Header.{fields, fields_of}
use Rattle.dw_header.proofs.writer.write_header.Goals as goal

pub returns-clause-written : goal.returns-clause-written
returns-clause-written g c =
    let h = c.args.header in
    let a = g.W.Write.contents (inner_of c.args.writer.now) in
    let b = g.W.Write.contents (inner_of c.write_all.new.writer) in
    let d = g.W.Write.contents (inner_of c.write_all-2.new.writer) in
    let first : Appends a b ((length_field h.order).spell (h.format, c.args.unit_length)) = subst (λ (bytes : List ℕ). Appends a b bytes) (c.as_slice.ensures.value ∙ c.write_length.ensures.spelling ∙ ap (λ (o : Order). (length_field o).spell (c.format.result, c.args.unit_length)) c.order.ensures ∙ ap (λ (f : Format). (length_field h.order).spell (f, c.args.unit_length)) c.format.ensures) c.in_ok-write_all.ensures.written in
    let second : Wrote b d ((fields h.order h.format).spell (fields_of h)) c.write_all-2.result = subst (λ (bytes : List ℕ). Wrote b d bytes c.write_all-2.result) (c.as_slice-2.ensures.value ∙ c.field_bytes.ensures.spelling) c.write_all-2.ensures.written in
    wrote_then a b d ((length_field h.order).spell (h.format, c.args.unit_length)) ((fields h.order h.format).spell (fields_of h)) c.write_all-2.result first second
