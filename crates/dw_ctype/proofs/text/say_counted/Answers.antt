use Rattle.std.proofs.Common.{◌≡◌, ◌∙◌, ◌++◌, ℕ, List, Option, Some, true, Ok, sym, ap, refl}
use Rattle.std.specs.Prelude.{is_some, nat_le, not}
use Rattle.dw_ctype.specs.Types.{Source, say}
use Rattle.dw_ctype.specs.View.{source_of}
use Rattle.dw_ctype.specs.Visits.{less, visits}
use Rattle.dw_ctype.proofs.Answering.{few, few_answered, grown}
use Rattle.dw_ctype.proofs.text.say_counted.Goals as goal

pub returns-clause-appended : goal.returns-clause-appended
returns-clause-appended c =
    let s : Source = source_of c.args.section.now c.args.strings.now in
    let some : is_some c.count.result ≡ true = c.is_none.ensures ∙ ap not c.if-is_none.false in
    let enough : nat_le (visits s.items 64 c.args.typed) 1024 ≡ true = few (visits s.items 64 c.args.typed) 1024 (ap (λ (o : Option ℕ). is_some o) (sym c.count.ensures.count) ∙ some) in
    (say s 64 c.args.typed c.args.name.now, (few_answered s c.args.typed c.args.name.now enough, grown c.append.result c.args.out.now.items c.append.new.out.items (say s 64 c.args.typed c.args.name.now) (sym c.is_err.ensures.value ∙ c.if-is_err.false) c.append.ensures.bytes))
