use Rattle.std.proofs.Common.{◌≡◌, ◌∙◌, ◌++◌, ◌-◌, ℕ, List, Some, Vec, Result, Ok, sym, ap, subst}
use Rattle.std.specs.Prelude.{OnOk, OnErr, IfErr}
use Rattle.std.specs.Vec.{vec_len, vec_capacity}
use Rattle.std.specs.declared.alloc.Global.{Global}
use Rattle.dw_tree.specs.Lent.{EntryAt}
use Rattle.dw_section.specs.Lookup.{entry}
use Rattle.dw_ctype.specs.declared.fault.TypeError.{TypeError}
use Rattle.dw_ctype.specs.declared.typed.Typed.{Typed}
use Rattle.dw_ctype.specs.Answer.{answer, answer_by, IsRefusal}
use Rattle.dw_ctype.specs.Types.{Source}
use Rattle.dw_ctype.specs.View.{source_of}
use Rattle.dw_ctype.proofs.Answering.{answer_is, tried_other}
use Rattle.dw_ctype.proofs.text.type_text.Goals as goal

pub returns-in-Ok-true-clause-appended : goal.returns-in-Ok-true-clause-appended
returns-in-Ok-true-clause-appended c =
    let s : Source = source_of c.args.section.now c.args.strings.now in
    let name : List ℕ = c.args.name.now in
    let t : Typed = c.subject-typed.result in
    let e : EntryAt = c.in-Some.entry in
    let there : entry s.items c.args.id ≡ Some e = sym c.entry.ensures ∙ c.in-Some.is in
    let same : answer s c.args.id name ≡ answer_by s t name = answer_is s c.args.id name e t there c.subject-typed.ensures in
    let before : c.say_chain.new.out ≡ c.args.out.now = tried_other _ _ c.say_chain.result (c.in-Ok-true.is ∙ ap Ok c.in-Ok-true.field-0-test) c.say_chain.ensures in
    subst (λ (a : Result (List ℕ) TypeError). OnOk c.say_counted.result ((text : List ℕ) × ((a ≡ Ok text) × (c.say_counted.new.out.items ≡ c.args.out.now.items ++ text)))) (sym same)
    (subst (λ (v : Vec ℕ Global). OnOk c.say_counted.result ((text : List ℕ) × ((answer_by s t name ≡ Ok text) × (c.say_counted.new.out.items ≡ v.items ++ text)))) before c.say_counted.ensures.appended)

pub returns-in-Ok-true-clause-refused : goal.returns-in-Ok-true-clause-refused
returns-in-Ok-true-clause-refused c =
    let s : Source = source_of c.args.section.now c.args.strings.now in
    let name : List ℕ = c.args.name.now in
    let t : Typed = c.subject-typed.result in
    let e : EntryAt = c.in-Some.entry in
    let there : entry s.items c.args.id ≡ Some e = sym c.entry.ensures ∙ c.in-Some.is in
    let same : answer s c.args.id name ≡ answer_by s t name = answer_is s c.args.id name e t there c.subject-typed.ensures in
    let before : c.say_chain.new.out ≡ c.args.out.now = tried_other _ _ c.say_chain.result (c.in-Ok-true.is ∙ ap Ok c.in-Ok-true.field-0-test) c.say_chain.ensures in
    subst (λ (a : Result (List ℕ) TypeError). IfErr c.say_counted.result (IsRefusal a (vec_capacity c.args.out.now - vec_len c.args.out.now))) (sym same)
    (subst (λ (v : Vec ℕ Global). IfErr c.say_counted.result (IsRefusal (answer_by s t name) (vec_capacity v - vec_len v))) before c.say_counted.ensures.refused)

pub returns-in-Ok-true-clause-unchanged : goal.returns-in-Ok-true-clause-unchanged
returns-in-Ok-true-clause-unchanged c =
    let before : c.say_chain.new.out ≡ c.args.out.now = tried_other _ _ c.say_chain.result (c.in-Ok-true.is ∙ ap Ok c.in-Ok-true.field-0-test) c.say_chain.ensures in
    subst (λ (v : Vec ℕ Global). OnErr c.say_counted.result (c.say_counted.new.out.items ≡ v.items)) before c.say_counted.ensures.unchanged
