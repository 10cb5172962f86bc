use Rattle.std.proofs.Common.{◌≡◌, ◌∙◌, [], Bor, List, map, sym, ap, subst, inl, inr}
use Rattle.std.proofs.lemmas.Result.{err_from_is_err_and}
use Rattle.clap.specs.Kinds.{HasKind, IsAmong}
use Rattle.clap.specs.Values.{kind_of}
use Rattle.clap.specs.declared.error.Error.{Error}
use Rattle.dw_cli.specs.declared.outcome.LineError.{LineError}
use Rattle.dw_cli.specs.declared.outcome.LineError.TheVariants as outcome
use Rattle.clap.specs.Words.{App, Text, is_simple, subcommand_of, subcommand_rows_of}
use Rattle.clap.proofs.TakesLemmas.{some_rows}
use Rattle.clap.specs.Faults.{fault_of, is_simple_and_free}
use Rattle.dw_cli.specs.Line.{Converts, IsLineError, refusals}
use Rattle.dw_cli.proofs.Subcommands.{meets}
use Rattle.dw_cli.proofs.line.matches_of.Goals as goal

pub returns-clause-meets : goal.returns-clause-meets
returns-clause-meets c =
    let m = c.in_ok-try_get_matches_from.field-0 in
    let shape = c.in_ok-program.ensures.shape in
    let parsed = c.in_ok-try_get_matches_from.ensures.parsed in
    let wanted = parsed.from.needs_subcommand ∙ ap (λ (a : App). a.top.subcommand_required) shape in
    let met = (parsed.parsed (parsed.from.globals ∙ c.in_ok-program.ensures.globals)).checked.subcommand wanted in
    let words : List Text = map (λ (w : Bor Text). w.now) c.args.words.now in
    let exact = (c.in_ok-try_get_matches_from.ensures.matches (ap is_simple shape)).1 in
    let taken : refusals words ≡ [] = sym (ap (λ (a : App). fault_of a words) shape) ∙ c.in_ok-try_get_matches_from.ensures.kinds (ap is_simple_and_free shape) in
    meets words (subcommand_rows_of m) (exact ∙ ap (λ (a : App). subcommand_of a words) shape) (sym (some_rows _) ∙ met) taken

pub returns-clause-exact : goal.returns-clause-exact
returns-clause-exact c =
    let shape = c.in_ok-program.ensures.shape in
    let words : List Text = map (λ (w : Bor Text). w.now) c.args.words.now in
    (c.in_ok-try_get_matches_from.ensures.matches (ap is_simple shape)).1 ∙ ap (λ (a : App). subcommand_of a words) shape

pub returns-clause-taken : goal.returns-clause-taken
returns-clause-taken c =
    let shape = c.in_ok-program.ensures.shape in
    let words : List Text = map (λ (w : Bor Text). w.now) c.args.words.now in
    sym (ap (λ (a : App). fault_of a words) shape) ∙ c.in_ok-try_get_matches_from.ensures.kinds (ap is_simple_and_free shape)

-- the parser's error has one of the kinds of the first step that fails
line_error : (words : List Text) (e : Error) (told : LineError) → HasKind (refusals words) e → Converts e told → IsLineError words told
line_error words e (outcome.Parse f) has converts = elim has [
  | inl memory ↦ absurd (converts.1 memory)
  | inr among ↦ (subst (λ (x : Error). IsAmong (kind_of x) (refusals words)) (sym converts.0) among, λ m. converts.1 (sym (ap kind_of converts.0) ∙ m))
]
line_error words e (outcome.BadWord bad) has converts = absurd converts
line_error words e outcome.Memory has converts = tt

pub returns-in_err-try_get_matches_from-clause-refused : goal.returns-in_err-try_get_matches_from-clause-refused
returns-in_err-try_get_matches_from-clause-refused c =
    let shape = c.in_ok-program.ensures.shape in
    let words : List Text = map (λ (w : Bor Text). w.now) c.args.words.now in
    let e : Error = c.in_err-try_get_matches_from.field-0.0 in
    let p = err_from_is_err_and c.from_residual-in_err-try_get_matches_from.result c.from_residual-in_err-try_get_matches_from.ensures.1 in
    let has : HasKind (refusals words) e = subst (λ (a : App). HasKind (fault_of a words) e) shape (c.in_err-try_get_matches_from.ensures.kinds (ap is_simple_and_free shape)) in
    rw p.1 (line_error words e p.0 has p.2)
