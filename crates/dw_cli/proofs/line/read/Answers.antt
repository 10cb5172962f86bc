use Rattle.std.proofs.Common.{◌≡◌, ◌∙◌, Option, Some, None, List, option_map, sym, ap, refl, subst, codes}
use Rattle.std.specs.Prelude.{Box}
use Rattle.std.specs.Box.{box_value}
use Rattle.std.proofs.lemmas.Result.{err_from_is_err_and}
use Rattle.clap.specs.Words.{Row, Text, first_of, first_value, found_of, rows_of, subcommand_rows, subcommand_rows_of}
use Rattle.clap.specs.declared.parser.matches.ArgMatches.TheViews.{out-SubCommand}
use Rattle.clap.specs.declared.parser.matches.SubCommand.{SubCommand}
use Rattle.clap.proofs.WalkLemmas.{first_value-rows}
use Rattle.dw_cli.specs.Line.{IsBadAt, IsBadBy, IsCommand, IsGiven, IsOneOf, names, order_by, versions_by}
use Rattle.dw_cli.proofs.line.read.Goals as goal

module _ {Z : Type 0} where
  name_first : (sub : Option (Box SubCommand Z)) → option_map (λ b. (out-SubCommand (box_value b)).name.now) sub ≡ option_map (λ p. p.0) (subcommand_rows sub)
  name_first None = refl
  name_first (Some b) = refl

-- what the matches of the subcommand are
module _ (found : Option (Text × List Row)) (name : Text) (rows : List Row) (matched : found ≡ Some (name, rows)) where
  rows_same : (told : List Row) → Some told ≡ option_map (λ p. p.1) found → told ≡ rows
  rows_same told is = let same : Some told ≡ Some rows = is ∙ ap (option_map (λ (p : Text × List Row). p.1)) matched in cc

  name_same : (told : Text) → Some told ≡ option_map (λ p. p.0) found → told ≡ name
  name_same told is = let same : Some told ≡ Some name = is ∙ ap (option_map (λ (p : Text × List Row). p.0)) matched in cc

pub word_told-requires : goal.word_told-requires
word_told-requires c =
    let same = rows_same (subcommand_rows_of c.args.matches.now) _ _ c.requires.matched (rows_of (found_of c.in-Some.options.now)) c.in-Some.ensures.rows in
    subst (λ (rows : List Row). IsGiven rows (codes "info")) (sym same) c.requires.paths.info

pub word_told-requires-2 : goal.word_told-requires-2
word_told-requires-2 c =
    let same = rows_same (subcommand_rows_of c.args.matches.now) _ _ c.requires.matched (rows_of (found_of c.in-Some.options.now)) c.in-Some.ensures.rows in
    subst (λ (rows : List Row). IsGiven rows (codes "abbrev")) (sym same) c.requires.paths.abbreviations

pub command_named-requires-clause-known : goal.command_named-requires-clause-known
command_named-requires-clause-known c =
    let name_is = name_same (subcommand_rows_of c.args.matches.now) _ _ c.requires.matched c.in-Some.name.now (c.in-Some.ensures.name ∙ name_first _) in
    subst (IsOneOf names) (sym name_is) c.requires.known

pub command_named-requires-clause-words : goal.command_named-requires-clause-words
command_named-requires-clause-words c =
    let same = rows_same (subcommand_rows_of c.args.matches.now) _ _ c.requires.matched (rows_of (found_of c.in-Some.options.now)) c.in-Some.ensures.rows in
    let name_is = name_same (subcommand_rows_of c.args.matches.now) _ _ c.requires.matched c.in-Some.name.now (c.in-Some.ensures.name ∙ name_first _) in
    rw (name_is, same) c.requires.words

pub returns-clause-says : goal.returns-clause-says
returns-clause-says c =
    let f = found_of c.in-Some.options.now in
    let same = rows_same (subcommand_rows_of c.args.matches.now) _ _ c.requires.matched (rows_of f) c.in-Some.ensures.rows in
    let name_is = name_same (subcommand_rows_of c.args.matches.now) _ _ c.requires.matched c.in-Some.name.now (c.in-Some.ensures.name ∙ name_first _) in
    let command = c.in_ok-command_named.field-0 in
    let named : IsCommand c.requires.name (rows_of f) command =
    subst (λ (n : Text). IsCommand n (rows_of f) command) name_is c.in_ok-command_named.ensures.told in
    let value : (id : Text) → first_value f id ≡ first_of id c.requires.rows =
    λ id. first_value-rows f id ∙ ap (first_of id) same in
    record {
      name = c.requires.name;
      rows = c.requires.rows;
      matched = c.requires.matched;
      command = subst (λ (rows : List Row). IsCommand c.requires.name rows command) same named;
      info = sym (ap (first_of (codes "info")) same) ∙ c.word_told.ensures;
      abbreviations = sym (ap (first_of (codes "abbrev")) same) ∙ c.word_told-2.ensures;
      str = c.get_str-3.ensures ∙ value (codes "str");
      line_str = c.get_str-4.ensures ∙ value (codes "line-str");
      str_offsets = c.get_str-5.ensures ∙ value (codes "str-offsets");
      order = c.order_told.ensures ∙ ap order_by (c.get_str.ensures ∙ value (codes "big"));
      versions = c.versions_told.ensures ∙ ap versions_by (c.get_str-2.ensures ∙ value (codes "v4"));
    }

pub returns-in_err-command_named-clause-bad : goal.returns-in_err-command_named-clause-bad
returns-in_err-command_named-clause-bad c =
    let f = found_of c.in-Some.options.now in
    let same = rows_same (subcommand_rows_of c.args.matches.now) _ _ c.requires.matched (rows_of f) c.in-Some.ensures.rows in
    let name_is = name_same (subcommand_rows_of c.args.matches.now) _ _ c.requires.matched c.in-Some.name.now (c.in-Some.ensures.name ∙ name_first _) in
    let bad = c.in_err-command_named.field-0.0 in
    let named : IsBadAt bad.argument c.requires.name (rows_of f) bad.word.now =
    subst (λ (n : Text). IsBadAt bad.argument n (rows_of f) bad.word.now) name_is c.in_err-command_named.ensures.bad in
    let p = err_from_is_err_and c.from_residual.result c.from_residual.ensures.1 in
    let told : IsBadBy (subcommand_rows_of c.args.matches.now) bad = record {
      name = c.requires.name;
      rows = c.requires.rows;
      matched = c.requires.matched;
      outside = subst (λ (rows : List Row). IsBadAt bad.argument c.requires.name rows bad.word.now) same named;
    } in
    rw (p.1, p.2) told
