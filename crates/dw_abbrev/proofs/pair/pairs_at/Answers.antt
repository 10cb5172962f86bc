use Rattle.std.proofs.lemmas.List.{length-map, map-append}
use Rattle.dw_abbrev.specs.declared.pair.Pair.{Pair as RustPair}
use Rattle.dw_abbrev.specs.PairView.{pair_of}
use Rattle.std.specs.Prelude.{map, option_map}
use Rattle.dw_leb.specs.View.{uleb_of, sleb_of}
use Rattle.std.proofs.Common.{◌≡◌, ◌<◌, ◌∙◌, ℕ, true, false, List, length, [], ◌∷◌, None, sym, ap, subst, arith}
use Rattle.dw_abbrev.specs.Table.{Pair, refused_pair}
use Rattle.dw_abbrev.specs.Build.{ArePairs}
use Rattle.dw_leb.specs.declared.unsigned.Uleb.{Uleb}
use Rattle.dw_abbrev.specs.declared.pair.Zeros.{Zeros}
use Rattle.dw_abbrev.specs.PairView.{pairs_of}
use Rattle.dw_abbrev.specs.PairTaken.{HasConstant}
use Rattle.dw_abbrev.specs.Table.{is_end}
use Rattle.dw_abbrev.specs.ReadTable.{read_names, read_pairs}
use Rattle.dw_abbrev.specs.Place.{Gives}
use Rattle.std.proofs.lemmas.Result.{err_from_is_err_and}
use Rattle.dw_abbrev.proofs.PairLemmas.{PairsTo, no_pairs, names_fail, pairs_end, constant_fails, one_pair}
use Rattle.dw_abbrev.proofs.BuildLemmas.{more_pairs, whole_pair, first_none}
use Rattle.dw_abbrev.proofs.pair.pairs_at.Goals as goal

-- the pairs end here
ended : (section : List ℕ) (start : ℕ) (items : List RustPair) (here : ℕ) → PairsTo section start (map pair_of items) here → (count : ℕ) → count ≡ length (map pair_of items) → (name form : Uleb) (next : ℕ) → Gives (read_names count) section here (uleb_of name, uleb_of form) next
    → is_end (uleb_of name, uleb_of form) ≡ true → (z : Zeros) → z.name_zero ≡ name → z.form_zero ≡ form → Gives read_pairs section start (pairs_of items z) next
ended section start items here r count e name form next g is z zn zf =
    let all = pairs_end section start (map pair_of items) here r count e (uleb_of name, uleb_of form) next g is in
    rw (zn, zf) all

pub loop-name-init : goal.loop-name-init
loop-name-init c = rw c.requires.none (record { read = no_pairs c.args.abbreviations.now c.args.at c.requires.within; pairs = tt; within = c.requires.within })

pub returns-in_err-name-clause-err : goal.returns-in_err-name-clause-err
returns-in_err-name-clause-err c =
    let p = err_from_is_err_and c.from_residual-in_err-name.result c.from_residual-in_err-name.ensures.1 in
    rw (p.1, p.2) (names_fail c.args.abbreviations.now c.args.at (map pair_of c.loop-name.list.items) c.loop-name.here c.loop-name.invariant.read c.len-in-loop-name.result (omega (arith, c.loop-name.list.ok.0, length-map c.loop-name.list.items pair_of)) _ c.in_err-name.ensures.err)

pub returns-then-is_end-clause-ok : goal.returns-then-is_end-clause-ok
returns-then-is_end-clause-ok c =
    let x = c.in-Some.ensures in
    ended c.args.abbreviations.now c.args.at c.loop-name.list.items c.loop-name.here c.loop-name.invariant.read c.len.result (omega (arith, c.loop-name.list.ok.0, length-map c.loop-name.list.items pair_of))
    c.in-Some.name c.in-Some.form c.in-Some.behind x.there (sym c.is_end.ensures ∙ c.if-is_end.true) c.of.result c.of.ensures.name_zero c.of.ensures.form_zero

pub returns-then-is_end-2-clause-ok : goal.returns-then-is_end-2-clause-ok
returns-then-is_end-2-clause-ok c =
    ended c.args.abbreviations.now c.args.at c.loop-name.list.items c.loop-name.here c.loop-name.invariant.read c.len-in-loop-name.result (omega (arith, c.loop-name.list.ok.0, length-map c.loop-name.list.items pair_of))
    c.in_ok-name.name c.in_ok-name.form c.in_ok-name.behind c.in_ok-name.ensures.ok (sym c.is_end-in-loop-name.ensures ∙ c.if-is_end-2.true) c.of-then-is_end-2.result c.of-then-is_end-2.ensures.name_zero c.of-then-is_end-2.ensures.form_zero

-- one pair more is read
more : (section : List ℕ) (start : ℕ) (items : List RustPair) (here : ℕ) → PairsTo section start (map pair_of items) here → ArePairs (map pair_of items) → (count : ℕ) → count ≡ length (map pair_of items) → (name form : Uleb) (behind : ℕ) → Gives (read_names count) section here (uleb_of name, uleb_of form) behind
    → here < behind → refused_pair count (uleb_of name, uleb_of form) ≡ None → is_end (uleb_of name, uleb_of form) ≡ false → (next : ℕ) (new : List RustPair) → HasConstant section behind name form next items new → PairsTo section start (map pair_of new) next × ArePairs (map pair_of new)
more section start items here r pairs count e name form behind g lt judged goes next new h =
    let p : RustPair = record { name = name; form = form; constant = h.0 } in
    let all = ap (map pair_of) h.3 ∙ map-append pair_of items (p ∷ []) in (
      subst (λ (ps : List Pair). PairsTo section start ps next) (sym all) (one_pair section start (map pair_of items) here r count e (uleb_of name, uleb_of form) behind g goes lt (option_map sleb_of h.0) next h.1),
      subst ArePairs (sym all) (more_pairs (map pair_of items) (pair_of p) pairs (whole_pair (pair_of p) (first_none _ _ judged) goes h.2)),
    )

pub returns-in_err-here-clause-err : goal.returns-in_err-here-clause-err
returns-in_err-here-clause-err c =
    let p = err_from_is_err_and c.from_residual.result c.from_residual.ensures.1 in
    rw (p.1, p.2) (constant_fails c.args.abbreviations.now c.args.at (map pair_of c.loop-name.list.items) c.loop-name.here c.loop-name.invariant.read c.len.result (omega (arith, c.loop-name.list.ok.0, length-map c.loop-name.list.items pair_of))
    (uleb_of c.in-Some.name, uleb_of c.in-Some.form) c.in-Some.behind c.in-Some.ensures.there (sym c.is_end.ensures ∙ c.if-is_end.false) _ c.in_err-here.ensures.err)

pub returns-in_err-here-2-clause-err : goal.returns-in_err-here-2-clause-err
returns-in_err-here-2-clause-err c =
    let p = err_from_is_err_and c.from_residual-in_err-here-2.result c.from_residual-in_err-here-2.ensures.1 in
    rw (p.1, p.2) (constant_fails c.args.abbreviations.now c.args.at (map pair_of c.loop-name.list.items) c.loop-name.here c.loop-name.invariant.read c.len-in-loop-name.result (omega (arith, c.loop-name.list.ok.0, length-map c.loop-name.list.items pair_of))
    (uleb_of c.in_ok-name.name, uleb_of c.in_ok-name.form) c.in_ok-name.behind c.in_ok-name.ensures.ok (sym c.is_end-in-loop-name.ensures ∙ c.if-is_end-2.false) _ c.in_err-here-2.ensures.err)

pub loop-name-preserved-in-Some : goal.loop-name-preserved-in-Some
loop-name-preserved-in-Some c =
    let x = c.in-Some.ensures in
    let y = c.in_ok-here.ensures in
    let m = more c.args.abbreviations.now c.args.at c.loop-name.list.items c.loop-name.here c.loop-name.invariant.read c.loop-name.invariant.pairs c.len.result (omega (arith, c.loop-name.list.ok.0, length-map c.loop-name.list.items pair_of))
    c.in-Some.name c.in-Some.form c.in-Some.behind x.there x.forward.0 x.judged (sym c.is_end.ensures ∙ c.if-is_end.false) c.in_ok-here.here _ y.ok in
    record { read = m.0; pairs = m.1; within = y.forward.1 }

pub loop-name-preserved : goal.loop-name-preserved
loop-name-preserved c =
    let x = c.in_ok-name.ensures in
    let y = c.in_ok-here-2.ensures in
    let m = more c.args.abbreviations.now c.args.at c.loop-name.list.items c.loop-name.here c.loop-name.invariant.read c.loop-name.invariant.pairs c.len-in-loop-name.result (omega (arith, c.loop-name.list.ok.0, length-map c.loop-name.list.items pair_of))
    c.in_ok-name.name c.in_ok-name.form c.in_ok-name.behind x.ok x.forward.0 x.judged (sym c.is_end-in-loop-name.ensures ∙ c.if-is_end-2.false) c.in_ok-here-2.here _ y.ok in
    record { read = m.0; pairs = m.1; within = y.forward.1 }
