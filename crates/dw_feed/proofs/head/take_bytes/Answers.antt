use Rattle.std.proofs.Common.{◌≡◌, ◌++◌, ◌∷◌, [], List, ℕ, suc, ◌-◌, refl, sym, ap, subst, ◌∙◌, append_assoc, append-nil, arith, length, length-append}
use Rattle.dw_feed.specs.HeaderCut.{IsCut}
use Rattle.dw_feed.specs.HeadFeedView.{ShowsHead}
use Rattle.dw_feed.proofs.HeadSteps.{all_taken, one_stops}
use Rattle.dw_feed.proofs.head.take_bytes.Goals as goal

none_left : (xs : List ℕ) → length xs ≡ 0 → xs ≡ []
none_left [] e = refl
none_left (x ∷ xs) e = absurd (omega (arith, e))

pub loop-byte-init : goal.loop-byte-init
loop-byte-init c = record { so_far = ([], refl, sym (append-nil c.args.taken.now.items)); cut = c.requires }

pub take_byte-requires : goal.take_byte-requires
take_byte-requires c = c.loop-byte.invariant.cut

pub loop-byte-preserved : goal.loop-byte-preserved
loop-byte-preserved c =
    let done = c.loop-byte.invariant.so_far in
    let b : ℕ = c.in-Some.byte.now in
    record {
      so_far = (
        done.0 ++ b ∷ [],
        done.1 ∙ ap (λ (x : List ℕ). done.0 ++ x) c.in-Some.ensures.cases.0 ∙ sym (append_assoc done.0 (b ∷ []) c.in-Some.rest.now),
        c.take_byte.ensures.taken ∙ ap (λ (x : List ℕ). x ++ b ∷ []) done.2 ∙ append_assoc c.args.taken.now.items done.0 (b ∷ []),
      );
      cut = subst (IsCut c.args.versions c.args.order) (sym c.take_byte.ensures.taken) c.in-More.ensures.shows;
    }

pub overflow_sub-result : goal.overflow_sub-result
overflow_sub-result c =
    let done = c.loop-byte.invariant.so_far in
    omega (arith, ap length done.1, ap length c.in-Some.ensures.cases.0, length-append done.0 c.loop-byte.left.now)

pub returns-in_default-take_byte : goal.returns-in_default-take_byte
returns-in_default-take_byte c =
    let done = c.loop-byte.invariant.so_far in
    let b : ℕ = c.in-Some.byte.now in
    let rest : List ℕ = c.in-Some.rest.now in
    let split : c.args.piece.now ≡ done.0 ++ b ∷ rest = done.1 ∙ ap (λ (x : List ℕ). done.0 ++ x) c.in-Some.ensures.cases.0 in
    let count : length c.args.piece.now - length rest ≡ suc (length done.0) = omega (arith, ap length split, length-append done.0 (b ∷ rest)) in
    let said = one_stops c.args.versions c.args.order c.args.taken.now.items done.0 rest b c.take_byte.new.taken.items c.take_byte.result c.in_default-take_byte.not-More
    (subst (IsCut c.args.versions c.args.order) done.2 c.loop-byte.invariant.cut) (subst (λ (x : List ℕ). ShowsHead c.args.versions c.args.order (x ++ b ∷ []) c.take_byte.result) done.2 c.take_byte.ensures.shows) in
    rw (split, subst (λ (x : List ℕ). length x - length rest ≡ suc (length done.0)) split count) said

pub returns : goal.returns
returns c =
    let done = c.loop-byte.invariant.so_far in
    let all : done.0 ≡ c.args.piece.now = sym (done.1 ∙ ap (λ (x : List ℕ). done.0 ++ x) (none_left c.loop-byte.left.now c.in_default.ensures.cases) ∙ append-nil done.0) in
    all_taken c.args.versions c.args.order c.args.taken.now.items c.args.piece.now c.loop-byte.taken.items (done.2 ∙ ap (λ (x : List ℕ). c.args.taken.now.items ++ x) all) c.loop-byte.invariant.cut
