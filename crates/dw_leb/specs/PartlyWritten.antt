-- Writing several lists of bytes, one behind the other.
use Rattle.std.proofs.Common.{◌≡◌, ℕ, List, [], ◌++◌, Option, refl, sym, subst, ◌∙◌, append_assoc, append-nil}
use Rattle.std.specs.Io.KnownBytes.{Appends}
use Rattle.dw_leb.specs.Watch.{AppendsFront}
use Rattle.dw_leb.specs.Transfers.{appends_none, appends_more, front_of_both, front_behind}

-- Of all the bytes some are written, from a to b, and the rest is not.
pub record PartlyWritten (a b : Option (List ℕ)) (rest all : List ℕ) : Type 0 where
  pub front : List ℕ
  pub split : front ++ rest ≡ all
  pub written : Appends a b front

pub partly_start : (a : Option (List ℕ)) (all : List ℕ) → PartlyWritten a a all all
partly_start a all = record { front = []; split = refl; written = appends_none a }

pub partly_step : (a b c : Option (List ℕ)) (x rest all : List ℕ) → PartlyWritten a b (x ++ rest) all → Appends b c x
    → PartlyWritten a c rest all
partly_step a b c x rest all t h =
    record {
      front = t.front ++ x;
      split = append_assoc t.front x rest ∙ t.split;
      written = appends_more a b c t.front x t.written h;
    }

pub partly_fails : (a b c : Option (List ℕ)) (x rest all : List ℕ) → PartlyWritten a b (x ++ rest) all
    → AppendsFront b c x → AppendsFront a c all
partly_fails a b c x rest all t h =
    subst (λ (s : List ℕ). AppendsFront a c s) t.split
    (front_behind a b c t.front (x ++ rest) t.written (front_of_both b c x rest h))

pub partly_last : (a b c : Option (List ℕ)) (x all : List ℕ) → PartlyWritten a b x all → Appends b c x → Appends a c all
partly_last a b c x all t h = subst (λ (s : List ℕ). Appends a c s) t.split (appends_more a b c t.front x t.written h)

pub partly_end : (a b : Option (List ℕ)) (all : List ℕ) → PartlyWritten a b [] all → Appends a b all
partly_end a b all t = subst (λ (s : List ℕ). Appends a b s) (sym (append-nil t.front) ∙ t.split) t.written
