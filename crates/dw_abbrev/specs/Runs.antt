-- Declarations that stand one behind the other in a section, and tables that meet at one of them.
use Rattle.std.specs.Prelude.{◌≡◌, ℕ, ◌<◌, ◌≤◌, List, [], ◌∷◌, ◌++◌, length, drop}
use Rattle.dw_leb.specs.View.{uleb_of}
use Rattle.dw_abbrev.specs.Table.{Declaration, Table, IsZero, TableAt}
use Rattle.dw_abbrev.specs.TableView.{joined}
use Rattle.dw_abbrev.specs.Places.{AreApart}
use Rattle.dw_abbrev.specs.Spelling.{declaration_bytes}
use Rattle.dw_abbrev.specs.Build.{DeclarationFits}
use Rattle.dw_abbrev.specs.declared.run.Run.{Run}
use Rattle.dw_abbrev.specs.declared.run.JoinedRun.{JoinedRun}
use Rattle.dw_abbrev.specs.declared.run.Step.{Step}
use Rattle.dw_abbrev.specs.declared.run.Step.TheVariants as steps

-- where the first of these begins, or what is behind them all
abbrev pub first_start : List ℕ → ℕ → ℕ
first_start [] behind = behind
first_start (start ∷ starts) behind = start

-- each declaration stands at its start, the next one follows, and the place behind the last
abbrev pub AreRows : List ℕ → List ℕ → List Declaration → ℕ → Type 0
AreRows abbreviations [] [] behind = Unit {0}
AreRows abbreviations (start ∷ starts) (d ∷ ds) behind =
    (drop start abbreviations ≡ declaration_bytes d ++ drop (first_start starts behind) abbreviations)
    × DeclarationFits d × AreRows abbreviations starts ds behind
AreRows abbreviations [] (d ∷ ds) behind = ⊥
AreRows abbreviations (start ∷ starts) [] behind = ⊥

-- declarations from these starts on, and behind them the table: all of codes of their own
pub record StandTogether (abbreviations : List ℕ) (starts : List ℕ) (ds : List Declaration) (t : Table) : Type 0 where
  pub behind : ℕ
  pub rows : AreRows abbreviations starts ds behind
  pub apart : AreApart ds t.declarations
  pub there : TableAt abbreviations behind t

-- ---- the program's runs

-- the run's declarations stand one behind the other, up to this place
pub record IsRun (abbreviations : List ℕ) (run : Run) (here : ℕ) : Type 0 where
  pub within : here ≤ length abbreviations
  pub rows : AreRows abbreviations run.starts.items run.decls here

-- what stands behind a run: a declaration, with which it is the new one; or a zero
abbrev pub IsStep : List ℕ → ℕ → Run → Run → Step → Type 0
IsStep abbreviations here old new (steps.Declaration next) = (here < next) × IsRun abbreviations new next
IsStep abbreviations here old new (steps.Zero last) =
    (new ≡ old) × IsZero (uleb_of last)
    × TableAt abbreviations here (record { declarations = []; last_zero = last.width })
IsStep abbreviations here old new steps.Broken = Unit {0}

-- a run with what stands behind it
pub record IsJoined (abbreviations : List ℕ) (run : JoinedRun) : Type 0 where
  pub zero : IsZero (uleb_of run.last_zero)
  pub together :
      StandTogether abbreviations run.run.starts.items run.run.decls
      (record { declarations = joined run.rest.items; last_zero = run.last_zero.width })
