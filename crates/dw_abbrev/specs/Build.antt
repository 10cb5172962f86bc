-- Tables built by calls: how a call changes a declaration, and why it is refused. Each refusal is the first that
-- holds, in the order of the lines.
use Rattle.std.specs.Prelude.{◌≡◌, ℕ, Bool, false, List, [], ◌∷◌, ◌++◌, length, Option, Some, None, is_some, nat_lt, nat_le, ◌==◌, if◌then◌else◌, not, ◌||◌, ◌&&◌}
use Rattle.std.specs.List.{AllByRecursion}
use Rattle.dw_leb.specs.Constants.{DW_FORM_implicit_const}
use Rattle.dw_leb.specs.Number.{Unsigned, Signed, uleb}
use Rattle.dw_abbrev.specs.declared.refusal.TableRefusal.{TableRefusal}
use Rattle.dw_abbrev.specs.declared.refusal.TableRefusal.TheVariants.{DuplicateCode, TooManyPairs, BadWidth, NoMemory, ZeroCode, HalfPair, WrongConstant}
use Rattle.dw_abbrev.specs.Table.{Pair, Declaration, is_null, most_pairs, first_of, described, described_of, declared_in}

-- ---- a zero of a width

abbrev pub is_width : ℕ → Bool
is_width width = nat_le 1 width && nat_le width 16

abbrev pub width_refusal : ℕ → Option TableRefusal
width_refusal width = if is_width width then None else Some BadWidth

-- ---- a declaration without pairs

abbrev pub new_refusal : Unsigned → ℕ × ℕ → Option TableRefusal
new_refusal code zeros =
    if is_null code then Some ZeroCode else first_of (width_refusal zeros.0) (width_refusal zeros.1)

abbrev pub without_pairs : Unsigned → Unsigned → Bool → ℕ × ℕ → Declaration
without_pairs code tag children zeros =
    record { code = code; tag = tag; children = children; pairs = []; name_zero = zeros.0; form_zero = zeros.1 }

-- ---- one more pair

-- a constant stands with the form implicit_const, and with no other
abbrev pub constant_belongs : Unsigned → Option Signed → Bool
constant_belongs form None = not (form.value == DW_FORM_implicit_const)
constant_belongs form (Some constant) = form.value == DW_FORM_implicit_const

abbrev pub pair_refusal : Pair → Option TableRefusal
pair_refusal p =
    if is_null p.name || is_null p.form then Some HalfPair else if constant_belongs p.form p.constant then None
    else Some WrongConstant

abbrev pub with_pair : Declaration → Pair → Declaration
with_pair d p =
    record {
      code = d.code;
      tag = d.tag;
      children = d.children;
      pairs = d.pairs ++ p ∷ [];
      name_zero = d.name_zero;
      form_zero = d.form_zero;
    }

-- ---- one more declaration

abbrev pub has_too_many : Declaration → Bool
has_too_many d = nat_lt most_pairs (length d.pairs)

abbrev pub add_refusal : List Declaration → Declaration → Option TableRefusal
add_refusal ds d =
    if is_some (declared_in ds d.code.value) then Some DuplicateCode else if has_too_many d then Some TooManyPairs
    else None

-- what is refused for no other reason, is refused for want of memory
abbrev pub or_memory : Option TableRefusal → TableRefusal
or_memory (Some refusal) = refusal
or_memory None = NoMemory

-- ---- what is kept

abbrev pub ArePairs : List Pair → Type 0
ArePairs ps = AllByRecursion (λ p. pair_refusal p ≡ None) ps

-- a declaration that a table can hold
pub record DeclarationFits (d : Declaration) : Type 0 where
  pub code : uleb.Fits d.code
  pub some : is_null d.code ≡ false
  pub rest : described.Fits (described_of d)
