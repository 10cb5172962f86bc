-- The first values of an entry that begins: it is given all of them, or none.
use Rattle.std.specs.Prelude.{ℕ, List, [], Bool, true, false}
use Rattle.dw_form.specs.Form.{Attribute}

abbrev pub given_if : Bool → List Attribute → List Attribute
given_if true vs = vs
given_if false vs = []

-- and so many bytes of them are taken
abbrev pub size_if : Bool → ℕ → ℕ
size_if true size = size
size_if false size = 0
