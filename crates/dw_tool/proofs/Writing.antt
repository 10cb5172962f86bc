-- What a run writes of a section that was read.
use Rattle.std.proofs.Common.{◌≡◌, ◌<◌, ◌+◌, ℕ, suc, Bool, true, false, List, [], ◌∷◌, ◌++◌, length, Option, Some, None, Result, Ok, Err, refl, sym, subst, ap, ◌∙◌, length-append, arith, inl}
use Rattle.std.specs.Prelude.{◌==◌, IsSome, codes, nat_le, nat_lt}
use Rattle.std.specs.Io.KnownBytes.{Keeps}
use Rattle.std.proofs.lemmas.Bool.{ltb-true}
use Rattle.dw_leb.specs.declared.errors.ReadError.{ReadError}
use Rattle.dw_leb.specs.declared.errors.ReadError.TheVariants as reads
use Rattle.dw_leb.specs.declared.order.Order.{Order}
use Rattle.dw_header.specs.declared.versions.Versions.{Versions}
use Rattle.dw_section.specs.declared.id.EntryId.{EntryId}
use Rattle.dw_section.specs.Item.{Item, item_bytes}
use Rattle.dw_section.specs.ItemPlace.{item_some}
use Rattle.dw_section.specs.Lookup.{entry, find, ok_of, unit_at}
use Rattle.dw_tree.specs.Lent.{EntryAt}
use Rattle.dw_section.specs.Reference.{items_from, in_section}
use Rattle.dw_section.specs.Section.{WholeSection, ItemsFit, items_bytes}
use Rattle.dw_section.specs.Reads.{TakesSection, TakesNoSection}
use Rattle.dw_strings.specs.Text.{StringSections}
use Rattle.dw_check.specs.declared.finding.Finding.{Finding}
use Rattle.dw_ctype.specs.declared.fault.TypeError.{TypeError}
use Rattle.dw_ctype.specs.declared.fault.TypeError.TheVariants as types
use Rattle.dw_ctype.specs.Answer.{answer_of}
use Rattle.dw_ctype.specs.Types.{Source, type_text}
use Rattle.dw_ctype.specs.Visits.{entry_text_visits}
use Rattle.dw_tool.specs.declared.command.Command.{Command}
use Rattle.dw_tool.specs.declared.command.Command.TheVariants.{Show, Find, TypeOf, Check, SetNumber, Copy}
use Rattle.dw_tool.specs.declared.status.Status.{Status}
use Rattle.dw_tool.specs.declared.status.Status.TheVariants.{Bad}
use Rattle.dw_tool.specs.declared.status.ToolError.{ToolError}
use Rattle.dw_tool.specs.declared.status.ToolError.TheVariants as tool
use Rattle.dw_tool.specs.Findings.{findings_text}
use Rattle.dw_tool.specs.Run.{Runs, TookBytes, Writes, checked_status, told}
use Rattle.dw_tool.specs.Status.{refused_read, refused_type}
use Rattle.dw_tool.specs.TypeOf.{OrMemory, line_at, line_of, name_shown, type_line}

-- ---- a section with an entry has bytes

in_some : (number start v : ℕ) (items : List Item) (id : EntryId) → ok_of (in_section (items_from number start items) v) ≡ Some id → v < start + length (items_bytes items)
in_some number start v [] id h = cc
in_some number start v (x ∷ xs) id h = by (in_some (suc number) (start + length (item_bytes x)) v xs id) (nat_lt v (start + length (item_bytes x))) refl
  where
    all : length (items_bytes (x ∷ xs)) ≡ length (item_bytes x) + length (items_bytes xs)
    all = length-append (item_bytes x) (items_bytes xs)

    by : (ok_of (in_section (items_from (suc number) (start + length (item_bytes x)) xs) v) ≡ Some id → v < start + length (item_bytes x) + length (items_bytes xs)) → (b : Bool) → nat_lt v (start + length (item_bytes x)) ≡ b → v < start + length (items_bytes (x ∷ xs))
    by later true e = let lt = ltb-true v (start + length (item_bytes x)) e in omega (arith, lt, all)
    by later false e =
        let rest : ok_of (in_section (items_from (suc number) (start + length (item_bytes x)) xs) v) ≡ Some id = rw e at h in
        omega (arith, later rest, all)

line_some : (strings : StringSections) (offset : ℕ) (s : WholeSection) (text : List ℕ) → type_line strings offset s ≡ Ok text → 0 < length (items_bytes s.items)
line_some strings offset s text h = by (find s.items offset) refl
  where
    by : (o : Option EntryId) → find s.items offset ≡ o → 0 < length (items_bytes s.items)
    by None e = let none = ap (line_at (record { items = s.items; strings = strings })) e in cc
    by (Some id) e = omega (arith, in_some 0 0 offset s.items id e)

-- a section with a unit has some
unit_some : (versions : Versions) (order : Order) (start i : ℕ) (items : List Item) → ItemsFit versions order start items → IsSome (unit_at items i) → 0 < length (items_bytes items)
unit_some versions order start i [] fit h = absurd cc
unit_some versions order start i (x ∷ xs) fit h = omega (arith, item_some versions order start x fit.0, length-append (item_bytes x) (items_bytes xs))

-- ---- an answer with its error as one of a run

told_ok : (r : Result (List ℕ) TypeError) (line : List ℕ) → told r ≡ Ok line → r ≡ Ok line
told_ok (Ok text) line h = let same : text ≡ line = cc in ap Ok same
told_ok (Err why) line h = absurd cc

-- ---- memory

module _ (command : Command) (strings : StringSections) (versions : Versions) (order : Order) (abbreviations : List ℕ) (left left' held held' : Option (List ℕ)) (s : WholeSection) (takes : TakesSection versions order abbreviations left left' s) where
  bytes_taken : 0 < length (items_bytes s.items) → TookBytes {X = Status} left left' (Err tool.Memory)
  bytes_taken some = (takes.all, subst (λ (bytes : List ℕ). 0 < length bytes) (sym takes.is.spelled) some, takes.consumed)

  pub took : (r : Result Status ToolError) → Writes command strings s held held' r → TookBytes left left' r
  took (Ok status) w = tt
  took (Err (tool.Fault f)) w = tt
  took (Err (tool.Refused r)) w = tt
  took (Err (tool.Read kind)) w = tt
  took (Err (tool.Write kind)) w = tt
  took (Err tool.Memory) w = by command w
    where
      by : (c : Command) → Writes c strings s held held' (Err tool.Memory) → TookBytes {X = Status} left left' (Err tool.Memory)
      by Show w = absurd w.2
      by (Find name) w = absurd w.2
      by (TypeOf offset) w = bytes_taken (line_some strings offset s w.0 (told_ok (type_line strings offset s) w.0 w.1))
      by Check w = bytes_taken (unit_some versions order 0 w.2.0 s.items takes.is.fit w.2.1)
      by (SetNumber offset name value) w = absurd w.2
      by Copy w = absurd w.2

-- ---- a line that isn't written

pub keeps_same : (held : Option (List ℕ)) → Keeps held held
keeps_same None = tt
keeps_same (Some bytes) = refl

never_memory_of : (s : Source) (id : EntryId) (name : List ℕ) (o : Option EntryAt) → line_of (answer_of s id name o) ≡ Err types.NoMemory → ⊥
never_memory_of s id name None h = cc
never_memory_of s id name (Some e) h = by (nat_le (entry_text_visits s.items id e) 1024) refl
  where
    by : (b : Bool) → nat_le (entry_text_visits s.items id e) 1024 ≡ b → ⊥
    by true is = let same : Ok (type_text s id e name ++ codes "\n") ≡ Err types.NoMemory = rw is at h in cc
    by false is = let same : Err types.TypeTooBig ≡ Err types.NoMemory = rw is at h in cc

never_memory : (s : Source) (o : Option EntryId) → line_at s o ≡ Err types.NoMemory → ⊥
never_memory s None h = cc
never_memory s (Some id) h = never_memory_of s id (name_shown s id.item (entry s.items id)) (entry s.items id) h

module _ (strings : StringSections) (s : WholeSection) (held : Option (List ℕ)) where
  no_line : (offset : ℕ) (e : TypeError) → OrMemory (type_line strings offset s) e → Writes (TypeOf offset) strings s held held (Err (refused_type e))
  no_line offset e h = by (type_line strings offset s) e refl h
    where
      never : type_line strings offset s ≡ Err types.NoMemory → ⊥
      never = never_memory (record { items = s.items; strings = strings }) (find s.items offset)

      by : (out : Result (List ℕ) TypeError) (e : TypeError) → type_line strings offset s ≡ out → OrMemory out e → Writes (TypeOf offset) strings s held held (Err (refused_type e))
      by (Err why) types.NoEntry is h = (ap told (is ∙ ap Err (sym h)), keeps_same held)
      by (Err why) types.TypeTooBig is h = (ap told (is ∙ ap Err (sym h)), keeps_same held)
      by (Err why) types.NoMemory is h = absurd (never (is ∙ ap Err (sym h)))
      by (Ok text) types.NoEntry is h = cc
      by (Ok text) types.TypeTooBig is h = cc
      by (Ok text) types.NoMemory is h = (text, ap told is, tt, keeps_same held)

  pub unwritten : (command : Command) (offset : ℕ) (e : TypeError) → command ≡ TypeOf offset → OrMemory (type_line strings offset s) e → Writes command strings s held held (Err (refused_type e))
  unwritten command offset e is h = subst (λ (c : Command). Writes c strings s held held (Err (refused_type e))) (sym is) (no_line offset e h)

-- ---- findings

-- each has a line
pub some_wrong : (found : List Finding) → (length found == 0) ≡ false → Bad ≡ checked_status (findings_text found)
some_wrong [] h = absurd cc
some_wrong (f ∷ fs) h = refl

-- ---- a section that isn't read

pub nothing_read : (command : Command) (strings : StringSections) (versions : Versions) (order : Order) (abbreviations : List ℕ) (left new held : Option (List ℕ)) (e : ReadError) → TakesNoSection versions order abbreviations left new e
    → Runs command strings versions order abbreviations left new held held (Err (refused_read e))
nothing_read command strings versions order abbreviations left new held (reads.Fault f) h = (h, keeps_same held)
nothing_read command strings versions order abbreviations left new held reads.NoMemory h = inl (h, keeps_same held)
nothing_read command strings versions order abbreviations left new held (reads.Io kind) h = (h, keeps_same held)
