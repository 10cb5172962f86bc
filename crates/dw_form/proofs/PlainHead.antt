-- Values whose form alone tells their size: what stands at the front of their heads.
use Rattle.std.proofs.Common.{◌≡◌, ◌≢◌, ◌≤◌, ◌<◌, ◌+◌, ◌^◌, ◌++◌, ◌==◌, ℕ, List, ap, arith, false, length, refl, ◌∙◌, sym}
use Rattle.std.specs.Prelude.{Option, Some, None, IfSome}
use Rattle.std.proofs.lemmas.Bool.{ne_eqb}
use Rattle.dw_leb.specs.declared.order.Format.{Format}
use Rattle.dw_leb.specs.Number.{Signed}
use Rattle.dw_leb.specs.Reader.{Found}
use Rattle.dw_leb.specs.ReadNumber.{read_fixed}
use Rattle.dw_form.specs.declared.shape.Ctx.{Ctx}
use Rattle.dw_form.specs.declared.shape.Shape.{Shape}
use Rattle.dw_form.specs.declared.shape.Shape.TheVariants as shapes
use Rattle.dw_form.specs.Form.{Attribute, Value, Num, attribute, shape}
use Rattle.dw_form.specs.StoredView.{bytes_in}
use Rattle.dw_form.specs.Head.{Lies, head, head_at, has_content, spelled_at}
use Rattle.dw_form.specs.HeadLent.{head_there}

abbrev pair : Attribute → ℕ → Attribute × ℕ
pair a n = (a, n)

abbrev some_pair : Attribute → ℕ → Option (Attribute × ℕ)
some_pair a n = Some (a, n)

-- the form indirect has a shape of its own
indirect_shape : (size : ℕ) (format : Format) → shape 0x16 size format ≡ Some shapes.Indirect
unfolding shape
indirect_shape size format = refl

pub not_indirect : (form size : ℕ) (format : Format) (s : Shape) → shape form size format ≡ Some s → s ≢ shapes.Indirect → (form == 0x16) ≡ false
not_indirect form size format s h other =
    ne_eqb form 0x16 (λ e. other (some_same (sym h ∙ ap (λ (f : ℕ). shape f size format) e ∙ indirect_shape size format)))
  where
    some_same : {x y : Shape} → Some x ≡ Some y → x ≡ y
    some_same e = cc

-- a value without content, which names no form, stands there by its spelling
pub plain_there : (k : Ctx) (form : ℕ) (c : Option Signed) (b pool : List ℕ) (s : Shape) (v : Value) (n : ℕ) → shape form k.address_size k.format ≡ Some s → s ≢ shapes.Indirect → has_content s ≡ false
    → spelled_at k c s b ≡ Some (v, n) → head_at k form c b pool ≡ Some (record { via = None; value = v }, n)
unfolding head_at
plain_there k form c b pool s v n h other bare spelled =
    rw (not_indirect form k.address_size k.format s h other, h, bare, spelled) (ap (λ (i : ℕ). Some (record { via = None; value = v }, i)) none_before)
  where
    none_before : 0 + n ≡ n
    none_before = omega arith

-- a fixed number of at most eight bytes
pub fixed_spelled : (k : Ctx) (c : Option Signed) (b : List ℕ) (n x : ℕ) → n ≤ 8 → read_fixed k.order n b (length b) ≡ Found x n → spelled_at k c (shapes.Fixed n) b ≡ Some (Num x, n)
fixed_spelled k c b n x short found = rw (found, ne_eqb n 16 (λ e. omega (arith, short, e))) refl

-- a number by its head, where the value there is known
pub number_put : (o : Option (ℕ × ℕ)) (k : Ctx) (form : ℕ) (hs : List ℕ) → IfSome o (λ x. (c : Option Signed) (pool : List ℕ) → head_at k form c hs pool ≡ Some (record { via = None; value = Num x.0 }, x.1))
    → IfSome o (λ x. (c : Option Signed) (a : Attribute) (start : ℕ) (pool rest : List ℕ) → (attribute k form c).Fits a → Lies pool start (bytes_in a) → length pool < 256 ^ 8 → hs ≡ head k form start a ++ rest
    → (record { via = None; value = Num x.0 } ≡ a) × (x.1 ≡ length (head k form start a)))
number_put None k form hs h = tt
number_put (Some x) k form hs h = λ c a start pool rest fits lies small e.
    both (record { via = None; value = Num x.0 }) a x.1 (length (head k form start a)) (sym (h c pool) ∙ (ap (λ (b : List ℕ). head_at k form c b pool) e ∙ head_there k form c a start rest pool lies small fits))
  where
    both : (a b : Attribute) (n m : ℕ) → some_pair a n ≡ some_pair b m → (a ≡ b) × (n ≡ m)
    both a b n m e =
        let same : pair a n ≡ pair b m = cc in
        (ap (λ (y : Attribute × ℕ). y.0) same, ap (λ (y : Attribute × ℕ). y.1) same)
