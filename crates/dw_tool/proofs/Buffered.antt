-- Bytes that are put behind those at the front of an array.
use Rattle.std.proofs.Common.{◌≡◌, ℕ, ◌+◌, ◌≤◌, List, ◌++◌, length, take, refl, ◌∙◌}
use Rattle.std.proofs.lemmas.List.{take_at, drop_at, take-append-le, length-take-le}
use borrow.Rule.Slice.PartMut.{put_mid, post_of}
use lib.Seq.{take-add}

pub grown : (xs ys : List ℕ) (a k n : ℕ) → a ≤ length xs → n ≤ length ys → take (a + n) (put_mid a k xs ys) ≡ take a xs ++ take n ys
grown xs ys a k n within fits =
    let front = take a xs in
    let len : length front ≡ a = length-take-le a xs within in
    let after = ys ++ post_of a k xs in
    take-add a n (front ++ after) ∙ rw (take_at front after a len, drop_at front after a len, take-append-le n ys (post_of a k xs) fits) refl
