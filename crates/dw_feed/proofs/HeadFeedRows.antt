-- Worked rows: headers in pieces. How many bytes they want, and the answers of the plain feed with what is left of the piece.
use Rattle.std.specs.Prelude.{◌≡◌, [], ◌∷◌}
use Rattle.std.proofs.Common.{refl}
use Rattle.dw_leb.specs.declared.errors.Reason.TheVariants.{BadVersion}
use Rattle.dw_leb.specs.declared.errors.SectionId.TheVariants.{Info}
use Rattle.dw_leb.specs.declared.order.Order.TheVariants.{Little}
use Rattle.dw_header.specs.declared.kind.Kind.TheVariants.{Four}
use Rattle.dw_header.specs.declared.versions.Versions.TheVariants.{Five, FourAndFive}
use Rattle.dw_header.specs.ReadHeader.{read_fields}
use Rattle.dw_header.specs.HeaderMoments.{head_moment}
use Rattle.dw_feed.specs.declared.progress.Progress.TheVariants as answers
use Rattle.dw_feed.specs.PlainHeadFeed.{feed_head}
use Rattle.dw_feed.proofs.Samples.{headed, header, header_is, older_header_is}

-- ---- a header: with its last byte, and at the version byte that is wrong

a_header_wants_twelve : head_moment Five Little (header_is 0x0e) 0 ≡ 12
a_header_wants_twelve = refl

a_front_of_it_wants_more : head_moment Five Little (0x0e ∷ 0x00 ∷ 0x00 ∷ 0x00 ∷ 0x05 ∷ []) 0 ≡ 6
a_front_of_it_wants_more = refl

a_bad_version_stands_with_it : head_moment Five Little (0x0e ∷ 0x00 ∷ 0x00 ∷ 0x00 ∷ 0x06 ∷ 0x00 ∷ 0x01 ∷ []) 0 ≡ 6
a_bad_version_stands_with_it = refl

a_reserved_length_stands_with_its_four_bytes : head_moment Five Little (0xf0 ∷ 0xff ∷ 0xff ∷ 0xff ∷ 0x05 ∷ []) 0 ≡ 4
a_reserved_length_stands_with_its_four_bytes = refl

-- ---- a head in pieces: the answer, and how many bytes of the piece are left

a_head_of_two_bytes : feed_head Five Little [] (0x0e ∷ 0x00 ∷ []) ≡ (answers.More, 0)
a_head_of_two_bytes = refl

an_empty_piece : feed_head Five Little (0x0e ∷ 0x00 ∷ []) [] ≡ (answers.More, 0)
an_empty_piece = refl

two_bytes_are_left : feed_head Five Little (0x0e ∷ 0x00 ∷ []) (0x00 ∷ 0x00 ∷ 0x05 ∷ 0x00 ∷ 0x01 ∷ 0x08 ∷ 0x00 ∷ 0x00 ∷ 0x00 ∷ 0x00 ∷ 0x01 ∷ 0x61 ∷ []) ≡ (answers.Done (header, 0x0e), 2)
unfolding read_fields
two_bytes_are_left = refl

-- ---- of version 4

an_older_header_wants_eleven : head_moment FourAndFive Little (older_header_is 0x0a) 0 ≡ 11
an_older_header_wants_eleven = refl

it_stands_with_its_version_where_that_is_refused : head_moment Five Little (older_header_is 0x0a) 0 ≡ 6
it_stands_with_its_version_where_that_is_refused = refl

an_older_header : feed_head FourAndFive Little (0x0a ∷ 0x00 ∷ []) (0x00 ∷ 0x00 ∷ 0x04 ∷ 0x00 ∷ 0x00 ∷ 0x00 ∷ 0x00 ∷ 0x00 ∷ 0x08 ∷ 0x01 ∷ []) ≡ (answers.Done (headed Four, 0x0a), 1)
unfolding read_fields
an_older_header = refl

it_is_refused : feed_head Five Little (0x0a ∷ 0x00 ∷ []) (0x00 ∷ 0x00 ∷ 0x04 ∷ 0x00 ∷ 0x00 ∷ 0x00 ∷ 0x00 ∷ 0x00 ∷ 0x08 ∷ 0x01 ∷ []) ≡ (answers.Fault (record { section = Info; offset = 4; reason = BadVersion }), 6)
unfolding read_fields
it_is_refused = refl
