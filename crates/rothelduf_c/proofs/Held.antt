-- What C is told of what a feed holds is within the bounds of that.
use Rattle.std.proofs.Common.{◌≤◌, ◌*◌, ◌^◌, ℕ, subst, sym}
use Rattle.std.proofs.Math.Nat.{mod-add-div}
use Rattle.dw_feed.specs.HeldCounts.{HeldCounts}
use Rattle.dw_feed.specs.HeldView.{HeldWithin}
use Rattle.rothelduf_c.specs.Feeds.{IsHeldWithin}
use Rattle.rothelduf_c.specs.Seen.{seen_held}

pub told_within : (taken : ℕ) (h : HeldCounts) → HeldWithin taken h → IsHeldWithin taken (seen_held h)
told_within taken h within = record {
  pending = within.pending;
  nested = within.nested;
  entries = within.entries;
  pool = within.pool;
  values = subst (λ (n : ℕ). n ≤ 1024 * h.entries) (sym (mod-add-div h.values (2 ^ 64))) within.values;
}
