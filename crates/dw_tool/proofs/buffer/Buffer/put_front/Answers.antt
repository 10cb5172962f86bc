use Rattle.std.proofs.Common.{◌∙◌, ◌≤◌, ◌+◌, ◌-◌, ◌++◌, List, ℕ, ap, arith, length, take}
use borrow.Rule.Slice.PartMut.{put_mid}
use Rattle.dw_tool.proofs.Buffered.{grown}
use Rattle.dw_tool.proofs.buffer.Buffer.put_front.Goals as goal

pub returns-clause-put : goal.returns-clause-put
returns-clause-put c = λ _.
    let xs = c.self.inside.bytes in
    let ys = c.args.bytes.now in
    let used = c.self.inside.used in
    let within : used ≤ length xs = omega (arith, c.self.invariant) in
    let fits : c.args.count ≤ length ys = c.requires in
    ap (λ (b : List ℕ). take (used + c.args.count) (put_mid used (used + length ys - used) xs b)) c.copy_from_slice.ensures.after
    ∙ grown xs ys used (used + length ys - used) c.args.count within fits
    ∙ ap (λ (b : List ℕ). b ++ take c.args.count ys) c.self.view_is
