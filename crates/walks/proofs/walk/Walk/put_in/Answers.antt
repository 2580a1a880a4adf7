use Rattle.std.proofs.Common.{◌+◌, ◌-◌, length, take, ap, ◌∙◌, arith}
use borrow.Rule.Slice.PartMut.{put_mid}
use Rattle.walks.proofs.Cuts.{put_between}
use Rattle.walks.proofs.walk.Walk.put_in.Goals as goal

pub returns : goal.returns
returns c =
    let w = c.args.self.now in
    let new = c.args.new.now in
    let slid = c.slide.new.self in
    let room = c.args.at + length new - c.args.at in
    ap (λ n. take (n + length new) (put_mid c.args.at room slid.steps c.copy_from_slice.new.self)) c.slide.ensures.len
    ∙ put_between w.steps c.args.at w.len room new slid.steps _ (omega arith) (omega arith) c.slide.ensures.slid c.copy_from_slice.ensures.after (omega arith)
