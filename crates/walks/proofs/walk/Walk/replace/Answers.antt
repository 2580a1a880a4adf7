use Rattle.std.proofs.Common.{◌≤◌, length, rules}
use Rattle.walks.specs.Walks.{held}
use Rattle.walks.proofs.Cuts.{put_for}
use Rattle.walks.proofs.walk.Walk.replace.Goals as goal

pub returns : goal.returns
returns c =
    let w = c.args.self.now in
    let h : c.args.at ≤ length (held w) = search rules in
    record {
      granted = search rules;
      replaced = put_for (held w) c.args.at c.args.taken c.args.new.now _ _ h c.cut.ensures.rest c.put_in.ensures;
    }
