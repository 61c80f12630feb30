use Rattle.std.proofs.Common.{arith}
use Rattle.range_list.specs.View.{view}
use Rattle.range_list.proofs.Steps.{view_length, close_held}
use Rattle.range_list.proofs.list.InitTracker.close.Goals as goal

pub returns-clause-held : goal.returns-clause-held
returns-clause-held g c =
    let p = g.I.Index.position in
    let old = c.args.self.now in
    let new = c.trim_end-a.new.self in
    let l = view_length p old in
    let m = view_length p new in
    close_held (view p old) (view p new) (view p c.trim_start.new.self) (view p c.remove.new.self) (p c.args.query.start) (p c.args.query.end) c.trim_end-a.result c.args.i c.args.k
    (omega arith) (omega arith) (omega arith) (omega arith) (omega arith) c.trim_end-a.ensures.front c.trim_end-a.ensures.rest c.trim_start.ensures.held c.remove.ensures.held
