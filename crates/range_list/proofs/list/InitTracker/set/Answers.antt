use Rattle.range_list.specs.View.{ends}
use Rattle.range_list.proofs.Steps.{view_set}
use Rattle.range_list.proofs.list.InitTracker.set.Goals as goal

pub returns-clause-held : goal.returns-clause-held
returns-clause-held g c = view_set (ends g.I.Index.position) c.args.self.now.places.now c.args.self.now.len c.args.i _
