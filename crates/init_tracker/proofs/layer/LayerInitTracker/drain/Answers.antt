use Rattle.std.proofs.Common.{ap, ◌∙◌, is_ok}
use Rattle.init_tracker.proofs.Owed.{drain_fits}
use Rattle.init_tracker.proofs.layer.LayerInitTracker.drain.Goals as goal

pub unwrap-requires : goal.unwrap-requires
unwrap-requires c = ap is_ok (c.drain.ensures.answer ∙ drain_fits c.args.self.now _ _)
