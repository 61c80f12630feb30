use Rattle.std.proofs.Common.{ap, ◌∙◌, is_ok}
use Rattle.init_tracker.proofs.Owed.{discard_fits}
use Rattle.init_tracker.proofs.layer.LayerInitTracker.discard.Goals as goal

pub unwrap-requires : goal.unwrap-requires
unwrap-requires c = ap is_ok (c.discard.ensures.answer ∙ discard_fits c.args.self.now _)
