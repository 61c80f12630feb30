use Rattle.std.proofs.Common.{set, ap, ◌∙◌}
use Rattle.range_list.proofs.Shifts.{opened}
use Rattle.range_list.proofs.shift.open_at.Goals as goal

pub returns : goal.returns
returns g c = ap (λ l. set l c.args.i c.args.s) c.copy_within.ensures.after ∙ opened c.args.part.now c.args.i c.args.s c.requires
