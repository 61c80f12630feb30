use Rattle.std.proofs.Common.{◌≡◌, drop}
use Rattle.rules.specs.Verdicts.{tried}
use Rattle.planner.proofs.uses.tried.Given as goal

abbrev pub invariant-loop-holds : goal.invariant-loop-holds
invariant-loop-holds l = tried (drop l.holds-index l.causes) ≡ tried l.causes
