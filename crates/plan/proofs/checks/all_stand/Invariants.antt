use Rattle.std.proofs.Common.{◌≡◌, drop}
use Rattle.rules.specs.Submission.{all_stand}
use Rattle.plan.specs.Views.{view_buffers}
use Rattle.plan.proofs.checks.all_stand.Given as goal

abbrev pub invariant-loop-place : goal.invariant-loop-place
invariant-loop-place l =
    all_stand (view_buffers l.buffers) l.place (drop l.place l.steps) ≡ all_stand (view_buffers l.buffers) 0 l.steps
