use Rattle.std.proofs.Common.{◌≡◌, ◌*◌, ◌≤◌, true, [], length, drop}
use Rattle.rules.specs.Planning.{all_placed, all_taken, drain_steps}
use Rattle.rules.specs.Submission.{all_hold}
use Rattle.plan.specs.Kept.{kept}
use Rattle.plan.specs.Views.{view_buffers, all_small}
use Rattle.plan.proofs.planning.plan_steps.Given as goal

abbrev pub invariant-loop-place : goal.invariant-loop-place
invariant-loop-place l =
    (l.place ≤ length l.step-items) × (length (kept l.pieces) ≤ 64 * l.place) × (all_small (drop l.place l.step-items) ≡ true)
    × (all_hold (view_buffers l.buffers) l.place (drop l.place l.step-items) ≡ all_hold (view_buffers l.initial.buffers) 0 l.step-items)
    × (drain_steps (view_buffers l.buffers) (drop l.place l.step-items) ≡ drain_steps (view_buffers l.initial.buffers) l.step-items)
    × (all_placed (kept l.pieces) (all_taken (view_buffers l.buffers) (drop l.place l.step-items)) ≡ all_placed [] (all_taken (view_buffers l.initial.buffers) l.step-items))
