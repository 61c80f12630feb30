use Rattle.std.proofs.Common.{◌≡◌, ◌+◌, ◌≤◌, true, length, take, drop}
use Rattle.device.specs.Meaning.{Followed}
use Rattle.rules.specs.Submission.{steps_fit}
use Rattle.rules.specs.Uses.{step_commands, step_sums, commands_before}
use Rattle.plan.specs.Notes.{filled}
use Rattle.plan.proofs.run.run_steps.Given as goal

abbrev pub invariant-loop-step : goal.invariant-loop-step
invariant-loop-step g l =
    (l.step-index ≤ length l.step-items)
    × Followed (g.D.Device.meaning l.initial.device) (step_commands (take l.step-index l.step-items)) (g.D.Device.meaning l.device)
    × g.D.Device.keeps l.initial.device (step_commands (take l.step-index l.step-items)) l.device
    × (l.after ≡ l.done + length (step_commands (take l.step-index l.step-items)))
    × (l.report ≡ filled l.initial.report (step_sums (g.D.Device.meaning l.initial.device).cell (take l.step-index l.step-items)) (commands_before l.done (take l.step-index l.step-items)))
    × (steps_fit (g.D.Device.meaning l.initial.device).extent (drop l.step-index l.step-items) ≡ true)
    × (length (step_commands (take l.step-index l.step-items)) + length (step_commands (drop l.step-index l.step-items)) ≡ length (step_commands l.step-items))
