-- Which commands were taken so far.
use Rattle.std.proofs.Common.{◌≤◌, length, take}
use Rattle.device.specs.Meaning.{Followed}
use Rattle.device.proofs.run.run_all.Given as goal

-- the commands so far were all taken
abbrev pub invariant-loop-taken : goal.invariant-loop-taken
invariant-loop-taken g l =
    (l.taken ≤ length l.commands)
    × Followed (g.D.Device.meaning l.initial.device) (take l.taken l.commands) (g.D.Device.meaning l.device)
