use Rattle.std.proofs.Common.{◌≡◌, ◌≤◌, true, length, take, drop}
use Rattle.device.specs.Meaning.{Followed}
use Rattle.rules.specs.Planning.{clears_of}
use Rattle.rules.specs.Submission.{all_fit}
use Rattle.plan.proofs.run.run_clears.Given as goal

abbrev pub invariant-loop-piece : goal.invariant-loop-piece
invariant-loop-piece g l =
    (l.piece-index ≤ length l.pieces)
    × Followed (g.D.Device.meaning l.initial.device) (clears_of (take l.piece-index l.pieces)) (g.D.Device.meaning l.device)
    × g.D.Device.keeps l.initial.device (clears_of (take l.piece-index l.pieces)) l.device
    × (all_fit (g.D.Device.meaning l.initial.device).extent (clears_of (drop l.piece-index l.pieces)) ≡ true)
