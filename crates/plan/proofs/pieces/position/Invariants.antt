use Rattle.std.proofs.Common.{◌≡◌, ◌-◌, ◌≤◌, ◌++◌, length, take, drop}
use Rattle.rules.specs.Planning.{placed}
use Rattle.plan.proofs.pieces.position.Given as goal

abbrev pub invariant-loop-i : goal.invariant-loop-i
invariant-loop-i l =
    (l.i ≤ length l.pieces) × (placed l.p l.pieces ≡ take l.i l.pieces ++ placed l.p (drop l.i l.pieces))

abbrev pub decreases-loop-i : goal.decreases-loop-i
decreases-loop-i l = length l.pieces - l.i
