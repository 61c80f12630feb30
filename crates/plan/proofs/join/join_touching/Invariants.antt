use Rattle.std.proofs.Common.{◌≡◌, ◌≤◌, length, take, drop}
use Rattle.rules.specs.Planning.{join_all}
use Rattle.plan.proofs.join.join_touching.Given as goal

abbrev pub invariant-loop-i : goal.invariant-loop-i
invariant-loop-i l =
    (l.i ≤ l.w) × (l.w ≤ length l.initial.pieces) × (take l.i l.pieces ≡ take l.i l.initial.pieces)
    × (drop l.w l.pieces ≡ join_all (drop l.i l.initial.pieces))
