-- How far a sweep has come.
use Rattle.std.proofs.Common.{◌≡◌, ◌-◌, ◌*◌, ◌≤◌}
use Rattle.device.specs.Meaning.{ran, summed}
use Rattle.device.proofs.journal.sweep.SlotCells.sum.Given as goal

-- the cells before this one are summed
abbrev pub invariant-loop-at : goal.invariant-loop-at
invariant-loop-at l =
    (l.first ≤ l.at) × (l.at ≤ l.end) × (l.sum ≤ 255 * (l.at - l.first))
    × (l.sum ≡ summed (λ i. ran (λ _ _. l.self.start) l.self.records.now l.self.slot i) l.first (l.at - l.first))

abbrev pub decreases-loop-at : goal.decreases-loop-at
decreases-loop-at l = l.end - l.at
