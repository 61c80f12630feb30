-- How far the cells are alike under the records seen so far.
use Rattle.std.proofs.Common.{◌≡◌, ℕ, ◌<◌, ◌≤◌, take}
use Rattle.device.specs.Meaning.{ran}
use Rattle.device.proofs.journal.sweep.SlotCells.next_change.Given as goal

-- under the records so far, every cell up to next holds what the one at hand does
abbrev pub invariant-loop-record : goal.invariant-loop-record
invariant-loop-record l =
    (l.at < l.next) × (l.next ≤ l.end)
    × ((b i : ℕ) → l.at ≤ i → i < l.next → ran (λ _ _. b) (take l.record-index l.self.records.now) l.self.slot i ≡ ran (λ _ _. b) (take l.record-index l.self.records.now) l.self.slot l.at)
