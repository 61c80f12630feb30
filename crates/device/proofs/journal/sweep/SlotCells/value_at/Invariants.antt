-- What the records seen so far leave in the cell.
use Rattle.std.proofs.Common.{◌≡◌, take}
use Rattle.device.specs.Meaning.{ran}
use Rattle.device.proofs.journal.sweep.SlotCells.value_at.Given as goal

-- the byte is what the records so far leave
abbrev pub invariant-loop-record : goal.invariant-loop-record
invariant-loop-record l = l.byte ≡ ran (λ _ _. l.self.start) (take l.record-index l.self.records.now) l.self.slot l.at
