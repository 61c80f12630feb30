-- A sweep takes in one part of alike cells a turn.
use Rattle.std.proofs.Common.{◌∙◌, ℕ, ◌-◌, ◌*◌, ◌≤◌, arith}
use Rattle.device.specs.Meaning.{ran}
use Rattle.device.proofs.Sums.{byte_product, summed_empty, summed_more}
use Rattle.device.proofs.journal.sweep.SlotCells.sum.Goals as goal

pub loop-at-init : goal.loop-at-init
loop-at-init c = (omega arith, omega arith, omega arith, summed_empty _ c.args.first _ (omega arith))

-- the part at hand is at most 255 times its length
part : (c : goal.After-from) → c.from.result * (c.next_change-next.result - c.loop-at.at) ≤ 255 * (c.next_change-next.result - c.loop-at.at)
part c = byte_product c.from.result (c.next_change-next.result - c.loop-at.at) (omega arith)

pub loop-at-preserved : goal.loop-at-preserved
loop-at-preserved c =
    let f : ℕ → ℕ = λ i. ran (λ _ _. c.args.self.now.start) c.args.self.now.records.now c.args.self.now.slot i in (
      omega arith,
      c.next_change-next.ensures.within,
      omega (arith, part c),
      summed_more f c.args.first c.loop-at.at c.next_change-next.result c.from.result c.loop-at.sum (omega arith) (omega arith) c.loop-at.invariant.3 (c.from.ensures ∙ c.value_at-value.ensures) (c.next_change-next.ensures.alike c.args.self.now.start),
    )
