-- Cells that are alike and covered alike by one record more stay alike.
use Rattle.std.proofs.Common.{get_or, take, sym, ◌∙◌, arith}
use Rattle.device.specs.Meaning.{ran}
use Rattle.device.specs.declared.command.Command.{Command}
use Rattle.device.specs.declared.command.CommandKind.TheVariants.{Clear}
use Rattle.device.proofs.Cells.{painted_alike, ran_more}
use Rattle.device.proofs.journal.sweep.SlotCells.next_change.Goals as goal

pub loop-record-preserved : goal.loop-record-preserved
loop-record-preserved c =
    let xs = c.args.self.now.records.now in
    let k = c.loop-record.record-index in
    let s = c.args.self.now.slot in
    let none : Command = record { kind = Clear; slot = 0; first = 0; count = 0 } in (
      c.boundary-next.ensures.above,
      omega arith,
      λ b i l u.
          let more = ran_more (λ _ _. b) xs k none c.loop-record-test.true s in
          more i
          ∙ painted_alike (ran (λ _ _. b) (take k xs)) (get_or xs k none) s i c.args.at (c.boundary-next.ensures.alike i l u) (c.loop-record.invariant.2 b i l (omega arith))
          ∙ sym (more c.args.at),
    )
