-- A record that covers the cell gives it its byte, and any other leaves it.
use Rattle.std.proofs.Common.{get_or, take, sym, ◌∙◌}
use Rattle.std.proofs.lemmas.Bool.{cond-true, cond-false}
use Rattle.device.specs.Commands.{byte_of, covers}
use Rattle.device.specs.Meaning.{ran}
use Rattle.device.specs.declared.command.Command.{Command}
use Rattle.device.specs.declared.command.CommandKind.TheVariants.{Clear}
use Rattle.device.proofs.Cells.{ran_more}
use Rattle.device.proofs.journal.sweep.SlotCells.value_at.Goals as goal
use Rattle.device.proofs.journal.sweep.SlotCells.value_at.Goals.{then-covers, else-covers}

pub loop-record-preserved : goal.loop-record-preserved
loop-record-preserved c =
    let f = ran (λ _ _. c.args.self.now.start) (take c.loop-record.record-index c.args.self.now.records.now) in
    let none : Command = record { kind = Clear; slot = 0; first = 0; count = 0 } in
    let r = get_or c.args.self.now.records.now c.loop-record.record-index none in
    let s = c.args.self.now.slot in
    let i = c.args.at in
    let more = ran_more (λ _ _. c.args.self.now.start) c.args.self.now.records.now c.loop-record.record-index none c.loop-record-test.true s i in
    elim c.if-covers.branch [
      | then-covers w ↦ w.byte-is ∙ w.byte-byte.ensures ∙ sym (more ∙ cond-true (covers r s i) (byte_of r.kind) (f s i) (sym c.covers.ensures ∙ w.if-covers.true))
      | else-covers w ↦ w.byte-is ∙ c.loop-record.invariant ∙ sym (more ∙ cond-false (covers r s i) (byte_of r.kind) (f s i) (sym c.covers.ensures ∙ w.if-covers.false))
    ]
