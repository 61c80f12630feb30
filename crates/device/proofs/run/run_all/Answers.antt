-- A taken command joins those before it, and a declined one ends the run.
use Rattle.std.proofs.Common.{List, get_or, take, sym, subst, arith}
use Rattle.std.proofs.lemmas.List.{take_more}
use Rattle.device.specs.Meaning.{Followed}
use Rattle.device.specs.declared.command.Command.{Command}
use Rattle.device.specs.declared.command.CommandKind.TheVariants.{Clear}
use Rattle.device.proofs.Following.{followed_more}
use Rattle.device.proofs.run.run_all.Goals as goal

-- what stands past a list's end
none : Command
none = record { kind = Clear; slot = 0; first = 0; count = 0 }

pub loop-taken-preserved : goal.loop-taken-preserved
unfolding none
loop-taken-preserved g c =
    let xs = c.args.commands.now in
    let k = c.loop-taken.taken in
    let start = g.D.Device.meaning c.args.device.now in
    let end = g.D.Device.meaning c.take.new.self in
    let told = c.if-not-take.ensures in
    let more = followed_more start (g.D.Device.meaning c.loop-taken.device) end (take k xs) (get_or xs k none) c.loop-taken.invariant.1 told.answer told.took in
    (omega arith, subst (λ (cs : List Command). Followed start cs end) (sym (take_more xs k none (omega arith))) more)
