use Rattle.std.proofs.Common.{◌∙◌}
use Rattle.std.proofs.lemmas.List.{length-set}
use Rattle.std.specs.Prelude.{true}
use Rattle.planner.proofs.Submitted.{buffers_long}
use Rattle.planner.proofs.planner.Planner.submit.Goals as goal

pub invariant_of-self-2 : goal.invariant_of-self-2
invariant_of-self-2 g c =
    let p = c.args.self.now in
    record {
      slots = buffers_long p.buffers c.submit_steps.new.buffers true c.recorded.result.now p.slots c.in_ok-submit_steps.ensures.after;
      few = p.few;
      four = length-set p.lists c.from-l.result _ ∙ p.four;
    }
