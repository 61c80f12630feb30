use Rattle.std.proofs.Common.{length, rules, ap, ◌∙◌}
use Rattle.rules.specs.State.{buffer_at, list_at}
use Rattle.rules.specs.Steps.{write_causes}
use Rattle.rules.specs.Verdicts.{tried}
use Rattle.rules.specs.declared.step.Step.TheVariants.{BufferWrite}
use Rattle.planner.specs.View.{view}
use Rattle.planner.proofs.Recorded.{recorded_step}
use Rattle.planner.proofs.planner.Planner.buffer_write.Goals as goal

pub returns-clause-after : goal.returns-clause-after
returns-clause-after g c =
    let st = view c.args.self.now in
    let l = c.args.list in
    let n = c.args.resource in
    let causes = write_causes c.args.start c.args.end in
    c.record.ensures.after
    ∙ recorded_step st l n (BufferWrite n c.args.byte c.args.start c.args.end) c.map-step.result c.check_write.result (tried (causes (buffer_at st n) (length (list_at st l).steps))) (search rules)
    (c.check_write.ensures ∙ ap (λ b. tried (causes b c.held.result)) c.buffer-buffer.ensures ∙ ap (λ k. tried (causes (buffer_at st n) k)) c.held.ensures.answer)
