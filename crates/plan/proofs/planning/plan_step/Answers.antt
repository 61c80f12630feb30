use Rattle.std.proofs.Common.{refl, ◌∙◌, arith}
use Rattle.plan.proofs.Books.{after_drain}
use Rattle.plan.proofs.planning.plan_step.Goals as goal

pub returns-clause-after : goal.returns-clause-after
returns-clause-after c =
    λ ok.
    after_drain c.args.buffers.now c.args.step c.index-buffers-n.result _ c.from-n.result c.drain.result (omega (arith, c.told-buffers)) (c.from-n.ensures ∙ c.buffer-number.ensures)
    (c.drain.ensures.answer ∙ cc) (grind (arith, c.map_err.ensures.variant)) (c.drain.ensures.after ∙ cc) refl refl refl
