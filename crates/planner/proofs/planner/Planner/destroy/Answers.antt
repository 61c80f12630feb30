use Rattle.std.proofs.Common.{not, get_or, Ok, Err, sym, refl, ap, ◌∙◌, arith}
use Rattle.std.proofs.lemmas.Bool.{cond-true, cond-false}
use Rattle.fault.specs.declared.refusal.Refusal.TheVariants.{Destroyed}
use Rattle.rules.specs.Making.{destroy_verdict, destroyed_buffer, destroy_after}
use Rattle.rules.specs.State.{buffer_at}
use Rattle.rules.specs.Verdicts.{accepts}
use Rattle.planner.specs.View.{view}
use Rattle.planner.proofs.Viewed.{buffer_at_lem, buffer_put, destroy_is}
use Rattle.planner.proofs.planner.Planner.destroy.Goals as goal

pub returns-clause-after : goal.returns-clause-after
returns-clause-after g c =
    let p = c.args.self.now in
    let st = view p in
    let n = c.from-n.result in
    let d = c.index-self-n.result in
    let v = destroy_is st p.buffers refl n d (omega arith) (omega arith) ∙ cond-false (not (get_or p.buffers n d).standing) (Err Destroyed) (Ok tt) (ap not c.if-not-self-n.false) in
    buffer_put st p.buffers refl n st.made _ (destroyed_buffer (buffer_at st n)) (ap destroyed_buffer (sym (buffer_at_lem st p.buffers refl n c.index-buffers-n.result (omega arith))))
    ∙ sym (cond-true (accepts (destroy_verdict st n)) _ st (ap accepts v))
    ∙ ap (destroy_after st) c.from-n.ensures
