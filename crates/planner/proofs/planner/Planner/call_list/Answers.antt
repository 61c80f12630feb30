use Rattle.std.proofs.Common.{sym, refl, ap, ◌∙◌, arith}
use Rattle.rules.specs.Lists.{list_after, next_list}
use Rattle.planner.specs.View.{view}
use Rattle.planner.proofs.Viewed.{list_at_lem, list_put}
use Rattle.planner.proofs.planner.Planner.call_list.Goals as goal

pub returns-clause-after : goal.returns-clause-after
returns-clause-after g c =
    let p = c.args.self.now in
    let st = view p in
    let l = c.from-l.result in
    list_put st p.lists refl l c.call.new.self _ (c.call.ensures.after ∙ ap (λ q. next_list q c.args.c) (sym (list_at_lem st p.lists refl l c.index-self-l.result (omega arith))))
    ∙ ap (list_after st c.args.c) c.from-l.ensures
