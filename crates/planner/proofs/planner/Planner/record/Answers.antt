use Rattle.std.proofs.Common.{get_or, sym, refl, ap, ◌∙◌, arith}
use Rattle.rules.specs.Lists.{allows}
use Rattle.rules.specs.declared.list_state.ListCall.TheVariants.{Step as Record}
use Rattle.rules.specs.State.{list_at, put_list}
use Rattle.rules.specs.Verdicts.{and_then, known_buffer}
use Rattle.planner.specs.Listed.{view_list, list_with, verdict_of, verdict_on}
use Rattle.planner.specs.View.{view}
use Rattle.planner.proofs.Viewed.{list_at_lem, list_put, step_verdict_lem}
use Rattle.planner.proofs.planner.Planner.record.Goals as goal

pub returns-clause-after : goal.returns-clause-after
returns-clause-after g c =
    let p = c.args.self.now in
    let st = view p in
    let l = c.from-l.result in
    let n = c.args.resource in
    let s = c.args.step in
    let d = c.index-self-l.result in
    let v = c.record.ensures.answer ∙ ap (λ b. and_then b (and_then (allows (view_list (get_or p.lists l d)).state Record) (verdict_of s))) c.check_buffer-known.ensures ∙ step_verdict_lem st p.lists refl l (known_buffer st n) (verdict_of s) d (omega arith) in
    list_put st p.lists refl l c.record.new.self _
    (c.record.ensures.after ∙ ap (λ q. list_with q c.record.result s) (sym (list_at_lem st p.lists refl l d (omega arith))) ∙ ap (λ w. list_with (list_at st l) w s) v)
    ∙ ap (λ m. put_list st m (list_with (list_at st m) (verdict_on st m n (verdict_of s)) s)) c.from-l.ensures
