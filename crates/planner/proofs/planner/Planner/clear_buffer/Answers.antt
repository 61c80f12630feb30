use Rattle.std.proofs.Common.{◌≡◌, ◌+◌, length, Ok, Err, rules, sym, refl, ap, ◌∙◌}
use Rattle.std.specs.Result.{MatchResult}
use Rattle.std.proofs.lemmas.Result.{MatchResult-weaker}
use Rattle.rules.specs.State.{buffer_at, list_at}
use Rattle.rules.specs.Steps.{clear_causes, clear_size}
use Rattle.rules.specs.Verdicts.{Verdict, tried}
use Rattle.rules.specs.declared.step.Step.{Step}
use Rattle.rules.specs.declared.step.Step.TheVariants.{ClearBuffer}
use Rattle.plan.specs.Views.{view_buffer}
use Rattle.planner.specs.View.{view}
use Rattle.planner.proofs.Recorded.{clear_step, recorded_step}
use Rattle.planner.proofs.planner.Planner.clear_buffer.Goals as goal

pub returns-clause-after : goal.returns-clause-after
returns-clause-after g c =
    let st = view c.args.self.now in
    let l = c.args.list in
    let n = c.args.resource in
    let o = c.args.offset in
    let size = c.args.size in
    let s : Step = ClearBuffer n o (o + clear_size size o (buffer_at st n).size) in
    let own : Verdict = tried (clear_causes o size (buffer_at st n) (length (list_at st l).steps)) in
    let v : tried (clear_causes o size (view_buffer c.buffer-buffer.result) c.held.result) ≡ own =
    ap (λ b. tried (clear_causes o size b c.held.result)) c.buffer-buffer.ensures
    ∙ ap (λ k. tried (clear_causes o size (buffer_at st n) k)) c.held.ensures.answer in
    let m : MatchResult c.check_clear.result (λ x. c.map-step.result ≡ Ok (ClearBuffer n o x)) (λ r. c.map-step.result ≡ Err r) = search rules in
    let h : MatchResult c.check_clear.result (λ x. (own ≡ Ok tt) × (x ≡ o + clear_size size o (buffer_at st n).size)) (λ r. own ≡ Err r) =
    MatchResult-weaker c.check_clear.result c.check_clear.ensures.cases
    (λ x k. (sym v ∙ k.0, k.1 ∙ ap (λ b. o + clear_size size o b.size) c.buffer-buffer.ensures))
    (λ r k. sym v ∙ k) in
    c.record.ensures.after
    ∙ recorded_step st l n s c.map-step.result own own (clear_step c.check_clear.result c.map-step.result own n o (o + clear_size size o (buffer_at st n).size) h m) refl
