use Rattle.std.proofs.Common.{◌≡◌, ◌+◌, true, get_or, drop, sym, refl, ap, ◌∙◌, arith}
use Rattle.std.proofs.lemmas.List.{at_drop_more}
use Rattle.rules.specs.Planning.{all_placed, taken, all_taken, drain_step, drain_steps, holds}
use Rattle.rules.specs.Submission.{all_hold}
use Rattle.rules.specs.declared.step.Step.{Step}
use Rattle.rules.specs.declared.step.Step.TheVariants.{BufferRead}
use Rattle.plan.specs.Kept.{kept}
use Rattle.plan.specs.Views.{view_buffers}
use Rattle.plan.proofs.Books.{ok_holds, small_here, hold_here}
use Rattle.plan.proofs.Order.{all_placed_append}
use Rattle.plan.proofs.planning.plan_steps.Goals as goal

-- what is read where no step stands
abbrev blank : Step
blank = BufferRead 0 0 0

pub loop-place-preserved : goal.loop-place-preserved
loop-place-preserved c =
    let ss = c.as_slice-step-items.result.now in
    let k = c.loop-place.place in
    let lt = c.loop-place-test.true in
    let s = get_or ss k blank in
    let V = view_buffers c.loop-place.buffers in
    let W = view_buffers c.plan_step.new.buffers in
    let rest = drop (k + 1) ss in
    let told = c.in_ok-plan_step.ensures in
    let held : holds V s ≡ true = ok_holds (holds V s) _ told.answer in
    let e : W ≡ drain_step V s = told.after refl in (
      omega arith,
      omega (arith, told.few),
      (small_here ss k blank lt c.loop-place.invariant.2).1,
      ap (λ v. all_hold v (k + 1) rest) e ∙ sym (hold_here V k ss blank lt held) ∙ c.loop-place.invariant.3,
      ap (λ v. drain_steps v rest) e ∙ sym (at_drop_more (drain_steps V) ss k blank lt) ∙ c.loop-place.invariant.4,
      ap (λ v. all_placed (kept c.plan_step.new.pieces) (all_taken v rest)) e
          ∙ ap (λ qs. all_placed qs (all_taken (drain_step V s) rest)) told.held
          ∙ sym (all_placed_append (kept c.loop-place.pieces) (taken V s) (all_taken (drain_step V s) rest))
          ∙ sym (ap (all_placed (kept c.loop-place.pieces)) (at_drop_more (all_taken V) ss k blank lt))
          ∙ c.loop-place.invariant.5,
    )
