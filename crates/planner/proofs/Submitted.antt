-- A submission leaves as many buffers as there were.
use Rattle.std.proofs.Common.{◌≡◌, Bool, cond, List, [], ◌∷◌, length, get_or, sym, refl, ap, ◌∙◌}
use Rattle.std.proofs.lemmas.Bool.{cond_both}
use Rattle.rules.specs.Planning.{drain_step, drained_buffer, drain_steps}
use Rattle.rules.specs.State.{Buffer as Known, no_buffer}
use Rattle.rules.specs.Uses.{buffer_of}
use Rattle.rules.specs.declared.step.Step.{Step}
use Rattle.std.proofs.lemmas.List.{length-map, length-set}
use Rattle.plan.specs.Views.{view_buffer, view_buffers}
use Rattle.plan.specs.declared.buffer.Buffer.{Buffer}

-- draining changes no number of buffers
drain_length : (bs : List Known) (ss : List Step) → length (drain_steps bs ss) ≡ length bs
drain_length bs [] = refl
drain_length bs (s ∷ ss) =
    drain_length (drain_step bs s) ss ∙ length-set bs (buffer_of s) (drained_buffer (get_or bs (buffer_of s) no_buffer) s)

pub buffers_long : (old new : List Buffer) (b : Bool) (ss : List Step) → length old ≡ 16
    → view_buffers new ≡ cond b (drain_steps (view_buffers old) ss) (view_buffers old) → length new ≡ 16
buffers_long old new b ss n e =
    sym (length-map new view_buffer) ∙ ap length e
    ∙ cond_both b (drain_steps (view_buffers old) ss) (view_buffers old) (λ l. length l ≡ length (view_buffers old)) (λ _. drain_length (view_buffers old) ss) (λ _. refl)
    ∙ length-map old view_buffer ∙ n
