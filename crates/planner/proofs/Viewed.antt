-- One list or one buffer of a planner, as the rules see it.
use Rattle.std.proofs.Common.{◌≡◌, ℕ, ◌<◌, not, ltb, List, [], ◌∷◌, map, length, get_or, set, Ok, sym, ap, ◌∙◌, arith}
use Rattle.std.proofs.lemmas.List.{get_or-map, map-set, length-map}
use Rattle.std.proofs.lemmas.Bool.{cond-true, lt-ltb}
use Rattle.fault.specs.declared.refusal.Refusal.TheVariants.{Destroyed}
use Rattle.rules.specs.Lists.{allows}
use Rattle.rules.specs.Making.{destroy_verdict}
use Rattle.rules.specs.State.{State, Buffer as KnownBuffer, CommandList as Known, no_buffer, idle_list, buffer_at, list_at, with_buffers, with_lists, put_list}
use Rattle.rules.specs.Verdicts.{Verdict, and_then, tried, known_buffer, known_list}
use Rattle.plan.specs.Views.{view_buffer, view_buffers}
use Rattle.plan.specs.declared.buffer.Buffer.{Buffer}
use Rattle.rules.specs.declared.list_state.ListCall.TheVariants.{Step as Record}
use Rattle.planner.specs.Listed.{view_list}
use Rattle.planner.specs.declared.list.CommandList.{CommandList}

module _ (st : State) (ls : List CommandList) (lists : st.lists ≡ map view_list ls) (l : ℕ) where
  -- as many lists as there are
  long : length st.lists ≡ length ls
  long = ap length lists ∙ length-map ls view_list

  pub list_known : l < length ls → known_list st l ≡ Ok tt
  list_known lt = cond-true (ltb l (length st.lists)) _ _ (lt-ltb l (length st.lists) (omega (arith, long)))

  pub list_at_lem : (d : CommandList) → l < length ls → list_at st l ≡ view_list (get_or ls l d)
  list_at_lem d lt = ap (λ xs. get_or xs l idle_list) lists ∙ get_or-map view_list ls l d idle_list lt

  -- one list changed
  pub list_put : (p : CommandList) (q : Known) → view_list p ≡ q → with_lists st (map view_list (set ls l p)) ≡ put_list st l q
  list_put p q e = ap (with_lists st) (map-set view_list ls l p ∙ ap (λ xs. set xs l (view_list p)) (sym lists) ∙ ap (set st.lists l) e)

  -- the verdict on a step of a known list
  pub step_verdict_lem : (b v : Verdict) (d : CommandList) → l < length ls
      → and_then b (and_then (allows (view_list (get_or ls l d)).state Record) v) ≡ and_then (known_list st l) (and_then b (and_then (allows (list_at st l).state Record) v))
  step_verdict_lem b v d lt =
      ap (λ p. and_then b (and_then (allows p.state Record) v)) (sym (list_at_lem d lt))
      ∙ sym (ap (λ w. and_then w (and_then b (and_then (allows (list_at st l).state Record) v))) (list_known lt))

module _ (st : State) (bs : List Buffer) (buffers : st.buffers ≡ view_buffers bs) (n : ℕ) where
  pub buffer_known : n < st.made → known_buffer st n ≡ Ok tt
  buffer_known lt = cond-true (ltb n st.made) _ _ (lt-ltb n st.made lt)

  pub buffer_at_lem : (d : Buffer) → n < length bs → buffer_at st n ≡ view_buffer (get_or bs n d)
  buffer_at_lem d lt = ap (λ xs. get_or xs n no_buffer) buffers ∙ get_or-map view_buffer bs n d no_buffer lt

  -- one buffer changed
  pub buffer_put : (m : ℕ) (b : Buffer) (q : KnownBuffer) → view_buffer b ≡ q → with_buffers st m (view_buffers (set bs n b)) ≡ with_buffers st m (set st.buffers n q)
  buffer_put m b q e = ap (with_buffers st m) (map-set view_buffer bs n b ∙ ap (λ xs. set xs n (view_buffer b)) (sym buffers) ∙ ap (set st.buffers n) e)

  -- a buffer that was made is destroyed if it stands
  pub destroy_is : (d : Buffer) → n < st.made → n < length bs → destroy_verdict st n ≡ tried ((not (get_or bs n d).standing, Destroyed) ∷ [])
  destroy_is d known lt =
      ap (λ v. and_then v (tried ((not (buffer_at st n).standing, Destroyed) ∷ []))) (buffer_known known)
      ∙ ap (λ b. tried ((not b.standing, Destroyed) ∷ [])) (buffer_at_lem d lt)
