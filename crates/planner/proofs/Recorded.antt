-- One step more in a list.
use Rattle.std.proofs.Common.{◌≡◌, ℕ, false, Ok, Err, Result, sym, refl, ap, ◌∙◌}
use Rattle.std.specs.Result.{MatchResult}
use Rattle.std.proofs.lemmas.Bool.{cond-false}
use Rattle.rules.specs.Uses.{start_of, end_of}
use Rattle.rules.specs.declared.step.Step.{Step}
use Rattle.rules.specs.declared.step.Step.TheVariants.{ClearBuffer}
use Rattle.fault.specs.declared.refusal.Refusal.{Refusal}
use Rattle.rules.specs.Lists.{allows}
use Rattle.rules.specs.declared.list_state.ListCall.TheVariants.{Step as Record}
use Rattle.rules.specs.State.{State, CommandList, list_at, put_list}
use Rattle.rules.specs.Steps.{stepped_list}
use Rattle.rules.specs.Verdicts.{Verdict, accepts, and_then, known_list, known_buffer}
use Rattle.planner.specs.Listed.{list_with, verdict_of, verdict_on}

-- a verdict that ends in a refusal accepts nothing
pub ends_refused : (a b c : Verdict) (e : Refusal) → accepts (and_then a (and_then b (and_then c (Err e)))) ≡ false
ends_refused (Ok u) (Ok v) (Ok w) e = refl
ends_refused (Ok u) (Ok v) (Err r) e = refl
ends_refused (Ok u) (Err r) c e = refl
ends_refused (Err r) b c e = refl

-- the step of a verdict that accepts, or its cause
abbrev pub step_of : Verdict → Step → Result Step Refusal
step_of (Ok u) s = Ok s
step_of (Err e) s = Err e

-- a list after it, as after the step itself
pub stepped_alike : (p : CommandList) (a b c v : Verdict) (s : Step) (r : Result Step Refusal) → r ≡ step_of v s
    → list_with p (and_then a (and_then b (and_then c (verdict_of r)))) r ≡ stepped_list p (and_then a (and_then b (and_then c v))) (start_of s) (end_of s) s
stepped_alike p a b c (Ok u) s r e = ap (λ q. list_with p (and_then a (and_then b (and_then c (verdict_of q)))) q) e
stepped_alike p a b c (Err f) s r e =
    ap (λ q. list_with p (and_then a (and_then b (and_then c (verdict_of q)))) q) e
    ∙ sym (cond-false (accepts (and_then a (and_then b (and_then c (Err f))))) _ _ (ends_refused a b c f))

-- the step of a clear that was accepted up to its end
pub clear_step : (r : Result ℕ Refusal) (m : Result Step Refusal) (v : Verdict) (n o end : ℕ)
    → MatchResult r (λ x. (v ≡ Ok tt) × (x ≡ end)) (λ e. v ≡ Err e) → MatchResult r (λ x. m ≡ Ok (ClearBuffer n o x)) (λ e. m ≡ Err e)
    → m ≡ step_of v (ClearBuffer n o end)
clear_step (Ok x) m v n o end h k = k ∙ ap (λ y. Ok (ClearBuffer n o y)) h.1 ∙ sym (ap (λ w. step_of w (ClearBuffer n o end)) h.0)
clear_step (Err e) m v n o end h k = k ∙ sym (ap (λ w. step_of w (ClearBuffer n o end)) h)

-- the state after it, where its own causes say v
pub recorded_step : (st : State) (l n : ℕ) (s : Step) (r : Result Step Refusal) (own v : Verdict) → r ≡ step_of own s → own ≡ v
    → put_list st l (list_with (list_at st l) (verdict_on st l n (verdict_of r)) r) ≡ put_list st l (stepped_list (list_at st l) (verdict_on st l n v) (start_of s) (end_of s) s)
recorded_step st l n s r own v e is =
    ap (put_list st l) (stepped_alike (list_at st l) (known_list st l) (known_buffer st n) (allows (list_at st l).state Record) own s r e)
    ∙ ap (λ w. put_list st l (stepped_list (list_at st l) (verdict_on st l n w) (start_of s) (end_of s) s)) is
