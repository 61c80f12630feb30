-- Buffers and their books as the rules see them: what a step takes, and what it leaves.
use Rattle.std.proofs.Common.{◌≡◌, ℕ, ◌+◌, ◌<◌, ◌≤◌, min, max, Bool, true, false, cond, ltb, leb, List, [], ◌∷◌, ◌++◌, length, get_or, drop, set, is_ok, Ok, Err, Result, sym, refl, ap, ◌∙◌, arith}
use Rattle.std.proofs.lemmas.Bool.{cond_both, cond-true, leb-true, and_parts}
use Rattle.std.proofs.lemmas.List.{get_or-map, map-set, at_drop_more}
use Rattle.fault.specs.declared.refusal.Refusal.{Refusal}
use Rattle.fault.specs.declared.refusal.Refusal.TheVariants.{PlacesFull}
use Rattle.range_list.specs.Ranges.{pieces, drained}
use Rattle.init_tracker.specs.Books.{owing, drain_answer, drain_after}
use Rattle.rules.specs.State.{Buffer as Known, no_buffer}
use Rattle.rules.specs.Planning.{holds, drained_buffer, drain_step}
use Rattle.rules.specs.Uses.{buffer_of, start_of, end_of, cover_end}
use Rattle.rules.specs.declared.step.Step.{Step}
use Rattle.rules.specs.Submission.{all_hold}
use Rattle.plan.specs.Views.{view_buffer, view_buffers, all_small}
use Rattle.plan.specs.declared.buffer.Buffer.{Buffer}

-- a query takes no more pieces than there are ranges
pub pieces_few : (lo hi : ℕ) (rs : List (ℕ × ℕ)) → length (pieces lo hi rs) ≤ length rs
pieces_few lo hi [] = omega arith
pieces_few lo hi (r ∷ rs) =
    let a = max r.0 lo in
    let b = min r.1 hi in
    cond_both (ltb a b) ((a, b) ∷ []) [] (λ l. length (l ++ pieces lo hi rs) ≤ length (r ∷ rs))
    (λ _. omega (arith, pieces_few lo hi rs))
    (λ _. omega (arith, pieces_few lo hi rs))

-- true is not false
pub never : true ≡ false → ⊥
never h = cc

-- a book that was drained, at its buffer's place
pub after_drain : (bs : List Buffer) (s : Step) (d new : Buffer) (n : ℕ) (r : Result (Unit {0}) Refusal) → n < length bs → n ≡ buffer_of s
    → r ≡ drain_answer (owing (get_or bs n d).book) (start_of s) (cover_end s) → is_ok r ≡ true
    → owing new.book ≡ drain_after (owing (get_or bs n d).book) (start_of s) (cover_end s) → new.size ≡ (get_or bs n d).size
    → new.copy ≡ (get_or bs n d).copy → new.standing ≡ (get_or bs n d).standing
    → view_buffers (set bs n new) ≡ drain_step (view_buffers bs) s
after_drain bs s d new n r lt is e ok after size copy standing =
    let old = get_or bs n d in
    let rs = owing old.book in
    let ds = drained (start_of s) (cover_end s) rs in
    let at : get_or (view_buffers bs) n no_buffer ≡ view_buffer old = get_or-map view_buffer bs n d no_buffer lt in
    let owes : owing new.book ≡ ds =
    after
    ∙ cond_both (ltb 64 (length ds)) rs ds (λ l. l ≡ ds)
    (λ t. absurd (never (sym ok ∙ ap is_ok e ∙ ap is_ok (cond-true (ltb 64 (length ds)) (Err PlacesFull) (Ok tt) t))))
    (λ _. refl) in
    let view : view_buffer new ≡ drained_buffer (view_buffer old) s = cc in
    map-set view_buffer bs n new ∙ ap (set (view_buffers bs) n) (view ∙ ap (λ b. drained_buffer b s) (sym at))
    ∙ ap (λ m. set (view_buffers bs) m (drained_buffer (get_or (view_buffers bs) m no_buffer) s)) is

-- a verdict that says Ok held
pub ok_holds : {E : Type 0} (b : Bool) (f : E) → ◌≡◌ {A = Result (Unit {0}) E} (Ok tt) (cond b (Ok tt) (Err f)) → b ≡ true
ok_holds true f h = refl
ok_holds false f h = cc

-- the first of steps that end within the greatest buffer, and the others
pub small_here : (ss : List Step) (k : ℕ) (d : Step) → k < length ss → all_small (drop k ss) ≡ true → (end_of (get_or ss k d) ≤ 268435456) × (all_small (drop (k + 1) ss) ≡ true)
small_here ss k d lt h =
    let p = and_parts (leb (end_of (get_or ss k d)) 268435456) (all_small (drop (k + 1) ss)) (sym (at_drop_more all_small ss k d lt) ∙ h) in
    (leb-true (end_of (get_or ss k d)) 268435456 p.0, p.1)

-- a step that holds is passed
pub hold_here : (bs : List Known) (k : ℕ) (ss : List Step) (d : Step) → k < length ss → holds bs (get_or ss k d) ≡ true
    → all_hold bs k (drop k ss) ≡ all_hold (drain_step bs (get_or ss k d)) (k + 1) (drop (k + 1) ss)
hold_here bs k ss d lt h = at_drop_more (all_hold bs k) ss k d lt ∙ cond-true (holds bs (get_or ss k d)) _ _ h
