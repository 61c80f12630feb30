-- One submission as a whole: what its checks come to, and what its commands leave.
use Rattle.std.proofs.Common.{◌≡◌, ℕ, ◌+◌, ◌-◌, ◌*◌, ◌≤◌, Bool, true, false, cond, ◌&&◌, leb, List, [], ◌∷◌, ◌++◌, length, Ok, Err, Result, sym, refl, ap, ◌∙◌, arith, length-append}
use Rattle.std.proofs.lemmas.List.{length-map}
use Rattle.std.proofs.lemmas.Bool.{and_parts}
use Rattle.std.proofs.lemmas.Bool.Decides.{nat_tests}
use Rattle.fault.specs.declared.Fault.{Fault}
use Rattle.fault.specs.declared.call_kind.CallKind.TheVariants.{Submit as Submitting}
use Rattle.fault.specs.declared.refusal.Refusal.TheVariants.{AllowanceShort, BadDescription}
use Rattle.fault.specs.Parts.{fault_of}
use Rattle.device.specs.Commands.{fits_in}
use Rattle.device.specs.Meaning.{Meaning, ran, most_cells}
use Rattle.device.proofs.Cells.{ran_same}
use Rattle.rules.specs.Planning.{clear_of, clears_of, cells_in, planned}
use Rattle.rules.specs.State.{Buffer}
use Rattle.rules.specs.Submission.{all_fit, steps_fit, all_commands, reported}
use Rattle.rules.specs.Uses.{commands_before, commands_of, step_commands, step_sums, sums_of}
use Rattle.rules.specs.Verdicts.{and_then}
use Rattle.rules.specs.declared.piece.Piece.{Piece}
use Rattle.rules.specs.Reports.{begun}
use Rattle.rules.specs.declared.report.Report.{Report}
use Rattle.rules.specs.declared.step.Step.{Step}
use Rattle.plan.specs.Notes.{filled}
use Rattle.plan.proofs.Runs.{sums_same}

-- what the device is asked before the first command
abbrev pub asked : Meaning → List Piece → List Step → ℕ → Result (Unit {0}) Fault
asked m ps ss needed =
    and_then (cond (leb needed m.allowance) (Ok tt) (Err (fault_of Submitting AllowanceShort 255 64)))
    (cond (all_fit m.extent (clears_of ps) && steps_fit m.extent ss) (Ok tt) (Err (fault_of Submitting BadDescription 255 64)))

-- where it is granted, the allowance is enough and all fits
granted_both : (a b c : Bool) (e f : Fault) → Ok tt ≡ and_then (cond a (Ok tt) (Err e)) (cond (b && c) (Ok tt) (Err f)) → (a ≡ true) × (b ≡ true) × (c ≡ true)
granted_both true true true e f h = (refl, refl, refl)
granted_both true true false e f h = cc
granted_both true false c e f h = cc
granted_both false b c e f h = cc

pub granted : (m : Meaning) (ps : List Piece) (ss : List Step) (needed : ℕ) → Ok tt ≡ asked m ps ss needed
    → (leb needed m.allowance ≡ true) × (all_fit m.extent (clears_of ps) ≡ true) × (steps_fit m.extent ss ≡ true)
granted m ps ss needed h =
    granted_both (leb needed m.allowance) (all_fit m.extent (clears_of ps)) (steps_fit m.extent ss) _ _ h

-- a clear that fits holds no more cells than a slot may
fit_cells : (e : ℕ → ℕ) (p : Piece) → ((s : ℕ) → e s ≤ most_cells) → fits_in e (clear_of p) ≡ true → p.end - p.start ≤ most_cells
fit_cells e p h t = let b = h p.buffer in grind (arith, nat_tests)

pub cells_bound : (e : ℕ → ℕ) (ps : List Piece) → ((s : ℕ) → e s ≤ most_cells) → all_fit e (clears_of ps) ≡ true → cells_in ps ≤ most_cells * length ps
cells_bound e [] h t = omega arith
cells_bound e (p ∷ ps) h t =
    let b = and_parts (fits_in e (clear_of p)) (all_fit e (clears_of ps)) t in
    omega (arith, fit_cells e p h b.0, cells_bound e ps h b.1)

-- reads over equal cells sum to the same
pub step_sums_same : (f g : ℕ → ℕ → ℕ) (ss : List Step) → ((s i : ℕ) → f s i ≡ g s i) → step_sums f ss ≡ step_sums g ss
step_sums_same f g [] h = refl
step_sums_same f g (s ∷ ss) h =
    ap (λ l. l ++ step_sums (ran f (commands_of s)) ss) (sums_same f g s h)
    ∙ ap (λ l. sums_of g s ++ l) (step_sums_same (ran f (commands_of s)) (ran g (commands_of s)) ss (ran_same f g (commands_of s) h))

-- what the report then says
pub reported_is : (m : Meaning) (V : List Buffer) (ss : List Step) (ps : List Piece) (old : Report) (cleared needed : ℕ) (f : ℕ → ℕ → ℕ) → ps ≡ planned V ss
    → cleared ≡ cells_in ps → needed ≡ length ps + length (step_commands ss) → ((s i : ℕ) → f s i ≡ ran m.cell (clears_of ps) s i)
    → filled (begun old cleared needed) (step_sums f ss) (commands_before (length ps) ss) ≡ reported m V ss old
reported_is m V ss ps old cleared needed f is cells n same =
    let sums = step_sums f ss in
    let told : ℕ → ℕ → List ℕ → List ℕ → Report = λ k n l b. filled (begun old k n) l b in
    let l : needed ≡ length (all_commands V ss) =
    n ∙ ap (λ qs. length qs + length (step_commands ss)) is ∙ ap (λ k. k + length (step_commands ss)) (sym (length-map (planned V ss) clear_of))
    ∙ sym (length-append (clears_of (planned V ss)) (step_commands ss)) in
    ap (λ k. told k needed sums (commands_before (length ps) ss)) (cells ∙ ap cells_in is)
    ∙ ap (λ k. told (cells_in (planned V ss)) k sums (commands_before (length ps) ss)) l
    ∙ ap (λ l. told (cells_in (planned V ss)) (length (all_commands V ss)) l (commands_before (length ps) ss)) (step_sums_same f (ran m.cell (clears_of ps)) ss same)
    ∙ ap (λ qs. told (cells_in (planned V ss)) (length (all_commands V ss)) (step_sums (ran m.cell (clears_of qs)) ss) (commands_before (length qs) ss)) is
