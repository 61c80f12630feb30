-- Commands after commands on a device, and one step more of a list.
use Rattle.std.proofs.Common.{◌≡◌, ℕ, suc, ◌+◌, ◌-◌, ◌<◌, ◌≤◌, true, List, [], ◌∷◌, ◌++◌, length, get_or, drop, set, sym, refl, ap, ◌∙◌, append_assoc, arith, length-append}
use Rattle.std.proofs.lemmas.List.{append-nil, at_drop_more, length_push}
use Rattle.std.proofs.lemmas.Bool.{and_parts}
use Rattle.device.specs.Commands.{fits_in}
use Rattle.device.specs.Meaning.{Meaning, Followed, ran, summed}
use Rattle.device.specs.declared.command.Command.{Command}
use Rattle.device.proofs.Cells.{ran_append, ran_append_at, ran_same}
use Rattle.device.proofs.Sums.{summed_same}
use Rattle.rules.specs.Planning.{clear_of, clears_of}
use Rattle.rules.specs.Submission.{all_fit, step_fits, steps_fit}
use Rattle.rules.specs.Reports.{beside, over}
use Rattle.rules.specs.declared.report.ReadSum.{ReadSum}
use Rattle.rules.specs.Uses.{commands_of, step_commands, sums_of, step_sums, commands_before}
use Rattle.rules.specs.declared.piece.Piece.{Piece}
use Rattle.rules.specs.declared.report.Report.{Report}
use Rattle.rules.specs.declared.step.Step.{Step}
use Rattle.rules.specs.declared.step.Step.TheVariants.{BufferRead, BufferWrite, ClearBuffer}
use Rattle.plan.specs.Notes.{noted_step, filled}

-- a list of commands, and then another
pub followed_then : (m n o : Meaning) (xs ys : List Command) → Followed m xs n → Followed n ys o → Followed m (xs ++ ys) o
followed_then m n o xs ys p q =
    record {
      cells = λ s i. q.cells s i ∙ ran_same n.cell (ran m.cell xs) ys p.cells s i ∙ sym (ran_append_at m.cell xs ys s i);
      extents = λ s. q.extents s ∙ p.extents s;
      spent = omega (arith, length-append xs ys, p.spent, q.spent);
    }

-- the first of those that fit, and the others
pub fit_here : (e : ℕ → ℕ) (ps : List Piece) (i : ℕ) (d : Piece) → i < length ps → all_fit e (clears_of (drop i ps)) ≡ true
    → (fits_in e (clear_of (get_or ps i d)) ≡ true) × (all_fit e (clears_of (drop (i + 1) ps)) ≡ true)
fit_here e ps i d lt h =
    and_parts (fits_in e (clear_of (get_or ps i d))) (all_fit e (clears_of (drop (i + 1) ps)))
    (sym (at_drop_more (λ l. all_fit e (clears_of l)) ps i d lt) ∙ h)

pub steps_fit_here : (e : ℕ → ℕ) (ss : List Step) (i : ℕ) (d : Step) → i < length ss → steps_fit e (drop i ss) ≡ true
    → (step_fits e (get_or ss i d) ≡ true) × (steps_fit e (drop (i + 1) ss) ≡ true)
steps_fit_here e ss i d lt h =
    and_parts (step_fits e (get_or ss i d)) (steps_fit e (drop (i + 1) ss)) (sym (at_drop_more (steps_fit e) ss i d lt) ∙ h)

-- one step more
pub commands_push : (xs : List Step) (s : Step) → step_commands (xs ++ (s ∷ [])) ≡ step_commands xs ++ commands_of s
commands_push [] s = append-nil (commands_of s)
commands_push (x ∷ xs) s = ap (λ l. commands_of x ++ l) (commands_push xs s) ∙ sym (append_assoc (commands_of x) (step_commands xs) (commands_of s))

pub sums_push : (f : ℕ → ℕ → ℕ) (xs : List Step) (s : Step) → step_sums f (xs ++ (s ∷ [])) ≡ step_sums f xs ++ sums_of (ran f (step_commands xs)) s
sums_push f [] s = append-nil (sums_of f s)
sums_push f (x ∷ xs) s =
    let g = ran f (commands_of x) in
    ap (λ l. sums_of f x ++ l) (sums_push g xs s)
    ∙ ap (λ (h : ℕ → ℕ → ℕ). sums_of f x ++ (step_sums g xs ++ sums_of h s)) (sym (ran_append f (commands_of x) (step_commands xs)))
    ∙ sym (append_assoc (sums_of f x) (step_sums g xs) (sums_of (ran f (commands_of x ++ step_commands xs)) s))

pub befores_push : (n : ℕ) (xs : List Step) (s : Step) → commands_before n (xs ++ (s ∷ [])) ≡ commands_before n xs ++ commands_before (n + length (step_commands xs)) (s ∷ [])
befores_push n [] s = ap (λ m. commands_before m (s ∷ [])) (omega arith)
befores_push n (BufferRead b start end ∷ xs) s = ap (λ l. n ∷ l) (befores_push n xs s)
befores_push n (BufferWrite b byte start end ∷ xs) s =
    befores_push (n + 1) xs s ∙ ap (λ m. commands_before (n + 1) xs ++ commands_before m (s ∷ [])) (omega arith)
befores_push n (ClearBuffer b start end ∷ xs) s =
    befores_push (n + 1) xs s ∙ ap (λ m. commands_before (n + 1) xs ++ commands_before m (s ∷ [])) (omega arith)

-- a sum beside each read, and no more sums than steps
pub befores_sums : (n : ℕ) (f : ℕ → ℕ → ℕ) (xs : List Step) → length (commands_before n xs) ≡ length (step_sums f xs)
befores_sums n f [] = refl
befores_sums n f (BufferRead b start end ∷ xs) = ap suc (befores_sums n f xs)
befores_sums n f (BufferWrite b byte start end ∷ xs) = befores_sums (n + 1) (ran f (commands_of (BufferWrite b byte start end))) xs
befores_sums n f (ClearBuffer b start end ∷ xs) = befores_sums (n + 1) (ran f (commands_of (ClearBuffer b start end))) xs

pub sums_few : (f : ℕ → ℕ → ℕ) (xs : List Step) → length (step_sums f xs) ≤ length xs
sums_few f [] = omega arith
sums_few f (BufferRead b start end ∷ xs) = omega (arith, sums_few f xs)
sums_few f (BufferWrite b byte start end ∷ xs) = omega (arith, sums_few (ran f (commands_of (BufferWrite b byte start end))) xs)
sums_few f (ClearBuffer b start end ∷ xs) = omega (arith, sums_few (ran f (commands_of (ClearBuffer b start end))) xs)

-- and no more commands than steps
pub commands_few : (xs : List Step) → length (step_commands xs) ≤ length xs
commands_few [] = omega arith
commands_few (BufferRead b start end ∷ xs) = omega (arith, commands_few xs)
commands_few (BufferWrite b byte start end ∷ xs) = omega (arith, commands_few xs)
commands_few (ClearBuffer b start end ∷ xs) = omega (arith, commands_few xs)

-- a read of equal cells sums to the same
pub sums_same : (f g : ℕ → ℕ → ℕ) (s : Step) → ((r i : ℕ) → f r i ≡ g r i) → sums_of f s ≡ sums_of g s
sums_same f g (BufferRead b start end) h = ap (λ n. n ∷ []) (summed_same (f b) (g b) start (end - start) (λ i _ _. h b i))
sums_same f g (BufferWrite b byte start end) h = refl
sums_same f g (ClearBuffer b start end) h = refl

-- one place more is filled
pub over_push : (xs old : List ReadSum) (x : ReadSum) → length xs < length old → set (over xs old) (length xs) x ≡ over (xs ++ (x ∷ [])) old
over_push [] [] x lt = absurd (omega arith)
over_push [] (o ∷ os) x lt = refl
over_push (y ∷ ys) [] x lt = absurd (omega arith)
over_push (y ∷ ys) (o ∷ os) x lt = ap (λ l. y ∷ l) (over_push ys os x (omega arith))

-- one sum more beside its number
pub beside_push : (ss bs : List ℕ) (s b : ℕ) → length bs ≡ length ss → beside (ss ++ (s ∷ [])) (bs ++ (b ∷ [])) ≡ beside ss bs ++ (record { total = s; before = b } ∷ [])
beside_push [] [] s b e = refl
beside_push [] (c ∷ bs) s b e = absurd (omega arith)
beside_push (t ∷ ss) [] s b e = absurd (omega arith)
beside_push (t ∷ ss) (c ∷ bs) s b e = ap (λ l. record { total = t; before = c } ∷ l) (beside_push ss bs s b (omega arith))

-- there are as many as there are sums
pub length_beside : (ss bs : List ℕ) → length bs ≡ length ss → length (beside ss bs) ≡ length ss
length_beside [] bs e = refl
length_beside (s ∷ ss) [] e = absurd (omega arith)
length_beside (s ∷ ss) (b ∷ bs) e = ap suc (length_beside ss bs (omega arith))

abbrev rebuilt : Report → ℕ → List ReadSum → Report
rebuilt r n ss = record { cleared = r.cleared; commands = r.commands; reads = n; sums = ss }

pub filled_push : (r : Report) (sums befores : List ℕ) (f : ℕ → ℕ → ℕ) (s : Step) (done : ℕ) → length befores ≡ length sums
    → length sums < length r.sums
    → noted_step (filled r sums befores) (sums_of f s) done ≡ filled r (sums ++ sums_of f s) (befores ++ commands_before done (s ∷ []))
filled_push r sums befores f (BufferRead b start end) done e ls =
    let x = summed (f b) start (end - start) in
    let y : ReadSum = record { total = x; before = done } in
    let both = beside sums befores in
    let as_many : length both ≡ length sums = length_beside sums befores e in
    let p : set (over both r.sums) (length sums) y ≡ over (both ++ (y ∷ [])) r.sums =
    ap (λ (m : ℕ). set (over both r.sums) m y) (sym as_many) ∙ over_push both r.sums y (omega arith) in
    let n : length sums + 1 ≡ length (sums ++ (x ∷ [])) = sym (length_push sums x) in
    ap (λ (m : ℕ). rebuilt r m (set (over both r.sums) (length sums) y)) n
    ∙ ap (λ l. rebuilt r (length (sums ++ (x ∷ []))) l) p
    ∙ ap (λ l. rebuilt r (length (sums ++ (x ∷ []))) (over l r.sums)) (sym (beside_push sums befores x done e))
filled_push r sums befores f (BufferWrite b byte start end) done e ls =
    ap (λ l. filled r l befores) (sym (append-nil sums)) ∙ ap (λ l. filled r (sums ++ []) l) (sym (append-nil befores))
filled_push r sums befores f (ClearBuffer b start end) done e ls =
    ap (λ l. filled r l befores) (sym (append-nil sums)) ∙ ap (λ l. filled r (sums ++ []) l) (sym (append-nil befores))
