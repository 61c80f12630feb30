-- What the rules say of a whole list, as tests, counts and sums of its elements.
use Rattle.std.proofs.Common.{◌≡◌, ℕ, suc, ◌+◌, ◌-◌, ◌&&◌, not, List, [], ◌∷◌, length, filter, refl, ap, ◌∙◌}
use Rattle.std.specs.List.{list_all, sum_by}
use Rattle.std.proofs.lemmas.List.Sums.{sum_by-cons}
use Rattle.device.specs.Commands.{fits_in}
use Rattle.rules.specs.Planning.{clear_of, clears_of, cells_in}
use Rattle.rules.specs.Submission.{all_fit, step_fits, steps_fit}
use Rattle.rules.specs.Uses.{step_commands, looks}
use Rattle.rules.specs.declared.piece.Piece.{Piece}
use Rattle.rules.specs.declared.step.Step.{Step}
use Rattle.rules.specs.declared.step.Step.TheVariants.{BufferRead, BufferWrite, ClearBuffer}

pub all_fit_tests : (e : ℕ → ℕ) (ps : List Piece) → list_all (λ p. fits_in e (clear_of p)) ps ≡ all_fit e (clears_of ps)
all_fit_tests e [] = refl
all_fit_tests e (p ∷ ps) = ap (λ b. fits_in e (clear_of p) && b) (all_fit_tests e ps)

pub steps_fit_tests : (e : ℕ → ℕ) (ss : List Step) → list_all (step_fits e) ss ≡ steps_fit e ss
steps_fit_tests e [] = refl
steps_fit_tests e (s ∷ ss) = ap (λ b. step_fits e s && b) (steps_fit_tests e ss)

-- each step but a read has one command
pub commands_count : (ss : List Step) → length (filter (λ s. not (looks s)) ss) ≡ length (step_commands ss)
commands_count [] = refl
commands_count (BufferRead b start end ∷ ss) = commands_count ss
commands_count (BufferWrite b byte start end ∷ ss) = ap suc (commands_count ss)
commands_count (ClearBuffer b start end ∷ ss) = ap suc (commands_count ss)

pub cells_sum : (ps : List Piece) → sum_by (λ p. p.end - p.start) ps ≡ cells_in ps
cells_sum [] = refl
cells_sum (p ∷ ps) = sum_by-cons (λ q. q.end - q.start) p ps ∙ ap (λ n. (p.end - p.start) + n) (cells_sum ps)
