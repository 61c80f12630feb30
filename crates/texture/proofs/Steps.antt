-- Steps of a walk over runs: the next run, and how many there are.
use Rattle.std.proofs.Common.{◌≡◌, ℕ, ◌+◌, ◌-◌, ◌*◌, ◌≤◌, min, List, ◌∷◌, ◌++◌, length, sym, ap, ◌∙◌, ap₂, le_refl, arith, length-append}
use native.Mathlib.Nat.{min-le_right}
use Rattle.texture.specs.Copies.{runs_down, slice_runs}
use Rattle.std.specs.Int.{div_ceil}
use Rattle.texture.specs.Walked.{runs_left}
use Rattle.texture.specs.declared.walk.SurfaceRuns.{SurfaceRuns}
use Rattle.texture.proofs.Rounded.{div_ceil-blocks}
use Rattle.texture.proofs.Walks.{runs_next, runs_count, slices_count}
use Rattle.texture.proofs.Follow.{rows_split}

-- the runs of a walk, by its numbers
abbrev pub walked : ℕ → ℕ → ℕ → ℕ → ℕ → ℕ → List (ℕ × ℕ)
walked first wide each left rows slices = runs_down left each wide first left ++ slice_runs slices each wide (first + left * wide) rows

-- one run, and the walk after it
pub walked_next : (first wide each left rows slices : ℕ) → 1 ≤ each → 1 ≤ left → walked first wide each left rows slices ≡ (first, min each left * wide) ∷ walked (first + min each left * wide) wide each (left - min each left) rows slices
walked_next first wide each left rows slices some more =
    let t = min each left in
    let split = rows_split t left wide (min-le_right each left) in
    let e : first + left * wide ≡ first + t * wide + (left - t) * wide = omega arith in
    ap (λ rs. rs ++ slice_runs slices each wide (first + left * wide) rows) (runs_next each wide some first left more)
    ∙ ap (λ x. (first, t * wide) ∷ (runs_down (left - t) each wide (first + t * wide) (left - t) ++ slice_runs slices each wide x rows)) e

-- how many runs a walk has left
pub count_left : (w : SurfaceRuns) → length (runs_left w) ≡ div_ceil w.left w.each + w.slices * div_ceil w.rows w.each
count_left w =
    let this = runs_down w.left w.each w.wide w.first w.left in
    let after = slice_runs w.slices w.each w.wide (w.first + w.left * w.wide) w.rows in
    length-append this after
    ∙ ap₂ ◌+◌
    (runs_count w.each w.wide w.whole w.left w.first w.left (le_refl w.left) ∙ sym (div_ceil-blocks w.left w.each w.whole))
    (slices_count w.each w.wide w.whole w.slices (w.first + w.left * w.wide) w.rows ∙ ap (λ n. w.slices * n) (sym (div_ceil-blocks w.rows w.each w.whole)))
