-- Runs of cells, as first cell and count: when they follow each other, which cells they are, and how they are walked.
use Rattle.std.specs.Prelude.{◌≡◌, ℕ, ◌+◌, ◌≤◌, Bool, true, false, cond, ◌&&◌, ◌||◌, List, [], ◌∷◌, Some, None, Option, nat_le, nat_lt}
use Rattle.texture.specs.Shapes.{Shape, between}
use Rattle.texture.specs.Tiles.{is_surface}
use Rattle.texture.specs.Copies.{clear_runs}
use Rattle.texture.specs.declared.format.ClearMode.{ClearMode}
use Rattle.texture.specs.declared.format.ClearMode.TheVariants as mode

-- the runs are non-empty and follow each other from a cell up to an end, which is not in them
abbrev pub Consecutive : ℕ → ℕ → List (ℕ × ℕ) → Type 0
Consecutive first end [] = first ≡ end
Consecutive first end (r ∷ rs) = (r.0 ≡ first) × (1 ≤ r.1) × Consecutive (first + r.1) end rs

-- whether a cell is in some run
abbrev pub in_runs : ℕ → List (ℕ × ℕ) → Bool
in_runs i [] = false
in_runs i (r ∷ rs) = (nat_le r.0 i && nat_lt i (r.0 + r.1)) || in_runs i rs

-- the cells of all runs together
abbrev pub run_cells : List (ℕ × ℕ) → ℕ
run_cells [] = 0
run_cells (r ∷ rs) = r.1 + run_cells rs

-- whether a texture can be cleared at all
abbrev pub clears : ClearMode → Bool
clears mode.None = false
clears mode.Copies = true
clears mode.ColourPass = true
clears mode.DepthPass = true

-- rows are aligned to 1 to 256 bytes
abbrev pub pitch_fits : ℕ → Bool
pitch_fits pitch = between 1 256 pitch

-- the runs that clear a surface, if there is such a surface and such a pitch
abbrev pub runs_in : ℕ → Shape → ℕ → ℕ → Option (List (ℕ × ℕ))
runs_in pitch s m l = cond (pitch_fits pitch && is_surface s m l) (Some (clear_runs pitch s m l)) None
