-- In which runs of cells a surface is cleared: copies of whole rows from a buffer of zeros, or one pass.
use Rattle.std.specs.Prelude.{ℕ, zero, suc, ◌+◌, ◌-◌, ◌*◌, ◌/◌, ◌%◌, min, Bool, cond, ◌&&◌, List, [], ◌∷◌, ◌++◌, ◌==◌}
use Rattle.texture.specs.Shapes.{Shape, block_bytes, block_height}
use Rattle.texture.specs.Cells.{across, down, slices, surface_cells, surface_first}
use Rattle.texture.specs.declared.format.ClearMode.{ClearMode}
use Rattle.texture.specs.declared.format.ClearMode.TheVariants.{None, Copies, ColourPass, DepthPass}

-- the first of the numbers from n on, at most k of them, that passes; n + k where none does
abbrev pub first_passing : (ℕ → Bool) → ℕ → ℕ → ℕ
first_passing p zero n = n
first_passing p (suc k) n = cond (p n) n (first_passing p k (suc n))

-- the least common multiple of two numbers: the least number from 1 on that both divide
abbrev pub common_multiple : ℕ → ℕ → ℕ → Bool
common_multiple a b n = n % a == 0 && n % b == 0

abbrev pub lcm : ℕ → ℕ → ℕ
lcm a b = first_passing (common_multiple a b) (a * b) 1

-- n rounded up to a multiple of k
abbrev pub aligned_to : ℕ → ℕ → ℕ
aligned_to k n = (n + (k - 1)) / k * k

-- the buffer of zeros that copies read from
abbrev pub zero_bytes : ℕ
zero_bytes = 524288

-- bytes a row: the row's blocks, aligned to the pitch and to whole blocks
abbrev pub bytes_per_row : ℕ → Shape → ℕ → ℕ
bytes_per_row pitch s m = aligned_to (lcm pitch (block_bytes s.format)) (across s m * block_bytes s.format)

-- rows of texels a copy: as many as the zeros suffice for, rounded down to whole blocks
abbrev pub rows_per_copy : ℕ → Shape → ℕ → ℕ
rows_per_copy pitch s m = zero_bytes / bytes_per_row pitch s m / block_height s.format * block_height s.format

-- the same in rows of blocks
abbrev pub block_rows_per_copy : ℕ → Shape → ℕ → ℕ
block_rows_per_copy pitch s m = rows_per_copy pitch s m / block_height s.format

-- runs of so many rows of `wide` cells from a cell on, `rows` in all, at most n of them
abbrev pub runs_down : ℕ → ℕ → ℕ → ℕ → ℕ → List (ℕ × ℕ)
runs_down zero each wide first rows = []
runs_down (suc n) each wide first rows =
    cond (rows == 0) []
    ((first, min each rows * wide) ∷ runs_down n each wide (first + min each rows * wide) (rows - min each rows))

-- each slice from the top, one slice after the other
abbrev pub slice_runs : ℕ → ℕ → ℕ → ℕ → ℕ → List (ℕ × ℕ)
slice_runs zero each wide first rows = []
slice_runs (suc n) each wide first rows =
    runs_down rows each wide first rows ++ slice_runs n each wide (first + rows * wide) rows

-- the copies of a surface, as first cell and count of each
abbrev pub copy_runs : ℕ → Shape → ℕ → ℕ → List (ℕ × ℕ)
copy_runs pitch s m l =
    slice_runs (slices s m) (block_rows_per_copy pitch s m) (across s m) (surface_first s m l) (down s m)

-- what a way of clearing makes of its copies and of its pass
abbrev pub by_mode : ClearMode → List (ℕ × ℕ) → List (ℕ × ℕ) → List (ℕ × ℕ)
by_mode None cs ps = []
by_mode Copies cs ps = cs
by_mode ColourPass cs ps = ps
by_mode DepthPass cs ps = ps

-- the runs that clear a surface, as first cell and count of each: its copies, or one pass over the whole of it
abbrev pub clear_runs : ℕ → Shape → ℕ → ℕ → List (ℕ × ℕ)
clear_runs pitch s m l = by_mode s.mode (copy_runs pitch s m l) ((surface_first s m l, surface_cells s m) ∷ [])
