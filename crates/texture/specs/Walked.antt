-- A walk as the runs that are still to come.
use Rattle.std.specs.Prelude.{ℕ, ◌+◌, ◌*◌, List, ◌++◌, Some, None, Option}
use Rattle.texture.specs.Copies.{runs_down, slice_runs}
use Rattle.texture.specs.declared.walk.Run.{Run}
use Rattle.texture.specs.declared.walk.SurfaceRuns.{SurfaceRuns}

-- a run as first cell and count
abbrev pub cells_of_run : Run → ℕ × ℕ
cells_of_run r = (r.first, r.count)

-- the runs that are left: down this slice, then of the slices after it
abbrev pub runs_left : SurfaceRuns → List (ℕ × ℕ)
runs_left w =
    runs_down w.left w.each w.wide w.first w.left
    ++ slice_runs w.slices w.each w.wide (w.first + w.left * w.wide) w.rows

-- what was found, as its runs
abbrev pub runs_found : Option SurfaceRuns → Option (List (ℕ × ℕ))
runs_found (Some w) = Some (runs_left w)
runs_found None = None
