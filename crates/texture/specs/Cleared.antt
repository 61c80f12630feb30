-- What the definitions of copies and runs mean, and their values at some textures.
use Rattle.std.specs.Prelude.{◌≡◌, ℕ, ◌+◌, ◌*◌, ◌%◌, ◌<◌, ◌≤◌, true, length}
use Rattle.texture.specs.Shapes.{Shape, block_bytes, proper}
use Rattle.texture.specs.Cells.{across, surface_first, surface_cells, in_surface}
use Rattle.texture.specs.Copies.{lcm, zero_bytes, bytes_per_row, rows_per_copy, block_rows_per_copy, copy_runs, clear_runs}
use Rattle.texture.specs.Runs.{Consecutive, in_runs, run_cells, clears, pitch_fits}
use Rattle.texture.specs.declared.format.Format.TheVariants.{Rgba8Unorm}
use Rattle.texture.specs.declared.format.Dimension.TheVariants.{D2}
use Rattle.texture.specs.declared.format.ClearMode.TheVariants.{Copies}

pub record ClearLaws : Type 0 where
  -- the alignment is a multiple of both numbers, and no other is less
  pub left : (a b : ℕ) → 0 < a → 0 < b → lcm a b % a ≡ 0
  pub right : (a b : ℕ) → 0 < a → 0 < b → lcm a b % b ≡ 0
  pub least : (a b n : ℕ) → 0 < a → 0 < b → 0 < n → n % a ≡ 0 → n % b ≡ 0 → lcm a b ≤ n
  -- a row of bytes holds the row's blocks
  pub holds : (s : Shape) (pitch m : ℕ) → pitch_fits pitch ≡ true → across s m * block_bytes s.format ≤ bytes_per_row pitch s m
  -- a copy has at least one row of blocks
  pub some : (s : Shape) (pitch m : ℕ) → proper s ≡ true → pitch_fits pitch ≡ true → 1 ≤ block_rows_per_copy pitch s m
  -- and the zeros suffice for its rows
  pub enough : (s : Shape) (pitch m : ℕ) → rows_per_copy pitch s m * bytes_per_row pitch s m ≤ zero_bytes
  -- the runs of a surface are non-empty and follow each other from its first cell to its last
  pub consecutive : (s : Shape) (pitch m l : ℕ) → proper s ≡ true → clears s.mode ≡ true → pitch_fits pitch ≡ true → Consecutive (surface_first s m l) (surface_first s m l + surface_cells s m) (clear_runs pitch s m l)
  -- so they are exactly the surface's cells
  pub covers : (s : Shape) (pitch m l i : ℕ) → proper s ≡ true → clears s.mode ≡ true → pitch_fits pitch ≡ true → in_runs i (clear_runs pitch s m l) ≡ in_surface s m l i
  -- each once
  pub total : (s : Shape) (pitch m l : ℕ) → proper s ≡ true → clears s.mode ≡ true → pitch_fits pitch ≡ true → run_cells (clear_runs pitch s m l) ≡ surface_cells s m

-- a sheet of 300 by 5,000 texels, cleared by copies
abbrev pub sheet : Shape
sheet = record { dimension = D2; format = Rgba8Unorm; mode = Copies; width = 300; height = 5000; count = 1; mips = 1 }

pub record ClearTrials : Type 0 where
  -- the sheet's bytes a row, rows a copy, and copies
  pub bytes : bytes_per_row 256 sheet 0 ≡ 1280
  pub rows : rows_per_copy 256 sheet 0 ≡ 409
  pub copies : length (copy_runs 256 sheet 0 0) ≡ 13
  -- blocks of 16 bytes at some pitches
  pub odd : lcm 1 16 ≡ 16
  pub part : lcm 24 16 ≡ 48
  pub prime : lcm 255 16 ≡ 4080
  pub whole : lcm 256 16 ≡ 256
