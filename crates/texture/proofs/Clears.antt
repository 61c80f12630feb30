-- The runs that clear a surface are exactly its cells.
use Rattle.std.proofs.Common.{◌≡◌, ℕ, ◌+◌, true, List, [], ◌∷◌, refl, arith}
use Rattle.std.proofs.lemmas.Bool.{false≢true}
use Rattle.texture.specs.Shapes.{Shape, proper}
use Rattle.texture.specs.Cells.{across, down, slices, surface_first, surface_cells, in_surface}
use Rattle.texture.specs.Copies.{block_rows_per_copy, copy_runs, by_mode, clear_runs}
use Rattle.texture.specs.Runs.{Consecutive, in_runs, run_cells, clears, pitch_fits}
use Rattle.texture.specs.declared.format.ClearMode.{ClearMode}
use Rattle.texture.specs.declared.format.ClearMode.TheVariants.{None, Copies, ColourPass, DepthPass}
use Rattle.texture.proofs.Sides.{across_some, surface_some}
use Rattle.texture.proofs.Rows.{rows_some}
use Rattle.texture.proofs.Follow.{slices_follow, follow_in, follow_total}

by_mode_lem : (c : ClearMode) (a b : ℕ) (cs ps : List (ℕ × ℕ)) → clears c ≡ true → Consecutive a b cs → Consecutive a b ps → Consecutive a b (by_mode c cs ps)
by_mode_lem None a b cs ps h p q = absurd (false≢true h)
by_mode_lem Copies a b cs ps h p q = p
by_mode_lem ColourPass a b cs ps h p q = q
by_mode_lem DepthPass a b cs ps h p q = q

module _ (pitch : ℕ) (s : Shape) (m l : ℕ) (h : proper s ≡ true) (fits : pitch_fits pitch ≡ true) where
  pub copies_follow : Consecutive (surface_first s m l) (surface_first s m l + surface_cells s m) (copy_runs pitch s m l)
  copies_follow = slices_follow (block_rows_per_copy pitch s m) (across s m) (rows_some pitch s m fits h) (across_some s m) (slices s m) (surface_first s m l) (down s m)

  module _ (cleared : clears s.mode ≡ true) where
    pub clears_follow : Consecutive (surface_first s m l) (surface_first s m l + surface_cells s m) (clear_runs pitch s m l)
    clears_follow =
        let a = surface_first s m l in
        let n = surface_cells s m in
        by_mode_lem s.mode a (a + n) (copy_runs pitch s m l) ((a, n) ∷ []) cleared copies_follow (refl, surface_some s m, refl)

    pub clears_cover : (i : ℕ) → in_runs i (clear_runs pitch s m l) ≡ in_surface s m l i
    clears_cover i = follow_in (surface_first s m l) (surface_first s m l + surface_cells s m) i (clear_runs pitch s m l) clears_follow

    pub clears_total : run_cells (clear_runs pitch s m l) ≡ surface_cells s m
    clears_total = omega (arith, follow_total (surface_first s m l) (surface_first s m l + surface_cells s m) (clear_runs pitch s m l) clears_follow)
