-- Runs that follow each other: they are every cell from the first to the end, each once.
use Rattle.std.proofs.Common.{◌≡◌, ℕ, zero, suc, ◌+◌, ◌-◌, ◌*◌, ◌≤◌, min, cond, ◌&&◌, ◌||◌, ltb, leb, List, [], ◌∷◌, ◌++◌, sym, refl, ap, ◌∙◌, subst, le_refl, add-mul, mul-pos, zero-mul, arith}
use Rattle.std.proofs.Math.Nat.{suc-mul}
use native.Mathlib.Nat.{min-le_right}
use lib.Dec.{eqb-suc-zero}
use Rattle.std.proofs.lemmas.Bool.Decides.{nat_tests}
use Rattle.texture.specs.Copies.{runs_down, slice_runs}
use Rattle.texture.specs.Runs.{Consecutive, in_runs, run_cells}
use Rattle.texture.proofs.Walks.{no_rows, takes_some}

pub follow_join : (a b c : ℕ) (rs ss : List (ℕ × ℕ)) → Consecutive a b rs → Consecutive b c ss → Consecutive a c (rs ++ ss)
follow_join a b c [] ss e k = subst (λ x. Consecutive x c ss) (sym e) k
follow_join a b c (r ∷ rs) ss h k = (h.0, h.1, follow_join (a + r.1) b c rs ss h.2 k)

pub follow_up : (a b : ℕ) (rs : List (ℕ × ℕ)) → Consecutive a b rs → a ≤ b
follow_up a b [] e = omega arith
follow_up a b (r ∷ rs) h = omega (arith, follow_up (a + r.1) b rs h.2)

-- a cell is in some of them exactly if it is from the first up to the end
pub follow_in : (a b i : ℕ) (rs : List (ℕ × ℕ)) → Consecutive a b rs → in_runs i rs ≡ (leb a i && ltb i b)
follow_in a b i [] e = grind (arith, nat_tests)
follow_in a b i (r ∷ rs) h =
    let rest = follow_in (a + r.1) b i rs h.2 in
    let up = follow_up (a + r.1) b rs h.2 in
    let start = h.0 in
    ap (λ x. (leb r.0 i && ltb i (r.0 + r.1)) || x) rest ∙ grind (arith, nat_tests)

-- their counts add up to the way from the first to the end
pub follow_total : (a b : ℕ) (rs : List (ℕ × ℕ)) → Consecutive a b rs → a + run_cells rs ≡ b
follow_total a b [] e = omega arith
follow_total a b (r ∷ rs) h = omega (arith, follow_total (a + r.1) b rs h.2)

-- rows taken and rows left are all rows
pub rows_split : (t rows wide : ℕ) → t ≤ rows → t * wide + (rows - t) * wide ≡ rows * wide
rows_split t rows wide le =
    let e : t + (rows - t) ≡ rows = omega arith in
    sym (add-mul t (rows - t) wide) ∙ ap (λ x. x * wide) e

module _ (each wide : ℕ) (some : 1 ≤ each) (cells : 1 ≤ wide) where
  pub down_follow : (n first rows : ℕ) → rows ≤ n → Consecutive first (first + rows * wide) (runs_down n each wide first rows)
  down_follow n first zero h =
      let e : first ≡ first + 0 * wide = omega (arith, zero-mul wide) in
      subst (λ rs. Consecutive first (first + 0 * wide) rs) (sym (no_rows n each wide first)) e
  down_follow zero first (suc r) h = absurd (omega arith)
  down_follow (suc n) first (suc r) h =
      let t = min each (suc r) in
      let taken : 1 ≤ t = takes_some each (suc r) some (omega arith) in
      let few : t ≤ suc r = min-le_right each (suc r) in
      let e : first + t * wide + (suc r - t) * wide ≡ first + suc r * wide = omega (arith, rows_split t (suc r) wide few) in
      let rest : Consecutive (first + t * wide) (first + suc r * wide) (runs_down n each wide (first + t * wide) (suc r - t)) =
      subst (λ x. Consecutive (first + t * wide) x (runs_down n each wide (first + t * wide) (suc r - t))) e (down_follow n (first + t * wide) (suc r - t) (omega arith))
      in
      subst (λ b. Consecutive first (first + suc r * wide) (cond b [] ((first, t * wide) ∷ runs_down n each wide (first + t * wide) (suc r - t)))) (sym (eqb-suc-zero r)) (refl, mul-pos taken cells, rest)

  pub slices_follow : (n first rows : ℕ) → Consecutive first (first + n * (rows * wide)) (slice_runs n each wide first rows)
  slices_follow zero first rows = omega (arith, zero-mul (rows * wide))
  slices_follow (suc n) first rows =
      let q = rows * wide in
      let e : first + q + n * q ≡ first + suc n * q = omega (arith, suc-mul n q) in
      follow_join first (first + q) (first + suc n * q) (runs_down rows each wide first rows) (slice_runs n each wide (first + q) rows)
      (down_follow rows first rows (le_refl rows))
      (subst (λ x. Consecutive (first + q) x (slice_runs n each wide (first + q) rows)) e (slices_follow n (first + q) rows))
