-- Runs down a slice and over slices: what the next one is, how many there are, and that they follow each other.
use Rattle.std.proofs.Common.{◌≡◌, ℕ, zero, suc, ◌+◌, ◌-◌, ◌*◌, ◌/◌, ◌<◌, ◌≤◌, min, cond, eqb, [], ◌∷◌, length, sym, refl, ap, ◌∙◌, ap₂, ⊎_elim, zero-mul, arith, length-append}
use Rattle.std.proofs.Math.Nat.{suc-mul}
use native.Mathlib.Nat.{min-eq_left, min-eq_right, div-eq_of_lt, div-eq_of_lt-le, add-div_right}
use lib.Dec.{eqb-suc-zero}
use Rattle.std.proofs.lemmas.Bool.{cases_lt}
use Rattle.texture.specs.Copies.{runs_down, slice_runs}

pub no_rows : (n each wide first : ℕ) → runs_down n each wide first 0 ≡ []
no_rows zero each wide first = refl
no_rows (suc n) each wide first = refl

-- a run takes a row at least
pub takes_some : (each rows : ℕ) → 1 ≤ each → 1 ≤ rows → 1 ≤ min each rows
takes_some each rows e r =
    ⊎_elim
    (λ (lt : each < rows). rw (min-eq_left {n = each} {m = rows} (omega arith)) e)
    (λ (le : rows ≤ each). rw (min-eq_right {n = rows} {m = each} le) r)
    (cases_lt each rows)

module _ (each wide : ℕ) (some : 1 ≤ each) where
  -- as many turns as there are rows are enough, and more change nothing
  pub turns_same : (n k first rows : ℕ) → rows ≤ n → rows ≤ k → runs_down n each wide first rows ≡ runs_down k each wide first rows
  turns_same n k first zero p q = no_rows n each wide first ∙ sym (no_rows k each wide first)
  turns_same zero k first (suc r) p q = absurd (omega arith)
  turns_same (suc n) zero first (suc r) p q = absurd (omega arith)
  turns_same (suc n) (suc k) first (suc r) p q =
      let t = min each (suc r) in
      let taken : 1 ≤ t = takes_some each (suc r) some (omega arith) in
      ap (λ rs. cond (eqb (suc r) 0) [] ((first, t * wide) ∷ rs)) (turns_same n k (first + t * wide) (suc r - t) (omega arith) (omega arith))

  -- the first run down a slice, and those after it
  pub runs_next : (first rows : ℕ) → 1 ≤ rows → runs_down rows each wide first rows ≡ (first, min each rows * wide) ∷ runs_down (rows - min each rows) each wide (first + min each rows * wide) (rows - min each rows)
  runs_next first zero h = absurd (omega arith)
  runs_next first (suc r) h =
      let t = min each (suc r) in
      let taken : 1 ≤ t = takes_some each (suc r) some h in
      ap (λ b. cond b [] ((first, t * wide) ∷ runs_down r each wide (first + t * wide) (suc r - t))) (eqb-suc-zero r)
      ∙ ap (λ rs. (first, t * wide) ∷ rs) (turns_same r (suc r - t) (first + t * wide) (suc r - t) (omega arith) (omega arith))

  -- how many there are: the rows in parts of so many, rounded up
  pub runs_count : (n first rows : ℕ) → rows ≤ n → length (runs_down n each wide first rows) ≡ (rows + (each - 1)) / each
  runs_count n first zero h = ap length (no_rows n each wide first) ∙ sym (div-eq_of_lt {n = 0 + (each - 1)} {m = each} (omega arith))
  runs_count zero first (suc r) h = absurd (omega arith)
  runs_count (suc n) first (suc r) h =
      let t = min each (suc r) in
      let taken : 1 ≤ t = takes_some each (suc r) some (omega arith) in
      let rest = runs_count n (first + t * wide) (suc r - t) (omega arith) in
      ap (λ b. length (cond b [] ((first, t * wide) ∷ runs_down n each wide (first + t * wide) (suc r - t)))) (eqb-suc-zero r)
      ∙ ap suc rest
      ∙ ⊎_elim
      (λ (lt : each < suc r).
      let e : t ≡ each = min-eq_left (omega arith) in
      let sum : suc r + (each - 1) ≡ (suc r - t + (each - 1)) + each = omega arith in
      sym (ap (λ x. x / each) sum ∙ add-div_right (suc r - t + (each - 1)) some ∙ omega arith))
      (λ (le : suc r ≤ each).
      let e : t ≡ suc r = min-eq_right le in
      let none : suc r - t + (each - 1) ≡ each - 1 = omega arith in
      let zeroth : (each - 1) / each ≡ 0 = div-eq_of_lt (omega arith) in
      let one : (suc r + (each - 1)) / each ≡ 1 = div-eq_of_lt-le {k = 1} each (omega arith) (omega arith) in
      ap suc (ap (λ x. x / each) none ∙ zeroth) ∙ sym one)
      (cases_lt each (suc r))

  pub slices_count : (n first rows : ℕ) → length (slice_runs n each wide first rows) ≡ n * ((rows + (each - 1)) / each)
  slices_count zero first rows = sym (zero-mul ((rows + (each - 1)) / each))
  slices_count (suc n) first rows =
      let q = (rows + (each - 1)) / each in
      let one = runs_count rows first rows (omega arith) in
      let more = slices_count n (first + rows * wide) rows in
      let e : suc n * q ≡ n * q + q = suc-mul n q in
      length-append (runs_down rows each wide first rows) (slice_runs n each wide (first + rows * wide) rows) ∙ ap₂ ◌+◌ one more ∙ omega arith
