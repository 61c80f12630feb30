-- Each cell of a texture lies in one surface.
use Rattle.std.proofs.Common.{◌≡◌, ℕ, zero, suc, ◌+◌, ◌-◌, ◌*◌, ◌/◌, ◌%◌, ◌<◌, ◌≤◌, true, leb, sym, refl, ap, ◌∙◌, subst, ⊎_elim, le_refl, add-zero, mul-le-mul_right, mod-lt, arith}
use Rattle.std.proofs.Math.Nat.{suc-mul}
use lib.Arith.{digits_div}
use Rattle.std.proofs.lemmas.Bool.Decides.{nat_tests}
use Rattle.std.proofs.lemmas.Bool.{le-leb, lt-leb, cases_lt, cond-true, cond-false}
use Rattle.std.proofs.lemmas.Nat.{div_below, div-add-mod'}
use Rattle.texture.specs.Shapes.{Shape, layers_of}
use Rattle.texture.specs.Cells.{surface_cells, mip_first, surface_first, cells_of, in_surface, mips_before, mip_of, layer_of}
use Rattle.texture.proofs.Sides.{surface_some}

-- mips follow each other
pub mip_first_up : (s : Shape) (m k : ℕ) → mip_first s m ≤ mip_first s (m + k)
mip_first_up s m zero = rw add-zero (le_refl (mip_first s m))
mip_first_up s m (suc k) =
    let e : m + suc k ≡ suc (m + k) = omega arith in
    rw e (omega (arith, mip_first_up s m k))

pub mip_first_mono : (s : Shape) (m n : ℕ) → m ≤ n → mip_first s m ≤ mip_first s n
mip_first_mono s m n le =
    let e : m + (n - m) ≡ n = omega arith in
    subst (λ k. mip_first s m ≤ mip_first s k) e (mip_first_up s m (n - m))

-- mips that begin at or before a cell are counted, and the others are not
pub counted_all : (s : Shape) (n i : ℕ) → mip_first s n ≤ i → mips_before s n i ≡ n
counted_all s zero i le = refl
counted_all s (suc n) i le =
    let rest : mips_before s n i ≡ n = counted_all s n i (omega (arith, mip_first_mono s n (suc n) (omega arith))) in
    rw (rest, cond-true {A = ℕ} (leb (mip_first s (suc n)) i) 1 0 (le-leb (mip_first s (suc n)) i le)) (omega arith)

pub counted_up : (s : Shape) (m k i : ℕ) → mip_first s m ≤ i → i < mip_first s (suc m) → mips_before s (m + k) i ≡ m
counted_up s m zero i le lt = rw add-zero (counted_all s m i le)
counted_up s m (suc k) i le lt =
    let e : m + suc k ≡ suc (m + k) = omega arith in
    let past : i < mip_first s (suc (m + k)) = omega (arith, mip_first_mono s (suc m) (suc (m + k)) (omega arith)) in
    rw (e, counted_up s m k i le lt, cond-false {A = ℕ} (leb (mip_first s (suc (m + k))) i) 1 0 (lt-leb (mip_first s (suc (m + k))) i past)) (add-zero m)

pub counted : (s : Shape) (m n i : ℕ) → m ≤ n → mip_first s m ≤ i → i < mip_first s (suc m) → mips_before s n i ≡ m
counted s m n i le from to =
    let e : m + (n - m) ≡ n = omega arith in
    subst (λ k. mips_before s k i ≡ m) e (counted_up s m (n - m) i from to)

-- the mip that a cell is in
pub lands_mip : (s : Shape) (n i : ℕ) → i < mip_first s n → (m : ℕ) × (m < n) × (mip_first s m ≤ i) × (i < mip_first s (suc m))
lands_mip s zero i lt = absurd (omega arith)
lands_mip s (suc n) i lt =
    ⊎_elim
    (λ (before : i < mip_first s n). let r = lands_mip s n i before in (r.0, omega (arith, r.1), r.2, r.3))
    (λ (after : mip_first s n ≤ i). (n, omega arith, after, lt))
    (cases_lt i (mip_first s n))

pub in_parts : (s : Shape) (m l i : ℕ) → in_surface s m l i ≡ true → (surface_first s m l ≤ i) × (i < surface_first s m l + surface_cells s m)
in_parts s m l i h = grind (arith, nat_tests)

pub in_from : (s : Shape) (m l i : ℕ) → surface_first s m l ≤ i → i < surface_first s m l + surface_cells s m → in_surface s m l i ≡ true
in_from s m l i from to = grind (arith, nat_tests)

-- a surface lies within its mip
pub surface_in_mip : (s : Shape) (m l : ℕ) → l < layers_of s → surface_first s m l + surface_cells s m ≤ mip_first s (suc m)
surface_in_mip s m l lt =
    let c = surface_cells s m in
    let more : suc l * c ≤ layers_of s * c = mul-le-mul_right c lt in
    let e : suc l * c ≡ l * c + c = suc-mul l c in
    omega arith

-- and within its texture
pub surface_in_cells : (s : Shape) (m l : ℕ) → m < s.mips → l < layers_of s → surface_first s m l + surface_cells s m ≤ cells_of s
surface_in_cells s m l mip layer = omega (arith, surface_in_mip s m l layer, mip_first_mono s (suc m) s.mips mip)

module _ (s : Shape) (m l i : ℕ) (mip : m < s.mips) (layer : l < layers_of s) (inside : in_surface s m l i ≡ true) where
  pub alone_mip : mip_of s i ≡ m
  alone_mip =
      let p = in_parts s m l i inside in
      counted s m s.mips i (omega arith) (omega (arith, p.0)) (omega (arith, p.1, surface_in_mip s m l layer))

  pub alone_layer : layer_of s i ≡ l
  alone_layer =
      let p = in_parts s m l i inside in
      let c = surface_cells s m in
      let r = i - surface_first s m l in
      let e : i - mip_first s m ≡ l * c + r = omega (arith, p.0) in
      let lt : r < c = omega (arith, p.0, p.1) in
      ap (λ k. (i - mip_first s k) / surface_cells s k) alone_mip ∙ ap (λ k. k / c) e ∙ digits_div l lt

  pub alone_cell : i < cells_of s
  alone_cell = omega (arith, (in_parts s m l i inside).1, surface_in_cells s m l mip layer)

module _ (s : Shape) (i : ℕ) (cell : i < cells_of s) where
  lands_at : (m : ℕ) → mip_first s m ≤ i → i < mip_first s (suc m) → ((i - mip_first s m) / surface_cells s m < layers_of s) × (in_surface s m ((i - mip_first s m) / surface_cells s m) i ≡ true)
  lands_at m from to =
      let c = surface_cells s m in
      let r = i - mip_first s m in
      let some : 0 < c = surface_some s m in
      let split : r / c * c + r % c ≡ r = div-add-mod' r c in
      let rest : r % c < c = mod-lt r some in
      (div_below r c (layers_of s) some (omega arith), in_from s m (r / c) i (omega arith) (omega arith))

  pub lands : (mip_of s i < s.mips) × (layer_of s i < layers_of s) × (in_surface s (mip_of s i) (layer_of s i) i ≡ true)
  lands =
      let r = lands_mip s s.mips i cell in
      let e : mip_of s i ≡ r.0 = counted s r.0 s.mips i (omega (arith, r.1)) r.2 r.3 in
      let at = lands_at r.0 r.2 r.3 in
      subst (λ m. (m < s.mips) × ((i - mip_first s m) / surface_cells s m < layers_of s) × (in_surface s m ((i - mip_first s m) / surface_cells s m) i ≡ true)) (sym e) (r.1, at.0, at.1)
