-- What a proper shape keeps to, limit by limit.
use Rattle.std.proofs.Common.{◌≡◌, ◌-◌, ◌*◌, ◌/◌, ◌%◌, ◌^◌, ◌<◌, ◌≤◌, true, false, cond, ◌||◌, ⊎_elim, lt_of_lt_of_le, arith, pow_mono}
use native.Mathlib.Nat.{div-eq_of_lt, max-le}
use Rattle.std.proofs.lemmas.Bool.Decides.{nat_tests}
use Rattle.std.proofs.lemmas.Bool.{cases_lt}
use Rattle.texture.specs.Shapes.{Shape, block_width, block_height, suits, flat, flat_mode, flat_format, layers_of, depth_of, largest, proper}

module _ (s : Shape) (h : proper s ≡ true) where
  pub width_kept : (1 ≤ s.width) × (s.width ≤ 16384)
  width_kept = grind (arith, nat_tests)

  pub height_kept : (1 ≤ s.height) × (s.height ≤ 16384)
  height_kept = grind (arith, nat_tests)

  pub count_kept : (1 ≤ s.count) × (s.count ≤ 64)
  count_kept = grind (arith, nat_tests)

  pub mode_kept : suits s.mode s.format ≡ true
  mode_kept = grind (arith, nat_tests)

  pub dimension_kept : (flat s.dimension || cond (flat_mode s.mode) false (cond (flat_format s.format) false true)) ≡ true
  dimension_kept = grind (arith, nat_tests)

  pub width_whole : s.width % block_width s.format ≡ 0
  width_whole = grind (arith, nat_tests)

  pub height_whole : s.height % block_height s.format ≡ 0
  height_whole = grind (arith, nat_tests)

  halved : (1 ≤ s.mips) × (1 ≤ largest s / 2 ^ (s.mips - 1))
  halved = grind (arith, nat_tests)

  pub layers_kept : (1 ≤ layers_of s) × (layers_of s ≤ 64)
  layers_kept =
      let k = count_kept in
      elim (flat s.dimension) as (λ b. (1 ≤ cond b s.count 1) × (cond b s.count 1 ≤ 64)) [ true ↦ k | false ↦ (omega arith, omega arith) ]

  pub depth_kept : (1 ≤ depth_of s) × (depth_of s ≤ 64)
  depth_kept =
      let k = count_kept in
      elim (flat s.dimension) as (λ b. (1 ≤ cond b 1 s.count) × (cond b 1 s.count ≤ 64)) [ true ↦ (omega arith, omega arith) | false ↦ k ]

  -- one of the two is 1
  pub layers_depth : layers_of s * depth_of s ≤ 64
  layers_depth =
      let k = count_kept in
      elim (flat s.dimension) as (λ b. cond b s.count 1 * cond b 1 s.count ≤ 64) [ true ↦ omega (arith, k.1) | false ↦ omega (arith, k.1) ]

  pub largest_kept : largest s ≤ 16384
  largest_kept = max-le (max-le width_kept.1 height_kept.1) (omega (arith, depth_kept.1))

  pub mips_kept : (1 ≤ s.mips) × (s.mips ≤ 15)
  mips_kept =
      let some = halved.1 in (
        halved.0,
        ⊎_elim
            (λ (lt : s.mips < 16). omega arith)
            (λ (le : 16 ≤ s.mips).
            let k : 15 ≤ s.mips - 1 = omega arith in
            let small : largest s < 2 ^ 15 = omega (arith, largest_kept) in
            let none : largest s / 2 ^ (s.mips - 1) ≡ 0 = div-eq_of_lt (lt_of_lt_of_le small (pow_mono {i = 15} {j = s.mips - 1} k)) in
            omega arith)
            (cases_lt s.mips 16),
      )
