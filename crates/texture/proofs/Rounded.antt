-- The library's roundings up, as the definitions write them.
use Rattle.std.proofs.Common.{◌≡◌, ℕ, ◌+◌, ◌-◌, ◌*◌, ◌/◌, ◌%◌, ◌<◌, ◌≤◌, ap, ◌∙◌, sym, arith}
use Rattle.std.proofs.Math.Nat.{suc-mul}
use native.Mathlib.Nat.{div-eq_of_lt-le, div-mul_cancel}
use Rattle.std.proofs.lemmas.Grind.{div_ceil_times}
use Rattle.std.proofs.lemmas.Nat.Gcd.{dvd_of_mod-eq-zero}
use Rattle.std.specs.Int.{div_ceil}
use Rattle.texture.specs.Cells.{blocks}
use Rattle.texture.specs.Copies.{aligned_to}

-- the quotient of what is at most k - 1 above a multiple of k
quotient : (n k q : ℕ) → 0 < k → n ≤ q * k → q * k < n + k → (n + (k - 1)) / k ≡ q
quotient n k q some low high =
    div-eq_of_lt-le {k = q} k (omega arith) (omega (arith, suc-mul q k))

pub div_ceil-blocks : (n k : ℕ) → 0 < k → div_ceil n k ≡ blocks n k
div_ceil-blocks n k some =
    let p = div_ceil_times n k some in
    sym (quotient n k (div_ceil n k) some p.0 p.1)

-- the least multiple of k that is n or more
pub multiple_aligned : (n k r : ℕ) → 0 < k → n ≤ r → r < n + k → r % k ≡ 0 → r ≡ aligned_to k n
multiple_aligned n k r some low high whole =
    let e : r / k * k ≡ r = div-mul_cancel k (dvd_of_mod-eq-zero k whole) in
    sym (ap (λ q. q * k) (quotient n k (r / k) some (omega arith) (omega arith)) ∙ e)
