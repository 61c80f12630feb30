-- The least common multiple: what the definition finds is least, and it is the product over the greatest common divisor.
use Rattle.std.proofs.Common.{◌≡◌, ℕ, zero, suc, ◌+◌, ◌-◌, ◌*◌, ◌/◌, ◌%◌, ◌<◌, ◌≤◌, Bool, true, false, cond, ◌&&◌, eqb, sym, ap, ◌∙◌, subst, ⊎_elim, le_refl, mul-le-mul_right, mod-lt, mul_assoc, mul_comm, mul-le-mul_left, mul-pos, div-le_self, arith}
use Prim.Native.Nat.{◌∣◌}
use native.Mathlib.Nat.{le_of_dvd, dvd-mul_left, dvd-mul_right, dvd-sub, dvd-mul_right_of_dvd, dvd_of_mod-eq-zero, mod-eq-zero_of_dvd, div-mul_cancel, mul-div_assoc, mod_def, mul-div_cancel_left}
use Rattle.std.proofs.lemmas.Bool.{and_parts, and_from, eqb-true, eq-eqb, cases_Bool, cases_lt, cases_order, true≢false}
use Rattle.std.proofs.Math.Nat.{suc-mul, pos_of_dvd_of_pos}
use Rattle.std.specs.Int.{IsGcd}
use Rattle.texture.specs.Copies.{first_passing, common_multiple, lcm}

-- the first number that passes passes, if any of those tried does, and is no later than it
pub passes : (p : ℕ → Bool) (k n j : ℕ) → n ≤ j → j < n + k → p j ≡ true → (p (first_passing p k n) ≡ true) × (first_passing p k n ≤ j)
passes p zero n j from to pass = absurd (omega arith)
passes p (suc k) n j from to pass =
    let P : ℕ → Type 0 = λ r. (p r ≡ true) × (r ≤ j) in
    ⊎_elim
    (λ (t : p n ≡ true). subst (λ b. P (cond b n (first_passing p k (suc n)))) (sym t) (t, from))
    (λ (t : p n ≡ false).
    let next : suc n ≤ j = ⊎_elim (λ (e : n ≡ j). absurd (true≢false (sym pass ∙ ap p (sym e) ∙ t))) (λ o. ⊎_elim (λ (lt : n < j). lt) (λ (lt : j < n). omega arith) o) (cases_order n j) in
    subst (λ b. P (cond b n (first_passing p k (suc n)))) (sym t) (passes p k (suc n) j next (omega arith) pass))
    (cases_Bool (p n))

-- and is not before the first that is tried
pub from_first : (p : ℕ → Bool) (k n : ℕ) → n ≤ first_passing p k n
from_first p zero n = le_refl n
from_first p (suc k) n =
    let rest = from_first p k (suc n) in
    elim (p n) as (λ b. n ≤ cond b n (first_passing p k (suc n))) [ true ↦ le_refl n | false ↦ omega (arith, rest) ]

module _ (a b : ℕ) (a-some : 0 < a) (b-some : 0 < b) where
  common_from : (n : ℕ) → a ∣ n → b ∣ n → common_multiple a b n ≡ true
  common_from n p q =
      and_from (eqb (n % a) 0) (eqb (n % b) 0) (eq-eqb (n % a) 0 (mod-eq-zero_of_dvd a p)) (eq-eqb (n % b) 0 (mod-eq-zero_of_dvd b q))

  -- any common multiple is at least the least
  pub lcm_least : (n : ℕ) → 0 < n → n ≤ a * b → a ∣ n → b ∣ n → lcm a b ≤ n
  lcm_least n some most p q = (passes (common_multiple a b) (a * b) 1 n some (omega arith) (common_from n p q)).1

  pub lcm_some : 0 < lcm a b
  lcm_some = from_first (common_multiple a b) (a * b) 1

  pub lcm_most : lcm a b ≤ a * b
  lcm_most = lcm_least (a * b) (mul-pos a-some b-some) (le_refl (a * b)) (dvd-mul_right a b) (dvd-mul_left b a)

  common : (eqb (lcm a b % a) 0 && eqb (lcm a b % b) 0) ≡ true
  common = (passes (common_multiple a b) (a * b) 1 (a * b) (mul-pos a-some b-some) (omega arith) (common_from (a * b) (dvd-mul_right a b) (dvd-mul_left b a))).0

  pub lcm_left : lcm a b % a ≡ 0
  lcm_left = eqb-true (lcm a b % a) 0 (and_parts (eqb (lcm a b % a) 0) (eqb (lcm a b % b) 0) common).0

  pub lcm_right : lcm a b % b ≡ 0
  lcm_right = eqb-true (lcm a b % b) 0 (and_parts (eqb (lcm a b % a) 0) (eqb (lcm a b % b) 0) common).1

  a∣lcm : a ∣ lcm a b
  a∣lcm = dvd_of_mod-eq-zero a lcm_left

  b∣lcm : b ∣ lcm a b
  b∣lcm = dvd_of_mod-eq-zero b lcm_right

  -- it divides the product, since what is left over would be a smaller common multiple
  lcm∣product : lcm a b ∣ a * b
  lcm∣product =
      let L = lcm a b in
      let n = a * b in
      let r = n % L in
      let below : r < L = mod-lt n lcm_some in
      let e : r ≡ n - L * (n / L) = mod_def n L in
      let p : a ∣ r = subst (λ x. a ∣ x) (sym e) (dvd-sub a (dvd-mul_right a b) (dvd-mul_right_of_dvd a a∣lcm (n / L))) in
      let q : b ∣ r = subst (λ x. b ∣ x) (sym e) (dvd-sub b (dvd-mul_left b a) (dvd-mul_right_of_dvd b b∣lcm (n / L))) in
      ⊎_elim
      (λ (none : r < 1). dvd_of_mod-eq-zero L (omega arith))
      (λ (some : 1 ≤ r). absurd (let least = lcm_least r some (omega (arith, lcm_most)) p q in omega arith))
      (cases_lt r 1)

pub lcm_least_all : (a b n : ℕ) → 0 < a → 0 < b → 0 < n → n % a ≡ 0 → n % b ≡ 0 → lcm a b ≤ n
lcm_least_all a b n p q some da db =
    ⊎_elim
    (λ (lt : a * b < n). omega (arith, lcm_most a b p q))
    (λ (le : n ≤ a * b). lcm_least a b p q n some le (dvd_of_mod-eq-zero a da) (dvd_of_mod-eq-zero b db))
    (cases_lt (a * b) n)

-- what a number's multiple is a multiple of, a factor taken away
cofactor : (a b L e : ℕ) → 0 < a → a ∣ L → L * e ≡ a * b → e ∣ b
cofactor a b L e some d h =
    let p = L / a in
    let l : p * a ≡ L = div-mul_cancel a d in
    let ab : a * (p * e) ≡ a * b = sym (mul_assoc a p e) ∙ ap (λ x. x * e) (mul_comm a p ∙ l) ∙ h in
    let pe : p * e ≡ b = sym (mul-div_cancel_left (p * e) some) ∙ ap (λ x. x / a) ab ∙ mul-div_cancel_left b some in
    subst (λ x. e ∣ x) pe (dvd-mul_left e p)

-- the product over the greatest common divisor is the least common multiple
pub lcm_over : (a b g : ℕ) → 0 < a → 0 < b → IsGcd a b g → lcm a b ≡ a * b / g
lcm_over a b g a-some b-some d =
    let L = lcm a b in
    let e = a * b / L in
    let M = a * b / g in
    let g∣a = d.0 in
    let g∣b = d.1 in
    let ab-some : 0 < a * b = mul-pos a-some b-some in
    let Le : L * e ≡ a * b = mul_comm L e ∙ div-mul_cancel L (lcm∣product a b a-some b-some) in
    let e∣b : e ∣ b = cofactor a b L e a-some (a∣lcm a b a-some b-some) Le in
    let e∣a : e ∣ a = cofactor b a L e b-some (b∣lcm a b a-some b-some) (Le ∙ mul_comm a b) in
    let e≤g : e ≤ g = le_of_dvd (pos_of_dvd_of_pos g∣a a-some) (d.2 e e∣a e∣b) in
    let Mg : M * g ≡ a * b = div-mul_cancel g (dvd-mul_right_of_dvd g g∣a b) in
    let Ma : M ≡ a * (b / g) = mul-div_assoc g a g∣b in
    let Mb : M ≡ b * (a / g) = ap (λ x. x / g) (mul_comm a b) ∙ mul-div_assoc g b g∣a in
    let M-some : 0 < M = ⊎_elim (λ (none : M < 1). let z : M ≡ 0 = omega arith in let zz : 0 * g ≡ a * b = subst (λ x. x * g ≡ a * b) z Mg in absurd (omega arith)) (λ (some : 1 ≤ M). some) (cases_lt M 1) in
    let low : L ≤ M = lcm_least a b a-some b-some M M-some (div-le_self (a * b) g) (subst (λ x. a ∣ x) (sym Ma) (dvd-mul_right a (b / g))) (subst (λ x. b ∣ x) (sym Mb) (dvd-mul_right b (a / g))) in
    let wide : M * g ≤ L * g = subst (λ x. x ≤ L * g) (Le ∙ sym Mg) (mul-le-mul_left L e≤g) in
    let high : M ≤ L = ⊎_elim (λ (lt : L < M). let more : suc L * g ≤ M * g = mul-le-mul_right g lt in absurd (let s : suc L * g ≡ L * g + g = suc-mul L g in omega arith)) (λ (le : M ≤ L). le) (cases_lt L M) in
    omega arith
