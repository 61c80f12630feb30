-- Sums over ranges of cells: none, one more, two parts, equal cells, and cells that are all alike.
use Rattle.std.proofs.Common.{List, ◌∷◌, take, drop, length, get_or, sum, ◌≡◌, ℕ, zero, suc, ◌+◌, ◌-◌, ◌*◌, ◌<◌, ◌≤◌, sym, refl, ap, ◌∙◌, mul-le-mul_right, mul-zero, mul-suc, arith}
use Rattle.std.proofs.Math.Seq.{drop-cons}
use Rattle.std.proofs.lemmas.List.Sums.{sum_by-cons}
use Rattle.device.specs.Meaning.{summed}

-- no cells sum to nothing
pub summed_none : (f : ℕ → ℕ) (a : ℕ) → summed f a 0 ≡ 0
unfolding summed
summed_none f a = refl

-- the same, at a count that is 0
pub summed_empty : (f : ℕ → ℕ) (a n : ℕ) → n ≡ 0 → 0 ≡ summed f a n
summed_empty f a n e = sym (ap (summed f a) e ∙ summed_none f a)

-- the first cell, and the others
pub summed_suc : (f : ℕ → ℕ) (a n : ℕ) → summed f a (suc n) ≡ f a + summed f (a + 1) n
unfolding summed
summed_suc f a n = refl

-- the same count from the same cell, where the functions agree there
pub summed_same : (f g : ℕ → ℕ) (a n : ℕ) → ((i : ℕ) → a ≤ i → i < a + n → f i ≡ g i) → summed f a n ≡ summed g a n
summed_same f g a zero h = summed_none f a ∙ sym (summed_none g a)
summed_same f g a (suc n) h =
    let here : f a ≡ g a = h a (omega arith) (omega arith) in
    let rest : summed f (a + 1) n ≡ summed g (a + 1) n = summed_same f g (a + 1) n (λ i l u. h i (omega arith) (omega arith)) in
    omega (arith, summed_suc f a n, summed_suc g a n)

-- a sum in two parts
pub summed_split : (f : ℕ → ℕ) (a m n : ℕ) → summed f a (m + n) ≡ summed f a m + summed f (a + m) n
summed_split f a zero n =
    let e : zero + n ≡ n = omega arith in
    let z : a + zero ≡ a = omega arith in
    let s : summed f a (zero + n) ≡ summed f a n = ap (summed f a) e in
    let t : summed f (a + zero) n ≡ summed f a n = ap (λ (x : ℕ). summed f x n) z in
    omega (arith, summed_none f a)
summed_split f a (suc m) n =
    let e : suc m + n ≡ suc (m + n) = omega arith in
    let z : a + suc m ≡ a + 1 + m = omega arith in
    let s : summed f a (suc m + n) ≡ summed f a (suc (m + n)) = ap (summed f a) e in
    let t : summed f (a + suc m) n ≡ summed f (a + 1 + m) n = ap (λ (x : ℕ). summed f x n) z in
    omega (arith, summed_suc f a (m + n), summed_suc f a m, summed_split f (a + 1) m n)

-- cells that all hold one value sum to that value, count times
pub summed_alike : (f : ℕ → ℕ) (v a n : ℕ) → ((i : ℕ) → a ≤ i → i < a + n → f i ≡ v) → summed f a n ≡ v * n
summed_alike f v a zero h = summed_none f a ∙ sym (mul-zero v)
summed_alike f v a (suc n) h =
    let here : f a ≡ v = h a (omega arith) (omega arith) in
    let rest : summed f (a + 1) n ≡ v * n = summed_alike f v (a + 1) n (λ i l u. h i (omega arith) (omega arith)) in
    let m : v * suc n ≡ v * n + v = mul-suc v n in
    omega (arith, summed_suc f a n)

-- a sum so far, and after it a part whose cells hold what its first holds
pub summed_more :
    (f : ℕ → ℕ) (first at next v s : ℕ)
    → first ≤ at
    → at ≤ next
    → s ≡ summed f first (at - first)
    → v ≡ f at
    → ((i : ℕ) → at ≤ i → i < next → f i ≡ f at)
    → s + v * (next - at) ≡ summed f first (next - first)
summed_more f first at next v s le up so is alike =
    let n : next - first ≡ (at - first) + (next - at) = omega arith in
    let z : first + (at - first) ≡ at = omega arith in
    let whole : summed f first (next - first) ≡ summed f first ((at - first) + (next - at)) = ap (summed f first) n in
    let part : summed f (first + (at - first)) (next - at) ≡ summed f at (next - at) = ap (λ (x : ℕ). summed f x (next - at)) z in
    let flat : summed f at (next - at) ≡ v * (next - at) = summed_alike f v at (next - at) (λ i l u. alike i l (omega arith) ∙ sym is) in
    omega (arith, summed_split f first (at - first) (next - at))

-- a byte's product is at most 255 times the count
pub byte_product : (v n : ℕ) → v ≤ 255 → v * n ≤ 255 * n
byte_product v n h = mul-le-mul_right n h

-- the bytes of a part of a row sum to the sum of its cells
pub sum_part : (xs : List ℕ) (a n : ℕ) → a + n ≤ length xs → sum (take n (drop a xs)) ≡ summed (λ i. get_or xs i 0) a n
sum_part xs a zero h = sym (summed_none (λ i. get_or xs i 0) a)
sum_part xs a (suc n) h =
    let f : ℕ → ℕ = λ i. get_or xs i 0 in
    let next : suc a ≡ a + 1 = omega arith in
    let parts : drop a xs ≡ f a ∷ drop (a + 1) xs = drop-cons xs a 0 (omega arith) ∙ ap (λ (k : ℕ). f a ∷ drop k xs) next in
    let more : sum (take (suc n) (drop a xs)) ≡ f a + sum (take n (drop (a + 1) xs)) = ap (λ (ys : List ℕ). sum (take (suc n) ys)) parts ∙ sum_by-cons (λ x. x) (f a) (take n (drop (a + 1) xs)) in
    let rest : sum (take n (drop (a + 1) xs)) ≡ summed f (a + 1) n = sum_part xs (a + 1) n (omega arith) in
    more ∙ ap (λ (m : ℕ). f a + m) rest ∙ sym (summed_suc f a n)
