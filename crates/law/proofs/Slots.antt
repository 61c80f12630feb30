-- One slot among all: what making and destroying its resource does to counts over all cells.
use Rattle.std.proofs.Common.{◌≡◌, ℕ, zero, suc, ◌+◌, ◌<◌, ◌≤◌, Bool, true, false, cond, not, ◌&&◌, ◌||◌, eqb, sym, refl, ap, ◌∙◌, ⊎_elim, arith}
use Rattle.std.proofs.lemmas.Bool.{eq-eqb, ne_eqb, cases_lt}
use Rattle.law.specs.Ledger.{Cells, Sizes, sumBelow, count_all, slot_count, put}
use Rattle.law.proofs.Sums.{one_eq, one_none, one_ones}

-- two sums that differ at one place
swap_one : (m n : ℕ) (f g : ℕ → ℕ) → n < m → ((r : ℕ) → r < m → (r ≡ n → ⊥) → f r ≡ g r) → sumBelow m f + g n ≡ sumBelow m g + f n
unfolding sumBelow
swap_one zero n f g h e = omega arith
swap_one (suc m) n f g h e =
    ⊎_elim
    (λ lt.
    let ih = swap_one m n f g lt (λ r k d. e r (omega arith) d) in
    let here = e m (omega arith) (λ s. omega arith) in
    omega arith)
    (λ le.
    let same : m ≡ n = omega arith in
    let below = one_eq m f g (λ r k. e r (omega arith) (λ s. omega arith)) in
    let there : f m ≡ f n = ap f same in
    let then : g m ≡ g n = ap g same in
    omega arith)
    (cases_lt n m)

-- making: the slot had no cells, and all that it gets owe
made_slot : (t : Bool) (s c : ℕ) (p : ℕ → Bool) → t ≡ false → sumBelow c (λ i. cond (p i) 1 0) ≡ sumBelow (cond t s c) (λ i. cond (t || p i) 1 0)
made_slot t s c p e = sym (ap (λ u. sumBelow (cond u s c) (λ i. cond (u || p i) 1 0)) e)

made_here : (t : Bool) (s c : ℕ) (p : ℕ → Bool) → t ≡ true → sumBelow (cond t s c) (λ i. cond (t || p i) 1 0) ≡ s
made_here t s c p e = ap (λ u. sumBelow (cond u s c) (λ i. cond (u || p i) 1 0)) e ∙ one_ones s

none_there : (c : ℕ) (p : ℕ → Bool) → c ≡ 0 → sumBelow c (λ i. cond (p i) 1 0) ≡ 0
unfolding sumBelow
none_there c p e = ap (λ k. sumBelow k (λ i. cond (p i) 1 0)) e

pub made_balance : (z : Sizes) (o : Cells) (n s : ℕ) → n < slot_count → z n ≡ 0
    → count_all z o + s ≡ count_all (put n s z) (λ r i. eqb r n || o r i)
made_balance z o n s h e =
    let swap = swap_one slot_count n (λ r. sumBelow (z r) (λ i. cond (o r i) 1 0)) (λ r. sumBelow (put n s z r) (λ i. cond (eqb r n || o r i) 1 0)) h
    (λ r k d. made_slot (eqb r n) s (z r) (o r) (ne_eqb r n d)) in
    let new = made_here (eqb n n) s (z n) (o n) (eq-eqb n n refl) in
    let old = none_there (z n) (o n) e in
    omega arith

spare_slot : (t : Bool) (s c : ℕ) (p q : ℕ → Bool) → t ≡ false
    → sumBelow c (λ i. cond (p i && not (q i)) 1 0) ≡ sumBelow (cond t s c) (λ i. cond ((t || p i) && not (t || q i)) 1 0)
spare_slot t s c p q e = sym (ap (λ u. sumBelow (cond u s c) (λ i. cond ((u || p i) && not (u || q i)) 1 0)) e)

spare_here : (t : Bool) (s c : ℕ) (p q : ℕ → Bool) → t ≡ true → sumBelow (cond t s c) (λ i. cond ((t || p i) && not (t || q i)) 1 0) ≡ 0
spare_here t s c p q e = ap (λ u. sumBelow (cond u s c) (λ i. cond ((u || p i) && not (u || q i)) 1 0)) e ∙ one_none s

pub made_spare : (z : Sizes) (o q : Cells) (n s : ℕ) → n < slot_count
    → count_all (put n s z) (λ r i. (eqb r n || o r i) && not (eqb r n || q r i)) ≤ count_all z (λ r i. o r i && not (q r i))
made_spare z o q n s h =
    let swap = swap_one slot_count n (λ r. sumBelow (z r) (λ i. cond (o r i && not (q r i)) 1 0)) (λ r. sumBelow (put n s z r) (λ i. cond ((eqb r n || o r i) && not (eqb r n || q r i)) 1 0)) h
    (λ r k d. spare_slot (eqb r n) s (z r) (o r) (q r) (ne_eqb r n d)) in
    let new = spare_here (eqb n n) s (z n) (o n) (q n) (eq-eqb n n refl) in
    omega arith

-- destroying: the slot has no cells any more
gone_slot : (t : Bool) (c : ℕ) (p : ℕ → Bool) → t ≡ false → sumBelow c (λ i. cond (p i) 1 0) ≡ sumBelow (cond t 0 c) (λ i. cond (p i) 1 0)
gone_slot t c p e = sym (ap (λ u. sumBelow (cond u 0 c) (λ i. cond (p i) 1 0)) e)

gone_here : (t : Bool) (c : ℕ) (p : ℕ → Bool) → t ≡ true → sumBelow (cond t 0 c) (λ i. cond (p i) 1 0) ≡ 0
unfolding sumBelow
gone_here t c p e = ap (λ u. sumBelow (cond u 0 c) (λ i. cond (p i) 1 0)) e

pub gone_balance : (z : Sizes) (o : Cells) (n : ℕ) → n < slot_count → count_all z o ≡ sumBelow (z n) (λ i. cond (o n i) 1 0) + count_all (put n 0 z) o
gone_balance z o n h =
    let swap = swap_one slot_count n (λ r. sumBelow (z r) (λ i. cond (o r i) 1 0)) (λ r. sumBelow (put n 0 z r) (λ i. cond (o r i) 1 0)) h
    (λ r k d. gone_slot (eqb r n) (z r) (o r) (ne_eqb r n d)) in
    let new = gone_here (eqb n n) (z n) (o n) (eq-eqb n n refl) in
    omega arith

pub gone_spare : (z : Sizes) (o : Cells) (n : ℕ) → n < slot_count → count_all (put n 0 z) o ≤ count_all z o
gone_spare z o n h = let all = gone_balance z o n h in omega arith
