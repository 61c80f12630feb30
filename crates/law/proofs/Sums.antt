-- Sums over the numbers below n, and over all cells, compared cell by cell.
use Rattle.std.proofs.Common.{◌≡◌, ℕ, zero, suc, ◌+◌, ◌<◌, ◌≤◌, refl, ◌∙◌, arith}
use Rattle.law.specs.Ledger.{Sizes, Each, sumBelow, sum_all, slot_count}

pub one_eq : (n : ℕ) (f g : ℕ → ℕ) → ((i : ℕ) → i < n → f i ≡ g i) → sumBelow n f ≡ sumBelow n g
unfolding sumBelow
one_eq zero f g e = refl
one_eq (suc n) f g e =
    let ih : sumBelow n f ≡ sumBelow n g = one_eq n f g (λ i h. e i (omega arith)) in
    let here : f n ≡ g n = e n (omega arith) in
    omega arith

pub one_two : (n : ℕ) (f g h : ℕ → ℕ) → ((i : ℕ) → i < n → f i ≡ g i + h i) → sumBelow n f ≡ sumBelow n g + sumBelow n h
unfolding sumBelow
one_two zero f g h e = refl
one_two (suc n) f g h e =
    let ih : sumBelow n f ≡ sumBelow n g + sumBelow n h = one_two n f g h (λ i k. e i (omega arith)) in
    let here : f n ≡ g n + h n = e n (omega arith) in
    omega arith

pub one_five : (n : ℕ) (a b p q r : ℕ → ℕ) → ((i : ℕ) → i < n → a i + b i ≡ p i + q i + r i)
    → sumBelow n a + sumBelow n b ≡ sumBelow n p + sumBelow n q + sumBelow n r
unfolding sumBelow
one_five zero a b p q r e = refl
one_five (suc n) a b p q r e =
    let ih : sumBelow n a + sumBelow n b ≡ sumBelow n p + sumBelow n q + sumBelow n r = one_five n a b p q r (λ i k. e i (omega arith)) in
    let here : a n + b n ≡ p n + q n + r n = e n (omega arith) in
    omega arith

pub one_under : (n : ℕ) (p q a b : ℕ → ℕ) → ((i : ℕ) → i < n → p i + q i ≤ a i + b i)
    → sumBelow n p + sumBelow n q ≤ sumBelow n a + sumBelow n b
unfolding sumBelow
one_under zero p q a b e = omega arith
one_under (suc n) p q a b e =
    let ih : sumBelow n p + sumBelow n q ≤ sumBelow n a + sumBelow n b = one_under n p q a b (λ i k. e i (omega arith)) in
    let here : p n + q n ≤ a n + b n = e n (omega arith) in
    omega arith

pub one_six : (n : ℕ) (p q r a b c : ℕ → ℕ) → ((i : ℕ) → i < n → p i + q i + r i ≤ a i + b i + c i)
    → sumBelow n p + sumBelow n q + sumBelow n r ≤ sumBelow n a + sumBelow n b + sumBelow n c
unfolding sumBelow
one_six zero p q r a b c e = omega arith
one_six (suc n) p q r a b c e =
    let ih : sumBelow n p + sumBelow n q + sumBelow n r ≤ sumBelow n a + sumBelow n b + sumBelow n c = one_six n p q r a b c (λ i k. e i (omega arith)) in
    let here : p n + q n + r n ≤ a n + b n + c n = e n (omega arith) in
    omega arith

pub one_le : (n : ℕ) (f g : ℕ → ℕ) → ((i : ℕ) → i < n → f i ≤ g i) → sumBelow n f ≤ sumBelow n g
unfolding sumBelow
one_le zero f g e = omega arith
one_le (suc n) f g e =
    let ih : sumBelow n f ≤ sumBelow n g = one_le n f g (λ i h. e i (omega arith)) in
    let here : f n ≤ g n = e n (omega arith) in
    omega arith

pub one_none : (n : ℕ) → sumBelow n (λ i. 0) ≡ 0
unfolding sumBelow
one_none zero = refl
one_none (suc n) = let ih : sumBelow n (λ i. 0) ≡ 0 = one_none n in omega arith

pub one_ones : (n : ℕ) → sumBelow n (λ i. 1) ≡ n
unfolding sumBelow
one_ones zero = refl
one_ones (suc n) = let ih : sumBelow n (λ i. 1) ≡ n = one_ones n in omega arith

-- the same over the cells of all slots
module _ (z : Sizes) where
  pub sum_eq : (f g : ℕ → ℕ → ℕ) → Each z (λ r i. f r i ≡ g r i) → sum_all z f ≡ sum_all z g
  sum_eq f g e = one_eq slot_count _ _ (λ r h. one_eq (z r) _ _ (λ i k. e r i h k))

  pub sum_two : (f g h : ℕ → ℕ → ℕ) → Each z (λ r i. f r i ≡ g r i + h r i) → sum_all z f ≡ sum_all z g + sum_all z h
  sum_two f g h e = one_two slot_count _ _ _ (λ r k. one_two (z r) _ _ _ (λ i j. e r i k j))

  pub sum_five : (a b p q s : ℕ → ℕ → ℕ) → Each z (λ r i. a r i + b r i ≡ p r i + q r i + s r i)
      → sum_all z a + sum_all z b ≡ sum_all z p + sum_all z q + sum_all z s
  sum_five a b p q s e = one_five slot_count _ _ _ _ _ (λ r k. one_five (z r) _ _ _ _ _ (λ i j. e r i k j))

  pub sum_under : (p q a b : ℕ → ℕ → ℕ) → Each z (λ r i. p r i + q r i ≤ a r i + b r i)
      → sum_all z p + sum_all z q ≤ sum_all z a + sum_all z b
  sum_under p q a b e = one_under slot_count _ _ _ _ (λ r k. one_under (z r) _ _ _ _ (λ i j. e r i k j))

  pub sum_six : (p q s a b c : ℕ → ℕ → ℕ) → Each z (λ r i. p r i + q r i + s r i ≤ a r i + b r i + c r i)
      → sum_all z p + sum_all z q + sum_all z s ≤ sum_all z a + sum_all z b + sum_all z c
  sum_six p q s a b c e = one_six slot_count _ _ _ _ _ _ (λ r k. one_six (z r) _ _ _ _ _ _ (λ i j. e r i k j))

  pub sum_none : sum_all z (λ r i. 0) ≡ 0
  sum_none = one_eq slot_count _ _ (λ r h. one_none (z r)) ∙ one_none slot_count
