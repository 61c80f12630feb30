-- How a check is found from the ranges of a list that stand from the first that does not end by the query's start on.
use Rattle.std.proofs.Common.{◌≡◌, ℕ, zero, suc, ◌+◌, ◌-◌, ◌<◌, ◌≤◌, min, max, cond, ltb, List, [], ◌∷◌, map, length, get_or, take, drop, Some, None, ◌⊎◌, sym, refl, ap, ◌∙◌, subst, inl, inr, arith}
use Rattle.std.proofs.lemmas.Bool.{cond-true, cond-false, lt-ltb, le-ltb}
use Rattle.std.proofs.lemmas.List.{drop_more, drop-map, length-drop, take_all}
use Rattle.range_list.specs.Ranges.{SoundFrom, IsSound, clipped, met, upto, checked}
use Rattle.range_list.proofs.Points.{EndBy}

-- the ranges that end by lo are passed over
met_skip : (lo hi i : ℕ) (rs : List (ℕ × ℕ)) → ((m : ℕ) (d : ℕ × ℕ) → m < i → (get_or rs m d).1 ≤ lo) → i ≤ length rs → met lo hi rs ≡ met lo hi (drop i rs)
met_skip lo hi zero rs s le = refl
met_skip lo hi (suc i) [] s le = refl
met_skip lo hi (suc i) (r ∷ rs) s le =
    let ge : r.1 ≤ lo = s 0 r (omega arith) in
    cond-false (ltb lo r.1) _ _ (le-ltb lo r.1 ge) ∙ met_skip lo hi i rs (λ m d q. s (suc m) d (omega arith)) (omega arith)

-- the ranges from a place on are sound
sound_left : (b n i : ℕ) (rs : List (ℕ × ℕ)) → SoundFrom b n rs → (a : ℕ) × SoundFrom a n (drop i rs)
sound_left b n zero rs h = (b, h)
sound_left b n (suc i) [] h = (b, h)
sound_left b n (suc i) (r ∷ rs) h = sound_left (r.1 + 1) n i rs h.3

-- a view of the ranges from a place on
pub tail_seen : {X Y : Type 0} (f : X → Y) (xs : List X) (i : ℕ) → map f (take (length xs - i) (drop i xs)) ≡ drop i (map f xs)
tail_seen f xs i = ap (map f) (take_all (length xs - i) (drop i xs) (omega (arith, length-drop i xs))) ∙ sym (drop-map f i xs)

-- what a check answers, by the first two of the ranges that are left
module _ {X : Type 0} (f : X → ℕ × ℕ) (lo hi i : ℕ) (rs : List (ℕ × ℕ)) (lt : lo < hi) (h : IsSound rs) (e : EndBy lo rs i) (il : i ≤ length rs) where
  from_left : (xs : List X) → map f xs ≡ drop i rs → met lo hi (map f xs) ≡ checked lo hi rs
  from_left xs s =
      ap (met lo hi) s ∙ sym (met_skip lo hi i rs (λ m d q. e.0 m d (omega arith) q) il)
      ∙ sym (cond-true (ltb lo hi) (met lo hi rs) None (lt-ltb lo hi lt))

  first_past : (y : X) (ys : List X) → map f (y ∷ ys) ≡ drop i rs → lo < (f y).1
  first_past y ys s =
      let l = ap length s ∙ length-drop i rs in
      let here : i < length rs = omega arith in
      let q = e.1 i (0, 0) (omega arith) here in
      let z = ap (λ (l : List (ℕ × ℕ)). (get_or l 0 (0, 0)).1) (s ∙ drop_more rs i (0, 0) here) in
      omega arith

  from_first : (y : X) (ys : List X) → map f (y ∷ ys) ≡ drop i rs → cond (ltb (f y).0 hi) (Some (max (f y).0 lo, upto (f y) (map f ys) hi)) None ≡ checked lo hi rs
  from_first y ys s = sym (cond-true (ltb lo (f y).1) _ _ (lt-ltb lo (f y).1 (first_past y ys s))) ∙ from_left (y ∷ ys) s

  in_turn : (y z : X) (zs : List X) → map f (y ∷ z ∷ zs) ≡ drop i rs → (f y).0 < (f z).0
  in_turn y z zs s =
      let a = sound_left 0 h.0 i rs h.1 in
      let k : SoundFrom a.0 h.0 (map f (y ∷ z ∷ zs)) = subst (SoundFrom a.0 h.0) (sym s) a.1 in
      omega (arith, k.1, k.3.0)

  -- the second range holds a position
  pub second_filled : (xs : List X) (y : X) → map f xs ≡ drop i rs → 2 ≤ length xs → y ≡ get_or xs 1 y → (f y).0 < (f y).1
  second_filled [] y s k a = absurd (omega arith)
  second_filled (u ∷ []) y s k a = absurd (omega arith)
  second_filled (u ∷ v ∷ vs) y s k a =
      let b = sound_left 0 h.0 i rs h.1 in
      let t : SoundFrom b.0 h.0 (map f (u ∷ v ∷ vs)) = subst (SoundFrom b.0 h.0) (sym s) b.1 in
      let z = ap (λ w. (f w).0) a in
      let w = ap (λ w. (f w).1) a in
      omega (arith, t.3.1)

  pub checked_none : (xs : List X) → map f xs ≡ drop i rs → length xs < 1 → None ≡ checked lo hi rs
  checked_none [] s k = from_left [] s
  checked_none (x ∷ xs) s k = absurd (omega arith)

  pub checked_clear : (xs : List X) (x : X) → map f xs ≡ drop i rs → 1 ≤ length xs → x ≡ get_or xs 0 x → hi ≤ (f x).0 → None ≡ checked lo hi rs
  checked_clear [] x s k a ge = absurd (omega arith)
  checked_clear (y ∷ ys) x s k a ge =
      let z = ap (λ w. (f w).0) a in
      sym (cond-false (ltb (f y).0 hi) _ _ (le-ltb (f y).0 hi (omega arith))) ∙ from_first y ys s

  from_start : (y : X) (ys : List X) → map f (y ∷ ys) ≡ drop i rs → (f y).0 < hi → Some (max (f y).0 lo, upto (f y) (map f ys) hi) ≡ checked lo hi rs
  from_start y ys s st = sym (cond-true (ltb (f y).0 hi) _ _ (lt-ltb (f y).0 hi st)) ∙ from_first y ys s

  -- no second range starts before the query's end
  abbrev pub Alone : List X → Type 0
  Alone xs = (length xs < 2) ⊎ ((y : X) × (2 ≤ length xs) × (y ≡ get_or xs 1 y) × (hi ≤ (f y).0))

  one_at : (y : X) (ys : List X) → map f (y ∷ ys) ≡ drop i rs → (f y).0 < hi → Alone (y ∷ ys) → Some (clipped lo hi (f y)) ≡ checked lo hi rs
  one_at y [] s st b = from_start y [] s st
  one_at y (z ∷ zs) s st (inl k) = absurd (omega arith)
  one_at y (z ∷ zs) s st (inr w) =
      let e = ap (λ v. (f v).0) w.2 in
      sym (ap (λ n. Some (max (f y).0 lo, n)) (cond-false (ltb (f z).0 hi) hi (min (f y).1 hi) (le-ltb (f z).0 hi (omega (arith, w.3))))) ∙ from_start y (z ∷ zs) s st

  pub checked_one : (xs : List X) (x : X) → map f xs ≡ drop i rs → 1 ≤ length xs → x ≡ get_or xs 0 x → (f x).0 < hi → Alone xs → Some (clipped lo hi (f x)) ≡ checked lo hi rs
  checked_one [] x s k a st b = absurd (omega arith)
  checked_one (y ∷ ys) x s k a st b =
      let z = ap (λ w. (f w).0) a in
      ap (λ w. Some (clipped lo hi (f w))) a ∙ one_at y ys s (omega arith) b

  pub checked_more : (xs : List X) (x y : X) → map f xs ≡ drop i rs → 2 ≤ length xs → x ≡ get_or xs 0 x → y ≡ get_or xs 1 y → (f y).0 < hi → Some (max (f x).0 lo, hi) ≡ checked lo hi rs
  checked_more [] x y s k a b st = absurd (omega arith)
  checked_more (u ∷ []) x y s k a b st = absurd (omega arith)
  checked_more (u ∷ v ∷ vs) x y s k a b st =
      let z = ap (λ w. (f w).0) b in
      let t : (f v).0 < hi = omega arith in
      ap (λ w. Some (max (f w).0 lo, hi)) a
      ∙ sym (ap (λ n. Some (max (f u).0 lo, n)) (cond-true (ltb (f v).0 hi) hi (min (f u).1 hi) (lt-ltb (f v).0 hi t)))
      ∙ from_start u (v ∷ vs) s (omega (arith, in_turn u v vs s))
