-- What a check covers, and that positions tell sound lists apart.
use Rattle.std.proofs.Common.{◌≡◌, ℕ, ◌+◌, ◌<◌, ◌≤◌, min, max, Bool, true, false, cond, ltb, List, [], ◌∷◌, Some, None, sym, refl, ap, ◌∙◌, subst, inl, inr, arith}
use Rattle.std.proofs.lemmas.Bool.{cond_both, cases_lt, ltb-false}
use Rattle.std.proofs.lemmas.Bool.Decides.{nat_tests}
use Rattle.range_list.specs.Ranges.{SoundFrom, Sound, inside, member, covered, upto, met, checked}
use Rattle.range_list.proofs.Laws.{not_before}

-- a position of a sound list is not before its bound
pub member_from : (b n p : ℕ) (rs : List (ℕ × ℕ)) → SoundFrom b n rs → member p rs ≡ true → b ≤ p
member_from b n p rs h m =
    elim (cases_lt p b) [
      | inl lt ↦ let z : ◌≡◌ {A = Bool} false true = sym (not_before b n p rs h lt) ∙ m in grind (arith, z)
      | inr ge ↦ ge
    ]

inside_is : (lo hi p : ℕ) → lo ≤ p → p < hi → inside lo hi p ≡ true
inside_is lo hi p a b = grind (arith, nat_tests)

inside_low : (lo hi p : ℕ) → inside lo hi p ≡ true → lo ≤ p
inside_low lo hi p e = grind (arith, nat_tests)

inside_high : (lo hi p : ℕ) → inside lo hi p ≡ true → p < hi
inside_high lo hi p e = grind (arith, nat_tests)

-- an answer ends by the query's end
upto_by : (r : ℕ × ℕ) (rs : List (ℕ × ℕ)) (hi : ℕ) → upto r rs hi ≤ hi
upto_by r [] hi = omega arith
upto_by r (t ∷ ts) hi = cond_both (ltb t.0 hi) hi (min r.1 hi) (λ n. n ≤ hi) (λ _. omega arith) (λ _. omega arith)

-- and past each position of the query in the list
upto_past : (r : ℕ × ℕ) (rs : List (ℕ × ℕ)) (n hi p : ℕ) → SoundFrom (r.1 + 1) n rs → p < hi → member p (r ∷ rs) ≡ true → p < upto r rs hi
upto_past r [] n hi p h lt m = let e : inside r.0 r.1 p ≡ true = grind (arith, m) in omega (arith, inside_high r.0 r.1 p e)
upto_past r (t ∷ ts) n hi p h lt m =
    cond_both (ltb t.0 hi) hi (min r.1 hi) (λ k. p < k) (λ _. lt)
    (λ e. let ge = ltb-false t.0 hi e in
    let z = not_before t.0 n p (t ∷ ts) (omega arith, h.1, h.2, h.3) (omega arith) in
    let w : inside r.0 r.1 p ≡ true = grind (arith, m, z) in
    omega (arith, inside_high r.0 r.1 p w))

met_covers : (p lo hi b n : ℕ) (rs : List (ℕ × ℕ)) → SoundFrom b n rs → member p rs ≡ true → lo ≤ p → p < hi → covered p (met lo hi rs) ≡ true
met_covers p lo hi b n [] h m a z = m
met_covers p lo hi b n (r ∷ rs) h m a z =
    let from = member_from r.0 n p (r ∷ rs) (omega arith, h.1, h.2, h.3) m in
    cond_both (ltb lo r.1) (cond (ltb r.0 hi) (Some (max r.0 lo, upto r rs hi)) None) (met lo hi rs) (λ o. covered p o ≡ true)
    (λ _. cond_both (ltb r.0 hi) (Some (max r.0 lo, upto r rs hi)) None (λ o. covered p o ≡ true)
    (λ _. inside_is (max r.0 lo) (upto r rs hi) p (omega arith) (upto_past r rs n hi p h.3 z m))
    (λ e. let ge = ltb-false r.0 hi e in absurd (omega arith)))
    (λ e. let ge = ltb-false lo r.1 e in
    let w : member p rs ≡ true = grind (arith, nat_tests, m) in
    met_covers p lo hi (r.1 + 1) n rs h.3 w a z)

pub checked_covers : (p lo hi n : ℕ) (rs : List (ℕ × ℕ)) → Sound n rs → member p rs ≡ true → inside lo hi p ≡ true → covered p (checked lo hi rs) ≡ true
checked_covers p lo hi n rs h m i =
    let a = inside_low lo hi p i in
    let z = inside_high lo hi p i in
    cond_both (ltb lo hi) (met lo hi rs) None (λ o. covered p o ≡ true) (λ _. met_covers p lo hi 0 n rs h m a z)
    (λ e. let ge = ltb-false lo hi e in absurd (omega arith))

met_within : (p lo hi : ℕ) (rs : List (ℕ × ℕ)) → covered p (met lo hi rs) ≡ true → inside lo hi p ≡ true
met_within p lo hi [] = λ e. let z : ◌≡◌ {A = Bool} false true = e in grind (arith, z)
met_within p lo hi (r ∷ rs) =
    cond_both (ltb lo r.1) (cond (ltb r.0 hi) (Some (max r.0 lo, upto r rs hi)) None) (met lo hi rs) (λ o. covered p o ≡ true → inside lo hi p ≡ true)
    (λ _. cond_both (ltb r.0 hi) (Some (max r.0 lo, upto r rs hi)) None (λ o. covered p o ≡ true → inside lo hi p ≡ true)
    (λ _ e. inside_is lo hi p (omega (arith, inside_low (max r.0 lo) (upto r rs hi) p e)) (omega (arith, upto_by r rs hi, inside_high (max r.0 lo) (upto r rs hi) p e)))
    (λ _ e. let z : ◌≡◌ {A = Bool} false true = e in grind (arith, z)))
    (λ _ e. met_within p lo hi rs e)

pub checked_within : (p lo hi : ℕ) (rs : List (ℕ × ℕ)) → covered p (checked lo hi rs) ≡ true → inside lo hi p ≡ true
checked_within p lo hi rs =
    cond_both (ltb lo hi) (met lo hi rs) None (λ o. covered p o ≡ true → inside lo hi p ≡ true) (λ _ e. met_within p lo hi rs e)
    (λ _ e. let z : ◌≡◌ {A = Bool} false true = e in grind (arith, z))

-- the first position of a list is its start, and the position at its first end is not in it
starts_in : (r : ℕ × ℕ) (rs : List (ℕ × ℕ)) → r.0 < r.1 → member r.0 (r ∷ rs) ≡ true
starts_in r rs lt = let e = inside_is r.0 r.1 r.0 (omega arith) lt in grind (arith, e)

gap_after : (n : ℕ) (r : ℕ × ℕ) (rs : List (ℕ × ℕ)) → SoundFrom (r.1 + 1) n rs → member r.1 (r ∷ rs) ≡ false
gap_after n r rs h = let e = not_before (r.1 + 1) n r.1 rs h (omega arith) in grind (arith, nat_tests, e)

-- a range of one list does not end before that of another that starts where it does and holds the same positions
ends_by : (n : ℕ) (r s : ℕ × ℕ) (rs ss : List (ℕ × ℕ)) → r.0 < r.1 → r.0 ≡ s.0 → SoundFrom (r.1 + 1) n rs → ((p : ℕ) → member p (r ∷ rs) ≡ member p (s ∷ ss)) → s.1 ≤ r.1
ends_by n r s rs ss lt e h m =
    elim (cases_lt r.1 s.1) [
      | inl q ↦
          let i = inside_is s.0 s.1 r.1 (omega arith) q in
          let g = gap_after n r rs h in
          let w = m r.1 in
          let y : member r.1 (s ∷ ss) ≡ true = grind (arith, i) in
          let z : ◌≡◌ {A = Bool} false true = sym g ∙ w ∙ y in
          grind (arith, z)
      | inr q ↦ q
    ]

pub same_members : (b n : ℕ) (rs ss : List (ℕ × ℕ)) → SoundFrom b n rs → SoundFrom b n ss → ((p : ℕ) → member p rs ≡ member p ss) → rs ≡ ss
same_members b n [] [] h k m = refl
same_members b n [] (s ∷ ss) h k m = let z : ◌≡◌ {A = Bool} false true = m s.0 ∙ starts_in s ss k.1 in absurd (grind (arith, z))
same_members b n (r ∷ rs) [] h k m = let z : ◌≡◌ {A = Bool} false true = sym (m r.0) ∙ starts_in r rs h.1 in absurd (grind (arith, z))
same_members b n (r ∷ rs) (s ∷ ss) h k m =
    let x = member_from s.0 n r.0 (s ∷ ss) (omega arith, k.1, k.2, k.3) (sym (m r.0) ∙ starts_in r rs h.1) in
    let y = member_from r.0 n s.0 (r ∷ rs) (omega arith, h.1, h.2, h.3) (m s.0 ∙ starts_in s ss k.1) in
    let e : r.0 ≡ s.0 = omega arith in
    let u = ends_by n r s rs ss h.1 e h.3 m in
    let v = ends_by n s r ss rs k.1 (sym e) k.3 (λ p. sym (m p)) in
    let f : r.1 ≡ s.1 = omega arith in
    let rest : (p : ℕ) → member p rs ≡ member p ss =
    λ p. elim (cases_lt p (r.1 + 1)) [
      | inl q ↦ not_before (r.1 + 1) n p rs h.3 q ∙ sym (not_before (s.1 + 1) n p ss k.3 (omega arith))
      | inr q ↦ let w = m p in let i : inside r.0 r.1 p ≡ false = grind (arith, nat_tests) in let j : inside s.0 s.1 p ≡ false = grind (arith, nat_tests) in grind (arith, w, i, j)
    ] in
    let g = same_members (r.1 + 1) n rs ss h.3 (subst (λ c. SoundFrom (c + 1) n ss) (sym f) k.3) rest in
    ap (λ z. (z, r.1) ∷ rs) e ∙ ap (λ z. (s.0, z) ∷ rs) f ∙ ap (λ l. s ∷ l) g
