-- What the definitions of the ranges mean by positions, and how a drain, pieces and a discard are found from two places in a list.
use Rattle.std.proofs.Common.{◌≡◌, ℕ, zero, suc, ◌+◌, ◌-◌, ◌*◌, ◌/◌, ◌<◌, ◌≤◌, min, max, Bool, false, not, ◌&&◌, ◌||◌, eqb, ltb, leb, List, [], ◌∷◌, ◌++◌, length, get_or, take, drop, sym, refl, ap, ◌∙◌, inl, inr, append_assoc, arith}
use mathlib.Core.Logic.{∥∥₁_elim}
use native.Mathlib.Bridge.{le_prop}
use Rattle.std.specs.List.{flat_map}
use Rattle.std.proofs.lemmas.Bool.{cond_both, cases_lt, cond-true, cond-false, lt-ltb, le-ltb, ltb-true, ltb-false, eqb-true, eqb-false, leb-true, leb-false, ne_eqb, eq-eqb, le-leb, lt-leb}
use Rattle.std.proofs.lemmas.List.{drop_more, drop_all, get_or_default, take-append-drop}
use Rattle.std.proofs.lemmas.Bool.Decides.{nat_tests}
use Rattle.range_list.specs.Ranges.{SoundFrom, Sound, inside, member, part, clip, pieces, cut, drained, begun, closed, join, discarded, count, lengths, whole}

-- the one range of a part that is not empty, and none of one that is
pub part_some : (a b : ℕ) → a < b → part a b ≡ (a, b) ∷ []
part_some a b h = cond-true (ltb a b) _ _ (lt-ltb a b h)

pub part_none : (a b : ℕ) → b ≤ a → part a b ≡ []
part_none a b h = cond-false (ltb a b) _ _ (le-ltb a b h)

pub sound_less : (b c n : ℕ) (rs : List (ℕ × ℕ)) → c ≤ b → SoundFrom b n rs → SoundFrom c n rs
sound_less b c n [] le h = tt
sound_less b c n (r ∷ rs) le h = (omega arith, h.1, h.2, h.3)

-- a part before a sound list
sound_part : (b a e n : ℕ) (rs : List (ℕ × ℕ)) → b ≤ a → e ≤ n → (a < e → SoundFrom (e + 1) n rs) → SoundFrom b n rs → SoundFrom b n (part a e ++ rs)
sound_part b a e n rs ba en h g =
    cond_both (ltb a e) ((a, e) ∷ []) [] (λ l. SoundFrom b n (l ++ rs))
    (λ t. let lt = ltb-true a e t in (ba, lt, en, h lt))
    (λ t. g)

sound_cut : (b lo hi n : ℕ) (rs : List (ℕ × ℕ)) → lo < hi → SoundFrom b n rs → SoundFrom b n (flat_map (cut lo hi) rs)
sound_cut b lo hi n [] lt h = tt
sound_cut b lo hi n (r ∷ rs) lt h =
    let rest = sound_cut (r.1 + 1) lo hi n rs lt h.3 in
    let right : (c : ℕ) → c ≤ max r.0 hi → c ≤ r.1 + 1 → SoundFrom c n (part (max r.0 hi) r.1 ++ flat_map (cut lo hi) rs) =
    λ c le lf. sound_part c (max r.0 hi) r.1 n (flat_map (cut lo hi) rs) le h.2 (λ q. rest) (sound_less (r.1 + 1) c n (flat_map (cut lo hi) rs) lf rest) in
    rw append_assoc (sound_part b r.0 (min r.1 lo) n (part (max r.0 hi) r.1 ++ flat_map (cut lo hi) rs) h.0 (omega arith) (λ q. right (min r.1 lo + 1) (omega arith) (omega arith)) (right b (omega arith) (omega arith)))

pub sound_drained : (lo hi n : ℕ) (rs : List (ℕ × ℕ)) → Sound n rs → Sound n (drained lo hi rs)
sound_drained lo hi n rs h =
    cond_both (ltb lo hi) (flat_map (cut lo hi) rs) rs (λ l. Sound n l) (λ t. sound_cut 0 lo hi n rs (ltb-true lo hi t) h) (λ t. h)

member_append : (p : ℕ) (xs ys : List (ℕ × ℕ)) → member p (xs ++ ys) ≡ (member p xs || member p ys)
member_append p [] ys = refl
member_append p (x ∷ xs) ys = let e = member_append p xs ys in grind (arith, e)

member_part : (p a b : ℕ) → member p (part a b) ≡ inside a b p
member_part p a b = cond_both (ltb a b) ((a, b) ∷ []) [] (λ l. member p l ≡ inside a b p) (λ t. grind (arith, nat_tests)) (λ t. grind (arith, nat_tests))

-- a new list holds every position below its size, and is sound
pub member_whole : (p n : ℕ) → member p (whole n) ≡ inside 0 n p
member_whole p n = member_part p 0 n

pub sound_whole : (n : ℕ) → Sound n (whole n)
sound_whole n =
    cond_both (ltb 0 n) ((0, n) ∷ []) [] (λ l. Sound n l) (λ t. (omega arith, ltb-true 0 n t, omega arith, tt)) (λ _. tt)

member_cut : (p lo hi : ℕ) (r : ℕ × ℕ) → lo < hi → member p (cut lo hi r) ≡ (inside r.0 r.1 p && not (inside lo hi p))
member_cut p lo hi r lt =
    member_append p (part r.0 (min r.1 lo)) (part (max r.0 hi) r.1)
    ∙ rw (member_part, member_part) (grind (arith, nat_tests))

member_cuts : (p lo hi : ℕ) (rs : List (ℕ × ℕ)) → lo < hi → member p (flat_map (cut lo hi) rs) ≡ (member p rs && not (inside lo hi p))
member_cuts p lo hi [] lt = refl
member_cuts p lo hi (r ∷ rs) lt =
    let a = member_append p (cut lo hi r) (flat_map (cut lo hi) rs) in
    let b = member_cut p lo hi r lt in
    let c = member_cuts p lo hi rs lt in
    a ∙ rw (b, c) (grind (arith, nat_tests))

pub member_drained : (p lo hi : ℕ) (rs : List (ℕ × ℕ)) → member p (drained lo hi rs) ≡ (member p rs && not (inside lo hi p))
member_drained p lo hi rs =
    cond_both (ltb lo hi) (flat_map (cut lo hi) rs) rs (λ l. member p l ≡ (member p rs && not (inside lo hi p)))
    (λ t. member_cuts p lo hi rs (ltb-true lo hi t))
    (λ t. let le = ltb-false lo hi t in grind (arith, nat_tests))

member_clip : (p lo hi : ℕ) (r : ℕ × ℕ) → member p (clip lo hi r) ≡ (inside r.0 r.1 p && inside lo hi p)
member_clip p lo hi r = member_part p (max r.0 lo) (min r.1 hi) ∙ grind (arith, nat_tests)

pub member_pieces : (p lo hi : ℕ) (rs : List (ℕ × ℕ)) → member p (pieces lo hi rs) ≡ (member p rs && inside lo hi p)
member_pieces p lo hi [] = refl
member_pieces p lo hi (r ∷ rs) =
    let a = member_append p (clip lo hi r) (pieces lo hi rs) in
    let b = member_clip p lo hi r in
    let c = member_pieces p lo hi rs in
    a ∙ rw (b, c) (grind (arith, nat_tests))

pub sound_pieces : (b lo hi n : ℕ) (rs : List (ℕ × ℕ)) → SoundFrom b n rs → SoundFrom b n (pieces lo hi rs)
sound_pieces b lo hi n [] h = tt
sound_pieces b lo hi n (r ∷ rs) h =
    let rest = sound_pieces (r.1 + 1) lo hi n rs h.3 in
    sound_part b (max r.0 lo) (min r.1 hi) n (pieces lo hi rs) (omega arith) (omega arith)
    (λ q. sound_less (r.1 + 1) (min r.1 hi + 1) n (pieces lo hi rs) (omega arith) rest)
    (sound_less (r.1 + 1) b n (pieces lo hi rs) (omega arith) rest)

-- a sound list has few ranges
few : (b n : ℕ) (rs : List (ℕ × ℕ)) → SoundFrom b n rs → 2 * length rs ≤ n + 1 - b
few b n [] h = omega arith
few b n (r ∷ rs) h = omega (arith, few (r.1 + 1) n rs h.3)

pub few_ranges : (n : ℕ) (rs : List (ℕ × ℕ)) → Sound n rs → length rs ≤ (n + 1) / 2
few_ranges n rs h = omega (arith, few 0 n rs h)

-- counting
count_or : (f g : ℕ → Bool) (n : ℕ) → ((p : ℕ) → (f p && g p) ≡ false) → count (λ p. f p || g p) n ≡ count f n + count g n
count_or f g zero h = refl
count_or f g (suc n) h =
    let e = count_or f g n h in
    let d = h n in
    grind (arith, e, d)

count_same : (f g : ℕ → Bool) (n : ℕ) → ((p : ℕ) → f p ≡ g p) → count f n ≡ count g n
count_same f g zero h = refl
count_same f g (suc n) h = let e = count_same f g n h in let d = h n in grind (arith, e, d)

count_inside : (a b n : ℕ) → count (inside a b) n ≡ min n b - a
count_inside a b zero = omega arith
count_inside a b (suc n) = let e = count_inside a b n in grind (arith, nat_tests, e)

count_none : (n : ℕ) → count (λ p. false) n ≡ 0
count_none zero = refl
count_none (suc n) = omega (arith, count_none n)

pub not_before : (b n p : ℕ) (rs : List (ℕ × ℕ)) → SoundFrom b n rs → p < b → member p rs ≡ false
not_before b n p [] h lt = refl
not_before b n p (r ∷ rs) h lt = let e = not_before (r.1 + 1) n p rs h.3 (omega arith) in grind (arith, nat_tests, e)

lengths_count : (b n : ℕ) (rs : List (ℕ × ℕ)) → SoundFrom b n rs → lengths rs ≡ count (λ p. member p rs) n
lengths_count b n [] h = sym (count_none n)
lengths_count b n (r ∷ rs) h =
    let e = lengths_count (r.1 + 1) n rs h.3 in
    let o = count_or (inside r.0 r.1) (λ p. member p rs) n
    (λ p. elim (cases_lt r.1 p) [
      | inl q ↦ grind (arith, nat_tests)
      | inr q ↦ let e = not_before (r.1 + 1) n p rs h.3 (omega arith) in grind (arith, e)
    ]) in
    let c = count_inside r.0 r.1 n in
    sym (o ∙ omega (arith, c, e))

pub lengths_pieces : (lo hi n : ℕ) (rs : List (ℕ × ℕ)) → Sound n rs → lengths (pieces lo hi rs) ≡ count (λ p. member p rs && inside lo hi p) n
lengths_pieces lo hi n rs h =
    lengths_count 0 n (pieces lo hi rs) (sound_pieces 0 lo hi n rs h) ∙ count_same (λ p. member p (pieces lo hi rs)) (λ p. member p rs && inside lo hi p) n (λ p. member_pieces p lo hi rs)

-- drained by two indices
keep_above : (lo hi b n : ℕ) (rs : List (ℕ × ℕ)) → lo < hi → hi ≤ b → SoundFrom b n rs → flat_map (cut lo hi) rs ≡ rs
keep_above lo hi b n [] lt le h = refl
keep_above lo hi b n (r ∷ rs) lt le h =
    let a = part_none r.0 (min r.1 lo) (omega arith) in
    let q : max r.0 hi ≡ r.0 = omega arith in
    let c = part_some r.0 r.1 h.1 in
    let e = keep_above lo hi (r.1 + 1) n rs lt (omega arith) h.3 in
    rw (a, q, c, e)

drained_rest : (lo hi b n k : ℕ) (rs : List (ℕ × ℕ)) → lo < hi → lo < b → SoundFrom b n rs
    → ((m : ℕ) (d : ℕ × ℕ) → m < k → (get_or rs m d).1 ≤ hi)
    → ((m : ℕ) (d : ℕ × ℕ) → k ≤ m → m < length rs → hi < (get_or rs m d).1)
    → k ≤ length rs
    → flat_map (cut lo hi) rs ≡ begun hi (drop k rs)
drained_rest lo hi b n zero [] lt lb h u v le = refl
drained_rest lo hi b n (suc k) [] lt lb h u v le = refl
drained_rest lo hi b n zero (r ∷ rs) lt lb h u v le =
    let gt : hi < r.1 = v 0 r (omega arith) (omega arith) in
    let a = part_none r.0 (min r.1 lo) (omega arith) in
    let c = part_some (max r.0 hi) r.1 (omega arith) in
    let e = keep_above lo hi (r.1 + 1) n rs lt (omega arith) h.3 in
    rw (a, c, e)
drained_rest lo hi b n (suc k) (r ∷ rs) lt lb h u v le =
    let gt : r.1 ≤ hi = u 0 r (omega arith) in
    let a = part_none r.0 (min r.1 lo) (omega arith) in
    let c = part_none (max r.0 hi) r.1 (omega arith) in
    let e = drained_rest lo hi (r.1 + 1) n k rs lt (omega arith) h.3 (λ m d q. u (suc m) d (omega arith)) (λ m d q s. v (suc m) d (omega arith) (omega arith)) (omega arith) in
    rw (a, c) e

pub cuts_closed : (lo hi b n i k : ℕ) (rs : List (ℕ × ℕ)) → lo < hi → SoundFrom b n rs
    → ((m : ℕ) (d : ℕ × ℕ) → m < i → (get_or rs m d).1 ≤ lo)
    → ((m : ℕ) (d : ℕ × ℕ) → i ≤ m → m < length rs → lo < (get_or rs m d).1)
    → ((m : ℕ) (d : ℕ × ℕ) → m < k → (get_or rs m d).1 ≤ hi)
    → ((m : ℕ) (d : ℕ × ℕ) → k ≤ m → m < length rs → hi < (get_or rs m d).1)
    → i ≤ k → k ≤ length rs
    → flat_map (cut lo hi) rs ≡ closed lo hi i k rs
cuts_closed lo hi b n zero zero [] lt h s t u v ik le = refl
cuts_closed lo hi b n zero (suc k) [] lt h s t u v ik le = refl
cuts_closed lo hi b n (suc i) zero [] lt h s t u v ik le = refl
cuts_closed lo hi b n (suc i) (suc k) [] lt h s t u v ik le = refl
cuts_closed lo hi b n zero zero (r ∷ rs) lt h s t u v ik le =
    let gt : hi < r.1 = v 0 r (omega arith) (omega arith) in
    let a : min r.1 lo ≡ lo = omega arith in
    let c = part_some (max r.0 hi) r.1 (omega arith) in
    let e = keep_above lo hi (r.1 + 1) n rs lt (omega arith) h.3 in
    rw (a, c, e, append_assoc)
cuts_closed lo hi b n zero (suc k) (r ∷ rs) lt h s t u v ik le =
    let gt : r.1 ≤ hi = u 0 r (omega arith) in
    let ge : lo < r.1 = t 0 r (omega arith) (omega arith) in
    let a : min r.1 lo ≡ lo = omega arith in
    let c = part_none (max r.0 hi) r.1 (omega arith) in
    let e = drained_rest lo hi (r.1 + 1) n k rs lt (omega arith) h.3 (λ m d q. u (suc m) d (omega arith)) (λ m d q w. v (suc m) d (omega arith) (omega arith)) (omega arith) in
    rw (a, c, append_assoc, e)
cuts_closed lo hi b n (suc i) zero (r ∷ rs) lt h s t u v ik le = absurd (omega arith)
cuts_closed lo hi b n (suc i) (suc k) (r ∷ rs) lt h s t u v ik le =
    let ge : r.1 ≤ lo = s 0 r (omega arith) in
    let a : min r.1 lo ≡ r.1 = omega arith in
    let q = part_some r.0 r.1 h.1 in
    let c = part_none (max r.0 hi) r.1 (omega arith) in
    let e = cuts_closed lo hi (r.1 + 1) n i k rs lt h.3 (λ m d q. s (suc m) d (omega arith)) (λ m d q w. t (suc m) d (omega arith) (omega arith)) (λ m d q. u (suc m) d (omega arith)) (λ m d q w. v (suc m) d (omega arith) (omega arith)) (omega arith) (omega arith) in
    rw (a, q, c) (ap (λ l. r ∷ l) e)

-- every end passes the bound, and ends ascend
ends_after : (b n k : ℕ) (rs : List (ℕ × ℕ)) (d : ℕ × ℕ) → SoundFrom b n rs → k < length rs → b < (get_or rs k d).1
ends_after b n k [] d h lt = absurd (omega arith)
ends_after b n zero (r ∷ rs) d h lt = omega arith
ends_after b n (suc k) (r ∷ rs) d h lt = omega (arith, ends_after (r.1 + 1) n k rs d h.3 (omega arith))

pub ascends : (b n j k : ℕ) (rs : List (ℕ × ℕ)) (d : ℕ × ℕ) → SoundFrom b n rs → j < k → k < length rs → (get_or rs j d).1 < (get_or rs k d).1
ascends b n j k [] d h jk lt = absurd (omega arith)
ascends b n j zero (r ∷ rs) d h jk lt = absurd (omega arith)
ascends b n zero (suc k) (r ∷ rs) d h jk lt = omega (arith, ends_after (r.1 + 1) n k rs d h.3 (omega arith))
ascends b n (suc j) (suc k) (r ∷ rs) d h jk lt = ascends (r.1 + 1) n j k rs d h.3 (omega arith) (omega arith)

sound_join : (b n a c : ℕ) (rs : List (ℕ × ℕ)) → b ≤ a → a < c → c ≤ n → SoundFrom c n rs → SoundFrom b n (join (a, c) rs)
sound_join b n a c [] ba ac cn h = (ba, ac, cn, tt)
sound_join b n a c (t ∷ ts) ba ac cn h =
    cond_both (eqb c t.0) ((a, t.1) ∷ ts) ((a, c) ∷ t ∷ ts) (λ l. SoundFrom b n l)
    (λ e. (ba, omega (arith, eqb-true c t.0 e), h.2, h.3))
    (λ e. let ne = eqb-false c t.0 e in (ba, ac, cn, (omega arith, h.1, h.2, h.3)))

pub sound_discarded : (b n p : ℕ) (rs : List (ℕ × ℕ)) → b ≤ p → p < n → SoundFrom b n rs → SoundFrom b n (discarded p rs)
sound_discarded b n p [] bp pn h = (bp, omega arith, omega arith, tt)
sound_discarded b n p (r ∷ rs) bp pn h =
    cond_both (ltb r.1 p) (r ∷ discarded p rs) _ (λ l. SoundFrom b n l)
    (λ t. let lt = ltb-true r.1 p t in (h.0, h.1, h.2, sound_discarded (r.1 + 1) n p rs (omega arith) pn h.3))
    (λ t. let ge = ltb-false r.1 p t in
    cond_both (eqb r.1 p) (join (r.0, p + 1) rs) _ (λ l. SoundFrom b n l)
    (λ e. let q = eqb-true r.1 p e in sound_join b n r.0 (p + 1) rs h.0 (omega arith) (omega arith) (sound_less (r.1 + 1) (p + 1) n rs (omega arith) h.3))
    (λ e. let q = eqb-false r.1 p e in
    cond_both (leb r.0 p) (r ∷ rs) (join (p, p + 1) (r ∷ rs)) (λ l. SoundFrom b n l)
    (λ u. h)
    (λ u. let lt = leb-false r.0 p u in sound_join b n p (p + 1) (r ∷ rs) bp (omega arith) (omega arith) (omega arith, h.1, h.2, h.3))))

member_join : (q b n a c : ℕ) (rs : List (ℕ × ℕ)) → a < c → SoundFrom c n rs → member q (join (a, c) rs) ≡ (inside a c q || member q rs)
member_join q b n a c [] ac h = refl
member_join q b n a c (t ∷ ts) ac h =
    cond_both (eqb c t.0) ((a, t.1) ∷ ts) ((a, c) ∷ t ∷ ts) (λ l. member q l ≡ (inside a c q || member q (t ∷ ts)))
    (λ e. let x = eqb-true c t.0 e in grind (arith, nat_tests))
    (λ e. refl)

pub member_discarded : (q b n p : ℕ) (rs : List (ℕ × ℕ)) → SoundFrom b n rs → member q (discarded p rs) ≡ (member q rs || eqb q p)
member_discarded q b n p [] h = grind (arith, nat_tests)
member_discarded q b n p (r ∷ rs) h =
    cond_both (ltb r.1 p) (r ∷ discarded p rs) _ (λ l. member q l ≡ (member q (r ∷ rs) || eqb q p))
    (λ t. let e = member_discarded q (r.1 + 1) n p rs h.3 in rw e (grind (arith, nat_tests)))
    (λ t. let ge = ltb-false r.1 p t in
    cond_both (eqb r.1 p) (join (r.0, p + 1) rs) _ (λ l. member q l ≡ (member q (r ∷ rs) || eqb q p))
    (λ e. let x = eqb-true r.1 p e in
    let j = member_join q 0 n r.0 (p + 1) rs (omega arith) (sound_less (r.1 + 1) (p + 1) n rs (omega arith) h.3) in
    rw j (grind (arith, nat_tests)))
    (λ e. let x = eqb-false r.1 p e in
    cond_both (leb r.0 p) (r ∷ rs) (join (p, p + 1) (r ∷ rs)) (λ l. member q l ≡ (member q (r ∷ rs) || eqb q p))
    (λ u. let v = leb-true r.0 p u in grind (arith, nat_tests))
    (λ u. let lt = leb-false r.0 p u in
    let j = member_join q 0 n p (p + 1) (r ∷ rs) (omega arith) (omega arith, h.1, h.2, h.3) in
    j ∙ grind (arith, nat_tests))))

pub drained_closed : (lo hi n i k : ℕ) (rs : List (ℕ × ℕ)) → lo < hi → Sound n rs
    → ((m : ℕ) (d : ℕ × ℕ) → m < i → (get_or rs m d).1 ≤ lo)
    → ((m : ℕ) (d : ℕ × ℕ) → i ≤ m → m < length rs → lo < (get_or rs m d).1)
    → ((m : ℕ) (d : ℕ × ℕ) → m < k → (get_or rs m d).1 ≤ hi)
    → ((m : ℕ) (d : ℕ × ℕ) → k ≤ m → m < length rs → hi < (get_or rs m d).1)
    → i ≤ length rs → k ≤ length rs
    → (i ≤ k) × (drained lo hi rs ≡ closed lo hi i k rs)
drained_closed lo hi n i k rs lt h s t u v il kl =
    let ik : i ≤ k = elim (cases_lt k i) [ inl q ↦ omega (arith, s k (0, 0) q, v k (0, 0) (omega arith) (omega arith)) | inr q ↦ q ] in
    (ik, cond-true (ltb lo hi) (flat_map (cut lo hi) rs) rs (lt-ltb lo hi lt) ∙ cuts_closed lo hi 0 n i k rs lt h s t u v ik kl)

pub pieces_none : (lo hi : ℕ) (rs : List (ℕ × ℕ)) → hi ≤ lo → pieces lo hi rs ≡ []
pieces_none lo hi [] le = refl
pieces_none lo hi (r ∷ rs) le = rw (part_none (max r.0 lo) (min r.1 hi) (omega arith)) (pieces_none lo hi rs le)

-- starts
starts_from : (b n k : ℕ) (rs : List (ℕ × ℕ)) (d : ℕ × ℕ) → SoundFrom b n rs → k < length rs → b ≤ (get_or rs k d).0
starts_from b n k [] d h lt = absurd (omega arith)
starts_from b n zero (r ∷ rs) d h lt = h.0
starts_from b n (suc k) (r ∷ rs) d h lt = omega (arith, starts_from (r.1 + 1) n k rs d h.3 (omega arith))

pub apart : (b n j k : ℕ) (rs : List (ℕ × ℕ)) (d : ℕ × ℕ) → SoundFrom b n rs → j < k → k < length rs → (get_or rs j d).1 < (get_or rs k d).0
apart b n j k [] d h jk lt = absurd (omega arith)
apart b n j zero (r ∷ rs) d h jk lt = absurd (omega arith)
apart b n zero (suc k) (r ∷ rs) d h jk lt = omega (arith, starts_from (r.1 + 1) n k rs d h.3 (omega arith))
apart b n (suc j) (suc k) (r ∷ rs) d h jk lt = apart (r.1 + 1) n j k rs d h.3 (omega arith) (omega arith)

pub filled : (b n k : ℕ) (rs : List (ℕ × ℕ)) (d : ℕ × ℕ) → SoundFrom b n rs → k < length rs → (get_or rs k d).0 < (get_or rs k d).1
filled b n k [] d h lt = absurd (omega arith)
filled b n zero (r ∷ rs) d h lt = h.1
filled b n (suc k) (r ∷ rs) d h lt = filled (r.1 + 1) n k rs d h.3 (omega arith)

-- discarded, past the ranges that end before p
discarded_skip : (p q : ℕ) (rs : List (ℕ × ℕ)) → ((m : ℕ) (d : ℕ × ℕ) → m < q → (get_or rs m d).1 < p) → q ≤ length rs → discarded p rs ≡ take q rs ++ discarded p (drop q rs)
discarded_skip p zero rs s le = refl
discarded_skip p (suc q) [] s le = refl
discarded_skip p (suc q) (r ∷ rs) s le =
    let lt : r.1 < p = s 0 r (omega arith) in
    let e = discarded_skip p q rs (λ m d h. s (suc m) d (omega arith)) (omega arith) in
    cond-true (ltb r.1 p) _ _ (lt-ltb r.1 p lt) ∙ ap (λ l. r ∷ l) e

discarded_holds : (p : ℕ) (r : ℕ × ℕ) (rs : List (ℕ × ℕ)) → r.0 ≤ p → p < r.1 → discarded p (r ∷ rs) ≡ r ∷ rs
discarded_holds p r rs a b =
    cond-false (ltb r.1 p) _ _ (le-ltb r.1 p (omega arith)) ∙ cond-false (eqb r.1 p) _ _ (ne_eqb r.1 p (λ e. omega arith)) ∙ cond-true (leb r.0 p) _ _ (le-leb r.0 p a)

discarded_ends : (p : ℕ) (r : ℕ × ℕ) (rs : List (ℕ × ℕ)) → r.1 ≡ p → discarded p (r ∷ rs) ≡ join (r.0, p + 1) rs
discarded_ends p r rs e =
    cond-false (ltb r.1 p) _ _ (le-ltb r.1 p (omega arith)) ∙ cond-true (eqb r.1 p) _ _ (eq-eqb r.1 p e)

discarded_new : (p : ℕ) (r : ℕ × ℕ) (rs : List (ℕ × ℕ)) → p < r.0 → p < r.1 → discarded p (r ∷ rs) ≡ join (p, p + 1) (r ∷ rs)
discarded_new p r rs a b =
    cond-false (ltb r.1 p) _ _ (le-ltb r.1 p (omega arith)) ∙ cond-false (eqb r.1 p) _ _ (ne_eqb r.1 p (λ e. omega arith)) ∙ cond-false (leb r.0 p) _ _ (lt-leb r.0 p a)

module _ (b n p i : ℕ) (rs : List (ℕ × ℕ)) (h : SoundFrom b n rs)
    (s : (m : ℕ) (d : ℕ × ℕ) → m < i → (get_or rs m d).1 ≤ p)
    (t : (m : ℕ) (d : ℕ × ℕ) → i ≤ m → m < length rs → p < (get_or rs m d).1) where
  pub discarded_in : (d : ℕ × ℕ) → i < length rs → (get_or rs i d).0 ≤ p → discarded p rs ≡ rs
  discarded_in d lt st =
      let e = drop_more rs i d lt in
      let f = discarded_holds p (get_or rs i d) (drop (i + 1) rs) st (t i d (omega arith) lt) in
      let k = discarded_skip p i rs (λ m c q. omega (arith, apart b n m i rs c h q lt, ap (λ r. r.0) (get_or_default rs i d c lt))) (omega arith) in
      let w : discarded p (drop i rs) ≡ drop i rs = rw e f in
      k ∙ ap (λ l. take i rs ++ l) w ∙ take-append-drop i rs

  pub discarded_grow : (q : ℕ) (d : ℕ × ℕ) → i ≡ q + 1 → i ≤ length rs → p ≤ (get_or rs q d).1 → discarded p rs ≡ take q rs ++ join ((get_or rs q d).0, p + 1) (drop i rs)
  discarded_grow q d iq le ge =
      let lt : q < length rs = omega arith in
      let eq : (get_or rs q d).1 ≡ p = omega (arith, s q d (omega arith)) in
      let e = drop_more rs q d lt in
      let f = discarded_ends p (get_or rs q d) (drop (q + 1) rs) eq in
      let k = discarded_skip p q rs (λ m c w. omega (arith, ascends b n m q rs c h w lt, ap (λ r. r.1) (get_or_default rs q d c lt))) (omega arith) in
      let w : discarded p (drop q rs) ≡ join ((get_or rs q d).0, p + 1) (drop i rs) = rw (e, iq) f in
      k ∙ ap (λ l. take q rs ++ l) w

  before_all : ((q : ℕ) (d : ℕ × ℕ) → i ≡ q + 1 → (get_or rs q d).1 < p) → i ≤ length rs → (m : ℕ) (c : ℕ × ℕ) → m < i → (get_or rs m c).1 < p
  before_all u le m c w =
      elim (cases_lt (m + 1) i) [
        | inl q ↦ omega (arith, ascends b n m (i - 1) rs c h (omega arith) (omega arith), u (i - 1) c (omega arith))
        | inr q ↦ u m c (omega arith)
      ]

  pub discarded_put : ((q : ℕ) (d : ℕ × ℕ) → i ≡ q + 1 → (get_or rs q d).1 < p) → i ≤ length rs → ((d : ℕ × ℕ) → i < length rs → p < (get_or rs i d).0) → discarded p rs ≡ take i rs ++ join (p, p + 1) (drop i rs)
  discarded_put u le v =
      let k = discarded_skip p i rs (before_all u le) le in
      elim (cases_lt i (length rs)) [
        | inl lt ↦
            let e = drop_more rs i (0, 0) lt in
            let f = discarded_new p (get_or rs i (0, 0)) (drop (i + 1) rs) (v (0, 0) lt) (t i (0, 0) (omega arith) lt) in
            k ∙ rw e (ap (λ l. take i rs ++ l) f)
        | inr ge ↦ let e = drop_all i rs ge in k ∙ rw e
      ]

-- nothing of lo..hi is left in what was drained of it
pieces_append : (lo hi : ℕ) (xs ys : List (ℕ × ℕ)) → pieces lo hi (xs ++ ys) ≡ pieces lo hi xs ++ pieces lo hi ys
pieces_append lo hi [] ys = refl
pieces_append lo hi (x ∷ xs) ys = ap (λ l. clip lo hi x ++ l) (pieces_append lo hi xs ys) ∙ sym (append_assoc (clip lo hi x) (pieces lo hi xs) (pieces lo hi ys))

pieces_part : (lo hi a b : ℕ) → min b hi ≤ max a lo → pieces lo hi (part a b) ≡ []
pieces_part lo hi a b h =
    cond_both (ltb a b) ((a, b) ∷ []) [] (λ l. pieces lo hi l ≡ [])
    (λ t. rw (part_none (max a lo) (min b hi) h))
    (λ t. refl)

pieces_cuts : (lo hi : ℕ) (rs : List (ℕ × ℕ)) → pieces lo hi (flat_map (cut lo hi) rs) ≡ []
pieces_cuts lo hi [] = refl
pieces_cuts lo hi (r ∷ rs) =
    let a = pieces_append lo hi (cut lo hi r) (flat_map (cut lo hi) rs) in
    let b = pieces_append lo hi (part r.0 (min r.1 lo)) (part (max r.0 hi) r.1) in
    let c = pieces_part lo hi r.0 (min r.1 lo) (omega arith) in
    let d = pieces_part lo hi (max r.0 hi) r.1 (omega arith) in
    let e = pieces_cuts lo hi rs in
    cc

pub pieces_drained : (lo hi : ℕ) (rs : List (ℕ × ℕ)) → pieces lo hi (drained lo hi rs) ≡ []
pieces_drained lo hi rs =
    cond_both (ltb lo hi) (flat_map (cut lo hi) rs) rs (λ l. pieces lo hi l ≡ [])
    (λ t. pieces_cuts lo hi rs)
    (λ t. pieces_none lo hi rs (ltb-false lo hi t))

-- a list is sound in at most one way, so that a struct can hold the fact
pub sound_once : (b n : ℕ) (rs : List (ℕ × ℕ)) → IsProp (SoundFrom b n rs)
sound_once b n [] x y = refl
sound_once b n (r ∷ rs) x y =
    λ i. (le_prop x.0 y.0 i, le_prop x.1 y.1 i, le_prop x.2 y.2 i, sound_once (r.1 + 1) n rs x.3 y.3 i)

pub sound_held : (n : ℕ) (rs : List (ℕ × ℕ)) → ∥ Sound n rs ∥₁ → Sound n rs
sound_held n rs h = ∥∥₁_elim h (sound_once 0 n rs) (λ s. s)
