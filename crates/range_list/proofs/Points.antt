-- The points at which a bisection splits the ranges of a list, and the ranges that a query meets between two of them.
use Rattle.std.proofs.Common.{◌≡◌, ℕ, zero, suc, ◌+◌, ◌-◌, ◌<◌, ◌≤◌, min, max, Bool, true, false, List, [], ◌∷◌, ◌++◌, map, length, get_or, take, drop, slice_get, not, ltb, Some, None, Option, MatchOption, ◌⊎◌, sym, refl, ap, ◌∙◌, subst, inl, inr, arith}
use Rattle.std.specs.List.Sorted.{IsPartitionPoint, IsNonDecreasingBy}
use Rattle.std.proofs.lemmas.Bool.{cases_lt, cond-true, cond-false, cond_both, lt-ltb, le-ltb, ltb-true}
use Rattle.std.proofs.lemmas.Bool.Decides.{nat_tests}
use Rattle.std.proofs.lemmas.List.{get_or-map, get_or-take, length-map, length-take-le, take-map, drop-map}
use Rattle.std.proofs.lemmas.Option.{slice_get_within, get_or_from_slice_get, slice_get-get_or, none-some, same_Some}
use Rattle.range_list.specs.Ranges.{SoundFrom, Sound, IsSound, pieces, clipped, meets, meeting, checked, met, upto, drained, closed, discarded, added, join}
use Rattle.range_list.specs.View.{ends, all_ends, positions}
use Rattle.range_list.specs.declared.span.Span.{Span}
use Rattle.range_list.proofs.Laws.{ascends, apart, filled, part_some, part_none, drained_closed, discarded_in, discarded_grow, discarded_put, sound_discarded}

-- i ranges of the list end by at
abbrev pub EndBy : ℕ → List (ℕ × ℕ) → ℕ → Type 0
EndBy at rs i = IsPartitionPoint (λ (r : ℕ × ℕ). r.1 ≤ at) (λ r. at < r.1) rs i

-- i ranges of the list start before at
abbrev pub StartBefore : ℕ → List (ℕ × ℕ) → ℕ → Type 0
StartBefore at rs i = IsPartitionPoint (λ (r : ℕ × ℕ). r.0 < at) (λ r. at ≤ r.0) rs i

-- a place of a view shows some place of the list
spot : {X Y : Type 0} (f : X → Y) (xs : List X) (m : ℕ) (d : Y) → m < length xs → (x : X) × (get_or xs m x ≡ x) × (get_or (map f xs) m d ≡ f x)
spot f [] m d lt = absurd (omega arith)
spot f (x ∷ xs) zero d lt = (x, refl, refl)
spot f (x ∷ xs) (suc m) d lt = spot f xs m d (omega arith)

-- a point of some places is one of what they show
pub point_seen : {X Y : Type 0} (f : X → Y) (P Q : X → Type 0) (A B : Y → Type 0) (xs : List X) (i : ℕ) → i ≤ length xs → ((x : X) → P x → A (f x)) → ((x : X) → Q x → B (f x)) → IsPartitionPoint P Q xs i → IsPartitionPoint A B (map f xs) i
point_seen f P Q A B xs i le h k e = (
  λ m d a b. let s = spot f xs m d (omega arith) in subst A (sym s.2) (h s.0 (subst P s.1 (e.0 m s.0 a b))),
  λ m d a b. let l = length-map xs f in let s = spot f xs m d (omega arith) in subst B (sym s.2) (k s.0 (subst Q s.1 (e.1 m s.0 a (omega arith)))),
)

-- a part of a view shows that part of the list
pub seen_part : {X Y : Type 0} (f : X → Y) (xs : List X) (i c : ℕ) → take c (drop i (map f xs)) ≡ map f (take c (drop i xs))
seen_part f xs i c = rw (drop-map f i xs) (take-map f c (drop i xs))

module _ {I : Type 0} (p : I → ℕ) (xs : List (Span I)) (s : IsSound (all_ends p xs)) where
  pub ends_rise : IsNonDecreasingBy (λ x. p x.end) xs
  ends_rise i j d le lt =
      let l = length-map xs (ends p) in
      let a = ap (λ r. r.1) (get_or-map (ends p) xs i d (ends p d) (omega arith)) in
      let b = ap (λ r. r.1) (get_or-map (ends p) xs j d (ends p d) lt) in
      elim (cases_lt i j) [
        | inl q ↦ omega (arith, ascends 0 s.0 i j (all_ends p xs) (ends p d) s.1 q (omega arith))
        | inr q ↦ let e : i ≡ j = omega arith in let z = ap (λ m. p (get_or xs m d).end) e in omega arith
      ]

  pub starts_rise : IsNonDecreasingBy (λ x. p x.start) xs
  starts_rise i j d le lt =
      let l = length-map xs (ends p) in
      let a = ap (λ r. r.0) (get_or-map (ends p) xs i d (ends p d) (omega arith)) in
      let b = ap (λ r. r.0) (get_or-map (ends p) xs j d (ends p d) lt) in
      elim (cases_lt i j) [
        | inl q ↦ omega (arith, apart 0 s.0 i j (all_ends p xs) (ends p d) s.1 q (omega arith), filled 0 s.0 i (all_ends p xs) (ends p d) s.1 (omega arith))
        | inr q ↦ let e : i ≡ j = omega arith in let z = ap (λ m. p (get_or xs m d).start) e in omega arith
      ]

meets_it : (lo hi : ℕ) (r : ℕ × ℕ) → lo < hi → lo < r.1 → r.0 < hi → meets lo hi r ≡ true
meets_it lo hi r a b c = grind (arith, nat_tests)

meets_not : (lo hi : ℕ) (r : ℕ × ℕ) → (hi ≤ lo) ⊎ ((r.1 ≤ lo) ⊎ (hi ≤ r.0)) → meets lo hi r ≡ false
meets_not lo hi r h = grind (arith, nat_tests)

-- a query that holds no position meets no range
pub meeting_none : (lo hi : ℕ) (rs : List (ℕ × ℕ)) → hi ≤ lo → meeting lo hi rs ≡ []
meeting_none lo hi [] le = refl
meeting_none lo hi (r ∷ rs) le = cond-false (meets lo hi r) _ _ (meets_not lo hi r (inl le)) ∙ meeting_none lo hi rs le

-- the ranges that a query meets are those from the first that ends after its start on that start before its end
meeting_at : (lo hi i c : ℕ) (rs : List (ℕ × ℕ)) → lo < hi
    → ((m : ℕ) (d : ℕ × ℕ) → m < i → (get_or rs m d).1 ≤ lo)
    → ((m : ℕ) (d : ℕ × ℕ) → i ≤ m → m < length rs → lo < (get_or rs m d).1)
    → ((m : ℕ) (d : ℕ × ℕ) → m < i + c → (get_or rs m d).0 < hi)
    → ((m : ℕ) (d : ℕ × ℕ) → i + c ≤ m → m < length rs → hi ≤ (get_or rs m d).0)
    → meeting lo hi rs ≡ take c (drop i rs)
meeting_at lo hi zero zero [] lt s t u v = refl
meeting_at lo hi zero (suc c) [] lt s t u v = refl
meeting_at lo hi (suc i) zero [] lt s t u v = refl
meeting_at lo hi (suc i) (suc c) [] lt s t u v = refl
meeting_at lo hi zero zero (r ∷ rs) lt s t u v =
    cond-false (meets lo hi r) _ _ (meets_not lo hi r (inr (inr (v 0 r (omega arith) (omega arith)))))
    ∙ meeting_at lo hi zero zero rs lt (λ m d q. absurd (omega arith)) (λ m d q w. t (suc m) d (omega arith) (omega arith)) (λ m d q. absurd (omega arith)) (λ m d q w. v (suc m) d (omega arith) (omega arith))
meeting_at lo hi zero (suc c) (r ∷ rs) lt s t u v =
    cond-true (meets lo hi r) _ _ (meets_it lo hi r lt (t 0 r (omega arith) (omega arith)) (u 0 r (omega arith)))
    ∙ ap (λ l. r ∷ l) (meeting_at lo hi zero c rs lt (λ m d q. absurd (omega arith)) (λ m d q w. t (suc m) d (omega arith) (omega arith)) (λ m d q. u (suc m) d (omega arith)) (λ m d q w. v (suc m) d (omega arith) (omega arith)))
meeting_at lo hi (suc i) c (r ∷ rs) lt s t u v =
    cond-false (meets lo hi r) _ _ (meets_not lo hi r (inr (inl (s 0 r (omega arith)))))
    ∙ meeting_at lo hi i c rs lt (λ m d q. s (suc m) d (omega arith)) (λ m d q w. t (suc m) d (omega arith) (omega arith)) (λ m d q. u (suc m) d (omega arith)) (λ m d q w. v (suc m) d (omega arith) (omega arith))

module _ (lo hi i j : ℕ) (rs : List (ℕ × ℕ)) (lt : lo < hi) (h : IsSound rs) (e : EndBy lo rs i) (f : StartBefore hi rs j) (il : i ≤ length rs) (jl : j ≤ length rs) where
  pub in_order : i ≤ j
  in_order = elim (cases_lt j i) [
    | inl q ↦ omega (arith, e.0 j (0, 0) (omega arith) q, f.1 j (0, 0) (omega arith) (omega arith), filled 0 h.0 j rs (0, 0) h.1 (omega arith))
    | inr q ↦ q
  ]

  pub meeting_is : meeting lo hi rs ≡ take (j - i) (drop i rs)
  meeting_is =
      let o = in_order in
      meeting_at lo hi i (j - i) rs lt (λ m d q. e.0 m d (omega arith) q) e.1 (λ m d q. f.0 m d (omega arith) (omega arith)) (λ m d q w. f.1 m d (omega arith) w)

-- the pieces of a query are the ranges that it meets, each cut to it
pub pieces_meeting : (lo hi b n : ℕ) (rs : List (ℕ × ℕ)) → SoundFrom b n rs → pieces lo hi rs ≡ map (clipped lo hi) (meeting lo hi rs)
pieces_meeting lo hi b n [] h = refl
pieces_meeting lo hi b n (r ∷ rs) h =
    let e = pieces_meeting lo hi (r.1 + 1) n rs h.3 in
    cond_both (meets lo hi r) (r ∷ meeting lo hi rs) (meeting lo hi rs) (λ l. pieces lo hi (r ∷ rs) ≡ map (clipped lo hi) l)
    (λ t. let lt : max r.0 lo < min r.1 hi = grind (arith, nat_tests) in rw (part_some (max r.0 lo) (min r.1 hi) lt, e))
    (λ t. let ge : min r.1 hi ≤ max r.0 lo = grind (arith, nat_tests) in rw (part_none (max r.0 lo) (min r.1 hi) ge, e))

-- what a check answers where a query meets these ranges
abbrev pub answered : ℕ → ℕ → List (ℕ × ℕ) → Option (ℕ × ℕ)
answered lo hi [] = None
answered lo hi (r ∷ []) = Some (clipped lo hi r)
answered lo hi (r ∷ t ∷ ts) = Some (max r.0 lo, hi)

-- past the query's end it meets none
meeting_past : (lo hi b n : ℕ) (rs : List (ℕ × ℕ)) → hi ≤ b → SoundFrom b n rs → meeting lo hi rs ≡ []
meeting_past lo hi b n [] le h = refl
meeting_past lo hi b n (r ∷ rs) le h =
    cond-false (meets lo hi r) _ _ (meets_not lo hi r (inr (inr (omega arith)))) ∙ meeting_past lo hi (r.1 + 1) n rs (omega arith) h.3

answered_from : (lo hi n : ℕ) (r : ℕ × ℕ) (rs : List (ℕ × ℕ)) → lo < hi → lo < r.1 → SoundFrom (r.1 + 1) n rs → Some (max r.0 lo, upto r rs hi) ≡ answered lo hi (r ∷ meeting lo hi rs)
answered_from lo hi n r [] lt a h = refl
answered_from lo hi n r (t ∷ ts) lt a h =
    elim (cases_lt t.0 hi) [
      | inl q ↦ rw (lt-ltb t.0 hi q, lt-ltb lo hi lt, lt-ltb lo t.1 (omega arith))
      | inr q ↦ rw (le-ltb t.0 hi q, lt-ltb lo hi lt, lt-ltb lo t.1 (omega arith)) (rw (meeting_past lo hi (t.1 + 1) n ts (omega arith) h.3))
    ]

met_meeting : (lo hi b n : ℕ) (rs : List (ℕ × ℕ)) → lo < hi → SoundFrom b n rs → met lo hi rs ≡ answered lo hi (meeting lo hi rs)
met_meeting lo hi b n [] lt h = refl
met_meeting lo hi b n (r ∷ rs) lt h =
    elim (cases_lt lo r.1) [
      | inl q ↦ elim (cases_lt r.0 hi) [
        | inl w ↦ rw (lt-ltb lo r.1 q, lt-ltb r.0 hi w, lt-ltb lo hi lt) (answered_from lo hi n r rs lt q h.3)
        | inr w ↦ rw (lt-ltb lo r.1 q, le-ltb r.0 hi w, lt-ltb lo hi lt) (rw (meeting_past lo hi (r.1 + 1) n rs (omega arith) h.3))
      ]
      | inr q ↦ rw (le-ltb lo r.1 q, lt-ltb lo hi lt) (met_meeting lo hi (r.1 + 1) n rs lt h.3)
    ]

pub checked_meeting : (lo hi n : ℕ) (rs : List (ℕ × ℕ)) → Sound n rs → checked lo hi rs ≡ answered lo hi (meeting lo hi rs)
checked_meeting lo hi n rs h =
    elim (cases_lt lo hi) [
      | inl q ↦ rw (lt-ltb lo hi q) (met_meeting lo hi 0 n rs q h)
      | inr q ↦ rw (le-ltb lo hi q, meeting_none lo hi rs q)
    ]

-- a drain between two points of a list
pub drained_at : (lo hi i k : ℕ) (rs : List (ℕ × ℕ)) → lo < hi → IsSound rs → EndBy lo rs i → EndBy hi rs k → i ≤ length rs → k ≤ length rs → (i ≤ k) × (drained lo hi rs ≡ closed lo hi i k rs)
drained_at lo hi i k rs lt h e f il kl =
    drained_closed lo hi h.0 i k rs lt h.1 (λ m d q. e.0 m d (omega arith) q) e.1 (λ m d q. f.0 m d (omega arith) q) f.1 il kl

-- a discard at a point of a list, by the range there and the last before it
module _ (at n i : ℕ) (rs : List (ℕ × ℕ)) (lt : at < n) (h : Sound n rs) (e : EndBy at rs i) (il : i ≤ length rs) where
  before_at : (m : ℕ) (d : ℕ × ℕ) → m < i → (get_or rs m d).1 ≤ at
  before_at m d q = e.0 m d (omega arith) q

  added_is : added at n rs ≡ discarded at rs
  added_is = cond-true (ltb at n) (discarded at rs) rs (lt-ltb at n lt)

  pub added_in : (r : ℕ × ℕ) → slice_get rs i ≡ Some r → r.0 ≤ at → added at n rs ≡ rs
  added_in r s le =
      let z = ap (λ x. x.0) (get_or_from_slice_get rs i r r s) in
      added_is ∙ discarded_in 0 n at i rs h before_at e.1 r (slice_get_within rs i r s) (omega arith)

  pub added_grow : (r : ℕ × ℕ) → slice_get (take i rs) (i - 1) ≡ Some r → at ≤ r.1 → added at n rs ≡ take (i - 1) rs ++ join (r.0, at + 1) (drop i rs)
  added_grow r s le =
      let w = slice_get_within (take i rs) (i - 1) r s in
      let lk : i - 1 < i = omega (arith, w, length-take-le i rs il) in
      let g = sym (get_or-take i rs (i - 1) r lk) ∙ get_or_from_slice_get (take i rs) (i - 1) r r s in
      let z = ap (λ x. x.1) g in
      added_is ∙ discarded_grow 0 n at i rs h before_at e.1 (i - 1) r (omega arith) il (omega arith) ∙ ap (λ x. take (i - 1) rs ++ join (x.0, at + 1) (drop i rs)) g

  pub added_put : ((r : ℕ × ℕ) → slice_get (take i rs) (i - 1) ≡ Some r → r.1 < at) → ((r : ℕ × ℕ) → slice_get rs i ≡ Some r → at < r.0) → added at n rs ≡ take i rs ++ join (at, at + 1) (drop i rs)
  added_put u v =
      added_is ∙ discarded_put 0 n at i rs h before_at e.1
      (λ q d iq.
      let lq : q < i = omega arith in
      let k : i - 1 ≡ q = omega arith in
      let g = slice_get-get_or (take i rs) q d (omega (arith, length-take-le i rs il)) ∙ ap (λ r. Some r) (get_or-take i rs q d lq) in
      u (get_or rs q d) (ap (slice_get (take i rs)) k ∙ g))
      il
      (λ d q. v (get_or rs i d) (slice_get-get_or rs i d q))

-- an added position keeps a list sound
pub sound_added : (at n : ℕ) (rs : List (ℕ × ℕ)) → Sound n rs → Sound n (added at n rs)
sound_added at n rs h = cond_both (ltb at n) (discarded at rs) rs (Sound n) (λ t. sound_discarded 0 n at rs (omega arith) (ltb-true at n t) h) (λ t. h)

-- whether a list's range at a place starts by some position
module _ {I : Type 0} (p : I → ℕ) (at i : ℕ) (rs : List (ℕ × ℕ)) where
  pub started : (o : Option (Span I)) (b : Bool) → MatchOption o (b ≡ false) (λ x. b ≡ not (ltb at (p x.start))) → positions p o ≡ slice_get rs i → b ≡ true → (r : ℕ × ℕ) × (slice_get rs i ≡ Some r) × (r.0 ≤ at)
  started None b h e t = let z : ◌≡◌ {A = Bool} false true = sym h ∙ t in absurd (grind (arith, z))
  started (Some x) b h e t = (ends p x, sym e, grind (arith, nat_tests))

  pub not_started : (o : Option (Span I)) (b : Bool) → MatchOption o (b ≡ false) (λ x. b ≡ not (ltb at (p x.start))) → positions p o ≡ slice_get rs i → b ≡ false → (r : ℕ × ℕ) → slice_get rs i ≡ Some r → at < r.0
  not_started None b h e t r s = absurd (none-some r (e ∙ s))
  not_started (Some x) b h e t r s =
      let z = ap (λ y. y.0) (same_Some (ends p x) r (e ∙ s)) in
      let w : at < p x.start = grind (arith, nat_tests) in
      omega arith
