-- What the steps of a drain and of a discard do to the ranges of a list.
use Rattle.std.proofs.Common.{◌≡◌, ◌≢◌, ℕ, zero, suc, ◌+◌, ◌-◌, ◌<◌, ◌≤◌, max, eqb, List, [], ◌∷◌, ◌++◌, map, length, take, drop, set, slice_get, Some, None, Ok, Err, Result, sym, refl, ap, ◌∙◌, subst, inl, inr, append_assoc, add-one, arith, length-take, MatchResult}
use Rattle.std.specs.List.{insert}
use Rattle.std.proofs.lemmas.List.{map-set, length-take-le, length-set, take_more_set, drop_more, drop-drop, drop_at, take-take, take-append-le, drop_all, set_split, length-map, take-set-le, drop-set, take-append-drop}
use Rattle.std.proofs.lemmas.Bool.{cond-true, cond-false, eq-eqb, ne_eqb}
use Rattle.std.proofs.lemmas.List.Edits.{length-insert}
use Rattle.std.proofs.lemmas.Option.{slice_get_within, get_or_from_slice_get, slice_get_cases, none-some}
use Rattle.fault.specs.declared.refusal.Refusal.{Refusal}
use Rattle.range_list.specs.Ranges.{Sound, left_of, begun, closed, join}
use Rattle.range_list.proofs.Laws.{part_some, part_none}
use Rattle.range_list.specs.declared.list.InitTracker.{InitTracker}
use Rattle.range_list.specs.View.{ends, view, Declined}

take_of_set : {X : Type 0} (n i : ℕ) (xs : List X) (v : X) → take n (set xs i v) ≡ set (take n xs) i v
take_of_set zero i xs v = refl
take_of_set (suc n) i [] v = refl
take_of_set (suc n) zero (x ∷ xs) v = refl
take_of_set (suc n) (suc i) (x ∷ xs) v = ap (λ l. x ∷ l) (take_of_set n i xs v)

-- a view after a write, and at a place
pub view_set : {X Y : Type 0} (f : X → Y) (xs : List X) (n i : ℕ) (v : X) → map f (take n (set xs i v)) ≡ set (map f (take n xs)) i (f v)
view_set f xs n i v = ap (map f) (take_of_set n i xs v) ∙ map-set f (take n xs) i v

-- a list from a range on
from_range : (V : List (ℕ × ℕ)) (i : ℕ) (r : ℕ × ℕ) → slice_get V i ≡ Some r → drop i V ≡ r ∷ drop (i + 1) V
from_range V i r e = drop_more V i r (slice_get_within V i r e) ∙ ap (λ x. x ∷ drop (i + 1) V) (get_or_from_slice_get V i r r e)

past_all : (V : List (ℕ × ℕ)) (i : ℕ) → slice_get V i ≡ None → drop i V ≡ []
past_all V i e = elim (slice_get_cases V i).1 [
  | inl c ↦ absurd (none-some c.0 (sym e ∙ c.2))
  | inr c ↦ drop_all i V c.0
]

-- nothing of the list's range at i lies before lo
pub left_none : (V : List (ℕ × ℕ)) (i lo : ℕ) → slice_get V i ≡ None → left_of lo (drop i V) ≡ []
left_none V i lo e = rw (past_all V i e)

pub start_none : (V : List (ℕ × ℕ)) (k hi : ℕ) → slice_get V k ≡ None → V ≡ take k V ++ begun hi (drop k V)
start_none V k hi e = let a = past_all V k e in sym (take-append-drop k V) ∙ rw a

module _ (V : List (ℕ × ℕ)) (i : ℕ) (r : ℕ × ℕ) (e : slice_get V i ≡ Some r) where
  pub left_later : (lo : ℕ) → lo ≤ r.0 → left_of lo (drop i V) ≡ []
  left_later lo h = rw (from_range V i r e) (part_none r.0 lo h)

  pub end_kept : (lo : ℕ) → r.0 < lo → take (i + 1) (set V i (r.0, lo)) ≡ take i V ++ left_of lo (drop i V)
  end_kept lo h = take_more_set V i (r.0, lo) (slice_get_within V i r e) ∙ rw (from_range V i r e) (rw (part_some r.0 lo h))

  pub start_held : (hi : ℕ) → set V i (max r.0 hi, r.1) ≡ take i V ++ begun hi (drop i V)
  start_held hi = set_split V i (max r.0 hi, r.1) (slice_get_within V i r e) ∙ rw (← add-one) (rw (from_range V i r e))

  pub split_held : (lo hi : ℕ) → r.0 < lo → lo < hi → set (insert V (i + 1) (hi, r.1)) i (r.0, lo) ≡ closed lo hi i i V
  split_held lo hi sl lh =
      let W = insert V (i + 1) (hi, r.1) in
      let lt = slice_get_within V i r e in
      let l1 : length (take (i + 1) V) ≡ i + 1 = simp length-take (omega arith) in
      let lw = length-insert V (i + 1) (hi, r.1) (omega arith) in
      let a = set_split W i (r.0, lo) (omega arith) in
      let t : take i W ≡ take i V = take-append-le i (take (i + 1) V) ((hi, r.1) ∷ drop (i + 1) V) (omega arith) ∙ take-take i (i + 1) V (omega arith) in
      let q : drop (i + 1) W ≡ (hi, r.1) ∷ drop (i + 1) V = drop_at (take (i + 1) V) ((hi, r.1) ∷ drop (i + 1) V) (i + 1) l1 in
      let m : max r.0 hi ≡ hi = omega arith in
      a ∙ rw (t, ← add-one, q) (rw (from_range V i r e) (rw (part_some r.0 lo sl, m)))

  pub split_full : (lo hi : ℕ) → r.0 < lo → lo < hi → length V < length (closed lo hi i i V)
  split_full lo hi sl lh =
      let lt = slice_get_within V i r e in
      let h = ap length (split_held lo hi sl lh) in
      let a = length-set (insert V (i + 1) (hi, r.1)) i (r.0, lo) in
      let b = length-insert V (i + 1) (hi, r.1) (omega arith) in
      omega arith

pub close_held : (V V1 V2 V3 : List (ℕ × ℕ)) (lo hi a i k : ℕ) → i < k → k ≤ length V → i ≤ a → a ≤ i + 1 → length V1 ≡ length V
    → take a V1 ≡ take i V ++ left_of lo (drop i V) → drop (i + 1) V1 ≡ drop (i + 1) V
    → V2 ≡ take k V1 ++ begun hi (drop k V1) → V3 ≡ take a V2 ++ drop k V2 → V3 ≡ closed lo hi i k V
close_held V V1 V2 V3 lo hi a i k ik kl ia ai l f r g h =
    let lk : length (take k V1) ≡ k = simp length-take (omega arith) in
    let t : take a (take k V1 ++ begun hi (drop k V1)) ≡ take a V1 = take-append-le a (take k V1) (begun hi (drop k V1)) (omega arith) ∙ take-take a k V1 (omega arith) in
    let q : drop k (take k V1 ++ begun hi (drop k V1)) ≡ begun hi (drop k V1) = drop_at (take k V1) (begun hi (drop k V1)) k lk in
    let x : i + 1 + (k - (i + 1)) ≡ k = omega arith in
    let u : drop k V1 ≡ drop (k - (i + 1)) (drop (i + 1) V1) = sym (drop-drop (k - (i + 1)) (i + 1) V1 ∙ ap (λ m. drop m V1) x) in
    let v : drop k V ≡ drop (k - (i + 1)) (drop (i + 1) V) = sym (drop-drop (k - (i + 1)) (i + 1) V ∙ ap (λ m. drop m V) x) in
    let w : drop k V1 ≡ drop k V = cc in
    let z = append_assoc (take i V) (left_of lo (drop i V)) (begun hi (drop k V)) in
    cc

pub view_length : {I : Type 0} (p : I → ℕ) (t : InitTracker I) → length (view p t) ≡ t.len
view_length p t = length-map (take t.len t.places.now) (ends p) ∙ length-take-le t.len t.places.now t.fits

pub view_same : {I : Type 0} (p : I → ℕ) (t u : InitTracker I) → t.len ≡ u.len → t.places.now ≡ u.places.now → view p t ≡ view p u
view_same p t u l e = ap (λ n. map (ends p) (take n t.places.now)) l ∙ ap (λ xs. map (ends p) (take u.len xs)) e

-- a step that leaves these ranges, or is declined for them, does so for equal ones
pub left_by : {I X : Type 0} (p : I → ℕ) (old new : InitTracker I) (r : Result X Refusal) (rs ss : List (ℕ × ℕ)) → rs ≡ ss
    → MatchResult r (λ _. view p new ≡ rs) (Declined old new rs) → MatchResult r (λ _. view p new ≡ ss) (Declined old new ss)
left_by p old new r rs ss e h = subst (λ l. MatchResult r (λ _. view p new ≡ l) (Declined old new l)) e h

-- a list that such a step leaves is sound where these ranges are
pub left_sound : {I X : Type 0} (p : I → ℕ) (old new : InitTracker I) (r : Result X Refusal) (rs : List (ℕ × ℕ)) (n : ℕ)
    → MatchResult r (λ _. view p new ≡ rs) (Declined old new rs) → Sound n (view p old) → Sound n rs → Sound n (view p new)
left_sound p old new (Ok x) rs n h s t = subst (Sound n) (sym h) t
left_sound p old new (Err x) rs n h s t = subst (Sound n) (sym (view_same p new old h.1 h.2)) s

-- a range before the list from k on, which begins where it ends, begins later, or is empty
module _ (V : List (ℕ × ℕ)) (k a c : ℕ) where
  pub join_at : (r : ℕ × ℕ) → slice_get V k ≡ Some r → r.0 ≡ c → join (a, c) (drop k V) ≡ (a, r.1) ∷ drop (k + 1) V
  join_at r e q = rw (from_range V k r e) (cond-true (eqb c r.0) _ _ (eq-eqb c r.0 (sym q)))

  pub join_apart : (r : ℕ × ℕ) → slice_get V k ≡ Some r → r.0 ≢ c → join (a, c) (drop k V) ≡ (a, c) ∷ drop k V
  join_apart r e q = rw (from_range V k r e) (cond-false (eqb c r.0) _ _ (ne_eqb c r.0 (λ z. q (sym z))))

  pub join_none : slice_get V k ≡ None → join (a, c) (drop k V) ≡ (a, c) ∷ drop k V
  join_none e = rw (past_all V k e)

pub put_joined : (V : List (ℕ × ℕ)) (i k : ℕ) (w : ℕ × ℕ) → i ≤ k → k < length V → take i (set V k w) ++ drop k (set V k w) ≡ take i V ++ w ∷ drop (k + 1) V
put_joined V i k w le lt = let a = take-set-le i V k w le in let b = drop-set V k w lt in rw (a, b)

pub put_over : (V : List (ℕ × ℕ)) (i k : ℕ) (w : ℕ × ℕ) → k ≡ i + 1 → i < length V → set V i w ≡ take i V ++ w ∷ drop k V
put_over V i k w e lt = set_split V i w lt ∙ rw (e, add-one)

-- the first place, once written
pub first_set : {X Y : Type 0} (f : X → Y) (xs : List X) (v : X) → 0 < length xs → map f (take 1 (set xs 0 v)) ≡ f v ∷ []
first_set f [] v lt = absurd (omega arith)
first_set f (x ∷ xs) v lt = refl
