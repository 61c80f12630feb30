-- Every choice of clears under which no read covers an owing cell ends at least as many owings as the planner clears
-- cells: one submission.
use Rattle.std.proofs.Common.{◌≡◌, ℕ, ◌+◌, ◌≤◌, Bool, true, false, cond, not, ◌&&◌, ◌||◌, List, [], ◌∷◌, refl, arith}
use Rattle.law.specs.Ledger.{Cells, Bytes, nobody, Effect, Looks, Writes, Zeroes, Begins, Passes, Marks, clear, Sizes, count_all, Each, turned, after_turns, added_up, Always, ended, Unowing, Sound}
use Rattle.law.proofs.Sums.{sum_eq, sum_two, sum_six, sum_none}
use Rattle.law.proofs.Moves.{leaves, takes, goes, sees, settles, by, Work, drained_set, kept_set, gone_set, settled_counts, Stands, Formed, zip_turns, drained_in}

-- b: in the copy of the book; g: discarded in this list; v: covered since; s: settled since
pub record Along (b g v s : Bool) : Type 0 where
  pub fresh : b ≡ true → (g ≡ false) × (v ≡ false)
  pub late : s ≡ true → (g ≡ true) × (v ≡ false)
  pub seen : g ≡ true → v ≡ false

along_step : (e : Effect) (k : Bool) {b g v s : Bool} → Along b g v s → Stands e k g v s
    → Along (leaves e k b) (goes e k g) (sees e k v) (settles e k s)
along_step Looks k a t = record { fresh = grind arith; late = grind arith; seen = grind arith }
along_step (Writes w) k a t = record { fresh = grind arith; late = grind arith; seen = grind arith }
along_step Zeroes k a t = a
along_step Begins k a t = record { fresh = grind arith; late = grind arith; seen = grind arith }
along_step Passes k a t = record { fresh = a.fresh; late = grind arith; seen = a.seen }

-- what the planner would have to clear that the other choice has not to, and what the other choice has still to clear of
-- what is settled; o: owes under the other choice
abbrev pub spare : Bool → Bool → Bool → Bool → ℕ
spare b g s o = cond ((b || (g && not s)) && not o) 1 0

abbrev pub unpaid : Bool → Bool → ℕ
unpaid s o = cond (s && o) 1 0

-- one step at one cell
pays_look : (k c o : Bool) {b g v s : Bool} → Along b g v s → ((k && g) ≡ true → s ≡ true) → (k ≡ true → (o && not c) ≡ false)
    → cond (b && k) 1 0 + spare (b && not k) (g && not k) (s && not k) (o && not c) + unpaid s o
    ≤ cond (o && c) 1 0 + spare b g s o + unpaid (s && not k) (o && not c)
pays_look k c o a t q = grind arith

pays_write : (k c o : Bool) {b g v s : Bool} → Along b g v s → (k ≡ true → s ≡ false)
    → 0 + spare (b && not k) (g && not k) (s && not k) ((o && not c) && not k) + unpaid s o
    ≤ cond (o && c) 1 0 + spare b g s o + unpaid (s && not k) ((o && not c) && not k)
pays_write k c o a t = grind arith

pays_zero : (c o : Bool) {b g v s : Bool} → Along b g v s
    → 0 + spare b g s (o && not c) + unpaid s o ≤ cond (o && c) 1 0 + spare b g s o + unpaid s (o && not c)
pays_zero c o a = grind arith

pays_begin : (k c o : Bool) {b g v s : Bool} → Along b g v s → (k ≡ true → v ≡ true)
    → 0 + spare b (g || k) s ((o && not c) || k) + unpaid s o ≤ cond (o && c) 1 0 + spare b g s o + unpaid s ((o && not c) || k)
pays_begin k c o a t = grind arith

pays_pass : (k o : Bool) {b g v s : Bool} → Along b g v s → (k ≡ true → (g ≡ true) × (s ≡ false))
    → cond k 1 0 + spare b g (s || k) o + unpaid s o ≤ 0 + spare b g s o + unpaid (s || k) o
pays_pass k o a t = grind arith

-- a cell is drained once
look_drain : (b k q : Bool) → (q ≡ true → (b && not k) ≡ true) → cond ((b && k) || q) 1 0 ≡ cond (b && k) 1 0 + cond q 1 0
look_drain b k q e = grind arith

else_drain : (q : Bool) → cond q 1 0 ≡ 0 + cond q 1 0
else_drain q = grind arith

-- the sums of these over all cells
abbrev pub spares : Sizes → Cells → Cells → Cells → Marks → ℕ
spares z b g s l = count_all z (λ r i. (b r i || (g r i && not (s r i))) && not (l.owes r i))

abbrev pub unpaids : Sizes → Cells → Marks → ℕ
unpaids z s l = count_all z (λ r i. s r i && l.owes r i)

abbrev pub AllAlong : Sizes → Cells → Cells → Cells → Cells → Type 0
AllAlong z b g v s = Each z (λ r i. Along (b r i) (g r i) (v r i) (s r i))

-- the planner's clears of a list, and what it has to spare in the end, against the other's
abbrev Least : Sizes → List Work → List Cells → Cells → Cells → Cells → Marks → Type 0
Least z ws cs b g s l =
    count_all z (drained_set b ws) + settled_counts z ws
    + count_all z (λ r i. (kept_set b ws r i || gone_set g ws r i) && not ((after_turns (zip_turns cs ws) l).owes r i))
    + unpaids z s l
    ≤ added_up (ended z) (zip_turns cs ws) l + spares z b g s l

module _ (z : Sizes) (k a : Cells) (dev : Bytes → Bytes) (says : Bytes → List ℕ) (ws : List Work) (b g v s : Cells) (l : Marks) where
  abbrev work : Effect → Work
  work e = record { deed = record { effect = e; cover = k; own = a }; device = dev; said = says }

  -- what is left to show once the rest of the list is known, of one real step after the other's clears c
  abbrev Now : Effect → Cells → Type 0
  Now e c =
      count_all z (by takes (work e).deed b)
      + spares z (by leaves (work e).deed b) (by goes (work e).deed g) (by settles (work e).deed s) (turned c (work e).deed l)
      + unpaids z s l
      ≤ count_all z (λ r i. l.owes r i && c r i) + spares z b g s l + unpaids z (by settles (work e).deed s) (turned c (work e).deed l)

  drain_two : (e : Effect) → count_all z (drained_set b (work e ∷ ws)) ≡ count_all z (by takes (work e).deed b) + count_all z (drained_set (by leaves (work e).deed b) ws)
  drain_two Looks =
      sum_two z _ _ _ (λ r i h j. look_drain (b r i) (k r i) (drained_set (by leaves (work Looks).deed b) ws r i) (drained_in ws (by leaves (work Looks).deed b) r i))
  drain_two (Writes w) = sum_two z _ _ _ (λ r i h j. else_drain (drained_set (by leaves (work (Writes w)).deed b) ws r i))
  drain_two Zeroes = sum_two z _ _ _ (λ r i h j. else_drain (drained_set b ws r i))
  drain_two Begins = sum_two z _ _ _ (λ r i h j. else_drain (drained_set b ws r i))
  drain_two Passes = sum_two z _ _ _ (λ r i h j. else_drain (drained_set b ws r i))

  none_taken : count_all z nobody ≡ 0
  none_taken = sum_none z

  now_look : (c : Cells) → AllAlong z b g v s → Each z (λ r i. Stands Looks (k r i) (g r i) (v r i) (s r i)) → Unowing Looks z k (clear c l) → Now Looks c
  now_look c al t q = sum_six z _ _ _ _ _ _ (λ r i h j. pays_look (k r i) (c r i) (l.owes r i) (al r i h j) (t r i h j) (q r i h j))

  now_write : (w : ℕ) (c : Cells) → AllAlong z b g v s → Each z (λ r i. Stands (Writes w) (k r i) (g r i) (v r i) (s r i)) → Now (Writes w) c
  now_write w c al t = sum_six z _ _ _ _ _ _ (λ r i h j. pays_write (k r i) (c r i) (l.owes r i) (al r i h j) (t r i h j))

  now_zero : (c : Cells) → AllAlong z b g v s → Now Zeroes c
  now_zero c al = sum_six z _ _ _ _ _ _ (λ r i h j. pays_zero (c r i) (l.owes r i) (al r i h j))

  now_begin : (c : Cells) → AllAlong z b g v s → Each z (λ r i. Stands Begins (k r i) (g r i) (v r i) (s r i)) → Now Begins c
  now_begin c al t = sum_six z _ _ _ _ _ _ (λ r i h j. pays_begin (k r i) (c r i) (l.owes r i) (al r i h j) (t r i h j))

  now_pass : AllAlong z b g v s → Each z (λ r i. Stands Passes (k r i) (g r i) (v r i) (s r i))
      → count_all z k + spares z b g (by settles (work Passes).deed s) l + unpaids z s l ≤ count_all z nobody + spares z b g s l + unpaids z (by settles (work Passes).deed s) l
  now_pass al t = sum_six z _ _ _ _ _ _ (λ r i h j. pays_pass (k r i) (l.owes r i) (al r i h j) (t r i h j))

-- one step, of any kind, before a list of which the claim is known
least_step : (z : Sizes) (e : Effect) (k a : Cells) (dev : Bytes → Bytes) (says : Bytes → List ℕ) (ws : List Work) (cs : List Cells) (b g v s : Cells) (l : Marks)
    → Each z (λ r i. Stands e (k r i) (g r i) (v r i) (s r i)) → AllAlong z b g v s
    → Always (Sound z) (zip_turns cs (work z k a dev says ws b g v s l e ∷ ws)) l
    → ((ds : List Cells) (l' : Marks) → Always (Sound z) (zip_turns ds ws) l'
    → Least z ws ds (by leaves (work z k a dev says ws b g v s l e).deed b) (by goes (work z k a dev says ws b g v s l e).deed g) (by settles (work z k a dev says ws b g v s l e).deed s) l')
    → Least z (work z k a dev says ws b g v s l e ∷ ws) cs b g s l
least_step z Looks k a dev says ws [] b g v s l t al q ih =
    let here = now_look z k a dev says ws b g v s l nobody al t q.0 in
    let rest = ih [] _ q.1 in
    let two = drain_two z k a dev says ws b g v s l Looks in
    omega arith
least_step z Looks k a dev says ws (c ∷ cs) b g v s l t al q ih =
    let here = now_look z k a dev says ws b g v s l c al t q.0 in
    let rest = ih cs _ q.1 in
    let two = drain_two z k a dev says ws b g v s l Looks in
    omega arith
least_step z (Writes w) k a dev says ws [] b g v s l t al q ih =
    let here = now_write z k a dev says ws b g v s l w nobody al t in
    let rest = ih [] _ q.1 in
    let two = drain_two z k a dev says ws b g v s l (Writes w) in
    omega arith
least_step z (Writes w) k a dev says ws (c ∷ cs) b g v s l t al q ih =
    let here = now_write z k a dev says ws b g v s l w c al t in
    let rest = ih cs _ q.1 in
    let two = drain_two z k a dev says ws b g v s l (Writes w) in
    omega arith
least_step z Zeroes k a dev says ws [] b g v s l t al q ih =
    let here = now_zero z k a dev says ws b g v s l nobody al in
    let rest = ih [] _ q.1 in
    let two = drain_two z k a dev says ws b g v s l Zeroes in
    omega arith
least_step z Zeroes k a dev says ws (c ∷ cs) b g v s l t al q ih =
    let here = now_zero z k a dev says ws b g v s l c al in
    let rest = ih cs _ q.1 in
    let two = drain_two z k a dev says ws b g v s l Zeroes in
    omega arith
least_step z Begins k a dev says ws [] b g v s l t al q ih =
    let here = now_begin z k a dev says ws b g v s l nobody al t in
    let rest = ih [] _ q.1 in
    let two = drain_two z k a dev says ws b g v s l Begins in
    omega arith
least_step z Begins k a dev says ws (c ∷ cs) b g v s l t al q ih =
    let here = now_begin z k a dev says ws b g v s l c al t in
    let rest = ih cs _ q.1 in
    let two = drain_two z k a dev says ws b g v s l Begins in
    omega arith
least_step z Passes k a dev says ws cs b g v s l t al q ih =
    let here = now_pass z k a dev says ws b g v s l al t in
    let rest = ih cs l q in
    let two = drain_two z k a dev says ws b g v s l Passes in
    let none = none_taken z k a dev says ws b g v s l in
    omega arith

ended_spare : (b g s o : Bool) → s ≡ false → ◌≡◌ {A = ℕ} (cond ((b || g) && not o) 1 0) (cond ((b || (g && not s)) && not o) 1 0)
ended_spare b g s o e = grind arith

settled_none : (s o : Bool) → s ≡ false → ◌≡◌ {A = ℕ} (cond (s && o) 1 0) 0
settled_none s o e = grind arith

pub least : (z : Sizes) (ws : List Work) (cs : List Cells) (b g v s : Cells) (l : Marks)
    → Formed z g v s ws → AllAlong z b g v s → Always (Sound z) (zip_turns cs ws) l → Least z ws cs b g s l
least z [] cs b g v s l f al q =
    let none = sum_none z in
    let same = sum_eq z _ _ (λ r i h j. ended_spare (b r i) (g r i) (s r i) (l.owes r i) (f r i h j)) in
    let paid = sum_eq z _ _ (λ r i h j. settled_none (s r i) (l.owes r i) (f r i h j)) in
    omega arith
least z (w ∷ ws) cs b g v s l f al q =
    least_step z w.deed.effect w.deed.cover w.deed.own w.device w.said ws cs b g v s l f.0 al q
    (λ ds l' q'. least z ws ds (by leaves w.deed b) (by goes w.deed g) (by sees w.deed v) (by settles w.deed s) l' f.1
    (λ r i h j. along_step w.deed.effect (w.deed.cover r i) (al r i h j) (f.0 r i h j)) q')

-- from a book on, with nothing discarded yet
pub least_list : (z : Sizes) (ws : List Work) (cs : List Cells) (b : Cells) (l : Marks)
    → Formed z nobody nobody nobody ws → Always (Sound z) (zip_turns cs ws) l
    → count_all z (drained_set b ws) + settled_counts z ws
    + count_all z (λ r i. (kept_set b ws r i || gone_set nobody ws r i) && not ((after_turns (zip_turns cs ws) l).owes r i))
    ≤ added_up (ended z) (zip_turns cs ws) l + count_all z (λ r i. b r i && not (l.owes r i))
least_list z ws cs b l f q =
    let all = least z ws cs b nobody nobody nobody l f (λ r i h j. record { fresh = λ e. (refl, refl); late = λ e. grind arith; seen = λ e. grind arith }) q in
    let same : count_all z (λ r i. b r i && not (l.owes r i)) ≡ spares z b nobody nobody l = sum_eq z _ _ (λ r i h j. grind arith) in
    omega arith
