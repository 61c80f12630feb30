-- One submission over all cells: the planner and the device against the ledger under the planner's choice.
use Rattle.std.proofs.Common.{◌≡◌, ℕ, ◌+◌, Bool, true, cond, ◌&&◌, ◌||◌, List, [], ◌∷◌, ◌++◌, sym, refl, ap, ◌∙◌, subst, ap₂, arith}
use Rattle.law.specs.Ledger.{Cells, Bytes, nobody, Effect, Looks, Writes, Zeroes, Begins, Passes, Marks, Sizes, count_all, Each, turned, after_turns, says_of, sums_over, added_up, Always, ended, Sound, Thrifty}
use Rattle.law.specs.Laws.{either}
use Rattle.law.proofs.Sums.{sum_eq, sum_two, sum_none}
use Rattle.law.proofs.Cell.{Cell, cell_start, cell_done, cell_none, cell_look, cell_write, cell_zero, cell_begin, cell_pass, pass_once, all_owe, look_quiet, look_same}
use Rattle.law.proofs.Moves.{leaves, goes, sees, settles, by, Work, drained_set, kept_set, gone_set, device_after, said_all, plan_turns, settled_counts, Stands, Formed, Faithful, AllFaithful, AllReady, drained_in}

-- the state in the midst of a list: to be cleared before the ledger's next step, the copy of the book, discarded,
-- covered, settled; the steps to come; the device and the ledger
abbrev pub Mid : Sizes → Cells → Cells → Cells → Cells → Cells → List Work → Bytes → Marks → Type 0
Mid z c b g v s ws x l =
    Each z (λ r i. Cell (c r i) (b r i) (g r i) (v r i) (s r i) (drained_set b ws r i) (l.owes r i) (l.byte r i) (x r i))

pub record Right (z : Sizes) (ws : List Work) (c b g : Cells) (x : Bytes) (l : Marks) : Type 0 where
  pub ready : AllReady z (λ r i. kept_set b ws r i || gone_set g ws r i) (device_after ws x) (after_turns (plan_turns c ws) l)
  pub said : said_all ws x ≡ sums_over z (plan_turns c ws) l
  pub sound : Always (Sound z) (plan_turns c ws) l
  pub thrift : Always (Thrifty z) (plan_turns c ws) l
  pub cleared : added_up (ended z) (plan_turns c ws) l ≡ count_all z c + settled_counts z ws

at_byte : {d b g v s p o : Bool} {y x x' : ℕ} → x' ≡ x → Cell d b g v s p o y x → Cell d b g v s p o y x'
at_byte {d} {b} {g} {v} {s} {p} {o} {y} e c = subst (λ (t : ℕ). Cell d b g v s p o y t) (sym e) c

-- one step of any kind but a settled clear, and what follows from the rest of the list
module _ (z : Sizes) (k a : Cells) (dev : Bytes → Bytes) (says : Bytes → List ℕ) (ws : List Work) (c b g v s : Cells) (x : Bytes) (l : Marks) where
  abbrev work : Effect → Work
  work e = record { deed = record { effect = e; cover = k; own = a }; device = dev; said = says }

  abbrev Next : Effect → Type 0
  Next e =
      Mid z nobody (by leaves (work e).deed b) (by goes (work e).deed g) (by sees (work e).deed v) (by settles (work e).deed s) ws (dev x) (turned c (work e).deed l)

  abbrev Rest : Effect → Type 0
  Rest e = Right z ws nobody (by leaves (work e).deed b) (by goes (work e).deed g) (dev x) (turned c (work e).deed l)

  thrifty_here : (e : Effect) → Mid z c b g v s (work e ∷ ws) x l → Each z (λ r i. c r i ≡ true → l.owes r i ≡ true)
  thrifty_here e m r i h j t = ((m r i h j).first t).0

  ended_here : (e : Effect) → Mid z c b g v s (work e ∷ ws) x l → count_all z (λ r i. l.owes r i && c r i) ≡ count_all z c
  ended_here e m = sum_eq z _ _ (λ r i h j. all_owe (m r i h j))

  none_left : count_all z nobody ≡ 0
  none_left = sum_none z

  right_look : Faithful z (work Looks) → Each z (λ r i. Stands Looks (k r i) (g r i) (v r i) (s r i))
      → Mid z c b g v s (work Looks ∷ ws) x l → (Next Looks → Rest Looks) → Right z (work Looks ∷ ws) c b g x l
  right_look f t m ih =
      let next : Next Looks = λ r i h j. at_byte (f.cells x r i h j)
      (cell_look (k r i) (drained_set (by leaves (work Looks).deed b) ws r i) (m r i h j) (drained_in ws (by leaves (work Looks).deed b) r i) (t r i h j)) in
      let rest = ih next in
      let here = ended_here Looks m in
      let none = none_left in
      let same : says x ≡ says_of Looks z a l.byte = f.sums x ∙ ap (λ n. n ∷ [])
      (sum_eq z _ _ (λ r i h j. look_same (k r i) (drained_set (by leaves (work Looks).deed b) ws r i) (a r i) (m r i h j) (t r i h j) (f.inside r i h j))) in
      record {
        ready = rest.ready;
        said = ap₂ ◌++◌ same rest.said;
        sound = ((λ r i h j. look_quiet (k r i) (drained_set (by leaves (work Looks).deed b) ws r i) (m r i h j) (t r i h j)), rest.sound);
        thrift = (thrifty_here Looks m, rest.thrift);
        cleared = omega (arith, rest.cleared);
      }

  right_write : (w : ℕ) → Faithful z (work (Writes w)) → Mid z c b g v s (work (Writes w) ∷ ws) x l
      → (Next (Writes w) → Rest (Writes w)) → Right z (work (Writes w) ∷ ws) c b g x l
  right_write w f m ih =
      let next : Next (Writes w) = λ r i h j. at_byte (f.cells x r i h j)
      (cell_write (k r i) w (m r i h j) (drained_in ws (by leaves (work (Writes w)).deed b) r i)) in
      let rest = ih next in
      let here = ended_here (Writes w) m in
      let none = none_left in
      record {
        ready = rest.ready;
        said = ap₂ ◌++◌ (f.sums x) rest.said;
        sound = (tt, rest.sound);
        thrift = (thrifty_here (Writes w) m, rest.thrift);
        cleared = omega (arith, rest.cleared);
      }

  right_zero : Faithful z (work Zeroes) → Mid z c b g v s (work Zeroes ∷ ws) x l
      → (Next Zeroes → Rest Zeroes) → Right z (work Zeroes ∷ ws) c b g x l
  right_zero f m ih =
      let next : Next Zeroes = λ r i h j. at_byte (f.cells x r i h j) (cell_zero (k r i) (m r i h j)) in
      let rest = ih next in
      let here = ended_here Zeroes m in
      let none = none_left in
      record {
        ready = rest.ready;
        said = ap₂ ◌++◌ (f.sums x) rest.said;
        sound = (tt, rest.sound);
        thrift = (thrifty_here Zeroes m, rest.thrift);
        cleared = omega (arith, rest.cleared);
      }

  right_begin : Faithful z (work Begins) → Each z (λ r i. Stands Begins (k r i) (g r i) (v r i) (s r i))
      → Mid z c b g v s (work Begins ∷ ws) x l → (Next Begins → Rest Begins) → Right z (work Begins ∷ ws) c b g x l
  right_begin f t m ih =
      let next : Next Begins = λ r i h j. at_byte (f.cells x r i h j) (cell_begin (k r i) (m r i h j) (t r i h j)) in
      let rest = ih next in
      let here = ended_here Begins m in
      let none = none_left in
      record {
        ready = rest.ready;
        said = ap₂ ◌++◌ (f.sums x) rest.said;
        sound = (tt, rest.sound);
        thrift = (thrifty_here Begins m, rest.thrift);
        cleared = omega (arith, rest.cleared);
      }

  -- a settled clear: the ledger takes no step
  right_pass : Faithful z (work Passes) → Each z (λ r i. Stands Passes (k r i) (g r i) (v r i) (s r i))
      → Mid z c b g v s (work Passes ∷ ws) x l
      → (Mid z (either c k) b g v (by settles (work Passes).deed s) ws (dev x) l → Right z ws (either c k) b g (dev x) l)
      → Right z (work Passes ∷ ws) c b g x l
  right_pass f t m ih =
      let next : Mid z (either c k) b g v (by settles (work Passes).deed s) ws (dev x) l
      = λ r i h j. at_byte (f.cells x r i h j) (cell_pass (k r i) (m r i h j) (t r i h j)) in
      let rest = ih next in
      let here : count_all z (either c k) ≡ count_all z c + count_all z k = sum_two z _ _ _ (λ r i h j. pass_once (k r i) (m r i h j) (t r i h j)) in
      record {
        ready = rest.ready;
        said = ap₂ ◌++◌ (f.sums x) rest.said;
        sound = rest.sound;
        thrift = rest.thrift;
        cleared = omega (arith, rest.cleared);
      }

right_step : (z : Sizes) (e : Effect) (k a : Cells) (dev : Bytes → Bytes) (says : Bytes → List ℕ) (ws : List Work) (c b g v s : Cells) (x : Bytes) (l : Marks)
    → Faithful z (work z k a dev says ws c b g v s x l e)
    → Each z (λ r i. Stands e (k r i) (g r i) (v r i) (s r i))
    → Mid z c b g v s (work z k a dev says ws c b g v s x l e ∷ ws) x l
    → ((c' b' g' v' s' : Cells) (x' : Bytes) (l' : Marks)
    → Formed z g' v' s' ws → Mid z c' b' g' v' s' ws x' l' → Right z ws c' b' g' x' l')
    → Formed z (by goes (work z k a dev says ws c b g v s x l e).deed g) (by sees (work z k a dev says ws c b g v s x l e).deed v) (by settles (work z k a dev says ws c b g v s x l e).deed s) ws
    → Right z (work z k a dev says ws c b g v s x l e ∷ ws) c b g x l
right_step z Looks k a dev says ws c b g v s x l f t m ih formed =
    right_look z k a dev says ws c b g v s x l f t m (ih _ _ _ _ _ _ _ formed)
right_step z (Writes w) k a dev says ws c b g v s x l f t m ih formed =
    right_write z k a dev says ws c b g v s x l w f m (ih _ _ _ _ _ _ _ formed)
right_step z Zeroes k a dev says ws c b g v s x l f t m ih formed =
    right_zero z k a dev says ws c b g v s x l f m (ih _ _ _ _ _ _ _ formed)
right_step z Begins k a dev says ws c b g v s x l f t m ih formed =
    right_begin z k a dev says ws c b g v s x l f t m (ih _ _ _ _ _ _ _ formed)
right_step z Passes k a dev says ws c b g v s x l f t m ih formed =
    right_pass z k a dev says ws c b g v s x l f t m (ih _ _ _ _ _ _ _ formed)

pub right : (z : Sizes) (ws : List Work) (c b g v s : Cells) (x : Bytes) (l : Marks)
    → AllFaithful z ws → Formed z g v s ws → Mid z c b g v s ws x l → Right z ws c b g x l
right z [] c b g v s x l f formed m =
    let none : count_all z c ≡ 0 = sum_eq z _ _ (λ r i h j. cell_none (m r i h j) (formed r i h j)) ∙ sum_none z in
    record {
      ready = λ r i h j. cell_done (m r i h j) (formed r i h j);
      said = refl;
      sound = tt;
      thrift = tt;
      cleared = omega arith;
    }
right z (w ∷ ws) c b g v s x l f formed m =
    right_step z w.deed.effect w.deed.cover w.deed.own w.device w.said ws c b g v s x l f.0 formed.0 m
    (λ c' b' g' v' s' x' l' fm mid. right z ws c' b' g' v' s' x' l' f.1 fm mid) formed.1

-- a submission begins with the clears ahead of the steps
pub started : (z : Sizes) (ws : List Work) (c b : Cells) (x x' : Bytes) (l : Marks)
    → AllReady z b x l → Each z (λ r i. c r i ≡ drained_set b ws r i) → Each z (λ r i. x' r i ≡ cond (c r i) 0 (x r i))
    → Mid z c b nobody nobody nobody ws x' l
started z ws c b x x' l a e d r i h j =
    at_byte (d r i h j) (cell_start (c r i) (drained_set b ws r i) (a r i h j) (drained_in ws b r i) (e r i h j))
