-- What a list of steps has discarded, covered and settled, surface by surface.
use Rattle.std.proofs.Common.{◌≡◌, ℕ, Bool, true, false, cond, not, ◌&&◌, ◌||◌, eqb, ◌⊎◌, List, [], ◌∷◌, ◌++◌, map, sym, refl, ap, ◌∙◌, subst, inl, inr, ⊎_elim, append_assoc, append-nil, arith}
use Rattle.std.proofs.lemmas.Bool.Decides.{nat_tests}
use Rattle.std.proofs.lemmas.Bool.{cases_Bool}
use Rattle.law.specs.Pages.{Surface, Announced, ListStep, OnBuffer, TextureRead, TextureWrite, ClearTexture, SettledClear, Discard, uses_of, same_surface, without, discards_after, discards_from, covered_after, covered_from, may_discard}

-- whether a surface is among others
abbrev pub has : Surface → List Surface → Bool
has f [] = false
has f (g ∷ gs) = same_surface f g || has f gs

-- whether a surface stands discarded, and whether it is settled, after one more step
abbrev pub discarded_after : ListStep → Surface → Bool → Bool
discarded_after (OnBuffer s) f d = d
discarded_after (TextureRead t a) f d = d && not (uses_of (TextureRead t a) f)
discarded_after (TextureWrite t b a) f d = d && not (uses_of (TextureWrite t b a) f)
discarded_after (ClearTexture t a) f d = d
discarded_after (SettledClear g) f d = d
discarded_after (Discard g) f d = d || same_surface f g

abbrev pub settled_after : ListStep → Surface → Bool → Bool
settled_after (OnBuffer s) f d = d
settled_after (TextureRead t a) f d = d && not (uses_of (TextureRead t a) f)
settled_after (TextureWrite t b a) f d = d && not (uses_of (TextureWrite t b a) f)
settled_after (ClearTexture t a) f d = d
settled_after (SettledClear g) f d = d || same_surface f g
settled_after (Discard g) f d = d

abbrev pub discarded_from : Surface → Bool → List ListStep → Bool
discarded_from f d [] = d
discarded_from f d (s ∷ ss) = discarded_from f (discarded_after s f d) ss

abbrev pub settled_from : Surface → Bool → List ListStep → Bool
settled_from f d [] = d
settled_from f d (s ∷ ss) = settled_from f (settled_after s f d) ss

-- one step more at the end
pub discarded_more : (f : Surface) (d : Bool) (ss : List ListStep) (s : ListStep) → discarded_from f d (ss ++ (s ∷ [])) ≡ discarded_after s f (discarded_from f d ss)
discarded_more f d [] s = refl
discarded_more f d (t ∷ ss) s = discarded_more f (discarded_after t f d) ss s

pub settled_more : (f : Surface) (d : Bool) (ss : List ListStep) (s : ListStep) → settled_from f d (ss ++ (s ∷ [])) ≡ settled_after s f (settled_from f d ss)
settled_more f d [] s = refl
settled_more f d (t ∷ ss) s = settled_more f (settled_after t f d) ss s

pub covered_more : (f : Surface) (d : Bool) (ss : List ListStep) (s : ListStep) → covered_from f d (ss ++ (s ∷ [])) ≡ covered_after s f (covered_from f d ss)
covered_more f d [] s = refl
covered_more f d (t ∷ ss) s = covered_more f (covered_after t f d) ss s

pub discards_more : (fs : List Surface) (ss : List ListStep) (s : ListStep) → discards_from fs (ss ++ (s ∷ [])) ≡ discards_after s (discards_from fs ss)
discards_more fs [] s = refl
discards_more fs (t ∷ ss) s = discards_more (discards_after t fs) ss s

pub parts : (a b c d p q : ℕ) → (eqb a b && (eqb c d && eqb p q)) ≡ true → (a ≡ b) × (c ≡ d) × (p ≡ q)
parts a b c d p q e = (grind (arith, nat_tests), grind (arith, nat_tests), grind (arith, nat_tests))

same_three : (a b c d p q : ℕ) → (a ≡ b) × (c ≡ d) × (p ≡ q)
    → ◌≡◌ {A = Surface} (record { texture = a; mip = c; layer = p }) (record { texture = b; mip = d; layer = q })
same_three a b c d p q e = cc (e.0, e.1, e.2)

-- the list of discards and the test agree
pub same_fields : (f g : Surface) → same_surface f g ≡ true → f ≡ g
same_fields f g e = same_three f.texture g.texture f.mip g.mip f.layer g.layer (parts f.texture g.texture f.mip g.mip f.layer g.layer e)

without_one : (e p q u w : Bool) → (p ≡ true → u ≡ w) → (e ≡ u) → cond e (q && not w) ((p || (q && not w))) ≡ ((p || q) && not w)
without_one e p q u w h k = grind arith

has_cond : (f : Surface) (e : Bool) (xs ys : List Surface) → has f (cond e xs ys) ≡ cond e (has f xs) (has f ys)
has_cond f true xs ys = refl
has_cond f false xs ys = refl

pub has_without : (s : ListStep) (f : Surface) (fs : List Surface) → has f (without s fs) ≡ (has f fs && not (uses_of s f))
has_without s f [] = refl
has_without s f (g ∷ fs) =
    let ih = has_without s f fs in
    has_cond f (uses_of s g) (without s fs) (g ∷ without s fs)
    ∙ ap (λ t. cond (uses_of s g) t (same_surface f g || t)) ih
    ∙ without_one (uses_of s g) (same_surface f g) (has f fs) (uses_of s g) (uses_of s f) (λ e. ap (uses_of s) (sym (same_fields f g e))) refl

or_false : (a : Bool) → (a || false) ≡ a
or_false a = grind arith

or_apart : (a b c : Bool) → (a || (b || c)) ≡ ((a || b) || c)
or_apart a b c = grind arith

has_last : (f g : Surface) (fs : List Surface) → has f (fs ++ (g ∷ [])) ≡ (has f fs || same_surface f g)
has_last f g [] = or_false (same_surface f g)
has_last f g (h ∷ fs) = ap (λ t. same_surface f h || t) (has_last f g fs) ∙ or_apart (same_surface f h) (has f fs) (same_surface f g)

has_after : (s : ListStep) (f : Surface) (fs : List Surface) → has f (discards_after s fs) ≡ discarded_after s f (has f fs)
has_after (OnBuffer s) f fs = refl
has_after (TextureRead t a) f fs = has_without (TextureRead t a) f fs
has_after (TextureWrite t b a) f fs = has_without (TextureWrite t b a) f fs
has_after (ClearTexture t a) f fs = refl
has_after (SettledClear g) f fs = refl
has_after (Discard g) f fs = has_last f g fs

pub has_discards : (f : Surface) (fs : List Surface) (ss : List ListStep) → has f (discards_from fs ss) ≡ discarded_from f (has f fs) ss
has_discards f fs [] = refl
has_discards f fs (s ∷ ss) = has_discards f (discards_after s fs) ss ∙ ap (λ d. discarded_from f d ss) (has_after s f fs)

-- what stands discarded was not covered since
exclusive_step : (s : ListStep) (f : Surface) (d v : Bool) → (d && v) ≡ false → (discarded_after s f d && covered_after s f v) ≡ false
exclusive_step (OnBuffer s) f d v e = e
exclusive_step (TextureRead t a) f d v e = grind arith
exclusive_step (TextureWrite t b a) f d v e = grind arith
exclusive_step (ClearTexture t a) f d v e = e
exclusive_step (SettledClear g) f d v e = e
exclusive_step (Discard g) f d v e = grind arith

pub exclusive : (f : Surface) (d v : Bool) (ss : List ListStep) → (d && v) ≡ false → (discarded_from f d ss && covered_from f v ss) ≡ false
exclusive f d v [] e = e
exclusive f d v (s ∷ ss) e = exclusive f (discarded_after s f d) (covered_after s f v) ss (exclusive_step s f d v e)

-- each surface once
abbrev pub Once : List Surface → Type 0
Once [] = Unit {0}
Once (f ∷ fs) = (has f fs ≡ false) × Once fs

once_cond : (e : Bool) (xs ys : List Surface) → Once xs → Once ys → Once (cond e xs ys)
once_cond true xs ys o p = o
once_cond false xs ys o p = p

pub once_without : (s : ListStep) (fs : List Surface) → Once fs → Once (without s fs)
once_without s [] o = tt
once_without s (f ∷ fs) o =
    let rest = once_without s fs o.1 in
    once_cond (uses_of s f) (without s fs) (f ∷ without s fs) rest
    (has_without s f fs ∙ ap (λ t. t && not (uses_of s f)) o.0, rest)

or_none : (a b : Bool) → (a || b) ≡ false → (a ≡ false) × (b ≡ false)
or_none a b e = (grind arith, grind arith)

neither : (a b : Bool) → a ≡ false → b ≡ false → (a || b) ≡ false
neither a b e f = grind arith

turned : (a b c d p q : ℕ) → (eqb b a && (eqb d c && eqb q p)) ≡ false → (eqb a b && (eqb c d && eqb p q)) ≡ false
turned a b c d p q e = grind (arith, nat_tests)

turned_same : (f g : Surface) → same_surface g f ≡ false → same_surface f g ≡ false
turned_same f g e = turned f.texture g.texture f.mip g.mip f.layer g.layer e

pub once_last : (g : Surface) (fs : List Surface) → Once fs → has g fs ≡ false → Once (fs ++ (g ∷ []))
once_last g [] o h = (refl, tt)
once_last g (f ∷ fs) o h =
    let both = or_none (same_surface g f) (has g fs) h in
    (has_last f g fs ∙ neither (has f fs) (same_surface f g) o.0 (turned_same f g both.0), once_last g fs o.1 both.1)

-- WHAT A LIST MAY HOLD after some steps: a read looks at no discarded surface that is not settled, nothing settled is
-- written over, a discard is of a covered surface, and a settled clear of a discarded one, once
abbrev pub GoodStep : List ListStep → ListStep → Type 0
GoodStep pre (OnBuffer s) = Unit {0}
GoodStep pre (TextureRead t a) =
    (f : Surface) → uses_of (TextureRead t a) f ≡ true → discarded_from f false pre ≡ true → settled_from f false pre ≡ true
GoodStep pre (TextureWrite t b a) = (f : Surface) → uses_of (TextureWrite t b a) f ≡ true → settled_from f false pre ≡ false
GoodStep pre (ClearTexture t a) = Unit {0}
GoodStep pre (SettledClear g) = (discarded_from g false pre ≡ true) × (settled_from g false pre ≡ false)
GoodStep pre (Discard g) = may_discard pre g ≡ true

abbrev pub Good : List ListStep → List ListStep → Type 0
Good pre [] = (f : Surface) → settled_from f false pre ≡ false
Good pre (s ∷ ss) = GoodStep pre s × Good (pre ++ (s ∷ [])) ss

pub good_join : (pre ss ts : List ListStep) → Good pre ss → Good (pre ++ ss) ts → Good pre (ss ++ ts)
good_join pre [] ts g h = subst (λ p. Good p ts) (append-nil pre) h
good_join pre (s ∷ ss) ts g h = (g.0, good_join (pre ++ (s ∷ [])) ss ts g.1 (subst (λ p. Good p ts) (sym (append_assoc pre (s ∷ []) ss)) h))

-- at the end of a good list nothing is settled
pub good_end : (pre ss : List ListStep) → Good pre ss → (f : Surface) → settled_from f false (pre ++ ss) ≡ false
good_end pre [] g f = ap (settled_from f false) (append-nil pre) ∙ g f
good_end pre (s ∷ ss) g f = ap (settled_from f false) (sym (append_assoc pre (s ∷ []) ss)) ∙ good_end (pre ++ (s ∷ [])) ss g.1 f

-- a settled read
abbrev pub read_of : Announced → ListStep
read_of r = TextureRead r.texture r.area

pub record Settling (r : Announced) (pre : List ListStep) (fs : List Surface) : Type 0 where
  pub once : Once fs
  pub owed : (f : Surface) → has f fs ≡ true → (discarded_from f false pre ≡ true) × (settled_from f false pre ≡ false)
  pub whole : (f : Surface) → uses_of (read_of r) f ≡ true → discarded_from f false pre ≡ true → (settled_from f false pre || has f fs) ≡ true
  pub only : (f : Surface) → settled_from f false pre ≡ true → uses_of (read_of r) f ≡ true
  pub used : (f : Surface) → has f fs ≡ true → uses_of (read_of r) f ≡ true

self_same : (a b c : ℕ) (q : Bool) → ((eqb a a && (eqb b b && eqb c c)) || q) ≡ true
self_same a b c q = grind (arith, nat_tests)

has_self : (f : Surface) (fs : List Surface) → has f (f ∷ fs) ≡ true
has_self f fs = self_same f.texture f.mip f.layer (has f fs)

either_true : (a b : Bool) → b ≡ true → (a || b) ≡ true
either_true a b e = grind arith

or_either : (a b : Bool) → (a || b) ≡ true → (a ≡ true) ⊎ (b ≡ true)
or_either true b e = inl refl
or_either false b e = inr e

differ : (a b : Bool) → a ≡ true → b ≡ false → a ≡ b → ◌≡◌ {A = ℕ} 0 1
differ a b e f g = grind arith

apart : (f g : Surface) (fs : List Surface) → has g fs ≡ false → has f fs ≡ true → same_surface f g ≡ false
apart f g fs n h =
    ⊎_elim
    (λ same. let z : ◌≡◌ {A = ℕ} 0 1 = differ (has f fs) (has g fs) h n (ap (λ k. has k fs) (same_fields f g same)) in absurd (omega arith))
    (λ other. other) (cases_Bool (same_surface f g))

settle_next : (r : Announced) (pre : List ListStep) (g : Surface) (fs : List Surface) → Settling r pre (g ∷ fs) → Settling r (pre ++ (SettledClear g ∷ [])) fs
settle_next r pre g fs t =
    let discarded : (f : Surface) → discarded_from f false (pre ++ (SettledClear g ∷ [])) ≡ discarded_from f false pre = λ f. discarded_more f false pre (SettledClear g) in
    let settled : (f : Surface) → settled_from f false (pre ++ (SettledClear g ∷ [])) ≡ (settled_from f false pre || same_surface f g) = λ f. settled_more f false pre (SettledClear g) in
    record {
      once = t.once.1;
      owed = λ f h.
          let old = t.owed f (either_true (same_surface f g) (has f fs) h) in
          (discarded f ∙ old.0, settled f ∙ neither (settled_from f false pre) (same_surface f g) old.1 (apart f g fs t.once.0 h));
      whole = λ f u d. ap (λ s. s || has f fs) (settled f) ∙ sym (or_apart (settled_from f false pre) (same_surface f g) (has f fs)) ∙ t.whole f u (sym (discarded f) ∙ d);
      only = λ f s. ⊎_elim (λ old. t.only f old) (λ new. subst (λ h. uses_of (read_of r) h ≡ true) (sym (same_fields f g new)) (t.used g (has_self g fs)))
          (or_either (settled_from f false pre) (same_surface f g) (sym (settled f) ∙ s));
      used = λ f h. t.used f (either_true (same_surface f g) (has f fs) h);
    }

gone : (s u : Bool) → (s ≡ true → u ≡ true) → (s && not u) ≡ false
gone s u h = grind arith

pub settle_good : (r : Announced) (pre : List ListStep) (fs : List Surface) → Settling r pre fs → Good pre (map SettledClear fs ++ (read_of r ∷ []))
settle_good r pre [] t = (
  (λ f u d. sym (or_false (settled_from f false pre)) ∙ t.whole f u d),
  λ f. settled_more f false pre (read_of r) ∙ gone (settled_from f false pre) (uses_of (read_of r) f) (t.only f),
)
settle_good r pre (g ∷ fs) t =
    (t.owed g (has_self g fs), settle_good r (pre ++ (SettledClear g ∷ [])) fs (settle_next r pre g fs t))
