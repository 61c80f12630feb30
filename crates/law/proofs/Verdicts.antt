-- What an accepted verdict says of the causes that were tried.
use Rattle.std.proofs.Common.{◌≡◌, ℕ, ◌+◌, ◌<◌, ◌≤◌, Bool, true, false, cond, not, ◌&&◌, ◌||◌, ltb, leb, List, [], ◌∷◌, Ok, Err, Result, refl, arith}
use Rattle.std.proofs.lemmas.Bool.Decides.{nat_tests}
use Rattle.std.proofs.lemmas.Bool.{ltb-true}
use Rattle.fault.specs.declared.refusal.Refusal.{Refusal}
use Rattle.fault.specs.declared.refusal.Refusal.TheVariants.{Unknown, WrongState, InDebt as Indebted}
use Rattle.rules.specs.Verdicts.{Verdict, tried, and_then}
use Rattle.rules.specs.Lists.{allows}
use Rattle.rules.specs.declared.list_state.ListState.{ListState}
use Rattle.rules.specs.declared.list_state.ListState.TheVariants.{Idle, Recording, InDebt, Closed, Broken}
use Rattle.rules.specs.declared.list_state.ListCall.TheVariants.{Step as Record, Submit}
use Rattle.law.specs.Pages.{World, buffer_count, list_count}
use Rattle.law.specs.Recording.{known_page, known_buffer, known_texture}

pub err_ok : {E : Type 0} (e : E) → ◌≡◌ {A = Result (Unit {0}) E} (Err e) (Ok tt) → ⊥
err_ok e h = let z : ◌≡◌ {A = ℕ} 0 1 = cc in omega arith

pub both_ok : {E : Type 0} (a b : Result (Unit {0}) E) → and_then a b ≡ Ok tt → (a ≡ Ok tt) × (b ≡ Ok tt)
both_ok (Ok u) b h = (refl, h)
both_ok (Err e) b h = absurd (err_ok e h)

pub cond_ok : {E : Type 0} (b : Bool) (e : E) → ◌≡◌ {A = Result (Unit {0}) E} (cond b (Ok tt) (Err e)) (Ok tt) → b ≡ true
cond_ok true e h = refl
cond_ok false e h = absurd (err_ok e h)

pub cond_no : (b : Bool) (e : Refusal) (v : Verdict) → cond b (Err e) v ≡ Ok tt → (b ≡ false) × (v ≡ Ok tt)
cond_no true e v h = absurd (err_ok e h)
cond_no false e v h = (refl, h)

-- the first of the causes does not hold, and the others are tried
pub next_ok : (b : Bool) (e : Refusal) (cs : List (Bool × Refusal)) → tried ((b, e) ∷ cs) ≡ Ok tt → (b ≡ false) × (tried cs ≡ Ok tt)
next_ok b e cs h = cond_no b e (tried cs) h

-- none of the causes holds
abbrev pub NoneHolds : List (Bool × Refusal) → Type 0
NoneHolds [] = Unit {0}
NoneHolds (c ∷ cs) = (c.0 ≡ false) × NoneHolds cs

pub none_holds : (cs : List (Bool × Refusal)) → tried cs ≡ Ok tt → NoneHolds cs
none_holds [] h = tt
none_holds (c ∷ cs) h = let here = next_ok c.0 c.1 cs h in (here.0, none_holds cs here.1)

pub page_known : (l : ℕ) → known_page l ≡ Ok tt → l < list_count
page_known l h = ltb-true l list_count (cond_ok (ltb l list_count) Unknown h)

pub buffer_known : (w : World) (n : ℕ) → known_buffer w n ≡ Ok tt → n < w.made
buffer_known w n h = ltb-true n w.made (cond_ok (ltb n w.made) Unknown h)

between_known : (a n b : ℕ) → (leb a n && ltb n b) ≡ true → (a ≤ n) × (n < b)
between_known a n b e = (grind (arith, nat_tests), grind (arith, nat_tests))

pub texture_known : (w : World) (n : ℕ) → known_texture w n ≡ Ok tt → (buffer_count ≤ n) × (n < buffer_count + w.made_textures)
texture_known w n h = between_known buffer_count n (buffer_count + w.made_textures) (cond_ok (leb buffer_count n && ltb n (buffer_count + w.made_textures)) Unknown h)

pub records : (s : ListState) → allows s Record ≡ Ok tt → s ≡ Recording
records Idle h = absurd (err_ok WrongState h)
records Recording h = refl
records InDebt h = absurd (err_ok Indebted h)
records Closed h = absurd (err_ok WrongState h)
records Broken h = absurd (err_ok WrongState h)

pub submits : (s : ListState) → allows s Submit ≡ Ok tt → s ≡ Closed
submits Idle h = absurd (err_ok WrongState h)
submits Recording h = absurd (err_ok WrongState h)
submits InDebt h = absurd (err_ok Indebted h)
submits Closed h = refl
submits Broken h = absurd (err_ok WrongState h)

-- tests that came out false
pub at_most : (a b : ℕ) → ltb a b ≡ false → b ≤ a
at_most a b e = grind (arith, nat_tests)

pub below : (a b : ℕ) → leb a b ≡ false → b < a
below a b e = grind (arith, nat_tests)

pub neither : (a b : Bool) → (a || b) ≡ false → (a ≡ false) × (b ≡ false)
neither a b e = (grind arith, grind arith)

pub not_false : (a : Bool) → not a ≡ false → a ≡ true
not_false a e = grind arith
