-- Calls on lists that record no step of their own: open, close, abandon, announce, settle and withdraw.
use Rattle.std.proofs.Common.{◌≡◌, ℕ, ◌<◌, ◌≤◌, Bool, true, false, cond, not, ◌&&◌, ◌||◌, eqb, ltb, leb, List, [], ◌∷◌, ◌++◌, map, Ok, Err, sym, refl, ap, ◌∙◌, subst, ap₂, ⊎_elim, append-nil, arith}
use Rattle.std.proofs.lemmas.Bool.Decides.{nat_tests}
use Rattle.std.proofs.lemmas.Bool.{cases_lt, lt-ltb, le-ltb}
use Rattle.fault.specs.declared.call_kind.CallKind.TheVariants as kind
use Rattle.fault.specs.declared.refusal.Refusal.TheVariants as cause
use Rattle.device.specs.Meaning.{Meaning, Followed}
use Rattle.rules.specs.Verdicts.{Verdict, tried, and_then, accepts}
use Rattle.rules.specs.Lists.{allows, becomes}
use Rattle.rules.specs.declared.list_state.ListState.{ListState}
use Rattle.rules.specs.declared.list_state.ListState.TheVariants.{Idle, Recording, InDebt, Closed, Broken}
use Rattle.rules.specs.declared.list_state.ListCall.TheVariants as asked
use Rattle.law.specs.Pages.{World, Page, Area, Surface, Announced, ListStep, OnBuffer, TextureRead, TextureWrite, ClearTexture, SettledClear, Discard, list_count, texture_at, page_at, put_page, holds_any, uses_of, same_surface, without, discards_after, discards_from, owed_by}
use Rattle.law.specs.Recording.{Debt, known_page, known_texture, area_causes, in_debt, debt_verdict, step_verdict, unless_empty, called_page, announced_page, indebted, read_steps, settled_steps, settled_page, spent_page, settle_causes, owes_uncleared, unclearable, broken_page}
use Rattle.law.specs.Submitting.{shapes}
use Rattle.law.specs.Calls.{Open, Close, Abandon, Announce, Settle, Withdraw, Unknown, done_or, owed_or, spent, settled, withdrawn, outcome}
use Rattle.law.specs.Ledger.{Ledger, with_list, on_done, on_owed}
use Rattle.law.specs.Laws.{entry_of}
use Rattle.law.proofs.Ahead.{can_clear}
use Rattle.law.proofs.Discards.{has, settled_from, has_discards, Once, once_without, Good, good_join, good_end, read_of, same_fields, Settling, settle_good}
use Rattle.law.proofs.Plans.{ledger_steps, ledger_join}
use Rattle.law.proofs.Invariant.{live, AreaOk, SurfaceOk, StepOk, AllOk, ok_join, PageOk, Inv, put_here, paged_same, paged_list, paged_past, still}
use Rattle.law.proofs.Entering.{Unreported, Entered, plain_entered, done_alike, done_marks, done_sizes, owed_alike, owed_marks, owed_sizes}
use Rattle.law.proofs.Verdicts.{none_holds, both_ok, page_known, neither}
use Rattle.law.proofs.Recorded.{page_broken, done_unreported, passed}
use Rattle.law.proofs.Steps.{area_ok}

differ : (b : Bool) → b ≡ false → b ≡ true → ◌≡◌ {A = ℕ} 0 1
differ b e h = grind arith

-- a list that is not live asks for nothing
dead : (w : World) (l : Ledger) (k : ℕ) (p : Page) → live p.state ≡ false → in_debt p.state ≡ false → PageOk w l k p
dead w l k p e d =
    record {
      lively = λ h. let z : ◌≡◌ {A = ℕ} 0 1 = differ (live p.state) e h in absurd (omega arith);
      waits = λ h. let z : ◌≡◌ {A = ℕ} 0 1 = differ (in_debt p.state) d h in absurd (omega arith);
    }

-- OPEN: an idle list records, with no steps
opened : (w : World) (l : Ledger) (k : ℕ) → PageOk w (with_list k [] [] l) k (record { state = Recording; steps = []; reads = []; owed = [] })
opened w l k =
    record {
      lively = λ h. record { ok = tt; good = λ f. refl; once = tt; steps = put_here k [] l.steps };
      waits = λ h. let z : ◌≡◌ {A = ℕ} 0 1 = differ false refl h in absurd (omega arith);
    }

open_page : (w : World) (m : Meaning) (l : Ledger) → Inv w m l → (k : ℕ) → k < list_count → (s : ListState) → (page_at w k).state ≡ s
    → Inv (put_page w k (cond (accepts (allows s asked.Open)) (record { state = becomes s asked.Open; steps = []; reads = []; owed = [] }) (page_at w k))) m (on_done (done_or kind.Open 255 64 (allows s asked.Open)) (with_list k [] [] l) l)
open_page w m l inv k low Idle e = paged_list w m l inv k _ [] [] low (opened w l k)
open_page w m l inv k low Recording e = paged_same w m l inv k (page_at w k) (inv.pages k)
open_page w m l inv k low InDebt e = paged_same w m l inv k (page_at w k) (inv.pages k)
open_page w m l inv k low Closed e = paged_same w m l inv k (page_at w k) (inv.pages k)
open_page w m l inv k low Broken e = paged_same w m l inv k (page_at w k) (inv.pages k)

known_low : (k : ℕ) → k < list_count → known_page k ≡ Ok tt
known_low k h = ap (λ t. cond t (Ok tt) (Err cause.Unknown)) (lt-ltb k list_count h)

known_past : (k : ℕ) → list_count ≤ k → known_page k ≡ Err cause.Unknown
known_past k h = ap (λ t. cond t (Ok tt) (Err cause.Unknown)) (le-ltb k list_count h)

-- CLOSE and ABANDON: the ledger knows nothing of them
closed_page : (w : World) (m : Meaning) (l : Ledger) → Inv w m l → (k : ℕ) → (s : ListState) → (page_at w k).state ≡ s
    → PageOk w l k (cond (accepts (allows s asked.Close)) (record { state = becomes s asked.Close; steps = (page_at w k).steps; reads = (page_at w k).reads; owed = (page_at w k).owed }) (page_at w k))
closed_page w m l inv k Idle e = inv.pages k
closed_page w m l inv k Recording e =
    let old = (inv.pages k).lively (ap live e) in
    record {
      lively = λ h. record { ok = old.ok; good = old.good; once = old.once; steps = old.steps };
      waits = λ h. let z : ◌≡◌ {A = ℕ} 0 1 = differ false refl h in absurd (omega arith);
    }
closed_page w m l inv k InDebt e = inv.pages k
closed_page w m l inv k Closed e = inv.pages k
closed_page w m l inv k Broken e = inv.pages k

abandoned_page : (w : World) (m : Meaning) (l : Ledger) → Inv w m l → (k : ℕ) → (s : ListState) → (page_at w k).state ≡ s
    → PageOk w l k (cond (accepts (allows s asked.Abandon)) (record { state = becomes s asked.Abandon; steps = []; reads = []; owed = [] }) (page_at w k))
abandoned_page w m l inv k Idle e = dead w l k _ refl refl
abandoned_page w m l inv k Recording e = dead w l k _ refl refl
abandoned_page w m l inv k InDebt e = inv.pages k
abandoned_page w m l inv k Closed e = dead w l k _ refl refl
abandoned_page w m l inv k Broken e = dead w l k _ refl refl

-- ANNOUNCE
announced_inv : (w : World) (m : Meaning) (l : Ledger) → Inv w m l → (k n : ℕ) (r : Announced) (v : Verdict)
    → (v ≡ Ok tt → (k < list_count) × ((page_at w k).state ≡ Recording) × AreaOk w r.texture r.area)
    → Inv (put_page w k (announced_page (page_at w k) v r)) m (on_owed (owed_or w k n r v) (with_list k (l.steps k) (r ∷ []) l) l)
announced_inv w m l inv k n r (Ok u) f =
    let a = f refl in
    let old = (inv.pages k).lively (ap live a.1) in
    paged_list w m l inv k (indebted (page_at w k) r) (l.steps k) (r ∷ []) a.0
    (record {
      lively = λ h. record { ok = old.ok; good = old.good; once = old.once; steps = put_here k (l.steps k) l.steps ∙ old.steps };
      waits = λ h. record { read = r; reads = refl; waiting = put_here k (r ∷ []) l.waiting; owed = refl; area = a.2 };
    })
announced_inv w m l inv k n r (Err e) f = paged_same w m l inv k (broken_page (page_at w k)) (page_broken w l k (page_at w k) (inv.pages k))

owed_unreported : (w : World) (k n : ℕ) (r : Announced) (v : Verdict) → Unreported (owed_or w k n r v)
owed_unreported w k n r (Ok u) = record { cells = refl; sums = refl }
owed_unreported w k n r (Err e) = record { cells = refl; sums = refl }

-- SETTLE: the surfaces that are owed are there, each once, and what the read looks at
abbrev AllThere : World → List Surface → Type 0
AllThere w [] = Unit {0}
AllThere w (f ∷ fs) = SurfaceOk w f × AllThere w fs

there_cond : (w : World) (e : Bool) (xs ys : List Surface) → AllThere w xs → AllThere w ys → AllThere w (cond e xs ys)
there_cond w true xs ys a b = a
there_cond w false xs ys a b = b

there_without : (w : World) (s : ListStep) (fs : List Surface) → AllThere w fs → AllThere w (without s fs)
there_without w s [] a = tt
there_without w s (f ∷ fs) a =
    there_cond w (uses_of s f) (without s fs) (f ∷ without s fs) (there_without w s fs a.1) (a.0, there_without w s fs a.1)

there_last : (w : World) (f : Surface) (fs : List Surface) → AllThere w fs → SurfaceOk w f → AllThere w (fs ++ (f ∷ []))
there_last w f [] a o = (o, tt)
there_last w f (g ∷ fs) a o = (a.0, there_last w f fs a.1 o)

there_after : (w : World) (s : ListStep) (fs : List Surface) → StepOk w s → AllThere w fs → AllThere w (discards_after s fs)
there_after w (OnBuffer s) fs o a = a
there_after w (TextureRead n b) fs o a = there_without w (TextureRead n b) fs a
there_after w (TextureWrite n byte b) fs o a = there_without w (TextureWrite n byte b) fs a
there_after w (ClearTexture n b) fs o a = a
there_after w (SettledClear f) fs o a = a
there_after w (Discard f) fs o a = there_last w f fs a o

there_from : (w : World) (ss : List ListStep) (fs : List Surface) → AllOk w ss → AllThere w fs → AllThere w (discards_from fs ss)
there_from w [] fs o a = a
there_from w (s ∷ ss) fs o a = there_from w ss (discards_after s fs) o.1 (there_after w s fs o.0 a)

there_owed : (w : World) (r : Announced) (fs : List Surface) → AllThere w fs → AllThere w (owed_by r fs)
there_owed w r [] a = tt
there_owed w r (f ∷ fs) a =
    there_cond w (uses_of (read_of r) f) (f ∷ owed_by r fs) (owed_by r fs) (a.0, there_owed w r fs a.1) (there_owed w r fs a.1)

settled_ok : (w : World) (fs : List Surface) → AllThere w fs → owes_uncleared w fs ≡ false → AllOk w (map SettledClear fs)
settled_ok w [] a e = tt
settled_ok w (f ∷ fs) a e =
    let both = neither (unclearable (texture_at w f.texture).shape.mode) (owes_uncleared w fs) e in
    ((a.0, can_clear (shapes w f.texture).mode both.0), settled_ok w fs a.1 both.1)

has_pick : (f : Surface) (e : Bool) (xs ys : List Surface) → has f (cond e xs ys) ≡ cond e (has f xs) (has f ys)
has_pick f true xs ys = refl
has_pick f false xs ys = refl

owed_one : (e p q u : Bool) → (p ≡ true → e ≡ u) → cond e (p || (q && u)) (q && u) ≡ ((p || q) && u)
owed_one e p q u h = grind arith

has_owed : (r : Announced) (f : Surface) (fs : List Surface) → has f (owed_by r fs) ≡ (has f fs && uses_of (read_of r) f)
has_owed r f [] = refl
has_owed r f (g ∷ fs) =
    let ih = has_owed r f fs in
    has_pick f (uses_of (read_of r) g) (g ∷ owed_by r fs) (owed_by r fs)
    ∙ ap (λ t. cond (uses_of (read_of r) g) (same_surface f g || t) t) ih
    ∙ owed_one (uses_of (read_of r) g) (same_surface f g) (has f fs) (uses_of (read_of r) f) (λ e. ap (uses_of (read_of r)) (sym (same_fields f g e)))

once_pick : (e : Bool) (xs ys : List Surface) → Once xs → Once ys → Once (cond e xs ys)
once_pick true xs ys o p = o
once_pick false xs ys o p = p

once_owed : (r : Announced) (fs : List Surface) → Once fs → Once (owed_by r fs)
once_owed r [] o = tt
once_owed r (f ∷ fs) o =
    let rest = once_owed r fs o.1 in
    once_pick (uses_of (read_of r) f) (f ∷ owed_by r fs) (owed_by r fs) (has_owed r f fs ∙ ap (λ t. t && uses_of (read_of r) f) o.0, rest) rest

both_in : (a b : Bool) → (a && b) ≡ true → (a ≡ true) × (b ≡ true)
both_in a b e = (grind arith, grind arith)

both_of : (s a b : Bool) → a ≡ true → b ≡ true → (s || (a && b)) ≡ true
both_of s a b e f = grind arith

settling : (r : Announced) (ss : List ListStep) → Good [] ss → Once (discards_from [] ss) → Settling r ss (owed_by r (discards_from [] ss))
settling r ss good once =
    let d = discards_from [] ss in
    let is : (f : Surface) → has f (owed_by r d) ≡ true → (has f d ≡ true) × (uses_of (read_of r) f ≡ true) = λ f h. both_in (has f d) (uses_of (read_of r) f) (sym (has_owed r f d) ∙ h) in
    record {
      once = once_owed r d once;
      owed = λ f h. (sym (has_discards f [] ss) ∙ (is f h).0, good_end [] ss good f);
      whole = λ f u h. ap (λ t. settled_from f false ss || t) (has_owed r f d) ∙ both_of (settled_from f false ss) (has f d) (uses_of (read_of r) f) (has_discards f [] ss ∙ h) u;
      only = λ f h. let z : ◌≡◌ {A = ℕ} 0 1 = differ (settled_from f false ss) (good_end [] ss good f) h in absurd (omega arith);
      used = λ f h. (is f h).1;
    }

-- a read of nothing looks at nothing
outside_all : (m0 m1 l0 l1 m l : ℕ) (e : Bool) → (ltb m0 m1 && ltb l0 l1) ≡ false → (e && ((leb m0 m && ltb m m1) && (leb l0 l && ltb l l1))) ≡ false
outside_all m0 m1 l0 l1 m l e h = grind (arith, nat_tests)

owes_none : (r : Announced) (fs : List Surface) → holds_any r.area ≡ false → owed_by r fs ≡ []
owes_none r [] h = refl
owes_none r (f ∷ fs) h =
    let a = r.area in
    ap (λ t. cond t (f ∷ owed_by r fs) (owed_by r fs)) (outside_all a.mip a.mip_end a.layer a.layer_end f.mip f.layer (eqb f.texture r.texture) h) ∙ owes_none r fs h

-- what settling adds
abbrev tail : Announced → List Surface → List ListStep
tail r fs = map SettledClear fs ++ (unless_empty (holds_any r.area) (read_of r) ++ [])

discards_join : (fs : List Surface) (ss ts : List ListStep) → discards_from fs (ss ++ ts) ≡ discards_from (discards_from fs ss) ts
discards_join fs [] ts = refl
discards_join fs (s ∷ ss) ts = discards_join (discards_after s fs) ss ts

discards_settled : (d fs : List Surface) (ts : List ListStep) → discards_from d (map SettledClear fs ++ ts) ≡ discards_from d ts
discards_settled d [] ts = refl
discards_settled d (f ∷ fs) ts = discards_settled d fs ts

ledger_settled : (fs : List Surface) (ts : List ListStep) → ledger_steps (map SettledClear fs ++ ts) ≡ ledger_steps ts
ledger_settled [] ts = refl
ledger_settled (f ∷ fs) ts = ledger_settled fs ts

ledger_read : (any : Bool) (r : Announced) (ts : List ListStep) → ledger_steps (unless_empty any (read_of r) ++ ts) ≡ unless_empty any (read_of r) ++ ledger_steps ts
ledger_read true r ts = refl
ledger_read false r ts = refl

ledger_reads : (rs : List Announced) → ledger_steps (read_steps rs) ≡ read_steps rs
ledger_reads [] = refl
ledger_reads (r ∷ rs) = ledger_read (holds_any r.area) r (read_steps rs) ∙ ap (λ ts. unless_empty (holds_any r.area) (read_of r) ++ ts) (ledger_reads rs)

record TailOk (w : World) (ss ts : List ListStep) : Type 0 where
  ok : AllOk w ts
  good : Good ss ts
  once : Once (discards_from [] (ss ++ ts))

tail_by : (w : World) (r : Announced) (ss : List ListStep) (any : Bool) → holds_any r.area ≡ any → AllOk w ss → Good [] ss → Once (discards_from [] ss) → AreaOk w r.texture r.area
    → owes_uncleared w (owed_by r (discards_from [] ss)) ≡ false
    → TailOk w ss (map SettledClear (owed_by r (discards_from [] ss)) ++ (unless_empty any (read_of r) ++ []))
tail_by w r ss true e ok good once area can =
    let d = discards_from [] ss in
    record {
      ok = ok_join w (map SettledClear (owed_by r d)) (read_of r ∷ []) (settled_ok w (owed_by r d) (there_owed w r d (there_from w ss [] ok tt)) can) (area, tt);
      good = settle_good r ss (owed_by r d) (settling r ss good once);
      once = subst Once (sym (discards_join [] ss (map SettledClear (owed_by r d) ++ (read_of r ∷ [])) ∙ discards_settled d (owed_by r d) (read_of r ∷ []))) (once_without (read_of r) d once);
    }
tail_by w r ss false e ok good once area can =
    let d = discards_from [] ss in
    subst (λ fs. TailOk w ss (map SettledClear fs ++ [])) (sym (owes_none r d e))
    (record { ok = tt; good = λ f. good_end [] ss good f; once = subst (λ ts. Once (discards_from [] ts)) (sym (append-nil ss)) once })

live_debt : (s : ListState) → in_debt s ≡ true → live s ≡ true
live_debt Idle e = e
live_debt Recording e = refl
live_debt InDebt e = refl
live_debt Closed e = refl
live_debt Broken e = e

-- an accepted settling
settled_page_lem : (w : World) (m : Meaning) (l : Ledger) → Inv w m l → (k : ℕ) → in_debt (page_at w k).state ≡ true → owes_uncleared w (page_at w k).owed ≡ false
    → PageOk w (with_list k (l.steps k ++ read_steps (l.waiting k)) [] l) k (settled_page (page_at w k))
settled_page_lem w m l inv k debt can =
    let p = page_at w k in
    let old = (inv.pages k).lively (live_debt p.state debt) in
    let waits = (inv.pages k).waits debt in
    let r = waits.read in
    let d = discards_from [] p.steps in
    let steps : settled_steps p ≡ tail r (owed_by r d) = ap₂ (λ fs rs. map SettledClear fs ++ read_steps rs) waits.owed waits.reads in
    let new : TailOk w p.steps (settled_steps p)
    = subst (TailOk w p.steps) (sym steps) (tail_by w r p.steps (holds_any r.area) refl old.ok old.good old.once waits.area (subst (λ fs. owes_uncleared w fs ≡ false) waits.owed can)) in
    record {
      lively = λ h.
          record {
            ok = ok_join w p.steps (settled_steps p) old.ok new.ok;
            good = good_join [] p.steps (settled_steps p) old.good new.good;
            once = new.once;
            steps = put_here k (l.steps k ++ read_steps (l.waiting k)) l.steps
                ∙ ap₂ (λ ss rs. ss ++ read_steps rs) old.steps waits.waiting
                ∙ ap (λ ts. ledger_steps p.steps ++ ts) (sym (ledger_settled p.owed (read_steps p.reads) ∙ ledger_reads p.reads))
                ∙ sym (ledger_join p.steps (settled_steps p));
          };
      waits = λ h. let z : ◌≡◌ {A = ℕ} 0 1 = differ false refl h in absurd (omega arith);
    }

spent_inv : (w : World) (m : Meaning) (l : Ledger) → Inv w m l → (k : ℕ) → k < list_count → in_debt (page_at w k).state ≡ true → (v : Verdict) → (v ≡ Ok tt → owes_uncleared w (page_at w k).owed ≡ false)
    → Inv (spent w k v).world m (on_done (spent w k v).reply (with_list k (l.steps k ++ read_steps (l.waiting k)) [] l) l)
spent_inv w m l inv k low debt (Ok u) f = paged_list w m l inv k (settled_page (page_at w k)) _ [] low (settled_page_lem w m l inv k debt (f refl))
spent_inv w m l inv k low debt (Err e) f = paged_same w m l inv k (spent_page (page_at w k)) (dead w l k _ refl refl)

spent_unreported : (w : World) (k : ℕ) (v : Verdict) → Unreported (spent w k v).reply
spent_unreported w k (Ok u) = record { cells = refl; sums = refl }
spent_unreported w k (Err e) = record { cells = refl; sums = refl }

settled_inv : (w : World) (m : Meaning) (l : Ledger) → Inv w m l → (k : ℕ) (d : Debt) (v : Verdict) → (v ≡ Ok tt → (k < list_count) × (in_debt (page_at w k).state ≡ true))
    → Inv (settled w k d v).world m (on_done (settled w k d v).reply (with_list k (l.steps k ++ read_steps (l.waiting k)) [] l) l)
settled_inv w m l inv k d (Ok u) f =
    spent_inv w m l inv k (f refl).0 (f refl).1 (tried (settle_causes w (page_at w k))) (λ h. (none_holds (settle_causes w (page_at w k)) h).1.0)
settled_inv w m l inv k d (Err e) f = inv

settled_unreported : (w : World) (k : ℕ) (d : Debt) (v : Verdict) → Unreported (settled w k d v).reply
settled_unreported w k d (Ok u) = spent_unreported w k (tried (settle_causes w (page_at w k)))
settled_unreported w k d (Err e) = record { cells = refl; sums = refl }

withdrawn_inv : (w : World) (m : Meaning) (l : Ledger) → Inv w m l → (k : ℕ) (d : Debt) (v : Verdict) → (v ≡ Ok tt → k < list_count)
    → Inv (withdrawn w k d v).world m (on_done (withdrawn w k d v).reply (with_list k (l.steps k) [] l) l)
withdrawn_inv w m l inv k d (Ok u) f = paged_list w m l inv k (spent_page (page_at w k)) (l.steps k) [] (f refl) (dead w _ k _ refl refl)
withdrawn_inv w m l inv k d (Err e) f = inv

withdrawn_unreported : (w : World) (k : ℕ) (d : Debt) (v : Verdict) → Unreported (withdrawn w k d v).reply
withdrawn_unreported w k d (Ok u) = record { cells = refl; sums = refl }
withdrawn_unreported w k d (Err e) = record { cells = refl; sums = refl }

debt_taken : (a b c : Bool) → not (a && (b && c)) ≡ false → c ≡ true
debt_taken a b c e = grind arith

debt_ok : (w : World) (k : ℕ) (d : Debt) → debt_verdict w k d ≡ Ok tt → (k < list_count) × (in_debt (page_at w k).state ≡ true)
debt_ok w k d h =
    let both = both_ok (known_page k) _ h in
    let cs = (not (eqb d.mark w.mark && (eqb d.list k && in_debt (page_at w k).state)), cause.NotThisDebt) ∷ [] in
    (page_known k both.0, debt_taken (eqb d.mark w.mark) (eqb d.list k) (in_debt (page_at w k).state) (none_holds cs both.1).0)

module _ (w : World) (m n : Meaning) (l : Ledger) (inv : Inv w m l) (followed : Followed m [] n) where
  still_so : {w' : World} {l' : Ledger} → Inv w' m l' → Inv w' n l'
  still_so {w'} {l'} i = still w' m n l' i (λ r j. followed.cells r j)

  pub announce : (k t : ℕ) (a : Area) → Entered (entry_of w m (Announce k t a)) l (outcome w m (Announce k t a)).world n
  announce k t a =
      let r : Announced = record { texture = t; area = a } in
      let causes = area_causes (texture_at w t) a in
      let v = step_verdict w k (known_texture w t) causes in
      let reply = owed_or w k t r v in
      plain_entered (entry_of w m (Announce k t a)) l _ n (record { none = λ s cs l'. refl; unmade = λ s. refl; kept = λ s l'. refl }) (owed_unreported w k t r v)
      (still_so (announced_inv w m l inv k t r v
      (λ h.
      let p = passed w k (known_texture w t) causes h in
      (p.low, p.recording, area_ok w m n l inv followed t a p.known (none_holds causes p.clear)))))
      (owed_marks reply (with_list k (l.steps k) (r ∷ []) l) l refl) (owed_sizes reply (with_list k (l.steps k) (r ∷ []) l) l refl)
      (λ cs j. owed_alike reply j (with_list k (l.steps k) (r ∷ []) l) l)

  pub settle : (k : ℕ) (d : Debt) → Entered (entry_of w m (Settle k d)) l (outcome w m (Settle k d)).world n
  settle k d =
      let v = debt_verdict w k d in
      let reply = (settled w k d v).reply in
      let new = with_list k (l.steps k ++ read_steps (l.waiting k)) [] l in
      plain_entered (entry_of w m (Settle k d)) l _ n (record { none = λ s cs l'. refl; unmade = λ s. refl; kept = λ s l'. refl }) (settled_unreported w k d v)
      (still_so (settled_inv w m l inv k d v (debt_ok w k d)))
      (done_marks reply new l refl) (done_sizes reply new l refl) (λ cs j. done_alike reply j new l)

  pub withdraw : (k : ℕ) (d : Debt) → Entered (entry_of w m (Withdraw k d)) l (outcome w m (Withdraw k d)).world n
  withdraw k d =
      let v = debt_verdict w k d in
      let reply = (withdrawn w k d v).reply in
      let new = with_list k (l.steps k) [] l in
      plain_entered (entry_of w m (Withdraw k d)) l _ n (record { none = λ s cs l'. refl; unmade = λ s. refl; kept = λ s l'. refl }) (withdrawn_unreported w k d v)
      (still_so (withdrawn_inv w m l inv k d v (λ h. (debt_ok w k d h).0)))
      (done_marks reply new l refl) (done_sizes reply new l refl) (λ cs j. done_alike reply j new l)

  open_inv : (k : ℕ) → Inv (put_page w k (called_page (page_at w k) asked.Open)) m (on_done (done_or kind.Open 255 64 (and_then (known_page k) (allows (page_at w k).state asked.Open))) (with_list k [] [] l) l)
  open_inv k =
      ⊎_elim
      (λ low. subst (λ v. Inv (put_page w k (called_page (page_at w k) asked.Open)) m (on_done (done_or kind.Open 255 64 (and_then v (allows (page_at w k).state asked.Open))) (with_list k [] [] l) l)) (sym (known_low k low)) (open_page w m l inv k low (page_at w k).state refl))
      (λ past. subst (λ v. Inv (put_page w k (called_page (page_at w k) asked.Open)) m (on_done (done_or kind.Open 255 64 (and_then v (allows (page_at w k).state asked.Open))) (with_list k [] [] l) l)) (sym (known_past k past)) (paged_past w m l inv k (called_page (page_at w k) asked.Open) past))
      (cases_lt k list_count)

  pub open_list : (k : ℕ) → Entered (entry_of w m (Open k)) l (outcome w m (Open k)).world n
  open_list k =
      let v = and_then (known_page k) (allows (page_at w k).state asked.Open) in
      let reply = done_or kind.Open 255 64 v in
      let new = with_list k [] [] l in
      plain_entered (entry_of w m (Open k)) l _ n (record { none = λ s cs l'. refl; unmade = λ s. refl; kept = λ s l'. refl }) (done_unreported kind.Open 255 64 v)
      (still_so (open_inv k)) (done_marks reply new l refl) (done_sizes reply new l refl) (λ cs j. done_alike reply j new l)

  pub close_list : (k : ℕ) → Entered (entry_of w m (Close k)) l (outcome w m (Close k)).world n
  close_list k =
      plain_entered (entry_of w m (Close k)) l _ n (record { none = λ s cs l'. refl; unmade = λ s. refl; kept = λ s l'. refl })
      (done_unreported kind.Close 255 64 (and_then (known_page k) (allows (page_at w k).state asked.Close)))
      (still_so (paged_same w m l inv k (called_page (page_at w k) asked.Close) (closed_page w m l inv k (page_at w k).state refl))) refl refl (λ cs j. refl)

  pub abandon_list : (k : ℕ) → Entered (entry_of w m (Abandon k)) l (outcome w m (Abandon k)).world n
  abandon_list k =
      plain_entered (entry_of w m (Abandon k)) l _ n (record { none = λ s cs l'. refl; unmade = λ s. refl; kept = λ s l'. refl })
      (done_unreported kind.Abandon 255 64 (and_then (known_page k) (allows (page_at w k).state asked.Abandon)))
      (still_so (paged_same w m l inv k (called_page (page_at w k) asked.Abandon) (abandoned_page w m l inv k (page_at w k).state refl))) refl refl (λ cs j. refl)

  pub unknown : Entered (entry_of w m Unknown) l (outcome w m Unknown).world n
  unknown =
      plain_entered (entry_of w m Unknown) l _ n (record { none = λ s cs l'. refl; unmade = λ s. refl; kept = λ s l'. refl }) (record { cells = refl; sums = refl }) (still_so inv) refl refl (λ cs j. refl)
