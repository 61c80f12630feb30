-- Calls that record a step: the list and the ledger's list take it together, or the list breaks.
use Rattle.std.proofs.Common.{◌≡◌, ℕ, ◌<◌, Bool, true, false, List, [], ◌∷◌, ◌++◌, Ok, Err, sym, refl, ap, ◌∙◌, subst, ap₂, append-nil, arith}
use Rattle.fault.specs.declared.call_kind.CallKind.{CallKind}
use Rattle.fault.specs.declared.refusal.Refusal.{Refusal}
use Rattle.device.specs.Meaning.{Meaning}
use Rattle.rules.specs.Verdicts.{Verdict, tried}
use Rattle.rules.specs.Lists.{allows}
use Rattle.rules.specs.Steps.{given_up}
use Rattle.rules.specs.declared.list_state.ListState.{ListState}
use Rattle.rules.specs.declared.list_state.ListState.TheVariants.{Idle, Recording, InDebt, Closed, Broken}
use Rattle.rules.specs.declared.list_state.ListCall.TheVariants.{Step as Record}
use Rattle.law.specs.Pages.{World, Page, Surface, ListStep, list_count, page_at, put_page, discards_from, discards_after}
use Rattle.law.specs.Recording.{in_debt, known_page, step_verdict, stepped_page, with_steps, broken_page, unless_empty}
use Rattle.law.specs.Calls.{done_or}
use Rattle.law.specs.Ledger.{Ledger, joined_by, on_done}
use Rattle.law.proofs.Discards.{settled_after, settled_more, discards_more, Once, GoodStep, Good, good_join, good_end}
use Rattle.law.proofs.Plans.{ledger_steps, ledger_join}
use Rattle.law.proofs.Invariant.{live, StepOk, AllOk, ok_join, PageOk, Inv, put_here, paged_same, paged_list}
use Rattle.law.proofs.Entering.{Unreported}
use Rattle.law.proofs.Verdicts.{both_ok, page_known, records}

-- a list whose step was given up
broken_live : (s : ListState) → live (given_up s) ≡ true → live s ≡ true
broken_live Idle e = e
broken_live Recording e = refl
broken_live InDebt e = refl
broken_live Closed e = refl
broken_live Broken e = e

broken_debt : (s : ListState) → in_debt (given_up s) ≡ true → in_debt s ≡ true
broken_debt Idle e = e
broken_debt Recording e = e
broken_debt InDebt e = refl
broken_debt Closed e = e
broken_debt Broken e = e

pub page_broken : (w : World) (l : Ledger) (k : ℕ) (p : Page) → PageOk w l k p → PageOk w l k (broken_page p)
page_broken w l k p o =
    record {
      lively = λ h. let old = o.lively (broken_live p.state h) in record { ok = old.ok; good = old.good; once = old.once; steps = old.steps };
      waits = λ h. let old = o.waits (broken_debt p.state h) in record { read = old.read; reads = old.reads; waiting = old.waiting; owed = old.owed; area = old.area };
    }

-- what an accepted step brings: the list was recording, and the steps that it adds are of what there is and may stand
pub record Adds (w : World) (l : Ledger) (k : ℕ) (more mine : List ListStep) : Type 0 where
  pub low : k < list_count
  pub recording : (page_at w k).state ≡ Recording
  pub ok : AllOk w more
  pub good : Good (page_at w k).steps more
  pub once : Once (discards_from [] ((page_at w k).steps ++ more))
  pub same : mine ≡ ledger_steps more

no_debt : (s : ListState) → s ≡ Recording → in_debt s ≡ true → ⊥
no_debt s e h = let z : in_debt Recording ≡ true = subst (λ t. in_debt t ≡ true) e h in let y : ◌≡◌ {A = ℕ} 0 1 = cc in omega arith

is_live : (s : ListState) → s ≡ Recording → live s ≡ true
is_live s e = ap live e

pub page_more : (w : World) (m : Meaning) (l : Ledger) → Inv w m l → (k : ℕ) (more mine : List ListStep) → Adds w l k more mine
    → PageOk w (joined_by k mine l) k (with_steps (page_at w k) more)
page_more w m l inv k more mine a =
    let p = page_at w k in
    let old = (inv.pages k).lively (is_live p.state a.recording) in
    record {
      lively = λ h.
          record {
            ok = ok_join w p.steps more old.ok a.ok;
            good = good_join [] p.steps more old.good a.good;
            once = a.once;
            steps = put_here k (l.steps k ++ mine) l.steps ∙ ap₂ ◌++◌ old.steps a.same ∙ sym (ledger_join p.steps more);
          };
      waits = λ h. absurd (no_debt p.state a.recording h);
    }

-- a call that records, whatever its verdict
pub recorded_inv : (w : World) (m : Meaning) (l : Ledger) → Inv w m l → (kind : CallKind) (k n place : ℕ) (v : Verdict) (more mine : List ListStep)
    → (v ≡ Ok tt → Adds w l k more mine)
    → Inv (put_page w k (stepped_page (page_at w k) v more)) m (on_done (done_or kind n place v) (joined_by k mine l) l)
recorded_inv w m l inv kind k n place (Ok u) more mine f =
    let a = f refl in
    paged_list w m l inv k (with_steps (page_at w k) more) (l.steps k ++ mine) (l.waiting k) a.low (page_more w m l inv k more mine a)
recorded_inv w m l inv kind k n place (Err e) more mine f =
    paged_same w m l inv k (broken_page (page_at w k)) (page_broken w l k (page_at w k) (inv.pages k))

pub done_unreported : (kind : CallKind) (n place : ℕ) (v : Verdict) → Unreported (done_or kind n place v)
done_unreported kind n place (Ok u) = record { cells = refl; sums = refl }
done_unreported kind n place (Err e) = record { cells = refl; sums = refl }

-- an accepted step: its list, its resource, the list's state, its own causes
pub record Passed (k : ℕ) (w : World) (resource : Verdict) (causes : List (Bool × Refusal)) : Type 0 where
  pub low : k < list_count
  pub known : resource ≡ Ok tt
  pub recording : (page_at w k).state ≡ Recording
  pub clear : tried causes ≡ Ok tt

pub passed : (w : World) (k : ℕ) (known : Verdict) (causes : List (Bool × Refusal)) → step_verdict w k known causes ≡ Ok tt → Passed k w known causes
passed w k known causes h =
    let one = both_ok (known_page k) _ h in
    let two = both_ok known _ one.1 in
    let three = both_ok (allows (page_at w k).state Record) (tried causes) two.1 in
    record { low = page_known k one.0; known = two.0; recording = records (page_at w k).state three.0; clear = three.1 }

-- nothing to add
pub adds_none : (w : World) (m : Meaning) (l : Ledger) → Inv w m l → (k : ℕ) → k < list_count → (page_at w k).state ≡ Recording → Adds w l k [] []
adds_none w m l inv k low e =
    let old = (inv.pages k).lively (is_live (page_at w k).state e) in
    record {
      low = low;
      recording = e;
      ok = tt;
      good = λ f. good_end [] (page_at w k).steps old.good f;
      once = subst (λ ss. Once (discards_from [] ss)) (sym (append-nil (page_at w k).steps)) old.once;
      same = refl;
    }

-- one step to add
pub adds_one : (w : World) (m : Meaning) (l : Ledger) → Inv w m l → (k : ℕ) → k < list_count → (page_at w k).state ≡ Recording → (s : ListStep)
    → StepOk w s → (Good [] (page_at w k).steps → GoodStep (page_at w k).steps s) → ((f : Surface) → settled_after s f false ≡ false)
    → (Once (discards_from [] (page_at w k).steps) → Once (discards_after s (discards_from [] (page_at w k).steps))) → s ∷ [] ≡ ledger_steps (s ∷ [])
    → Adds w l k (s ∷ []) (s ∷ [])
adds_one w m l inv k low e s ok good clean once same =
    let ss = (page_at w k).steps in
    let old = (inv.pages k).lively (is_live (page_at w k).state e) in
    record {
      low = low;
      recording = e;
      ok = (ok, tt);
      good = (good old.good, λ f. settled_more f false ss s ∙ ap (settled_after s f) (good_end [] ss old.good f) ∙ clean f);
      once = subst Once (sym (discards_more [] ss s)) (once old.once);
      same = same;
    }

-- a step that joins unless it is of nothing
pub adds_unless : (w : World) (m : Meaning) (l : Ledger) → Inv w m l → (k : ℕ) → k < list_count → (page_at w k).state ≡ Recording → (any : Bool) (s : ListStep)
    → (any ≡ true → Adds w l k (s ∷ []) (s ∷ [])) → Adds w l k (unless_empty any s) (unless_empty any s)
adds_unless w m l inv k low e true s f = f refl
adds_unless w m l inv k low e false s f = adds_none w m l inv k low e
