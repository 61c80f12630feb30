-- What one call adds to a history: the invariant goes on, and each law goes on with it.
use Rattle.std.proofs.Common.{◌≡◌, ℕ, ◌+◌, ◌≤◌, not, ◌&&◌, List, [], sym, refl, ap, ◌∙◌, subst, ap₂, arith}
use Rattle.device.specs.Meaning.{Meaning}
use Rattle.law.specs.Pages.{World}
use Rattle.law.specs.Calls.{Call, Reply, Made, Done, Owed, Submitted, Declined, HandedBack}
use Rattle.law.specs.Ledger.{Cells, Marks, Ledger, Entry, fed, submissions_of, turns_by, made_size, lost_cells, on_done, on_owed, began_by, overs_by, lost_by, ended_by, cleared_by, cleared_in, sums_in, sums_by, HoldsBy, Sound, Thrifty, counted_by, begins, overs, ended, count_all}
use Rattle.law.specs.Laws.{SumsRight, SoundBy, ThriftyBy, CountedBy}
use Rattle.law.proofs.Invariant.{Inv}

-- a ledger with other marks
abbrev pub remark : Marks → Ledger → Ledger
remark k l = record { marks = k; sizes = l.sizes; bytes = l.bytes; shape = l.shape; steps = l.steps; waiting = l.waiting }

-- the cells that owe under the planner's choice and not under another
abbrev pub spare_of : Ledger → Marks → ℕ
spare_of l k = count_all l.sizes (λ r i. l.marks.owes r i && not (k.owes r i))

-- the same call with the same reply, under another choice of clears
abbrev pub other : Entry → List Cells → Entry
other e cs = record { call = e.call; reply = e.reply; clears = cs }

-- of any other choice of which no read covers an owing cell: it differs in the marks only, and pays for what is spared
pub record Against (e : Entry) (l : Ledger) (cs : List Cells) (k : Marks) : Type 0 where
  pub marks : Marks
  pub alike : fed (other e cs) (remark k l) ≡ remark marks (fed e l)
  pub pays : cleared_by e l + spare_of (fed e l) marks ≤ ended_by (other e cs) (remark k l) + spare_of l k

pub record Entered (e : Entry) (l : Ledger) (w : World) (n : Meaning) : Type 0 where
  pub inv : Inv w n (fed e l)
  pub sums : SumsRight e l
  pub thrifty : ThriftyBy e l
  pub counted : CountedBy e l
  pub sound : SoundBy e l
  pub balance : count_all l.sizes l.marks.owes + began_by e l ≡ cleared_by e l + overs_by e l + lost_by e l + count_all (fed e l).sizes (fed e l).marks.owes
  pub against : (cs : List Cells) (k : Marks) → SoundBy (other e cs) (remark k l) → Against e l cs k

-- a call that submits nothing
pub record Plain (k : Call) : Type 0 where
  pub none : (r : Reply) (cs : List Cells) (l : Ledger) → submissions_of k r cs l ≡ []
  pub unmade : (r : Reply) → made_size k r ≡ 0
  pub kept : (r : Reply) (l : Ledger) → lost_cells k r l ≡ 0

-- a reply that reports nothing
pub record Unreported (r : Reply) : Type 0 where
  pub cells : cleared_in r ≡ 0
  pub sums : sums_in r ≡ []

module _ (e : Entry) (l : Ledger) (none : (cs : List Cells) (k : Marks) → submissions_of e.call e.reply cs (remark k l) ≡ []) (own : turns_by e l ≡ []) (quiet : Unreported e.reply) where
  pub no_sums : SumsRight e l
  no_sums = quiet.sums ∙ sym (ap (λ tss. sums_by l.sizes tss l.marks) own)

  pub no_thrift : ThriftyBy e l
  no_thrift = subst (λ tss. HoldsBy (Thrifty l.sizes) tss l.marks) (sym own) tt

  pub no_sound : SoundBy e l
  no_sound = subst (λ tss. HoldsBy (Sound l.sizes) tss l.marks) (sym own) tt

  pub none_ended : ended_by e l ≡ 0
  none_ended = ap (λ tss. counted_by (ended l.sizes) tss l.marks) own

  pub none_begun : counted_by (begins l.sizes) (turns_by e l) l.marks ≡ 0
  none_begun = ap (λ tss. counted_by (begins l.sizes) tss l.marks) own

  pub none_over : overs_by e l ≡ 0
  none_over = ap (λ tss. counted_by (overs l.sizes) tss l.marks) own

  pub none_counted : CountedBy e l
  none_counted = quiet.cells ∙ sym none_ended

  pub other_ended : (cs : List Cells) (k : Marks) → ended_by (other e cs) (remark k l) ≡ 0
  other_ended cs k = ap (λ tss. counted_by (ended l.sizes) tss k) (none cs k)

-- a call that changes lists only
pub plain_entered : (e : Entry) (l : Ledger) (w : World) (n : Meaning) → Plain e.call → Unreported e.reply → Inv w n (fed e l)
    → (fed e l).marks ≡ l.marks → (fed e l).sizes ≡ l.sizes
    → ((cs : List Cells) (k : Marks) → fed (other e cs) (remark k l) ≡ remark k (fed e l)) → Entered e l w n
plain_entered e l w n p q inv em ez alike =
    let own = p.none e.reply e.clears l in
    let none : (cs : List Cells) (k : Marks) → submissions_of e.call e.reply cs (remark k l) ≡ [] = λ cs k. p.none e.reply cs (remark k l) in
    record {
      inv = inv;
      sums = no_sums e l none own q;
      thrifty = no_thrift e l none own q;
      counted = none_counted e l none own q;
      sound = no_sound e l none own q;
      balance =
          let same : count_all (fed e l).sizes (fed e l).marks.owes ≡ count_all l.sizes l.marks.owes = ap₂ (λ z (k : Marks). count_all z k.owes) ez em in
          let a = none_begun e l none own q in
          let b = none_over e l none own q in
          let c = q.cells in
          let d = p.unmade e.reply in
          let f = p.kept e.reply l in
          omega arith;
      against = λ cs k h.
          record {
            marks = k;
            alike = alike cs k;
            pays =
                let same : spare_of (fed e l) k ≡ spare_of l k = ap₂ (λ z (j : Marks). count_all z (λ r i. j.owes r i && not (k.owes r i))) ez em in
                let c = q.cells in
                omega arith;
          };
    }

-- what a reply lets through commutes with other marks, and leaves these alone
pub done_alike : (r : Reply) (k : Marks) (x y : Ledger) → on_done r (remark k x) (remark k y) ≡ remark k (on_done r x y)
done_alike (Made n) k x y = refl
done_alike Done k x y = refl
done_alike (Owed d) k x y = refl
done_alike (Submitted t) k x y = refl
done_alike (Declined f) k x y = refl
done_alike (HandedBack f d) k x y = refl

pub done_marks : (r : Reply) (x y : Ledger) → x.marks ≡ y.marks → (on_done r x y).marks ≡ y.marks
done_marks (Made n) x y e = refl
done_marks Done x y e = e
done_marks (Owed d) x y e = refl
done_marks (Submitted t) x y e = refl
done_marks (Declined f) x y e = refl
done_marks (HandedBack f d) x y e = refl

pub done_sizes : (r : Reply) (x y : Ledger) → x.sizes ≡ y.sizes → (on_done r x y).sizes ≡ y.sizes
done_sizes (Made n) x y e = refl
done_sizes Done x y e = e
done_sizes (Owed d) x y e = refl
done_sizes (Submitted t) x y e = refl
done_sizes (Declined f) x y e = refl
done_sizes (HandedBack f d) x y e = refl

pub owed_alike : (r : Reply) (k : Marks) (x y : Ledger) → on_owed r (remark k x) (remark k y) ≡ remark k (on_owed r x y)
owed_alike (Made n) k x y = refl
owed_alike Done k x y = refl
owed_alike (Owed d) k x y = refl
owed_alike (Submitted t) k x y = refl
owed_alike (Declined f) k x y = refl
owed_alike (HandedBack f d) k x y = refl

pub owed_marks : (r : Reply) (x y : Ledger) → x.marks ≡ y.marks → (on_owed r x y).marks ≡ y.marks
owed_marks (Made n) x y e = refl
owed_marks Done x y e = refl
owed_marks (Owed d) x y e = e
owed_marks (Submitted t) x y e = refl
owed_marks (Declined f) x y e = refl
owed_marks (HandedBack f d) x y e = refl

pub owed_sizes : (r : Reply) (x y : Ledger) → x.sizes ≡ y.sizes → (on_owed r x y).sizes ≡ y.sizes
owed_sizes (Made n) x y e = refl
owed_sizes Done x y e = refl
owed_sizes (Owed d) x y e = e
owed_sizes (Submitted t) x y e = refl
owed_sizes (Declined f) x y e = refl
owed_sizes (HandedBack f d) x y e = refl
