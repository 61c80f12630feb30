-- A whole submission of a planner: its clears, its steps and its report, against the ledger's turns.
use Rattle.std.proofs.Common.{◌≡◌, ℕ, ◌+◌, ◌<◌, ◌≤◌, Bool, true, false, cond, not, ◌&&◌, ◌||◌, List, [], ◌∷◌, ◌++◌, sym, refl, ap, ◌∙◌, subst, arith}
use Rattle.texture.specs.Shapes.{Shape}
use Rattle.texture.specs.Runs.{pitch_fits}
use Rattle.device.specs.declared.command.Command.{Command}
use Rattle.device.specs.Commands.{painted}
use Rattle.device.specs.Meaning.{ran}
use Rattle.rules.specs.Planning.{drain_steps}
use Rattle.rules.specs.declared.step.Step.TheVariants as step
use Rattle.law.specs.Pages.{World, ListStep, OnBuffer, TextureRead, TextureWrite, ClearTexture, SettledClear, Discard, discards_from}
use Rattle.law.specs.Uses.{commands_for, commands_for_all, sums_for, sums_for_all, on_buffers, drained_by_all, discard_all, cells_named, settled_commands}
use Rattle.law.specs.Submitting.{shapes, ahead, all_commands}
use Rattle.law.specs.Ledger.{Cells, Bytes, nobody, Sizes, Marks, deed_of, Turn, turn, turns, after_turns, sums_over, added_up, Always, ended, Sound, Thrifty, count_all, slot_count}
use Rattle.law.specs.Laws.{commanded, either, choice_from, choice}
use Rattle.law.proofs.Sums.{sum_eq}
use Rattle.law.proofs.Cell.{Ready}
use Rattle.law.proofs.Commands.{Paints, paints_named, paints_device, paints_cells}
use Rattle.law.proofs.Moves.{Work, drained_set, kept_set, gone_set, device_after, said_all, plan_turns, settled_counts, Formed, AllReady, zip_turns}
use Rattle.law.proofs.Submission.{Right, right, started}
use Rattle.law.proofs.Least.{least_list}
use Rattle.law.proofs.Works.{AllValid, works_of, all_faithful, settled_paints}
use Rattle.law.proofs.Shelving.{book_set, Shelved, book_after, shelved_after}
use Rattle.law.proofs.Ahead.{Clearable, ahead_paints}
use Rattle.law.proofs.Discards.{Good}
use Rattle.law.proofs.Forming.{formed_list, gone_is, shelved_discards, there_all}

-- the steps as the ledger has them: without settled clears
abbrev pub ledger_steps : List ListStep → List ListStep
ledger_steps [] = []
ledger_steps (OnBuffer s ∷ ss) = OnBuffer s ∷ ledger_steps ss
ledger_steps (TextureRead n a ∷ ss) = TextureRead n a ∷ ledger_steps ss
ledger_steps (TextureWrite n b a ∷ ss) = TextureWrite n b a ∷ ledger_steps ss
ledger_steps (ClearTexture n a ∷ ss) = ClearTexture n a ∷ ledger_steps ss
ledger_steps (SettledClear f ∷ ss) = ledger_steps ss
ledger_steps (Discard f ∷ ss) = Discard f ∷ ledger_steps ss

pub ledger_join : (ss ts : List ListStep) → ledger_steps (ss ++ ts) ≡ ledger_steps ss ++ ledger_steps ts
ledger_join [] ts = refl
ledger_join (OnBuffer s ∷ ss) ts = ap (λ us. OnBuffer s ∷ us) (ledger_join ss ts)
ledger_join (TextureRead n a ∷ ss) ts = ap (λ us. TextureRead n a ∷ us) (ledger_join ss ts)
ledger_join (TextureWrite n b a ∷ ss) ts = ap (λ us. TextureWrite n b a ∷ us) (ledger_join ss ts)
ledger_join (ClearTexture n a ∷ ss) ts = ap (λ us. ClearTexture n a ∷ us) (ledger_join ss ts)
ledger_join (SettledClear f ∷ ss) ts = ledger_join ss ts
ledger_join (Discard f ∷ ss) ts = ap (λ us. Discard f ∷ us) (ledger_join ss ts)

pub ran_both : (cs ds : List Command) (x : Bytes) → ran x (cs ++ ds) ≡ ran (ran x cs) ds
ran_both [] ds x = refl
ran_both (c ∷ cs) ds x = ran_both cs ds (painted x c)

-- the planner's turns are the ledger's under the planner's choice
module _ (pitch : ℕ) (sh : ℕ → Shape) where
  pub plan_turns_lem : (ss : List ListStep) (c : Cells) → plan_turns c (works_of pitch sh ss) ≡ turns sh (choice_from pitch sh c ss) (ledger_steps ss)
  plan_turns_lem [] c = refl
  plan_turns_lem (OnBuffer (step.BufferRead n x y) ∷ ss) c = ap (λ ts. turn c (deed_of sh (OnBuffer (step.BufferRead n x y))) ∷ ts) (plan_turns_lem ss nobody)
  plan_turns_lem (OnBuffer (step.BufferWrite n b x y) ∷ ss) c = ap (λ ts. turn c (deed_of sh (OnBuffer (step.BufferWrite n b x y))) ∷ ts) (plan_turns_lem ss nobody)
  plan_turns_lem (OnBuffer (step.ClearBuffer n x y) ∷ ss) c = ap (λ ts. turn c (deed_of sh (OnBuffer (step.ClearBuffer n x y))) ∷ ts) (plan_turns_lem ss nobody)
  plan_turns_lem (TextureRead n a ∷ ss) c = ap (λ ts. turn c (deed_of sh (TextureRead n a)) ∷ ts) (plan_turns_lem ss nobody)
  plan_turns_lem (TextureWrite n b a ∷ ss) c = ap (λ ts. turn c (deed_of sh (TextureWrite n b a)) ∷ ts) (plan_turns_lem ss nobody)
  plan_turns_lem (ClearTexture n a ∷ ss) c = ap (λ ts. turn c (deed_of sh (ClearTexture n a)) ∷ ts) (plan_turns_lem ss nobody)
  plan_turns_lem (SettledClear f ∷ ss) c = plan_turns_lem ss (either c (commanded (commands_for pitch sh (SettledClear f))))
  plan_turns_lem (Discard f ∷ ss) c = ap (λ ts. turn c (deed_of sh (Discard f)) ∷ ts) (plan_turns_lem ss nobody)

  -- and so are those of any other choice
  pub other_turns : (ss : List ListStep) (cs : List Cells) → zip_turns cs (works_of pitch sh ss) ≡ turns sh cs (ledger_steps ss)
  other_turns [] cs = refl
  other_turns (OnBuffer (step.BufferRead n x y) ∷ ss) [] = ap (λ ts. turn nobody (deed_of sh (OnBuffer (step.BufferRead n x y))) ∷ ts) (other_turns ss [])
  other_turns (OnBuffer (step.BufferRead n x y) ∷ ss) (c ∷ cs) = ap (λ ts. turn c (deed_of sh (OnBuffer (step.BufferRead n x y))) ∷ ts) (other_turns ss cs)
  other_turns (OnBuffer (step.BufferWrite n b x y) ∷ ss) [] = ap (λ ts. turn nobody (deed_of sh (OnBuffer (step.BufferWrite n b x y))) ∷ ts) (other_turns ss [])
  other_turns (OnBuffer (step.BufferWrite n b x y) ∷ ss) (c ∷ cs) = ap (λ ts. turn c (deed_of sh (OnBuffer (step.BufferWrite n b x y))) ∷ ts) (other_turns ss cs)
  other_turns (OnBuffer (step.ClearBuffer n x y) ∷ ss) [] = ap (λ ts. turn nobody (deed_of sh (OnBuffer (step.ClearBuffer n x y))) ∷ ts) (other_turns ss [])
  other_turns (OnBuffer (step.ClearBuffer n x y) ∷ ss) (c ∷ cs) = ap (λ ts. turn c (deed_of sh (OnBuffer (step.ClearBuffer n x y))) ∷ ts) (other_turns ss cs)
  other_turns (TextureRead n a ∷ ss) [] = ap (λ ts. turn nobody (deed_of sh (TextureRead n a)) ∷ ts) (other_turns ss [])
  other_turns (TextureRead n a ∷ ss) (c ∷ cs) = ap (λ ts. turn c (deed_of sh (TextureRead n a)) ∷ ts) (other_turns ss cs)
  other_turns (TextureWrite n b a ∷ ss) [] = ap (λ ts. turn nobody (deed_of sh (TextureWrite n b a)) ∷ ts) (other_turns ss [])
  other_turns (TextureWrite n b a ∷ ss) (c ∷ cs) = ap (λ ts. turn c (deed_of sh (TextureWrite n b a)) ∷ ts) (other_turns ss cs)
  other_turns (ClearTexture n a ∷ ss) [] = ap (λ ts. turn nobody (deed_of sh (ClearTexture n a)) ∷ ts) (other_turns ss [])
  other_turns (ClearTexture n a ∷ ss) (c ∷ cs) = ap (λ ts. turn c (deed_of sh (ClearTexture n a)) ∷ ts) (other_turns ss cs)
  other_turns (SettledClear f ∷ ss) cs = other_turns ss cs
  other_turns (Discard f ∷ ss) [] = ap (λ ts. turn nobody (deed_of sh (Discard f)) ∷ ts) (other_turns ss [])
  other_turns (Discard f ∷ ss) (c ∷ cs) = ap (λ ts. turn c (deed_of sh (Discard f)) ∷ ts) (other_turns ss cs)

  -- the device and the sums, step by step
  pub ran_steps : (ss : List ListStep) (x : Bytes) → ran x (commands_for_all pitch sh ss) ≡ device_after (works_of pitch sh ss) x
  ran_steps [] x = refl
  ran_steps (s ∷ ss) x = ran_both (commands_for pitch sh s) (commands_for_all pitch sh ss) x ∙ ran_steps ss (ran x (commands_for pitch sh s))

  pub said_steps : (ss : List ListStep) (x : Bytes) → sums_for_all pitch sh x ss ≡ said_all (works_of pitch sh ss) x
  said_steps [] x = refl
  said_steps (s ∷ ss) x = ap (λ t. sums_for sh x s ++ t) (said_steps ss (ran x (commands_for pitch sh s)))

cells_both : (cs ds : List Command) → cells_named (cs ++ ds) ≡ cells_named cs + cells_named ds
cells_both [] ds = omega arith
cells_both (c ∷ cs) ds = let ih = cells_both cs ds in omega arith

-- the cells of the settled clears
settled_cells : (z : Sizes) (pitch : ℕ) (sh : ℕ → Shape) → pitch_fits pitch ≡ true → (ss : List ListStep) → AllValid z sh ss
    → cells_named (settled_commands pitch sh ss) ≡ settled_counts z (works_of pitch sh ss)
settled_cells z pitch sh fits [] v = refl
settled_cells z pitch sh fits (OnBuffer (step.BufferRead n x y) ∷ ss) v = let ih = settled_cells z pitch sh fits ss v.1 in omega arith
settled_cells z pitch sh fits (OnBuffer (step.BufferWrite n b x y) ∷ ss) v = let ih = settled_cells z pitch sh fits ss v.1 in omega arith
settled_cells z pitch sh fits (OnBuffer (step.ClearBuffer n x y) ∷ ss) v = let ih = settled_cells z pitch sh fits ss v.1 in omega arith
settled_cells z pitch sh fits (TextureRead n a ∷ ss) v = let ih = settled_cells z pitch sh fits ss v.1 in omega arith
settled_cells z pitch sh fits (TextureWrite n b a ∷ ss) v = let ih = settled_cells z pitch sh fits ss v.1 in omega arith
settled_cells z pitch sh fits (ClearTexture n a ∷ ss) v = let ih = settled_cells z pitch sh fits ss v.1 in omega arith
settled_cells z pitch sh fits (SettledClear f ∷ ss) v =
    let ih = settled_cells z pitch sh fits ss v.1 in
    let p = settled_paints z pitch sh fits f v.0.0 v.0.1 in
    let here : cells_named (commands_for pitch sh (SettledClear f)) ≡ count_all z (commanded (commands_for pitch sh (SettledClear f)))
    = paints_cells z 0 _ _ p ∙ sym (sum_eq z _ _ (λ r i h j. ap (λ t. cond t 1 0) (paints_named z 0 _ _ p r i h j))) in
    let both = cells_both (commands_for pitch sh (SettledClear f)) (settled_commands pitch sh ss) in
    omega arith
settled_cells z pitch sh fits (Discard f ∷ ss) v = let ih = settled_cells z pitch sh fits ss v.1 in omega arith

-- what is known when a list is accepted
pub record Accepted (z : Sizes) (w : World) (ss : List ListStep) : Type 0 where
  pub fits : pitch_fits w.pitch ≡ true
  pub shelved : Shelved z (shapes w) w.buffers w.textures
  pub valid : AllValid z (shapes w) ss
  pub clearable : Clearable w.textures ss
  pub good : Good [] ss

abbrev pub books : World → Cells
books w = book_set (shapes w) w.buffers w.textures

-- the books once the steps have drained and the discards are put in
abbrev pub books_after : World → List ListStep → Cells
books_after w ss = book_set (shapes w) (drain_steps w.buffers (on_buffers ss)) (discard_all (drained_by_all w.textures ss) (discards_from [] ss))

-- the turns of the planner's choice
abbrev pub own_turns : World → List ListStep → List Turn
own_turns w ss = turns (shapes w) (choice w ss) (ledger_steps ss)

pub record Done (z : Sizes) (w : World) (ss : List ListStep) (x : Bytes) (l : Marks) : Type 0 where
  pub ready : AllReady z (books_after w ss) (ran x (all_commands w ss)) (after_turns (own_turns w ss) l)
  pub sums : sums_for_all w.pitch (shapes w) (ran x (ahead w ss)) ss ≡ sums_over z (own_turns w ss) l
  pub sound : Always (Sound z) (own_turns w ss) l
  pub thrifty : Always (Thrifty z) (own_turns w ss) l
  pub counted : cells_named (ahead w ss) + cells_named (settled_commands w.pitch (shapes w) ss) ≡ added_up (ended z) (own_turns w ss) l

ready_at : {b b' o : Bool} {y x : ℕ} → b' ≡ b → Ready b o y x → Ready b' o y x
ready_at e r = record { owing = r.owing ∙ sym e; same = r.same; blank = r.blank }

module _ (z : Sizes) (w : World) (ss : List ListStep) (a : Accepted z w ss) where
  abbrev works : List Work
  works = works_of w.pitch (shapes w) ss

  paints : Paints z 0 (ahead w ss) (drained_set (books w) works)
  paints = ahead_paints z w.pitch (shapes w) a.fits ss w.buffers w.textures a.shelved a.valid a.clearable

  formed : Formed z (λ r i. false) (λ r i. false) (λ r i. false) works
  formed = formed_list z w.pitch (shapes w) a.fits ss a.valid a.good

  -- the books after a submission hold what was kept and what stands discarded
  after_books : (r i : ℕ) → r < slot_count → books_after w ss r i ≡ (kept_set (books w) works r i || gone_set (λ q j. false) works r i)
  after_books r i h =
      gone_is z w.pitch (shapes w) (drain_steps w.buffers (on_buffers ss)) (drained_by_all w.textures ss) ss
      (shelved_after z (shapes w) ss w.buffers w.textures a.shelved a.valid) a.valid r i h
      ∙ ap (λ b. b || gone_set (λ q j. false) works r i) (book_after z w.pitch (shapes w) ss w.buffers w.textures a.shelved a.valid r i h)

  pub after_shelved : Shelved z (shapes w) (drain_steps w.buffers (on_buffers ss)) (discard_all (drained_by_all w.textures ss) (discards_from [] ss))
  after_shelved =
      shelved_discards z (shapes w) (drain_steps w.buffers (on_buffers ss)) (discards_from [] ss) (drained_by_all w.textures ss)
      (shelved_after z (shapes w) ss w.buffers w.textures a.shelved a.valid) (there_all z (shapes w) ss [] a.valid tt)

  module _ (x : Bytes) (l : Marks) (ready : AllReady z (books w) x l) where
    from_start : Right z works (commanded (ahead w ss)) (books w) nobody (ran x (ahead w ss)) l
    from_start =
        right z works (commanded (ahead w ss)) (books w) nobody nobody nobody (ran x (ahead w ss)) l
        (all_faithful z w.pitch (shapes w) a.fits ss a.valid) formed
        (started z works (commanded (ahead w ss)) (books w) x (ran x (ahead w ss)) l ready (paints_named z 0 _ _ paints)
        (λ r i h j. paints_device z 0 _ _ x paints r i h j ∙ ap (λ t. cond t 0 (x r i)) (sym (paints_named z 0 _ _ paints r i h j))))

    own : plan_turns (commanded (ahead w ss)) works ≡ own_turns w ss
    own = plan_turns_lem w.pitch (shapes w) ss (commanded (ahead w ss))

    devices : device_after works (ran x (ahead w ss)) ≡ ran x (all_commands w ss)
    devices = sym (ran_both (ahead w ss) (commands_for_all w.pitch (shapes w) ss) x ∙ ran_steps w.pitch (shapes w) ss (ran x (ahead w ss)))

    counts : cells_named (ahead w ss) ≡ count_all z (commanded (ahead w ss))
    counts = paints_cells z 0 _ _ paints ∙ sym (sum_eq z _ _ (λ r i h j. ap (λ t. cond t 1 0) (paints_named z 0 _ _ paints r i h j)))

    pub done : Done z w ss x l
    done =
        let all = from_start in
        record {
          ready = λ r i h j. ready_at (after_books r i h)
              (subst (λ (y : Bytes). Ready (kept_set (books w) works r i || gone_set nobody works r i) ((after_turns (own_turns w ss) l).owes r i) ((after_turns (own_turns w ss) l).byte r i) (y r i)) devices
              (subst (λ ts. Ready (kept_set (books w) works r i || gone_set nobody works r i) ((after_turns ts l).owes r i) ((after_turns ts l).byte r i) (device_after works (ran x (ahead w ss)) r i)) own (all.ready r i h j)));
          sums = said_steps w.pitch (shapes w) ss (ran x (ahead w ss)) ∙ all.said ∙ ap (λ ts. sums_over z ts l) own;
          sound = subst (λ ts. Always (Sound z) ts l) own all.sound;
          thrifty = subst (λ ts. Always (Thrifty z) ts l) own all.thrift;
          counted =
              (let c = counts in
              let s = settled_cells z w.pitch (shapes w) a.fits ss a.valid in
              let e = all.cleared in
              omega arith)
              ∙ ap (λ ts. added_up (ended z) ts l) own;
        }

  -- and no other choice ends fewer owings
  pub spared : (cs : List Cells) (l : Marks) → Always (Sound z) (turns (shapes w) cs (ledger_steps ss)) l
      → cells_named (ahead w ss) + cells_named (settled_commands w.pitch (shapes w) ss)
      + count_all z (λ r i. books_after w ss r i && not ((after_turns (turns (shapes w) cs (ledger_steps ss)) l).owes r i))
      ≤ added_up (ended z) (turns (shapes w) cs (ledger_steps ss)) l + count_all z (λ r i. books w r i && not (l.owes r i))
  spared cs l q =
      let same = other_turns w.pitch (shapes w) ss cs in
      subst
      (λ ts. cells_named (ahead w ss) + cells_named (settled_commands w.pitch (shapes w) ss) + count_all z (λ r i. books_after w ss r i && not ((after_turns ts l).owes r i)) ≤ added_up (ended z) ts l + count_all z (λ r i. books w r i && not (l.owes r i)))
      same
      (let ends = least_list z works cs (books w) l formed (subst (λ ts. Always (Sound z) ts l) (sym same) q) in
      let named = paints_cells z 0 _ _ paints in
      let settled = settled_cells z w.pitch (shapes w) a.fits ss a.valid in
      let after : count_all z (λ r i. books_after w ss r i && not ((after_turns (zip_turns cs works) l).owes r i))
      ≡ count_all z (λ r i. (kept_set (books w) works r i || gone_set nobody works r i) && not ((after_turns (zip_turns cs works) l).owes r i))
      = sum_eq z _ _ (λ r i h j. ap (λ t. cond (t && not ((after_turns (zip_turns cs works) l).owes r i)) 1 0) (after_books r i h)) in
      omega arith)
