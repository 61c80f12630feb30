-- Each call that records a step: what it adds to its list, and that the laws go on.
use Rattle.std.proofs.Common.{◌≡◌, ℕ, ◌+◌, ◌<◌, ◌≤◌, Bool, true, false, ◌&&◌, ltb, List, [], ◌∷◌, length, Some, None, Ok, Option, refl, ap, ◌∙◌, arith}
use Rattle.std.proofs.lemmas.Bool.{ltb-true}
use Rattle.fault.specs.declared.call_kind.CallKind.TheVariants as kind
use Rattle.texture.specs.Shapes.{Shape, layers_of}
use Rattle.device.specs.Meaning.{Meaning, Followed}
use Rattle.rules.specs.Steps.{read_causes, write_causes, clear_causes, clear_size}
use Rattle.rules.specs.declared.step.Step.{Step}
use Rattle.rules.specs.declared.step.Step.TheVariants as step
use Rattle.rules.specs.declared.list_state.ListState.TheVariants.{Recording}
use Rattle.law.specs.Pages.{World, Area, Surface, ListStep, OnBuffer, TextureWrite, ClearTexture, Discard, list_count, buffer_at, texture_at, page_at, holds_any, discards_from, may_discard}
use Rattle.law.specs.Recording.{known_buffer, known_texture, area_causes, texture_write_causes, discard_causes, clear_texture_causes, cleared_area, end_from, past_end, step_verdict, unless_empty}
use Rattle.law.specs.Submitting.{shapes}
use Rattle.law.specs.Calls.{BufferRead, BufferWrite, ClearBuffer, WriteTexture, DiscardSurface, Clear, done_or, outcome}
use Rattle.law.specs.Ledger.{Ledger, joined_by}
use Rattle.law.specs.Laws.{entry_of}
use Rattle.law.proofs.Ahead.{can_clear}
use Rattle.law.proofs.Discards.{has, discarded_from, has_discards, exclusive, once_without, once_last, good_end}
use Rattle.law.proofs.Invariant.{RangeOk, AreaOk, Inv, still}
use Rattle.law.proofs.Entering.{Entered, plain_entered, done_alike, done_marks, done_sizes}
use Rattle.law.proofs.Verdicts.{NoneHolds, none_holds, buffer_known, texture_known, at_most, below, neither, not_false}
use Rattle.law.proofs.Recorded.{Adds, recorded_inv, done_unreported, passed, adds_one, adds_unless}

-- the ledger's own steps are the planner's where both know the same of a resource
adds_as : (w : World) (l : Ledger) (k : ℕ) (more mine : List ListStep) → mine ≡ more → Adds w l k more more → Adds w l k more mine
adds_as w l k more mine e a =
    record { low = a.low; recording = a.recording; ok = a.ok; good = a.good; once = a.once; same = e ∙ a.same }

module _ (w : World) (m n : Meaning) (l : Ledger) (inv : Inv w m l) (followed : Followed m [] n) where
  still_so : {w' : World} {l' : Ledger} → Inv w' m l' → Inv w' n l'
  still_so {w'} {l'} i = still w' m n l' i (λ r j. followed.cells r j)

  -- a use of a buffer, by what its causes leave of it
  range_adds : (k : ℕ) → k < list_count → (page_at w k).state ≡ Recording → (s : Step) → (any : Bool) → (any ≡ true → RangeOk w s)
      → Adds w l k (unless_empty any (OnBuffer s)) (unless_empty any (OnBuffer s))
  range_adds k low e s any f =
      adds_unless w m l inv k low e any (OnBuffer s) (λ h. adds_one w m l inv k low e (OnBuffer s) (f h) (λ g. tt) (λ g. refl) (λ o. o) refl)

  pub buffer_read : (k b start end : ℕ) → Entered (entry_of w m (BufferRead k b start end)) l (outcome w m (BufferRead k b start end)).world n
  buffer_read k b start end =
      let place = length (page_at w k).steps in
      let causes = read_causes start end (buffer_at w b) place in
      let v = step_verdict w k (known_buffer w b) causes in
      let more = unless_empty (ltb start end) (OnBuffer (step.BufferRead b start end)) in
      let reply = done_or kind.BufferRead b place v in
      plain_entered (entry_of w m (BufferRead k b start end)) l _ n
      (record { none = λ r cs l'. refl; unmade = λ r. refl; kept = λ r l'. refl }) (done_unreported kind.BufferRead b place v)
      (still_so (recorded_inv w m l inv kind.BufferRead k b place v more more
      (λ h.
      let p = passed w k (known_buffer w b) causes h in
      let c = none_holds causes p.clear in
      range_adds k p.low p.recording (step.BufferRead b start end) (ltb start end)
      (λ any. record { low = buffer_known w b p.known; up = ltb-true start end any; fits = at_most (buffer_at w b).size end c.1.1.0 }))))
      (done_marks reply (joined_by k more l) l refl) (done_sizes reply (joined_by k more l) l refl) (λ cs j. done_alike reply j (joined_by k more l) l)

  pub buffer_write : (k b byte start end : ℕ) → Entered (entry_of w m (BufferWrite k b byte start end)) l (outcome w m (BufferWrite k b byte start end)).world n
  buffer_write k b byte start end =
      let place = length (page_at w k).steps in
      let causes = write_causes start end (buffer_at w b) place in
      let v = step_verdict w k (known_buffer w b) causes in
      let more = unless_empty (ltb start end) (OnBuffer (step.BufferWrite b byte start end)) in
      let reply = done_or kind.BufferWrite b place v in
      plain_entered (entry_of w m (BufferWrite k b byte start end)) l _ n
      (record { none = λ r cs l'. refl; unmade = λ r. refl; kept = λ r l'. refl }) (done_unreported kind.BufferWrite b place v)
      (still_so (recorded_inv w m l inv kind.BufferWrite k b place v more more
      (λ h.
      let p = passed w k (known_buffer w b) causes h in
      let c = none_holds causes p.clear in
      range_adds k p.low p.recording (step.BufferWrite b byte start end) (ltb start end)
      (λ any. record { low = buffer_known w b p.known; up = ltb-true start end any; fits = at_most (buffer_at w b).size end c.1.1.1.0 }))))
      (done_marks reply (joined_by k more l) l refl) (done_sizes reply (joined_by k more l) l refl) (λ cs j. done_alike reply j (joined_by k more l) l)

  pub clear_buffer : (k b offset : ℕ) (size : Option ℕ) → Entered (entry_of w m (ClearBuffer k b offset size)) l (outcome w m (ClearBuffer k b offset size)).world n
  clear_buffer k b offset size =
      let place = length (page_at w k).steps in
      let causes = clear_causes offset size (buffer_at w b) place in
      let v = step_verdict w k (known_buffer w b) causes in
      let steps : ℕ → List ListStep = λ bytes. unless_empty (ltb offset (offset + clear_size size offset bytes)) (OnBuffer (step.ClearBuffer b offset (offset + clear_size size offset bytes))) in
      let end = offset + clear_size size offset (buffer_at w b).size in
      let mine = steps (l.bytes b) in
      let reply = done_or kind.ClearBuffer b place v in
      plain_entered (entry_of w m (ClearBuffer k b offset size)) l _ n
      (record { none = λ r cs l'. refl; unmade = λ r. refl; kept = λ r l'. refl }) (done_unreported kind.ClearBuffer b place v)
      (still_so (recorded_inv w m l inv kind.ClearBuffer k b place v (steps (buffer_at w b).size) mine
      (λ h.
      let p = passed w k (known_buffer w b) causes h in
      let c = none_holds causes p.clear in
      let low = buffer_known w b p.known in
      adds_as w l k (steps (buffer_at w b).size) mine (ap steps (inv.known.bytes b (let few = inv.known.few in omega arith)))
      (range_adds k p.low p.recording (step.ClearBuffer b offset end) (ltb offset end)
      (λ any. record { low = low; up = ltb-true offset end any; fits = at_most (buffer_at w b).size end c.1.1.1.1.0 })))))
      (done_marks reply (joined_by k mine l) l refl) (done_sizes reply (joined_by k mine l) l refl) (λ cs j. done_alike reply j (joined_by k mine l) l)

  -- an area of a texture, by what the causes of its use leave of it
  pub area_ok : (t : ℕ) (a : Area) → known_texture w t ≡ Ok tt → NoneHolds (area_causes (texture_at w t) a) → AreaOk w t a
  area_ok t a known c =
      let there = texture_known w t known in
      let up = neither (ltb a.mip_end a.mip) (ltb a.layer_end a.layer) c.1.0 in
      record {
        high = there.0;
        known = there.1;
        mips = at_most a.mip_end a.mip up.0;
        layers = at_most a.layer_end a.layer up.1;
        mip_end = at_most (shapes w t).mips a.mip_end c.1.1.0;
        layer_end = at_most (layers_of (shapes w t)) a.layer_end c.1.1.1.0;
      }

  pub write_texture : (k t byte : ℕ) (a : Area) → Entered (entry_of w m (WriteTexture k t byte a)) l (outcome w m (WriteTexture k t byte a)).world n
  write_texture k t byte a =
      let place = length (page_at w k).steps in
      let causes = texture_write_causes (texture_at w t) place a in
      let v = step_verdict w k (known_texture w t) causes in
      let more = unless_empty (holds_any a) (TextureWrite t byte a) in
      let reply = done_or kind.TextureWrite t place v in
      plain_entered (entry_of w m (WriteTexture k t byte a)) l _ n
      (record { none = λ r cs l'. refl; unmade = λ r. refl; kept = λ r l'. refl }) (done_unreported kind.TextureWrite t place v)
      (still_so (recorded_inv w m l inv kind.TextureWrite k t place v more more
      (λ h.
      let p = passed w k (known_texture w t) causes h in
      let c = none_holds causes p.clear in
      adds_unless w m l inv k p.low p.recording (holds_any a) (TextureWrite t byte a)
      (λ any. adds_one w m l inv k p.low p.recording (TextureWrite t byte a) (area_ok t a p.known (c.0, (c.1.0, (c.1.1.0, (c.1.1.1.0, tt)))))
      (λ g f u. good_end [] (page_at w k).steps g f) (λ f. refl) (λ o. once_without (TextureWrite t byte a) (discards_from [] (page_at w k).steps) o) refl))))
      (done_marks reply (joined_by k more l) l refl) (done_sizes reply (joined_by k more l) l refl) (λ cs j. done_alike reply j (joined_by k more l) l)

  not_both : (d v : Bool) → (d && v) ≡ false → v ≡ true → d ≡ false
  not_both d v e f = grind arith

  pub discard_surface : (k : ℕ) (f : Surface) → Entered (entry_of w m (DiscardSurface k f)) l (outcome w m (DiscardSurface k f)).world n
  discard_surface k f =
      let ss = (page_at w k).steps in
      let t = f.texture in
      let causes = discard_causes (texture_at w t) ss f in
      let v = step_verdict w k (known_texture w t) causes in
      let reply = done_or kind.Discard t (length ss) v in
      plain_entered (entry_of w m (DiscardSurface k f)) l _ n
      (record { none = λ r cs l'. refl; unmade = λ r. refl; kept = λ r l'. refl }) (done_unreported kind.Discard t (length ss) v)
      (still_so (recorded_inv w m l inv kind.Discard k t (length ss) v (Discard f ∷ []) (Discard f ∷ [])
      (λ h.
      let p = passed w k (known_texture w t) causes h in
      let c = none_holds causes p.clear in
      let there = texture_known w t p.known in
      let may : may_discard ss f ≡ true = not_false (may_discard ss f) c.1.1.1.0 in
      let fresh : has f (discards_from [] ss) ≡ false = has_discards f [] ss ∙ not_both (discarded_from f false ss) (may_discard ss f) (exclusive f false false ss refl) may in
      adds_one w m l inv k p.low p.recording (Discard f)
      (record { high = there.0; known = there.1; mip = below (shapes w t).mips f.mip c.1.0; layer = below (layers_of (shapes w t)) f.layer c.1.1.0 })
      (λ g. may) (λ g. refl) (λ o. once_last f (discards_from [] ss) o fresh) refl)))
      (done_marks reply (joined_by k (Discard f ∷ []) l) l refl) (done_sizes reply (joined_by k (Discard f ∷ []) l) l refl) (λ cs j. done_alike reply j (joined_by k (Discard f ∷ []) l) l)

  -- a range of a texture clear
  ends_up : (base : ℕ) (o : Option ℕ) (last : ℕ) → past_end base o last ≡ false → (base ≤ end_from base o last) × (end_from base o last ≤ last)
  ends_up base None last e = let both = neither (ltb last last) (ltb last base) e in (at_most last base both.1, omega arith)
  ends_up base (Some k) last e = let both = neither (ltb last (base + k)) (ltb last base) e in (omega arith, at_most last (base + k) both.0)

  pub clear_texture : (k t aspect mip : ℕ) (mips : Option ℕ) (layer : ℕ) (layers : Option ℕ)
      → Entered (entry_of w m (Clear k t aspect mip mips layer layers)) l (outcome w m (Clear k t aspect mip mips layer layers)).world n
  clear_texture k t aspect mip mips layer layers =
      let place = length (page_at w k).steps in
      let causes = clear_texture_causes (texture_at w t) place aspect mip mips layer layers in
      let v = step_verdict w k (known_texture w t) causes in
      let steps : Shape → List ListStep = λ s. unless_empty (holds_any (cleared_area s mip mips layer layers)) (ClearTexture t (cleared_area s mip mips layer layers)) in
      let a = cleared_area (shapes w t) mip mips layer layers in
      let mine = steps (l.shape t) in
      let reply = done_or kind.ClearTexture t place v in
      plain_entered (entry_of w m (Clear k t aspect mip mips layer layers)) l _ n
      (record { none = λ r cs l'. refl; unmade = λ r. refl; kept = λ r l'. refl }) (done_unreported kind.ClearTexture t place v)
      (still_so (recorded_inv w m l inv kind.ClearTexture k t place v (steps (shapes w t)) mine
      (λ h.
      let p = passed w k (known_texture w t) causes h in
      let c = none_holds causes p.clear in
      let there = texture_known w t p.known in
      let wide = ends_up mip mips (shapes w t).mips c.1.0 in
      let deep = ends_up layer layers (layers_of (shapes w t)) c.1.1.0 in
      adds_as w l k (steps (shapes w t)) mine (ap steps (inv.known.shape t there.0))
      (adds_unless w m l inv k p.low p.recording (holds_any a) (ClearTexture t a)
      (λ any. adds_one w m l inv k p.low p.recording (ClearTexture t a)
      (record { high = there.0; known = there.1; mips = wide.0; layers = deep.0; mip_end = wide.1; layer_end = deep.1 }, can_clear (shapes w t).mode c.1.1.1.1.0)
      (λ g. tt) (λ g. refl) (λ o. o) refl)))))
      (done_marks reply (joined_by k mine l) l refl) (done_sizes reply (joined_by k mine l) l refl) (λ cs j. done_alike reply j (joined_by k mine l) l)
