-- The clears ahead of the steps name each cell that reads take out of the books, once, and no other.
use Rattle.std.proofs.Common.{◌≡◌, ℕ, ◌+◌, ◌<◌, ◌≤◌, Bool, true, false, cond, not, ◌&&◌, ◌||◌, eqb, ltb, List, [], ◌∷◌, ◌++◌, get_or, sym, refl, ap, ◌∙◌, subst, ⊎_elim, arith}
use mathlib.Core.List.{map-append}
use Rattle.std.proofs.lemmas.Bool.Decides.{nat_tests}
use Rattle.std.proofs.lemmas.Bool.{lt-ltb, le-ltb, ne_eqb, cases_eq, cases_Bool}
use Rattle.texture.specs.Shapes.{Shape, layers_of}
use Rattle.texture.specs.Cells.{mip_of, layer_of}
use Rattle.texture.specs.Runs.{clears, pitch_fits}
use Rattle.texture.specs.declared.format.ClearMode.{ClearMode}
use Rattle.texture.specs.declared.format.ClearMode.TheVariants as mode
use Rattle.range_list.specs.Ranges.{inside, member, pieces, Sound}
use Rattle.range_list.proofs.Laws.{member_pieces, sound_pieces}
use Rattle.rules.specs.State.{Buffer, Texture, no_buffer}
use Rattle.rules.specs.Uses.{buffer_of, cover_end}
use Rattle.rules.specs.Planning.{drain_step, taken, all_taken, planned, clears_of, clear_of}
use Rattle.rules.specs.declared.piece.Piece.{Piece}
use Rattle.rules.specs.declared.step.Step.{Step}
use Rattle.rules.specs.declared.step.Step.TheVariants as step
use Rattle.law.specs.Pages.{Area, ListStep, OnBuffer, TextureRead, TextureWrite, ClearTexture, SettledClear, Discard, buffer_count, texture_in, in_area}
use Rattle.law.specs.Uses.{clear_mips, drained_by, needed_by, needed_by_all, on_buffers, owes_any}
use Rattle.law.specs.Recording.{unclearable}
use Rattle.law.specs.Submitting.{buffers_after, cant_clear}
use Rattle.law.specs.Ledger.{Sizes, Effect, Looks, Writes, Zeroes, Begins, Passes, slot_count}
use Rattle.law.proofs.Commands.{times, times_both, Paints, paints_as, paints_none, paints_both}
use Rattle.law.proofs.Surfaces.{clear_surface_lem}
use Rattle.law.proofs.Shelves.{book_at, clear_mips_lem, clear_none}
use Rattle.law.proofs.Pieces.{AllFine, range_times, range_fine, kept_times, kept_fine, fine_inside, clears_leave}
use Rattle.law.proofs.Moves.{leaves, takes, by, drained_set, drained_in}
use Rattle.law.proofs.Works.{ValidRange, ValidArea, Valid, AllValid, work_of, works_of}
use Rattle.law.proofs.Shelving.{book_set, set_low, set_high, Shelved, book_step, shelve_step, drained_same}

-- a cell is taken once: where the steps to come take it, this one left it
taken_once : (e : Effect) (a k b q : Bool) → (q ≡ true → leaves e k b ≡ true)
    → cond (a && (takes e k b || q)) 1 0 ≡ cond (a && takes e k b) 1 0 + cond (a && q) 1 0
taken_once Looks a k b q h = grind arith
taken_once (Writes w) a k b q h = grind arith
taken_once Zeroes a k b q h = grind arith
taken_once Begins a k b q h = grind arith
taken_once Passes a k b q h = grind arith

low_same : (a l x y k : Bool) → l ≡ true → x ≡ y → (a && (x && k)) ≡ (l && (y && (a && k)))
low_same a l x y k e f = grind arith

low_other : (a l x y k : Bool) → a ≡ false → (a && (x && k)) ≡ (l && (y && (a && k)))
low_other a l x y k e = grind arith

-- one resource among all
low_taken : (r n i : ℕ) (x y k : Bool) → n < buffer_count → (r ≡ n → x ≡ y) → (eqb r n && (x && k)) ≡ (ltb r buffer_count && (y && (eqb r n && k)))
low_taken r n i x y k h e =
    ⊎_elim
    (λ same. low_same (eqb r n) (ltb r buffer_count) x y k (lt-ltb r buffer_count (omega arith)) (e same))
    (λ other. low_other (eqb r n) (ltb r buffer_count) x y k (ne_eqb r n other))
    (cases_eq r n)

high_taken : (r n i : ℕ) (x y k : Bool) → buffer_count ≤ n → (r ≡ n → x ≡ y) → (eqb r n && (x && k)) ≡ (not (ltb r buffer_count) && (y && (eqb r n && k)))
high_taken r n i x y k h e =
    ⊎_elim
    (λ same. low_same (eqb r n) (not (ltb r buffer_count)) x y k (ap not (le-ltb r buffer_count (omega arith))) (e same))
    (λ other. low_other (eqb r n) (not (ltb r buffer_count)) x y k (ne_eqb r n other))
    (cases_eq r n)

-- a step on the other kind of resource takes nothing of this kind
none_low : (r n : ℕ) (y k : Bool) → buffer_count ≤ n → (ltb r buffer_count && (y && (eqb r n && k))) ≡ false
none_low r n y k h = grind (arith, nat_tests)

none_high : (r n : ℕ) (y k : Bool) → n < buffer_count → (not (ltb r buffer_count) && (y && (eqb r n && k))) ≡ false
none_high r n y k h = grind (arith, nat_tests)

no_cells : (a : Bool) → (a && false) ≡ false
no_cells a = grind arith

zero_cond : (a : Bool) → a ≡ false → ◌≡◌ {A = ℕ} 0 (cond a 1 0)
zero_cond a e = grind arith

times_clears : (ps qs : List Piece) (r i : ℕ) → times (clears_of (ps ++ qs)) r i ≡ times (clears_of ps) r i + times (clears_of qs) r i
times_clears ps qs r i = ap (λ cs. times cs r i) (map-append clear_of ps qs) ∙ times_both (clears_of ps) (clears_of qs) r i

fine_both : (z : Sizes) (ps qs : List Piece) → AllFine z ps → AllFine z qs → AllFine z (ps ++ qs)
fine_both z [] qs f g = g
fine_both z (p ∷ ps) qs f g = (f.0, fine_both z ps qs f.1 g)

module _ (z : Sizes) (pitch : ℕ) (sh : ℕ → Shape) where
  -- what one step on a buffer takes
  buffer_taken : (s : Step) (bs : List Buffer) (ts : List Texture) → Shelved z sh bs ts → ValidRange z s → (r i : ℕ)
      → times (clears_of (taken bs s)) r i ≡ cond (ltb r buffer_count && by takes (work_of pitch sh (OnBuffer s)).deed (book_set sh bs ts) r i) 1 0
  buffer_taken (step.BufferRead n start end) bs ts ok v r i =
      let c = cover_end (step.BufferRead n start end) in
      let up = v.up in
      let on = v.covered in
      let fits = v.fits in
      let sound : Sound (z n) (get_or bs n no_buffer).owes = ok.buffers n v.low (omega arith) in
      range_times n 0 (z n) (pieces start c (get_or bs n no_buffer).owes) (sound_pieces 0 start c (z n) (get_or bs n no_buffer).owes sound) r i
      ∙ ap (λ t. cond (eqb r n && t) 1 0) (member_pieces i start c (get_or bs n no_buffer).owes)
      ∙ ap (λ t. cond t 1 0) (low_taken r n i (member i (get_or bs n no_buffer).owes) (book_set sh bs ts r i) (inside start c i) v.low
      (λ e. ap (λ k. member i (get_or bs k no_buffer).owes) (sym e) ∙ sym (set_low sh bs ts r i (subst (λ k. k < buffer_count) (sym e) v.low))))
  buffer_taken (step.BufferWrite n byte start end) bs ts ok v r i = zero_cond _ (no_cells (ltb r buffer_count))
  buffer_taken (step.ClearBuffer n start end) bs ts ok v r i = zero_cond _ (no_cells (ltb r buffer_count))

  buffer_fine : (s : Step) (bs : List Buffer) (ts : List Texture) → Shelved z sh bs ts → ValidRange z s → AllFine z (taken bs s)
  buffer_fine (step.BufferRead n start end) bs ts ok v =
      let c = cover_end (step.BufferRead n start end) in
      let up = v.up in
      let on = v.covered in
      let fits = v.fits in
      let low = v.low in
      range_fine z n 0 (pieces start c (get_or bs n no_buffer).owes) (omega arith)
      (sound_pieces 0 start c (z n) (get_or bs n no_buffer).owes (ok.buffers n v.low (omega arith)))
  buffer_fine (step.BufferWrite n byte start end) bs ts ok v = tt
  buffer_fine (step.ClearBuffer n start end) bs ts ok v = tt

  -- of a step and those after it, on the cells that a test picks
  step_times : (p : ℕ → Bool) (s : ListStep) (ss : List ListStep) (bs : List Buffer) (ts : List Texture) → Shelved z sh bs ts → Valid z sh s → (r i : ℕ) → r < slot_count
      → cond (p r && drained_set (book_set sh bs ts) (works_of pitch sh (s ∷ ss)) r i) 1 0
      ≡ cond (p r && by takes (work_of pitch sh s).deed (book_set sh bs ts) r i) 1 0
      + cond (p r && drained_set (book_set sh (buffers_after bs s) (drained_by ts s)) (works_of pitch sh ss) r i) 1 0
  step_times p s ss bs ts ok v r i h =
      taken_once (work_of pitch sh s).deed.effect (p r) ((work_of pitch sh s).deed.cover r i) (book_set sh bs ts r i)
      (drained_set (by leaves (work_of pitch sh s).deed (book_set sh bs ts)) (works_of pitch sh ss) r i) (drained_in (works_of pitch sh ss) (by leaves (work_of pitch sh s).deed (book_set sh bs ts)) r i)
      ∙ ap (λ t. cond (p r && by takes (work_of pitch sh s).deed (book_set sh bs ts) r i) 1 0 + cond (p r && t) 1 0)
      (sym (drained_same (works_of pitch sh ss) _ _ r i (book_step z sh bs ts ok r i h pitch s v)))

  -- what all steps take of buffers
  skip_low : (s : ListStep) (bs : List Buffer) (ts : List Texture) (r i : ℕ) (n : ℕ) (k : Bool) → buffer_count ≤ n
      → ◌≡◌ {A = ℕ} (cond (ltb r buffer_count && (book_set sh bs ts r i && (eqb r n && k))) 1 0) 0
  skip_low s bs ts r i n k h = ap (λ t. cond t 1 0) (none_low r n (book_set sh bs ts r i) k h)

  pub all_taken_lem : (ss : List ListStep) (bs : List Buffer) (ts : List Texture) → Shelved z sh bs ts → AllValid z sh ss → (r i : ℕ) → r < slot_count
      → times (clears_of (all_taken bs (on_buffers ss))) r i ≡ cond (ltb r buffer_count && drained_set (book_set sh bs ts) (works_of pitch sh ss) r i) 1 0
  all_taken_lem [] bs ts ok v r i h = zero_cond _ (no_cells (ltb r buffer_count))
  all_taken_lem (OnBuffer s ∷ ss) bs ts ok v r i h =
      let both = times_clears (taken bs s) (all_taken (drain_step bs s) (on_buffers ss)) r i in
      let here = buffer_taken s bs ts ok v.0 r i in
      let rest = all_taken_lem ss (drain_step bs s) ts (shelve_step z sh bs ts ok (OnBuffer s) v.0) v.1 r i h in
      let split = step_times (λ q. ltb q buffer_count) (OnBuffer s) ss bs ts ok v.0 r i h in
      omega arith
  all_taken_lem (TextureRead n a ∷ ss) bs ts ok v r i h =
      let rest = all_taken_lem ss bs (drained_by ts (TextureRead n a)) (shelve_step z sh bs ts ok (TextureRead n a) v.0) v.1 r i h in
      let split = step_times (λ q. ltb q buffer_count) (TextureRead n a) ss bs ts ok v.0 r i h in
      let none = skip_low (TextureRead n a) bs ts r i n (in_area a (mip_of (sh n) i) (layer_of (sh n) i)) v.0.high in
      omega arith
  all_taken_lem (TextureWrite n b a ∷ ss) bs ts ok v r i h =
      let rest = all_taken_lem ss bs (drained_by ts (TextureWrite n b a)) (shelve_step z sh bs ts ok (TextureWrite n b a) v.0) v.1 r i h in
      let split = step_times (λ q. ltb q buffer_count) (TextureWrite n b a) ss bs ts ok v.0 r i h in
      let none = zero_cond _ (no_cells (ltb r buffer_count)) in
      omega arith
  all_taken_lem (ClearTexture n a ∷ ss) bs ts ok v r i h =
      let rest = all_taken_lem ss bs ts ok v.1 r i h in
      let split = step_times (λ q. ltb q buffer_count) (ClearTexture n a) ss bs ts ok v.0 r i h in
      let none = zero_cond _ (no_cells (ltb r buffer_count)) in
      omega arith
  all_taken_lem (SettledClear f ∷ ss) bs ts ok v r i h =
      let rest = all_taken_lem ss bs ts ok v.1 r i h in
      let split = step_times (λ q. ltb q buffer_count) (SettledClear f) ss bs ts ok v.0 r i h in
      let none = zero_cond _ (no_cells (ltb r buffer_count)) in
      omega arith
  all_taken_lem (Discard f ∷ ss) bs ts ok v r i h =
      let rest = all_taken_lem ss bs ts ok v.1 r i h in
      let split = step_times (λ q. ltb q buffer_count) (Discard f) ss bs ts ok v.0 r i h in
      let none = zero_cond _ (no_cells (ltb r buffer_count)) in
      omega arith

  all_fine : (ss : List ListStep) (bs : List Buffer) (ts : List Texture) → Shelved z sh bs ts → AllValid z sh ss → AllFine z (all_taken bs (on_buffers ss))
  all_fine [] bs ts ok v = tt
  all_fine (OnBuffer s ∷ ss) bs ts ok v =
      fine_both z (taken bs s) (all_taken (drain_step bs s) (on_buffers ss)) (buffer_fine s bs ts ok v.0)
      (all_fine ss (drain_step bs s) ts (shelve_step z sh bs ts ok (OnBuffer s) v.0) v.1)
  all_fine (TextureRead n a ∷ ss) bs ts ok v = all_fine ss bs (drained_by ts (TextureRead n a)) (shelve_step z sh bs ts ok (TextureRead n a) v.0) v.1
  all_fine (TextureWrite n b a ∷ ss) bs ts ok v = all_fine ss bs (drained_by ts (TextureWrite n b a)) (shelve_step z sh bs ts ok (TextureWrite n b a) v.0) v.1
  all_fine (ClearTexture n a ∷ ss) bs ts ok v = all_fine ss bs ts ok v.1
  all_fine (SettledClear f ∷ ss) bs ts ok v = all_fine ss bs ts ok v.1
  all_fine (Discard f ∷ ss) bs ts ok v = all_fine ss bs ts ok v.1

  pub buffers_paint : (ss : List ListStep) (bs : List Buffer) (ts : List Texture) → Shelved z sh bs ts → AllValid z sh ss
      → Paints z 0 (clears_of (planned bs (on_buffers ss))) (λ r i. ltb r buffer_count && drained_set (book_set sh bs ts) (works_of pitch sh ss) r i)
  buffers_paint ss bs ts ok v =
      let fine = all_fine ss bs ts ok v in
      record {
        leaves = clears_leave (planned bs (on_buffers ss));
        fits = fine_inside z (planned bs (on_buffers ss)) (kept_fine z (all_taken bs (on_buffers ss)) fine);
        once = λ r i h j. kept_times z (all_taken bs (on_buffers ss)) fine r i ∙ all_taken_lem ss bs ts ok v r i h;
      }

-- no read needs a clear of a texture that can't be cleared
abbrev pub Clearable : List Texture → List ListStep → Type 0
Clearable ts [] = Unit {0}
Clearable ts (s ∷ ss) = (cant_clear ts s ≡ false) × Clearable (drained_by ts s) ss

pub can_clear : (m : ClearMode) → unclearable m ≡ false → clears m ≡ true
can_clear mode.None e = sym e
can_clear mode.Copies e = refl
can_clear mode.ColourPass e = refl
can_clear mode.DepthPass e = refl

no_owing : (a b : Bool) → (a && b) ≡ false → a ≡ true → b ≡ false
no_owing a b e f = grind arith

module _ (z : Sizes) (pitch : ℕ) (sh : ℕ → Shape) (fits : pitch_fits pitch ≡ true) where
  read_clears : (n : ℕ) (a : Area) (bs : List Buffer) (ts : List Texture) → Shelved z sh bs ts → ValidArea z sh n a → cant_clear ts (TextureRead n a) ≡ false
      → Paints z 0 (clear_mips pitch n (sh n) a 0 (texture_in ts n).owes)
      (λ r i. eqb r n && (book_at 0 (texture_in ts n).owes (mip_of (sh n) i) (layer_of (sh n) i) && in_area a (mip_of (sh n) i) (layer_of (sh n) i)))
  read_clears n a bs ts ok v e =
      let known = v.texture.known in
      let sound = ok.textures n v.high known in
      ⊎_elim
      (λ t. clear_none z pitch n (sh n) a (layers_of (sh n)) 0 (texture_in ts n).owes sound
      (no_owing (unclearable (texture_in ts n).shape.mode) (owes_any a 0 (texture_in ts n).owes) e t))
      (λ t.
      let can : clears (sh n).mode ≡ true = subst (λ (s : Shape). clears s.mode ≡ true) (ok.shape n v.high known) (can_clear (texture_in ts n).shape.mode t) in
      clear_mips_lem z pitch n (sh n) a (layers_of (sh n)) 0 (texture_in ts n).owes sound
      (λ m l hm hl. clear_surface_lem z n (sh n) v.texture m l (let same = ok.mips n v.high known in omega arith) hl pitch can fits))
      (cases_Bool (unclearable (texture_in ts n).shape.mode))

  read_paints : (n : ℕ) (a : Area) (bs : List Buffer) (ts : List Texture) → Shelved z sh bs ts → ValidArea z sh n a → cant_clear ts (TextureRead n a) ≡ false
      → Paints z 0 (needed_by pitch ts (TextureRead n a)) (λ r i. not (ltb r buffer_count) && by takes (work_of pitch sh (TextureRead n a)).deed (book_set sh bs ts) r i)
  read_paints n a bs ts ok v e =
      subst
      (λ (s : Shape). Paints z 0 (clear_mips pitch n s a 0 (texture_in ts n).owes) (λ r i. not (ltb r buffer_count) && by takes (work_of pitch sh (TextureRead n a)).deed (book_set sh bs ts) r i))
      (sym (ok.shape n v.high v.texture.known))
      (paints_as z 0 _ _ _
      (λ r i h j.
      high_taken r n i (book_at 0 (texture_in ts n).owes (mip_of (sh n) i) (layer_of (sh n) i)) (book_set sh bs ts r i) (in_area a (mip_of (sh n) i) (layer_of (sh n) i)) v.high
      (λ same.
      ap (λ k. book_at 0 (texture_in ts k).owes (mip_of (sh k) i) (layer_of (sh k) i)) (sym same)
      ∙ sym (set_high sh bs ts r i (subst (λ k. buffer_count ≤ k) (sym same) v.high))))
      (read_clears n a bs ts ok v e))

  -- a step that takes nothing of textures
  none_needed : (s : ListStep) (bs : List Buffer) (ts : List Texture)
      → ((r i : ℕ) → (not (ltb r buffer_count) && by takes (work_of pitch sh s).deed (book_set sh bs ts) r i) ≡ false)
      → Paints z 0 [] (λ r i. not (ltb r buffer_count) && by takes (work_of pitch sh s).deed (book_set sh bs ts) r i)
  none_needed s bs ts e = paints_none z 0 _ (λ r i h j. e r i)

  buffer_none : (s : Step) (bs : List Buffer) (ts : List Texture) → buffer_of s < buffer_count → (r i : ℕ)
      → (not (ltb r buffer_count) && by takes (work_of pitch sh (OnBuffer s)).deed (book_set sh bs ts) r i) ≡ false
  buffer_none (step.BufferRead n start end) bs ts h r i = none_high r n (book_set sh bs ts r i) (inside start (cover_end (step.BufferRead n start end)) i) h
  buffer_none (step.BufferWrite n byte start end) bs ts h r i = no_cells (not (ltb r buffer_count))
  buffer_none (step.ClearBuffer n start end) bs ts h r i = no_cells (not (ltb r buffer_count))

  needed_paints : (s : ListStep) (bs : List Buffer) (ts : List Texture) → Shelved z sh bs ts → Valid z sh s → cant_clear ts s ≡ false
      → Paints z 0 (needed_by pitch ts s) (λ r i. not (ltb r buffer_count) && by takes (work_of pitch sh s).deed (book_set sh bs ts) r i)
  needed_paints (OnBuffer s) bs ts ok v e = none_needed (OnBuffer s) bs ts (buffer_none s bs ts v.low)
  needed_paints (TextureRead n a) bs ts ok v e = read_paints n a bs ts ok v e
  needed_paints (TextureWrite n b a) bs ts ok v e = none_needed (TextureWrite n b a) bs ts (λ r i. no_cells (not (ltb r buffer_count)))
  needed_paints (ClearTexture n a) bs ts ok v e = none_needed (ClearTexture n a) bs ts (λ r i. no_cells (not (ltb r buffer_count)))
  needed_paints (SettledClear f) bs ts ok v e = none_needed (SettledClear f) bs ts (λ r i. no_cells (not (ltb r buffer_count)))
  needed_paints (Discard f) bs ts ok v e = none_needed (Discard f) bs ts (λ r i. no_cells (not (ltb r buffer_count)))

  pub textures_paint : (ss : List ListStep) (bs : List Buffer) (ts : List Texture) → Shelved z sh bs ts → AllValid z sh ss → Clearable ts ss
      → Paints z 0 (needed_by_all pitch ts ss) (λ r i. not (ltb r buffer_count) && drained_set (book_set sh bs ts) (works_of pitch sh ss) r i)
  textures_paint [] bs ts ok v c = paints_none z 0 _ (λ r i h j. no_cells (not (ltb r buffer_count)))
  textures_paint (s ∷ ss) bs ts ok v c =
      paints_both z 0 (needed_by pitch ts s) (needed_by_all pitch (drained_by ts s) ss) _ _ _ (needed_paints s bs ts ok v.0 c.0)
      (textures_paint ss (buffers_after bs s) (drained_by ts s) (shelve_step z sh bs ts ok s v.0) v.1 c.1)
      (λ r i h j. step_times z pitch sh (λ q. not (ltb q buffer_count)) s ss bs ts ok v.0 r i h)

  -- both kinds together
  either_kind : (a d : Bool) → cond d 1 0 ≡ cond (a && d) 1 0 + cond (not a && d) 1 0
  either_kind a d = grind arith

  pub ahead_paints : (ss : List ListStep) (bs : List Buffer) (ts : List Texture) → Shelved z sh bs ts → AllValid z sh ss → Clearable ts ss
      → Paints z 0 (clears_of (planned bs (on_buffers ss)) ++ needed_by_all pitch ts ss) (drained_set (book_set sh bs ts) (works_of pitch sh ss))
  ahead_paints ss bs ts ok v c =
      paints_both z 0 (clears_of (planned bs (on_buffers ss))) (needed_by_all pitch ts ss) _ _ _ (buffers_paint z pitch sh ss bs ts ok v) (textures_paint ss bs ts ok v c)
      (λ r i h j. either_kind (ltb r buffer_count) (drained_set (book_set sh bs ts) (works_of pitch sh ss) r i))
