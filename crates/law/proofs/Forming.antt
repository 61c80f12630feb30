-- A list that may stand, cell by cell; and what its discards leave in the books.
use Rattle.std.proofs.Common.{◌≡◌, ℕ, ◌+◌, ◌<◌, ◌≤◌, Bool, true, false, cond, not, ◌&&◌, ◌||◌, eqb, leb, List, [], ◌∷◌, ◌++◌, length, sym, refl, ap, ◌∙◌, subst, ap₂, ⊎_elim, arith}
use Rattle.std.proofs.lemmas.Bool.Decides.{nat_tests}
use Rattle.std.proofs.lemmas.Bool.{ne_eqb, cases_eq, cases_lt}
use Rattle.texture.specs.Shapes.{Shape, layers_of}
use Rattle.texture.specs.Cells.{mip_of, layer_of}
use Rattle.texture.specs.Runs.{pitch_fits}
use Rattle.range_list.specs.Ranges.{inside}
use Rattle.rules.specs.State.{Buffer, Texture, no_texture}
use Rattle.rules.specs.Uses.{buffer_of, start_of, cover_end}
use Rattle.rules.specs.declared.step.Step.{Step}
use Rattle.rules.specs.declared.step.Step.TheVariants as step
use Rattle.law.specs.Pages.{Area, Surface, ListStep, OnBuffer, TextureRead, TextureWrite, ClearTexture, SettledClear, Discard, buffer_count, texture_count, place_of, texture_in, in_area, uses_of, same_surface, without, discards_after, discards_from, covered_after, covered_from}
use Rattle.law.specs.Uses.{with_book, discard_mip, discard_into, discard_all, commands_for}
use Rattle.law.specs.Ledger.{Cells, Sizes, Each, slot_count, covers, buffer_effect}
use Rattle.law.specs.Laws.{commanded}
use Rattle.law.proofs.Commands.{paints_named}
use Rattle.law.proofs.Moves.{goes, sees, settles, by, gone_set, Stands, Formed}
use Rattle.law.proofs.Shelves.{book_at, AllSound, discard_book, discard_sound, discard_length}
use Rattle.law.proofs.Works.{ValidSurface, Valid, AllValid, work_of, works_of, settled_paints}
use Rattle.law.proofs.Shelving.{book_set, set_low, set_high, Shelved, set_at, shelve_texture}
use Rattle.law.proofs.Discards.{has, discarded_after, discarded_from, discarded_more, settled_after, settled_from, settled_more, covered_more, has_discards, same_fields, parts, GoodStep, Good}

-- the surface of a cell
abbrev pub surface_at : (ℕ → Shape) → ℕ → ℕ → Surface
surface_at sh r i = record { texture = r; mip = mip_of (sh r) i; layer = layer_of (sh r) i }

at_slot : (sh : ℕ → Shape) (P : Shape → Bool) (r n : ℕ) → (eqb r n && P (sh n)) ≡ (eqb r n && P (sh r))
at_slot sh P r n =
    ⊎_elim (λ e. ap (λ k. eqb r n && P (sh k)) (sym e)) (λ h. ap (λ t. t && P (sh n)) (ne_eqb r n h) ∙ sym (ap (λ t. t && P (sh r)) (ne_eqb r n h))) (cases_eq r n)

area_use : (sh : ℕ → Shape) (n : ℕ) (a : Area) (r i : ℕ) → (eqb r n && in_area a (mip_of (sh n) i) (layer_of (sh n) i)) ≡ (eqb r n && in_area a (mip_of (sh r) i) (layer_of (sh r) i))
area_use sh n a r i = at_slot sh (λ s. in_area a (mip_of s i) (layer_of s i)) r n

pub surface_use : (sh : ℕ → Shape) (g : Surface) (r i : ℕ) → covers sh (Discard g) r i ≡ same_surface (surface_at sh r i) g
surface_use sh g r i = at_slot sh (λ s. eqb (mip_of s i) g.mip && eqb (layer_of s i) g.layer) r g.texture

-- a cell in the midst of a list: of a texture, as its surface; a buffer's is never discarded
pub record Tracks (sh : ℕ → Shape) (pre : List ListStep) (g v s : Bool) (r i : ℕ) : Type 0 where
  pub gone : buffer_count ≤ r → g ≡ discarded_from (surface_at sh r i) false pre
  pub seen : buffer_count ≤ r → v ≡ covered_from (surface_at sh r i) false pre
  pub settled : buffer_count ≤ r → s ≡ settled_from (surface_at sh r i) false pre
  pub kept : r < buffer_count → g ≡ false
  pub clean : r < buffer_count → s ≡ false

off_high : (a : Bool) (r n : ℕ) (k : Bool) → n < buffer_count → buffer_count ≤ r → a ≡ (a && not (eqb r n && k))
off_high a r n k h j = grind (arith, nat_tests)

on_high : (a : Bool) (r n : ℕ) (k : Bool) → n < buffer_count → buffer_count ≤ r → a ≡ (a || (eqb r n && k))
on_high a r n k h j = grind (arith, nat_tests)

still_none : (a k : Bool) → a ≡ false → (a && not k) ≡ false
still_none a k e = grind arith

buffer_look : (r n : ℕ) (k g s : Bool) → n < buffer_count → (r < buffer_count → g ≡ false) → ((eqb r n && k) && g) ≡ true → s ≡ true
buffer_look r n k g s h e t = ⊎_elim (λ lt. let f = e lt in grind arith) (λ le. grind (arith, nat_tests)) (cases_lt r buffer_count)

buffer_write : (r n : ℕ) (k s : Bool) → n < buffer_count → (r < buffer_count → s ≡ false) → (eqb r n && k) ≡ true → s ≡ false
buffer_write r n k s h e t = ⊎_elim (λ lt. e lt) (λ le. let z : ◌≡◌ {A = ℕ} 0 1 = grind (arith, nat_tests) in absurd (omega arith)) (cases_lt r buffer_count)

-- one step of a buffer
module _ (sh : ℕ → Shape) (pre : List ListStep) (st : Step) (low : buffer_of st < buffer_count) (r i : ℕ) (g v s : Bool) (t : Tracks sh pre g v s r i) where
  abbrev cover : Bool
  cover = eqb r (buffer_of st) && inside (start_of st) (cover_end st) i

  buffer_tracks : Tracks sh (pre ++ (OnBuffer st ∷ [])) (g && not cover) (v || cover) (s && not cover) r i
  buffer_tracks =
      record {
        gone = λ h. sym (off_high g r (buffer_of st) (inside (start_of st) (cover_end st) i) low h) ∙ t.gone h ∙ sym (discarded_more (surface_at sh r i) false pre (OnBuffer st));
        seen = λ h. sym (on_high v r (buffer_of st) (inside (start_of st) (cover_end st) i) low h) ∙ t.seen h ∙ sym (covered_more (surface_at sh r i) false pre (OnBuffer st));
        settled = λ h. sym (off_high s r (buffer_of st) (inside (start_of st) (cover_end st) i) low h) ∙ t.settled h ∙ sym (settled_more (surface_at sh r i) false pre (OnBuffer st));
        kept = λ h. still_none g cover (t.kept h);
        clean = λ h. still_none s cover (t.clean h);
      }

buffer_stands : (sh : ℕ → Shape) (pre : List ListStep) (st : Step) → buffer_of st < buffer_count → (r i : ℕ) (g v s : Bool) → Tracks sh pre g v s r i
    → Stands (buffer_effect st) (covers sh (OnBuffer st) r i) g v s
buffer_stands sh pre (step.BufferRead n start end) low r i g v s t = buffer_look r n (inside start (cover_end (step.BufferRead n start end)) i) g s low t.kept
buffer_stands sh pre (step.BufferWrite n byte start end) low r i g v s t = buffer_write r n (inside start end i) s low t.clean
buffer_stands sh pre (step.ClearBuffer n start end) low r i g v s t = buffer_write r n (inside start end i) s low t.clean

buffer_next : (sh : ℕ → Shape) (pre : List ListStep) (st : Step) → buffer_of st < buffer_count → (r i : ℕ) (g v s : Bool) → Tracks sh pre g v s r i
    → Tracks sh (pre ++ (OnBuffer st ∷ [])) (goes (buffer_effect st) (covers sh (OnBuffer st) r i) g) (sees (buffer_effect st) (covers sh (OnBuffer st) r i) v) (settles (buffer_effect st) (covers sh (OnBuffer st) r i) s) r i
buffer_next sh pre (step.BufferRead n start end) low r i g v s t = buffer_tracks sh pre (step.BufferRead n start end) low r i g v s t
buffer_next sh pre (step.BufferWrite n byte start end) low r i g v s t = buffer_tracks sh pre (step.BufferWrite n byte start end) low r i g v s t
buffer_next sh pre (step.ClearBuffer n start end) low r i g v s t = buffer_tracks sh pre (step.ClearBuffer n start end) low r i g v s t

-- a use of a texture: u is whether it covers the cell's surface
use_look : (k u g d s e : Bool) → k ≡ u → g ≡ d → s ≡ e → (u ≡ true → d ≡ true → e ≡ true) → (k && g) ≡ true → s ≡ true
use_look k u g d s e p q w h t = grind arith

use_write : (k u s e : Bool) → k ≡ u → s ≡ e → (u ≡ true → e ≡ false) → k ≡ true → s ≡ false
use_write k u s e p w h t = grind arith

no_look : (k g s : Bool) → g ≡ false → (k && g) ≡ true → s ≡ true
no_look k g s e t = grind arith

use_tracks : (sh : ℕ → Shape) (pre : List ListStep) (n : ℕ) (a : Area) (st : ListStep) (r i : ℕ) (g v s : Bool) → Tracks sh pre g v s r i
    → ((d : Bool) → discarded_after st (surface_at sh r i) d ≡ (d && not (eqb r n && in_area a (mip_of (sh r) i) (layer_of (sh r) i))))
    → ((d : Bool) → covered_after st (surface_at sh r i) d ≡ (d || (eqb r n && in_area a (mip_of (sh r) i) (layer_of (sh r) i))))
    → ((d : Bool) → settled_after st (surface_at sh r i) d ≡ (d && not (eqb r n && in_area a (mip_of (sh r) i) (layer_of (sh r) i))))
    → Tracks sh (pre ++ (st ∷ [])) (g && not (eqb r n && in_area a (mip_of (sh n) i) (layer_of (sh n) i))) (v || (eqb r n && in_area a (mip_of (sh n) i) (layer_of (sh n) i))) (s && not (eqb r n && in_area a (mip_of (sh n) i) (layer_of (sh n) i))) r i
use_tracks sh pre n a st r i g v s t eg ev es =
    let k = area_use sh n a r i in
    record {
      gone = λ h. ap₂ (λ x y. x && not y) (t.gone h) k ∙ sym (discarded_more (surface_at sh r i) false pre st ∙ eg (discarded_from (surface_at sh r i) false pre));
      seen = λ h. ap₂ (λ x y. x || y) (t.seen h) k ∙ sym (covered_more (surface_at sh r i) false pre st ∙ ev (covered_from (surface_at sh r i) false pre));
      settled = λ h. ap₂ (λ x y. x && not y) (t.settled h) k ∙ sym (settled_more (surface_at sh r i) false pre st ∙ es (settled_from (surface_at sh r i) false pre));
      kept = λ h. still_none g (eqb r n && in_area a (mip_of (sh n) i) (layer_of (sh n) i)) (t.kept h);
      clean = λ h. still_none s (eqb r n && in_area a (mip_of (sh n) i) (layer_of (sh n) i)) (t.clean h);
    }

-- a step that changes none of the three
same_tracks : (sh : ℕ → Shape) (pre : List ListStep) (n : ℕ) (a : Area) (r i : ℕ) (g v s : Bool) → Tracks sh pre g v s r i → Tracks sh (pre ++ (ClearTexture n a ∷ [])) g v s r i
same_tracks sh pre n a r i g v s t =
    record {
      gone = λ h. t.gone h ∙ sym (discarded_more (surface_at sh r i) false pre (ClearTexture n a));
      seen = λ h. t.seen h ∙ sym (covered_more (surface_at sh r i) false pre (ClearTexture n a));
      settled = λ h. t.settled h ∙ sym (settled_more (surface_at sh r i) false pre (ClearTexture n a));
      kept = t.kept;
      clean = t.clean;
    }

-- a discard and a settled clear of one surface
not_slot : (r n : ℕ) (k : Bool) → buffer_count ≤ n → r < buffer_count → (eqb r n && k) ≡ false
not_slot r n k h j = grind (arith, nat_tests)

low_surface : (sh : ℕ → Shape) (f : Surface) (r i : ℕ) → buffer_count ≤ f.texture → r < buffer_count → same_surface (surface_at sh r i) f ≡ false
low_surface sh f r i h j = not_slot r f.texture (eqb (mip_of (sh r) i) f.mip && eqb (layer_of (sh r) i) f.layer) h j

or_same : (a b : Bool) → a ≡ false → b ≡ false → (a || b) ≡ false
or_same a b e f = grind arith

discard_tracks : (sh : ℕ → Shape) (pre : List ListStep) (f : Surface) (r i : ℕ) (g v s : Bool) → buffer_count ≤ f.texture → Tracks sh pre g v s r i
    → Tracks sh (pre ++ (Discard f ∷ [])) (g || covers sh (Discard f) r i) (v && not (covers sh (Discard f) r i)) s r i
discard_tracks sh pre f r i g v s high t =
    let k = surface_use sh f r i in
    record {
      gone = λ h. ap₂ (λ x y. x || y) (t.gone h) k ∙ sym (discarded_more (surface_at sh r i) false pre (Discard f));
      seen = λ h. ap₂ (λ x y. x && not y) (t.seen h) k ∙ sym (covered_more (surface_at sh r i) false pre (Discard f));
      settled = λ h. t.settled h ∙ sym (settled_more (surface_at sh r i) false pre (Discard f));
      kept = λ h. or_same g (covers sh (Discard f) r i) (t.kept h) (k ∙ low_surface sh f r i high h);
      clean = t.clean;
    }

settled_tracks : (sh : ℕ → Shape) (pre : List ListStep) (f : Surface) (r i : ℕ) (k g v s : Bool) → buffer_count ≤ f.texture → k ≡ same_surface (surface_at sh r i) f → Tracks sh pre g v s r i
    → Tracks sh (pre ++ (SettledClear f ∷ [])) g v (s || k) r i
settled_tracks sh pre f r i k g v s high e t =
    record {
      gone = λ h. t.gone h ∙ sym (discarded_more (surface_at sh r i) false pre (SettledClear f));
      seen = λ h. t.seen h ∙ sym (covered_more (surface_at sh r i) false pre (SettledClear f));
      settled = λ h. ap₂ (λ x y. x || y) (t.settled h) e ∙ sym (settled_more (surface_at sh r i) false pre (SettledClear f));
      kept = t.kept;
      clean = λ h. or_same s k (t.clean h) (e ∙ low_surface sh f r i high h);
    }

high_of : (sh : ℕ → Shape) (f : Surface) (r i : ℕ) → buffer_count ≤ f.texture → same_surface (surface_at sh r i) f ≡ true → buffer_count ≤ r
high_of sh f r i h e = let same = (parts r f.texture (mip_of (sh r) i) f.mip (layer_of (sh r) i) f.layer e).0 in omega arith

abbrev AllTrack : Sizes → (ℕ → Shape) → List ListStep → Cells → Cells → Cells → Type 0
AllTrack z sh pre g v s = Each z (λ r i. Tracks sh pre (g r i) (v r i) (s r i) r i)

module _ (z : Sizes) (pitch : ℕ) (sh : ℕ → Shape) (fits : pitch_fits pitch ≡ true) where
  settled_cover : (f : Surface) → Valid z sh (SettledClear f) → Each z (λ r i. commanded (commands_for pitch sh (SettledClear f)) r i ≡ same_surface (surface_at sh r i) f)
  settled_cover f v r i h j = paints_named z 0 _ _ (settled_paints z pitch sh fits f v.0 v.1) r i h j ∙ surface_use sh f r i

  stands_next : (s : ListStep) (pre : List ListStep) (g v t : Cells) → Valid z sh s → GoodStep pre s → AllTrack z sh pre g v t
      → Each z (λ r i. Stands (work_of pitch sh s).deed.effect ((work_of pitch sh s).deed.cover r i) (g r i) (v r i) (t r i))
      × AllTrack z sh (pre ++ (s ∷ [])) (by goes (work_of pitch sh s).deed g) (by sees (work_of pitch sh s).deed v) (by settles (work_of pitch sh s).deed t)
  stands_next (OnBuffer st) pre g v t valid good track = (
    (λ r i h j. buffer_stands sh pre st valid.low r i (g r i) (v r i) (t r i) (track r i h j)),
    λ r i h j. buffer_next sh pre st valid.low r i (g r i) (v r i) (t r i) (track r i h j),
  )
  stands_next (TextureRead n a) pre g v t valid good track = (
    (λ r i h j.
        ⊎_elim
        (λ lt. no_look (covers sh (TextureRead n a) r i) (g r i) (t r i) ((track r i h j).kept lt))
        (λ le. use_look (covers sh (TextureRead n a) r i) (uses_of (TextureRead n a) (surface_at sh r i)) (g r i) (discarded_from (surface_at sh r i) false pre) (t r i) (settled_from (surface_at sh r i) false pre)
        (area_use sh n a r i) ((track r i h j).gone le) ((track r i h j).settled le) (good (surface_at sh r i)))
        (cases_lt r buffer_count)),
    λ r i h j. use_tracks sh pre n a (TextureRead n a) r i (g r i) (v r i) (t r i) (track r i h j) (λ d. refl) (λ d. refl) (λ d. refl),
  )
  stands_next (TextureWrite n b a) pre g v t valid good track = (
    (λ r i h j.
        ⊎_elim
        (λ lt _. (track r i h j).clean lt)
        (λ le. use_write (covers sh (TextureWrite n b a) r i) (uses_of (TextureWrite n b a) (surface_at sh r i)) (t r i) (settled_from (surface_at sh r i) false pre)
        (area_use sh n a r i) ((track r i h j).settled le) (good (surface_at sh r i)))
        (cases_lt r buffer_count)),
    λ r i h j. use_tracks sh pre n a (TextureWrite n b a) r i (g r i) (v r i) (t r i) (track r i h j) (λ d. refl) (λ d. refl) (λ d. refl),
  )
  stands_next (ClearTexture n a) pre g v t valid good track =
      ((λ r i h j. tt), λ r i h j. same_tracks sh pre n a r i (g r i) (v r i) (t r i) (track r i h j))
  stands_next (SettledClear f) pre g v t valid good track = (
    (λ r i h j k.
        let same = sym (settled_cover f valid r i h j) ∙ k in
        let high = high_of sh f r i valid.0.high same in
        let is = same_fields (surface_at sh r i) f same in
        ((track r i h j).gone high ∙ ap (λ e. discarded_from e false pre) is ∙ good.0, (track r i h j).settled high ∙ ap (λ e. settled_from e false pre) is ∙ good.1)),
    λ r i h j. settled_tracks sh pre f r i _ (g r i) (v r i) (t r i) valid.0.high (settled_cover f valid r i h j) (track r i h j),
  )
  stands_next (Discard f) pre g v t valid good track = (
    (λ r i h j k.
        let same = sym (surface_use sh f r i) ∙ k in
        let high = high_of sh f r i valid.high same in
        (track r i h j).seen high ∙ ap (λ e. covered_from e false pre) (same_fields (surface_at sh r i) f same) ∙ good),
    λ r i h j. discard_tracks sh pre f r i (g r i) (v r i) (t r i) valid.high (track r i h j),
  )

  pub formed : (ss pre : List ListStep) (g v t : Cells) → AllValid z sh ss → Good pre ss → AllTrack z sh pre g v t → Formed z g v t (works_of pitch sh ss)
  formed [] pre g v t valid good track =
      λ r i h j. ⊎_elim (λ lt. (track r i h j).clean lt) (λ le. (track r i h j).settled le ∙ good (surface_at sh r i)) (cases_lt r buffer_count)
  formed (s ∷ ss) pre g v t valid good track =
      let here = stands_next s pre g v t valid.0 good.0 track in
      (here.0, formed ss (pre ++ (s ∷ [])) _ _ _ valid.1 good.1 here.1)

  pub formed_list : (ss : List ListStep) → AllValid z sh ss → Good [] ss → Formed z (λ r i. false) (λ r i. false) (λ r i. false) (works_of pitch sh ss)
  formed_list ss valid good =
      formed ss [] _ _ _ valid good (λ r i h j. record { gone = λ _. refl; seen = λ _. refl; settled = λ _. refl; kept = λ _. refl; clean = λ _. refl })

goes_buffer : (sh : ℕ → Shape) (st : Step) (r i : ℕ) (g : Bool) → buffer_of st < buffer_count → buffer_count ≤ r → goes (buffer_effect st) (covers sh (OnBuffer st) r i) g ≡ g
goes_buffer sh (step.BufferRead n start end) r i g low h = sym (off_high g r n (inside start (cover_end (step.BufferRead n start end)) i) low h)
goes_buffer sh (step.BufferWrite n byte start end) r i g low h = sym (off_high g r n (inside start end i) low h)
goes_buffer sh (step.ClearBuffer n start end) r i g low h = sym (off_high g r n (inside start end i) low h)

-- what stands discarded in the end
goes_at : (sh : ℕ → Shape) (z : Sizes) (pitch : ℕ) (s : ListStep) → Valid z sh s → (r i : ℕ) (g : Bool) → buffer_count ≤ r
    → goes (work_of pitch sh s).deed.effect ((work_of pitch sh s).deed.cover r i) g ≡ discarded_after s (surface_at sh r i) g
goes_at sh z pitch (OnBuffer st) v r i g h = goes_buffer sh st r i g v.low h
goes_at sh z pitch (TextureRead n a) v r i g h = ap (λ k. g && not k) (area_use sh n a r i)
goes_at sh z pitch (TextureWrite n b a) v r i g h = ap (λ k. g && not k) (area_use sh n a r i)
goes_at sh z pitch (ClearTexture n a) v r i g h = refl
goes_at sh z pitch (SettledClear f) v r i g h = refl
goes_at sh z pitch (Discard f) v r i g h = ap (λ k. g || k) (surface_use sh f r i)

low_buffer : (sh : ℕ → Shape) (st : Step) (r i : ℕ) (g : Bool) → g ≡ false → goes (buffer_effect st) (covers sh (OnBuffer st) r i) g ≡ false
low_buffer sh (step.BufferRead n start end) r i g e = still_none g (covers sh (OnBuffer (step.BufferRead n start end)) r i) e
low_buffer sh (step.BufferWrite n byte start end) r i g e = still_none g (covers sh (OnBuffer (step.BufferWrite n byte start end)) r i) e
low_buffer sh (step.ClearBuffer n start end) r i g e = still_none g (covers sh (OnBuffer (step.ClearBuffer n start end)) r i) e

goes_low : (sh : ℕ → Shape) (z : Sizes) (pitch : ℕ) (s : ListStep) → Valid z sh s → (r i : ℕ) (g : Bool) → r < buffer_count → g ≡ false
    → goes (work_of pitch sh s).deed.effect ((work_of pitch sh s).deed.cover r i) g ≡ false
goes_low sh z pitch (OnBuffer st) v r i g h e = low_buffer sh st r i g e
goes_low sh z pitch (TextureRead n a) v r i g h e = still_none g (covers sh (TextureRead n a) r i) e
goes_low sh z pitch (TextureWrite n b a) v r i g h e = still_none g (covers sh (TextureWrite n b a) r i) e
goes_low sh z pitch (ClearTexture n a) v r i g h e = e
goes_low sh z pitch (SettledClear f) v r i g h e = e
goes_low sh z pitch (Discard f) v r i g h e = or_same g (covers sh (Discard f) r i) e (surface_use sh f r i ∙ low_surface sh f r i v.high h)

gone_high : (sh : ℕ → Shape) (z : Sizes) (pitch : ℕ) (ss : List ListStep) (g : Cells) → AllValid z sh ss → (r i : ℕ) → buffer_count ≤ r
    → gone_set g (works_of pitch sh ss) r i ≡ discarded_from (surface_at sh r i) (g r i) ss
gone_high sh z pitch [] g v r i h = refl
gone_high sh z pitch (s ∷ ss) g v r i h =
    gone_high sh z pitch ss (by goes (work_of pitch sh s).deed g) v.1 r i h ∙ ap (λ d. discarded_from (surface_at sh r i) d ss) (goes_at sh z pitch s v.0 r i (g r i) h)

gone_low : (sh : ℕ → Shape) (z : Sizes) (pitch : ℕ) (ss : List ListStep) (g : Cells) → AllValid z sh ss → (r i : ℕ) → r < buffer_count → g r i ≡ false
    → gone_set g (works_of pitch sh ss) r i ≡ false
gone_low sh z pitch [] g v r i h e = e
gone_low sh z pitch (s ∷ ss) g v r i h e = gone_low sh z pitch ss (by goes (work_of pitch sh s).deed g) v.1 r i h (goes_low sh z pitch s v.0 r i (g r i) h e)

-- surfaces that are there
abbrev pub AllThere : Sizes → (ℕ → Shape) → List Surface → Type 0
AllThere z sh [] = Unit {0}
AllThere z sh (f ∷ fs) = ValidSurface z sh f × AllThere z sh fs

there_cond : (z : Sizes) (sh : ℕ → Shape) (e : Bool) (xs ys : List Surface) → AllThere z sh xs → AllThere z sh ys → AllThere z sh (cond e xs ys)
there_cond z sh true xs ys a b = a
there_cond z sh false xs ys a b = b

there_without : (z : Sizes) (sh : ℕ → Shape) (s : ListStep) (fs : List Surface) → AllThere z sh fs → AllThere z sh (without s fs)
there_without z sh s [] a = tt
there_without z sh s (f ∷ fs) a =
    there_cond z sh (uses_of s f) (without s fs) (f ∷ without s fs) (there_without z sh s fs a.1) (a.0, there_without z sh s fs a.1)

there_last : (z : Sizes) (sh : ℕ → Shape) (f : Surface) (fs : List Surface) → AllThere z sh fs → ValidSurface z sh f → AllThere z sh (fs ++ (f ∷ []))
there_last z sh f [] a v = (v, tt)
there_last z sh f (g ∷ fs) a v = (a.0, there_last z sh f fs a.1 v)

there_after : (z : Sizes) (sh : ℕ → Shape) (s : ListStep) (fs : List Surface) → Valid z sh s → AllThere z sh fs → AllThere z sh (discards_after s fs)
there_after z sh (OnBuffer s) fs v a = a
there_after z sh (TextureRead n b) fs v a = there_without z sh (TextureRead n b) fs a
there_after z sh (TextureWrite n byte b) fs v a = there_without z sh (TextureWrite n byte b) fs a
there_after z sh (ClearTexture n b) fs v a = a
there_after z sh (SettledClear f) fs v a = a
there_after z sh (Discard f) fs v a = there_last z sh f fs a v

pub there_all : (z : Sizes) (sh : ℕ → Shape) (ss : List ListStep) (fs : List Surface) → AllValid z sh ss → AllThere z sh fs → AllThere z sh (discards_from fs ss)
there_all z sh [] fs v a = a
there_all z sh (s ∷ ss) fs v a = there_all z sh ss (discards_after s fs) v.1 (there_after z sh s fs v.0 a)

-- one discard put into its book
texture_pick : (e : Bool) (x y : Texture) (m l : ℕ) → book_at 0 (cond e x y).owes m l ≡ cond e (book_at 0 x.owes m l) (book_at 0 y.owes m l)
texture_pick true x y m l = refl
texture_pick false x y m l = refl

put_one : (e : Bool) (a b k : Bool) → (e ≡ true → a ≡ b) → cond e (a || k) b ≡ (b || (e && k))
put_one true a b k h = ap (λ t. t || k) (h refl)
put_one false a b k h = grind arith

same_place : (r n : ℕ) → buffer_count ≤ r → buffer_count ≤ n → eqb (place_of r) (place_of n) ≡ eqb r n
same_place r n h k = grind (arith, nat_tests)

from_nought : (m f : ℕ) (k : Bool) → (eqb m f && (leb 0 f && k)) ≡ (eqb m f && k)
from_nought m f k = grind (arith, nat_tests)

eqb_to : (r n : ℕ) → eqb r n ≡ true → r ≡ n
eqb_to r n e = grind (arith, nat_tests)

none_else : (b : Bool) (k : Bool) → k ≡ false → b ≡ (b || k)
none_else b k e = grind arith

module _ (z : Sizes) (sh : ℕ → Shape) (bs : List Buffer) (ts : List Texture) (ok : Shelved z sh bs ts) (f : Surface) (v : ValidSurface z sh f) where
  abbrev into : Texture
  into = with_book (texture_in ts f.texture) (discard_mip (layers_of (texture_in ts f.texture).shape) 0 f (texture_in ts f.texture).owes)

  shape_is : (texture_in ts f.texture).shape ≡ sh f.texture
  shape_is = ok.shape f.texture v.high v.texture.known

  layer_fits : f.layer < layers_of (texture_in ts f.texture).shape
  layer_fits = subst (λ (s : Shape). f.layer < layers_of s) (sym shape_is) v.layer

  sound_here : AllSound (layers_of (texture_in ts f.texture).shape) (texture_in ts f.texture).owes
  sound_here = subst (λ (s : Shape). AllSound (layers_of s) (texture_in ts f.texture).owes) (sym shape_is) (ok.textures f.texture v.high v.texture.known)

  mip_fits : f.mip < 0 + length (texture_in ts f.texture).owes
  mip_fits = let same = ok.mips f.texture v.high v.texture.known in let h = v.mip in omega arith

  pub shelve_discard : Shelved z sh bs (discard_into ts f)
  shelve_discard =
      shelve_texture z sh bs ts ok f.texture into v.high v.texture.known
      (record {
        sound = subst (λ (s : Shape). AllSound (layers_of s) into.owes) shape_is (discard_sound (layers_of (texture_in ts f.texture).shape) f 0 (texture_in ts f.texture).owes layer_fits sound_here);
        mips = discard_length (layers_of (texture_in ts f.texture).shape) f 0 (texture_in ts f.texture).owes ∙ ok.mips f.texture v.high v.texture.known;
        shape = shape_is;
      })

  pub discard_set : (r i : ℕ) → r < slot_count → book_set sh bs (discard_into ts f) r i ≡ (book_set sh bs ts r i || same_surface (surface_at sh r i) f)
  discard_set r i known =
      let m = mip_of (sh r) i in
      let l = layer_of (sh r) i in
      let n = f.texture in
      let high = v.high in
      let low = v.texture.known in
      let place : place_of n < texture_count = omega arith in
      ⊎_elim
      (λ lt. set_low sh bs (discard_into ts f) r i lt ∙ sym (set_low sh bs ts r i lt) ∙ none_else (book_set sh bs ts r i) (same_surface (surface_at sh r i) f) (low_surface sh f r i high lt))
      (λ le.
      set_high sh bs (discard_into ts f) r i le
      ∙ ap (λ (t : Texture). book_at 0 t.owes m l) (set_at ts (place_of n) (place_of r) into no_texture (subst (λ k. place_of n < k) (sym ok.eight) place))
      ∙ texture_pick (eqb (place_of r) (place_of n)) into (texture_in ts r) m l
      ∙ ap₂ (λ e t. cond e t (book_at 0 (texture_in ts r).owes m l)) (same_place r n le high)
      (discard_book (layers_of (texture_in ts n).shape) f 0 (texture_in ts n).owes m l sound_here layer_fits mip_fits ∙ ap (λ k. book_at 0 (texture_in ts n).owes m l || k) (from_nought m f.mip (eqb l f.layer)))
      ∙ put_one (eqb r n) (book_at 0 (texture_in ts n).owes m l) (book_at 0 (texture_in ts r).owes m l) (eqb m f.mip && eqb l f.layer) (λ e. ap (λ k. book_at 0 (texture_in ts k).owes m l) (sym (eqb_to r n e)))
      ∙ ap (λ b. b || same_surface (surface_at sh r i) f) (sym (set_high sh bs ts r i le)))
      (cases_lt r buffer_count)

-- all discards that are left
or_more : (a b c : Bool) → ((a || b) || c) ≡ (a || (b || c))
or_more a b c = grind arith

or_nothing : (a : Bool) → a ≡ (a || false)
or_nothing a = grind arith

pub discards_set : (z : Sizes) (sh : ℕ → Shape) (bs : List Buffer) (fs : List Surface) (ts : List Texture) → Shelved z sh bs ts → AllThere z sh fs → (r i : ℕ) → r < slot_count
    → book_set sh bs (discard_all ts fs) r i ≡ (book_set sh bs ts r i || has (surface_at sh r i) fs)
discards_set z sh bs [] ts ok a r i h = or_nothing (book_set sh bs ts r i)
discards_set z sh bs (f ∷ fs) ts ok a r i h =
    discards_set z sh bs fs (discard_into ts f) (shelve_discard z sh bs ts ok f a.0) a.1 r i h
    ∙ ap (λ b. b || has (surface_at sh r i) fs) (discard_set z sh bs ts ok f a.0 r i h)
    ∙ or_more (book_set sh bs ts r i) (same_surface (surface_at sh r i) f) (has (surface_at sh r i) fs)

pub shelved_discards : (z : Sizes) (sh : ℕ → Shape) (bs : List Buffer) (fs : List Surface) (ts : List Texture) → Shelved z sh bs ts → AllThere z sh fs → Shelved z sh bs (discard_all ts fs)
shelved_discards z sh bs [] ts ok a = ok
shelved_discards z sh bs (f ∷ fs) ts ok a = shelved_discards z sh bs fs (discard_into ts f) (shelve_discard z sh bs ts ok f a.0) a.1

-- the discards left are the cells that stand discarded
pub gone_is : (z : Sizes) (pitch : ℕ) (sh : ℕ → Shape) (bs : List Buffer) (ts : List Texture) (ss : List ListStep) → Shelved z sh bs ts → AllValid z sh ss → (r i : ℕ) → r < slot_count
    → book_set sh bs (discard_all ts (discards_from [] ss)) r i ≡ (book_set sh bs ts r i || gone_set (λ q j. false) (works_of pitch sh ss) r i)
gone_is z pitch sh bs ts ss ok v r i known =
    ⊎_elim
    (λ lt. set_low sh bs (discard_all ts (discards_from [] ss)) r i lt ∙ sym (set_low sh bs ts r i lt) ∙ none_else (book_set sh bs ts r i) (gone_set (λ q j. false) (works_of pitch sh ss) r i) (gone_low sh z pitch ss (λ q j. false) v r i lt refl))
    (λ le.
    discards_set z sh bs (discards_from [] ss) ts ok (there_all z sh ss [] v tt) r i known
    ∙ ap (λ k. book_set sh bs ts r i || k) (has_discards (surface_at sh r i) [] ss ∙ sym (gone_high sh z pitch ss (λ q j. false) v r i le)))
    (cases_lt r buffer_count)
