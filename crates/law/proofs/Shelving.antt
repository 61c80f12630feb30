-- The books of all resources as one set of cells, and what the steps of a list take out of it.
use Rattle.std.proofs.Common.{◌≡◌, ℕ, ◌<◌, ◌≤◌, Bool, true, false, cond, not, ◌&&◌, ◌||◌, eqb, ltb, List, [], ◌∷◌, length, get_or, set, sym, refl, ap, ◌∙◌, subst, ap₂, ⊎_elim, arith, length-set, get_or-set_other, get_or-set_same}
use Rattle.std.proofs.lemmas.Bool.Decides.{nat_tests}
use Rattle.std.proofs.lemmas.Bool.{lt-ltb, le-ltb, eq-eqb, ne_eqb, cases_eq, cases_lt}
use Rattle.texture.specs.Shapes.{Shape, layers_of}
use Rattle.texture.specs.Cells.{mip_of, layer_of}
use Rattle.range_list.specs.Ranges.{inside, member, Sound}
use Rattle.range_list.proofs.Laws.{member_drained, sound_drained}
use Rattle.rules.specs.State.{Buffer, Texture, no_buffer, no_texture}
use Rattle.rules.specs.Uses.{buffer_of, start_of, cover_end}
use Rattle.rules.specs.Planning.{drain_step, drain_steps, drained_buffer}
use Rattle.rules.specs.declared.step.Step.{Step}
use Rattle.rules.specs.declared.step.Step.TheVariants as step
use Rattle.law.specs.Pages.{Area, ListStep, OnBuffer, TextureRead, TextureWrite, ClearTexture, SettledClear, Discard, buffer_count, texture_count, place_of, texture_in, in_area}
use Rattle.law.specs.Uses.{drain_mips, with_book, drain_texture, drained_by, drained_by_all, on_buffers}
use Rattle.law.specs.Submitting.{buffers_after}
use Rattle.law.specs.Ledger.{Cells, Sizes, slot_count, buffer_effect}
use Rattle.law.proofs.Moves.{leaves, takes, by, Work, drained_set, kept_set}
use Rattle.law.proofs.Shelves.{book_at, AllSound, drain_book, drain_sound, drain_length}
use Rattle.law.proofs.Works.{Valid, AllValid, work_of, works_of}

-- the cells that the books hold
abbrev pub book_set : (ℕ → Shape) → List Buffer → List Texture → Cells
book_set sh bs ts r i =
    cond (ltb r buffer_count) (member i (get_or bs r no_buffer).owes) (book_at 0 (texture_in ts r).owes (mip_of (sh r) i) (layer_of (sh r) i))

pub set_low : (sh : ℕ → Shape) (bs : List Buffer) (ts : List Texture) (r i : ℕ) → r < buffer_count → book_set sh bs ts r i ≡ member i (get_or bs r no_buffer).owes
set_low sh bs ts r i h =
    ap (λ t. cond t (member i (get_or bs r no_buffer).owes) (book_at 0 (texture_in ts r).owes (mip_of (sh r) i) (layer_of (sh r) i))) (lt-ltb r buffer_count h)

pub set_high : (sh : ℕ → Shape) (bs : List Buffer) (ts : List Texture) (r i : ℕ) → buffer_count ≤ r
    → book_set sh bs ts r i ≡ book_at 0 (texture_in ts r).owes (mip_of (sh r) i) (layer_of (sh r) i)
set_high sh bs ts r i h =
    ap (λ t. cond t (member i (get_or bs r no_buffer).owes) (book_at 0 (texture_in ts r).owes (mip_of (sh r) i) (layer_of (sh r) i))) (le-ltb r buffer_count h)

-- books that are sound, each of its own resource
pub record Shelved (z : Sizes) (sh : ℕ → Shape) (bs : List Buffer) (ts : List Texture) : Type 0 where
  pub sixteen : length bs ≡ buffer_count
  pub eight : length ts ≡ texture_count
  pub buffers : (r : ℕ) → r < buffer_count → 0 < z r → Sound (z r) (get_or bs r no_buffer).owes
  pub textures : (r : ℕ) → buffer_count ≤ r → r < slot_count → AllSound (layers_of (sh r)) (texture_in ts r).owes
  pub mips : (r : ℕ) → buffer_count ≤ r → r < slot_count → length (texture_in ts r).owes ≡ (sh r).mips
  pub shape : (r : ℕ) → buffer_count ≤ r → r < slot_count → (texture_in ts r).shape ≡ sh r

-- one place changed
pub set_at : {A : Type 0} (l : List A) (i j : ℕ) (a d : A) → i < length l → get_or (set l i a) j d ≡ cond (eqb j i) a (get_or l j d)
set_at l i j a d h =
    ⊎_elim
    (λ e. ap (λ k. get_or (set l i a) k d) e ∙ get_or-set_same l i a d h ∙ sym (ap (λ t. cond t a (get_or l j d)) (eq-eqb j i e)))
    (λ n. get_or-set_other l i j a d n ∙ sym (ap (λ t. cond t a (get_or l j d)) (ne_eqb j i n)))
    (cases_eq j i)

places_apart : (r n : ℕ) → buffer_count ≤ r → buffer_count ≤ n → eqb (place_of r) (place_of n) ≡ eqb r n
places_apart r n h k = grind (arith, nat_tests)

-- a buffer's step
owes_cond : (e : Bool) (x y : Buffer) (i : ℕ) → member i (cond e x y).owes ≡ cond e (member i x.owes) (member i y.owes)
owes_cond true x y i = refl
owes_cond false x y i = refl

eqb_eq : (r n : ℕ) → eqb r n ≡ true → r ≡ n
eqb_eq r n e = grind (arith, nat_tests)

same_book : (bs : List Buffer) (n r i : ℕ) → eqb r n ≡ true → member i (get_or bs n no_buffer).owes ≡ member i (get_or bs r no_buffer).owes
same_book bs n r i e = ap (λ k. member i (get_or bs k no_buffer).owes) (sym (eqb_eq r n e))

drained_at : (e : Bool) (a b k : Bool) → (e ≡ true → a ≡ b) → cond e (a && not k) b ≡ (b && not (e && k))
drained_at true a b k h = ap (λ t. t && not k) (h refl)
drained_at false a b k h = grind arith

pub low_step : (bs : List Buffer) (s : Step) (r i : ℕ) → buffer_of s < length bs
    → member i (get_or (drain_step bs s) r no_buffer).owes ≡ (member i (get_or bs r no_buffer).owes && not (eqb r (buffer_of s) && inside (start_of s) (cover_end s) i))
low_step bs s r i h =
    ap (λ (b : Buffer). member i b.owes) (set_at bs (buffer_of s) r (drained_buffer (get_or bs (buffer_of s) no_buffer) s) no_buffer h)
    ∙ owes_cond (eqb r (buffer_of s)) (drained_buffer (get_or bs (buffer_of s) no_buffer) s) (get_or bs r no_buffer) i
    ∙ ap (λ t. cond (eqb r (buffer_of s)) t (member i (get_or bs r no_buffer).owes)) (member_drained i (start_of s) (cover_end s) (get_or bs (buffer_of s) no_buffer).owes)
    ∙ drained_at (eqb r (buffer_of s)) (member i (get_or bs (buffer_of s) no_buffer).owes) (member i (get_or bs r no_buffer).owes) (inside (start_of s) (cover_end s) i) (same_book bs (buffer_of s) r i)

-- a texture's step
texture_cond : (e : Bool) (x y : Texture) (m l : ℕ) → book_at 0 (cond e x y).owes m l ≡ cond e (book_at 0 x.owes m l) (book_at 0 y.owes m l)
texture_cond true x y m l = refl
texture_cond false x y m l = refl

pub high_step : (ts : List Texture) (n : ℕ) (a : Area) (r m l : ℕ) → buffer_count ≤ n → buffer_count ≤ r → place_of n < length ts
    → book_at 0 (texture_in (drain_texture ts n a) r).owes m l ≡ (book_at 0 (texture_in ts r).owes m l && not (eqb r n && in_area a m l))
high_step ts n a r m l hn hr fits =
    ap (λ (t : Texture). book_at 0 t.owes m l) (set_at ts (place_of n) (place_of r) (with_book (texture_in ts n) (drain_mips a 0 (texture_in ts n).owes)) no_texture fits)
    ∙ texture_cond (eqb (place_of r) (place_of n)) (with_book (texture_in ts n) (drain_mips a 0 (texture_in ts n).owes)) (texture_in ts r) m l
    ∙ ap₂ (λ e t. cond e t (book_at 0 (texture_in ts r).owes m l)) (places_apart r n hr hn) (drain_book a 0 (texture_in ts n).owes m l)
    ∙ drained_at (eqb r n) (book_at 0 (texture_in ts n).owes m l) (book_at 0 (texture_in ts r).owes m l) (in_area a m l) (λ e. ap (λ k. book_at 0 (texture_in ts k).owes m l) (sym (eqb_eq r n e)))

-- a step leaves the cells of other resources
leaves_look : (b : Bool) → (b && not false) ≡ b
leaves_look b = grind arith

other_slot : (b : Bool) (r n : ℕ) (k : Bool) → (r ≡ n → ⊥) → b ≡ (b && not (eqb r n && k))
other_slot b r n k h = sym (ap (λ t. b && not (t && k)) (ne_eqb r n h) ∙ leaves_look b)

area_at : (sh : ℕ → Shape) (a : Area) (b : Bool) (r n i : ℕ)
    → (b && not (eqb r n && in_area a (mip_of (sh r) i) (layer_of (sh r) i))) ≡ (b && not (eqb r n && in_area a (mip_of (sh n) i) (layer_of (sh n) i)))
area_at sh a b r n i =
    ⊎_elim
    (λ e. ap (λ k. b && not (eqb r n && in_area a (mip_of (sh k) i) (layer_of (sh k) i))) e)
    (λ h. sym (other_slot b r n (in_area a (mip_of (sh r) i) (layer_of (sh r) i)) h) ∙ other_slot b r n (in_area a (mip_of (sh n) i) (layer_of (sh n) i)) h)
    (cases_eq r n)

module _ (z : Sizes) (sh : ℕ → Shape) (bs : List Buffer) (ts : List Texture) (ok : Shelved z sh bs ts) (r i : ℕ) (known : r < slot_count) where
  drain_buffer : (s : Step) → buffer_of s < buffer_count
      → book_set sh (drain_step bs s) ts r i ≡ (book_set sh bs ts r i && not (eqb r (buffer_of s) && inside (start_of s) (cover_end s) i))
  drain_buffer s low =
      let fits : buffer_of s < length bs = subst (λ n. buffer_of s < n) (sym ok.sixteen) low in
      ⊎_elim
      (λ h. set_low sh (drain_step bs s) ts r i h ∙ low_step bs s r i fits ∙ ap (λ t. t && not (eqb r (buffer_of s) && inside (start_of s) (cover_end s) i)) (sym (set_low sh bs ts r i h)))
      (λ h. set_high sh (drain_step bs s) ts r i h ∙ sym (set_high sh bs ts r i h) ∙ other_slot (book_set sh bs ts r i) r (buffer_of s) (inside (start_of s) (cover_end s) i) (λ e. omega arith))
      (cases_lt r buffer_count)

  drain_area : (n : ℕ) (a : Area) → buffer_count ≤ n → n < slot_count
      → book_set sh bs (drain_texture ts n a) r i ≡ (book_set sh bs ts r i && not (eqb r n && in_area a (mip_of (sh n) i) (layer_of (sh n) i)))
  drain_area n a high low =
      let place : place_of n < texture_count = omega arith in
      let fits : place_of n < length ts = subst (λ k. place_of n < k) (sym ok.eight) place in
      ⊎_elim
      (λ h. set_low sh bs (drain_texture ts n a) r i h ∙ sym (set_low sh bs ts r i h) ∙ other_slot (book_set sh bs ts r i) r n (in_area a (mip_of (sh n) i) (layer_of (sh n) i)) (λ e. omega arith))
      (λ h.
      set_high sh bs (drain_texture ts n a) r i h ∙ high_step ts n a r (mip_of (sh r) i) (layer_of (sh r) i) high h fits
      ∙ ap (λ t. t && not (eqb r n && in_area a (mip_of (sh r) i) (layer_of (sh r) i))) (sym (set_high sh bs ts r i h))
      ∙ area_at sh a (book_set sh bs ts r i) r n i)
      (cases_lt r buffer_count)

  buffer_leaves : (s : Step) (b k : Bool) → (b && not k) ≡ leaves (buffer_effect s) k b
  buffer_leaves (step.BufferRead n start end) b k = refl
  buffer_leaves (step.BufferWrite n byte start end) b k = refl
  buffer_leaves (step.ClearBuffer n start end) b k = refl

  -- a step leaves in the books what it does not cover
  pub book_step : (pitch : ℕ) (s : ListStep) → Valid z sh s
      → book_set sh (buffers_after bs s) (drained_by ts s) r i ≡ by leaves (work_of pitch sh s).deed (book_set sh bs ts) r i
  book_step pitch (OnBuffer s) v =
      drain_buffer s v.low ∙ buffer_leaves s (book_set sh bs ts r i) (eqb r (buffer_of s) && inside (start_of s) (cover_end s) i)
  book_step pitch (TextureRead n a) v = drain_area n a v.high v.texture.known
  book_step pitch (TextureWrite n b a) v = drain_area n a v.high v.texture.known
  book_step pitch (ClearTexture n a) v = refl
  book_step pitch (SettledClear f) v = refl
  book_step pitch (Discard f) v = refl

-- what holds at every place goes on to hold if it holds of what is put at one
pub set_keeps : {A : Type 0} (P : ℕ → A → Type 0) (l : List A) (i : ℕ) (a d : A) → i < length l → ((j : ℕ) → P j (get_or l j d)) → P i a
    → (j : ℕ) → P j (get_or (set l i a) j d)
set_keeps P l i a d h all here j =
    ⊎_elim
    (λ e. subst (λ k. P k (get_or (set l i a) k d)) (sym e) (subst (P i) (sym (get_or-set_same l i a d h)) here))
    (λ n. subst (P j) (sym (get_or-set_other l i j a d n)) (all j))
    (cases_eq j i)

-- a texture as its slot has it
pub record Holds (s : Shape) (t : Texture) : Type 0 where
  pub sound : AllSound (layers_of s) t.owes
  pub mips : length t.owes ≡ s.mips
  pub shape : t.shape ≡ s

module _ (z : Sizes) (sh : ℕ → Shape) (bs : List Buffer) (ts : List Texture) (ok : Shelved z sh bs ts) where
  pub held : (r : ℕ) → buffer_count ≤ r → r < slot_count → Holds (sh r) (texture_in ts r)
  held r h k = record { sound = ok.textures r h k; mips = ok.mips r h k; shape = ok.shape r h k }

  shelve_buffer : (n : ℕ) (b : Buffer) → n < buffer_count → (0 < z n → Sound (z n) b.owes) → Shelved z sh (set bs n b) ts
  shelve_buffer n b low sound =
      record {
        sixteen = length-set bs n b ∙ ok.sixteen;
        eight = ok.eight;
        buffers = set_keeps (λ r (c : Buffer). r < buffer_count → 0 < z r → Sound (z r) c.owes) bs n b no_buffer (subst (λ k. n < k) (sym ok.sixteen) low) (λ j h k. ok.buffers j h k) (λ h k. sound k);
        textures = ok.textures;
        mips = ok.mips;
        shape = ok.shape;
      }

  all_held : (n : ℕ) (t : Texture) → buffer_count ≤ n → n < slot_count → Holds (sh n) t
      → (r : ℕ) → buffer_count ≤ r → r < slot_count → Holds (sh r) (texture_in (set ts (place_of n) t) r)
  all_held n t high low here r h k =
      let place : place_of n < texture_count = omega arith in
      set_keeps (λ p (u : Texture). (q : ℕ) → place_of q ≡ p → buffer_count ≤ q → q < slot_count → Holds (sh q) u) ts (place_of n) t no_texture
      (subst (λ c. place_of n < c) (sym ok.eight) place)
      (λ p q e a b. subst (λ c. Holds (sh q) (get_or ts c no_texture)) e (held q a b))
      (λ q e a b. let same : n ≡ q = omega arith in subst (λ c. Holds (sh c) t) same here)
      (place_of r) r refl h k

  pub shelve_texture : (n : ℕ) (t : Texture) → buffer_count ≤ n → n < slot_count → Holds (sh n) t → Shelved z sh bs (set ts (place_of n) t)
  shelve_texture n t high low here =
      record {
        sixteen = ok.sixteen;
        eight = length-set ts (place_of n) t ∙ ok.eight;
        buffers = ok.buffers;
        textures = λ r h k. (all_held n t high low here r h k).sound;
        mips = λ r h k. (all_held n t high low here r h k).mips;
        shape = λ r h k. (all_held n t high low here r h k).shape;
      }

  shelve_area : (n : ℕ) (a : Area) → buffer_count ≤ n → n < slot_count → Shelved z sh bs (drain_texture ts n a)
  shelve_area n a high low =
      let h = held n high low in
      shelve_texture n (with_book (texture_in ts n) (drain_mips a 0 (texture_in ts n).owes)) high low
      (record { sound = drain_sound (layers_of (sh n)) a 0 (texture_in ts n).owes h.sound; mips = drain_length a 0 (texture_in ts n).owes ∙ h.mips; shape = h.shape })

  pub shelve_step : (s : ListStep) → Valid z sh s → Shelved z sh (buffers_after bs s) (drained_by ts s)
  shelve_step (OnBuffer s) v =
      shelve_buffer (buffer_of s) (drained_buffer (get_or bs (buffer_of s) no_buffer) s) v.low
      (λ some. sound_drained (start_of s) (cover_end s) (z (buffer_of s)) (get_or bs (buffer_of s) no_buffer).owes (ok.buffers (buffer_of s) v.low some))
  shelve_step (TextureRead n a) v = shelve_area n a v.high v.texture.known
  shelve_step (TextureWrite n b a) v = shelve_area n a v.high v.texture.known
  shelve_step (ClearTexture n a) v = ok
  shelve_step (SettledClear f) v = ok
  shelve_step (Discard f) v = ok

-- the same books drain alike
pub drained_same : (ws : List Work) (b c : Cells) (r i : ℕ) → b r i ≡ c r i → drained_set b ws r i ≡ drained_set c ws r i
drained_same [] b c r i e = refl
drained_same (w ∷ ws) b c r i e =
    ap₂ (λ s t. s || t) (ap (λ t. takes w.deed.effect (w.deed.cover r i) t) e)
    (drained_same ws (by leaves w.deed b) (by leaves w.deed c) r i (ap (λ t. leaves w.deed.effect (w.deed.cover r i) t) e))

pub kept_same : (ws : List Work) (b c : Cells) (r i : ℕ) → b r i ≡ c r i → kept_set b ws r i ≡ kept_set c ws r i
kept_same [] b c r i e = e
kept_same (w ∷ ws) b c r i e =
    kept_same ws (by leaves w.deed b) (by leaves w.deed c) r i (ap (λ t. leaves w.deed.effect (w.deed.cover r i) t) e)

-- the books after a list of steps
buffers_next : (bs : List Buffer) (s : ListStep) (ss : List ListStep) → drain_steps bs (on_buffers (s ∷ ss)) ≡ drain_steps (buffers_after bs s) (on_buffers ss)
buffers_next bs (OnBuffer s) ss = refl
buffers_next bs (TextureRead n a) ss = refl
buffers_next bs (TextureWrite n b a) ss = refl
buffers_next bs (ClearTexture n a) ss = refl
buffers_next bs (SettledClear f) ss = refl
buffers_next bs (Discard f) ss = refl

pub book_after : (z : Sizes) (pitch : ℕ) (sh : ℕ → Shape) (ss : List ListStep) (bs : List Buffer) (ts : List Texture) → Shelved z sh bs ts → AllValid z sh ss
    → (r i : ℕ) → r < slot_count → book_set sh (drain_steps bs (on_buffers ss)) (drained_by_all ts ss) r i ≡ kept_set (book_set sh bs ts) (works_of pitch sh ss) r i
book_after z pitch sh [] bs ts ok v r i h = refl
book_after z pitch sh (s ∷ ss) bs ts ok v r i h =
    ap (λ cs. book_set sh cs (drained_by_all (drained_by ts s) ss) r i) (buffers_next bs s ss)
    ∙ book_after z pitch sh ss (buffers_after bs s) (drained_by ts s) (shelve_step z sh bs ts ok s v.0) v.1 r i h
    ∙ kept_same (works_of pitch sh ss) _ _ r i (book_step z sh bs ts ok r i h pitch s v.0)

pub shelved_after : (z : Sizes) (sh : ℕ → Shape) (ss : List ListStep) (bs : List Buffer) (ts : List Texture) → Shelved z sh bs ts → AllValid z sh ss
    → Shelved z sh (drain_steps bs (on_buffers ss)) (drained_by_all ts ss)
shelved_after z sh [] bs ts ok v = ok
shelved_after z sh (s ∷ ss) bs ts ok v =
    subst (λ cs. Shelved z sh cs (drained_by_all (drained_by ts s) ss)) (sym (buffers_next bs s ss))
    (shelved_after z sh ss (buffers_after bs s) (drained_by ts s) (shelve_step z sh bs ts ok s v.0) v.1)
