-- What ties a planner and its device to the ledger between two calls.
use Rattle.std.proofs.Common.{◌≡◌, ℕ, zero, suc, ◌+◌, ◌<◌, ◌≤◌, Bool, true, false, cond, List, [], ◌∷◌, ◌++◌, length, get_or, set, sym, refl, ap, ◌∙◌, subst, ⊎_elim, arith, length-set, get_or-set_other, get_or-set_same}
use Rattle.std.proofs.lemmas.Bool.{eq-eqb, ne_eqb, cases_eq, cases_lt}
use Rattle.texture.specs.Shapes.{Shape, layers_of, proper}
use Rattle.texture.specs.Cells.{cells_of}
use Rattle.texture.specs.Runs.{clears, pitch_fits}
use Rattle.device.specs.Meaning.{Meaning}
use Rattle.rules.specs.State.{rounded_up}
use Rattle.rules.specs.Uses.{buffer_of, start_of, end_of}
use Rattle.rules.specs.declared.step.Step.{Step}
use Rattle.rules.specs.declared.list_state.ListState.{ListState}
use Rattle.rules.specs.declared.list_state.ListState.TheVariants.{Idle, Recording, InDebt, Closed, Broken}
use Rattle.law.specs.Pages.{World, Page, Area, Surface, Announced, ListStep, OnBuffer, TextureRead, TextureWrite, ClearTexture, SettledClear, Discard, buffer_count, texture_count, list_count, buffer_at, texture_at, page_at, put_page, idle_page, discards_from, owed_by}
use Rattle.law.specs.Recording.{in_debt}
use Rattle.law.specs.Submitting.{shapes}
use Rattle.law.specs.Ledger.{Ledger, slot_count, put, with_list}
use Rattle.law.proofs.Cell.{Ready}
use Rattle.law.proofs.Moves.{AllReady}
use Rattle.law.proofs.Shelving.{Shelved}
use Rattle.law.proofs.Discards.{Good, Once}
use Rattle.law.proofs.Plans.{ledger_steps, books}

-- a list that may still be submitted
abbrev pub live : ListState → Bool
live Idle = false
live Recording = true
live InDebt = true
live Closed = true
live Broken = false

-- steps on what was made, within it
pub record RangeOk (w : World) (s : Step) : Type 0 where
  pub low : buffer_of s < w.made
  pub up : start_of s < end_of s
  pub fits : end_of s ≤ (buffer_at w (buffer_of s)).size

pub record AreaOk (w : World) (n : ℕ) (a : Area) : Type 0 where
  pub high : buffer_count ≤ n
  pub known : n < buffer_count + w.made_textures
  pub mips : a.mip ≤ a.mip_end
  pub layers : a.layer ≤ a.layer_end
  pub mip_end : a.mip_end ≤ (shapes w n).mips
  pub layer_end : a.layer_end ≤ layers_of (shapes w n)

pub record SurfaceOk (w : World) (f : Surface) : Type 0 where
  pub high : buffer_count ≤ f.texture
  pub known : f.texture < buffer_count + w.made_textures
  pub mip : f.mip < (shapes w f.texture).mips
  pub layer : f.layer < layers_of (shapes w f.texture)

abbrev pub StepOk : World → ListStep → Type 0
StepOk w (OnBuffer s) = RangeOk w s
StepOk w (TextureRead n a) = AreaOk w n a
StepOk w (TextureWrite n b a) = AreaOk w n a
StepOk w (ClearTexture n a) = AreaOk w n a × (clears (shapes w n).mode ≡ true)
StepOk w (SettledClear f) = SurfaceOk w f × (clears (shapes w f.texture).mode ≡ true)
StepOk w (Discard f) = SurfaceOk w f

abbrev pub AllOk : World → List ListStep → Type 0
AllOk w [] = Unit {0}
AllOk w (s ∷ ss) = StepOk w s × AllOk w ss

pub ok_join : (w : World) (ss ts : List ListStep) → AllOk w ss → AllOk w ts → AllOk w (ss ++ ts)
ok_join w [] ts a b = b
ok_join w (s ∷ ss) ts a b = (a.0, ok_join w ss ts a.1 b)

-- a list that is live: its steps are of what there is, may stand, and are those of the ledger
pub record Lively (w : World) (l : Ledger) (k : ℕ) (p : Page) : Type 0 where
  pub ok : AllOk w p.steps
  pub good : Good [] p.steps
  pub once : Once (discards_from [] p.steps)
  pub steps : l.steps k ≡ ledger_steps p.steps

-- a list in debt: one read waits, and what it looks at is owed
pub record Waits (w : World) (l : Ledger) (k : ℕ) (p : Page) : Type 0 where
  pub read : Announced
  pub reads : p.reads ≡ read ∷ []
  pub waiting : l.waiting k ≡ p.reads
  pub owed : p.owed ≡ owed_by read (discards_from [] p.steps)
  pub area : AreaOk w read.texture read.area

pub record PageOk (w : World) (l : Ledger) (k : ℕ) (p : Page) : Type 0 where
  pub lively : live p.state ≡ true → Lively w l k p
  pub waits : in_debt p.state ≡ true → Waits w l k p

-- resources as the ledger knows them
pub record Known (w : World) (l : Ledger) : Type 0 where
  pub pitch : pitch_fits w.pitch ≡ true
  pub shape : (n : ℕ) → buffer_count ≤ n → l.shape n ≡ shapes w n
  pub bytes : (n : ℕ) → n < buffer_count → l.bytes n ≡ (buffer_at w n).size
  pub low : (n : ℕ) → n < buffer_count → l.sizes n ≡ cond (buffer_at w n).standing (rounded_up (buffer_at w n).size) 0
  pub high : (n : ℕ) → buffer_count ≤ n → n < slot_count → l.sizes n ≡ cond (texture_at w n).standing (cells_of (shapes w n)) 0
  pub fine : (n : ℕ) → buffer_count ≤ n → (texture_at w n).standing ≡ true → proper (shapes w n) ≡ true
  pub few : w.made ≤ buffer_count
  pub fewer : w.made_textures ≤ texture_count
  pub free : (n : ℕ) → w.made ≤ n → (buffer_at w n).standing ≡ false
  pub freer : (n : ℕ) → buffer_count + w.made_textures ≤ n → (texture_at w n).standing ≡ false

pub record Inv (w : World) (m : Meaning) (l : Ledger) : Type 0 where
  pub known : Known w l
  pub shelved : Shelved l.sizes (shapes w) w.buffers w.textures
  pub ready : AllReady l.sizes (books w) m.cell l.marks
  pub four : length w.pages ≡ list_count
  pub pages : (k : ℕ) → PageOk w l k (page_at w k)

none_below : (n : ℕ) → suc n ≤ 0 → ⊥
none_below n h = omega arith

-- one place changed, wherever it lies
set_past : {A : Type 0} (l : List A) (i : ℕ) (a : A) → length l ≤ i → set l i a ≡ l
set_past [] i a h = refl
set_past (x ∷ xs) zero a h = absurd (none_below (length xs) h)
set_past (x ∷ xs) (suc i) a h = ap (λ ys. x ∷ ys) (set_past xs i a (omega arith))

pub set_any : {A : Type 0} (P : ℕ → A → Type 0) (l : List A) (i : ℕ) (a d : A) → ((j : ℕ) → (j ≡ i → ⊥) → P j (get_or l j d)) → (length l ≤ i → P i (get_or l i d)) → P i a
    → (j : ℕ) → P j (get_or (set l i a) j d)
set_any P l i a d all old new j =
    ⊎_elim
    (λ e.
    subst (λ k. P k (get_or (set l i a) k d)) (sym e)
    (⊎_elim
    (λ lt. subst (P i) (sym (get_or-set_same l i a d lt)) new)
    (λ le. subst (λ (ys : List _). P i (get_or ys i d)) (sym (set_past l i a le)) (old le))
    (cases_lt i (length l))))
    (λ n. subst (P j) (sym (get_or-set_other l i j a d n)) (all j n))
    (cases_eq j i)

-- a page changes, and the ledger's list with it
pub put_here : {A : Type 0} (n : ℕ) (a : A) (f : ℕ → A) → put n a f n ≡ a
put_here n a f = ap (λ t. cond t a (f n)) (eq-eqb n n refl)

pub put_other : {A : Type 0} (n : ℕ) (a : A) (f : ℕ → A) (k : ℕ) → (k ≡ n → ⊥) → put n a f k ≡ f k
put_other n a f k h = ap (λ t. cond t a (f k)) (ne_eqb k n h)

-- a world in which what was made stays as it was
pub record Grows (w w' : World) : Type 0 where
  pub made : w.made ≤ w'.made
  pub size : (n : ℕ) → n < w.made → (buffer_at w' n).size ≡ (buffer_at w n).size
  pub more : w.made_textures ≤ w'.made_textures
  pub shape : (n : ℕ) → buffer_count ≤ n → n < buffer_count + w.made_textures → shapes w' n ≡ shapes w n

module _ (w w' : World) (g : Grows w w') where
  range_grows : (s : Step) → RangeOk w s → RangeOk w' s
  range_grows s o =
      record {
        low = (let a = o.low in let b = g.made in omega arith);
        up = o.up;
        fits = (let a = o.fits in let b = g.size (buffer_of s) o.low in omega arith);
      }

  pub area_grows : (n : ℕ) (a : Area) → AreaOk w n a → AreaOk w' n a
  area_grows n a o =
      let e = g.shape n o.high o.known in
      record {
        high = o.high;
        known = (let x = o.known in let y = g.more in omega arith);
        mips = o.mips;
        layers = o.layers;
        mip_end = subst (λ (s : Shape). a.mip_end ≤ s.mips) (sym e) o.mip_end;
        layer_end = subst (λ (s : Shape). a.layer_end ≤ layers_of s) (sym e) o.layer_end;
      }

  surface_grows : (f : Surface) → SurfaceOk w f → SurfaceOk w' f
  surface_grows f o =
      let e = g.shape f.texture o.high o.known in
      record {
        high = o.high;
        known = (let x = o.known in let y = g.more in omega arith);
        mip = subst (λ (s : Shape). f.mip < s.mips) (sym e) o.mip;
        layer = subst (λ (s : Shape). f.layer < layers_of s) (sym e) o.layer;
      }

  step_grows : (s : ListStep) → StepOk w s → StepOk w' s
  step_grows (OnBuffer s) o = range_grows s o
  step_grows (TextureRead n a) o = area_grows n a o
  step_grows (TextureWrite n b a) o = area_grows n a o
  step_grows (ClearTexture n a) o =
      (area_grows n a o.0, subst (λ (s : Shape). clears s.mode ≡ true) (sym (g.shape n o.0.high o.0.known)) o.1)
  step_grows (SettledClear f) o =
      (surface_grows f o.0, subst (λ (s : Shape). clears s.mode ≡ true) (sym (g.shape f.texture o.0.high o.0.known)) o.1)
  step_grows (Discard f) o = surface_grows f o

  pub ok_grows : (ss : List ListStep) → AllOk w ss → AllOk w' ss
  ok_grows [] a = tt
  ok_grows (s ∷ ss) a = (step_grows s a.0, ok_grows ss a.1)

  -- a page is as good as before where the ledger's list is the same
  pub page_grows : (l l' : Ledger) (k : ℕ) (p : Page) → l'.steps k ≡ l.steps k → l'.waiting k ≡ l.waiting k → PageOk w l k p → PageOk w' l' k p
  page_grows l l' k p es ew o =
      record {
        lively = λ h. record { ok = ok_grows p.steps (o.lively h).ok; good = (o.lively h).good; once = (o.lively h).once; steps = es ∙ (o.lively h).steps };
        waits = λ h.
            record {
              read = (o.waits h).read;
              reads = (o.waits h).reads;
              waiting = ew ∙ (o.waits h).waiting;
              owed = (o.waits h).owed;
              area = area_grows (o.waits h).read.texture (o.waits h).read.area (o.waits h).area;
            };
      }

pub grows_page : (w : World) (k : ℕ) (p : Page) → Grows w (put_page w k p)
grows_page w k p = record { made = omega arith; size = λ n h. refl; more = omega arith; shape = λ n h j. refl }

-- what is known of resources does not ask for the lists
known_paged : (w : World) (l : Ledger) (k : ℕ) (p : Page) → Known w l → Known (put_page w k p) l
known_paged w l k p o =
    record {
      pitch = o.pitch;
      shape = o.shape;
      bytes = o.bytes;
      low = o.low;
      high = o.high;
      fine = o.fine;
      few = o.few;
      fewer = o.fewer;
      free = o.free;
      freer = o.freer;
    }

known_listed : (w : World) (l : Ledger) (k : ℕ) (ss : List ListStep) (rs : List Announced) → Known w l → Known w (with_list k ss rs l)
known_listed w l k ss rs o =
    record {
      pitch = o.pitch;
      shape = o.shape;
      bytes = o.bytes;
      low = o.low;
      high = o.high;
      fine = o.fine;
      few = o.few;
      fewer = o.fewer;
      free = o.free;
      freer = o.freer;
    }

-- a page changes, and the ledger does not
pub paged_same : (w : World) (m : Meaning) (l : Ledger) → Inv w m l → (k : ℕ) (p : Page) → PageOk w l k p → Inv (put_page w k p) m l
paged_same w m l inv k p new =
    let moved : (j : ℕ) (q : Page) → PageOk w l j q → PageOk (put_page w k p) l j q = λ j q o. page_grows w (put_page w k p) (grows_page w k p) l l j q refl refl o in
    record {
      known = known_paged w l k p inv.known;
      shelved = inv.shelved;
      ready = inv.ready;
      four = length-set w.pages k p ∙ inv.four;
      pages = set_any (λ j (q : Page). PageOk (put_page w k p) l j q) w.pages k p idle_page (λ j h. moved j (page_at w j) (inv.pages j)) (λ h. moved k (page_at w k) (inv.pages k)) (moved k p new);
    }

-- a list that there is not changes nothing
pub paged_past : (w : World) (m : Meaning) (l : Ledger) → Inv w m l → (k : ℕ) (p : Page) → list_count ≤ k → Inv (put_page w k p) m l
paged_past w m l inv k p high =
    let e = set_past w.pages k p (let f = inv.four in omega arith) in
    record {
      known = known_paged w l k p inv.known;
      shelved = inv.shelved;
      ready = inv.ready;
      four = length-set w.pages k p ∙ inv.four;
      pages = λ j. page_grows w (put_page w k p) (grows_page w k p) l l j (page_at (put_page w k p) j) refl refl
          (subst (λ (ps : List Page). PageOk w l j (get_or ps j idle_page)) (sym e) (inv.pages j));
    }

-- a page changes, and the ledger's list with it
pub paged_list : (w : World) (m : Meaning) (l : Ledger) → Inv w m l → (k : ℕ) (p : Page) (ss : List ListStep) (rs : List Announced) → k < list_count
    → PageOk w (with_list k ss rs l) k p → Inv (put_page w k p) m (with_list k ss rs l)
paged_list w m l inv k p ss rs low new =
    let l' = with_list k ss rs l in
    let moved : (j : ℕ) (q : Page) → PageOk w l' j q → PageOk (put_page w k p) l' j q = λ j q o. page_grows w (put_page w k p) (grows_page w k p) l' l' j q refl refl o in
    let others : (j : ℕ) → (j ≡ k → ⊥) → PageOk (put_page w k p) l' j (page_at w j)
    = λ j h. page_grows w (put_page w k p) (grows_page w k p) l l' j (page_at w j) (put_other k ss l.steps j h) (put_other k rs l.waiting j h) (inv.pages j) in
    record {
      known = known_paged w l' k p (known_listed w l k ss rs inv.known);
      shelved = inv.shelved;
      ready = inv.ready;
      four = length-set w.pages k p ∙ inv.four;
      pages = set_any (λ j (q : Page). PageOk (put_page w k p) l' j q) w.pages k p idle_page others (λ h. let e = inv.four in absurd (omega arith)) (moved k p new);
    }

-- the device may have taken no command, and is then as it was
pub still : (w : World) (m n : Meaning) (l : Ledger) → Inv w m l → ((r i : ℕ) → n.cell r i ≡ m.cell r i) → Inv w n l
still w m n l inv e =
    record {
      known = inv.known;
      shelved = inv.shelved;
      ready = λ r i h j. subst (λ t. Ready (books w r i) (l.marks.owes r i) (l.marks.byte r i) t) (sym (e r i)) (inv.ready r i h j);
      four = inv.four;
      pages = inv.pages;
    }
