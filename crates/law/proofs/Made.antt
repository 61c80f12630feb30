-- Making and destroying: a slot's cells begin to owe, or go.
use Rattle.std.proofs.Common.{◌≡◌, ℕ, ◌+◌, ◌<◌, Bool, true, false, cond, ◌||◌, eqb, ltb, length, get_or, set, sym, refl, ap, ◌∙◌, subst, ⊎_elim, arith, length-set, get_or-set_other, get_or-set_same}
use Rattle.std.proofs.lemmas.Bool.Decides.{nat_tests}
use Rattle.std.proofs.lemmas.Bool.{eqb-true, eqb-false, cases_eq}
use Rattle.texture.specs.Cells.{mip_of, layer_of}
use Rattle.device.specs.Meaning.{Meaning}
use Rattle.range_list.specs.Ranges.{inside, member, whole, Sound}
use Rattle.range_list.proofs.Laws.{member_whole, sound_whole}
use Rattle.rules.specs.State.{Buffer, no_buffer, rounded_up}
use Rattle.rules.specs.Making.{fresh_buffer}
use Rattle.law.specs.Pages.{World, buffer_count, buffer_at, texture_in, page_at, with_buffers}
use Rattle.law.specs.Submitting.{shapes}
use Rattle.law.specs.Ledger.{Ledger, put, made_marks, buffer_in}
use Rattle.law.proofs.Cell.{Ready}
use Rattle.law.proofs.Moves.{AllReady}
use Rattle.law.proofs.Shelves.{book_at}
use Rattle.law.proofs.Shelving.{set_low, Shelved}
use Rattle.law.proofs.Plans.{books}
use Rattle.law.proofs.Invariant.{Grows, page_grows, Known, Inv, put_here, put_other}

-- one cell, of the slot that is made or of another
made_ready : (e b o : Bool) (y x : ℕ) → (e ≡ true → b ≡ true) → (e ≡ false → Ready b o y x) → Ready b (e || o) (cond e 0 y) x
made_ready true b o y x h k = record { owing = sym (h refl); same = λ q. let z : ◌≡◌ {A = ℕ} 0 1 = cc in absurd (omega arith); blank = λ q. refl }
made_ready false b o y x h k = k refl

inside_low : (n i : ℕ) → i < n → inside 0 n i ≡ true
inside_low n i h = grind (arith, nat_tests)

all_inside : (n i : ℕ) → i < n → member i (whole n) ≡ true
all_inside n i h = member_whole i n ∙ inside_low n i h

-- MAKE A BUFFER
module _ (w : World) (m : Meaning) (l : Ledger) (inv : Inv w m l) (size copy : ℕ) (room : w.made < buffer_count) where
  abbrev slot : ℕ
  slot = w.made

  abbrev fresh : Buffer
  fresh = fresh_buffer size copy

  abbrev next : World
  next = with_buffers w (w.made + 1) (set w.buffers slot fresh)

  fits : slot < length w.buffers
  fits = subst (λ k. slot < k) (sym inv.shelved.sixteen) room

  here : buffer_at next slot ≡ fresh
  here = get_or-set_same w.buffers slot fresh no_buffer fits

  there : (j : ℕ) → (j ≡ slot → ⊥) → buffer_at next j ≡ buffer_at w j
  there j h = get_or-set_other w.buffers slot j fresh no_buffer h

  grows : Grows w next
  grows =
      record {
        made = omega arith;
        size = λ j h. ap (λ (b : Buffer). b.size) (there j (λ e. omega arith));
        more = omega arith;
        shape = λ j h k. refl;
      }

  pub empty_buffer : l.sizes slot ≡ 0
  empty_buffer =
      inv.known.low slot room ∙ ap (λ t. cond t (rounded_up (buffer_at w slot).size) 0) (inv.known.free slot (omega arith))

  made_known : Known next (buffer_in slot size l)
  made_known =
      record {
        pitch = inv.known.pitch;
        shape = inv.known.shape;
        bytes = λ j h. ⊎_elim
            (λ e. subst (λ k. put slot size l.bytes k ≡ (buffer_at next k).size) (sym e) (put_here slot size l.bytes ∙ sym (ap (λ (b : Buffer). b.size) here)))
            (λ d. put_other slot size l.bytes j d ∙ inv.known.bytes j h ∙ sym (ap (λ (b : Buffer). b.size) (there j d))) (cases_eq j slot);
        low = λ j h. ⊎_elim
            (λ e. subst (λ k. put slot (rounded_up size) l.sizes k ≡ cond (buffer_at next k).standing (rounded_up (buffer_at next k).size) 0) (sym e)
            (put_here slot (rounded_up size) l.sizes ∙ sym (ap (λ (b : Buffer). cond b.standing (rounded_up b.size) 0) here)))
            (λ d. put_other slot (rounded_up size) l.sizes j d ∙ inv.known.low j h ∙ sym (ap (λ (b : Buffer). cond b.standing (rounded_up b.size) 0) (there j d))) (cases_eq j slot);
        high = λ j h k. put_other slot (rounded_up size) l.sizes j (λ e. omega arith) ∙ inv.known.high j h k;
        fine = inv.known.fine;
        few = omega arith;
        fewer = inv.known.fewer;
        free = λ j h. ap (λ (b : Buffer). b.standing) (there j (λ e. omega arith)) ∙ inv.known.free j (omega arith);
        freer = inv.known.freer;
      }

  made_shelved : Shelved (put slot (rounded_up size) l.sizes) (shapes w) (set w.buffers slot fresh) w.textures
  made_shelved =
      record {
        sixteen = length-set w.buffers slot fresh ∙ inv.shelved.sixteen;
        eight = inv.shelved.eight;
        buffers = λ j h some. ⊎_elim
            (λ e. subst (λ k. Sound (put slot (rounded_up size) l.sizes k) (get_or (set w.buffers slot fresh) k no_buffer).owes) (sym e)
            (subst (λ (b : Buffer). Sound (put slot (rounded_up size) l.sizes slot) b.owes) (sym here) (subst (λ c. Sound c (whole (rounded_up size))) (sym (put_here slot (rounded_up size) l.sizes)) (sound_whole (rounded_up size)))))
            (λ d.
            let same = put_other slot (rounded_up size) l.sizes j d in
            subst (λ (b : Buffer). Sound (put slot (rounded_up size) l.sizes j) b.owes) (sym (there j d))
            (subst (λ c. Sound c (buffer_at w j).owes) (sym same) (inv.shelved.buffers j h (subst (λ c. 0 < c) same some))))
            (cases_eq j slot);
        textures = inv.shelved.textures;
        mips = inv.shelved.mips;
        shape = inv.shelved.shape;
      }

  books_there : (r i : ℕ) → (r ≡ slot → ⊥) → books next r i ≡ books w r i
  books_there r i d = ap (λ (b : Buffer). cond (ltb r buffer_count) (member i b.owes) (book_at 0 (texture_in w.textures r).owes (mip_of (shapes w r) i) (layer_of (shapes w r) i))) (there r d)

  books_here : (i : ℕ) → i < rounded_up size → books next slot i ≡ true
  books_here i h = set_low (shapes w) (set w.buffers slot fresh) w.textures slot i room ∙ ap (λ (b : Buffer). member i b.owes) here ∙ all_inside (rounded_up size) i h

  made_all : AllReady (put slot (rounded_up size) l.sizes) (books next) m.cell (made_marks slot l.marks)
  made_all r i h j =
      made_ready (eqb r slot) (books next r i) (l.marks.owes r i) (l.marks.byte r i) (m.cell r i)
      (λ e. subst (λ k. books next k i ≡ true) (sym (eqb-true r slot e)) (books_here i (subst (λ t. i < cond t (rounded_up size) (l.sizes r)) e j)))
      (λ e.
      let d = eqb-false r slot e in
      subst (λ b. Ready b (l.marks.owes r i) (l.marks.byte r i) (m.cell r i)) (sym (books_there r i d)) (inv.ready r i h (subst (λ t. i < cond t (rounded_up size) (l.sizes r)) e j)))

  pub buffer_made : Inv next m (buffer_in slot size l)
  buffer_made =
      record {
        known = made_known;
        shelved = made_shelved;
        ready = made_all;
        four = inv.four;
        pages = λ k. page_grows w next grows l (buffer_in slot size l) k (page_at w k) refl refl (inv.pages k);
      }
