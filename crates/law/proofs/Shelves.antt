-- A texture's book, mip by mip, as the set of layers that owe: what a use takes out of it, what is cleared for a read, and
-- what a discard puts in.
use Rattle.std.proofs.Common.{◌≡◌, ℕ, zero, suc, ◌+◌, ◌-◌, ◌<◌, ◌≤◌, Bool, true, false, cond, not, ◌&&◌, ◌||◌, eqb, ltb, leb, ◌⊎◌, List, [], ◌∷◌, length, replicate, sym, refl, ap, ◌∙◌, subst, inl, inr, arith}
use Rattle.std.proofs.lemmas.Bool.Decides.{nat_tests}
use Rattle.std.proofs.lemmas.Bool.{lt-ltb, cases_lt}
use Rattle.std.specs.List.{flat_map}
use Rattle.texture.specs.Shapes.{Shape}
use Rattle.texture.specs.Cells.{mip_of, layer_of}
use Rattle.device.specs.declared.command.Command.{Command}
use Rattle.range_list.specs.Ranges.{inside, member, pieces, drained, added, discarded, whole, Sound, SoundFrom}
use Rattle.range_list.proofs.Laws.{member_whole, member_drained, member_pieces, member_discarded, not_before, sound_pieces, sound_drained, sound_discarded, sound_whole}
use Rattle.rules.specs.State.{Book}
use Rattle.law.specs.Ledger.{Cells, Sizes, Each}
use Rattle.law.specs.Pages.{Area, Surface, in_area}
use Rattle.law.specs.Uses.{clear_surface, clear_layers, clear_mips, drain_mips, discard_mip, owes_any}
use Rattle.law.proofs.Commands.{Paints, paints_as, paints_none, paints_both}
use Rattle.law.proofs.Surfaces.{surface, paints_up}

-- whether a layer of a mip is in the book, whose lists are of the mips from k on
abbrev pub book_at : ℕ → List Book → ℕ → ℕ → Bool
book_at k [] m l = false
book_at k (b ∷ bs) m l = (eqb m k && member l b) || book_at (k + 1) bs m l

-- each list is a sound one of so many layers
abbrev pub AllSound : ℕ → List Book → Type 0
AllSound n [] = Unit {0}
AllSound n (b ∷ bs) = Sound n b × AllSound n bs

none_here : (m k : ℕ) (a q : Bool) → m < k → q ≡ false → ((eqb m k && a) || q) ≡ false
none_here m k a q h e = grind (arith, nat_tests)

pub book_from : (k : ℕ) (bs : List Book) (m l : ℕ) → m < k → book_at k bs m l ≡ false
book_from k [] m l h = refl
book_from k (b ∷ bs) m l h =
    let rest = book_from (k + 1) bs m l (omega arith) in
    none_here m k (member l b) (book_at (k + 1) bs m l) h rest

-- a use takes out what it covers
drain_one : (m k l m0 m1 l0 l1 : ℕ) (a q t u : Bool) → t ≡ (a && not (inside l0 l1 l)) → u ≡ (q && not (inside m0 m1 m && inside l0 l1 l))
    → ((eqb m k && cond (inside m0 m1 k) t a) || u) ≡ (((eqb m k && a) || q) && not (inside m0 m1 m && inside l0 l1 l))
drain_one m k l m0 m1 l0 l1 a q t u e f = grind (arith, nat_tests)

member_cond : (l : ℕ) (e : Bool) (x y : Book) → member l (cond e x y) ≡ cond e (member l x) (member l y)
member_cond l true x y = refl
member_cond l false x y = refl

pub drain_book : (a : Area) (k : ℕ) (bs : List Book) (m l : ℕ) → book_at k (drain_mips a k bs) m l ≡ (book_at k bs m l && not (in_area a m l))
drain_book a k [] m l = refl
drain_book a k (b ∷ bs) m l =
    let rest = drain_book a (k + 1) bs m l in
    ap (λ t. (eqb m k && t) || book_at (k + 1) (drain_mips a (k + 1) bs) m l) (member_cond l (inside a.mip a.mip_end k) (drained a.layer a.layer_end b) b)
    ∙ drain_one m k l a.mip a.mip_end a.layer a.layer_end (member l b) (book_at (k + 1) bs m l) (member l (drained a.layer a.layer_end b))
    (book_at (k + 1) (drain_mips a (k + 1) bs) m l) (member_drained l a.layer a.layer_end b) rest

sound_cond : (n : ℕ) (e : Bool) (x y : Book) → Sound n x → Sound n y → Sound n (cond e x y)
sound_cond n true x y s t = s
sound_cond n false x y s t = t

pub drain_sound : (n : ℕ) (a : Area) (k : ℕ) (bs : List Book) → AllSound n bs → AllSound n (drain_mips a k bs)
drain_sound n a k [] s = tt
drain_sound n a k (b ∷ bs) s =
    (sound_cond n (inside a.mip a.mip_end k) (drained a.layer a.layer_end b) b (sound_drained a.layer a.layer_end n b s.0) s.0, drain_sound n a (k + 1) bs s.1)

pub drain_length : (a : Area) (k : ℕ) (bs : List Book) → length (drain_mips a k bs) ≡ length bs
drain_length a k [] = refl
drain_length a k (b ∷ bs) = ap suc (drain_length a (k + 1) bs)

-- a discard puts one layer of one mip in
discard_one : (m k l f g : ℕ) (a q t u : Bool) → t ≡ (a || eqb l g) → u ≡ (q || (eqb m f && (ltb k f && eqb l g)))
    → ((eqb m k && cond (eqb k f) t a) || u) ≡ (((eqb m k && a) || q) || (eqb m f && (leb k f && eqb l g)))
discard_one m k l f g a q t u e h = grind (arith, nat_tests)

past : (m f k : ℕ) (a : Bool) → f < k + 0 → false ≡ (false || (eqb m f && (leb k f && a)))
past m f k a h = grind (arith, nat_tests)

next_leb : (k f : ℕ) → leb (k + 1) f ≡ ltb k f
next_leb k f = grind (arith, nat_tests)

member_added : (q p n : ℕ) (b : Book) → p < n → Sound n b → member q (added p n b) ≡ (member q b || eqb q p)
member_added q p n b h s = ap (λ t. member q (cond t (discarded p b) b)) (lt-ltb p n h) ∙ member_discarded q 0 n p b s

pub discard_book : (n : ℕ) (f : Surface) (k : ℕ) (bs : List Book) (m l : ℕ) → AllSound n bs → f.layer < n → f.mip < k + length bs
    → book_at k (discard_mip n k f bs) m l ≡ (book_at k bs m l || (eqb m f.mip && (leb k f.mip && eqb l f.layer)))
discard_book n f k [] m l s h e = past m f.mip k (eqb l f.layer) e
discard_book n f k (b ∷ bs) m l s h e =
    let rest = discard_book n f (k + 1) bs m l s.1 h (omega arith) ∙ ap (λ t. book_at (k + 1) bs m l || (eqb m f.mip && (t && eqb l f.layer))) (next_leb k f.mip) in
    ap (λ t. (eqb m k && t) || book_at (k + 1) (discard_mip n (k + 1) f bs) m l) (member_cond l (eqb k f.mip) (added f.layer n b) b)
    ∙ discard_one m k l f.mip f.layer (member l b) (book_at (k + 1) bs m l) (member l (added f.layer n b))
    (book_at (k + 1) (discard_mip n (k + 1) f bs) m l) (member_added l f.layer n b h s.0) rest

sound_added : (n p : ℕ) (b : Book) → p < n → Sound n b → Sound n (added p n b)
sound_added n p b h s = subst (λ t. Sound n (cond t (discarded p b) b)) (sym (lt-ltb p n h)) (sound_discarded 0 n p b (omega arith) h s)

pub discard_sound : (n : ℕ) (f : Surface) (k : ℕ) (bs : List Book) → f.layer < n → AllSound n bs → AllSound n (discard_mip n k f bs)
discard_sound n f k [] h s = tt
discard_sound n f k (b ∷ bs) h s =
    (sound_cond n (eqb k f.mip) (added f.layer n b) b (sound_added n f.layer b h s.0) s.0, discard_sound n f (k + 1) bs h s.1)

pub discard_length : (n : ℕ) (f : Surface) (k : ℕ) (bs : List Book) → length (discard_mip n k f bs) ≡ length bs
discard_length n f k [] = refl
discard_length n f k (b ∷ bs) = ap suc (discard_length n f (k + 1) bs)

below_only : (n l : ℕ) → inside 0 n l ≡ ltb l n
below_only n l = grind (arith, nat_tests)

fresh_none : (k m : ℕ) (a : Bool) → false ≡ (inside k (k + 0) m && a)
fresh_none k m a = grind (arith, nat_tests)

fresh_more : (k c m : ℕ) (a t u : Bool) → t ≡ a → u ≡ (inside (k + 1) (k + 1 + c) m && a) → ((eqb m k && t) || u) ≡ (inside k (k + suc c) m && a)
fresh_more k c m a t u e f = grind (arith, nat_tests)

-- a new book holds every layer of every mip
pub fresh_book : (n c k m l : ℕ) → book_at k (replicate c (whole n)) m l ≡ (inside k (k + c) m && ltb l n)
fresh_book n zero k m l = fresh_none k m (ltb l n)
fresh_book n (suc c) k m l =
    let rest = fresh_book n c (k + 1) m l in
    fresh_more k c m (ltb l n) (member l (whole n)) (book_at (k + 1) (replicate c (whole n)) m l) (member_whole l n ∙ below_only n l) rest

pub fresh_sound : (n c : ℕ) → AllSound n (replicate c (whole n))
fresh_sound n zero = tt
fresh_sound n (suc c) = (sound_whole n, fresh_sound n c)

range_or : (a b l : ℕ) (t : Bool) → a < b → (l < b + 1) ⊎ (b + 1 ≤ l) → (l < b + 1 → t ≡ false)
    → cond (inside a b l || t) 1 0 ≡ cond (inside a (a + (b - a)) l) 1 0 + cond t 1 0
range_or a b l t h (inl lt) e = let f = e lt in grind (arith, nat_tests)
range_or a b l t h (inr le) e = grind (arith, nat_tests)

-- the layers of some ranges of one mip, cleared range by range
one_range : (q : Bool) (a b l : ℕ) (t : Bool) → a < b → (l < b + 1 → t ≡ false)
    → cond (q && (inside a b l || t)) 1 0 ≡ cond (q && inside a (a + (b - a)) l) 1 0 + cond (q && t) 1 0
one_range true a b l t h e = range_or a b l t h (cases_lt l (b + 1)) e
one_range false a b l t h e = refl

no_member : (q : Bool) → (q && false) ≡ false
no_member true = refl
no_member false = refl

mip_apart : (e m l : Bool) → (e && (m && l)) ≡ ((e && m) && l)
mip_apart e m l = grind arith

pub clear_ranges : (z : Sizes) (pitch slot : ℕ) (s : Shape) (m b n : ℕ) (rs : List (ℕ × ℕ)) → SoundFrom b n rs
    → ((l : ℕ) → l < n → Paints z 0 (clear_surface pitch slot s m l) (surface s slot m l))
    → Paints z 0 (flat_map (clear_layers pitch slot s m) rs) (λ r i. (eqb r slot && eqb (mip_of s i) m) && member (layer_of s i) rs)
clear_ranges z pitch slot s m b n [] sound f = paints_none z 0 _ (λ r i _ _. no_member (eqb r slot && eqb (mip_of s i) m))
clear_ranges z pitch slot s m b n (q ∷ rs) sound f =
    paints_both z 0 (clear_layers pitch slot s m q) (flat_map (clear_layers pitch slot s m) rs) _ _ _
    (paints_up z 0 (clear_surface pitch slot s m) (λ r i. eqb r slot && eqb (mip_of s i) m) (λ r i. layer_of s i) (q.1 - q.0) q.0
    (λ l lo hi. paints_as z 0 _ _ _ (λ r i _ _. mip_apart (eqb r slot) (eqb (mip_of s i) m) (eqb (layer_of s i) l)) (f l (let u = sound.1 in let v = sound.2 in omega arith))))
    (clear_ranges z pitch slot s m (q.1 + 1) n rs sound.3 f)
    (λ r i _ _. one_range (eqb r slot && eqb (mip_of s i) m) q.0 q.1 (layer_of s i) (member (layer_of s i) rs) sound.1 (not_before (q.1 + 1) n (layer_of s i) rs sound.3))

-- one mip of a read, and the mips after it
abbrev mip_part : ℕ → ℕ → Shape → Area → ℕ → Book → List Command
mip_part pitch slot s a k b = cond (inside a.mip a.mip_end k) (flat_map (clear_layers pitch slot s k) (pieces a.layer a.layer_end b)) []

mip_part_lem : (e : Bool) (cs : List Command) (z : Sizes) (p q : Cells) → Each z (λ r i. (e && p r i) ≡ q r i) → (e ≡ true → Paints z 0 cs p) → Paints z 0 (cond e cs []) q
mip_part_lem true cs z p q same f = paints_as z 0 cs p q same (f refl)
mip_part_lem false cs z p q same f = paints_none z 0 q (λ r i h j. sym (same r i h j))

part_shape : (e : Bool) (m k l m0 m1 l0 l1 : ℕ) (a t : Bool) → t ≡ (a && inside l0 l1 l)
    → (inside m0 m1 k && ((e && eqb m k) && t)) ≡ (e && ((eqb m k && a) && (inside m0 m1 m && inside l0 l1 l)))
part_shape true m k l m0 m1 l0 l1 a t h = grind (arith, nat_tests)
part_shape false m k l m0 m1 l0 l1 a t h = grind arith

mips_or : (e : Bool) (m k : ℕ) (a q w : Bool) → (m < k + 1) ⊎ (k + 1 ≤ m) → (m < k + 1 → q ≡ false)
    → cond (e && (((eqb m k && a) || q) && w)) 1 0 ≡ cond (e && ((eqb m k && a) && w)) 1 0 + cond (e && (q && w)) 1 0
mips_or e m k a q w (inl lt) h = let f = h lt in grind (arith, nat_tests)
mips_or e m k a q w (inr le) h = grind (arith, nat_tests)

mips_apart : (e : Bool) (m k : ℕ) (a q w : Bool) → (m < k + 1 → q ≡ false)
    → cond (e && (((eqb m k && a) || q) && w)) 1 0 ≡ cond (e && ((eqb m k && a) && w)) 1 0 + cond (e && (q && w)) 1 0
mips_apart e m k a q w h = mips_or e m k a q w (cases_lt m (k + 1)) h

nothing : (e : Bool) (w : Bool) → (e && (false && w)) ≡ false
nothing true w = refl
nothing false w = refl

pub clear_mips_lem : (z : Sizes) (pitch slot : ℕ) (s : Shape) (a : Area) (n k : ℕ) (bs : List Book) → AllSound n bs
    → ((m l : ℕ) → m < k + length bs → l < n → Paints z 0 (clear_surface pitch slot s m l) (surface s slot m l))
    → Paints z 0 (clear_mips pitch slot s a k bs) (λ r i. eqb r slot && (book_at k bs (mip_of s i) (layer_of s i) && in_area a (mip_of s i) (layer_of s i)))
clear_mips_lem z pitch slot s a n k [] sound f = paints_none z 0 _ (λ r i _ _. nothing (eqb r slot) (in_area a (mip_of s i) (layer_of s i)))
clear_mips_lem z pitch slot s a n k (b ∷ bs) sound f =
    paints_both z 0 (mip_part pitch slot s a k b) (clear_mips pitch slot s a (k + 1) bs) _ _ _
    (mip_part_lem (inside a.mip a.mip_end k) _ z _ (λ r i. eqb r slot && ((eqb (mip_of s i) k && member (layer_of s i) b) && in_area a (mip_of s i) (layer_of s i)))
    (λ r i _ _. part_shape (eqb r slot) (mip_of s i) k (layer_of s i) a.mip a.mip_end a.layer a.layer_end (member (layer_of s i) b) (member (layer_of s i) (pieces a.layer a.layer_end b)) (member_pieces (layer_of s i) a.layer a.layer_end b))
    (λ _. clear_ranges z pitch slot s k 0 n (pieces a.layer a.layer_end b) (sound_pieces 0 a.layer a.layer_end n b sound.0) (λ l h. f k l (omega arith) h)))
    (clear_mips_lem z pitch slot s a n (k + 1) bs sound.1 (λ m l h j. f m l (omega arith) j))
    (λ r i _ _. mips_apart (eqb r slot) (mip_of s i) k (member (layer_of s i) b) (book_at (k + 1) bs (mip_of s i) (layer_of s i)) (in_area a (mip_of s i) (layer_of s i)) (book_from (k + 1) bs (mip_of s i) (layer_of s i)))

or_none : (a b : Bool) → (a || b) ≡ false → (a ≡ false) × (b ≡ false)
or_none a b e = (grind arith, grind arith)

no_pieces : (e : Bool) (ps : List (ℕ × ℕ)) → e ≡ true → (e && not (eqb (length ps) 0)) ≡ false → ps ≡ []
no_pieces e [] t f = refl
no_pieces e (p ∷ ps) t f = let bad : ◌≡◌ {A = ℕ} 0 1 = grind (arith, nat_tests) in absurd (omega arith)

empty_clears : (z : Sizes) (pitch slot : ℕ) (s : Shape) (m : ℕ) (ps : List (ℕ × ℕ)) → ps ≡ []
    → Paints z 0 (flat_map (clear_layers pitch slot s m) ps) (λ r i. (eqb r slot && eqb (mip_of s i) m) && member (layer_of s i) ps)
empty_clears z pitch slot s m ps e =
    subst (λ qs. Paints z 0 (flat_map (clear_layers pitch slot s m) qs) (λ r i. (eqb r slot && eqb (mip_of s i) m) && member (layer_of s i) qs)) (sym e)
    (paints_none z 0 _ (λ r i _ _. no_member (eqb r slot && eqb (mip_of s i) m)))

-- where nothing owes, nothing is cleared
pub clear_none : (z : Sizes) (pitch slot : ℕ) (s : Shape) (a : Area) (n k : ℕ) (bs : List Book) → AllSound n bs → owes_any a k bs ≡ false
    → Paints z 0 (clear_mips pitch slot s a k bs) (λ r i. eqb r slot && (book_at k bs (mip_of s i) (layer_of s i) && in_area a (mip_of s i) (layer_of s i)))
clear_none z pitch slot s a n k [] sound e = paints_none z 0 _ (λ r i _ _. nothing (eqb r slot) (in_area a (mip_of s i) (layer_of s i)))
clear_none z pitch slot s a n k (b ∷ bs) sound e =
    let here = or_none (inside a.mip a.mip_end k && not (eqb (length (pieces a.layer a.layer_end b)) 0)) (owes_any a (k + 1) bs) e in
    paints_both z 0 (mip_part pitch slot s a k b) (clear_mips pitch slot s a (k + 1) bs) _ _ _
    (mip_part_lem (inside a.mip a.mip_end k) _ z _ (λ r i. eqb r slot && ((eqb (mip_of s i) k && member (layer_of s i) b) && in_area a (mip_of s i) (layer_of s i)))
    (λ r i _ _. part_shape (eqb r slot) (mip_of s i) k (layer_of s i) a.mip a.mip_end a.layer a.layer_end (member (layer_of s i) b) (member (layer_of s i) (pieces a.layer a.layer_end b)) (member_pieces (layer_of s i) a.layer a.layer_end b))
    (λ t. empty_clears z pitch slot s k (pieces a.layer a.layer_end b) (no_pieces (inside a.mip a.mip_end k) (pieces a.layer a.layer_end b) t here.0)))
    (clear_none z pitch slot s a n (k + 1) bs sound.1 here.1)
    (λ r i _ _. mips_apart (eqb r slot) (mip_of s i) k (member (layer_of s i) b) (book_at (k + 1) bs (mip_of s i) (layer_of s i)) (in_area a (mip_of s i) (layer_of s i)) (book_from (k + 1) bs (mip_of s i) (layer_of s i)))
