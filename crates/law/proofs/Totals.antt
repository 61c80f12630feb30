-- What reads sum: the bytes of their own ranges, wherever those lie among all cells.
use Rattle.std.proofs.Common.{◌≡◌, ℕ, zero, suc, ◌+◌, ◌-◌, ◌*◌, ◌<◌, ◌≤◌, Bool, true, false, cond, ◌&&◌, eqb, sym, refl, ap, ◌∙◌, suc-mul, add-mul, one-mul, zero-mul, arith}
use Rattle.std.proofs.lemmas.Bool.Decides.{nat_tests}
use Rattle.texture.specs.Shapes.{Shape, layers_of}
use Rattle.texture.specs.Cells.{surface_first, surface_cells, cells_of, mip_of, layer_of}
use Rattle.texture.proofs.Tiles.{surface_in_cells}
use Rattle.device.specs.Meaning.{summed}
use Rattle.range_list.specs.Ranges.{inside}
use Rattle.law.specs.Ledger.{Bytes, Sizes, sumBelow, sum_all, slot_count}
use Rattle.law.specs.Pages.{Area, in_area}
use Rattle.law.specs.Uses.{up_from, sum_mips}
use Rattle.law.proofs.Sums.{one_eq, one_two, one_none}
use Rattle.law.proofs.Commands.{range_sum, slot_sum}
use Rattle.law.proofs.Surfaces.{Textured, surface_cells_lem}

same_end : (a b i t : ℕ) → a ≤ b → cond (inside a b i) t 0 ≡ cond (inside a (a + (b - a)) i) t 0
same_end a b i t h = grind (arith, nat_tests)

-- a range of a buffer
pub buffer_sum : (z : Sizes) (n a b : ℕ) (x : Bytes) → n < slot_count → a ≤ b → b ≤ z n
    → summed (x n) a (b - a) ≡ sum_all z (λ r i. cond (eqb r n && inside a b i) (x r i) 0)
buffer_sum z n a b x h le fits =
    sym (slot_sum z n (inside a b) x h
    ∙ one_eq (z n) _ _ (λ i k. same_end a b i (x n i) le)
    ∙ range_sum (z n) (b - a) a (x n) (omega arith))

suc_plus : (c d : ℕ) → suc c + d ≡ suc (c + d)
suc_plus c d = omega arith

-- a range cut in two
summed_split : (f : ℕ → ℕ) (c d a : ℕ) → summed f a (c + d) ≡ summed f a c + summed f (a + c) d
unfolding summed
summed_split f zero d a =
    let all : 0 + d ≡ d = omega arith in
    let same : a ≡ a + 0 = omega arith in
    let moved : summed f a (0 + d) ≡ summed f (a + 0) d = ap (summed f a) all ∙ ap (λ b. summed f b d) same in
    omega arith
summed_split f (suc c) d a =
    let ih = summed_split f c d (a + 1) in
    let more : summed f a (suc c + d) ≡ f a + summed f (a + 1) (c + d) = ap (summed f a) (suc_plus c d) in
    let on : a + 1 + c ≡ a + suc c = omega arith in
    let last : summed f (a + 1 + c) d ≡ summed f (a + suc c) d = ap (λ b. summed f b d) on in
    omega arith

summed_none : (f : ℕ → ℕ) (a : ℕ) → summed f a 0 ≡ 0
unfolding summed
summed_none f a = refl

zero_times : (w : ℕ) → 0 * w ≡ 0
zero_times w = zero-mul w

suc_times : (c w : ℕ) → suc c * w ≡ w + c * w
suc_times c w = suc-mul c w ∙ omega arith

next_first : (s : Shape) (m l : ℕ) → surface_first s m l + surface_cells s m ≡ surface_first s m (l + 1)
next_first s m l =
    let e : (l + 1) * surface_cells s m ≡ l * surface_cells s m + surface_cells s m = add-mul l 1 (surface_cells s m) ∙ ap (λ t. l * surface_cells s m + t) (one-mul (surface_cells s m)) in
    omega arith

no_layer : (e : Bool) (l k t : ℕ) → cond (e && inside l (l + 0) k) t 0 ≡ 0
no_layer true l k t = grind (arith, nat_tests)
no_layer false l k t = refl

one_layer : (e : Bool) (l c k t : ℕ) → cond (e && inside l (l + suc c) k) t 0 ≡ cond (e && eqb k l) t 0 + cond (e && inside (l + 1) (l + 1 + c) k) t 0
one_layer true l c k t = grind (arith, nat_tests)
one_layer false l c k t = refl

-- the cells of a surface, and of some layers of one mip
module _ (s : Shape) (f : ℕ → ℕ) (m : ℕ) (hm : m < s.mips) where
  surface_sum : (l : ℕ) → l < layers_of s
      → summed f (surface_first s m l) (surface_cells s m) ≡ sumBelow (cells_of s) (λ i. cond (eqb (mip_of s i) m && eqb (layer_of s i) l) (f i) 0)
  surface_sum l hl =
      sym (one_eq (cells_of s) _ _ (λ i k. ap (λ t. cond t (f i) 0) (sym (surface_cells_lem s m l i hm hl k)))
      ∙ range_sum (cells_of s) (surface_cells s m) (surface_first s m l) f (surface_in_cells s m l hm hl))

  layers_sum : (c l : ℕ) → l + c ≤ layers_of s
      → summed f (surface_first s m l) (c * surface_cells s m) ≡ sumBelow (cells_of s) (λ i. cond (eqb (mip_of s i) m && inside l (l + c) (layer_of s i)) (f i) 0)
  layers_sum zero l h =
      let none : summed f (surface_first s m l) (0 * surface_cells s m) ≡ 0 = ap (summed f (surface_first s m l)) (zero_times (surface_cells s m)) ∙ summed_none f (surface_first s m l) in
      none ∙ sym (one_eq (cells_of s) _ (λ i. 0) (λ i k. no_layer (eqb (mip_of s i) m) l (layer_of s i) (f i)) ∙ one_none (cells_of s))
  layers_sum (suc c) l h =
      let w = surface_cells s m in
      let split : summed f (surface_first s m l) (suc c * w) ≡ summed f (surface_first s m l) w + summed f (surface_first s m l + w) (c * w)
      = ap (summed f (surface_first s m l)) (suc_times c w) ∙ summed_split f w (c * w) (surface_first s m l) in
      let next : summed f (surface_first s m l + w) (c * w) ≡ summed f (surface_first s m (l + 1)) (c * w) = ap (λ a. summed f a (c * w)) (next_first s m l) in
      let here = surface_sum l (omega arith) in
      let rest = layers_sum c (l + 1) (omega arith) in
      let both = one_two (cells_of s) (λ i. cond (eqb (mip_of s i) m && inside l (l + suc c) (layer_of s i)) (f i) 0) _ _ (λ i k. one_layer (eqb (mip_of s i) m) l c (layer_of s i) (f i)) in
      omega arith

-- the mips of an area, one after the other
no_mip : (a k t : ℕ) (q : Bool) → cond (inside a (a + 0) k && q) t 0 ≡ 0
no_mip a k t q = grind (arith, nat_tests)

one_mip : (a c k t : ℕ) (q : Bool) → cond (inside a (a + suc c) k && q) t 0 ≡ cond (eqb k a && q) t 0 + cond (inside (a + 1) (a + 1 + c) k && q) t 0
one_mip a c k t q = grind (arith, nat_tests)

mips_sum : (s : Shape) (f : ℕ → ℕ) (a : Area) → a.layer ≤ a.layer_end → a.layer_end ≤ layers_of s → (c m : ℕ) → m + c ≤ s.mips
    → sum_mips f s a (up_from m c) ≡ sumBelow (cells_of s) (λ i. cond (inside m (m + c) (mip_of s i) && inside a.layer (a.layer + (a.layer_end - a.layer)) (layer_of s i)) (f i) 0)
mips_sum s f a hl el zero m h =
    sym (one_eq (cells_of s) _ (λ i. 0) (λ i k. no_mip m (mip_of s i) (f i) (inside a.layer (a.layer + (a.layer_end - a.layer)) (layer_of s i))) ∙ one_none (cells_of s))
mips_sum s f a hl el (suc c) m h =
    let here = layers_sum s f m (omega arith) (a.layer_end - a.layer) a.layer (omega arith) in
    let rest = mips_sum s f a hl el c (m + 1) (omega arith) in
    let both = one_two (cells_of s) (λ i. cond (inside m (m + suc c) (mip_of s i) && inside a.layer (a.layer + (a.layer_end - a.layer)) (layer_of s i)) (f i) 0) _ _
    (λ i k. one_mip m c (mip_of s i) (f i) (inside a.layer (a.layer + (a.layer_end - a.layer)) (layer_of s i))) in
    omega arith

area_cond : (m0 m1 l0 l1 m l t : ℕ) → m0 ≤ m1 → l0 ≤ l1
    → cond (inside m0 m1 m && inside l0 l1 l) t 0 ≡ cond (inside m0 (m0 + (m1 - m0)) m && inside l0 (l0 + (l1 - l0)) l) t 0
area_cond m0 m1 l0 l1 m l t h k = grind (arith, nat_tests)

pub area_sum : (z : Sizes) (n : ℕ) (s : Shape) (a : Area) (x : Bytes) → Textured z n s
    → a.mip ≤ a.mip_end → a.layer ≤ a.layer_end → a.mip_end ≤ s.mips → a.layer_end ≤ layers_of s
    → sum_mips (x n) s a (up_from a.mip (a.mip_end - a.mip)) ≡ sum_all z (λ r i. cond (eqb r n && in_area a (mip_of s i) (layer_of s i)) (x r i) 0)
area_sum z n s a x t hm hl em el =
    mips_sum s (x n) a hl el (a.mip_end - a.mip) a.mip (omega arith)
    ∙ sym (slot_sum z n (λ i. in_area a (mip_of s i) (layer_of s i)) x t.known
    ∙ ap (λ c. sumBelow c (λ i. cond (in_area a (mip_of s i) (layer_of s i)) (x n i) 0)) t.cells
    ∙ one_eq (cells_of s) _ _ (λ i k. area_cond a.mip a.mip_end a.layer a.layer_end (mip_of s i) (layer_of s i) (x n i) hm hl))
