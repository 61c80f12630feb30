-- What is painted when surfaces are cleared or filled: the cells of their mips and layers.
use Rattle.std.proofs.Common.{◌≡◌, ℕ, zero, suc, ◌+◌, ◌-◌, ◌<◌, ◌≤◌, Bool, true, false, cond, ◌&&◌, eqb, ltb, leb, List, [], ◌∷◌, map, sym, refl, ap, subst, arith}
use Rattle.std.proofs.lemmas.Bool.Decides.{nat_tests}
use Rattle.std.proofs.lemmas.Bool.{eq-eqb, eqb-true}
use Rattle.std.specs.List.{flat_map}
use Rattle.texture.specs.Shapes.{Shape, proper, layers_of}
use Rattle.texture.specs.Cells.{surface_first, surface_cells, cells_of, in_surface, mip_of, layer_of}
use Rattle.texture.specs.Copies.{clear_runs}
use Rattle.texture.specs.Runs.{Consecutive, clears, pitch_fits}
use Rattle.texture.specs.declared.format.ClearMode.{ClearMode}
use Rattle.texture.specs.declared.format.ClearMode.TheVariants as mode
use Rattle.texture.proofs.Tiles.{lands, alone_mip, alone_layer, surface_in_cells}
use Rattle.texture.proofs.Clears.{clears_follow}
use Rattle.device.specs.declared.command.Command.{Command}
use Rattle.device.specs.declared.command.CommandKind.{CommandKind}
use Rattle.device.specs.Commands.{byte_of}
use Rattle.range_list.specs.Ranges.{inside}
use Rattle.law.specs.Ledger.{Cells, Sizes, Each, slot_count}
use Rattle.law.specs.Pages.{Area, in_area}
use Rattle.law.specs.Uses.{up_from, kind_of, run_command, clear_surface, over_layers, over_surfaces, fill_surface}
use Rattle.law.proofs.Commands.{times, AllInside, AllLeave, Paints, paints_as, paints_none, paints_both, paints_one}

-- a texture in a slot: its cells are those of the slot
pub record Textured (z : Sizes) (slot : ℕ) (s : Shape) : Type 0 where
  pub known : slot < slot_count
  pub cells : z slot ≡ cells_of s
  pub fine : proper s ≡ true

-- the cells of one surface
abbrev pub surface : Shape → ℕ → ℕ → ℕ → Cells
surface s slot m l r i = eqb r slot && (eqb (mip_of s i) m && eqb (layer_of s i) l)

both_true : (a b : Bool) → a ≡ true → b ≡ true → true ≡ (a && b)
both_true a b e f = grind arith

both_out : (a b : Bool) → (a && b) ≡ true → (a ≡ true) × (b ≡ true)
both_out a b e = (grind arith, grind arith)

same_tests : (a b : Bool) → (a ≡ true → b ≡ true) → (b ≡ true → a ≡ true) → a ≡ b
same_tests true b f g = sym (f refl)
same_tests false true f g = g refl
same_tests false false f g = refl

-- a cell is in a surface if that is the surface of its mip and layer
pub surface_cells_lem : (s : Shape) (m l i : ℕ) → m < s.mips → l < layers_of s → i < cells_of s
    → in_surface s m l i ≡ (eqb (mip_of s i) m && eqb (layer_of s i) l)
surface_cells_lem s m l i hm hl hi =
    same_tests (in_surface s m l i) (eqb (mip_of s i) m && eqb (layer_of s i) l)
    (λ e. sym (both_true _ _ (eq-eqb _ _ (alone_mip s m l i hm hl e)) (eq-eqb _ _ (alone_layer s m l i hm hl e))))
    (λ e.
    let p = both_out (eqb (mip_of s i) m) (eqb (layer_of s i) l) e in
    let em = eqb-true (mip_of s i) m p.0 in
    let el = eqb-true (layer_of s i) l p.1 in
    let here = (lands s i hi).2 in
    subst (λ k. in_surface s m k i ≡ true) el (subst (λ k. in_surface s k (layer_of s i) i ≡ true) em here))

-- runs that follow each other
run_on : (first end : ℕ) (rs : List (ℕ × ℕ)) → Consecutive first end rs → first ≤ end
run_on first end [] c = omega arith
run_on first end (r ∷ rs) c = let rest = run_on (first + r.1) end rs c.2 in omega arith

split_run : (e : Bool) (first n end f i t : ℕ) → f ≡ first → first + n ≤ end
    → t ≡ cond (e && inside (first + n) end i) 1 0
    → cond (e && (leb f i && ltb i (f + n))) 1 0 + t ≡ cond (e && inside first end i) 1 0
split_run true first n end f i t e le h = grind (arith, nat_tests)
split_run false first n end f i t e le h = grind arith

no_run : (e : Bool) (first end i : ℕ) → first ≡ end → ◌≡◌ {A = ℕ} 0 (cond (e && inside first end i) 1 0)
no_run true first end i h = grind (arith, nat_tests)
no_run false first end i h = refl

run_times : (k : CommandKind) (slot first end : ℕ) (rs : List (ℕ × ℕ)) → Consecutive first end rs → (r i : ℕ)
    → times (map (run_command k slot) rs) r i ≡ cond (eqb r slot && inside first end i) 1 0
run_times k slot first end [] c r i = no_run (eqb r slot) first end i c
run_times k slot first end (q ∷ rs) c r i =
    split_run (eqb r slot) first q.1 end q.0 i (times (map (run_command k slot) rs) r i) c.0 (run_on (first + q.1) end rs c.2)
    (run_times k slot (first + q.1) end rs c.2 r i)

run_fits : (z : Sizes) (k : CommandKind) (slot first end : ℕ) (rs : List (ℕ × ℕ)) → slot < slot_count → end ≤ z slot → Consecutive first end rs
    → AllInside z (map (run_command k slot) rs)
run_fits z k slot first end [] h le c = tt
run_fits z k slot first end (q ∷ rs) h le c =
    let on = run_on (first + q.1) end rs c.2 in
    let here = c.0 in
    ((h, omega arith), run_fits z k slot (first + q.1) end rs h le c.2)

run_leaves : (k : CommandKind) (slot b : ℕ) (rs : List (ℕ × ℕ)) → byte_of k ≡ b → AllLeave b (map (run_command k slot) rs)
run_leaves k slot b [] e = tt
run_leaves k slot b (q ∷ rs) e = (e, run_leaves k slot b rs e)

clears_zero : (m : ClearMode) → byte_of (kind_of m) ≡ 0
clears_zero mode.None = refl
clears_zero mode.Copies = refl
clears_zero mode.ColourPass = refl
clears_zero mode.DepthPass = refl

abbrev in_slot : Shape → ℕ → ℕ → ℕ → Cells
in_slot s slot m l r i = eqb r slot && inside (surface_first s m l) (surface_first s m l + surface_cells s m) i

slot_surface : (e : Bool) (a b : Bool) → (e ≡ true → a ≡ b) → (e && a) ≡ (e && b)
slot_surface true a b f = f refl
slot_surface false a b f = refl

cell_below : (z : Sizes) (slot n r i : ℕ) → z slot ≡ n → i < z r → eqb r slot ≡ true → i < n
cell_below z slot n r i e h t = let same = ap z (eqb-true r slot t) in omega arith

module _ (z : Sizes) (slot : ℕ) (s : Shape) (t : Textured z slot s) (m l : ℕ) (hm : m < s.mips) (hl : l < layers_of s) where
  in_slot_lem : Each z (λ r i. in_slot s slot m l r i ≡ surface s slot m l r i)
  in_slot_lem r i h j =
      slot_surface (eqb r slot) _ _ (λ e. surface_cells_lem s m l i hm hl (cell_below z slot (cells_of s) r i t.cells j e))

  surface_end : surface_first s m l + surface_cells s m ≤ z slot
  surface_end = let le = surface_in_cells s m l hm hl in let e = t.cells in omega arith

  pub clear_surface_lem : (pitch : ℕ) → clears s.mode ≡ true → pitch_fits pitch ≡ true
      → Paints z 0 (clear_surface pitch slot s m l) (surface s slot m l)
  clear_surface_lem pitch can fits =
      let runs = clears_follow pitch s m l t.fine fits can in
      paints_as z 0 _ _ _ in_slot_lem
      (record {
        leaves = run_leaves (kind_of s.mode) slot 0 (clear_runs pitch s m l) (clears_zero s.mode);
        fits = run_fits z (kind_of s.mode) slot _ _ (clear_runs pitch s m l) t.known surface_end runs;
        once = λ r i h j. run_times (kind_of s.mode) slot _ _ (clear_runs pitch s m l) runs r i;
      })

  pub fill_surface_lem : (byte : ℕ) → Paints z byte (fill_surface slot s byte m l) (surface s slot m l)
  fill_surface_lem byte = paints_as z byte _ _ _ in_slot_lem (paints_one z byte _ refl t.known surface_end)

-- numbers one after the other, each painting the cells of that number
up_one : (q : Bool) (a n f : ℕ) → cond (q && inside a (a + suc n) f) 1 0 ≡ cond (q && eqb f a) 1 0 + cond (q && inside (a + 1) (a + 1 + n) f) 1 0
up_one true a n f = grind (arith, nat_tests)
up_one false a n f = refl

up_none : (q : Bool) (a f : ℕ) → (q && inside a (a + 0) f) ≡ false
up_none true a f = grind (arith, nat_tests)
up_none false a f = refl

pub paints_up : (z : Sizes) (b : ℕ) (g : ℕ → List Command) (q : Cells) (f : ℕ → ℕ → ℕ) (n a : ℕ)
    → ((m : ℕ) → a ≤ m → m < a + n → Paints z b (g m) (λ r i. q r i && eqb (f r i) m))
    → Paints z b (flat_map g (up_from a n)) (λ r i. q r i && inside a (a + n) (f r i))
paints_up z b g q f zero a e = paints_none z b _ (λ r i h j. up_none (q r i) a (f r i))
paints_up z b g q f (suc n) a e =
    paints_both z b (g a) (flat_map g (up_from (a + 1) n)) _ _ _ (e a (omega arith) (omega arith))
    (paints_up z b g q f n (a + 1) (λ m lo hi. e m (omega arith) (omega arith)))
    (λ r i h j. up_one (q r i) a n (f r i))

mip_first_lem : (e m l : Bool) → (e && (m && l)) ≡ ((e && m) && l)
mip_first_lem e m l = grind arith

area_shape : (e : Bool) (m0 m1 l0 l1 m l : ℕ) → m0 ≤ m1 → l0 ≤ l1
    → ((e && inside l0 (l0 + (l1 - l0)) l) && inside m0 (m0 + (m1 - m0)) m) ≡ (e && (inside m0 m1 m && inside l0 l1 l))
area_shape true m0 m1 l0 l1 m l h k = grind (arith, nat_tests)
area_shape false m0 m1 l0 l1 m l h k = refl

-- an area, surface by surface
abbrev pub area_cells : Shape → ℕ → Area → Cells
area_cells s slot a r i = eqb r slot && in_area a (mip_of s i) (layer_of s i)

swap_last : (e m l : Bool) → ((e && m) && l) ≡ ((e && l) && m)
swap_last e m l = grind arith

pub paints_area : (z : Sizes) (b slot : ℕ) (s : Shape) (a : Area) (g : ℕ → ℕ → List Command)
    → a.mip ≤ a.mip_end → a.layer ≤ a.layer_end → a.mip_end ≤ s.mips → a.layer_end ≤ layers_of s
    → ((m l : ℕ) → m < s.mips → l < layers_of s → Paints z b (g m l) (surface s slot m l))
    → Paints z b (over_surfaces g a) (area_cells s slot a)
paints_area z b slot s a g hm hl em el f =
    let layers : (m : ℕ) → m < s.mips → Paints z b (over_layers g a m) (λ r i. (eqb r slot && eqb (mip_of s i) m) && inside a.layer (a.layer + (a.layer_end - a.layer)) (layer_of s i))
    = λ m h. paints_up z b (g m) (λ r i. eqb r slot && eqb (mip_of s i) m) (λ r i. layer_of s i) (a.layer_end - a.layer) a.layer
    (λ l lo hi. paints_as z b _ _ _ (λ r i _ _. mip_first_lem (eqb r slot) (eqb (mip_of s i) m) (eqb (layer_of s i) l)) (f m l h (omega arith))) in
    paints_as z b _ _ _ (λ r i _ _. area_shape (eqb r slot) a.mip a.mip_end a.layer a.layer_end (mip_of s i) (layer_of s i) hm hl)
    (paints_up z b (over_layers g a) (λ r i. eqb r slot && inside a.layer (a.layer + (a.layer_end - a.layer)) (layer_of s i)) (λ r i. mip_of s i) (a.mip_end - a.mip) a.mip
    (λ m lo hi. paints_as z b _ _ _ (λ r i _ _. swap_last (eqb r slot) (eqb (mip_of s i) m) (inside a.layer (a.layer + (a.layer_end - a.layer)) (layer_of s i))) (layers m (omega arith))))
