-- Each step as the planner works it: the device does what the step does to its cells, and a read sums its own range.
use Rattle.std.proofs.Common.{◌≡◌, ℕ, ◌+◌, ◌-◌, ◌<◌, ◌≤◌, Bool, true, false, cond, ◌&&◌, eqb, ltb, leb, List, [], ◌∷◌, sym, refl, ap, ◌∙◌, arith}
use Rattle.std.proofs.lemmas.Bool.Decides.{nat_tests}
use Rattle.texture.specs.Shapes.{Shape, layers_of}
use Rattle.texture.specs.Runs.{clears, pitch_fits}
use Rattle.device.specs.Meaning.{ran}
use Rattle.range_list.specs.Ranges.{inside}
use Rattle.rules.specs.Uses.{buffer_of, start_of, end_of, cover_end}
use Rattle.rules.specs.declared.step.Step.{Step}
use Rattle.rules.specs.declared.step.Step.TheVariants as step
use Rattle.law.specs.Pages.{Area, Surface, ListStep, OnBuffer, TextureRead, TextureWrite, ClearTexture, SettledClear, Discard, buffer_count}
use Rattle.law.specs.Uses.{commands_for, sums_for, clear_surface, fill_surface}
use Rattle.law.specs.Ledger.{Sizes, Passes, Deed, deed_of, covers}
use Rattle.law.specs.Laws.{commanded}
use Rattle.law.proofs.Commands.{Paints, paints_device, paints_named}
use Rattle.law.proofs.Surfaces.{Textured, clear_surface_lem, fill_surface_lem, paints_area}
use Rattle.law.proofs.Totals.{buffer_sum, area_sum}
use Rattle.law.proofs.Moves.{Work, Faithful, AllFaithful}

-- a step that stays within what it names
pub record ValidArea (z : Sizes) (sh : ℕ → Shape) (n : ℕ) (a : Area) : Type 0 where
  pub high : buffer_count ≤ n
  pub texture : Textured z n (sh n)
  pub mips : a.mip ≤ a.mip_end
  pub layers : a.layer ≤ a.layer_end
  pub mip_end : a.mip_end ≤ (sh n).mips
  pub layer_end : a.layer_end ≤ layers_of (sh n)

pub record ValidSurface (z : Sizes) (sh : ℕ → Shape) (f : Surface) : Type 0 where
  pub high : buffer_count ≤ f.texture
  pub texture : Textured z f.texture (sh f.texture)
  pub mip : f.mip < (sh f.texture).mips
  pub layer : f.layer < layers_of (sh f.texture)

pub record ValidRange (z : Sizes) (s : Step) : Type 0 where
  pub low : buffer_of s < buffer_count
  pub up : start_of s < end_of s
  pub covered : end_of s ≤ cover_end s
  pub fits : cover_end s ≤ z (buffer_of s)

abbrev pub Valid : Sizes → (ℕ → Shape) → ListStep → Type 0
Valid z sh (OnBuffer s) = ValidRange z s
Valid z sh (TextureRead n a) = ValidArea z sh n a
Valid z sh (TextureWrite n b a) = ValidArea z sh n a
Valid z sh (ClearTexture n a) = ValidArea z sh n a × (clears (sh n).mode ≡ true)
Valid z sh (SettledClear f) = ValidSurface z sh f × (clears (sh f.texture).mode ≡ true)
Valid z sh (Discard f) = ValidSurface z sh f

abbrev pub AllValid : Sizes → (ℕ → Shape) → List ListStep → Type 0
AllValid z sh [] = Unit {0}
AllValid z sh (s ∷ ss) = Valid z sh s × AllValid z sh ss

-- what a step does; a settled clear covers what it commands
abbrev pub move_of : ℕ → (ℕ → Shape) → ListStep → Deed
move_of pitch sh (OnBuffer s) = deed_of sh (OnBuffer s)
move_of pitch sh (TextureRead n a) = deed_of sh (TextureRead n a)
move_of pitch sh (TextureWrite n b a) = deed_of sh (TextureWrite n b a)
move_of pitch sh (ClearTexture n a) = deed_of sh (ClearTexture n a)
move_of pitch sh (SettledClear f) =
    record { effect = Passes; cover = commanded (commands_for pitch sh (SettledClear f)); own = commanded (commands_for pitch sh (SettledClear f)) }
move_of pitch sh (Discard f) = deed_of sh (Discard f)

abbrev pub work_of : ℕ → (ℕ → Shape) → ListStep → Work
work_of pitch sh s =
    record { deed = move_of pitch sh s; device = λ x. ran x (commands_for pitch sh s); said = λ x. sums_for sh x s }

abbrev pub works_of : ℕ → (ℕ → Shape) → List ListStep → List Work
works_of pitch sh [] = []
works_of pitch sh (s ∷ ss) = work_of pitch sh s ∷ works_of pitch sh ss

range_cells : (e : Bool) (a b i w x : ℕ) → a ≤ b → cond (e && (leb a i && ltb i (a + (b - a)))) w x ≡ cond (e && inside a b i) w x
range_cells true a b i w x h = grind (arith, nat_tests)
range_cells false a b i w x h = refl

wider : (e : Bool) (a b c i : ℕ) → b ≤ c → (e && inside a b i) ≡ true → (e && inside a c i) ≡ true
wider true a b c i h k = grind (arith, nat_tests)
wider false a b c i h k = k

buffer_faithful : (z : Sizes) (pitch : ℕ) (sh : ℕ → Shape) (s : Step) → ValidRange z s → Faithful z (work_of pitch sh (OnBuffer s))
buffer_faithful z pitch sh (step.BufferRead n start end) v =
    record {
      cells = λ x r i h j. refl;
      sums = λ x. ap (λ t. t ∷ []) (buffer_sum z n start end x (let low = v.low in omega arith) (let up = v.up in omega arith) (let a = v.covered in let b = v.fits in omega arith));
      inside = λ r i h j. wider (eqb r n) start end (cover_end (step.BufferRead n start end)) i v.covered;
    }
buffer_faithful z pitch sh (step.BufferWrite n byte start end) v =
    record {
      cells = λ x r i h j. range_cells (eqb r n) start end i byte (x r i) (let up = v.up in omega arith);
      sums = λ x. refl;
      inside = λ r i h j e. e;
    }
buffer_faithful z pitch sh (step.ClearBuffer n start end) v =
    record {
      cells = λ x r i h j. range_cells (eqb r n) start end i 0 (x r i) (let up = v.up in omega arith);
      sums = λ x. refl;
      inside = λ r i h j e. e;
    }

module _ (z : Sizes) (pitch : ℕ) (sh : ℕ → Shape) (fits : pitch_fits pitch ≡ true) where
  -- what the commands of each step paint
  pub fill_paints : (n byte : ℕ) (a : Area) → ValidArea z sh n a → Paints z byte (commands_for pitch sh (TextureWrite n byte a)) (covers sh (TextureWrite n byte a))
  fill_paints n byte a v =
      paints_area z byte n (sh n) a (fill_surface n (sh n) byte) v.mips v.layers v.mip_end v.layer_end
      (λ m l hm hl. fill_surface_lem z n (sh n) v.texture m l hm hl byte)

  pub clear_paints : (n : ℕ) (a : Area) → ValidArea z sh n a → clears (sh n).mode ≡ true → Paints z 0 (commands_for pitch sh (ClearTexture n a)) (covers sh (ClearTexture n a))
  clear_paints n a v can =
      paints_area z 0 n (sh n) a (clear_surface pitch n (sh n)) v.mips v.layers v.mip_end v.layer_end
      (λ m l hm hl. clear_surface_lem z n (sh n) v.texture m l hm hl pitch can fits)

  pub settled_paints : (f : Surface) → ValidSurface z sh f → clears (sh f.texture).mode ≡ true
      → Paints z 0 (commands_for pitch sh (SettledClear f)) (covers sh (SettledClear f))
  settled_paints f v can = clear_surface_lem z f.texture (sh f.texture) v.texture f.mip f.layer v.mip v.layer pitch can fits

  -- a settled clear paints what it commands
  settled_named : (f : Surface) → ValidSurface z sh f → clears (sh f.texture).mode ≡ true
      → Paints z 0 (commands_for pitch sh (SettledClear f)) (commanded (commands_for pitch sh (SettledClear f)))
  settled_named f v can =
      let p = settled_paints f v can in
      record { leaves = p.leaves; fits = p.fits; once = λ r i h j. p.once r i h j ∙ ap (λ t. cond t 1 0) (sym (paints_named z 0 _ _ p r i h j)) }

  pub faithful : (s : ListStep) → Valid z sh s → Faithful z (work_of pitch sh s)
  faithful (OnBuffer s) v = buffer_faithful z pitch sh s v
  faithful (TextureRead n a) v =
      record {
        cells = λ x r i h j. refl;
        sums = λ x. ap (λ t. t ∷ []) (area_sum z n (sh n) a x v.texture v.mips v.layers v.mip_end v.layer_end);
        inside = λ r i h j e. e;
      }
  faithful (TextureWrite n byte a) v =
      record { cells = λ x. paints_device z byte _ _ x (fill_paints n byte a v); sums = λ x. refl; inside = λ r i h j e. e }
  faithful (ClearTexture n a) v =
      record { cells = λ x. paints_device z 0 _ _ x (clear_paints n a v.0 v.1); sums = λ x. refl; inside = λ r i h j e. e }
  faithful (SettledClear f) v =
      record { cells = λ x. paints_device z 0 _ _ x (settled_named f v.0 v.1); sums = λ x. refl; inside = λ r i h j e. e }
  faithful (Discard f) v = record { cells = λ x r i h j. refl; sums = λ x. refl; inside = λ r i h j e. e }

  pub all_faithful : (ss : List ListStep) → AllValid z sh ss → AllFaithful z (works_of pitch sh ss)
  all_faithful [] v = tt
  all_faithful (s ∷ ss) v = (faithful s v.0, all_faithful ss v.1)
