-- A book's ranges, seen through the range list that stands over its places.
use Rattle.std.proofs.Common.{◌≡◌, ℕ, ◌≤◌, ltb, List, length, take, Ok, Err, ◌∙◌, subst, arith}
use mathlib.Core.Logic.{∥∥₁_prop}
use native.Mathlib.Bridge.{le_prop}
use native.Mathlib.Nat.{ℕ_set}
use Rattle.std.proofs.lemmas.Bool.{cond-false, le-ltb}
use Rattle.std.proofs.lemmas.List.{length-map, length-take-le}
use Rattle.fault.specs.declared.refusal.Refusal.TheVariants.{PlacesFull}
use Rattle.range_list.specs.declared.span.Span.{Span}
use Rattle.range_list.specs.Ranges.{Sound, added, drained}
use Rattle.range_list.specs.View.{ends, all_ends}
use Rattle.range_list.proofs.Laws.{few_ranges, sound_held, sound_drained}
use Rattle.range_list.proofs.Points.{sound_added}
use Rattle.init_tracker.specs.Layers.{owing_layers}
use Rattle.init_tracker.specs.declared.layer.LayerInitTracker.{LayerInitTracker}
use Rattle.init_tracker.specs.Books.{held, owing, fitting}
use Rattle.init_tracker.specs.declared.book.Book.{Book}

-- a book keeps its ranges apart and within its size, and has at most as many of them as places
pub held_sound : {I : Type 0} {N : ℕ} {g : _} (b : Book I N g) → Sound (g.position b.size) (held b)
held_sound {g = g} b = sound_held (g.position b.size) (held b) b.sound

pub held_count : {I : Type 0} {N : ℕ} {g : _} (b : Book I N g) → length (held b) ≡ b.len
held_count {g = g} b = length-map (take b.len b.places) (ends g.position) ∙ length-take-le b.len b.places (omega (arith, b.full, b.fits))

pub held_few : {I : Type 0} {N : ℕ} {g : _} (b : Book I N g) → length (held b) ≤ N
held_few b = omega (arith, held_count b, b.fits)

pub owing_few : {g : _} (b : Book ℕ 64 g) → length (owing b) ≤ 64
owing_few b = held_few b

-- two books with the same places, count and size are the same book
module _ {I : Type 0} {N : ℕ} {g : _} (b : Book I N g) where
  abbrev made : (ps : List (Span I)) (n : ℕ) (s : I) → length ps ≡ N → n ≤ N → ∥ Sound (g.position s) (all_ends g.position (take n ps)) ∥₁ → Book I N g
  made ps n s a l h = record { places = ps; len = n; size = s; full = a; fits = l; sound = h }

  abbrev Same : List (Span I) → ℕ → I → Type 0
  Same ps n s = (a : length ps ≡ N) (l : n ≤ N) (h : ∥ Sound (g.position s) (all_ends g.position (take n ps)) ∥₁) → b ≡ made ps n s a l h

  same_facts : Same b.places b.len b.size
  same_facts a l h = λ i. made b.places b.len b.size (ℕ_set _ _ b.full a i) (le_prop b.fits l i) (∥∥₁_prop b.sound h i)

  pub book_same : (d : Book I N g) → b.places ≡ d.places → b.len ≡ d.len → b.size ≡ d.size → b ≡ d
  book_same d p n s =
      subst (λ m. Same d.places d.len m) s (subst (λ m. Same d.places m b.size) n (subst (λ ps. Same ps b.len b.size) p same_facts))
      d.full d.fits d.sound

-- a drain or a discard of a book of at most 64 layers is never short of 32 places
never_short : (n : ℕ) (ss : List (ℕ × ℕ)) → n ≤ 64 → Sound n ss → fitting 32 ss ≡ Ok tt
never_short n ss le h =
    let few = few_ranges n ss h in
    cond-false (ltb 32 (length ss)) (Err PlacesFull) (Ok tt) (le-ltb 32 (length ss) (omega arith))

module _ (t : LayerInitTracker) where
  pub drain_fits : (a b : ℕ) → fitting 32 (drained a b (owing_layers t)) ≡ Ok tt
  drain_fits a b = never_short t.book.size _ t.few (sound_drained a b t.book.size (owing_layers t) (held_sound t.book))

  pub discard_fits : (a : ℕ) → fitting 32 (added a t.book.size (owing_layers t)) ≡ Ok tt
  discard_fits a = never_short t.book.size _ t.few (sound_added a t.book.size (owing_layers t) (held_sound t.book))
