-- A mip's list as the ranges of layers that it still owes, and what a new one is.
use Rattle.std.specs.Prelude.{◌≡◌, ℕ, ◌<◌, ◌≤◌, List, Some, None, Option}
use Rattle.range_list.specs.Ranges.{whole}
use Rattle.init_tracker.specs.Books.{held}
use Rattle.init_tracker.specs.declared.layer.LayerInitTracker.{LayerInitTracker}

-- the ranges of layers that are uninitialized
abbrev pub owing_layers : LayerInitTracker → List (ℕ × ℕ)
owing_layers t = held t.book

-- a list of n layers owes them all; there is none exactly where n is more than 64
abbrev pub NewLayers : ℕ → Option LayerInitTracker → Type 0
NewLayers n None = 64 < n
NewLayers n (Some t) = (n ≤ 64) × (t.book.size ≡ n) × (owing_layers t ≡ whole n)
