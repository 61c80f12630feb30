-- What the definitions of the ranges mean, by the positions in a list, and their values at some lists.
use Rattle.std.specs.Prelude.{◌≡◌, ℕ, ◌+◌, ◌/◌, ◌<◌, ◌≤◌, true, not, ◌&&◌, ◌||◌, List, [], ◌∷◌, length, Some, None, ◌==◌}
use Rattle.range_list.specs.Ranges.{Sound, inside, member, covered, pieces, drained, discarded, added, checked, count, lengths, whole}

pub record RangeLaws : Type 0 where
  -- after a drain a position is in the list if it was before and is outside the query
  pub in_drained : (p lo hi : ℕ) (rs : List (ℕ × ℕ)) → member p (drained lo hi rs) ≡ (member p rs && not (inside lo hi p))
  -- the pieces are exactly the positions of the list inside the query
  pub in_pieces : (p lo hi : ℕ) (rs : List (ℕ × ℕ)) → member p (pieces lo hi rs) ≡ (member p rs && inside lo hi p)
  -- so no piece of a query is left after its drain
  pub none_left : (lo hi : ℕ) (rs : List (ℕ × ℕ)) → pieces lo hi (drained lo hi rs) ≡ []
  -- a discard adds that one position
  pub in_discarded : (p q n : ℕ) (rs : List (ℕ × ℕ)) → Sound n rs → member p (discarded q rs) ≡ (member p rs || p == q)
  -- a check covers every position of the list inside the query
  pub covers_checked : (p lo hi n : ℕ) (rs : List (ℕ × ℕ)) → Sound n rs → member p rs ≡ true → inside lo hi p ≡ true → covered p (checked lo hi rs) ≡ true
  -- and nothing outside the query
  pub within_checked : (p lo hi : ℕ) (rs : List (ℕ × ℕ)) → covered p (checked lo hi rs) ≡ true → inside lo hi p ≡ true
  -- the lengths of the pieces add up to the number of positions that a drain takes out
  pub total_pieces : (lo hi n : ℕ) (rs : List (ℕ × ℕ)) → Sound n rs → lengths (pieces lo hi rs) ≡ count (λ p. member p rs && inside lo hi p) n
  -- a new list is sound, and holds every position below its size
  pub keeps_whole : (n : ℕ) → Sound n (whole n)
  pub in_whole : (p n : ℕ) → member p (whole n) ≡ inside 0 n p
  -- each change keeps a list sound
  pub keeps_drained : (lo hi n : ℕ) (rs : List (ℕ × ℕ)) → Sound n rs → Sound n (drained lo hi rs)
  pub keeps_pieces : (lo hi n : ℕ) (rs : List (ℕ × ℕ)) → Sound n rs → Sound n (pieces lo hi rs)
  pub keeps_discarded : (p n : ℕ) (rs : List (ℕ × ℕ)) → p < n → Sound n rs → Sound n (discarded p rs)
  -- sound lists that hold the same positions are equal
  pub same_positions : (n : ℕ) (rs ss : List (ℕ × ℕ)) → Sound n rs → Sound n ss → ((p : ℕ) → member p rs ≡ member p ss) → rs ≡ ss
  -- a sound list within n has at most half of n ranges, rounded up
  pub few : (n : ℕ) (rs : List (ℕ × ℕ)) → Sound n rs → length rs ≤ (n + 1) / 2

pub record Trials : Type 0 where
  -- an empty query, inside a range and at its start
  pub empty : checked 5 5 ((0, 10) ∷ []) ≡ None
  pub empty_first : checked 0 0 ((0, 10) ∷ []) ≡ None
  -- a query that meets two ranges, and one that meets the first alone
  pub two : checked 2 9 ((0, 5) ∷ (7, 8) ∷ []) ≡ Some (2, 9)
  pub one : checked 2 7 ((0, 5) ∷ (7, 8) ∷ []) ≡ Some (2, 5)
  -- a drain that splits, and a discard that joins
  pub splits : drained 3 6 ((0, 10) ∷ []) ≡ (0, 3) ∷ (6, 10) ∷ []
  pub joins : added 3 6 ((0, 3) ∷ (4, 6) ∷ []) ≡ (0, 6) ∷ []
