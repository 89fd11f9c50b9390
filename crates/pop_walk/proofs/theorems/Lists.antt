-- Lists of moves: whether they can be played from a position, and their lexicographic order by an order of
-- the moves.
use Rattle.pop_walk.proofs.Words.{Contains, Game, List, [], ap, arith, flat_map, inl, inr, refl, sym, ◌++◌, ◌∷◌, ◌≡◌, ◌≢◌, ◌⊎◌}

module _ {P M : Type 0} (game : Game P M) where
  -- The list can be played from p: each move is one of the moves in its position.
  abbrev pub IsPlayable : P → List M → Type 0
  IsPlayable p [] = Unit {0}
  IsPlayable p (m ∷ line) = Contains (game.moves p) m × IsPlayable (game.after p m) line

module _ {M : Type 0} where
  -- All paths of solutions, one solution after another.
  abbrev pub paths : List (List (List M)) → List (List M)
  paths solutions = flat_map (λ solution. solution) solutions

  -- Each beginning of a path, of one move or more, is a path too: no node comes without the nodes above it.
  abbrev pub HasBeginnings : List (List M) → Type 0
  HasBeginnings paths = (x : M) (xs ys : List M) → Contains paths ((x ∷ xs) ++ ys) → Contains paths (x ∷ xs)

module _ {M : Type 0} (before : M → M → Type 0) where
  -- xs comes before ys: it is a beginning of ys, or at their first difference its move comes first.
  abbrev pub StandsBefore : List M → List M → Type 0
  StandsBefore [] [] = ⊥
  StandsBefore [] (n ∷ ys) = Unit {0}
  StandsBefore (m ∷ xs) [] = ⊥
  StandsBefore (m ∷ xs) (n ∷ ys) = before m n ⊎ ((m ≡ n) × StandsBefore xs ys)

  -- A list comes before each longer list that begins with it.
  pub beginning_first : (xs : List M) (y : M) (ys : List M) → StandsBefore xs (xs ++ y ∷ ys)
  beginning_first [] y ys = tt
  beginning_first (x ∷ xs) y ys = inr (refl, beginning_first xs y ys)

  -- The first of two different lists is the one whose move at the first difference comes first.
  pub difference_decides : (front : List M) (m n : M) (xs ys : List M) → before m n → StandsBefore (front ++ m ∷ xs) (front ++ n ∷ ys)
  difference_decides [] m n xs ys less = inl less
  difference_decides (x ∷ front) m n xs ys less = inr (refl, difference_decides front m n xs ys less)

  -- There is no other way to come before a list.
  pub ways_to_stand_before : (xs ys : List M) → StandsBefore xs ys → ((y : M) × (zs : List M) × (ys ≡ xs ++ y ∷ zs)) ⊎ ((front : List M) × (m : M) × (n : M)
      × (us : List M) × (vs : List M) × (xs ≡ front ++ m ∷ us) × (ys ≡ front ++ n ∷ vs) × before m n)
  ways_to_stand_before [] ys b = grind arith
  ways_to_stand_before (x ∷ xs) [] b = absurd b
  ways_to_stand_before (x ∷ xs) (y ∷ ys) (inl less) = inr ([], x, y, xs, ys, refl, refl, less)
  ways_to_stand_before (x ∷ xs) (y ∷ ys) (inr (same, b)) = elim (ways_to_stand_before xs ys b) [
    | inl w ↦ inl (w.0, w.1, λ i. sym same i ∷ w.2 i)
    | inr w ↦ inr (x ∷ w.0, w.1, w.2, w.3, w.4, ap (λ l. x ∷ l) w.5, (λ i. sym same i ∷ w.6 i), w.7)
  ]

  -- A list that comes after another and doesn't begin with it comes after every list that does: a node and
  -- all nodes below it come before its next sibling.
  pub all_below_first : (xs ys zs : List M) → StandsBefore xs zs → ((ws : List M) → zs ≡ xs ++ ws → ⊥) → StandsBefore (xs ++ ys) zs
  all_below_first [] ys zs b apart = absurd (apart zs refl)
  all_below_first (x ∷ xs) ys zs b apart = grind (arith, all_below_first xs ys)

  -- If no move comes before itself, no list does.
  pub never_before_itself : ((m : M) → before m m → ⊥) → (xs ys : List M) → StandsBefore xs ys → xs ≢ ys
  never_before_itself strict [] xs b e = grind arith
  never_before_itself strict (x ∷ xs) ys b e = grind (arith, never_before_itself strict xs, strict)
