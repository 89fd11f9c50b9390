-- What a man reaches on some board, it reaches on the empty one.
use Rattle.chess_reach.proofs.Chess.{Bishop, Colour, Grasshopper, King, Kind, List, Man, Nightrider, Option, Queen, Rook, Step, [], any_kept, arith, cases_lt, diagonal_steps, refl, guards, hops, is_occupied, is_vacant_at, knight_steps, or_left, or_right, queen_steps, reaches_as, rides, rules, straight_steps, true, ℕ, ◌||◌, ◌≡◌}
use Rattle.chess_attacks.proofs.rays.Ways.{hop-found, ride-found, ride-made}

module _ (men : List (Option Man)) where
  on_line : (o : Option ℕ) → (is_vacant_at men o || is_occupied men o) ≡ true → is_vacant_at [] o ≡ true
  on_line o h = grind arith

  ride_openly : (s t : ℕ) (st : Step) → rides men s t st ≡ true → rides [] s t st ≡ true
  ride_openly s t st h = search (rules, ride-found, on_line, or_left, ride-made)

  hop_openly : (s t : ℕ) (st : Step) → hops men s t st ≡ true → rides [] s t st ≡ true
  hop_openly s t st h = search (rules, cases_lt, hop-found, on_line, or_left, or_right, ride-made)

  -- what a man could capture on, it guards
  pub guards_reached : (c : Colour) (k : Kind) (s t : ℕ) → reaches_as men c k s t ≡ true → guards c k s t ≡ true
  unfolding reaches_as guards
  guards_reached c Queen s t h = any_kept (rides men s t) (rides [] s t) queen_steps (ride_openly s t) h
  guards_reached c Rook s t h = any_kept (rides men s t) (rides [] s t) straight_steps (ride_openly s t) h
  guards_reached c Bishop s t h = any_kept (rides men s t) (rides [] s t) diagonal_steps (ride_openly s t) h
  guards_reached c Grasshopper s t h = any_kept (hops men s t) (rides [] s t) queen_steps (hop_openly s t) h
  guards_reached c Nightrider s t h = any_kept (rides men s t) (rides [] s t) knight_steps (ride_openly s t) h
  guards_reached c k s t h = h

  -- a king reaches the same squares on all boards
  pub king_guards : (c : Colour) (s t : ℕ) → guards c King s t ≡ reaches_as men c King s t
  unfolding reaches_as guards
  king_guards c s t = refl
