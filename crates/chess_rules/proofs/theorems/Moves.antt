-- The moves of a position are exactly its legal moves, each once, in order; mate and stalemate in terms of
-- them.
use Rattle.chess_rules.proofs.Chess.{AllPairs, AllPairs-filter, Bool, Contains, IsWellFormed, Move, Position, RuleSet, Some, and_from, and_parts, arith, false, false_from_ne_true, in_check, is_legal, is_mate, is_nil, is_stalemate, moves, nat_lt, not-true, not_from_false, place_of, precedes, promotion_precedes, promotions, rules, sym, triples, true, true≢false, ℕ, ◌&&◌, ◌<◌, ◌==◌, ◌||◌, ◌↔◌, ◌∙◌, ◌≡◌, ◌≢◌, ◌⊎◌}
use Rattle.std.proofs.lemmas.Bool.Decides.{nat_tests}
use Rattle.chess_rules.proofs.LegalMoves.{may_be_made}
use Rattle.chess_rules.proofs.Places.{place_of_triple}
use Rattle.chess_rules.proofs.Members.{from_filter, in_filter, pairs_weaker}
use Rattle.chess_rules.proofs.TripleNumbers.{from_triples, in_triples, made_is_triple, numbered, triples_by_number, triples_rise, nil_where_nothing, nothing_in}

-- The move's origin and arrival are squares of the board, and its promotion is one of `promotions`.
abbrev pub IsTriple : Move → Type 0
IsTriple m = (m.from < 64) × (m.to < 64) × Contains promotions m.promo

-- m precedes n in the order of moves.
abbrev pub Precedes : Move → Move → Type 0
Precedes m n = precedes m n ≡ true

-- m precedes n exactly if its origin is lower; or the origins are equal and its arrival is lower; or both
-- are equal and its promotion comes before the other's.
pub precedes_by_parts : (m n : Move)
    → Precedes m n ↔ ((m.from < n.from) ⊎ ((m.from ≡ n.from) × ((m.to < n.to) ⊎ ((m.to ≡ n.to) × (promotion_precedes m.promo n.promo ≡ true)))))
precedes_by_parts m n = by_parts m.from n.from m.to n.to (promotion_precedes m.promo n.promo)
  where
    by_parts : (a x b y : ℕ) (last : Bool) → ((nat_lt a x || a == x && (nat_lt b y || b == y && last)) ≡ true)
        ↔ ((a < x) ⊎ ((a ≡ x) × ((b < y) ⊎ ((b ≡ y) × (last ≡ true)))))
    by_parts a x b y last = search (rules, nat_tests)

-- One triple precedes another exactly if its number is lower.
pub precedes_by_number : (m n : Move) → IsTriple m → IsTriple n → Precedes m n ↔ (place_of (Some m) < place_of (Some n))
precedes_by_number m n a b =
    let j = numbered m (in_triples m a.0 a.1 a.2) in
    let k = numbered n (in_triples n b.0 b.1 b.2) in
    rw (← j.2, ← k.2, place_of_triple j.0 j.1, place_of_triple k.0 k.1, triples_by_number j.0 k.0 j.1 k.1) (search (rules, nat_tests))

-- No move precedes itself.
pub never_precedes_itself : (m : Move) → Precedes m m → ⊥
never_precedes_itself m before = search (rules, nat_tests)

module _ (rule : RuleSet) (p : Position) where
  -- Each legal move of a well-formed position is a triple.
  pub legal_moves_are_triples : (m : Move) → IsWellFormed p → is_legal rule p m ≡ true → IsTriple m
  legal_moves_are_triples m well h = made_is_triple rule p m well.size (may_be_made rule p m h)

  -- In any position, a move is in `moves` exactly if it is a triple and legal.
  pub moves_are_the_legal_triples : (m : Move) → Contains (moves rule p) m ↔ (IsTriple m × (is_legal rule p m ≡ true))
  unfolding moves
  moves_are_the_legal_triples m = (
    λ c. let w = from_filter (is_legal rule p) triples m c in (from_triples m w.0, w.1),
    λ h. in_filter (is_legal rule p) triples m (in_triples m h.0.0 h.0.1 h.0.2) h.1,
  )

  -- In a well-formed position, a move is in `moves` exactly if it is legal.
  pub moves_are_the_legal_moves : (m : Move) → IsWellFormed p → Contains (moves rule p) m ↔ (is_legal rule p m ≡ true)
  moves_are_the_legal_moves m well = grind (arith, moves_are_the_legal_triples, legal_moves_are_triples)

  -- `moves` is sorted: each move precedes every later one.
  pub moves_in_order : AllPairs Precedes (moves rule p)
  unfolding moves
  moves_in_order = AllPairs-filter Precedes (is_legal rule p) triples triples_rise

  -- No two elements of `moves` are equal.
  pub moves_differ : AllPairs (λ m n. m ≢ n) (moves rule p)
  moves_differ = pairs_weaker Precedes (λ m n. m ≢ n) (moves rule p) (λ m n before same. never_precedes_itself n (rw same at before)) moves_in_order

  -- `moves` is empty exactly if no move is legal.
  pub no_moves_is : IsWellFormed p → (is_nil (moves rule p) ≡ true) ↔ ((m : Move) → is_legal rule p m ≡ false)
  no_moves_is well = (
    λ h m. false_from_ne_true (is_legal rule p m) (λ may. nothing_in (moves rule p) h m ((moves_are_the_legal_moves m well).1 may)),
    λ h. nil_where_nothing (moves rule p) (λ m c. true≢false (sym ((moves_are_the_legal_triples m).0 c).1 ∙ h m)),
  )

  -- Mate: the side to move is in check, and no move is legal.
  pub mate_is : IsWellFormed p → (is_mate rule p ≡ true) ↔ ((in_check rule p.men p.turn ≡ true) × ((m : Move) → is_legal rule p m ≡ false))
  unfolding is_mate
  mate_is well = grind (arith, and_parts, no_moves_is, and_from)

  -- Stalemate: the side to move isn't in check, and no move is legal.
  pub stalemate_is : IsWellFormed p → (is_stalemate rule p ≡ true) ↔ ((in_check rule p.men p.turn ≡ false) × ((m : Move) → is_legal rule p m ≡ false))
  unfolding is_stalemate
  stalemate_is well = grind (arith, and_parts, not-true, no_moves_is, and_from, not_from_false)
