-- Legal moves of men other than the king.
use Rattle.chess_rules.proofs.Chess.{AreCandidates, AreOrigins, IsAimed, IsWellFormed, King, Move, Position, RuleSet, and_left, and_right, arith, bit_and, bit_at, bit_not, cases_Bool, filter, is_legal, is_nil, is_of_others, is_legal_and, moves, not, rules, squares_not, squares_of, true, w64, word_has, ℕ, ◌==◌, ◌≡◌, Option, MatchOption, List, [], ◌∷◌, is_some, met_after, None, Some}
use Rattle.chess_rules.proofs.Places.{moves_after-start}
use Rattle.chess_rules.proofs.Filtering.{kept_after}
use Rattle.chess_rules.proofs.Walks.{off_second}
use Rattle.chess_attacks.proofs.rays.OnSquares.{on_board}

module _ (rule : RuleSet) (p : Position) where
  -- the king's square left out
  pub other_origins : (o k : ℕ) → AreOrigins (is_legal rule p) o → k ≡ squares_of p.men p.turn King
      → AreOrigins (is_legal_and rule p (is_of_others p)) (bit_and o (bit_not w64 k))
  unfolding squares_of
  other_origins o k own kings = search (rules, cases_Bool, and_right, word_has, squares_not, off_second, and_left)

  -- candidates for all legal moves are candidates for the moves of other men
  pub other_candidates : (s w : ℕ) → AreCandidates rule p (is_legal rule p) s w → AreCandidates rule p (is_legal_and rule p (is_of_others p)) s w
  other_candidates s w are = search (rules, and_left)

  -- a legal move is another man's exactly where it starts off the king's square
  pub is_other : (m : Move) (k s : ℕ) → IsWellFormed p → IsAimed rule p m → k ≡ squares_of p.men p.turn King → s ≡ m.from → true ≡ is_legal rule p m
      → not (bit_at k s == 1) ≡ is_legal_and rule p (is_of_others p) m
  unfolding squares_of
  is_other m k s well aimed kings at h = search (rules, word_has, on_board)

  -- the first move that is found shows whether there is one
  pub others_found : (found : Option Move) (later : List Move)
      → MatchOption found (met_after (is_legal_and rule p (is_of_others p)) 0 ≡ [])
      (λ m. met_after (is_legal_and rule p (is_of_others p)) 0 ≡ m ∷ later)
      → is_some found ≡ not (is_nil (filter (is_of_others p) (moves rule p)))
  others_found None later none = grind (arith, none, moves_after-start rule p, kept_after rule p (is_of_others p) 0)
  others_found (Some m) later some = grind (arith, some, moves_after-start rule p, kept_after rule p (is_of_others p) 0)
