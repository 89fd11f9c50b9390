-- The squares from which a move may give check, by kinds.
use Rattle.chess_mates.proofs.Chess.{AreCheckSquares, AreRides, Bishop, CheckSquares, Colour, IsWellFormed, King, List, Man, Move, None, Option, Position, Queen, Rook, RuleSet, Some, arith, bit_at, bit_or, cannot_expose, cannot_expose_parts, cases_Bool, value_for, diagonal-back, diagonal_steps, enemy, false, in_check, inl, is_pseudo_legal, king_square, king_there, list_any-append, made, man_on, may_check_from, on_board, or_parts, other, other_twice, plain_safe, position_after, reaches_as, same_kind, squares_either, squares_same, straight-back, straight_steps, true, word, word_has, ℕ, ◌<◌, ◌==◌, ◌∙◌, ◌≡◌}

-- a rook gives check from where it would get from the king's square
pub rook_squares : (men : List (Option Man)) (c : Colour) (k w : ℕ) → king_square men c ≡ Some k → w ≡ word (may_check_from men c (enemy c Rook))
    → AreRides men (other c) Rook straight_steps k w
unfolding may_check_from reaches_as
rook_squares men c k w at h = inl (h ∙ squares_same _ _ (λ t small. rw at (straight-back men t k small (king_there men c k at).0)))

-- a bishop checks from where it would get from the king
pub bishop_squares : (men : List (Option Man)) (c : Colour) (k w : ℕ) → king_square men c ≡ Some k → w ≡ word (may_check_from men c (enemy c Bishop))
    → AreRides men (other c) Bishop diagonal_steps k w
unfolding may_check_from reaches_as
bishop_squares men c k w at h = inl (h ∙ squares_same _ _ (λ t small. rw at (diagonal-back men t k small (king_there men c k at).0)))

-- a queen's squares are a rook's and a bishop's
pub queen_squares : (men : List (Option Man)) (c : Colour) (r b : ℕ) → r ≡ word (may_check_from men c (enemy c Rook))
    → b ≡ word (may_check_from men c (enemy c Bishop)) → bit_or r b ≡ word (may_check_from men c (enemy c Queen))
unfolding may_check_from reaches_as
queen_squares men c r b h i =
    grind (arith, squares_either (may_check_from men c (enemy c Rook)) (may_check_from men c (enemy c Bishop)), squares_same, list_any-append)

-- for moves that may uncover nothing, to a square off the words of check squares
pub no_check : (rule : RuleSet) (p : Position) (x : Man) (m : Move) (s : CheckSquares) (w : ℕ) → IsWellFormed p → is_pseudo_legal rule p m ≡ true
    → man_on p.men m.from ≡ Some x → AreCheckSquares p.men (other p.turn) s → w ≡ value_for s.kinds x.kind → m.to < 64 → (bit_at w m.to == 1) ≡ false
    → (same_kind x.kind King ≡ true → may_check_from p.men (other p.turn) x m.to ≡ false) → m.promo ≡ None → cannot_expose rule p (other p.turn) m ≡ true
    → in_check rule (position_after rule p m).men (other p.turn) ≡ false
unfolding may_check_from
no_check rule p x m s w well may here a h small off apart unpromoted cover =
    let parts = cannot_expose_parts rule p x (other p.turn) m here cover in
    let is = made rule p m x may here in
    let check = may_check_from p.men (other p.turn) x in
    let calm : check m.to ≡ false = grind (arith, cases_Bool, a.kinds x.kind, other_twice p.turn, word_has check w m.to) in
    plain_safe rule p x m (other p.turn) well is small parts.plain parts.origin parts.aside (grind (arith, calm, or_parts, on_board))
