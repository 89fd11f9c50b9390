-- Plain moves: no castling, no en passant, and no double step that en passant might capture.
use Rattle.chess_threats.proofs.Chess.{AreCapturers, Black, Colour, IsMereMove, IsUncontested, IsPlainMove, King, Man, Move, None, Pawn, Position, White, and_left, and_parts, and_right, arith, bit_and, bit_at, bit_not, bit_or, capture_of_piece, capture_square, cond-false, cond-true, false, false_by, false≢true, halfway, is_advance, is_castling, is_man, is_of_colour, is_square, king_is_no_pawn, leaps, list_any, man_on, may_arrive, no_capture, no_pawn_arrives, off_left, off_right, or_cases, other, pawn_steps_to, pawn_is_no_king, queen_steps, refl, rules, same_colour-refl, same_kind, same_kind-true, side_of, squares_of, sym, true, w64, word, word_has, ℕ, ◌<◌, ◌==◌, ◌^◌, ◌∙◌, ◌≡◌}
use Rattle.chess_attacks.proofs.rays.Tables.{king_step_is_no_castling}
use Rattle.chess_flights.proofs.Approaches.{far_is_vacant, goes_over_next, no_far_step, steps_from_there, takes_or_steps}
use Rattle.chess_flights.proofs.Bitboards.{on_denied}
use Rattle.chess_flights.proofs.KindByKind.{man_is}
use Rattle.chess_flights.proofs.Bitboards.{on_both, none_at}
use Rattle.chess_flights.proofs.Promotions.{last_rank_on}
use Rattle.chess_flights.proofs.Standing.{captured_there}

module _ (p : Position) (x : Man) (m : Move) (from : m.from < 64) (to : m.to < 64) where
  -- a pawn, by the words of the squares ahead of it and of those a step away
  module _ (a n : ℕ) (ahead : a ≡ word (is_advance x.colour m.from)) (near : n ≡ word (λ t. list_any (leaps m.from t) queen_steps)) where
    -- for a pawn that goes a step
    pub steps_uncontested : n < 2 ^ 64 → (bit_at (bit_not w64 n) m.to == 1) ≡ false → IsUncontested p x m
    steps_uncontested fits off =
        let step = word_has (λ t. list_any (leaps m.from t) queen_steps) n m.to near to in
        record { freely = λ double. grind (arith, no_far_step m.from m.to from to, step, on_denied n m.to fits to off) }

    -- for a pawn that will have no pawn beside it
    pub goes_uncontested : (w l : ℕ) → may_arrive p x m.from m.to ≡ true → AreCapturers (other x.colour) (bit_and a n) w
        → l ≡ squares_of p.men (other x.colour) Pawn → bit_and w l ≡ 0 → IsUncontested p x m
    unfolding squares_of
    goes_uncontested w l goes before pawns none = record {
      freely = λ double q s z small low here enemy pawn. false_by (may_arrive q z s (halfway m)) (λ comes.
          let both = and_parts _ _ double in
          let pawn_x = rw (← man_is x x.colour Pawn refl (same_kind-true x.kind Pawn both.0)) at goes in
          let over = goes_over_next p x.colour m.from m.to from to pawn_x both.1 in
          let there = on_both a n (halfway m) (word_has (is_advance x.colour m.from) a (halfway m) ahead low ∙ over.0)
          (word_has (λ t. list_any (leaps m.from t) queen_steps) n (halfway m) near low ∙ over.1) in
          let kind : z.kind ≡ Pawn = same_kind-true z.kind Pawn pawn in
          let stands = word_has (λ t. is_man (man_on p.men t) (other x.colour) Pawn) l s pawns small in
          let at = steps_from_there p x.colour m.from m.to from to pawn_x both.1 s small low in
          let vacant = far_is_vacant p x.colour m.from m.to from to pawn_x both.1 in
          let goes = takes_or_steps q (other x.colour) s (halfway m) (rw (← man_is z (other x.colour) Pawn enemy kind) at comes) in
          grind (arith, before.capture s (halfway m) small low, same_colour-refl (other x.colour), none_at (bit_and w l) s none, on_both w l s, at, or_cases));
    }

  -- where the man captures nobody, and isn't promoted
  module _ (a b : ℕ) (white : a ≡ side_of p.men White) (black : b ≡ side_of p.men Black) where
    nobody_on : (bit_at (bit_or a b) m.to == 1) ≡ false → man_on p.men m.to ≡ None
    unfolding side_of
    nobody_on off =
        let side = λ (c : Colour). word_has (λ s. is_of_colour (man_on p.men s) c) in
        grind (arith, off_left a b m.to off, off_right a b m.to off, side White a m.to white to, side Black b m.to black to)

    -- for a piece
    pub piece_mere : same_kind x.kind Pawn ≡ false → (bit_at (bit_or a b) m.to == 1) ≡ false → IsMereMove p x m
    piece_mere piece off = search (rules, no_capture, nobody_on, and_left, no_pawn_arrives, false≢true)

    -- for a pawn
    pub pawn_mere : (o : ℕ) → o ≡ word (is_square p.crossed) → may_arrive p x m.from m.to ≡ true → same_kind x.kind Pawn ≡ true
        → (bit_at (bit_or (bit_or (bit_or a b) o) 18374686479671623935) m.to == 1) ≡ false → IsMereMove p x m
    unfolding may_arrive capture_square
    pawn_mere o crossed goes pawn off =
        let men = off_left (bit_or (bit_or a b) o) 18374686479671623935 m.to off in
        let none = nobody_on (off_left (bit_or a b) o m.to men) in
        let uncrossed : is_square p.crossed m.to ≡ false = sym (word_has (is_square p.crossed) o m.to crossed to) ∙ off_right (bit_or a b) o m.to men in
        record {
          captures = rw (none, uncrossed) (cond-false _ _ _ (and_right _ _ refl));
          unpromoted = search (rules, false_by, and_parts, off_right (bit_or (bit_or a b) o) 18374686479671623935 m.to off, last_rank_on, false≢true);
          file = λ is. grind (arith, none, uncrossed, goes, pawn_steps_to p x (record { from = m.from; to = m.to; promo = None }), cond-true);
        }

  -- for the squares to which each kind goes plainly
  pub pawn_plain : (o : ℕ) → o ≡ word (is_square p.crossed) → same_kind x.kind Pawn ≡ true → (bit_at o m.to == 1) ≡ false → IsUncontested p x m → IsPlainMove p x m
  pawn_plain o crossed pawn off uncontested = search (rules, and_left, pawn_is_no_king, captured_there, word_has)

  -- for a man that is neither pawn nor king
  pub man_plain : same_kind x.kind Pawn ≡ false → same_kind x.kind King ≡ false → IsPlainMove p x m
  man_plain piece mortal = search (rules, capture_of_piece, and_parts, and_left, false≢true)

  -- for a king that goes a step
  pub king_plain : (n : ℕ) → n ≡ word (λ t. list_any (leaps m.from t) queen_steps) → n < 2 ^ 64 → same_kind x.kind King ≡ true
      → (bit_at (bit_not w64 n) m.to == 1) ≡ false → IsPlainMove p x m
  king_plain n near fits king off =
      let steps = word_has (λ t. list_any (leaps m.from t) queen_steps) n m.to near to in
      let still : is_castling x m ≡ false = grind (arith, steps, on_denied n m.to fits to off, king_step_is_no_castling m.from m.to from to) in
      search (rules, capture_of_piece, and_parts, king_is_no_pawn, false≢true)
