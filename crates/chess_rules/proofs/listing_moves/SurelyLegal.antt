-- Moves that are legal without a test of each.
use Rattle.chess_rules.proofs.Chess.{AreCandidates, AreLegal, Bool, IsAimed, IsWellFormed, King, Man, Move, None, Pawn, Position, RuleSet, Some, and_from, and_left, arith, bit_and, bit_at, bit_or, cannot_expose, captures_are_reborn, eqb-true, false, if◌then◌else◌, is_legal, is_plain, is_promoting, is_some, is_square, is_untested, joined, last_rank, man_on, may_expose, may_be_hurdle, or_parts, rank_of, refl, rules, same_kind, squares_same, sym, true, word, word_empty, word_has, ℕ, ◌&&◌, ◌<◌, ◌==◌, ◌∙◌, ◌≡◌}
use Rattle.chess_rules.proofs.Blocking.{cannot_expose_own}
use Rattle.chess_rules.proofs.Arrivals.{aimed_plain, goes_on, may_go_aimed}
use Rattle.chess_rules.proofs.Targeting.{no_pawn_arrives}
use Rattle.chess_rules.proofs.Walks.{off_second}
use Rattle.chess_attacks.proofs.Bits.{off_zero}

-- the king's fairy lines are among the squares from which a move may expose it
off_lines : (p : Position) (t : ℕ) → may_expose p.men p.turn t ≡ false → may_be_hurdle p.men p.turn t ≡ false
unfolding may_expose may_be_hurdle
off_lines p t off = search (rules, or_parts)

-- a move to a square that is sure changes nothing else, and uncovers no king
sure_unexposed : (rule : RuleSet) (p : Position) (x : Man) (m : Move) → man_on p.men m.from ≡ Some x → same_kind x.kind King ≡ false
    → may_expose p.men p.turn m.from ≡ false → is_untested rule p x m.to ≡ false → (cannot_expose rule p p.turn m ≡ true) × (is_promoting x m.to ≡ false)
unfolding cannot_expose is_plain is_untested
sure_unexposed rule p x m here piece from sure = search (rules, and_from, and_left, off_lines, or_parts)

-- each move to a sure square by a man that isn't the king and blocks no line to it is legal
pub surely_legal : (rule : RuleSet) (p : Position) (x : Man) (s w v u : ℕ) → IsWellFormed p → man_on p.men s ≡ Some x → s < 64
    → AreCandidates rule p (is_legal rule p) s w → same_kind x.kind King ≡ false → v ≡ word (may_expose p.men p.turn) → (bit_at v s == 1) ≡ false
    → u ≡ word (is_untested rule p x) → (bit_and w u == 0) ≡ true → AreLegal rule p s w
unfolding is_legal
surely_legal rule p x s w v u well here small are piece blockers unblocking unsure none =
    let zero : bit_and w u ≡ 0 = eqb-true (bit_and w u) 0 none in
    let parts = λ (t : ℕ) (lt : t < 64) (on : (bit_at w t == 1) ≡ true). sure_unexposed rule p x (record { from = s; to = t; promo = None }) here piece
    (sym (word_has (may_expose p.men p.turn) v s blockers small) ∙ unblocking)
    (sym (word_has (is_untested rule p x) u t unsure lt) ∙ off_second w u t (rw zero (off_zero t)) on) in
    record {
      man = x;
      here = here;
      unpromoted = λ t lt on. (parts t lt on).1;
      to = λ t lt on.
          let m : Move = record { from = s; to = t; promo = None } in
          let safe = parts t lt on in
          let aimed : IsAimed rule p m = record { man = x; here = here; arrival = are.inside t lt on; promotion = sym safe.1 } in
          grind (arith, goes_on rule p x m here, may_go_aimed rule p x m here, aimed_plain rule p m x aimed, cannot_expose_own rule p m well, and_from);
    }

reborn_word : (b : Bool) (test : ℕ → Bool) → (if b then word test else 0) ≡ word (λ t. b && test t)
reborn_word b test = search (rules, word_empty)

-- the word of the squares that aren't sure: the en passant square, those with men that may be reborn, a
-- pawn's last rank, and those from which a move may expose the king
pub unsure_word : (rule : RuleSet) (p : Position) (x : Man) (c r l v : ℕ) → c ≡ word (λ t. is_square p.crossed t)
    → r ≡ (if captures_are_reborn rule then word (λ t. is_some (man_on p.men t)) else 0) → l ≡ word (is_promoting x)
    → v ≡ word (may_expose p.men p.turn) → bit_or (bit_or (bit_or c r) l) v ≡ word (is_untested rule p x)
unfolding is_untested
unsure_word rule p x c r l v hc hr hl hv = joined _ _ _ _ (joined _ _ _ _ (joined _ _ _ _ hc (hr ∙ reborn_word _ _)) hl) hv

-- the squares on which a pawn is promoted
pub promoting_word : (x : Man) (n : ℕ) → same_kind x.kind Pawn ≡ true → n ≡ word (λ t. rank_of t == last_rank x.colour) → n ≡ word (is_promoting x)
promoting_word x n pawn h = h ∙ squares_same _ _ (λ t lt. rw pawn refl)

-- another man is promoted nowhere
pub promoting_none : (x : Man) → same_kind x.kind Pawn ≡ false → 0 ≡ word (is_promoting x)
promoting_none x none = word_empty (is_promoting x) (λ t lt. no_pawn_arrives x t none)

-- for the word of these squares
pub ruleset promotion_words = (promoting_none, promoting_word)
