-- A move that doesn't arrive where its man may give check gives none.
use Rattle.chess_mates.proofs.Chess.{AreCastlingTargets, AreCheckSquares, AreCheckTargets, CheckSquares, Colour, IsMade, IsWellFormed, King, Man, Move, Pawn, Position, Rook, RuleSet, Some, and_parts, ap, are_rebirths_quiet, arith, arrival_needed, bit_at, bit_or, cannot_expose, captures_are_reborn, cases_Bool, castling_steps, value_for, enemy, false, false_by, halfway, in_check, inl, inr, is_castling, is_pseudo_legal, may_be_made, is_some, is_square, is_two_files_aside, made, man_on, may_check_from, may_expose, may_arrive, may_go_aimed, may_be_hurdle, off_left, off_right, other, position_after, refl, rules, same_kind, steps_to, sym, true, word, word_has, ℕ, ◌+◌, ◌/◌, ◌<◌, ◌==◌, ◌∙◌, ◌≡◌, List, Option, rule_of_checks, is_promoting, arriving_man, arrived, other_twice, false≢true, Bool, Kind, along-is, bit_and, off_second, or_cases, ◌%◌, ◌*◌, ◌^◌, ◌⊎◌}
use Rattle.chess_rules.proofs.EvasionTargets.{plain_elsewhere}
use Rattle.chess_flights.proofs.CastlingChecks.{castling_gives_no_check}
use Rattle.chess_flights.proofs.Becoming.{becomes}
use Rattle.chess_flights.proofs.KingsApart.{kings_apart}
use Rattle.chess_mates.proofs.Promoting.{no_check_unreached}
use Rattle.chess_mates.proofs.Rebirths.{no_check_by_rebirth}
use Rattle.chess_flights.proofs.Standing.{not_mine_enemy, unnamed}
use Rattle.chess_mates.specs.ties.CheckSquares.{ArePromotionTargets}
use Rattle.chess_flights.proofs.Approaches.{bit_down, bit_up}
use Rattle.chess_flights.proofs.Promotions.{promotes_on}
use Rattle.chess_flights.specs.ties.Attackers.{is_promotion}
use Rattle.chess_core.specs.Position.{may_promote}

-- for the word of castlings that may give check
pub castling_targets_are : (v : CheckSquares) (s a : ℕ) → s < 64 → a ≡ word (is_two_files_aside s)
    → AreCastlingTargets v s (bit_and a (bit_or (v.kinds.rooks * 2 ^ 1 % 2 ^ 64) (v.kinds.rooks / 2 ^ 1)))
castling_targets_are v s a small are = record {
  elsewhere = λ t lt aside off.
      let both = off_second a _ t off (word_has (is_two_files_aside s) a t are lt ∙ aside) in
      let far : (t ≡ s + 2) ⊎ (s ≡ t + 2) = search (rules, along-is, or_cases) in
      grind (arith, far, bit_up v.kinds.rooks 1 t, bit_down v.kinds.rooks 1 t, off_left, off_right, both);
}

-- for `promotion_targets`: all squares of the last ranks
pub any_target : (rule : RuleSet) (p : Position) (v : CheckSquares) → ArePromotionTargets rule p v 18374686479671623935
any_target rule p v = record { elsewhere = λ x t small goes off. absurd (false≢true (sym off ∙ promotes_on x t small goes)) }

-- for `promotion_targets`: the squares that `CheckSquares` holds
pub target_known : (rule : RuleSet) (p : Position) (v : CheckSquares) (b : Bool) → ((k : Kind) → may_promote p k ≡ true → is_promotion b k ≡ true)
    → b ≡ false → captures_are_reborn rule ≡ false → ArePromotionTargets rule p v v.promotions
target_known rule p v b kinds none plain = record { elsewhere = λ x t small goes off. record { kinds = rw none at kinds; plain = plain; off = off } }

-- where captured men aren't reborn, the rule set of checks is the rule set of play
known_rule : (rule : RuleSet) (men : List (Option Man)) (e : Colour) → captures_are_reborn rule ≡ false → rule_of_checks rule men e ≡ rule
unfolding are_rebirths_quiet
known_rule rule men e plain = rw plain refl

-- off the words of the check squares, of the en passant square, of promotions or castlings, and of the men
-- where a rebirth may give check
module _ (rule : RuleSet) (p : Position) (x : Man) (s : CheckSquares) (f : ℕ) (well : IsWellFormed p) (here : man_on p.men f ≡ Some x)
    (checks : AreCheckSquares p.men (other p.turn) s) (inside : f < 64) (covered : (bit_at s.blocker_squares f == 1) ≡ false) (a b c d : ℕ)
    (checked_from : a ≡ value_for s.kinds x.kind) (crossed : b ≡ word (λ t. is_square p.crossed t))
    (promotes : same_kind x.kind Pawn ≡ true → ArePromotionTargets rule p s c) (castles : same_kind x.kind King ≡ true → AreCastlingTargets s f c)
    (reborn : are_rebirths_quiet rule p.men p.turn ≡ false → captures_are_reborn rule ≡ true → d ≡ word (λ t. is_some (man_on p.men t))) where
  module _ (m : Move) (at : m.from ≡ f) (small : m.to < 64) (may : is_pseudo_legal rule p m ≡ true)
      (apart : same_kind x.kind King ≡ true → may_check_from p.men (other p.turn) x m.to ≡ false)
      (off-lines : (bit_at (bit_or (bit_or (bit_or (bit_or a b) c) d) s.fairy_lines) m.to == 1) ≡ false) where
    -- off each of the words
    off : ((bit_at a m.to == 1) ≡ false) × ((bit_at b m.to == 1) ≡ false) × ((bit_at c m.to == 1) ≡ false) × ((bit_at d m.to == 1) ≡ false)
        × ((bit_at s.fairy_lines m.to == 1) ≡ false)
    off = search (rules, off_left, off_right)

    aside : may_be_hurdle p.men (other p.turn) m.to ≡ false
    aside = sym (word_has (may_be_hurdle p.men (other p.turn)) s.fairy_lines m.to checks.fairy_lines small) ∙ off.4

    is : IsMade rule p x m
    is = made rule p m x may (ap (man_on p.men) at ∙ here)

    origin_stays : may_expose p.men (other p.turn) m.from ≡ false
    origin_stays = rw at (sym (word_has (may_expose p.men (other p.turn)) s.blocker_squares f checks.blocker_squares inside) ∙ covered)

    -- a king that castles: the square halfway is none from which a rook gives check
    castled : is_castling x m ≡ true → in_check rule (position_after rule p m).men (other p.turn) ≡ false
    unfolding steps_to
    castled y =
        let king : same_kind x.kind King ≡ true = (and_parts _ _ (and_parts _ _ y).0).0 in
        let beside : is_two_files_aside f m.to ≡ true = grind (arith, castling_steps x m small y, at) in
        castling_gives_no_check rule p x m well is y (other p.turn) (not_mine_enemy x p.turn is.mine) origin_stays aside (apart king)
        (sym (word_has (may_check_from p.men (other p.turn) (enemy (other p.turn) Rook)) s.kinds.rooks (halfway m) (checks.kinds Rook refl) (omega arith))
        ∙ ap (λ n. bit_at s.kinds.rooks ((n + m.to) / 2) == 1) at ∙ (castles king).elsewhere m.to small beside off.2)

    -- a move other than castling exposes no king
    covered_still : is_castling x m ≡ false → cannot_expose (rule_of_checks rule p.men p.turn) p (other p.turn) m ≡ true
    unfolding cannot_expose
    covered_still n = grind (arith, plain_elsewhere, off, is.here, origin_stays, aside, cases_Bool (are_rebirths_quiet rule p.men p.turn), reborn)

    -- a pawn that promotes gives no check
    promoted : is_castling x m ≡ false → is_promoting x m.to ≡ true → in_check rule (position_after rule p m).men (other p.turn) ≡ false
    promoted n goes =
        let quiet = (promotes (and_parts _ _ goes).0).elsewhere x m.to small goes off.2 in
        no_check_unreached rule p x m well may is.here small (rw (known_rule rule p.men p.turn quiet.plain) at covered_still n) (λ k there.
        false_by _ (λ r. false≢true (sym quiet.off ∙ (checks.promotions k there).inside x (arriving_man x m.promo) m.to (arrived p x m)
        (is.mine ∙ sym (other_twice p.turn)) small goes (becomes false p x m m.promo is.promotion quiet.kinds) r)))

    no_check_elsewhere : in_check rule (position_after rule p m).men (other p.turn) ≡ false
    no_check_elsewhere = elim (cases_Bool (is_castling x m)) [
      | inl y ↦ castled y
      | inr n ↦ elim (cases_Bool (is_promoting x m.to)) [
        | inl goes ↦ promoted n goes
        | inr stays ↦ no_check_by_rebirth rule p x m s a well may is.here checks checked_from small off.0 apart
            (unnamed p x m m.promo stays is.promotion) (covered_still n)
      ]
    ]

  -- for a man that may give check, open a line, castle, capture en passant or cause a rebirth: each by its
  -- own word
  pub check_targets_some : AreCheckTargets rule p f (bit_or (bit_or (bit_or (bit_or a b) c) d) s.fairy_lines)
  check_targets_some = grind (arith, no_check_elsewhere, may_be_made, kings_apart)

-- a word that lacks only targets to which the man can't go
pub targets_lack : (rule : RuleSet) (p : Position) (x : Man) (f w v : ℕ) → man_on p.men f ≡ Some x → AreCheckTargets rule p f w
    → ((t : ℕ) → t < 64 → may_arrive p x f t ≡ true → (bit_at v t == 1) ≡ false → (bit_at w t == 1) ≡ false) → AreCheckTargets rule p f v
targets_lack rule p x f w v here are off = record {
  elsewhere = λ m at lt legal none. let may = may_be_made rule p m legal in grind (arith, arrival_needed rule p m lt may, may, may_go_aimed);
}
