-- The king's legal steps, from the squares that its attackers reach.
use Rattle.chess_threats.proofs.Chess.{AreReached, Attackers, Grasshopper, IfSome, IsAttackedOver, IsNear, IsKingAttack, IsKingAttackOf, IsWellFormed, IsWhole, Man, Move, None, Option, Position, RuleSet, KingAttack, Some, and_from, and_parts, ap, arith, arrived, bit_and, bit_at, bit_not, capture_of_piece, capture_square, captures_are_reborn, cases_Bool, like_men_paralyse, false, false_by, false_from_ne_true, false≢true, inl, inr, is_arrival, is_arrival_free, is_attacked, is_hopper, is_legal, is_open, may_be_made, leaps, list_any, made, man_on, men_on, no_pawn_arrives, not, on_first, other, queen_steps, reached_over, reaches_as, refl, rules, same_kind, same_kind-true, sym, true, true_from_ne_false, w64, word, word_has, ℕ, ◌<◌, ◌==◌, ◌^◌, ◌∙◌, ◌≡◌, ◌≢◌}
use Rattle.chess_flights.proofs.Fleeing.{IsKingOn, IsKingStep, king_on, may_step, step_is, step_to}
use Rattle.chess_flights.proofs.Bitboards.{off_denied, denied_on, none_at}
use Rattle.chess_flights.proofs.Standing.{and_left_king, no_hopper, unfree, unnamed}
use Rattle.chess_rules.specs.ties.Counting.{AreExact}
use Rattle.chess_threats.specs.ties.KingAttack.{AreExactSteps, AreUnhopping, IsPlainStep}
use Rattle.chess_rules.specs.ties.Targets.{AreCandidates}
use Rattle.chess_core.specs.Steps.{gait_of}
use Rattle.chess_threats.proofs.Barring.{attacked_there, hurdle_is, safe_there}

-- no grasshopper is among the men of an empty word
pub none_hops : (a : Attackers) → a.squares.grasshoppers ≡ 0 → AreUnhopping a
none_hops a none = record {
  plain = λ s x i.
      let kind = same_kind-true x.kind Grasshopper in
      grind (arith, no_hopper, cases_Bool (same_kind x.kind Grasshopper), kind, none_at a.squares.grasshoppers s none, i.on);
}

-- for `plain_squares`, where captured men are reborn: a square next to the king without a hurdle
pub empty_step : (rule : RuleSet) (v : KingAttack) (n t : ℕ) → v.hurdles < 2 ^ 64 → n ≡ word (λ t. list_any (leaps v.king t) queen_steps) → t < 64
    → (bit_at (bit_and n (bit_not w64 v.hurdles)) t == 1) ≡ true → IsPlainStep rule v t
empty_step rule v n t fits near small on = search (rules, word_has, on_first, off_denied)

-- for `exact_steps`: of the squares those that aren't reached
pub unreached_are : (rule : RuleSet) (v : KingAttack) (squares n r : ℕ) → like_men_paralyse rule ≡ false → AreUnhopping v.men → n < 2 ^ 64 → r < 2 ^ 64
    → ((t : ℕ) → t < 64 → (bit_at n t == 1) ≡ true → IsPlainStep rule v t) → bit_and squares (bit_not w64 n) ≡ 0
    → AreReached v.hurdles v.men squares (λ k. not (is_hopper (gait_of k))) r
    → ((t : ℕ) → t < 64 → (bit_at r t == 1) ≡ true → IsAttackedOver v.hurdles v.men t) → AreExactSteps rule v squares (bit_and squares (bit_not w64 r))
unfolding reached_over
unreached_are rule v squares n r able unhopping fits_n fits_r plain none all alone = record {
  able = able;
  plain = λ t small on. plain t small (true_from_ne_false _ (λ off. none_at _ t none (denied_on squares n t fits_n small on off)));
  inside = λ t small on. on_first squares _ t on;
  safe = λ t small on s x a. false_by _ (λ h.
      let near : IsNear x s squares = record { square = t; small = small; on = on_first squares _ t on; men = men_on v.hurdles; reaches = h } in
      false≢true (sym (off_denied squares r t fits_r small on) ∙ (all.reach s x a (ap not (unhopping.plain s x a)) near).inside t small h));
  barred = λ t small on off. alone t small (true_from_ne_false _ (λ away. false≢true (sym off ∙ denied_on squares r t fits_r small on away)));
}

module _ (rule : RuleSet) (p : Position) (v : KingAttack) (squares w : ℕ) (well : IsWellFormed p) (king_attack : IsKingAttack v) (whole : IsWhole v) (fits : IsKingAttackOf rule p v)
    (are : AreCandidates rule p (is_legal rule p) v.king squares) (i : AreExactSteps rule v squares w) where
  abbrev x : Man
  x = (king_on p.men p.turn v.king (sym fits.king)).0

  king : IsKingOn p.men p.turn v.king x
  king = (king_on p.men p.turn v.king (sym fits.king)).1

  module _ (t : ℕ) (small : t < 64) (on : (bit_at squares t == 1) ≡ true) where
    abbrev m : Move
    m = step_to v.king t

    plain : IsPlainStep rule v t
    plain = i.plain t small on

    may_here : is_arrival rule p v.king t ≡ true
    may_here = are.inside t small on

    free : is_arrival_free p.turn (man_on p.men t) ≡ true
    unfolding is_arrival
    free = grind (arith, may_here, king.here, and_parts)

    apart : t ≢ v.king
    apart e = unfree p.turn (man_on p.men t) free (grind (arith, king.here, king.mine))

    captures : (s : ℕ) → capture_square p x m ≡ Some s → s ≡ t
    captures s = capture_of_piece p x m s (and_left_king x king.king)

    step : IsKingStep rule p x v.king t
    unfolding is_open reaches_as
    step = record {
      well_formed = well;
      here = king.here;
      mine = king.mine;
      king = king.king;
      small = small;
      near =
          grind (arith, plain.near, free, and_from, cases_Bool (captures_are_reborn rule), plain.empty, hurdle_is rule p v king_attack whole fits t small apart);
    }

    legal_is : is_legal rule p m ≡ not (is_attacked rule (arrived p x m) t (other p.turn))
    legal_is = step_is rule p x v.king t step

  -- the computed steps are exactly the legal ones
  pub are_exact : AreExact rule p v.king w
  are_exact = record {
    candidates = record {
      inside = λ t small on. are.inside t small (i.inside t small on);
      outside = λ n from small off. elim (cases_Bool (bit_at squares n.to == 1)) [
        | inr none ↦ are.outside n from small none
        | inl on ↦ false_from_ne_true _ (λ legal.
            let is = made rule p n x (may_be_made rule p n legal) (ap (man_on p.men) from ∙ king.here) in
            let promo : n.promo ≡ None = unnamed p x n n.promo (no_pawn_arrives x n.to (and_left_king x king.king)) is.promotion in
            let same : step_to v.king n.to ≡ n = rw (from, promo) refl in
            let attacked = attacked_there rule p (step_to v.king n.to) x v well (may_step rule p x v.king n.to (step n.to small on)) king.here small
            (captures n.to small on) refl king_attack whole fits i.able (i.barred n.to small on off) in
            false≢true (sym (ap not attacked) ∙ sym (legal_is n.to small on) ∙ ap (is_legal rule p) same ∙ legal))
      ];
    };
    legal = record {
      man = x;
      here = king.here;
      unpromoted = λ t small on. no_pawn_arrives x t (and_left_king x king.king);
      to = λ t small on. let inside = i.inside t small on in
          legal_is t small inside ∙ ap not (safe_there rule p (step_to v.king t) x v well (may_step rule p x v.king t (step t small inside)) king.here small
          (captures t small inside) refl king_attack whole fits (i.safe t small on));
    };
  }

-- for `legal_squares` of filters
pub known_exactly : (rule : RuleSet) (p : Position) (v : KingAttack) (s squares : ℕ) (o : Option ℕ) → IsWellFormed p → IsKingAttackOf rule p v → IsKingAttack v
    → IsWhole v
    → v.king ≡ s → AreCandidates rule p (is_legal rule p) s squares → IfSome o (λ w. AreExactSteps rule v squares w) → IfSome o (λ w. AreExact rule p s w)
known_exactly rule p v s squares None well of king_attack whole at are steps = steps
known_exactly rule p v s squares (Some w) well of king_attack whole at are steps = rw (← at) (are_exact rule p v squares w well king_attack whole of (rw at are) steps)
