-- Flights that one move can't take.
use Rattle.chess_threats.proofs.Chess.{AreAttackers, AreGuarded, AreNear, Attackers, Bishop, Colour, IfSome, IsAttacker, IsLeft, IsMade, IsWellFormed, KeepsOne, Kind, King, LeaveOne, Man, Move, Option, Pawn, Position, Rook, RuleSet, Some, [], after_well_formed, all_triples, and_parts, arith, arrival_needed, arrived, arriving_colour, arriving_man, bit_and, bit_at, bit_not, bit_or, captures_are_reborn, cases_Bool, castle_of, eq-eqb, eqb-true, every_square_on, false, false_by, false_from_ne_true, false≢true, find, find_first, inl, inr, is_arrival_free, is_castling, is_promoting, is_pseudo_legal, is_square, king_after, king_is_after, king_square, length, made, maker, man_on, mates, mates_after, may_go_aimed, off_left, off_right, off_zero, on_board, on_first, on_left, on_right, or_lt, other, other_twice, position_after, range_with_len, reaches_as, refl, rules, same_colour-refl, same_kind, same_kind-true, simple_after, subst, sym, triple_at, true, w64, word, word_has, ℕ, ◌<◌, ◌==◌, ◌^◌, ◌∙◌, ◌≡◌, ◌≢◌, ByKind, value_for, Bool}
use Rattle.chess_flights.proofs.Becoming.{becomes, counted_left, promotes_still}
use Rattle.chess_flights.proofs.KindByKind.{HoldsOf, man_is, of_all, of_kind}
use Rattle.chess_core.specs.Position.{may_promote}
use Rattle.chess_flights.specs.ties.Attackers.{is_promotion}
use Rattle.chess_threats.specs.declared.lasting_flights.OpenTargets.{OpenTargets}
use Rattle.chess_threats.specs.ties.LastingFlights.{AreKindTargets, AreOpenTargets, AreTargets, AreTargetsOf, LeavesOne}
use Rattle.chess_flights.specs.ties.Approaches.{counts_as}
use Rattle.chess_rules.proofs.OpenBoard.{piece_targets}
use Rattle.chess_attacks.specs.ties.Lines.{AreReached}
use Rattle.chess_rules.specs.ties.Targets.{may_arrive}
use Rattle.chess_flights.proofs.Promotions.{last_rank_on, promotes_on}
use Rattle.chess_flights.proofs.Bitboards.{off_denied, on_both}
use Rattle.chess_flights.proofs.Fleeing.{IsKingOn, king_waits, no_mate_with_flight, step_to}
use Rattle.chess_rules.proofs.Places.{met_after-end, met_after-none}
use Rattle.chess_flights.proofs.Mating.{not_mating, turn_after}
use Rattle.chess_flights.proofs.Standing.{arrival_small, has_one, not_mine, stood}

-- for words that are joined: the first has what it reached
pub reached_left : (x : Man) (s a b : ℕ) → AreReached x s a → AreReached x s (bit_or a b)
reached_left x s a b h = record { inside = λ men t small r. on_left a b t (h.inside men t small r) }

-- the second has
pub reached_right : (x : Man) (s a b : ℕ) → AreReached x s b → AreReached x s (bit_or a b)
reached_right x s a b h = record { inside = λ men t small r. on_right a b t (h.inside men t small r) }

-- targets stay targets in a larger word
pub targets_left : (x : Man) (s a b : ℕ) → AreTargets x s a → AreTargets x s (bit_or a b)
targets_left x s a b h = record { inside = λ p t small may. on_left a b t (h.inside p t small may) }

pub targets_right : (x : Man) (s a b : ℕ) → ((p : Position) (t : ℕ) → t < 64 → may_arrive p x s t ≡ true → (bit_at b t == 1) ≡ true)
    → AreTargets x s (bit_or a b)
targets_right x s a b h = record { inside = λ p t small may. on_right a b t (h p t small may) }

-- a promoted man counts as one to which a pawn promotes, and that counts as itself
counts_once : (b : Bool) (k : Kind) → is_promotion b k ≡ true → (counts_as (counts_as k) ≡ counts_as k) × (is_promotion b (counts_as k) ≡ true)
counts_once b Rook may = (refl, refl)
counts_once b Bishop may = (refl, refl)
counts_once b k may = (refl, may)

-- for `KindTargets`
module _ (a : Attackers) (p : ℕ) where
  -- a piece's are what it reaches
  pub reached_targets : (k : Kind) (r : ℕ) → same_kind k Pawn ≡ false → same_kind k King ≡ false
      → (counts_as k ≡ k → is_promotion a.fairy_promotions k ≡ false) → AreKindTargets a p k r r
  reached_targets k r piece mortal never = record {
    inside = λ reached s small on. record { inside = λ v t low may. piece_targets v _ s t r low may (reached s small on) piece mortal };
    promoted = λ same may. absurd (false≢true (sym (never same) ∙ may));
  }

  -- and the squares where a pawn promotes
  pub promoting_targets : (k : Kind) (r : ℕ) → same_kind k Pawn ≡ false → same_kind k King ≡ false
      → AreKindTargets a p k r (bit_or r (bit_and p 18374686479671623935))
  promoting_targets k r piece mortal = record {
    inside = λ reached s small on. record {
      inside = λ v t low may. on_left r _ t (piece_targets v _ s t r low may (reached s small on) piece mortal);
    };
    promoted = λ same may x t low goes on. on_right r _ t (on_both p 18374686479671623935 t on (promotes_on x t low goes));
  }

  -- for `all_open_targets`
  pub are_open_targets : (r o : ByKind ℕ) (w : ℕ) → ((k : Kind) → HoldsOf a (λ x s. AreReached x s (value_for r k)) k) → AreTargetsOf a Pawn p
      → ((k : Kind) → AreKindTargets a p k (value_for r k) (value_for o k))
      → ((k : Kind) (s : ℕ) → (bit_at (value_for r k) s == 1) ≡ true → (bit_at w s == 1) ≡ true) → AreOpenTargets a (record { squares = o; guarded = w })
  are_open_targets r o w reached advances each all = record {
    guards = record {
      guards = of_all a (λ x s. AreReached x s w) (λ k s small on. record { inside = λ men t low h. all k t ((reached k s small on).inside men t low h) });
    };
    targets = of_all a (λ x s. AreTargets x s (value_for o x.kind)) (λ k. (each k).inside (reached k));
    promoted = λ s x i. record {
      inside = λ v z t low may last become.
          let pawn = same_kind-true x.kind Pawn (and_parts _ _ last).0 in
          let goes = (of_kind a (λ x s. AreTargets x s p) Pawn s x advances i pawn).inside v t low may in
          let counted = counts_once a.fairy_promotions z.kind (become.promoted last) in
          (each (counts_as z.kind)).promoted counted.0 counted.1 x t low last goes;
    };
  }

-- for `unknown`: all squares
pub unknown_targets : (a : Attackers) (o : ByKind ℕ) (w : ℕ) → w ≡ bit_not w64 0 → ((k : Kind) → value_for o k ≡ w) → AreOpenTargets a (record { squares = o; guarded = w })
unknown_targets a o w all each =
    let on : (t : ℕ) → t < 64 → (bit_at w t == 1) ≡ true = search (rules, every_square_on, all) in
    record {
      guards = record { guards = λ s x i. record { inside = λ men t low r. on t low } };
      targets = λ s x i. record { inside = λ p t low may. rw (each x.kind) (on t low) };
      promoted = λ s x i. record { inside = λ p z t low may last become. rw (each (counts_as z.kind)) (on t low) };
    }

-- for targets off the last ranks: no pawn promotes there
pub no_last_rank : (x : Man) (w t : ℕ) → (bit_and w 18374686479671623935 == 0) ≡ true → t < 64 → (bit_at w t == 1) ≡ true → is_promoting x t ≡ false
no_last_rank x w t none small on =
    search (rules, false_by, false≢true, off_zero, eqb-true, on_both w 18374686479671623935 t, last_rank_on, and_parts)

-- for squares none of which is e1 or e8
pub off_homes : (w s : ℕ) → (bit_and w 1152921504606846992 == 0) ≡ true → (bit_at w s == 1) ≡ true → (s ≢ 4) × (s ≢ 60)
off_homes w s none on =
    let off = λ (t : ℕ) (both : (bit_at (bit_and w 1152921504606846992) t == 1) ≡ true). false≢true (sym (rw (eqb-true _ 0 none) (off_zero t)) ∙ both) in
    ((λ e. off 4 (on_both w 1152921504606846992 4 (rw e at on) refl)), (λ e. off 60 (on_both w 1152921504606846992 60 (rw e at on) refl)))

-- a square that is left
pub left_on : (squares r o t f : ℕ) (x : Man) → AreReached x t r → r < 2 ^ 64 → o < 2 ^ 64 → o ≡ word (λ q. is_square (Some t) q) → f < 64
    → (bit_at (bit_and squares (bit_not w64 (bit_or r o))) f == 1) ≡ true → IsLeft squares x t f
left_on squares r o t f x are rfits ofits only small here =
    search (rules, off_denied, or_lt, on_first, false≢true, off_right, word_has, eq-eqb, false_from_ne_true, off_left)

-- for `first_left`
pub left_first : (squares r o t : ℕ) (x : Man) → AreReached x t r → r < 2 ^ 64 → o < 2 ^ 64 → o ≡ word (λ q. is_square (Some t) q)
    → (found : Option ℕ) → found ≡ find (λ s. bit_at (bit_and squares (bit_not w64 (bit_or r o))) s == 1) (range_with_len 0 64)
    → IfSome found (λ f. IsLeft squares x t f)
left_first squares r o t x are rfits ofits only found e =
    grind (arith, left_on, find_first (λ s. bit_at (bit_and squares (bit_not w64 (bit_or r o))) s == 1) 0 64)

-- for `leave_one`: men that don't castle and leave one square wherever a kind's targets are
pub all_leave : (a : Attackers) (o : OpenTargets) (w : ℕ) → AreOpenTargets a o → ((s : ℕ) → (bit_at a.squares.kings s == 1) ≡ true → (s ≢ 4) × (s ≢ 60))
    → ((k : Kind) (t : ℕ) → t < 64 → (bit_at (value_for o.squares k) t == 1) ≡ true → (f : ℕ) × IsLeft w (record { colour = a.colour; kind = k }) t f)
    → LeaveOne a w
all_leave a o w are away each = record {
  leaves = λ s x i. record {
    left = λ p z t low may become. elim (cases_Bool (is_promoting x t)) [
      | inl last ↦
          let one = each (counts_as z.kind) t low ((are.promoted s x i).inside p z t low may last become) in
          let mine = sym (become.mine ∙ i.mine) in
          (one.0, counted_left w t one.0 z (subst (λ (c : Colour). IsLeft w (record { colour = c; kind = counts_as z.kind }) t one.0) mine one.1))
      | inr stays ↦
          let one = each x.kind t low ((are.targets s x i).inside p t low may) in
          (one.0, subst (λ (y : Man). IsLeft w y t one.0) (man_is z a.colour x.kind (become.mine ∙ i.mine) (become.same stays)) one.1)
    ];
    away = λ king. away s (rw (same_kind-true x.kind King king) at i.on);
  };
}

-- for `keeps_one`: the squares that nobody guards can't all be taken
pub keeps_one : (a : Attackers) (w g : ℕ) → g < 2 ^ 64 → AreGuarded a g → LeaveOne a (bit_and w (bit_not w64 g)) → KeepsOne a w
keeps_one a w g fits guards leave = search (rules, on_first, off_denied)

-- the king keeps a flight after its move and any reply
module _ (rule : RuleSet) (p : Position) (m : Move) (x : Man) (k w : ℕ) (well : IsWellFormed p) (may : is_pseudo_legal rule p m ≡ true)
    (here : man_on p.men m.from ≡ Some x) (circe : captures_are_reborn rule ≡ false) (plain : is_castling x m ≡ false) (small : m.to < 64)
    (king : king_after p x m ≡ Some k) (near : AreNear p m k w) (a : Attackers) (men : AreAttackers p.men a) (colour : a.colour ≡ other p.turn)
    (promotions : (j : Kind) → may_promote p j ≡ true → is_promotion a.fairy_promotions j ≡ true) (keeps : KeepsOne a w) where
  abbrev q : Position
  q = position_after rule p m

  men_q : q.men ≡ arrived p x m
  men_q = search (rules, simple_after, circe)

  turn_q : q.turn ≡ other p.turn
  turn_q = turn_after rule p m may

  well_q : IsWellFormed q
  well_q = after_well_formed rule p m well may

  -- an enemy stood there before
  enemy_stood : (s : ℕ) (v : Man) → man_on q.men s ≡ Some v → v.colour ≡ other p.turn → man_on p.men s ≡ Some v
  enemy_stood s v there enemy =
      grind (arith, stood p x m s v, men_q, small, well.size, not_mine v p.turn enemy, arriving_colour, made rule p m x may here, same_colour-refl)

  module _ (n : Move) (to : n.to < 64) (can : is_pseudo_legal rule q n ≡ true) (y : Man) (here_y : man_on q.men n.from ≡ Some y) where
    is_n : IsMade rule q y n
    is_n = made rule q n y can here_y

    leaves : LeavesOne a.fairy_promotions keeps.squares y n.from
    leaves = search (rules, keeps.leave.leaves, men.stand, on_board q.men, well_q.size, enemy_stood, is_n.mine ∙ turn_q, colour)

    left : (f : ℕ) × IsLeft keeps.squares (arriving_man y n.promo) n.to f
    left =
        leaves.left q (arriving_man y n.promo) n.to to (may_go_aimed rule q y n here_y (arrival_needed rule q n to can))
        (becomes a.fairy_promotions q y n n.promo is_n.promotion (λ j h. promotions j (promotes_still rule p m x here j h)))

    abbrev r : Position
    r = position_after rule q n

    men_r : r.men ≡ arrived q y n
    men_r = simple_after rule q y n here_y (grind (arith, leaves.away, and_parts, castle_of rule q y n well_q is_n)) (λ c. absurd (false≢true (sym circe ∙ c)))

    well_r : IsWellFormed r
    well_r = after_well_formed rule q n well_q can

    king_r : king_square r.men p.turn ≡ Some k
    king_r =
        let before = king_is_after rule p x m well (made rule p m x may here) small plain in
        search (rules, men_r, king_waits rule q y n p.turn well_q is_n to, men_q, before, king, turn_q, other_twice)

    free : is_arrival_free p.turn (man_on r.men left.0) ≡ true
    free =
        grind (arith, stood q y n left.0, stood p x m left.0, men_q, men_r, left.1, near, keeps.within left.0, small, to, well.size, well_q.size)

    -- no enemy attacks the king that has gone there
    unreached : (z : Man) → IsKingOn r.men p.turn k z → (s : ℕ) (v : Man) → s < 64 → man_on (arrived r z (step_to k left.0)) s ≡ Some v
        → v.colour ≡ other p.turn → reaches_as (arrived r z (step_to k left.0)) v.colour v.kind s left.0 ≡ false
    unreached z stands s v inside there enemy =
        let now = stood r z (step_to k left.0) s v in
        let before = stood q y n s v in
        let held = λ (i : IsAttacker a v s). keeps.guards.guards s v i in
        let sizes : (left.0 < length r.men) × (n.to < length q.men) = (omega (arith, left.1.small, well_r.size), omega (arith, to, well_q.size)) in
        grind (arith, now, before, men_r, sizes, not_mine v p.turn enemy, left.1, men.stand s v, enemy_stood s v, held, keeps.within left.0)

    unmated : mates rule q n ≡ false
    unmated = sym (no_mate_with_flight rule q n (has_one rule r p.turn k left.0 well_r (search (rules, turn_after, turn_q, other_twice)) king_r
        left.1.small (near.next left.0 left.1.small (keeps.within left.0 left.1.small left.1.on).0) free (λ c. absurd (false≢true (sym circe ∙ c))) unreached))

  none_mates : (i : ℕ) → mates rule q (triple_at i) ≡ false
  none_mates i = grind (arith, cases_Bool, unmated (triple_at i) (arrival_small i), maker rule q (triple_at i), not_mating)

  -- no reply mates, whatever is played
  pub no_mate_after : mates_after rule q 0 ≡ []
  no_mate_after = search (rules, met_after-none (mates rule q) 0 all_triples, none_mates, met_after-end)
