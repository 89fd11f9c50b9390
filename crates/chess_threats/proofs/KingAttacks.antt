-- King attacks, castling squares and the king zone.
use Rattle.chess_threats.proofs.Chess.{AreAdjacent, AreAttackers, AreCaptureSquares, AreCastlingSquares, AreClosed, AreFree, AreHurdles, AreReached, AreSpringboards, AreHopTargets, AreThreats, AreWeak, Attackers, Bishop, Bool, Colour, KingZone, Grasshopper, IsAttacker, IsCastlingHarmless, IsKingZone, IsHurdle, IsReached, IsRiskAt, IsShut, IsKingAttack, IsKingAttackOf, IsUnhopped, IsWellFormed, IsWhole, Kind, King, List, Man, MayRide, Nightrider, None, Option, Position, Queen, Risk, Rook, RuleSet, KingAttack, Some, White, and_parts, arith, bit_and, bit_at, bit_not, bit_or, corner, eqb-true, every_square_on, false, false_by, false≢true, find_no, has_unmoved, inl, inr, moves_on_fairy_lines, is_man, is_on_some, is_rider, is_square, king_square, king_there, leaps, list_any, list_any-append, man_on, men_on, ne_eqb, occupied_squares, off_left, off_right, on_first, on_left, on_right, or_cases, other, queen_steps, reached_over, reaches_as, refl, rules, side_of, square_is, squares, squares_for, squares_of, straight_steps, true, w64, word, word_has, ℕ, KeepsOne, ◌&&◌, ◌+◌, ◌-◌, ◌<◌, ◌==◌, ◌^◌, ◌||◌, ◌∙◌, ◌≡◌, ◌≢◌, ◌⊎◌}
use Rattle.chess_core.specs.Position.{may_promote}
use Rattle.chess_flights.specs.ties.Attackers.{is_promotion}
use Rattle.chess_threats.specs.ties.KingAttack.{AreNeeded}
use Rattle.chess_flights.specs.ties.Approaches.{ArePromotions}
use Rattle.chess_threats.specs.declared.king_zone.HopTargets.{HopTargets}
use Rattle.std.proofs.Math.Bool.{beq}
use Rattle.chess_flights.proofs.Hurdles.{on_one, reached_is, reached_left, reached_right}
use Rattle.chess_flights.proofs.Bitboards.{off_denied, denied_on, none_at, none_on, on_both}
use Rattle.chess_flights.proofs.Fleeing.{on_second}
use Rattle.chess_threats.proofs.Springboards.{grasshopper_on, unsprung_right}
use Rattle.chess_threats.proofs.Risks.{weak_too}

-- for `capture_squares`: no attacker is on a closed square, and none is a hopper
pub captures_are : (v : KingAttack) (k n : ℕ) → n ≡ word (λ t. list_any (leaps k t) queen_steps) → bit_and v.closed v.enemies ≡ 0 → v.men.squares.grasshoppers ≡ 0
    → AreCaptureSquares v k n
captures_are v k n near none plain = record {
  next = λ f small on. search (rules, word_has);
  off = λ f s on small enemy. search (rules, false_by, none_at (bit_and v.closed v.enemies), on_both);
  plain = λ f s z on i. search (rules, false_by, none_at v.men.squares.grasshoppers, grasshopper_on);
}

-- for fewer squares next to the king
pub fewer_adjacent : (v : KingAttack) (k n w : ℕ) → AreAdjacent v k n → AreAdjacent v k (bit_and n w)
fewer_adjacent v k n w are = search (rules, on_first)

-- for `needed_squares`: squares that keep a flight
pub needed_are : (v : KingAttack) (w : ℕ) → AreAdjacent v v.king w → KeepsOne v.men w → AreNeeded v w
needed_are v w near keeps = record { keeps = λ t small off. record { near = w; adjacent = near; off = off; keeps = keeps } }

-- a queen's lines are a rook's and a bishop's
pub queen_lines : (d k r b : ℕ) (c : Colour) → IsReached d (record { colour = c; kind = Rook }) k r → IsReached d (record { colour = c; kind = Bishop }) k b
    → IsReached d (record { colour = c; kind = Queen }) k (bit_or r b)
unfolding reached_over reaches_as
queen_lines d k r b c rook bishop = grind (arith, list_any-append, on_left, on_right, or_cases)

-- for `hop_targets_of`
pub springs_are : (v : KingAttack) (k n s j b : ℕ) → AreAdjacent v k n → AreSpringboards v.men k s
    → ((f : ℕ) → f < 64 → (bit_at j f == 1) ≡ true → IsUnhopped v k f b) → AreHopTargets v k (record { near = bit_and n j; own = s; all = bit_or s b })
springs_are v k n s j b near own landings = search (rules, fewer_adjacent, on_left, on_second, unsprung_right)

-- the king's field
pub field_is : (v : KingAttack) (k c r b l w : ℕ) (i : HopTargets) → AreHopTargets v k i → v.hurdles < 2 ^ 64
    → ((men : List (Option Man)) → v.hurdles ≡ occupied_squares men → r ≡ word (reaches_as men White Rook k))
    → ((men : List (Option Man)) → v.hurdles ≡ occupied_squares men → b ≡ word (reaches_as men White Bishop k))
    → (v.men.squares.nightriders ≢ 0 → (c : Colour) → IsReached v.hurdles (record { colour = c; kind = Nightrider }) k l)
    → AreCaptureSquares v k c → ArePromotions v.men.colour v.men.fairy_promotions k w
    → IsKingZone v (record {
      king = k;
      near = i.near;
      captures = c;
      straight = r;
      diagonal = b;
      lines = bit_or (bit_or r b) l;
      springboards = i.own;
      hops = i.all;
      promotions = w;
    })
unfolding reached_over reaches_as
field_is v k c r b l w i hop_targets hurdles rook bishop riders captures promotions = record {
  hop_targets = hop_targets;
  captures = captures;
  straight = straight;
  diagonal = diagonal;
  lines = by;
  promotions = promotions;
} where
  straight : (c : Colour) → IsReached v.hurdles (record { colour = c; kind = Rook }) k r
  straight c = search (rules, reached_is)

  diagonal : (c : Colour) → IsReached v.hurdles (record { colour = c; kind = Bishop }) k b
  diagonal c = search (rules, reached_is)

  by : (c : Colour) (j : Kind) → MayRide v j → IsReached v.hurdles (record { colour = c; kind = j }) k (bit_or (bit_or r b) l)
  by c Queen may = reached_left v.hurdles _ k (bit_or r b) l (queen_lines v.hurdles k r b c (straight c) (diagonal c))
  by c Rook may = search (reached_left, straight)
  by c Bishop may = search (reached_left, reached_right, diagonal)
  by c Nightrider may = reached_right v.hurdles _ k (bit_or r b) l (riders (may.1 refl) c)
  by c _ may = absurd (false≢true may.0)

plain_among : (a : Attackers) (s : ℕ) (x : Man) → IsAttacker a x s → (bit_or a.squares.grasshoppers a.squares.nightriders == 0) ≡ true → moves_on_fairy_lines x.kind ≡ false
plain_among a s x i none = by x.kind i.on where
  by : (k : Kind) → (bit_at (squares_for a k) s == 1) ≡ true → moves_on_fairy_lines k ≡ false
  by Grasshopper on = absurd (none_on _ s none (on_left a.squares.grasshoppers a.squares.nightriders s on))
  by Nightrider on = absurd (none_on _ s none (on_right a.squares.grasshoppers a.squares.nightriders s on))
  by _ on = refl

-- for `castling_is_harmless`, by the words of rooks and kings
pub harmless_castling : (v : KingAttack) (g : KingZone) (l : ℕ) → l ≡ word (is_on_some straight_steps g.king)
    → (v.castled == 0 || ((bit_and l v.castled == 0 && bit_and g.lines v.men.squares.kings == 0) && bit_or v.men.squares.grasshoppers v.men.squares.nightriders == 0)) ≡ true
    → IsCastlingHarmless v g
harmless_castling v g l lines h = elim (or_cases _ _ h) [
  | inl none ↦ record {
    rooks = λ q small on. absurd (none_on v.castled q none on);
    kings = λ q s small on king. absurd (none_on v.castled q none on);
    fairies = λ q s x on i. absurd (none_on v.castled q none on);
  }
  | inr all ↦
      let both = and_parts _ _ (and_parts _ _ all).0 in
      record {
        rooks = λ q small on. false_by _ (λ y. none_on (bit_and l v.castled) q both.0
            (on_both l v.castled q (word_has (is_on_some straight_steps g.king) l q lines small ∙ y) on));
        kings = λ q s small on king. false_by _ (λ y. none_on (bit_and g.lines v.men.squares.kings) s both.1 (on_both g.lines v.men.squares.kings s y king));
        fairies = λ q s x on i. plain_among v.men s x i (and_parts _ _ all).1;
      }
]

-- for the risk of all attackers
pub risk_is : (v : KingAttack) (k : ℕ) (g : KingZone) (r : Risk) (o : ℕ) → g.king ≡ k → IsKingZone v g → IsCastlingHarmless v g → AreWeak v g r
    → AreFree v k g.springboards → o ≡ word (λ s. is_square (Some k) s) → o < 2 ^ 64
    → IsRiskAt v k (record { critical = bit_or r.critical (bit_and g.hops (bit_not w64 o)); lines = bit_or r.lines g.lines })
risk_is v k g r o king king_zone castling all free only fits = record {
  king_zone = g;
  king = king;
  is = king_zone;
  castling = λ b small off. castling;
  lines = λ a b small critical off. off_right r.lines g.lines a off;
  unsprung = λ b small off. record { springboards = _; are = king_zone.hop_targets.own; free = rw king free; within = λ h on. on };
  hops = λ b small off ne. search (rules, denied_on, eqb-true, false_by, off_right, king, word_has);
  weak = λ s x i. weak_too v g r _ s x (off_left r.critical _) (off_left r.lines g.lines) (all.weak s x i);
}

-- with the lines of all riders
pub threats_are : (v : KingAttack) (critical lines w : ℕ) → IsKingAttack v → IsWhole v → IsRiskAt v v.king (record { critical = critical; lines = lines })
    → AreReached v.hurdles v.men (bit_not w64 0) is_rider w → AreThreats v (record { critical = critical; lines = bit_or lines w })
unfolding reached_over
threats_are v critical lines w king_attack whole risk ridden = record {
  king_attack = king_attack;
  whole = whole;
  risk = record {
    king_zone = risk.king_zone;
    king = risk.king;
    is = risk.is;
    castling = risk.castling;
    lines = λ a b small far off. risk.lines a b small far (off_left lines w a off);
    unsprung = risk.unsprung;
    hops = risk.hops;
    weak = λ s x i. record {
      weak = λ a b small inside off. (risk.weak s x i).weak a b small inside
          (record { lines = λ on. off_left lines w a (off.lines on); critical = off.critical });
    };
  };
  rides = λ s x i rider. record {
    inside = λ t small reached. on_right lines w t ((ridden.reach s x i rider
        (record { square = t; small = small; on = every_square_on t small; men = men_on v.hurdles; reaches = reached })).inside t small reached);
  };
}

-- the men around the king
pub hurdles_are : (own enemies k o w : ℕ) → o ≡ word (λ t. is_square (Some k) t) → o < 2 ^ 64
    → AreHurdles own enemies k (bit_and (bit_and (bit_or own enemies) (bit_not w64 o)) (bit_not w64 w))
hurdles_are own enemies k o w only fits = search (rules, off_denied, on_first, on_one, word_has)

-- all men around the king but a lifted one
pub hurdles_whole : (own enemies k o w : ℕ) (lifted : Option ℕ) → o ≡ word (λ t. is_square (Some k) t) → o < 2 ^ 64 → w ≡ word (λ t. is_square lifted t)
    → w < 2 ^ 64 → (e : ℕ) → e < 64 → lifted ≢ Some e → IsHurdle own enemies k (bit_and (bit_and (bit_or own enemies) (bit_not w64 o)) (bit_not w64 w)) e
hurdles_whole own enemies k o w lifted only fits at low e small off there ne =
    grind (arith, denied_on, false_by, ne_eqb, on_left, on_right, square_is, word_has)

-- for a man that is lifted: its square isn't a hurdle
pub lifted_off : (a w s : ℕ) (o : Option ℕ) → w ≡ word (λ t. is_square o t) → w < 2 ^ 64 → s < 64 → o ≡ Some s
    → (bit_at (bit_and a (bit_not w64 w)) s == 1) ≡ false
lifted_off a w s o only fits small e = search (rules, false_by, off_denied, word_has)

-- for `castling_square`: one side, by numbers
pub shut_on : (p : Position) (c : Colour) (own w corner next a b : ℕ) → own ≡ side_of p.men c → next < 64
    → (has_unmoved p.unmoved corner ≡ false) ⊎ ((bit_at own next == 1) ≡ true) ⊎ ((bit_at w next == 1) ≡ true) → corner ≡ a → next ≡ b → IsShut p c w a b
unfolding side_of
shut_on p c own w corner next a b side small h e f = search (rules, word_has)

shut_in : (p : Position) (c : Colour) (v w a b : ℕ) → ((q : ℕ) → (bit_at v q == 1) ≡ true → (bit_at w q == 1) ≡ true) → IsShut p c v a b → IsShut p c w a b
shut_in p c v w a b more h = search (rules, more)

-- for `castling_squares`: without a king
pub no_king_castles : (p : Position) (c : Colour) (w : ℕ) → king_square p.men c ≡ None → AreCastlingSquares p c w
unfolding king_square squares
no_king_castles p c w none = record { sides = λ s lo is. search (rules, find_no (λ q. is_man (man_on p.men q) c King) 0 64 s none (omega arith) (omega arith)) }

king_castles : (p : Position) (c : Colour) (w k : ℕ) → IsWellFormed p → king_square p.men c ≡ Some k
    → (has_unmoved p.unmoved k ≡ false) ⊎ (IsShut p c w (k + 3) (k + 1) × IsShut p c w (k - 4) (k - 1)) → AreCastlingSquares p c w
king_castles p c w k well king sides = record { sides = λ s small is. rw (well.kings.same c s k is (king_there p.men c k king).1) sides }

-- any word has the castling squares of a king that has moved
pub moved_king_castles : (p : Position) (c : Colour) (w k : ℕ) → king_square p.men c ≡ Some k → has_unmoved p.unmoved k ≡ false → IsWellFormed p
    → AreCastlingSquares p c w
moved_king_castles p c w k king moved well = king_castles p c w k well king (inl moved)

-- the word of all squares has the castling squares of any king
pub king_castles_anywhere : (p : Position) (c : Colour) (k : ℕ) → king_square p.men c ≡ Some k → IsWellFormed p → AreCastlingSquares p c (bit_not w64 0)
king_castles_anywhere p c k king well =
    king_castles p c (bit_not w64 0) k well king (inr (inr (inr (λ low. every_square_on (k + 1) low)), inr (inr (λ low. every_square_on (k - 1) low))))

-- on both sides
pub king_castles_to : (p : Position) (c : Colour) (k long short : ℕ) → king_square p.men c ≡ Some k → IsShut p c long (k - 4) (k - 1)
    → IsShut p c short (k + 3) (k + 1) → IsWellFormed p → AreCastlingSquares p c (bit_or long short)
king_castles_to p c k long short king far near well =
    king_castles p c (bit_or long short) k well king (inr (search (shut_in, on_left, on_right, far, near)))

-- for `king_attack_of`
pub king_attack_fits : (rule : RuleSet) (p : Position) (v : KingAttack) → v.men.colour ≡ other p.turn → king_square p.men p.turn ≡ Some v.king
    → v.own ≡ side_of p.men p.turn
    → v.enemies ≡ side_of p.men v.men.colour → AreAttackers p.men v.men → v.men.squares.kings ≡ squares_of p.men v.men.colour King
    → AreCastlingSquares p v.men.colour v.castled → AreClosed rule p v.closed
    → ((k : Kind) → may_promote p k ≡ true → is_promotion v.men.fairy_promotions k ≡ true) → IsKingAttackOf rule p v
unfolding squares_of
king_attack_fits rule p v colour king own enemies men kings castled closed promotions = search (rules, word_has)

-- for `is_of`: the promotions agree, by the last but two of its tests
pub promotions_agree : (before castled closed b c : Bool) → (((before && beq b c) && castled) && closed) ≡ true → b ≡ c
promotions_agree before castled closed b c all = grind (arith, and_parts)
