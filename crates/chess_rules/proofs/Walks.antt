-- Walking from candidate to candidate misses no move.
use Rattle.chess_rules.proofs.Chess.{AreCandidates, AreEvasionsFrom, AreOrigins, Bool, NoneMeet, IsAimed, HasNoMoveFrom, NamesMove, Move, None, Pawn, Position, RuleSet, all_triples, and_parts, and_right, ap, arith, bit_and, bit_at, bit_at-lt, bit_at_and, cases_Bool, cases_eq, cases_lt, eq-eqb, eqb-true, false, false≢true, is_arrival, is_legal, is_legal-idle, is_man, is_pseudo_legal, is_some, man_on, not, meets_on, per_arrival, per_origin, promotion_at, refl, rules, side_of, triple_at, true, word, word_has, ℕ, ◌%◌, ◌&&◌, ◌*◌, ◌+◌, ◌-◌, ◌/◌, ◌<◌, ◌==◌, ◌≡◌, ◌≤◌}
use Rattle.chess_attacks.proofs.Basics.{nat_le}
use Rattle.chess_attacks.specs.ties.Taking.{IsPopped}
use Rattle.chess_rules.proofs.Targeting.{first_none, arrival_from, arrival_needed, false_by, named_by, no_pawn_arrives, no_promotion_here, own_moves, some_named}
use Rattle.chess_attacks.proofs.Bits.{off_zero}

-- squares of two words
pub on_first : (a b i : ℕ) → (bit_at (bit_and a b) i == 1) ≡ true → (bit_at a i == 1) ≡ true
on_first a b i h = search (rules, bit_at-lt, bit_at_and, eq-eqb, eqb-true)

-- a square of the first word that isn't in both isn't in the second
pub off_second : (a b i : ℕ) → (bit_at (bit_and a b) i == 1) ≡ false → (bit_at a i == 1) ≡ true → (bit_at b i == 1) ≡ false
off_second a b i h on = search (rules, bit_at_and, eq-eqb, eqb-true, false_by)

-- an origin's triples by their numbers
pub triple_of : (s a : ℕ) → a < per_origin → triple_at (per_origin * s + a) ≡ record { from = s; to = a / per_arrival; promo = promotion_at (a % per_arrival) }
unfolding triple_at
triple_of s a lt =
    let from : (per_origin * s + a) / per_origin ≡ s = omega (arith, lt) in
    let to : (per_origin * s + a) / per_arrival % 64 ≡ a / per_arrival = omega (arith, lt) in
    let promo : (per_origin * s + a) % per_arrival ≡ a % per_arrival = omega (arith, lt) in
    rw (from, to, promo) refl

-- where no pawn of the side to move stands, a man goes without a promotion
pub plain_aimed : (rule : RuleSet) (p : Position) (m : Move) → is_man (man_on p.men m.from) p.turn Pawn ≡ false → is_arrival rule p m.from m.to ≡ true
    → m.promo ≡ None → IsAimed rule p m
unfolding is_arrival
plain_aimed rule p m none h e = grind (arith, false≢true, no_pawn_arrives, and_parts, cases_Bool, cases_eq)

-- where none is found that goes to a candidate, none meets the test
pub none-to : (rule : RuleSet) (p : Position) (test found : Move → Bool) (s w a b : ℕ) → b ≤ per_origin → AreCandidates rule p test s w
    → ((m : Move) → found m ≡ false → test m ≡ false) → NoneMeet (meets_on w found) (per_origin * s + a) (per_origin * s + b)
    → NoneMeet test (per_origin * s + a) (per_origin * s + b)
unfolding triple_at
none-to rule p test found s w a b le are less h = record {
  fails = λ k lo hi. grind (arith, cases_Bool (bit_at w (triple_at k).to == 1), are.outside (triple_at k), less (triple_at k), h.fails k lo hi);
}

module _ (rule : RuleSet) (p : Position) (test : Move → Bool) (needs : (m : Move) → is_pseudo_legal rule p m ≡ false → test m ≡ false) where
  -- the candidates of one origin
  pub candidates : (s a w : ℕ) → a ≡ word (is_arrival rule p s)
      → ((m : Move) → m.from ≡ s → m.to < 64 → is_pseudo_legal rule p m ≡ true → (bit_at w m.to == 1) ≡ false → test m ≡ false)
      → AreCandidates rule p test s (bit_and a w)
  candidates s a w arrivals h = search (rules, arrival_needed, cases_Bool, off_second, on_first, word_has)

  -- where no arrival could meet the test there are none
  pub no_candidates : (s w : ℕ) → w ≡ 0
      → ((m : Move) → m.from ≡ s → m.to < 64 → is_pseudo_legal rule p m ≡ true → (bit_at w m.to == 1) ≡ false → test m ≡ false) → AreCandidates rule p test s 0
  no_candidates s w zero h = search (rules, cases_Bool, off_zero)

  none-move : (s w : ℕ) (m : Move) → AreCandidates rule p test s w → m.from ≡ s → m.to < 64 → ((bit_at w m.to == 1) ≡ true → is_pseudo_legal rule p m ≡ false)
      → test m ≡ false
  none-move s w m are at small h = search (rules, cases_Bool)

  -- over a range without a move no candidate of an origin meets the test
  pub none-from : (s w a b : ℕ) → b ≤ per_origin → AreCandidates rule p test s w → HasNoMoveFrom p s w a b
      → NoneMeet test (per_origin * s + a) (per_origin * s + b)
  none-from s w a b le are h = record {
    fails = λ k lo hi.
        let at : per_origin * s + (k - per_origin * s) ≡ k = omega (arith, lo) in
        grind (arith, at, triple_of s (k - per_origin * s), none-move s w (triple_at k) are, h.fails rule (k - per_origin * s));
  }

  -- past one that fails too
  pub none-onward : (s w z a b : ℕ) → b ≤ per_origin → AreCandidates rule p test s w → NoneMeet test (per_origin * s + z) (per_origin * s + a)
      → test (triple_at (per_origin * s + a)) ≡ false → HasNoMoveFrom p s w (a + 1) b → NoneMeet test (per_origin * s + z) (per_origin * s + b)
  none-onward s w z a b le are past fails here = search (rules, none-from, cases_lt, cases_eq, le, are, past, fails, here)

  -- the squares of the side to move are all its origins
  pub own-origins : (o : ℕ) → o ≡ side_of p.men p.turn → AreOrigins test o
  unfolding side_of
  own-origins o h = grind (arith, own_moves, word_has)

-- a walk over origins, from a place on: no move from one that isn't in the rest meets the test, and this has
-- none before the place
pub record IsWalked (test : Move → Bool) (start rest : ℕ) : Type 0 where
  pub ahead : (s : ℕ) → s < 64 → (bit_at rest s == 1) ≡ true → start / per_origin ≤ s
  pub none : (k : ℕ) → start ≤ k → k < all_triples → (bit_at rest (k / per_origin) == 1) ≡ false → test (triple_at k) ≡ false

module _ (test : Move → Bool) where
  pub walk_begins : (start o rest : ℕ) → AreOrigins test o
      → ((t : ℕ) → t < 64 → (bit_at rest t == 1) ≡ (nat_le (start / per_origin) t && bit_at o t == 1)) → IsWalked test start rest
  unfolding triple_at
  walk_begins start o rest own from = record {
    ahead = λ s small on. grind (arith, from s small);
    none = λ k lo hi off. own.elsewhere (triple_at k) (omega (arith, hi)) (omega arith) (grind (arith, from (k / per_origin)));
  }

  -- up to the next origin, or to the end, where there is none
  pub walk_before : (start rest s e : ℕ) → IsWalked test start rest → ((t : ℕ) → t < s → (bit_at rest t == 1) ≡ false) → s ≤ 64 → e ≤ per_origin * s
      → NoneMeet test start e
  walk_before start rest s e w off small le = record {
    fails = λ k lo hi. w.none k lo (omega (arith, hi, le, small)) (off (k / per_origin) (omega (arith, hi, le)));
  }

  module _ (start rest s left n z a : ℕ) (w : IsWalked test start rest) (next : IsPopped rest s left) (first : n ≡ per_origin * s) (begin : z ≡ start - n)
      (here : NoneMeet test (per_origin * s + z) (per_origin * s + a)) where
    -- up to one of its triples
    pub walk_to : NoneMeet test start (n + a)
    walk_to = grind (arith, cases_lt, walk_before start rest s n w next.first, next.small)

    -- the walk continues after the last of the origin's triples
    pub walk_on : a ≡ per_origin → IsWalked test start left
    walk_on all = record {
      ahead = λ t small on. w.ahead t small (grind (arith, cases_eq s t, next.gone, next.others t));
      none = λ k lo hi off. grind (arith, cases_eq s (k / per_origin), next.others (k / per_origin), w.none k, here.fails k);
    }

-- where no pawn of the side to move stands, none is made with a promotion
promoted_idle : (rule : RuleSet) (p : Position) (m : Move) → is_man (man_on p.men m.from) p.turn Pawn ≡ false → is_arrival rule p m.from m.to ≡ true
    → is_some m.promo ≡ true → is_pseudo_legal rule p m ≡ false
promoted_idle rule p m none h some =
    grind (arith, plain_aimed rule p (record { from = m.from; to = m.to; promo = None }) none h refl, no_promotion_here, named_by)

-- no triple to a square of the word meets the test below b, if none without a promotion does to a square that
-- isn't in the rest, and this has none below b
pub none-plain : (rule : RuleSet) (p : Position) (test : Move → Bool) → ((m : Move) → is_pseudo_legal rule p m ≡ false → test m ≡ false)
    → (s w rest a b n : ℕ) → AreCandidates rule p (meets_on w test) s w → is_man (man_on p.men s) p.turn Pawn ≡ false
    → ((t : ℕ) → t < 64 → (bit_at w t == 1) ≡ true → (bit_at rest t == 1) ≡ false → arrival_from a ≤ t
    → test (record { from = s; to = t; promo = None }) ≡ false)
    → ((t : ℕ) → t < b → (bit_at rest t == 1) ≡ false) → n ≤ per_arrival * b → b ≤ 64
    → NoneMeet (meets_on w test) (per_origin * s + a) (per_origin * s + n)
none-plain rule p test needs s w rest a b n are none fails off up small = record {
  fails = λ k lo hi.
      let c : ℕ = k - per_origin * s in
      let t : ℕ = c / per_arrival in
      let at : per_origin * s + c ≡ k = omega (arith, lo) in
      rw (← at, triple_of s c (omega (arith, hi, up, small)))
      (grind (arith, cases_Bool (bit_at w t == 1), cases_eq (c % per_arrival) 0, fails t, off t, needs, promoted_idle, first_none, some_named, are.inside t));
}

-- the triple that is found
pub aimed_from : (rule : RuleSet) (p : Position) (test : Move → Bool) (s w a : ℕ) → a < per_origin → AreCandidates rule p test s w → NamesMove p s w a
    → IsAimed rule p (triple_at (per_origin * s + a))
aimed_from rule p test s w a lt are named = rw (triple_of s a lt) (grind (arith, are.inside (a / per_arrival), named))

-- a move to no square that ends a check isn't legal
pub evasions_elsewhere : (rule : RuleSet) (p : Position) (s w : ℕ) → AreEvasionsFrom rule p s w → (m : Move) → m.from ≡ s → m.to < 64
    → is_pseudo_legal rule p m ≡ true → (bit_at w m.to == 1) ≡ false → is_legal rule p m ≡ false
unfolding is_legal
evasions_elsewhere rule p s w h m at small may off = and_right (is_pseudo_legal rule p m) _ (ap not (h.elsewhere m at small may off))

-- for the candidates of one origin
pub ruleset legal_candidates = (candidates, no_candidates, evasions_elsewhere, is_legal-idle)
