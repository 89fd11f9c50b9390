-- The flights that the enemy king has now, and the moves that leave them.
use Rattle.chess_mates.proofs.Chess.{AreAttackers, AreCheckTargets, AreOpen, AreReached, Attackers, IsLeft, IsNear, IsWellFormed, List, Man, Move, Nightrider, Option, Position, RuleSet, Some, and_left, ap, arith, bit_and, bit_at, bit_not, bit_or, cases_Bool, diagonal_steps, eq-eqb, eqb-true, false, false_from_ne_true, false≢true, inl, inr, is_leaper, is_legal, is_man, is_on_some, is_reached, is_rider, is_some, is_square, king_square, man_on, mates, men_on, not, occupied_squares, off_left, off_right, off_second, off_zero, on_first, or_lt, other, other_twice, reached_over, reaches, reaches_as, refl, rules, same_kind-true, some_square_false, squares_of, straight_steps, sym, true, w64, word, word_has, ℕ, ◌<◌, ◌==◌, ◌^◌, ◌*◌, ◌||◌, ◌∙◌, ◌≡◌, ◌≢◌, ◌≤◌, ◌⊎◌}
use Rattle.chess_flights.proofs.Bitboards.{off_denied}
use Rattle.chess_flights.proofs.Fleeing.{no_mate_with_flight}
use Rattle.chess_flights.proofs.Hurdles.{all_reach, later_but}
use Rattle.chess_flights.proofs.Mating.{no_mate_quietly}
use Rattle.chess_flights.proofs.QuietFilter.{flight_then, lifted, lifted_stood, lifted_there}
use Rattle.chess_flights.proofs.Standing.{reach_none}
use Rattle.chess_flights.specs.ties.FreeSteps.{GoesSimply, NoneHops}
use Rattle.chess_mates.proofs.Aside.{beside}
use Rattle.chess_flights.proofs.KindByKind.{man_there}
use Rattle.chess_mates.specs.ties.StandingFlights.{AreStandingFlights, IsBeside, IsFlightBut}

-- if no rider reaches the man that goes, the others reach no more than over the hurdles
module _ (p : Position) (k n d r l o : ℕ) (v : Attackers) (none : NoneHops p.men) (hurdles : d ≡ bit_and (occupied_squares p.men) (bit_not w64 o))
    (only : o ≡ word (is_square (Some k))) (fits : o < 2 ^ 64) (colour : v.colour ≡ p.turn) (men : AreAttackers p.men v)
    (rides : AreReached d v n is_rider r) (leaps : AreReached d v n is_leaper l) (a f : ℕ) (origin : a < 64) (flight : f < 64)
    (spared : ((bit_at r a == 1) ≡ false) ⊎ IsBeside p a f) (near : (bit_at n f == 1) ≡ true) (free : (bit_at (bit_or r l) f == 1) ≡ false) where
  abbrev few : List (Option Man)
  few = lifted p.men a k

  -- each hurdle but the man that goes still stands
  still : (e : ℕ) → e < 64 → (bit_at d e == 1) ≡ true → e ≢ a → is_some (man_on few e) ≡ true
  still e small on ne =
      let both = rw hurdles at on in
      let all = occupied_squares p.men in
      let some = sym (word_has (λ s. is_some (man_on p.men s)) all e refl small) ∙ on_first all (bit_not w64 o) e both in
      let king = sym (word_has (is_square (Some k)) o e only small) ∙ off_denied all o e fits small both in
      grind (arith, lifted_there p.men a k e, cases_Bool (a == e || k == e), eqb-true, some, king)

  strikes : (q : ℕ) (z : Man) → q < 64 → man_on few q ≡ Some z → z.colour ≡ p.turn → reaches_as few z.colour z.kind q f ≡ true → ⊥
  unfolding reached_over
  strikes q z small here mine reach =
      let before = lifted_stood p.men a k q z here in
      let plain = none.none q z small before in
      let is = men.stand q z small before (mine ∙ sym colour) in
      let may : IsNear z q n = record { square = f; small = flight; on = near; men = few; reaches = reach } in
      let over : reaches_as (men_on d) z.colour z.kind q f ≡ true = elim spared [
        | inl off ↦
            let shut = λ (rider : is_rider z.kind ≡ true) (on : (bit_at d a == 1) ≡ true) (ridden : reaches_as (men_on d) z.colour z.kind q a ≡ true).
            false≢true (sym off ∙ (rides.reach q z is rider may).inside a origin ridden) in
            later_but d few a a z.colour z.kind q f plain (λ e low on ne _. still e low on ne) shut shut reach
        | inr lines ↦ beside d few a f still z.colour z.kind q plain (lines.riders q z small before mine) lines.straight lines.diagonal reach
      ] in
      false≢true (sym free ∙ ((all_reach d v n r l rides leaps).reach q z is (ap not plain) may).inside f flight over)

  pub unreached : is_reached few f p.turn ≡ false
  unfolding is_reached reaches
  unreached =
      let apart = λ (q : ℕ) (z : Man) (lt : q < 64) (at : man_on few q ≡ Some z) (mine : z.colour ≡ other (other p.turn)).
      false_from_ne_true _ (strikes q z lt at (mine ∙ other_twice p.turn)) in
      some_square_false _ 64 (omega arith) (record { fails = rw (other_twice p.turn) at (reach_none few f (other p.turn) apart) })

-- for `flights_around`
pub flights_are : (rule : RuleSet) (p : Position) (k n d r l o w : ℕ) (v : Attackers) → king_square p.men (other p.turn) ≡ Some k → NoneHops p.men
    → AreOpen rule p.men (other p.turn) k n → d ≡ bit_and (occupied_squares p.men) (bit_not w64 o) → o ≡ word (is_square (Some k)) → o < 2 ^ 64
    → v.colour ≡ p.turn → AreAttackers p.men v → AreReached d v n is_rider r → AreReached d v n is_leaper l → r < 2 ^ 64 → l < 2 ^ 64
    → w ≡ bit_and n (bit_not w64 (bit_or r l)) → AreStandingFlights rule p (record { flights = w; ridden = r })
flights_are rule p k n d r l o w v king none ways hurdles only fits colour men rides leaps low high is = record {
  left = λ a f origin spared flight on.
      let both = rw is at on in
      let near = on_first n (bit_not w64 (bit_or r l)) f both in
      let free = off_denied n (bit_or r l) f (or_lt 64 r l low high) flight both in
      record {
        king = k;
        stands = king;
        plain = none;
        way = ways.inside f flight near;
        unreached = unreached p k n d r l o v none hurdles only fits colour men rides leaps a f origin flight spared near free;
      };
}

-- where none are looked for
pub no_flights : (rule : RuleSet) (p : Position) → AreStandingFlights rule p (record { flights = 0; ridden = 0 })
no_flights rule p = record { left = λ a f origin spared flight on. absurd (false≢true (sym (off_zero f) ∙ on)) }

-- for `flights_beside`
pub lines_beside : (p : Position) (a w s b n : ℕ) → s ≡ word (is_on_some straight_steps a) → b ≡ word (is_on_some diagonal_steps a)
    → n ≡ squares_of p.men p.turn Nightrider → n ≡ 0 → s < 2 ^ 64 → b < 2 ^ 64 → (f : ℕ) → f < 64
    → (bit_at (bit_and w (bit_not w64 (bit_or s b))) f == 1) ≡ true → ((bit_at w f == 1) ≡ true) × IsBeside p a f
unfolding squares_of
lines_beside p a w s b n straight diagonal riders none low high f small on =
    let off = off_denied w (bit_or s b) f (or_lt 64 s b low high) small on in
    let nobody : (q : ℕ) → (bit_at n q == 1) ≡ false = λ q. rw none (off_zero q) in (
      on_first w (bit_not w64 (bit_or s b)) f on,
      record {
        riders = λ q x lt here mine. false_from_ne_true _ (λ y.
            let stands : is_man (man_on p.men q) p.turn Nightrider ≡ true = rw (same_kind-true x.kind Nightrider y) at (man_there p.men q x p.turn here mine) in
            false≢true (sym (nobody q) ∙ word_has (λ t. is_man (man_on p.men t) p.turn Nightrider) n q riders lt ∙ stands));
        straight = sym (word_has (is_on_some straight_steps a) s f straight small) ∙ off_left s b f off;
        diagonal = sym (word_has (is_on_some diagonal_steps a) b f diagonal small) ∙ off_right s b f off;
      },
    )

-- the highest bit of a word
pub on_highest : (w s : ℕ) → 2 ^ s ≤ w → w < 2 * 2 ^ s → (bit_at w s == 1) ≡ true
on_highest w s low high = search (rules, eq-eqb)

-- for `mating_squares`
pub no_mate_left : (rule : RuleSet) (p : Position) (m : Move) (x : Man) (w f : ℕ) → IsWellFormed p → man_on p.men m.from ≡ Some x → GoesSimply rule p x m
    → IsLeft w x m.to f → IsFlightBut rule p m.from f → mates rule p m ≡ false
unfolding mates
no_mate_left rule p m x w f well here simply left kept = elim (cases_Bool (is_legal rule p m)) [
  | inl lawful ↦ sym (no_mate_with_flight rule p m
      (flight_then rule p m x kept.king f w well lawful here kept.stands kept.plain simply left kept.way kept.unreached))
  | inr not ↦ and_left _ _ not
]

-- for `mate_targets`
pub no_mate_off : (rule : RuleSet) (p : Position) (m : Move) (s c w : ℕ) → AreCheckTargets rule p s c
    → ((bit_at w m.to == 1) ≡ false → mates rule p m ≡ false) → m.from ≡ s → m.to < 64 → (bit_at (bit_and c w) m.to == 1) ≡ false → mates rule p m ≡ false
no_mate_off rule p m s c w targets others from small off = elim (cases_Bool (bit_at c m.to == 1)) [
  | inl on ↦ others (off_second c w m.to off on)
  | inr quiet ↦ sym (no_mate_quietly rule p m (λ lawful. targets.elsewhere m from small lawful quiet))
]
