-- How a defender arrives on a square that isn't risky: its king steps there, or another man goes there
-- and perhaps leaves a line.
use Rattle.chess_threats.proofs.Chess.{AreAdjacent, AreMere, ArePlain, AreRisky, AreThreatsOf, IsLike, IsMereMove, IsPlainMove, IsSafeMove, IsSafeStep, IsDecidedStep, IsKingAttackOf, IsSparedStep, IsWellFormed, KeepsFlight, KeepsFlightBeside, KeepsOne, King, Man, Move, Position, RuleSet, KingAttack, Some, ThreatsSeen, [], agree_below_at, along, and_from, and_parts, ap, arith, arrival_needed, bit_and, bit_at, bit_at_above, bit_not, bit_or, captures_are_reborn, cases_Bool, cases_lt, cond-false, cond-true, eqb-true, false, false_by, false≢true, inl, inr, is_castling, is_legal, is_man, is_pseudo_legal, may_be_made, king_after, king_is, leaps, list_any, made, maker, man_on, mates_after, may_go_aimed, off_left, off_right, off_second, position_after, queen_steps, refl, rules, same_colour-refl, same_kind, some_is, sym, true, w64, word, ℕ, ◌<◌, ◌==◌, ◌^◌, ◌∙◌, ◌≡◌, ◌≢◌}
use Rattle.chess_threats.specs.ties.KingAttack.{AreNeeded}
use Rattle.chess_flights.proofs.Bitboards.{denied_on}
use Rattle.chess_threats.proofs.LastingFlights.{no_mate_after as flight_after}
use Rattle.chess_threats.proofs.Barring.{barred_is_illegal}
use Rattle.chess_flights.proofs.Fleeing.{king_on}
use Rattle.chess_threats.proofs.PlainMoves.{king_plain}
use Rattle.chess_threats.proofs.Sparing.{no_mate_after}

-- no step stays where it begins
no_step_back : (t : ℕ) → t < 64 → list_any (leaps t t) queen_steps ≡ false
unfolding along leaps
no_step_back t small = agree_below_at (λ n. list_any (leaps n n) queen_steps) (λ _. false) 64 t refl small

-- two values of `KingAttack` with equal men around the king belong to one position
like_fits : (rule : RuleSet) (p : Position) (v w : KingAttack) → IsLike v w → IsKingAttackOf rule p v → IsKingAttackOf rule p w
like_fits rule p v w l fits = search (rules, l.men, l.own, l.enemies, l.king, l.castled, l.closed, fits)

module _ (rule : RuleSet) (p : Position) (x : Man) (v : ThreatsSeen) (well : IsWellFormed p) (threats : AreThreatsOf rule p v) where
  module _ (m : Move) (may : is_pseudo_legal rule p m ≡ true) (here : man_on p.men m.from ≡ Some x) (small : m.to < 64) where
    -- a flight that is kept next to the king's new square
    keeps : (k near : ℕ) → captures_are_reborn rule ≡ false → is_castling x m ≡ false → king_after p x m ≡ Some k → AreAdjacent v.king_attack k near
        → ((f : ℕ) → f < 64 → (bit_at near f == 1) ≡ true → f ≢ m.to) → KeepsOne v.king_attack.men near
        → mates_after rule (position_after rule p m) 0 ≡ []
    keeps k near captures alone king next arrival kept =
        let fits = threats.fits in
        flight_after rule p m x k near well may here captures alone small king (record {
          next = next.next;
          arrival = arrival;
          own = λ f low on. search (rules, false_by, next.free f low on, fits.closed.own f low);
          king = λ f low on. search (rules, false_by, next.kings f low on, fits.kings f low);
        }) v.king_attack.men fits.men fits.colour fits.promotions kept

    -- beside the king, wherever the man comes
    man_keeps : same_kind x.kind King ≡ false → captures_are_reborn rule ≡ false → KeepsFlightBeside v.king_attack m.to
        → mates_after rule (position_after rule p m) 0 ≡ []
    man_keeps mortal captures kept =
        keeps v.king_attack.king kept.near captures
        (false_by (is_castling x m) (λ castling. false≢true (sym mortal ∙ (and_parts _ _ (and_parts _ _ castling).0).0)))
        (cond-false (same_kind x.kind King) _ _ mortal ∙ sym threats.fits.king) kept.adjacent
        (λ f low on same. false≢true (sym kept.off ∙ (rw same at on))) kept.keeps

    -- the king's own step begins on its square
    at_king : m.from < 64 → same_kind x.kind King ≡ true → v.king_attack.king ≡ m.from
    at_king from king =
        let is : is_man (man_on p.men m.from) p.turn King ≡ true = rw (here, (made rule p m x may here).mine) (and_from _ _ (same_colour-refl p.turn) king) in
        some_is v.king_attack.king m.from (threats.fits.king ∙ king_is p.men p.turn m.from well.kings from is)

  module _ (m : Move) (may : is_pseudo_legal rule p m ≡ true) (here : man_on p.men m.from ≡ Some x) (small : m.to < 64) (from : m.from < 64)
      (plain : IsPlainMove p x m) (mere : captures_are_reborn rule ≡ true → IsMereMove p x m) where
    king_safe : same_kind x.kind King ≡ true → IsSafeStep v.king_attack m.to → mates_after rule (position_after rule p m) 0 ≡ []
    king_safe king safe =
        let king_attack = threats.king_attack in
        let same = at_king m may here small from king in
        no_mate_after rule p m x v.king_attack m.to safe.risk well may here small from (cond-true (same_kind x.kind King) _ _ king) (record {
          plain = plain;
          mere = mere;
          king_attack = king_attack;
          fits = threats.fits;
          at = safe.at;
          off = record { lines = λ on. absurd ((king_attack.hurdles.men m.from from on).1 same); critical = safe.off };
          shut = record { shut = λ s z a rider on. absurd ((king_attack.hurdles.men m.from from on).1 same) };
          off_king = λ e inside on same. false≢true (sym safe.free ∙ (rw same at on));
          whole = λ e inside left there apart. threats.whole.hurdles e inside there (λ at. left (sym at ∙ same));
        })

    -- after the king's step
    king_keeps : same_kind x.kind King ≡ true → KeepsFlight rule v.king_attack m.to → mates_after rule (position_after rule p m) 0 ≡ []
    king_keeps king kept =
        keeps m may here small m.to kept.near kept.captures plain.castling (cond-true (same_kind x.kind King) _ _ king) kept.adjacent
        (λ f low on same. false≢true (sym (no_step_back f low) ∙ (rw (← same) at (kept.adjacent.next f low on)))) kept.keeps

    king_spared : same_kind x.kind King ≡ true → IsSparedStep rule v.king_attack m.to → mates_after rule (position_after rule p m) 0 ≡ []
    king_spared king spared = elim spared [ inl safe ↦ king_safe king safe | inr kept ↦ king_keeps king kept ]

    man_spared : same_kind x.kind King ≡ false → IsSafeMove v.king_attack m.from m.to → mates_after rule (position_after rule p m) 0 ≡ []
    man_spared mortal safe =
        let l = safe.like in
        no_mate_after rule p m x safe.king_attack v.king_attack.king safe.risk well may here small from
        (cond-false (same_kind x.kind King) _ _ mortal ∙ sym threats.fits.king) (record {
          plain = plain;
          mere = mere;
          king_attack = l.king_attack;
          fits = like_fits rule p v.king_attack safe.king_attack l threats.fits;
          at = safe.at;
          off = safe.off;
          shut = safe.shut;
          off_king = λ e inside on same. (l.king_attack.hurdles.men e inside on).1 (l.king ∙ sym same);
          whole = λ e inside left there apart. safe.whole.hurdles e inside (λ at. left (sym at)) there (λ at. apart (sym l.king ∙ at));
        })

  inside : (w t : ℕ) → w < 2 ^ 64 → (bit_at w t == 1) ≡ true → t < 64
  inside w t fits on = grind (arith, bit_at_above w 64 t fits, cases_lt t 64)

  -- among the squares of w only the ones in l are risky, if elsewhere the king keeps a flight when the man
  -- arrives
  pub only_these_are_risky : (s w l r : ℕ) → man_on p.men s ≡ Some x → w < 2 ^ 64 → same_kind x.kind King ≡ false
      → ((t : ℕ) → t < 64 → (bit_at w t == 1) ≡ true → (bit_at l t == 1) ≡ false → (captures_are_reborn rule ≡ false) × KeepsFlightBeside v.king_attack t)
      → AreRisky rule p s l r → AreRisky rule p s w r
  only_these_are_risky s w l r here fits mortal keeps are = record {
    is_decided = λ m legal origin on off. elim (cases_Bool (bit_at l m.to == 1)) [
      | inl left ↦ are.is_decided m legal origin left off
      | inr gone ↦
          let small = inside w m.to fits on in
          let kept = keeps m.to small on gone in
          man_keeps m (may_be_made rule p m legal) (ap (man_on p.men) origin ∙ here) small mortal kept.0 kept.1
    ];
  }

  -- the squares of w that are in u, where moves aren't plain, or in r
  module _ (s w u r : ℕ) (here : man_on p.men s ≡ Some x) (from : s < 64) (fits : w < 2 ^ 64) (plain : ArePlain p x s u)
      (mere : captures_are_reborn rule ≡ true → AreMere p x s u) where
    -- by what spares a move off them
    risky_by : ((m : Move) → is_legal rule p m ≡ true → is_pseudo_legal rule p m ≡ true → m.from ≡ s → m.to < 64 → (bit_at w m.to == 1) ≡ true
        → (bit_at u m.to == 1) ≡ false → (bit_at r m.to == 1) ≡ false → IsPlainMove p x m → (captures_are_reborn rule ≡ true → IsMereMove p x m)
        → mates_after rule (position_after rule p m) 0 ≡ []) → AreRisky rule p s w (bit_and w (bit_or u r))
    risky_by spares = record {
      is_decided = λ m legal origin on off.
          let small = inside w m.to fits on in
          let may = may_be_made rule p m legal in
          let both : (bit_at (bit_or u r) m.to == 1) ≡ false = off_second w (bit_or u r) m.to off on in
          let goes = rw origin at (may_go_aimed rule p x m (ap (man_on p.men) origin ∙ here) (arrival_needed rule p m small may)) in
          spares m legal may origin small on (off_left u r m.to both) (off_right u r m.to both) (plain.plain m origin small goes (off_left u r m.to both))
          (λ circe. (mere circe).mere m origin small goes (off_left u r m.to both));
    }

    module _ (fits_u : u < 2 ^ 64) where
      -- for the king's steps
      pub steps_are_risky : same_kind x.kind King ≡ true
          → ((t : ℕ) → t < 64 → (bit_at (bit_and w (bit_not w64 u)) t == 1) ≡ true → (bit_at r t == 1) ≡ false → IsDecidedStep rule v.king_attack t)
          → AreRisky rule p s w (bit_and w (bit_or u r))
      steps_are_risky king safe = risky_by (λ m legal may origin small on off none plain mere.
          let there = ap (man_on p.men) origin ∙ here in
          elim (safe m.to small (denied_on w u m.to fits_u small on off) none) [
            | inl calm ↦ king_spared m may there small (rw origin from) plain mere king calm
            | inr barred ↦ absurd (barred_is_illegal rule p m x v.king_attack well may there small plain mere king
                (at_king m may there small (rw origin from) king) threats.king_attack threats.whole threats.fits barred legal)
          ])

      -- for another man's moves
      pub moves_are_risky : same_kind x.kind King ≡ false
          → ((t : ℕ) → (bit_at (bit_and w (bit_not w64 u)) t == 1) ≡ true → (bit_at r t == 1) ≡ false → IsSafeMove v.king_attack s t)
          → AreRisky rule p s w (bit_and w (bit_or u r))
      moves_are_risky mortal safe = risky_by (λ m legal may origin small on off none plain mere.
          man_spared m may (ap (man_on p.men) origin ∙ here) small (rw origin from) plain mere mortal
          (rw origin (safe m.to (denied_on w u m.to fits_u small on off) none)))

-- another man comes only to risky squares, if these are all off which the king keeps no flight
pub needed_are_risky : (rule : RuleSet) (v : ThreatsSeen) (s w n : ℕ) → s < 64 → w < 2 ^ 64 → captures_are_reborn rule ≡ false → AreNeeded v.king_attack n
    → s ≢ v.king_attack.king → (p : Position) → IsWellFormed p → AreThreatsOf rule p v → AreRisky rule p s w (bit_and w n)
needed_are_risky rule v s w n low fits circe needed apart p well threats = record {
  is_decided = λ m legal origin on off.
      let may = may_be_made rule p m legal in
      let made = maker rule p m may in
      let small = inside rule p made.0 v well threats w m.to fits on in
      man_keeps rule p made.0 v well threats m may made.1 small
      (false_by _ (λ king. apart (sym origin ∙ sym (at_king rule p made.0 v well threats m may made.1 small (rw origin low) king)))) circe
      (needed.keeps m.to small (off_second w n m.to off on));
}

-- for `keep_flights`: no square to which the man comes is needed
pub kept_are_risky : (rule : RuleSet) (v : ThreatsSeen) (s w n : ℕ) → s < 64 → w < 2 ^ 64 → captures_are_reborn rule ≡ false → AreNeeded v.king_attack n
    → (bit_and w n == 0) ≡ true → s ≢ v.king_attack.king → (p : Position) → IsWellFormed p → AreThreatsOf rule p v → AreRisky rule p s w 0
kept_are_risky rule v s w n low fits circe needed none apart p well threats =
    rw (eqb-true (bit_and w n) 0 none) at (needed_are_risky rule v s w n low fits circe needed apart p well threats)

-- for the king's steps, where captured men aren't reborn: off the risky squares a flight stays, castlings included
pub flightless_are_risky : (rule : RuleSet) (p : Position) (v : ThreatsSeen) (s w n u r : ℕ) → IsWellFormed p → AreThreatsOf rule p v → s ≡ v.king_attack.king
    → s < 64 → w < 2 ^ 64 → n < 2 ^ 64 → captures_are_reborn rule ≡ false → n ≡ word (λ t. list_any (leaps s t) queen_steps) → u ≡ bit_not w64 n
    → ((t : ℕ) → t < 64 → (bit_at (bit_and w (bit_not w64 u)) t == 1) ≡ true → (bit_at r t == 1) ≡ false → KeepsFlight rule v.king_attack t)
    → AreRisky rule p s w (bit_and w (bit_or u r))
flightless_are_risky rule p v s w n u r well threats at low fits fits_n circe near castlings keeps =
    let king = king_on p.men p.turn s (rw (← at) at (sym threats.fits.king)) in
    let x = king.0 in
    steps_are_risky rule p x v well threats s w u r king.1.here low fits
    (record { plain = λ m from to goes off. king_plain p x m (rw from low) to n (rw from near) fits_n king.1.king (rw castlings at off) })
    (λ more. absurd (false≢true (sym circe ∙ more))) (omega (arith, castlings)) king.1.king (λ t small on off. inl (inr (keeps t small on off)))
