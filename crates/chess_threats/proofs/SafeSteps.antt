-- King's steps after which no attacker that checks takes all flights.
use Rattle.chess_threats.proofs.Chess.{AreAdjacent, AreGuardsWithout, AreReached, Colour, IsArrival, IsAttacker, IsCastlingHarmless, IsKingZone, IsFlight, IsLeft, IsNear, IsRiskAt, IsSafeStep, IsSparedStep, IsUnguarded, IsWeak, KeepsFlight, Kind, King, KingAttack, KingZone, Man, Risk, RuleSet, Some, ap, arith, bit_and, bit_at, bit_not, bit_or, cases_Bool, eq-eqb, eqb-true, every_square_on, false, false_by, false≢true, gait_of, inl, inr, is_hopper, is_leaper, is_promoting, is_rider, is_square, men_on, not, not-false, off_left, off_right, off_zero, on_first, or_lt, other, reached_over, reaches_back, refl, same_kind, subst, sym, true, w64, word, word_has, ℕ, ◌<◌, ◌==◌, ◌^◌, ◌∙◌, ◌≡◌, ◌≢◌, ◌⊎◌, value_for, Bool}
use Rattle.chess_threats.specs.declared.lasting_flights.OpenTargets.{OpenTargets}
use Rattle.chess_flights.specs.ties.Attackers.{is_promotion}
use Rattle.chess_threats.specs.ties.KingAttack.{IsMild, AreChecksMet, AreGuardsThrough, ArePlainAttackers, AreUnhopping, IsCalm, IsCheckMet}
use Rattle.chess_flights.specs.ties.Approaches.{MayBecome, counts_as}
use Rattle.chess_threats.specs.ties.LastingFlights.{AreOpenTargets}
use Rattle.chess_attacks.proofs.rays.OnSquares.{one_on}
use Rattle.chess_flights.proofs.Becoming.{counted_left, reaches_counted, unchanged}
use Rattle.chess_threats.proofs.ExactSteps.{none_hops}
use Rattle.chess_flights.proofs.Bitboards.{off_denied, on_both, denied_on, none_at}
use Rattle.chess_flights.proofs.Hurdles.{all_reach, later}
use Rattle.chess_flights.proofs.KindByKind.{man_is}
use Rattle.chess_threats.proofs.Risks.{king_targets}
use Rattle.chess_threats.proofs.Springboards.{landing_anywhere, none_sprung}

-- for `guards_through`
pub guards_through_are : (v : KingAttack) (n r l : ℕ) → n < 2 ^ 64
    → ((k : Kind) (s : ℕ) → (bit_at (value_for v.men.squares k) s == 1) ≡ true → (bit_at n s == 1) ≡ true)
    → AreReached (bit_and v.hurdles (bit_not w64 n)) v.men (bit_not w64 0) is_rider r
    → AreReached (bit_and v.hurdles (bit_not w64 n)) v.men (bit_not w64 0) is_leaper l → AreGuardsThrough v (bit_or r l)
unfolding reached_over
guards_through_are v n r l fits stand rides leapt =
    let d = bit_and v.hurdles (bit_not w64 n) in
    record {
      hurdles = d;
      kept = λ e small on. on_first v.hurdles _ e on;
      off = λ s x i. false_by _ (λ on. false≢true (sym (off_denied v.hurdles n s fits i.small on) ∙ stand x.kind s i.on));
      guards = λ s x i plain. record {
        inside = λ t small h.
            let near : IsNear x s (bit_not w64 0) = record { square = t; small = small; on = every_square_on t small; men = men_on d; reaches = h } in
            ((all_reach d v.men (bit_not w64 0) r l rides leapt).reach s x i (ap not plain) near).inside t small h;
      };
    }

-- where a queen's check is met, so is a rook's or a bishop's
counted_met : (w t k : ℕ) (z : Man) → IsCheckMet w (record { colour = z.colour; kind = counts_as z.kind }) t k → IsCheckMet w z t k
counted_met w t k z (inl never) = inl (λ men. false_by _ (λ r. false≢true (sym (never men) ∙ reaches_counted men z.colour z.kind t k r)))
counted_met w t k z (inr one) = inr (one.0, counted_left w t one.0 z one.1)

-- a promoted man counts as no king
counts_mortally : (b : Bool) (j : Kind) → is_promotion b j ≡ true → same_kind (counts_as j) King ≡ false
counts_mortally b j may = grind (arith, false≢true)

-- a rider is no hopper
rider_plain : (j : Kind) → is_rider j ≡ true → is_hopper (gait_of j) ≡ false
rider_plain j rider = grind (arith, false≢true)

-- all squares
abbrev everywhere : ℕ
everywhere = bit_not w64 0

-- a square next to the king's is another one, if it isn't one of `only`
apart : (k o f : ℕ) → o ≡ word (λ q. is_square (Some k) q) → k < 64 → (bit_at o f == 1) ≡ false → f ≢ k
apart k o f only small off same =
    false≢true (sym off ∙ ap (λ (n : ℕ). bit_at o n == 1) same ∙ word_has (λ q. is_square (Some k) q) o k only small ∙ eq-eqb k k refl)

-- the risk at k alone
abbrev elsewhere : ℕ → ℕ
elsewhere k = word (λ q. not (is_square (Some k) q))

critical_at : (k : ℕ) → k < 64 → (bit_at (elsewhere k) k == 1) ≡ false
critical_at k small = word_has (λ q. not (is_square (Some k) q)) (elsewhere k) k refl small ∙ ap not (eq-eqb k k refl)

critical_off : (k b : ℕ) → b < 64 → (bit_at (elsewhere k) b == 1) ≡ false → b ≡ k
critical_off k b small off =
    sym (eqb-true k b (not-false _ (sym (word_has (λ q. not (is_square (Some k) q)) (elsewhere k) b refl small) ∙ off)))

module _ (v : KingAttack) (w k near : ℕ) (through : AreGuardsThrough v w) (plain : ArePlainAttackers v) (low : k < 64)
    (adjacent : AreAdjacent v k near) (free : (bit_at w k == 1) ≡ false) where
  unhopping : AreUnhopping v.men
  unhopping = none_hops v.men plain.grasshoppers

  abbrev g : KingZone
  g = record { king = k; near = near; captures = 0; straight = everywhere; diagonal = everywhere; lines = everywhere; springboards = 0; hops = 0; promotions = everywhere }

  abbrev risk : Risk
  risk = record { critical = elsewhere k; lines = everywhere }

  -- over all hurdles the attackers reach no more
  reached : (s : ℕ) (x : Man) → IsAttacker v.men x s → (t : ℕ) → t < 64 → reached_over v.hurdles x s t ≡ true → (bit_at w t == 1) ≡ true
  unfolding reached_over
  reached s x i t small h =
      let hop = unhopping.plain s x i in
      (through.guards s x i hop).inside t small
      (later through.hurdles (men_on v.hurdles) x.colour x.kind s t hop (λ rider b inside on r. one_on v.hurdles b inside ∙ through.kept b inside on) h)

  without : (s : ℕ) (x : Man) → IsAttacker v.men x s → AreGuardsWithout v s everywhere (record { ridden = w; guarded = w })
  without s x i = record {
    hurdles = through.hurdles;
    kept = λ e small on. (through.kept e small on, λ same. false≢true (sym (through.off s x i) ∙ ap (λ (n : ℕ). bit_at through.hurdles n == 1) same ∙ on));
    rides = λ q z j ne rider close. through.guards q z j (rider_plain z.kind rider);
    guards = λ q z j ne hop close. through.guards q z j hop;
  }

  unguarded : (s : ℕ) (x : Man) → IsAttacker v.men x s → (a t : ℕ) → (bit_at v.hurdles a == 1) ≡ false → t < 64 → (bit_at w t == 1) ≡ false
      → IsUnguarded v s a t
  unguarded s x i a t off small unseen = record {
    region = everywhere;
    near = every_square_on t small;
    guards = record { ridden = w; guarded = w };
    are = without s x i;
    shut = λ on. absurd (false≢true (sym off ∙ on));
    off = unseen;
  }

  field : IsKingZone v g
  field = record {
    hop_targets = record {
      near = adjacent;
      unsprung = λ f small on. landing_anywhere v k f plain.grasshoppers;
      own = none_sprung v.men k plain.grasshoppers;
      within = λ h on. absurd (none_at 0 h refl on);
    };
    captures = record {
      next = λ f small on. absurd (none_at 0 f refl on);
      off = λ f s on small stands. absurd (none_at 0 f refl on);
      plain = λ f s z on i. absurd (none_at 0 f refl on);
    };
    straight = λ c. record { inside = λ t small r. every_square_on t small };
    diagonal = λ c. record { inside = λ t small r. every_square_on t small };
    lines = λ c j may. record { inside = λ t small r. every_square_on t small };
    promotions = record { inside = λ x z t men mine small goes may h. every_square_on t small };
  }

  harmless : IsCastlingHarmless v g
  harmless = record {
    rooks = λ h small on. absurd (none_at v.castled h plain.castled on);
    kings = λ h s small on there. absurd (none_at v.castled h plain.castled on);
    fairies = λ h s x on i. absurd (none_at v.castled h plain.castled on);
  }

  module _ (o : OpenTargets) (z1 : ℕ) (are : AreOpenTargets v.men o) (only : z1 ≡ word (λ q. is_square (Some k) q)) (fits_w : w < 2 ^ 64) (fits_z : z1 < 2 ^ 64) where
    abbrev left : ℕ
    left = bit_and near (bit_not w64 (bit_or w z1))

    flight : (s : ℕ) (x : Man) → IsAttacker v.men x s → (a b t f : ℕ) (z : Man) → (bit_at v.hurdles a == 1) ≡ false → b ≡ k → IsLeft left z t f
        → IsFlight v g z s a b t
    flight s x i a b t f z off here l =
        let out = off_denied near (bit_or w z1) f (or_lt 64 w z1 fits_w fits_z) l.small l.on in
        record {
          unsprung = λ q y j ne hop. absurd (false≢true (sym (unhopping.plain q y j) ∙ hop));
          hurdles = everywhere;
          are = record { hurdles = λ e small on ne nk. every_square_on e small; closed = λ e small on nk some. every_square_on e small };
          square = f;
          left = record {
            small = l.small;
            on = on_first near _ f l.on;
            off = l.off;
            elsewhere = λ same. apart k z1 f only low (off_right w z1 f out) (same ∙ here);
            unreached = λ men stand. l.unreached men;
          };
          unguarded = unguarded s x i a f off l.small (off_left w z1 f out);
        }

    module _ (leaves : AreChecksMet v.men o left k) (s : ℕ) (x : Man) (i : IsAttacker v.men x s) (a b : ℕ)
        (off : (bit_at v.hurdles a == 1) ≡ false) (here : b ≡ k) where
      abbrev checks : ℕ
      checks = word (λ q. reached_over v.hurdles (record { colour = other x.colour; kind = x.kind }) k q)

      -- what comes to t gives no check there, or leaves a flight
      comes : (t : ℕ) (z : Man) → IsCheckMet left z t k → IsFlight v g z s a b t ⊎ IsCalm v g z s a t
      comes t z (inl never) = inr (record { off = never; unsprung = off_zero t; covered = unguarded s x i a k off low free })
      comes t z (inr one) = inl (flight s x i a b t one.0 z off here one.1)

      -- what a pawn becomes
      promoted : (t : ℕ) (c : IsArrival v.hurdles x s t) (z : Man) → MayBecome v.men.fairy_promotions x t z → is_promoting x t ≡ true → IsCheckMet left z t k
      promoted t c z become goes =
          let mortal = counts_mortally v.men.fairy_promotions z.kind (become.promoted goes) in
          counted_met left t k z (subst (λ (y : Colour). IsCheckMet left (record { colour = y; kind = counts_as z.kind }) t k) (sym (become.mine ∙ i.mine))
          (leaves.met (counts_as z.kind) mortal t c.small ((are.promoted s x i).inside c.position z t c.small c.goes goes become)))

      -- a piece, or a pawn that stays one
      unpromoted : (t : ℕ) (c : IsArrival v.hurdles x s t) → same_kind x.kind King ≡ false → IsCheckMet left x t k
      unpromoted t c piece = subst (λ (y : Man). IsCheckMet left y t k) (man_is x v.men.colour x.kind i.mine refl)
          (leaves.met x.kind piece t c.small ((are.targets s x i).inside c.position t c.small c.goes))

      mild : IsMild v g checks x s a b
      mild = record {
        each = λ t c there. elim (cases_Bool (same_kind x.kind King)) [
          | inl king ↦ inl (record { check = king_targets x g checks t king (off_zero t); covered = inr (unguarded s x i a k off low free) })
          | inr piece ↦ inr (inr (λ z become. comes t z (elim (cases_Bool (is_promoting x t)) [
            | inl goes ↦ promoted t c z become goes
            | inr stays ↦ subst (λ (y : Man). IsCheckMet left y t k) (sym (unchanged v.men.fairy_promotions x z t stays become)) (unpromoted t c piece)
          ])))
        ];
      }

    -- nobody checks now
    unchecked : (s : ℕ) (x : Man) → IsAttacker v.men x s → reached_over v.hurdles x s k ≡ false
    unchecked s x i = false_by _ (λ h. false≢true (sym free ∙ reached s x i k low h))

    module _ (leaves : AreChecksMet v.men o left k) where
      weak : (s : ℕ) (x : Man) → IsAttacker v.men x s → IsWeak v g risk x s
      unfolding reached_over
      weak s x i =
          let checks = word (λ q. reached_over v.hurdles (record { colour = other x.colour; kind = x.kind }) k q) in
          record {
            weak = λ a b inside small out. record {
              checks = checks;
              word = record {
                hops = λ hop. absurd (false≢true (sym (unhopping.plain s x i) ∙ hop));
                inside = λ hop t inner h. word_has _ checks t refl inner ∙ h;
              };
              off = λ hop. word_has _ checks s refl i.small ∙ sym (reaches_back (men_on v.hurdles) x.colour x.kind s k (unhopping.plain s x i) i.small low)
                  ∙ unchecked s x i;
              mild = mild leaves s x i a b (false_by _ (λ on. false≢true (sym (out.lines on) ∙ every_square_on a inside)))
                  (critical_off k b small out.critical);
            };
          }

      risk_is : IsRiskAt v k risk
      risk_is = record {
        king_zone = g;
        king = refl;
        is = field;
        castling = λ b small off. harmless;
        lines = λ a b small off clear. clear;
        unsprung = λ b small off. landing_anywhere v k k plain.grasshoppers;
        hops = λ b small off ne. off_zero b;
        weak = weak;
      }

      pub safe_step : (bit_at v.hurdles k == 1) ≡ false → IsSafeStep v k
      safe_step empty = record { free = empty; risk = risk; at = risk_is; off = critical_at k low }

-- for `risky_among`: a step to an occupied square, a safe one, or one that keeps a flight
pub spared_step : (rule : RuleSet) (v : KingAttack) (flightless doubtful critical t : ℕ) → v.hurdles < 2 ^ 64 → t < 64
    → ((bit_at flightless t == 1) ≡ false → KeepsFlight rule v t)
    → ((bit_at (bit_and flightless (bit_not w64 v.hurdles)) t == 1) ≡ true → (bit_at doubtful t == 1) ≡ false → (bit_at v.hurdles t == 1) ≡ false
    → IsSafeStep v t)
    → ((bit_at doubtful t == 1) ≡ true → (bit_at critical t == 1) ≡ false → (bit_at v.hurdles t == 1) ≡ false → IsSafeStep v t)
    → (bit_at (bit_or (bit_and flightless v.hurdles) critical) t == 1) ≡ false → IsSparedStep rule v t
spared_step rule v flightless doubtful critical t fits small keeps safe calm off = elim (cases_Bool (bit_at flightless t == 1)) [
  | inr kept ↦ inr (keeps kept)
  | inl on ↦
      let empty : (bit_at v.hurdles t == 1) ≡ false =
      false_by _ (λ there. false≢true (sym (off_left _ critical t off) ∙ on_both flightless v.hurdles t on there)) in
      inl (elim (cases_Bool (bit_at doubtful t == 1)) [
        | inl doubt ↦ calm doubt (off_right _ critical t off) empty
        | inr sure ↦ safe (denied_on flightless v.hurdles t fits small on empty) sure empty
      ])
]
