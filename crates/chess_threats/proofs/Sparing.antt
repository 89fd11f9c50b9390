-- No reply mates after a defender's move without risk.
use Rattle.chess_threats.proofs.Chess.{AreFree, AreLaterHurdles, Colour, KingZone, IsArrival, IsAttacker, IsCaptured, IsCastlingHarmless, IsCheckWord, IsFlight, IsHome, IsHurdle, IsMade, IsMereMove, IsNear, IsOff, IsPlainMove, IsQuiet, IsReborn, IsRiskAt, IsShut, IsShutAt, IsKingAttack, IsKingAttackOf, IsUnguarded, IsUnhopped, IsWeakAt, IsWellFormed, Kind, King, List, Man, MayRide, Move, Nightrider, None, Option, Pawn, Position, Risk, RuleSet, KingAttack, Some, [], after_well_formed, all_triples, and_from, and_left, and_parts, and_right, ap, arith, arrival_needed, arrived, arriving_colour, arriving_king, arriving_man, bit_at, capture_of_piece, capture_square, captured_enemy, captured_man, captures_are_reborn, cases_Bool, cases_eq, castle_of, corner, eq-eqb, eqb-true, false, false_by, false_from_ne_true, false≢true, file_of, gait_of, halfway, has_flight, has_unmoved, in_check, inl, inr, is_absent, is_arrival_free, is_attacked, is_attacked_at, is_attacker, is_castling, is_double_step, moves_on_fairy_lines, is_hopper, is_legal, is_man, is_of_colour, is_promoting, is_pseudo_legal, is_rider, is_some, is_square, king-back, king_after, king_is, king_is_after, king_square, king_stands, king_there, leaps, list_any, made, maker, man_on, man_there, mates, mates_after, may_check_from, may_arrive, may_go_aimed, men_on, moved_men, moved_plainly, off_second, off_zero, on_board, or_cases, or_parts, other, other_twice, position_after, position_after_by, queen_steps, reached_over, reaches_as, reaches_back, rebirth, reborn_is, reborn_square, refl, rules, same_colour, same_colour-refl, same_colour-true, same_kind, same_kind-true, side_of, simple_after, square_is, subst, sym, taken, there_now, true, word, word_has, ℕ, or_left, or_right, true_from_ne_false, ◌-◌, ◌<◌, ◌==◌, ◌||◌, ◌∙◌, ◌≡◌, ◌≢◌, ◌⊎◌}
use Rattle.chess_flights.proofs.Standing.{after_is, and_left_king, arrival_small, captured_there, castle_unmoved, free_man, has_one, king_reaches, mine_again, moved_stays, no_rebirth, nobody_strikes, not_mine, not_mine_enemy, piece_reaches, same_man, some_side, some_stays, stays_there, stood, stood_reborn, unfree, unnamed}
use Rattle.chess_flights.proofs.Becoming.{becomes, promotes_still}
use Rattle.chess_flights.proofs.Hurdles.{later, later_but}
use Rattle.chess_flights.proofs.Bitboards.{on_both, none_at}
use Rattle.chess_flights.proofs.KingsApart.{kings_apart}
use Rattle.chess_flights.proofs.Fleeing.{IsKingOn, no_king_free, no_mate_with_flight, step_to}
use Rattle.chess_rules.proofs.Places.{met_after-end, met_after-none}
use Rattle.chess_flights.proofs.Mating.{no_mate_quietly, not_mating, turn_after}
use Rattle.chess_threats.proofs.QuietCastling.{castles_quietly}
use Rattle.chess_flights.specs.ties.Approaches.{MayBecome}

no_fairy_hops : (k : Kind) → moves_on_fairy_lines k ≡ false → is_hopper (gait_of k) ≡ false
no_fairy_hops k plain = grind arith

man_of : (o : Option Man) → is_some o ≡ true → (z : Man) × (o ≡ Some z)
man_of o h = grind arith

-- the move m of the defender, plain, without risk
pub record IsSpared (rule : RuleSet) (p : Position) (m : Move) (x : Man) (v : KingAttack) (k : ℕ) (r : Risk) : Type 0 where
  pub plain : IsPlainMove p x m
  pub mere : captures_are_reborn rule ≡ true → IsMereMove p x m
  pub king_attack : IsKingAttack v
  pub fits : IsKingAttackOf rule p v
  pub at : IsRiskAt v k r
  pub off : IsOff v.hurdles r m.from m.to
  pub shut : IsShutAt v m.from
  pub off_king : (e : ℕ) → e < 64 → (bit_at v.hurdles e == 1) ≡ true → e ≢ k
  pub whole : (e : ℕ) → e < 64 → e ≢ m.from → IsHurdle v.own v.enemies k v.hurdles e

-- an arrival stays free where no man comes
free_kept : (c : Colour) (o u : Option Man) → ((z : Man) → o ≡ Some z → u ≡ Some z) → is_of_colour u c ≡ false → is_man u (other c) King ≡ false
    → is_arrival_free c o ≡ true
free_kept c o u kept side king = grind (arith, free_man c u side king)

vacant_kept : (o u : Option Man) → ((z : Man) → o ≡ Some z → u ≡ Some z) → (is_some u ≡ true → ⊥) → o ≡ None
vacant_kept o u kept none = grind arith

-- nobody is on both sides
one_side : (z : Man) (c : Colour) → z.colour ≡ other c → z.colour ≡ c → ⊥
one_side z c enemy mine = false≢true (sym (not_mine z c enemy) ∙ rw mine (same_colour-refl c))

-- a man on a square is one of the two sides'
of_either : (o : Option Man) (c : Colour) → is_some o ≡ (is_of_colour o c || is_of_colour o (other c))
of_either o c = grind arith

-- the enemy king stays
enemy_king : (rule : RuleSet) (p : Position) (x : Man) (m : Move) → IsWellFormed p → IsMade rule p x m → m.to < 64
    → king_square (arrived p x m) (other p.turn) ≡ king_square p.men (other p.turn)
enemy_king rule p x m well is to =
    let caught = λ (s : ℕ) (at : is_square (capture_square p x m) s ≡ true). taken rule p x m s well is (square_is (capture_square p x m) s at) in
    king_stands _ _ _ _ _ _ (search (rules, arith, no_king_free, caught, and_left, and_right, arriving_colour, not_mine_enemy))

module _ (rule : RuleSet) (p : Position) (m : Move) (x : Man) (v : KingAttack) (k : ℕ) (risk : Risk) (well : IsWellFormed p)
    (may : is_pseudo_legal rule p m ≡ true) (here : man_on p.men m.from ≡ Some x) (small : m.to < 64) (from : m.from < 64)
    (king : king_after p x m ≡ Some k) (i : IsSpared rule p m x v k risk) where
  abbrev g : KingZone
  g = i.at.king_zone

  is : IsMade rule p x m
  is = made rule p m x may here

  abbrev q : Position
  q = position_after rule p m

  nobody : captures_are_reborn rule ≡ true → capture_square p x m ≡ None
  nobody circe = (i.mere circe).captures

  men_q : q.men ≡ arrived p x m
  men_q = simple_after rule p x m here i.plain.castling nobody

  turn_q : q.turn ≡ other p.turn
  turn_q = turn_after rule p m may

  well_q : IsWellFormed q
  well_q = after_well_formed rule p m well may

  king_q : king_square q.men p.turn ≡ Some k
  king_q = grind (arith, men_q, king_is_after rule p x m well is small i.plain.castling)

  stood_q : (s : ℕ) (z : Man) → man_on q.men s ≡ Some z
      → ((s ≡ m.to) × (z ≡ arriving_man x m.promo)) ⊎ ((s ≢ m.to) × ((s ≢ m.from) × (man_on p.men s ≡ Some z)))
  stood_q s z there = stood p x m s z (omega (arith, small, well.size)) (rw men_q at there)

  -- an enemy stood there before
  enemy_stood : (s : ℕ) (z : Man) → man_on q.men s ≡ Some z → z.colour ≡ other p.turn → man_on p.men s ≡ Some z
  enemy_stood s z there enemy = search (rules, stood_q s z there, one_side z p.turn enemy, arriving_colour x m.promo ∙ is.mine)

  attacker : (s : ℕ) (z : Man) → s < 64 → man_on q.men s ≡ Some z → z.colour ≡ other p.turn → IsAttacker v.men z s
  attacker s z inside there enemy = i.fits.men.stand s z inside (enemy_stood s z there enemy) (enemy ∙ sym i.fits.colour)

  -- somebody stands where a side does
  somebody : (e : ℕ) → e < 64 → is_some (man_on p.men e) ≡ (bit_at v.own e == 1 || bit_at v.enemies e == 1)
  unfolding side_of
  somebody e inside =
      let has = λ (c : Colour). word_has (λ s. is_of_colour (man_on p.men s) c) in
      rw (has p.turn v.own e i.fits.own inside, has (other p.turn) v.enemies e i.fits.enemies inside) (of_either (man_on p.men e) p.turn)

  -- a hurdle stays occupied
  stays_q : (e : ℕ) → e < 64 → (bit_at v.hurdles e == 1) ≡ true → e ≢ m.from → is_some (man_on q.men e) ≡ true
  stays_q e inside on left =
      let side : (bit_at v.own e == 1 || bit_at v.enemies e == 1) ≡ true = search (rules, or_left, or_right, (i.king_attack.hurdles.men e inside on).0) in
      rw men_q (some_stays p x m e i.plain.captures (omega (arith, small, well.size)) left (somebody e inside ∙ side))

  at_k : k < 64
  at_k = (king_there q.men p.turn k king_q).0

  weak_at : (s : ℕ) (z : Man) → IsAttacker v.men z s → IsWeakAt v g z s m.from m.to
  weak_at s z a = (i.at.weak s z a).weak m.from m.to from small i.off

  -- a man that reaches the square that the defender leaves, along a line from the king
  lined : (c : Colour) (j : Kind) (t : ℕ) → t < 64 → MayRide v j → reaches_as (men_on v.hurdles) c j k t ≡ true → (bit_at g.lines t == 1) ≡ true
  unfolding reached_over
  lined c j t inside may h = (rw i.at.king at (i.at.is.lines c j may)).inside t inside h

  may_ride : (s : ℕ) (z : Man) → IsAttacker v.men z s → is_rider z.kind ≡ true → MayRide v z.kind
  may_ride s z a rider = (rider, λ kind none. none_at v.men.squares.nightriders s none (rw (same_kind-true z.kind Nightrider kind) at a.on))

  -- no line from the king ends on the square that the defender leaves
  shut_off : (c : Colour) (j : Kind) → MayRide v j → (bit_at v.hurdles m.from == 1) ≡ true → reaches_as (men_on v.hurdles) c j k m.from ≡ true → ⊥
  shut_off c j may on reach = false≢true (sym (i.at.lines m.from m.to small i.off.critical (i.off.lines on)) ∙ lined c j m.from from may reach)

  -- from off its check squares no attacker but a hopper reaches the king, where all hurdles stand but
  -- m.from and o, on none of its lines
  off_word : (men : List (Option Man)) (o s t : ℕ) (z : Man) (a : IsAttacker v.men z s) → t < 64 → is_hopper (gait_of z.kind) ≡ false
      → (bit_at (weak_at s z a).checks t == 1) ≡ false
      → ((e : ℕ) → e < 64 → (bit_at v.hurdles e == 1) ≡ true → e ≢ m.from → e ≢ o → is_some (man_on men e) ≡ true)
      → (is_rider z.kind ≡ true → (bit_at v.hurdles o == 1) ≡ true → reaches_as (men_on v.hurdles) (other z.colour) z.kind k o ≡ true → ⊥)
      → reaches_as men z.colour z.kind t k ≡ false
  unfolding reached_over
  off_word men o s t z a inside plain off stays last =
      let shut = λ (rider : is_rider z.kind ≡ true). shut_off (other z.colour) z.kind (may_ride s z a rider) in
      let over = later_but v.hurdles men m.from o (other z.colour) z.kind k t plain stays shut last in
      false_by _ (λ h. false≢true (sym off ∙ (weak_at s z a).word.inside plain t inside
      (rw i.at.king (over (sym (reaches_back men z.colour z.kind t k plain inside at_k) ∙ h)))))

  module _ (n : Move) (to : n.to < 64) (can : is_pseudo_legal rule q n ≡ true) where
    abbrev y : Man
    y = (maker rule q n can).0

    here_y : man_on q.men n.from ≡ Some y
    here_y = (maker rule q n can).1

    is_n : IsMade rule q y n
    is_n = made rule q n y can here_y

    enemy_y : y.colour ≡ other p.turn
    enemy_y = is_n.mine ∙ turn_q

    from_small : n.from < 64
    from_small = on_board q.men n.from y well_q.size here_y

    stood_y : man_on p.men n.from ≡ Some y
    stood_y = enemy_stood n.from y here_y enemy_y

    enemy_from : (bit_at v.enemies n.from == 1) ≡ true
    unfolding side_of
    enemy_from = grind (arith, word_has, i.fits.enemies, from_small, stood_y, enemy_y, same_colour-refl)

    is_y : IsAttacker v.men y n.from
    is_y = attacker n.from y from_small here_y enemy_y

    abbrev w : IsWeakAt v g y n.from m.from m.to
    w = weak_at n.from y is_y

    shuts : (corner next : ℕ) → IsShut p (other p.turn) v.castled corner next → has_unmoved q.unmoved corner ≡ true → man_on q.men next ≡ None → next < 64
        → (bit_at v.castled next == 1) ≡ true
    shuts corner next (inl moved) unmoved none low = cc (moved_stays rule p x m corner nobody i.plain.castling here moved)
    shuts corner next (inr (inl stands)) unmoved none low =
        let some = some_stays p x m next i.plain.captures (omega (arith, small, well.size)) (λ e. grind (arith, not_mine_enemy x p.turn is.mine, here))
        (some_side _ (other p.turn) stands) in
        absurd (false≢true (rw (← men_q, none) at some))
    shuts corner next (inr (inr on)) unmoved none low = on low

    -- castling gives no check
    module _ (castling : is_castling y n ≡ true) where
      king_y : same_kind y.kind King ≡ true
      king_y = (and_parts _ _ (and_parts _ _ castling).0).0

      half : halfway n < 64
      half = omega (arith, from_small, to)

      half_on : (bit_at v.castled (halfway n) == 1) ≡ true
      half_on =
          let castle = (castle_of rule q y n well_q is_n castling).1 in
          let unmoved = castle_unmoved rule q y n well_q is_n castling in
          elim (i.fits.castled.sides n.from from_small (grind (arith, stood_y, and_from, enemy_y, same_colour-refl, king_y))) [
            | inl moved ↦ absurd (false≢true (sym (moved_stays rule p x m n.from nobody i.plain.castling here moved) ∙ unmoved.0))
            | inr sides ↦ elim castle.far [
              | inl f ↦ shuts (corner n) (halfway n) (rw (f.1.0, f.1.1) sides.0) unmoved.1 castle.between half
              | inr f ↦
                  let at : (corner n ≡ n.from - 4) × (halfway n ≡ n.from - 1) = (omega (arith, f.1.0), omega (arith, f.1.1)) in
                  shuts (corner n) (halfway n) (rw (at.0, at.1) sides.1) unmoved.1 castle.between half
            ]
          ]

      harmless : IsCastlingHarmless v g
      harmless = i.at.castling m.to small i.off.critical

      unseen_from : (j : Kind) → moves_on_fairy_lines j ≡ false → is_rider j ≡ true → reaches_as q.men p.turn j k n.from ≡ false
      unseen_from j plain rider = false_by _ (λ h.
          let may : MayRide v j = (rider, λ kind. absurd (false≢true (sym plain ∙ ap moves_on_fairy_lines (same_kind-true j Nightrider kind)))) in
          let off = harmless.kings (halfway n) n.from from_small half_on (grind (arith, same_kind-true y.kind King king_y, is_y.on)) in
          false≢true (sym off ∙ lined p.turn j n.from from_small may (later v.hurdles q.men p.turn j k n.from (no_fairy_hops j plain)
          (λ r e low on reach. stays_q e low on (λ same. shut_off p.turn j may (rw same at on) (rw same at reach))) h)))

      -- no fairy man moves along lines
      no_fairy : (j : Kind) → moves_on_fairy_lines j ≡ true → (s : ℕ) → s < 64 → is_man (man_on q.men s) (other p.turn) j ≡ false
      no_fairy j fairy s inside = false_by _ (λ h.
          let z = man_there (man_on q.men s) (other p.turn) j h in
          let both = and_parts (same_colour z.0.colour (other p.turn)) (same_kind z.0.kind j) (rw z.1 at h) in
          let a = attacker s z.0 inside z.1 (same_colour-true _ _ both.0) in
          false≢true (sym (harmless.fairies (halfway n) s z.0 half_on a) ∙ ap moves_on_fairy_lines (same_kind-true z.0.kind j both.1) ∙ fairy))

      -- no enemy reaches the king now
      calm : (s : ℕ) (z : Man) → s < 64 → man_on q.men s ≡ Some z → z.colour ≡ other p.turn → reaches_as q.men z.colour z.kind s k ≡ false
      calm s z inside there enemy =
          let a = attacker s z inside there enemy in
          let plain = no_fairy_hops z.kind (harmless.fairies (halfway n) s z half_on a) in
          off_word q.men m.from s s z a inside plain ((weak_at s z a).off plain) (λ e low on left off. stays_q e low on left)
          (λ rider. shut_off (other z.colour) z.kind (may_ride s z a rider))

      castled : is_legal rule q n ≡ true → in_check rule (position_after rule q n).men p.turn ≡ false
      castled lawful =
          castles_quietly rule q y n p.turn k well_q is_n castling at_k king_q enemy_y calm unseen_from no_fairy half
          (rw (← i.at.king) (harmless.rooks (halfway n) half half_on))
          (rw (turn_q, other_twice p.turn) at (kings_apart rule q y n well_q here_y to lawful king_y))

    goes_y : may_arrive q y n.from n.to ≡ true
    goes_y = may_go_aimed rule q y n here_y (arrival_needed rule q n to can)

    -- the man that it becomes
    becomes_y : MayBecome v.men.fairy_promotions y n.to (arriving_man y n.promo)
    becomes_y = becomes v.men.fairy_promotions q y n n.promo is_n.promotion (λ j h. i.fits.promotions j (promotes_still rule p m x here j h))

    -- nobody is captured en passant
    uncrossed : same_kind y.kind Pawn ≡ true → is_square q.crossed n.to ≡ false
    unfolding position_after position_after_by
    uncrossed pawn = rw here (elim (cases_Bool (is_double_step x m)) [
      | inr single ↦ rw single refl
      | inl double ↦ rw double (false_by _ (λ h. let at : halfway m ≡ n.to = eqb-true (halfway m) n.to h in
          cc (i.plain.uncontested.freely double q n.from y from_small (omega (arith, at, to)) stood_y (enemy_y ∙ ap other (sym is.mine)) pawn, goes_y)))
    ])

    captures_q : (s : ℕ) → capture_square q y n ≡ Some s → s ≡ n.to
    captures_q s cap = search (rules, cases_Bool (same_kind y.kind Pawn), captured_there q y n s, capture_of_piece q y n s, uncrossed)

    module _ (plain_n : is_castling y n ≡ false) where
      abbrev r : Position
      r = position_after rule q n

      abbrev landed : List (Option Man)
      landed = arrived q y n

      -- the man that is reborn: one of the defender's, on a closed square that was empty
      module _ (s : ℕ) (at : reborn_square rule q y n ≡ Some s) where
        b : IsReborn (captures_are_reborn rule) (moved_men q y n) (captured_man q y n) (capture_square q y n) s
        b = reborn_is rule q y n s at

        defends : b.man.colour ≡ p.turn
        defends = mine_again b.man.colour p.turn (ap (same_colour b.man.colour) (sym turn_q) ∙ captured_enemy rule q y n b.man well_q is_n b.who)

        circe : captures_are_reborn rule ≡ true
        circe = true_from_ne_false _ (λ off. false≢true (ap is_some (sym (no_rebirth rule q y n (λ on. absurd (false≢true (sym off ∙ on)))) ∙ at)))

        taken_on : b.square ≡ n.to
        taken_on = captures_q b.square b.where_taken

        home_from : (e : ℕ) → (same_kind b.man.kind Pawn ≡ true → file_of n.to ≡ file_of e) → IsHome b.man e s
        home_from e file = record { square = n.to; file = file; reborn = ap (rebirth b.man.colour b.man.kind) (sym taken_on) ∙ b.home }

        closed_s : (bit_at v.closed s == 1) ≡ true
        closed_s = elim (stood_q n.to b.man (grind (arith, taken_on, b.where_taken, b.who))) [
          | inl came ↦
              let mere = i.mere circe in
              let same : b.man ≡ x = came.1 ∙ ap (arriving_man x) (unnamed p x m m.promo mere.unpromoted is.promotion) in
              (i.fits.closed.homes circe).homes m.from s b.man from (rw same here) defends
              (home_from m.from (λ pawn. ap file_of came.0 ∙ mere.file (rw same at pawn)))
          | inr kept ↦ (i.fits.closed.homes circe).homes n.to s b.man to kept.1.1 defends (home_from n.to (λ pawn. refl))
        ]

      well_r : IsWellFormed r
      well_r = after_well_formed rule q n well_q can

      king_landed : king_square landed p.turn ≡ Some k
      king_landed =
          subst (λ (c : Colour). king_square landed c ≡ king_square q.men c) (ap other turn_q ∙ other_twice p.turn) (enemy_king rule q y n well_q is_n to)
          ∙ king_q

      abbrev ShownPositions : ℕ → Man → Type 0
      ShownPositions s z = ((s ≡ n.to) × (z ≡ arriving_man y n.promo)) ⊎ ((s ≢ n.to) × ((s ≢ n.from) × (man_on q.men s ≡ Some z)))

      abbrev IsNew : ℕ → Type 0
      IsNew s = ((bit_at v.closed s == 1) ≡ true) × (captures_are_reborn rule ≡ true)

      -- a man on a square was there before, or is reborn there
      same_or_new : (s : ℕ) → (man_on r.men s ≡ man_on landed s)
          ⊎ ((man_on landed s ≡ None) × ((z : Man) × ((man_on r.men s ≡ Some z) × ((z.colour ≡ p.turn) × IsNew s))))
      same_or_new s =
          rw (after_is rule q y n here_y, moved_plainly q y n plain_n) (elim (stood_reborn landed (reborn_square rule q y n) (captured_man q y n) s) [
            | inl same ↦ inl same
            | inr new ↦
                let who : new.1.0 ≡ (b s new.0).man = same_man _ _ (sym new.1.1.0 ∙ (b s new.0).who) in
                inr (
                  rw (moved_plainly q y n plain_n) at (b s new.0).empty,
                  (new.1.0, (new.1.1.1, (rw who (defends s new.0), (closed_s s new.0, circe s new.0)))),
                )
          ])

      king_r : king_square r.men p.turn ≡ Some k
      king_r = king_is r.men p.turn k well_r.kings at_k (search (rules, same_or_new k, (king_there landed p.turn k king_landed).1, false≢true))

      stood_r : (s : ℕ) (z : Man) → man_on r.men s ≡ Some z → ShownPositions s z ⊎ ((z.colour ≡ p.turn) × IsNew s)
      stood_r s z there = search (rules, same_or_new s, stood q y n s z (omega (arith, to, well_q.size)), same_man)

      -- no attacker is new
      enemy_r : (s : ℕ) (z : Man) → man_on r.men s ≡ Some z → z.colour ≡ other p.turn → ShownPositions s z
      enemy_r s z there enemy = search (rules, stood_r s z there, one_side z p.turn enemy)

      -- the man comes over the hurdles, and to another attacker's square only if that one has been captured
      arrival : IsArrival v.hurdles y n.from n.to
      unfolding reached_over
      arrival = record {
        small = to;
        position = q;
        goes = goes_y;
        reaches = λ piece plain. later v.hurdles q.men y.colour y.kind n.from n.to plain
            (λ rider e inside on h. stays_q e inside on
            (λ same. false≢true (sym (i.shut.shut n.from y is_y rider (rw same at on)) ∙ (rw same at h))))
            (piece_reaches rule q y n is_n piece plain_n);
      }

      recaptures : (bit_at v.enemies n.to == 1) ≡ true → m.to ≡ n.to
      unfolding side_of
      recaptures on = elim (cases_eq m.to n.to) [
        | inl e ↦ e
        | inr ne ↦
            let enemy = sym (word_has (λ s. is_of_colour (man_on p.men s) (other p.turn)) v.enemies n.to i.fits.enemies to) ∙ on in
            let kept = stays_there p x m n.to i.plain.captures (λ e. grind (arith, not_mine_enemy x p.turn is.mine, here)) (λ e. ne (sym e)) in
            absurd (unfree (other p.turn) (man_on q.men n.to) (rw turn_q at is_n.arrival) (rw (← kept, ← men_q) at enemy))
      ]

      -- hurdles stay, or the man that captures one replaces it
      stays_r : (e : ℕ) → e < 64 → (bit_at v.hurdles e == 1) ≡ true → e ≢ m.from → e ≢ n.from → is_some (man_on r.men e) ≡ true
      stays_r e inside on left off =
          search (rules, same_or_new e, some_stays q y n e captures_q (omega (arith, to, well_q.size)) off (stays_q e inside on left))

      -- on a board where they stay
      module _ (men : List (Option Man)) (stays : (e : ℕ) → e < 64 → (bit_at v.hurdles e == 1) ≡ true → e ≢ m.from → e ≢ n.from → is_some (man_on men e) ≡ true)
        where
          -- another attacker reaches no square that is unguarded once y has gone
          unguarded_off : (s t : ℕ) (z : Man) → t < 64 → IsAttacker v.men z s → s ≢ n.from → is_hopper (gait_of z.kind) ≡ false → IsUnguarded v n.from m.from t
              → reaches_as men z.colour z.kind s t ≡ false
          unfolding reached_over
          unguarded_off s t z inside a ne plain u = false_from_ne_true _ (λ h.
              let near : IsNear z s u.region = record { square = t; small = inside; on = u.near; men = men; reaches = h } in
              false≢true (sym u.off ∙ (u.are.guards s z a (λ e. ne (sym e)) plain near).inside t inside
              (later_but u.are.hurdles men m.from n.from z.colour z.kind s t plain (λ e low on left off. stays e low (u.are.kept e low on).0 left off)
              (λ rider on reach. false≢true (sym (u.shut (u.are.kept m.from from on).0)
              ∙ (u.are.rides s z a (λ e. ne (sym e)) rider near).inside m.from from reach))
              (λ rider on reach. (u.are.kept n.from from_small on).1 refl) h)))

          -- y reaches no king from a square from which it gives no check
          quiet_off : (bit_at w.checks n.to == 1) ≡ false → reaches_as men y.colour y.kind n.to k ≡ false
          unfolding reached_over
          quiet_off quiet =
              let word = subst (λ (j : ℕ). IsCheckWord v.hurdles j y w.checks) i.at.king w.word in
              elim (cases_Bool (is_hopper (gait_of y.kind))) [
                | inl hop ↦ false_from_ne_true _ (λ h. false≢true (sym quiet ∙ (word.hops hop).inside men n.to to h))
                | inr plain ↦ off_word men n.from n.from n.to y is_y to plain quiet stays
                    (λ rider on reach. false≢true (sym (w.off plain) ∙ word.inside plain n.from from_small reach))
              ]

      -- a free springboard has no man but the one that came last, the one before, or the king on its own
      -- square
      stands_r : (boards h : ℕ) (z : Man) → AreFree v k boards → (bit_at boards h == 1) ≡ true → h < 64 → h ≢ k → h ≢ m.to → h ≢ n.to
          → man_on r.men h ≡ Some z → ⊥
      stands_r boards h z free on low apart before last there = elim (stood_r h z there) [
        | inr new ↦ false≢true (sym (free.closed h on low apart) ∙ new.1.0)
        | inl old ↦ search (rules, old, before, last, stood_q h z, somebody h low, free.own h on low apart, free.enemies h on low apart, false≢true)
      ]

      -- a man elsewhere than on the two arrivals is on a later hurdle
      standing : (d h : ℕ) (z : Man) → AreLaterHurdles v k n.from d → h < 64 → h ≢ k → h ≢ n.to → man_on r.men h ≡ Some z
          → ((bit_at d h == 1) ≡ true) ⊎ (h ≡ m.to)
      standing d h z are low apart off there = elim (stood_r h z there) [
        | inr new ↦ inl (are.closed h low new.1.0 apart (λ none. none_at _ n.from none
            (on_both v.closed v.enemies n.from (i.fits.closed.others new.1.1 n.from from_small (rw stood_y refl)) enemy_from)))
        | inl old ↦ search (rules, or_cases, old, off, stood_q h z, somebody h low, i.whole h low, are.hurdles h low)
      ]

      -- no hopper reaches t over springboards to which no attacker has come, on a board with no men but
      -- the men of r and the one on t
      unhopped : (t w : ℕ) → IsUnhopped v k t w → ((h : ℕ) → (bit_at w h == 1) ≡ true → (bit_at g.hops h == 1) ≡ true)
          → (bit_at w n.to == 1) ≡ false → (men : List (Option Man))
          → ((h : ℕ) (y : Man) → h ≢ t → man_on men h ≡ Some y → (h ≢ k) × (man_on r.men h ≡ Some y))
          → (s : ℕ) (z : Man) → IsAttacker v.men z s → is_hopper (gait_of z.kind) ≡ true → reaches_as men z.colour z.kind s t ≡ false
      unhopped t w u hops off men stand s z a hop = false_from_ne_true _ (λ h.
          let b = u.are.sprung men s z a hop h in
          let y = man_of (man_on men b.square) b.stands in
          let on = u.within b.square b.on in
          let at = stand b.square y.0 b.apart y.1 in
          let critical = i.at.hops m.to small i.off.critical in
          stands_r u.springboards b.square y.0 u.free b.on b.small at.0
          (λ e. false≢true (sym (critical (λ king. at.0 (e ∙ king ∙ i.at.king))) ∙ rw e at (hops b.square on)))
          (λ e. false≢true (sym off ∙ rw e at on)) at.1)

      -- kings stay apart
      king_comes : is_legal rule q n ≡ true → same_kind y.kind King ≡ true → reaches_as r.men y.colour y.kind n.to k ≡ false
      unfolding may_check_from reaches_as
      king_comes lawful king =
          let apart = rw (turn_q, other_twice p.turn, king_q) at (kings_apart rule q y n well_q here_y to lawful king) in
          king_reaches r.men q.men y.colour y.kind n.to k (same_kind-true y.kind King king) ∙ (or_parts (is_absent q.men y) _ apart).1

      abbrev come : Man
      come = arriving_man y n.promo

      -- where the man gives no check
      quiet_come : IsQuiet v g w.checks y n.from m.from n.to → is_legal rule q n ≡ true → reaches_as r.men come.colour come.kind n.to k ≡ false
      quiet_come quiet lawful = elim (cases_Bool (is_promoting y n.to)) [
        | inl last ↦ false_by _ (λ h. false≢true (sym (quiet.check.promoted last)
            ∙ i.at.is.promotions.inside y come n.to r.men is_y.mine to last becomes_y (rw (← i.at.king) at h)))
        | inr stays ↦ subst (λ (u : Man). reaches_as r.men u.colour u.kind n.to k ≡ false)
            (sym (ap (arriving_man y) (unnamed q y n n.promo stays is_n.promotion))) (elim (cases_Bool (same_kind y.kind King)) [
              | inr mortal ↦ quiet_off r.men stays_r (quiet.check.off mortal)
              | inl king ↦ king_comes lawful king
            ])
      ]

      -- where what has come gives no check, and no other man checks
      module _ (off : reaches_as r.men come.colour come.kind n.to k ≡ false) (unsprung : (bit_at g.springboards n.to == 1) ≡ false)
          (covered : ((bit_at g.lines n.from == 1) ≡ false) ⊎ IsUnguarded v n.from m.from g.king) where
        unseen : (s : ℕ) (z : Man) → s < 64 → man_on r.men s ≡ Some z → z.colour ≡ other p.turn → reaches_as r.men z.colour z.kind s k ≡ false
        unseen s z inside there enemy = elim (enemy_r s z there enemy) [
          | inl came ↦ rw (came.1, came.0) off
          | inr kept ↦
              let a = attacker s z inside kept.1.1 enemy in
              elim (cases_Bool (is_hopper (gait_of z.kind))) [
                | inl hop ↦ unhopped k g.springboards (rw i.at.king at (i.at.unsprung m.to small i.off.critical)) i.at.is.hop_targets.within
                    unsprung r.men (λ h y ne there. (ne, there)) s z a hop
                | inr plain ↦ elim covered [
                  | inl hidden ↦ off_word r.men n.from s s z a inside plain ((weak_at s z a).off plain) stays_r
                      (λ rider on reach. false≢true (sym hidden ∙ lined (other z.colour) z.kind n.from from_small (may_ride s z a rider) reach))
                  | inr u ↦ unguarded_off r.men stays_r s k z at_k a kept.1.0 plain (rw i.at.king at u)
                ]
              ]
        ]

        no_check : in_check rule r.men (other q.turn) ≡ false
        unfolding in_check is_attacked is_attacker
        no_check = ap (in_check rule r.men) (ap other turn_q ∙ other_twice p.turn)
            ∙ ap (λ (o : Option ℕ). is_attacked_at rule r.men o (other p.turn)) king_r ∙ nobody_strikes rule r.men k p.turn unseen

      -- a free square next to the king that nobody reaches
      module _ (f : ℕ) (in_f : f < 64) (near : list_any (leaps k f) queen_steps ≡ true) (free : is_arrival_free p.turn (man_on r.men f) ≡ true)
          (vacant : captures_are_reborn rule ≡ true → man_on r.men f ≡ None) (unguarded : IsUnguarded v n.from m.from f)
          (unsprung : (men : List (Option Man)) → ((h : ℕ) (y : Man) → h ≢ f → man_on men h ≡ Some y → (h ≢ k) × (man_on r.men h ≡ Some y))
          → (s : ℕ) (z : Man) → IsAttacker v.men z s → n.from ≢ s → is_hopper (gait_of z.kind) ≡ true → reaches_as men z.colour z.kind s f ≡ false)
          (comes_off : f ≢ n.to → (men : List (Option Man)) → ((h : ℕ) (y : Man) → h ≢ f → man_on men h ≡ Some y → (h ≢ k) × (man_on r.men h ≡ Some y))
          → reaches_as men (arriving_man y n.promo).colour (arriving_man y n.promo).kind n.to f ≡ false) where
        -- no enemy attacks the king that has gone there
        module _ (z : Man) (stands : IsKingOn r.men p.turn k z) where
          abbrev fled : List (Option Man)
          fled = arrived r z (step_to k f)

          stays_then : (e : ℕ) → e < 64 → (bit_at v.hurdles e == 1) ≡ true → e ≢ m.from → e ≢ n.from → is_some (man_on fled e) ≡ true
          stays_then e inside on left off =
              some_stays r z (step_to k f) e (λ s. capture_of_piece r z (step_to k f) s (and_left_king z stands.king)) (omega (arith, in_f, well_r.size))
              (i.off_king e inside on) (stays_r e inside on left off)

          stood_then : (h : ℕ) (y : Man) → h ≢ f → man_on fled h ≡ Some y → (h ≢ k) × (man_on r.men h ≡ Some y)
          stood_then h y ne there =
              elim (stood r z (step_to k f) h y (omega (arith, in_f, well_r.size)) there) [ inl came ↦ absurd (ne came.0) | inr kept ↦ kept.1 ]

          unreached : (s : ℕ) (u : Man) → s < 64 → man_on fled s ≡ Some u → u.colour ≡ other p.turn → reaches_as fled u.colour u.kind s f ≡ false
          unreached s u inside there enemy = elim (stood r z (step_to k f) s u (omega (arith, in_f, well_r.size)) there) [
            | inl came ↦ absurd (false≢true (rw came.1 at (sym (not_mine u p.turn enemy)) ∙ stands.mine))
            | inr kept ↦ elim (enemy_r s u kept.1.1 enemy) [
              | inl came ↦ rw (came.1, came.0) (comes_off (λ e. kept.0 (came.0 ∙ sym e)) fled stood_then)
              | inr stays ↦
                  let a = attacker s u inside stays.1.1 enemy in
                  elim (cases_Bool (is_hopper (gait_of u.kind))) [
                    | inl hop ↦ unsprung fled stood_then s u a (λ e. stays.1.0 (sym e)) hop
                    | inr plain ↦ unguarded_off fled stays_then s f u in_f a stays.1.0 plain unguarded
                  ]
            ]
          ]

        flees : has_flight rule r ≡ true
        flees =
            has_one rule r p.turn k f well_r (turn_after rule q n can ∙ ap other turn_q ∙ other_twice p.turn) king_r in_f near free vacant unreached

      -- a flight that is left
      module _ (flight : IsFlight v g (arriving_man y n.promo) n.from m.from m.to n.to) where
        abbrev f : ℕ
        f = flight.square

        open_f : (bit_at v.closed f == 1) ≡ false
        open_f = i.at.is.hop_targets.near.free f flight.left.small flight.left.on

        -- a man there was there before
        stood_f : (z : Man) → man_on r.men f ≡ Some z → man_on p.men f ≡ Some z
        stood_f z e = search (rules, stood_r f z e, stood_q f z, open_f, flight.left.off, flight.left.elsewhere, false≢true)

        left_flees : has_flight rule r ≡ true
        left_flees =
            flees f flight.left.small
            (subst (λ (j : ℕ). list_any (leaps j f) queen_steps ≡ true) i.at.king (i.at.is.hop_targets.near.next f flight.left.small flight.left.on))
            (free_kept p.turn _ _ stood_f (false_by _ (λ own. false≢true (sym open_f ∙ i.fits.closed.own f flight.left.small own)))
            (false_by _ (λ king. false≢true (sym (i.at.is.hop_targets.near.kings f flight.left.small flight.left.on) ∙ i.fits.kings f flight.left.small king))))
            (λ circe. vacant_kept _ _ stood_f (λ some. false≢true (sym open_f ∙ i.fits.closed.others circe f flight.left.small some)))
            flight.unguarded (λ men stand s z a ne hop. unhopped f g.hops
            (subst (λ (j : ℕ). IsUnhopped v j f g.hops) i.at.king (i.at.is.hop_targets.unsprung f flight.left.small flight.left.on))
            (λ h on. on) (flight.unsprung s z a ne hop) men stand s z a hop)
            (λ ne men stand. flight.left.unreached men (record {
              stand = λ h low apart off some.
                  let y = man_of (man_on men h) some in
                  let at = stand h y.0 apart y.1 in
                  let are = subst (λ (j : ℕ). AreLaterHurdles v j n.from flight.hurdles) i.at.king flight.are in
                  (λ e. at.0 (e ∙ i.at.king), standing flight.hurdles h y.0 are low at.0 off at.1);
            }))

      -- the man captures the one that has come
      module _ (captured : IsCaptured v g n.from m.from n.to) where
        near : list_any (leaps k n.to) queen_steps ≡ true
        near = rw i.at.king at (i.at.is.captures.next n.to to captured.on)

        capture_flees : same_kind y.kind King ≡ false → has_flight rule r ≡ true
        unfolding side_of
        capture_flees mortal =
            let there = there_now q.men n.from (capture_square q y n) n.to (arriving_man y n.promo) (omega (arith, to, well_q.size)) in
            let came : man_on r.men n.to ≡ Some (arriving_man y n.promo) = search (rules, same_or_new n.to, there, false≢true) in
            flees n.to to near
            (rw came (free_man p.turn (Some (arriving_man y n.promo)) (rw (arriving_colour y n.promo) (not_mine y p.turn enemy_y))
            (and_right _ _ (false_by _ (λ king. false≢true (sym mortal ∙ (rw (arriving_king q y n n.promo is_n.promotion king) at king)))))))
            (λ circe. absurd (false≢true (sym (i.at.is.captures.off n.to n.from captured.on from_small enemy_from)
            ∙ i.fits.closed.others circe n.from from_small (rw stood_y refl))))
            captured.unguarded (λ men stand s z a ne hop. absurd (false≢true (sym (i.at.is.captures.plain n.to s z captured.on a) ∙ hop)))
            (λ ne. absurd (ne refl))

        unmated_captured : mates rule q n ≡ false
        unfolding reaches_as
        unmated_captured = elim (cases_Bool (same_kind y.kind King)) [
          | inr mortal ↦ sym (no_mate_with_flight rule q n (capture_flees mortal))
          | inl king ↦ sym (no_mate_quietly rule q n (λ lawful. absurd (false≢true (sym (king_comes lawful king)
              ∙ rw (same_kind-true y.kind King king) (king-back n.to k to at_k ∙ near)))))
        ]

      unmated_plainly : mates rule q n ≡ false
      unmated_plainly = elim (w.mild.each n.to arrival recaptures) [
        | inr ways ↦ elim ways [
          | inl captured ↦ unmated_captured captured
          | inr leaves ↦ elim (leaves come becomes_y) [
            | inl flight ↦ sym (no_mate_with_flight rule q n (left_flees flight))
            | inr calm ↦ sym (no_mate_quietly rule q n (λ lawful. no_check (rw i.at.king at (calm.off r.men)) calm.unsprung (inr calm.covered)))
          ]
        ]
        | inl quiet ↦ sym (no_mate_quietly rule q n (λ lawful. no_check (quiet_come quiet lawful) quiet.check.unsprung quiet.covered))
      ]

    unmated : mates rule q n ≡ false
    unmated = search (rules, cases_Bool (is_castling y n), no_mate_quietly, castled, unmated_plainly, turn_q, other_twice)

  -- for each way of the defender
  pub no_mate_after : mates_after rule q 0 ≡ []
  no_mate_after =
      met_after-none (mates rule q) 0 all_triples (λ lt. omega arith) (omega arith) (record {
        fails = λ j lo hi. search (rules, cases_Bool, unmated, arrival_small, not_mating);
      })
      ∙ met_after-end (mates rule q) all_triples (omega arith)

-- for one square and its word
pub ruleset one_square = (eq-eqb, eqb-true, off_second, off_zero, word_has)
