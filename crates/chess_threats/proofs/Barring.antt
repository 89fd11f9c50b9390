-- A king's step to an empty square is illegal if an attacker reaches the square over the hurdles.
use Rattle.chess_threats.proofs.Chess.{Colour, IsAttackedOver, IsAttacker, IsBarred, IsMade, IsMereMove, IsPlainMove, IsKingAttack, IsKingAttackOf, IsWellFormed, IsWhole, King, List, Man, Move, None, Option, Position, RuleSet, KingAttack, Some, StandAlike, and_from, and_left, ap, arith, arrived, arriving_colour, bit_and, bit_at, bit_not, bit_or, capture_square, captures_are_reborn, cases_eq, cases_lt, cond-true, like_men_paralyse, false, false_by, false≢true, gone_to, in_check, inl, inr, is_attacked, is_attacker, is_legal, is_of_colour, is_paralysed, is_pseudo_legal, is_some, king_is_after, king_square, length, length-set, made, man_on, men_on, no_reach_there, not, off_left, off_right, off_second, other, position_after, reached_over, reaches, reaches_alike, reaches_as, refl, rules, same_Bool, same_colour, same_colour-refl, same_kind, side_of, simple_after, some_square_true, sym, true, w64, word_has, ℕ, ◌<◌, ◌==◌, ◌^◌, ◌∙◌, ◌≡◌, ◌≢◌}
use Rattle.chess_threats.proofs.HomeSquares.{some_of}
use Rattle.chess_attacks.proofs.rays.OnSquares.{one_on, size_on}
use Rattle.chess_flights.proofs.Bitboards.{on_denied}
use Rattle.chess_flights.proofs.Standing.{nobody_strikes, not_mine, not_mine_enemy, some_side, stays_there, stood, unfree}
use Rattle.chess_rules.proofs.Plays.{length-without_at}
use Rattle.chess_flights.proofs.QuietFilter.{beyond}

-- for `unbarred_steps`: a step that is skipped comes to an empty square that is reached
pub barred_is : (rule : RuleSet) (v : KingAttack) (w r t : ℕ) → like_men_paralyse rule ≡ false → r < 2 ^ 64
    → ((t : ℕ) → t < 64 → (bit_at r t == 1) ≡ true → IsAttackedOver v.hurdles v.men t) → t < 64 → (bit_at w t == 1) ≡ true
    → (bit_at (bit_and w (bit_or v.hurdles (bit_not w64 r))) t == 1) ≡ false → IsBarred rule v t
barred_is rule v w r t able fits reached small on off =
    let none = off_second w (bit_or v.hurdles (bit_not w64 r)) t off on in
    record {
      able = able;
      free = off_left v.hurdles (bit_not w64 r) t none;
      attacked = reached t small (on_denied r t fits small (off_right v.hurdles (bit_not w64 r) t none));
    }

able_strikes : (s : ℕ) (men : List (Option Man)) (t : ℕ) (z : Man) → man_on men s ≡ Some z → reaches_as men z.colour z.kind s t ≡ true → reaches men s t ≡ true
unfolding reaches
able_strikes s men t z here h = rw here h

-- the hurdles are all men but the king
pub hurdle_is : (rule : RuleSet) (p : Position) (v : KingAttack) → IsKingAttack v → IsWhole v → IsKingAttackOf rule p v → (e : ℕ) → e < 64 → e ≢ v.king
    → is_some (man_on p.men e) ≡ (bit_at v.hurdles e == 1)
unfolding side_of
hurdle_is rule p v king_attack whole fits e low off = same_Bool _ _
    (λ some. whole.hurdles e low (search (rules, some_of (man_on p.men e) p.turn some, word_has, fits.own, fits.enemies)) (λ same. off (sym same)))
    (λ on. search (rules, (king_attack.hurdles.men e low on).0, some_side, word_has, fits.own, fits.enemies))

-- the king x makes a step
module _ (rule : RuleSet) (p : Position) (m : Move) (x : Man) (v : KingAttack) (well : IsWellFormed p) (may : is_pseudo_legal rule p m ≡ true)
    (here : man_on p.men m.from ≡ Some x) (small : m.to < 64) (captures : (s : ℕ) → capture_square p x m ≡ Some s → s ≡ m.to) (at_king : v.king ≡ m.from)
    (king_attack : IsKingAttack v) (whole : IsWhole v) (fits : IsKingAttackOf rule p v) where
  is : IsMade rule p x m
  is = made rule p m x may here

  abbrev then : List (Option Man)
  then = arrived p x m

  whole_board : length then ≡ 64
  whole_board = grind (arith, gone_to, length-set, length-without_at, well.size)

  -- a man on another square stays
  kept : (e : ℕ) → e ≢ m.from → e ≢ m.to → man_on then e ≡ man_on p.men e
  kept e = stays_there p x m e captures

  left : is_some (man_on then m.from) ≡ false
  left = by (man_on then m.from) refl where
    by : (o : Option Man) → man_on then m.from ≡ o → is_some o ≡ false
    by None h = refl
    by (Some z) h = elim (stood p x m m.from z (omega (arith, small, well.size)) h) [
      | inl came ↦ absurd (unfree p.turn (man_on p.men m.to) is.arrival (ap (λ (o : Option Man). is_of_colour o p.turn) (ap (man_on p.men) (sym came.0) ∙ here)
          ∙ ap (λ (c : Colour). same_colour c p.turn) is.mine ∙ same_colour-refl p.turn))
      | inr stays ↦ absurd (stays.1.0 refl)
    ]

  alike : StandAlike (men_on v.hurdles) then m.to
  alike = record {
    alike = λ e ne. elim (cases_lt e 64) [
      | inr high ↦
          beyond (men_on v.hurdles) e (size_on v.hurdles) (λ low. omega (arith, low, high))
          ∙ sym (beyond then e whole_board (λ low. omega (arith, low, high)))
      | inl low ↦ one_on v.hurdles e low ∙ elim (cases_eq e m.from) [
        | inl same ↦
            false_by _ (λ on. (king_attack.hurdles.men e low on).1 (at_king ∙ sym same))
            ∙ sym (ap (λ (o : Option Man). is_some o) (ap (man_on then) same) ∙ left)
        | inr off ↦ sym (ap (λ (o : Option Man). is_some o) (kept e off ne) ∙ hurdle_is rule p v king_attack whole fits e low (λ same. off (same ∙ at_king)))
      ]
    ];
  }

  -- a king is not attacked, if no attacker reaches its square
  pub safe_there : ((s : ℕ) (z : Man) → IsAttacker v.men z s → reached_over v.hurdles z s m.to ≡ false) → is_attacked rule then m.to (other p.turn) ≡ false
  unfolding reached_over
  safe_there none = nobody_strikes rule then m.to p.turn (λ s z low there enemy.
      elim (stood p x m s z (omega (arith, small, well.size)) there) [
        | inl came ↦ absurd (false≢true (sym (not_mine z p.turn enemy) ∙ grind (arith, came.1, arriving_colour x m.promo, is.mine, same_colour-refl)))
        | inr stays ↦ sym (reaches_alike (men_on v.hurdles) then z.colour z.kind s m.to alike)
            ∙ none s z (fits.men.stand s z low stays.1.1 (enemy ∙ sym fits.colour))
      ])

  -- a king is attacked, if an attacker reaches its square
  module _ (able : like_men_paralyse rule ≡ false) (a : IsAttackedOver v.hurdles v.men m.to) where
    stood_a : man_on p.men a.from ≡ Some a.man
    stood_a = fits.men.alone a.from a.man a.stands

    enemy_a : is_of_colour (Some a.man) (other p.turn) ≡ true
    enemy_a = rw (a.stands.mine, fits.colour) (same_colour-refl (other p.turn))

    -- the man isn't on the king's square, nor on its arrival
    not_from : a.from ≢ m.from
    not_from e = false≢true (sym (not_mine_enemy x p.turn is.mine)
        ∙ ap (λ (o : Option Man). is_of_colour o (other p.turn)) (sym here ∙ ap (man_on p.men) (sym e) ∙ stood_a) ∙ enemy_a)

    not_to : a.from ≢ m.to
    unfolding reached_over
    not_to e = false≢true (sym (no_reach_there (men_on v.hurdles) a.man.colour a.man.kind m.to small) ∙ (rw e at a.reaches))

    there : man_on then a.from ≡ Some a.man
    there = kept a.from not_from not_to ∙ stood_a

    strikes : is_attacker rule then m.to (other p.turn) a.from ≡ true
    unfolding is_attacker is_paralysed reached_over
    strikes = and_from _ _ (and_from _ _ (ap (λ (o : Option Man). is_of_colour o (other p.turn)) there ∙ enemy_a)
        (ap not (and_left (like_men_paralyse rule) _ able)))
        (able_strikes a.from then m.to a.man there (sym (reaches_alike (men_on v.hurdles) then a.man.colour a.man.kind a.from m.to alike) ∙ a.reaches))

    pub attacked_there : is_attacked rule then m.to (other p.turn) ≡ true
    unfolding is_attacked
    attacked_there = some_square_true (is_attacker rule then m.to (other p.turn)) a.from a.stands.small strikes

-- a king's step to an empty square that an attacker reaches over the hurdles is illegal: it would be in
-- check after it
pub barred_is_illegal : (rule : RuleSet) (p : Position) (m : Move) (x : Man) (v : KingAttack) → IsWellFormed p → is_pseudo_legal rule p m ≡ true
    → man_on p.men m.from ≡ Some x → m.to < 64 → IsPlainMove p x m → (captures_are_reborn rule ≡ true → IsMereMove p x m) → same_kind x.kind King ≡ true
    → v.king ≡ m.from → IsKingAttack v → IsWhole v → IsKingAttackOf rule p v → IsBarred rule v m.to → is_legal rule p m ≡ true → ⊥
unfolding is_legal in_check
barred_is_illegal rule p m x v well may here small plain mere king at_king king_attack whole fits barred legal =
    let is = made rule p m x may here in
    let men : (position_after rule p m).men ≡ arrived p x m = simple_after rule p x m here plain.castling (λ c. (mere c).captures) in
    let to : king_square (arrived p x m) p.turn ≡ Some m.to =
    king_is_after rule p x m well is small plain.castling ∙ cond-true (same_kind x.kind King) _ _ king in
    let attacked = attacked_there rule p m x v well may here small plain.captures at_king king_attack whole fits barred.able barred.attacked in
    grind (arith, men, to, attacked, legal)
