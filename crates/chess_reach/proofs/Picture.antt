-- A position in which a side is mated or stalemated is its own plan.
use Rattle.chess_reach.proofs.Chess.{Colour, IsDefended, IsGuarded, Pawn, capture_square, eqb-true, inl, is_some, is_square, reborn_square, same_kind, IsPlan, IsWellFormed, King, Kind, List, Man, Move, None, Option, Position, RuleSet, Some, and_from, and_parts, ap, arith, captures_are_reborn, cases_Bool, false, false_from_ne_true, false≢true, guards, in_check, inr, is_arrival_free, is_attacked, is_attacker, is_castling, is_legal, is_man, is_of_colour, is_paralysed, is_pseudo_legal, king_square, man_on, not_from_false, or_left, other, position_after, price, reaches, reaches_as, refl, same_colour, same_colour-refl, same_colour-true, not, same_kind-true, some_square_true, squares, sym, true, ℕ, ◌<◌, ◌∙◌, ◌≡◌, ◌≢◌, ◌≤◌, Gets, subst, if◌then◌else◌, ◌⊎◌}
use Rattle.chess_attacks.proofs.rays.Flips.{king-back}
use Rattle.chess_attacks.proofs.rays.OnSquares.{on_board}
use Rattle.chess_rules.proofs.Chess.{like_men_paralyse, second_fails}
use Rattle.chess_rules.specs.Play.{rebirth}
use Rattle.chess_reach.proofs.EmptyBoard.{king_guards}
use Rattle.chess_reach.proofs.Gone.{guards_from, is_gone}
use Rattle.chess_reach.proofs.OneMove.{meeting, stays, stood_before}
use Rattle.chess_reach.proofs.Sums.{sum_of_zeros}
use Rattle.chess_reach.specs.Lines.{reaches_goal}
use Rattle.chess_rules.proofs.Blocking.{king_is, man_there, other_twice}
use Rattle.chess_rules.proofs.StayingInCheck.{king_there, side_there}
use Rattle.chess_rules.proofs.Fits.{king_no_step}
use Rattle.chess_rules.proofs.Stays.{after_well_formed}
use Rattle.chess_rules.proofs.theorems.Moves.{mate_is, stalemate_is}
use Rattle.pop_stipulation.specs.declared.stipulation.Goal.{Goal}
use Rattle.pop_stipulation.specs.declared.stipulation.Goal.TheVariants.{Mate, Stalemate}

-- an attacked square is reached by an attacker
attacker : (rule : RuleSet) (men : List (Option Man)) (t : ℕ) (c : Colour) → is_attacked rule men t c ≡ true
    → (s : ℕ) × (y : Man) × (man_on men s ≡ Some y) × (same_colour y.colour c ≡ true) × (guards c y.kind s t ≡ true)
unfolding is_attacked is_attacker
attacker rule men t c h =
    let w = meeting _ h in
    let reach = and_parts _ _ w.2 in
    let y = side_there (man_on men w.0) c (and_parts _ _ reach.0).0 in (
      w.0,
      y.0,
      y.1.0,
      y.1.1,
      subst (λ (d : Colour). guards d y.0.kind w.0 t ≡ true) (same_colour-true y.0.colour c y.1.1)
          (guards_from men y.0 w.0 t y.1.0 reach.1),
    )

-- whose king is attacked is in check
pub checked : (rule : RuleSet) (men : List (Option Man)) (c : Colour) (k : ℕ) → king_square men c ≡ Some k → in_check rule men c ≡ is_attacked rule men k (other c)
unfolding in_check
checked rule men c k at = rw at refl

-- a man of a colour and kind
man_is : (o : Option Man) (c : Colour) (j : Kind) → is_man o c j ≡ true → o ≡ Some (record { colour = c; kind = j })
man_is o c j h = grind (arith, and_parts, same_colour-true, same_kind-true)

-- no king is paralysed
free_king : (rule : RuleSet) (men : List (Option Man)) (c : Colour) (k : ℕ) → man_on men k ≡ Some (record { colour = c; kind = King })
    → is_paralysed rule men k ≡ false
unfolding is_paralysed
free_king rule men c k here = rw here (grind (arith, cases_Bool (like_men_paralyse rule)))

-- a king reaches what it guards
king_reaches : (men : List (Option Man)) (c : Colour) (k t : ℕ) → man_on men k ≡ Some (record { colour = c; kind = King }) → guards c King k t ≡ true
    → reaches men k t ≡ true
unfolding reaches
king_reaches men c k t here h = rw here (sym (king_guards men c k t) ∙ h)

-- a king in check is attacked
attacked_at : (rule : RuleSet) (men : List (Option Man)) (c : Colour) (k : ℕ) → king_square men (other c) ≡ Some k → in_check rule men (other c) ≡ true
    → is_attacked rule men k c ≡ true
attacked_at rule men c k at h = rw (other_twice c) at (sym (checked rule men (other c) k at) ∙ h)

-- a man of the one side isn't where one of the other is
enemies_apart : (men : List (Option Man)) (s t : ℕ) (c : Colour) (y x : Man) → man_on men s ≡ Some y → same_colour y.colour c ≡ true → man_on men t ≡ Some x
    → x.colour ≡ other c → s ≢ t
enemies_apart men s t c y x here mine there theirs = λ same. grind (arith, same_colour-true)

-- two kings are next to each other
next_to_each : (c d : Colour) (s t : ℕ) → s < 64 → t < 64 → guards c King s t ≡ guards d King t s
unfolding guards reaches_as
next_to_each c d s t hs ht = king-back s t hs ht

-- a king attacks the squares next to it, also in Madrasi
king_attacks : (rule : RuleSet) (men : List (Option Man)) (c : Colour) (k t : ℕ) → k < 64 → is_man (man_on men k) c King ≡ true → guards c King k t ≡ true
    → is_attacked rule men t c ≡ true
unfolding is_attacked is_attacker
king_attacks rule men c k t small king h =
    let here = man_is (man_on men k) c King king in
    some_square_true _ k small (and_from _ _ (and_from _ _ (rw here (same_colour-refl c)) (ap not (free_king rule men c k here)))
    (king_reaches men c k t here h))

-- a king captures where it arrives
capture_arrival : (q : Position) (x : Man) (m : Move) (s : ℕ) → same_kind x.kind Pawn ≡ false → is_square (capture_square q x m) s ≡ true → s ≡ m.to
unfolding capture_square
capture_arrival q x m s piece at = grind (arith, piece, at, cases_Bool (is_some (man_on q.men m.to)), eqb-true)

-- the home of a man, by its colour and where it was captured
reborn_there : (c : Colour) (y z : Man) → y ≡ z → (f t : ℕ) → f ≡ t → (h : ℕ) → rebirth z.colour z.kind f ≡ Some h → same_colour y.colour c ≡ true
    → rebirth c y.kind t ≡ Some h
reborn_there c y z same f t there h home mine =
    subst (λ d. rebirth d y.kind t ≡ Some h) (same_colour-true y.colour c mine) (subst (λ (x : Man). rebirth x.colour x.kind t ≡ Some h) (sym same)
    (subst (λ s. rebirth z.colour z.kind s ≡ Some h) there home))

module _ (rule : RuleSet) (q : Position) (c : Colour) (k : ℕ) (well : IsWellFormed q) (turn : q.turn ≡ other c)
    (safe : in_check rule q.men c ≡ false) (at : king_square q.men (other c) ≡ Some k) where
  king_small : (s : ℕ) → is_man (man_on q.men s) c King ≡ true → s < 64
  king_small s king = let y = man_there (man_on q.men s) c King king in on_board q.men s y.0 well.size y.1

  -- the kings aren't next to each other
  kings_apart : (s : ℕ) → is_man (man_on q.men s) c King ≡ true → guards (other c) King k s ≡ false
  kings_apart s king =
      let there = king_there q.men (other c) k at in
      false_from_ne_true _ (λ near.
      false≢true (sym safe ∙ (checked rule q.men c s (king_is q.men c s well.kings (king_small s king) king) ∙ king_attacks rule q.men
      (other c) k s there.0 there.1 near)))

  -- the king's man
  king_man : Man
  king_man = record { colour = other c; kind = King }

  king_here : man_on q.men k ≡ Some king_man
  unfolding king_man
  king_here = man_is (man_on q.men k) (other c) King (king_there q.men (other c) k at).1

  arrival : (o : Option Man) → is_of_colour o (other c) ≡ false → (is_man o c King ≡ true → ⊥) → is_arrival_free (other c) o ≡ true
  arrival None free mortal = refl
  arrival (Some y) free mortal = grind (arith, and_from, not_from_false)

  -- a step of the king that is left in check
  step : ℕ → Move
  step t = record { from = k; to = t; promo = None }

  step_may : (t : ℕ) → guards (other c) King k t ≡ true → is_of_colour (man_on q.men t) (other c) ≡ false → is_pseudo_legal rule q (step t) ≡ true
  unfolding is_pseudo_legal step king_man
  step_may t near free =
      let reach = king_reaches q.men (other c) k t king_here near in
      rw (king_here, turn) (and_from _ _ (and_from _ _
      (and_from _ _ (and_from _ _ (same_colour-refl (other c)) (ap not (free_king rule q.men (other c) k king_here)))
      (arrival (man_on q.men t) free (λ king. false≢true (sym (kings_apart t king) ∙ near)))) refl) (or_left _ _ reach))

  guarded : ((m : Move) → is_legal rule q m ≡ false) → (t : ℕ) → guards (other c) King k t ≡ true → is_of_colour (man_on q.men t) (other c) ≡ false
      → IsGuarded q.men c (stays q.men) k t ⊎ IsDefended (captures_are_reborn rule) q.men c (stays q.men) t
  unfolding is_legal step king_man
  guarded none t near free =
      let may = step_may t near free in
      let exposed : in_check rule (position_after rule q (step t)).men q.turn ≡ true = grind (arith, second_fails _ _ (none (step t)) may) in
      let plain : is_castling king_man (step t) ≡ false =
      false_from_ne_true _ (λ castling. king_no_step q king_man (step t) well king_here castling refl (king_reaches q.men (other c) k t king_here near)) in
      let gone = is_gone rule q king_man (step t) well may king_here plain in
      let after = after_well_formed rule q (step t) well may in
      let king = king_is (position_after rule q (step t)).men (other c) t after.kings gone.to
      (rw gone.there (and_from _ _ (same_colour-refl (other c)) refl)) in
      let attacked = attacked_at rule (position_after rule q (step t)).men c t king
      (subst (λ (d : Colour). in_check rule (position_after rule q (step t)).men d ≡ true) turn exposed) in
      let by = attacker rule (position_after rule q (step t)).men t c attacked in
      let off = enemies_apart (position_after rule q (step t)).men by.0 t c by.1 king_man by.2 by.3 gone.there refl in
      elim (cases_Bool (is_square (reborn_square rule q king_man (step t)) by.0)) [
        | inr old ↦
            let from = stood_before (captures_are_reborn rule) q (position_after rule q (step t)) king_man king_man k t _ _ gone (stays q.men) by.0 by.1 by.2 off old in
            inl (record { by = by.0; ours = rw from.1.1 by.3; off = from.0; guards = rw from.1.1 by.4 })
        | inl at ↦
            let born = gone.reborn by.0 at in
            let same : by.1 ≡ born.man = let h : Some by.1 ≡ Some born.man = sym by.2 ∙ born.now in cc in
            let there : born.from ≡ t = capture_arrival q king_man (step t) born.from refl born.taken in
            inr (record {
              by = born.from;
              ours = rw (born.was, ← same) by.3;
              there = there;
              lives = born.lives;
              home = by.0;
              rebirth = rw (born.was, ← same) (reborn_there c by.1 born.man same born.from t there by.0 born.home by.3);
              off = off;
              guards = rw (born.was, ← same) by.4;
            })
      ]

  -- nobody has to go anywhere
  free_stay : (d : Colour) → price q.men d (stays q.men) ≤ 0
  unfolding price
  free_stay d = omega (
    arith,
    sum_of_zeros (λ s. if is_of_colour (man_on q.men s) d then 0 else 0) squares
        (λ s. grind (arith, cases_Bool (is_of_colour (man_on q.men s) d))),
  )

  checked_by : in_check rule q.men (other c) ≡ true → IsGuarded q.men c (stays q.men) k k
  unfolding king_man
  checked_by h =
      let attacked = attacked_at rule q.men c k at h in
      let by = attacker rule q.men k c attacked in
      record { by = by.0; ours = rw by.2 by.3; off = enemies_apart q.men by.0 k c by.1 king_man by.2 by.3 king_here refl; guards = rw by.2 by.4 }

  -- no legal move, and check if the goal is mate
  plan : (goal : Goal) → ((m : Move) → is_legal rule q m ≡ false) → (goal ≡ Mate → in_check rule q.men (other c) ≡ true) → IsPlan goal true (captures_are_reborn rule) q c 0 0 k (stays q.men)
  unfolding Gets
  plan goal none check = record {
    gets = λ s x here. rw here (refl, inl refl);
    ours = free_stay c;
    theirs = free_stay (other c);
    king = λ s king. well.kings.same (other c) s k king (king_there q.men (other c) k at).1;
    apart = λ s king. next_to_each c (other c) s k (king_small s king) (king_there q.men (other c) k at).0 ∙ kings_apart s king;
    around = λ t near. elim (cases_Bool (is_of_colour (man_on q.men t) (other c))) [
      | inl theirs ↦ inr (inr (record { by = t; theirs = theirs; there = refl; stays = refl }))
      | inr free ↦ elim (guarded none t near free) [
        | inl guard ↦ inl guard
        | inr defends ↦ inr (inl defends)
      ]
    ];
    check = λ mate. record { guarded = checked_by (check mate); arrives = λ strict. absurd (false≢true (sym strict)) };
  }

  pub picture : (goal : Goal) → reaches_goal goal rule q ≡ true → IsPlan goal true (captures_are_reborn rule) q c 0 0 k (stays q.men)
  picture Mate h = let m = (mate_is rule q well).0 h in plan Mate m.1 (λ _. rw turn at m.0)
  picture Stalemate h = plan Stalemate ((stalemate_is rule q well).0 h).1 (λ same. grind arith)
