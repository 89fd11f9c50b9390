-- A line that reaches the goal has a plan at its start.
use Rattle.chess_reach.proofs.Chess.{Bool, Ends, IsPlan, IsWellFormed, King, List, Man, Move, None, Option, Position, RuleSet, Some, [], and_parts, ap, arith, arriving_man, capture_square, captured_man, captures_are_reborn, Colour, Kind, Rook, reborn_square, same_kind, same_kind-true, is_square, cases_Bool, cases_eq, checks_by_leap, same_colour, same_colour-refl, eq-eqb, eqb-true, false, false_from_ne_true, false≢true, has_unmoved, if◌then◌else◌, in_check, inl, inr, is_castling, is_legal, is_man, is_pseudo_legal, king_square, length, man_on, ne_eqb, not-true, other, position_after, position_after_by, refl, subst, suc, sym, true, unmoved_after, ℕ, ◌%◌, ◌+◌, ◌/◌, ◌==◌, ◌∙◌, ◌∷◌, ◌≡◌, ◌≢◌, ◌≤◌}
use Rattle.chess_core.specs.declared.man.Unmoved.{Unmoved}
use Rattle.chess_reach.proofs.Castling.{castled_home, castled_right, king_castled, other_castling, own_castling, stood_castled}
use Rattle.chess_reach.proofs.Gone.{born, is_gone, reborn_none}
use Rattle.chess_rules.proofs.Chess.{has_unmoved-mark_other, unmoved_with_rook}
use Rattle.chess_rules.specs.Play.{is_light}
unfoldable use Rattle.chess_rules.specs.Play.{rebirth}
use Rattle.chess_reach.proofs.OneMove.{king_goes, last_step, other_step, own_step, stays, stood_before}
use Rattle.chess_reach.proofs.Picture.{picture}
use Rattle.chess_reach.proofs.Standing.{no_stander_checks}
use Rattle.chess_reach.specs.Plans.{king_home, saved_moves, standing_checks}
use Rattle.chess_reach.specs.Lines.{IsLegalLine, line_end, mover, reaches_goal}
use Rattle.chess_rules.proofs.Chess.{corner, has_unmoved-parts, unmoved_without_at, without_unmoved}
use Rattle.std.proofs.lemmas.Bool.{or_parts}
use Rattle.chess_attacks.specs.RuleSet.{like_men_paralyse}
use Rattle.chess_rules.proofs.Blocking.{other_differs, other_twice}
use Rattle.chess_rules.proofs.LegalMoves.{may_be_made}
use Rattle.chess_rules.proofs.Pseudo.{made}
use Rattle.chess_rules.proofs.Stays.{after_well_formed, maker}
use Rattle.pop_stipulation.specs.declared.stipulation.Goal.{Goal}
use Rattle.pop_stipulation.specs.declared.stipulation.Goal.TheVariants.{Mate}

-- rights that are left were there
right_left : (u : Unmoved) (o : Option ℕ) (s : ℕ) → has_unmoved (unmoved_without_at u o) s ≡ true → has_unmoved u s ≡ true
right_left u None s h = h
right_left u (Some t) s h = (has_unmoved-parts u t s h).1

right_without : (u : Unmoved) (b : Bool) (t s : ℕ) → has_unmoved (if b then without_unmoved u t else u) s ≡ true → has_unmoved u s ≡ true
right_without u b t s h = elim (cases_Bool b) [
  | inl passes ↦ (has_unmoved-parts u t s (rw passes at h)).1
  | inr fails ↦ rw fails at h
]

-- a rook that is reborn brings the right of its own square alone
rook_right : (v : Unmoved) (o : Option ℕ) (y : Option Man) (s : ℕ)
    → ((r : ℕ) (z : Man) → o ≡ Some r → y ≡ Some z → same_kind z.kind Rook ≡ true → s ≢ r)
    → has_unmoved (unmoved_with_rook v o y) s ≡ true → has_unmoved v s ≡ true
rook_right v None y s off h = h
rook_right v (Some r) None s off h = h
rook_right v (Some r) (Some z) s off h = elim (cases_Bool (same_kind z.kind Rook)) [
  | inl rook ↦ sym (has_unmoved-mark_other v r s true (off r z refl refl rook)) ∙ rw rook at h
  | inr other ↦ rw other at h
]

-- no rook is reborn on a king's square
rook_home : (d c : Colour) (k : Kind) (f r : ℕ) → same_kind k Rook ≡ true → rebirth d k f ≡ Some r → king_home c ≢ r
unfolding rebirth
rook_home d c k f r rook at same = grind (arith, same_kind-true k Rook rook, at, same, cases_Bool (is_light f))

reborn_off_home : (rule : RuleSet) (p : Position) (x : Man) (m : Move) (c : Colour) (r : ℕ) (z : Man) → reborn_square rule p x m ≡ Some r
    → captured_man p x m ≡ Some z → same_kind z.kind Rook ≡ true → king_home c ≢ r
reborn_off_home rule p x m c r z is caught rook =
    let b = born rule p x m r is in
    let z_is : z ≡ b.man = let h : Some z ≡ Some b.man = sym caught ∙ rw b.taken b.was in cc in
    rook_home b.man.colour c b.man.kind b.from r (ap (λ (y : Man). same_kind y.kind Rook) (sym z_is) ∙ rook) b.home

-- the sides move in turn
pub turn_shift : (c t : Colour) (h : ℕ) → t ≡ mover c (suc h) → other t ≡ mover c h
turn_shift c t h turn = elim (cases_Bool (h % 2 == 1)) [
  | inl odd ↦
      let even : (suc h % 2 == 1) ≡ false = ne_eqb (suc h % 2) 1 (λ e. omega (arith, e, eqb-true (h % 2) 1 odd)) in
      rw (turn, odd, even) (other_twice c)
  | inr even ↦
      let not_odd : h % 2 ≢ 1 = λ e. false≢true (sym even ∙ eq-eqb (h % 2) 1 e) in
      let odd : (suc h % 2 == 1) ≡ true = eq-eqb (suc h % 2) 1 (omega (arith, not_odd)) in
      rw (turn, even, odd) refl
]

-- the last half-move but one is the other side's
last_mover_but_one : (c : Colour) (h : ℕ) → h ≡ 0 → mover c (suc (suc h)) ≡ other c
last_mover_but_one c h e = rw e refl

-- more moves are enough too
plan_more : (goal : Goal) (sc rb : Bool) (p : Position) (c : Colour) (n o i j k : ℕ) (ends : Ends) → IsPlan goal sc rb p c n o k ends → n ≤ i → o ≤ j → IsPlan goal sc rb p c i j k ends
plan_more goal sc rb p c n o i j k ends plan more_ours more_theirs = record {
  gets = plan.gets;
  ours = omega (arith, plan.ours);
  theirs = omega (arith, plan.theirs);
  king = plan.king;
  apart = plan.apart;
  around = plan.around;
  check = plan.check;
}

module _ (rule : RuleSet) (p : Position) (m : Move) (well : IsWellFormed p) (legal : is_legal rule p m ≡ true) where
  pub may : is_pseudo_legal rule p m ≡ true
  may = may_be_made rule p m legal

  abbrev pub man : Man
  man = (maker rule p m may).0

  pub here : man_on p.men m.from ≡ Some man
  here = (maker rule p m may).1

  pub turn_after : (position_after rule p m).turn ≡ other p.turn
  unfolding position_after position_after_by
  turn_after = rw here refl

  -- the side that has moved isn't in check
  safe_after : in_check rule (position_after rule p m).men p.turn ≡ false
  unfolding is_legal
  safe_after = not-true _ (and_parts _ _ legal).1

  -- what is left of the king's castling rights
  right_before : (c : Colour) → has_unmoved (position_after rule p m).unmoved (king_home c) ≡ true
      → (king_home c ≢ m.from) × (has_unmoved p.unmoved (king_home c) ≡ true)
  unfolding position_after position_after_by unmoved_after
  right_before c h =
      let u = without_unmoved (without_unmoved p.unmoved m.from) m.to in
      let left = unmoved_without_at u (capture_square p man m) in
      let s = king_home c in
      let after : has_unmoved (unmoved_with_rook (if is_castling man m then without_unmoved left (corner m) else left) (reborn_square rule p man m) (captured_man p man m)) s ≡ true = rw here at h in
      let gone : has_unmoved (if is_castling man m then without_unmoved left (corner m) else left) s ≡ true =
      rook_right (if is_castling man m then without_unmoved left (corner m) else left) (reborn_square rule p man m) (captured_man p man m) s
      (reborn_off_home rule p man m c) after in
      let v = right_left u (capture_square p man m) s (right_without left (is_castling man m) (corner m) s gone) in
      has_unmoved-parts p.unmoved m.from s (has_unmoved-parts (without_unmoved p.unmoved m.from) m.to s v).1

  saves_no_more : (c : Colour) → saved_moves (position_after rule p m) c ≤ saved_moves p c
  saves_no_more c = elim (cases_Bool (has_unmoved (position_after rule p m).unmoved (king_home c))) [
    | inl h ↦ rw (h, (right_before c h).1) (omega arith)
    | inr h ↦ rw h (omega arith)
  ]

  -- who castles saves these moves, and no more later
  saves_now : (c : Colour) → is_castling man m ≡ true → man.colour ≡ c → (saved_moves (position_after rule p m) c ≡ 0) × (saved_moves p c ≡ 2)
  saves_now c castling mine =
      let home : m.from ≡ king_home c = castled_home rule p man m well may here castling (captures_are_reborn rule) ∙ ap king_home mine in
      let lost : has_unmoved (position_after rule p m).unmoved (king_home c) ≡ false = false_from_ne_true _
      (λ h. (right_before c h).0 (sym home)) in
      let right : has_unmoved p.unmoved (king_home c) ≡ true = subst (λ (s : ℕ). has_unmoved p.unmoved s ≡ true) home
      (castled_right rule p man m well may here castling (captures_are_reborn rule)) in
      (rw lost refl, rw right refl)

  -- a plan after a move of the mating side is one before it, with a move more
  pub own_move : (goal : Goal) (sc : Bool) (c : Colour) (n o k : ℕ) (ends : Ends) → p.turn ≡ c
      → IsPlan goal sc (captures_are_reborn rule) (position_after rule p m) c (n + saved_moves (position_after rule p m) c) (o + saved_moves (position_after rule p m) (other c)) k ends
      → (before : Ends) × IsPlan goal sc (captures_are_reborn rule) p c (suc n + saved_moves p c) (o + saved_moves p (other c)) k before
  own_move goal sc c n o k ends turn plan =
      let q = position_after rule p m in
      let mine : man.colour ≡ c = (made rule p m man may here).mine ∙ turn in
      let i = n + saved_moves (position_after rule p m) c in
      let j = o + saved_moves (position_after rule p m) (other c) in
      elim (cases_Bool (is_castling man m)) [
        | inl castling ↦
            let r = own_castling rule p man m well may here castling (captures_are_reborn rule) goal sc c i j k ends mine plan in
            let now = saves_now c castling mine in
            (r.0, plan_more goal sc (captures_are_reborn rule) p c _ _ _ _ k r.0 r.1 (omega (arith, now.0, now.1)) (omega (arith, saves_no_more (other c))))
        | inr plain ↦
            let r = own_step (captures_are_reborn rule) p q man (arriving_man man m.promo) m.from m.to (capture_square p man m) (reborn_square rule p man m)
            (is_gone rule p man m well may here plain) ends
            goal sc c i j k mine plan in
            (r.0, plan_more goal sc (captures_are_reborn rule) p c _ _ _ _ k r.0 r.1 (omega (arith, saves_no_more c)) (omega (arith, saves_no_more (other c))))
      ]

  -- likewise of the other side
  pub other_move : (goal : Goal) (sc : Bool) (c : Colour) (n o k : ℕ) (ends : Ends) → p.turn ≡ other c
      → IsPlan goal sc (captures_are_reborn rule) (position_after rule p m) c (n + saved_moves (position_after rule p m) c) (o + saved_moves (position_after rule p m) (other c)) k ends
      → (before : Ends) × IsPlan goal sc (captures_are_reborn rule) p c (n + saved_moves p c) (suc o + saved_moves p (other c)) k before
  other_move goal sc c n o k ends turn plan =
      let q = position_after rule p m in
      let theirs : man.colour ≡ other c = (made rule p m man may here).mine ∙ turn in
      let i = n + saved_moves (position_after rule p m) c in
      let j = o + saved_moves (position_after rule p m) (other c) in
      elim (cases_Bool (is_castling man m)) [
        | inl castling ↦
            let r = other_castling rule p man m well may here castling (captures_are_reborn rule) goal sc c i j k ends theirs plan in
            let now = saves_now (other c) castling theirs in
            (r.0, plan_more goal sc (captures_are_reborn rule) p c _ _ _ _ k r.0 r.1 (omega (arith, saves_no_more c)) (omega (arith, now.0, now.1)))
        | inr plain ↦
            let r = other_step (captures_are_reborn rule) p q man (arriving_man man m.promo) m.from m.to (capture_square p man m) (reborn_square rule p man m)
            (is_gone rule p man m well may here plain) ends
            goal sc c i j k theirs plan in
            (r.0, plan_more goal sc (captures_are_reborn rule) p c _ _ _ _ k r.0 r.1 (omega (arith, saves_no_more c)) (omega (arith, saves_no_more (other c))))
      ]

  -- a goal that is reached has a plan before the last move: no knight or pawn that stands checks
  module _ (goal : Goal) (c : Colour) (k : ℕ) (turn : p.turn ≡ c) (safe : in_check rule p.men (other c) ≡ false)
      (at : king_square (position_after rule p m).men (other c) ≡ Some k) (reaches : reaches_goal goal rule (position_after rule p m) ≡ true) where
    mine : man.colour ≡ c
    mine = (made rule p m man may here).mine ∙ turn

    pictured : IsPlan goal true (captures_are_reborn rule) (position_after rule p m) c 0 0 k (stays (position_after rule p m).men)
    pictured = picture rule (position_after rule p m) c k (after_well_formed rule p m well may) (turn_after ∙ ap other turn)
        (subst (λ d. in_check rule (position_after rule p m).men d ≡ false) turn safe_after) at goal reaches

    -- who stands may check only where no man is paralysed or reborn
    unparalysed : standing_checks rule ≡ false → like_men_paralyse rule ≡ false
    unparalysed strict = grind (arith, strict, or_parts)

    unborn : standing_checks rule ≡ false → captures_are_reborn rule ≡ false
    unborn strict = grind (arith, strict, or_parts)

    -- a man that has not just arrived was there before
    stood_plain : captures_are_reborn rule ≡ false → is_castling man m ≡ false → (s : ℕ) (z : Man) → man_on (position_after rule p m).men s ≡ Some z → s ≢ m.to → man_on p.men s ≡ Some z
    stood_plain none_reborn plain s z here_now off =
        (stood_before (captures_are_reborn rule) p (position_after rule p m) man (arriving_man man m.promo) m.from m.to (capture_square p man m) (reborn_square rule p man m)
        (is_gone rule p man m well may here plain) (stays p.men) s z here_now off
        (ap (λ o. is_square o s) (reborn_none rule p man m none_reborn))).1.1

    king_apart : is_castling man m ≡ false → (z : Man) → man_on (position_after rule p m).men k ≡ Some z → z.colour ≡ other c → k ≢ m.to
    king_apart plain z here_now theirs same =
        let gone = is_gone rule p man m well may here plain in
        let z_is : z ≡ arriving_man man m.promo = let h : Some z ≡ Some (arriving_man man m.promo) = sym (rw same at here_now) ∙ gone.there in cc in
        false≢true (sym (other_differs c) ∙ ap (λ d. same_colour c d) (sym theirs ∙ ap (λ (y : Man). y.colour) z_is ∙ gone.colour ∙ mine) ∙ same_colour-refl c)

    arrives : is_castling man m ≡ false → (mate : goal ≡ Mate) → standing_checks rule ≡ false
        → checks_by_leap (stays (position_after rule p m).men (pictured.check mate).guarded.by).kind ≡ true → (pictured.check mate).guarded.by ≡ m.to
    arrives plain mate strict leaps =
        let g = (pictured.check mate).guarded in
        elim (cases_eq g.by m.to) [
          | inl same ↦ same
          | inr off ↦ absurd (no_stander_checks rule p (position_after rule p m) c k well (unparalysed strict) safe at
              (λ z here_now theirs. stood_plain (unborn strict) plain k z here_now (king_apart plain z here_now theirs)) g leaps (λ z here_now _. stood_plain (unborn strict) plain g.by z here_now off))
        ]

    castled_check : is_castling man m ≡ true → (mate : goal ≡ Mate) → standing_checks rule ≡ false
        → checks_by_leap (stays (position_after rule p m).men (pictured.check mate).guarded.by).kind ≡ true → ⊥
    castled_check castling mate strict leaps =
        let g = (pictured.check mate).guarded in
        no_stander_checks rule p (position_after rule p m) c k well (unparalysed strict) safe at
        (λ z here_now theirs. stood_castled rule p man m well may here castling (captures_are_reborn rule) k z here_now (inl (rw (theirs, mine) (differs c)))) g leaps
        (λ z here_now leaper. stood_castled rule p man m well may here castling (captures_are_reborn rule) g.by z here_now (inr leaper))
      where
        differs : (d : Colour) → same_colour (other d) d ≡ false
        differs d = grind arith

    pub last_move : (before : Ends) × IsPlan goal (standing_checks rule) (captures_are_reborn rule) p c (1 + saved_moves p c) (0 + saved_moves p (other c)) k before
    last_move = elim (cases_Bool (is_castling man m)) [
      | inl castling ↦ own_move goal (standing_checks rule) c 0 0 k (stays (position_after rule p m).men) turn (record {
        gets = pictured.gets;
        ours = omega (arith, pictured.ours);
        theirs = omega (arith, pictured.theirs);
        king = pictured.king;
        apart = pictured.apart;
        around = pictured.around;
        check = λ mate. record { guarded = (pictured.check mate).guarded; arrives = λ free leaps. absurd (castled_check castling mate free leaps) };
      })
      | inr plain ↦
          let r = last_step (captures_are_reborn rule) p (position_after rule p m) man (arriving_man man m.promo) m.from m.to (capture_square p man m) (reborn_square rule p man m)
          (is_gone rule p man m well may here plain) (stays (position_after rule p m).men)
          goal (standing_checks rule) c 0 0 k mine pictured (arrives plain) in
          (r.0, plan_more goal (standing_checks rule) (captures_are_reborn rule) p c _ _ _ _ k r.0 r.1 (omega arith) (omega arith))
    ]

  -- no king is lost
  pub king_after : (c : Colour) (s : ℕ) → is_man (man_on p.men s) c King ≡ true → (r : ℕ) × (is_man (man_on (position_after rule p m).men r) c King ≡ true)
  king_after c s king = elim (cases_Bool (is_castling man m)) [
    | inl castling ↦ king_castled rule p man m well may here castling (captures_are_reborn rule) c s king
    | inr plain ↦
        let r = king_goes (captures_are_reborn rule) p (position_after rule p m) man (arriving_man man m.promo) m.from m.to (capture_square p man m) (reborn_square rule p man m)
        (is_gone rule p man m well may here plain) (stays p.men) c s king in
        (r.0, r.1)
  ]

module _ (rule : RuleSet) (c : Colour) where
  -- no king is lost along a line
  pub king_along : (line : List Move) (p : Position) (s : ℕ) → IsWellFormed p → IsLegalLine rule p line → is_man (man_on p.men s) c King ≡ true
      → (r : ℕ) × (is_man (man_on (line_end rule p line).men r) c King ≡ true)
  unfolding line_end IsLegalLine
  king_along [] p s well legal king = (s, king)
  king_along (m ∷ line) p s well legal king =
      let r = king_after rule p m well legal.0 c s king in
      king_along line (position_after rule p m) r.0 (after_well_formed rule p m well (may_be_made rule p m legal.0)) legal.1 r.1

  module _ (goal : Goal) (k : ℕ) where
    -- a line that begins with a move and reaches the goal has a plan at its start
    line_plan_from : (m : Move) (line : List Move) (p : Position) → IsWellFormed p → IsLegalLine rule p (m ∷ line)
        → reaches_goal goal rule (line_end rule p (m ∷ line)) ≡ true → p.turn ≡ mover c (suc (length line))
        → king_square (line_end rule p (m ∷ line)).men (other c) ≡ Some k → (length line ≡ 0 → in_check rule p.men (other c) ≡ false)
        → (ends : Ends)
        × IsPlan goal (standing_checks rule) (captures_are_reborn rule) p c ((suc (length line) + 1) / 2 + saved_moves p c) (suc (length line) / 2 + saved_moves p (other c)) k ends
    unfolding line_end IsLegalLine
    line_plan_from m [] p well legal reaches turn king safe = last_move rule p m well legal.0 goal c k turn (safe refl) king reaches
    line_plan_from m (n ∷ line) p well legal reaches turn king safe =
        let rest = line_plan_from n line (position_after rule p m) (after_well_formed rule p m well (may_be_made rule p m legal.0)) legal.1
        reaches (turn_after rule p m well legal.0 ∙ turn_shift c p.turn (suc (length line)) turn) king
        (λ e. subst (λ (d : Colour). in_check rule (position_after rule p m).men d ≡ false) (turn ∙ last_mover_but_one c (length line) e)
        (safe_after rule p m well legal.0)) in
        elim (cases_Bool (suc (suc (length line)) % 2 == 1)) [
          | inl odd ↦
              let own : p.turn ≡ c = turn ∙ rw odd refl in
              let plan = own_move rule p m well legal.0 goal (standing_checks rule) c ((suc (length line) + 1) / 2) (suc (length line) / 2) k rest.0 own rest.1 in
              (plan.0, plan_more goal (standing_checks rule) (captures_are_reborn rule) p c _ _ _ _ k plan.0 plan.1 (let odd_is = eqb-true (suc (suc (length line)) % 2) 1 odd in omega (arith, odd_is)) (omega arith))
          | inr even ↦
              let others : p.turn ≡ other c = turn ∙ rw even refl in
              let plan = other_move rule p m well legal.0 goal (standing_checks rule) c ((suc (length line) + 1) / 2) (suc (length line) / 2) k rest.0 others rest.1 in
              let not_odd : suc (suc (length line)) % 2 ≢ 1 = λ e. false≢true (sym even ∙ eq-eqb (suc (suc (length line)) % 2) 1 e) in
              (plan.0, plan_more goal (standing_checks rule) (captures_are_reborn rule) p c _ _ _ _ k plan.0 plan.1 (omega arith) (omega (arith, not_odd)))
        ]

    -- so has each line of moves
    pub line_plan : (line : List Move) (p : Position) → IsWellFormed p → IsLegalLine rule p line
        → reaches_goal goal rule (line_end rule p line) ≡ true → p.turn ≡ mover c (length line)
        → king_square (line_end rule p line).men (other c) ≡ Some k → length line ≢ 0 → (length line ≡ 1 → in_check rule p.men (other c) ≡ false)
        → (ends : Ends) × IsPlan goal (standing_checks rule) (captures_are_reborn rule) p c ((length line + 1) / 2 + saved_moves p c) (length line / 2 + saved_moves p (other c)) k ends
    line_plan [] p well legal reaches turn king some safe = absurd (some refl)
    line_plan (m ∷ line) p well legal reaches turn king some safe = line_plan_from m line p well legal reaches turn king (λ e. safe (ap suc e))
