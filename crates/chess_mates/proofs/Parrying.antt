-- A man other than the king parries a check and opens no line to the king.
use Rattle.chess_mates.proofs.Chess.{DescribesMen, Bishop, Black, Bool, Colour, Grasshopper, IsCovered, IsMade, IsShift, IsSimple, IsWellFormed, Kind, King, List, Man, Move, Nightrider, None, Option, Pawn, Position, Queen, Rook, RuleSet, Some, StandAlike, Step, White, after_well_formed, agree_below_at, along, and_from, and_left, and_parts, and_right, any_kept, any_range_cases, any_range_false, ap, arith, arrived, arriving_colour, arriving_man, attacked_plainly, bit_and, bit_at, bit_not, bit_or, can_castle, cannot_expose_parts, capture_square, captures_arrival, captures_are_reborn, cases_Bool, cases_eq, check_is, cond-false, cond-true, covered_parts, diagonal_steps, differs, eq-eqb, eqb-true, like_men_paralyse, false, false_from_ne_true, false≢true, forward, goes_on, gone_shift, gone_to, if◌then◌else◌, in_check, inl, inr, is_advance, is_ahead, is_arrival_free, is_attacked_at, is_legal, is_lined, is_man, is_mate, is_of_colour, is_on_fairy_line, is_on_fairy_line_at, is_on_some, is_paralysed, is_promoting, is_promotion_right, is_pseudo_legal, may_be_made, is_reached, is_blocking, is_some, is_square, kept_now, king_is, king_square, king_there, knight_steps, leaps, left_now, legal_moves_are_triples, length, length-set, list_any, made, maker, man_on, man_on-with_other, man_on-with_same, man_there, mates, may_castle, may_expose, may_expose_at, may_be_hurdle, no_capture, not, not-true, not_attacked, occupied_now, occupied_squares, off_second, off_zero, on_board, on_first, or_cases, or_left, or_parts, or_right, other, other_differs, other_twice, pawn_steps_to, position_after, position_after_by, queen_steps, reaches, refl, return_square, rules, same_colour, same_colour-refl, same_colour-true, same_kind, occupancy_after, simple_after, some_square, some_square_false, some_square_true, square_is, squares, squares_both, squares_either, squares_not, squares_of, squares_same, stood, straight_steps, subst, sym, there_now, true, true_from_ne_false, unreached, w64, with_man, word, word_has, ℕ, ◌&&◌, ◌<◌, ◌==◌, ◌||◌, ◌∙◌, ◌≡◌, ◌≢◌}
use Rattle.chess_rules.proofs.Blocking.{CannotExpose, IsPlain, IsQuiet, arrived_shift}
use Rattle.chess_flights.proofs.Fleeing.{king_waits, on_second, reaches_alike_of, seen_bit, unseen_bit}
use Rattle.chess_rules.proofs.Seeing.{IsCapture, seen_after}
use Rattle.chess_flights.proofs.Mating.{turn_after}
use Rattle.chess_flights.proofs.Standing.{captured_there, stays_there, stood as stands_after}
use Rattle.chess_mates.specs.ties.Parries.{AreBetween, AreParriesKnown, IsInterposed, IsParriless, IsShutBy, IsKnownBetween, IsUncaptured, IsWayBetween, NobodyComes, comes, is_on_line, is_unpinned}
use Rattle.chess_attacks.specs.declared.occupancy.Occupancy.{Occupancy}
use Rattle.chess_mates.specs.declared.parries.Parries.{Parries}
use Rattle.chess_mates.specs.declared.parries.Parries.TheVariants.{Impossible, Possible}
use Rattle.chess_mates.proofs.StayingChecks.{advance_back, advances, frees_after, reaches_still}
use Rattle.chess_attacks.proofs.rays.Parting.{Frees}
use Rattle.chess_rules.proofs.theorems.Moves.{mate_is}
use Rattle.chess_core.proofs.Words.{some_square_known}
use Rattle.chess_rules.proofs.Plays.{length-without_at}
use Rattle.chess_rules.specs.Legal.{can_go, is_pawn_step}
use Rattle.chess_flights.proofs.Hurdles.{on_one}

-- one man has gone from a to b and another from s to t: there stands z, and nothing else has changed
record AreGone (men after : List (Option Man)) (a b s t : ℕ) (z : Man) : Type 0 where
  pub vacated : (q : ℕ) → man_on after q ≡ None → q ≢ a → q ≢ s → man_on men q ≡ None
  pub others : (q : ℕ) (v : Man) → man_on after q ≡ Some v → q ≢ b → q ≢ t → (q ≢ a) × ((q ≢ s) × (man_on men q ≡ Some v))
  pub first : man_on after b ≡ Some z
  pub second : man_on after t ≡ Some z

-- a square off the lines shuts none of them
off_unshut : (men : List (Option Man)) (e : Colour) (j : Kind) (ds : List Step) (k a : ℕ) → is_on_some ds k a ≡ false → is_blocking men e j ds k a ≡ false
unfolding is_blocking is_on_some
off_unshut men e j ds k a off = false_from_ne_true _ (λ h. false≢true (sym off ∙ goes_on men k a ds (and_parts _ _ h).0))

-- where fewer men stand, fewer squares meet a test on them
some_before : (f g : ℕ → Bool) → ((q : ℕ) → f q ≡ true → g q ≡ true) → some_square f ≡ true → some_square g ≡ true
unfolding some_square squares
some_before f g each h =
    elim (any_range_cases f 0 64) [ inl w ↦ some_square_true g w.0 w.2 (each w.0 w.3) | inr none ↦ absurd (false≢true (sym (any_range_false f 0 64 none) ∙ h)) ]

-- where fewer men stand, fewer squares lie on fairy lines
unlined_before : (men mid : List (Option Man)) (e : Colour) (k t : ℕ) → ((j : Kind) (q : ℕ) → is_man (man_on mid q) e j ≡ true
    → is_man (man_on men q) e j ≡ true) → is_on_fairy_line men e k t ≡ false → is_on_fairy_line mid e k t ≡ false
unfolding is_on_fairy_line
unlined_before men mid e k t stood off =
    let lined : (j : Kind) (d : Step) → is_lined mid e j k t d ≡ true → is_lined men e j k t d ≡ true =
    λ j d h. and_from _ _ (and_parts _ _ h).0 (some_before (λ q. is_man (man_on mid q) e j && is_ahead k d q) (λ q. is_man (man_on men q) e j && is_ahead k d q)
    (λ q on. and_from _ _ (stood j q (and_parts _ _ on).0) (and_parts _ _ on).1) (and_parts _ _ h).1) in
    let hop = any_kept (is_lined mid e Grasshopper k t) (is_lined men e Grasshopper k t) queen_steps (lined Grasshopper) in
    let ride = any_kept (is_lined mid e Nightrider k t) (is_lined men e Nightrider k t) knight_steps (lined Nightrider) in
    false_from_ne_true _ (λ h. grind (arith, or_cases, or_left, or_right, false≢true, hop, ride))

module _ (men after : List (Option Man)) (a b s t k : ℕ) (z : Man) (c : Colour) (g : AreGone men after a b s t z) (inside : b < length men) (apart : a ≢ b)
    (side : same_colour z.colour (other c) ≡ false) (small : k < 64) (first : IsCovered men c a k) (second : IsCovered men c s k)
    (beside : is_on_line k s ≡ false) (come : is_on_fairy_line men (other c) k b ≡ false) (too : is_on_fairy_line men (other c) k t ≡ false) where
  abbrev mid : List (Option Man)
  mid = gone_to men a None b z

  shift_first : IsShift men mid a b z
  shift_first = gone_shift men a None b z inside (λ s h. absurd (false≢true h))

  shift_second : IsShift mid after s t z
  shift_second = record {
    vacated = λ q none ne. grind (arith, g, cases_eq q a, cases_eq q b, left_now men a None b z q, kept_now men a None b z q, or_parts, eq-eqb, differs);
    others = λ q v there ne. elim (cases_eq q b) [
      | inl same ↦ ap (man_on mid) same ∙ there_now men a None b z inside ∙ sym g.first ∙ ap (man_on after) (sym same) ∙ there
      | inr away ↦
          let (off, (beside, kept)) = g.others q v there away ne in
          kept_now men a None b z q away (ap (λ e. e || is_square None q) (differs a q (λ e. off (sym e)))) ∙ kept
    ];
    arrived = λ y there. grind (arith, g);
  }

  quiet : (l : List (Option Man)) (i j : ℕ) → IsQuiet l c i j k z
  quiet l i j = record { quiet = λ h. absurd (false≢true (sym side ∙ h)); stood = λ h. absurd (false≢true (sym side ∙ h)) }

  fairy_stood : (j : Kind) (q : ℕ) → is_man (man_on mid q) (other c) j ≡ true → is_man (man_on men q) (other c) j ≡ true
  fairy_stood j q h = grind (arith, man_there (man_on mid q) (other c) j h, shift_first.others q, cases_eq q b, there_now men a None b z inside, and_parts, side, false≢true)

  covered : IsCovered mid c s k
  covered = record {
    safe = unreached men mid a b z shift_first c k first small come (quiet men a b);
    apart = second.apart;
    straight = off_unshut mid (other c) Rook straight_steps k s (or_parts _ _ beside).0;
    diagonal = off_unshut mid (other c) Bishop diagonal_steps k s (or_parts _ _ beside).1;
    unlined = unlined_before men mid (other c) k s fairy_stood second.unlined;
  }

  -- no man reaches the king, once one man has gone from a to b and another to t from s, which is off the
  -- king's lines
  unreached_after : is_reached after k (other c) ≡ false
  unreached_after = unreached mid after s t z shift_second c k covered small (unlined_before men mid (other c) k t fairy_stood too) (quiet mid s t)

-- if the man on b doesn't reach k, replacing it by another doesn't change what the others reach
pub unreached_instead : (men : List (Option Man)) (b k : ℕ) (z : Man) (c : Colour) → b < length men → is_some (man_on men b) ≡ true
    → (is_of_colour (man_on men b) c && reaches men b k) ≡ false → is_reached (with_man men b z) k c ≡ false → is_reached men k c ≡ false
unfolding is_reached reaches
unreached_instead men b k z c size some harmless none =
    let alike : StandAlike (with_man men b z) men k = record { alike = λ q ne. grind (arith, cases_eq q b, man_on-with_other, man_on-with_same, size, some) } in
    let same = λ (s : ℕ). reaches_alike_of (with_man men b z) men (man_on men s) s k alike in
    let reached = some_square_true (λ s. is_of_colour (man_on (with_man men b z) s) c && reaches (with_man men b z) s k) in
    some_square_false (λ s. is_of_colour (man_on men s) c && reaches men s k) 64 (omega arith) (record {
      fails = λ s lt. false_from_ne_true _ (λ h. grind (arith, cases_eq s b, reached s lt, man_on-with_other men b s z, same s, and_parts, and_from, false≢true));
    })

-- the squares that are occupied once a man has gone to an empty one
occupied_between : (men : List (Option Man)) (a : ℕ) (o : Option ℕ) (b : ℕ) (z : Man) → o ≡ None → b < length men
    → bit_or (bit_and (occupied_squares men) (bit_not w64 (word (is_square (Some a))))) (word (is_square (Some b))) ≡ occupied_squares (gone_to men a o b z)
occupied_between men a o b z none size =
    let words : bit_or (bit_and (occupied_squares men) (bit_not w64 (word (is_square (Some a))))) (word (is_square (Some b)))
    ≡ word (λ i. (is_some (man_on men i) && not (is_square (Some a) i)) || is_square (Some b) i) = search (rules, squares_both, squares_either, squares_not) in
    words ∙ squares_same _ _ (λ i lt. grind (arith, occupied_now men a o b z i size, none))

-- the men once one has come
ruleset put = (man_on-with_other, man_on-with_same, there_now)

-- a pawn that arrives on the last rank is made a queen
abbrev named : Man → ℕ → Option Kind
named y t = if is_promoting y t then Some Queen else None

-- the move of y from s to t
abbrev reply : Man → ℕ → ℕ → Move
reply y s t = record { from = s; to = t; promo = named y t }

promotes_right : (q : Position) (y : Man) (s t : ℕ) → is_promotion_right q y (reply y s t) (named y t) ≡ true
promotes_right q y s t = elim (cases_Bool (is_promoting y t)) [
  | inl on ↦ grind (arith, on, cond-true, and_from)
  | inr off ↦ grind (arith, off, cond-false)
]

-- a reply that may be made and leaves no line open is legal
module _ (rule : RuleSet) (q : Position) (y : Man) (s t k : ℕ) (well : IsWellFormed q) (stands : man_on q.men s ≡ Some y) (mine : same_colour y.colour q.turn ≡ true)
    (able : like_men_paralyse rule ≡ false) (circe : captures_are_reborn rule ≡ false) (mortal : same_kind y.kind King ≡ false) (small : t < 64)
    (free : is_arrival_free q.turn (man_on q.men t) ≡ true) (goes : can_go rule q y (reply y s t) ≡ true) (king : king_square q.men q.turn ≡ Some k) where
  may_reply : is_pseudo_legal rule q (reply y s t) ≡ true
  unfolding is_pseudo_legal is_paralysed
  may_reply = grind (arith, stands, mine, able, free, goes, promotes_right q y s t, and_left, and_from)

  reply_simple : IsSimple rule q y (reply y s t)
  reply_simple = record { castling = search (rules, and_left, mortal); rebirth = λ h. absurd (false≢true (sym circe ∙ h)) }

  reply_is_legal : is_reached (arrived q y (reply y s t)) k (other q.turn) ≡ false → is_legal rule q (reply y s t) ≡ true
  unfolding is_legal
  reply_is_legal none =
      let check = check_is rule q y (reply y s t) (Some k) well (made rule q (reply y s t) y may_reply stands) small reply_simple (cond-false _ _ _ mortal ∙ king) in
      and_from _ _ may_reply (ap not (check ∙ not_attacked rule (arrived q y (reply y s t)) (other q.turn) k none))

-- where a reply is legal there is no mate
no_mate_with_reply : (rule : RuleSet) (q : Position) (n : Move) → IsWellFormed q → is_legal rule q n ≡ true → is_mate rule q ≡ false
no_mate_with_reply rule q n well legal = false_from_ne_true _ (λ h. false≢true (sym (((mate_is rule q well).0 h).1 n) ∙ legal))

-- for `is_mating`: so the move before doesn't mate
pub no_mate_with_parry : (rule : RuleSet) (p : Position) (m : Move) → is_mate rule (position_after rule p m) ≡ false → false ≡ mates rule p m
unfolding mates
no_mate_with_parry rule p m parried = sym (and_right _ _ parried)

-- after a move with computed parries
module _ (rule : RuleSet) (p : Position) (m : Move) (x : Man) (k : ℕ) (well : IsWellFormed p) (may : is_pseudo_legal rule p m ≡ true)
    (here : man_on p.men m.from ≡ Some x) (reported : AreParriesKnown rule p x m) (small : m.to < 64) (king : king_square p.men (other p.turn) ≡ Some k) where
  abbrev q : Position
  q = position_after rule p m

  is_m : IsMade rule p x m
  is_m = made rule p m x may here

  parts : CannotExpose rule p x (other p.turn) m
  parts = cannot_expose_parts rule p x (other p.turn) m here reported.cannot_expose

  men_q : q.men ≡ arrived p x m
  men_q = simple_after rule p x m here parts.plain.castling parts.plain.rebirth

  king_q : king_square q.men q.turn ≡ Some k
  king_q = search (rules, men_q, turn_after rule p m may, king_waits rule p x m (other p.turn) well is_m small refl, king)

  covered_from : (s : ℕ) → may_expose p.men (other p.turn) s ≡ false → IsCovered p.men (other p.turn) s k
  unfolding may_expose
  covered_from s h = covered_parts p.men (other p.turn) s k (ap (λ (o : Option ℕ). may_expose_at p.men o (other p.turn) s) (sym king) ∙ h)

  aside : is_on_fairy_line p.men (other (other p.turn)) k m.to ≡ false
  unfolding may_be_hurdle
  aside = ap (λ (o : Option ℕ). is_on_fairy_line_at p.men o (other p.turn) m.to) (sym king) ∙ parts.aside

  module _ (s : ℕ) (y : Man) (inside : s < 64) (there : man_on q.men s ≡ Some y) (enemy : same_colour y.colour (other p.turn) ≡ true)
      (unpinned : is_unpinned p m k s ≡ true) where
    stood_y : (s ≢ m.to) × ((s ≢ m.from) × (man_on p.men s ≡ Some y))
    stood_y = grind (arith, stands_after p x m s y, men_q, small, well.size, arriving_colour, is_m.mine, other_differs, false≢true, there)

    covered_y : IsCovered p.men (other p.turn) s k
    covered_y = covered_from s (not-true _ (and_parts _ _ unpinned).0)

    mortal : same_kind y.kind King ≡ false
    mortal = false_from_ne_true _ (λ h. grind (arith, king_is p.men (other p.turn) s well.kings inside, stood_y, and_from, enemy, h, king, covered_y.apart, eq-eqb))

    -- a reply goes to a square where nothing is captured elsewhere, and the checking man is captured or
    -- doesn't reach the king
    module _ (t : ℕ) (lt : t < 64) (takes_there : (j : ℕ) → capture_square q y (reply y s t) ≡ Some j → j ≡ t)
        (goes : can_go rule q y (reply y s t) ≡ true) (free : is_arrival_free q.turn (man_on q.men t) ≡ true)
        (off : is_on_fairy_line p.men (other (other p.turn)) k t ≡ false)
        (harmless : (is_of_colour (man_on (arrived q y (reply y s t)) m.to) (other (other p.turn)) && reaches (arrived q y (reply y s t)) m.to k) ≡ false) where
      abbrev n : Move
      n = reply y s t

      abbrev z : Man
      z = arriving_man y n.promo

      -- the men after the reply, one of its side in place of the checking man
      abbrev replaced : List (Option Man)
      replaced = with_man (arrived q y n) m.to z

      well_q : IsWellFormed q
      well_q = after_well_formed rule p m well may

      size_r : m.to < length (arrived q y n)
      size_r = let size : m.to < length q.men = omega (arith, small, well_q.size) in grind (arith, length-set, length-without_at, size)

      gone : AreGone p.men replaced m.from m.to s t z
      gone = record {
        vacated = λ i none from ne.
            let stays = stays_there q y n i takes_there in
            grind (arith, cases_eq i m.to, cases_eq i t, put, stays, stays_there p x m i, captured_there p x m, parts.plain.crossed, men_q, lt, size_r, well_q.size);
        others = λ i v now to ne. grind (arith, put, stands_after q y n i v, stands_after p x m i v, men_q, small, lt, well.size, well_q.size);
        first = search (rules, man_on-with_same, size_r);
        second = grind (arith, cases_eq t m.to, put, lt, size_r, well_q.size);
      }

      arrives_still : is_some (man_on (arrived q y n) m.to) ≡ true
      arrives_still = grind (arith, cases_eq t m.to, there_now, stays_there q y n m.to takes_there, stood_y, men_q, small, lt, well.size, well_q.size)

      unreached_replaced : is_reached replaced k (other (other p.turn)) ≡ false
      unreached_replaced =
          let size : (m.to < length p.men) × (t < length p.men) = (omega (arith, small, well.size), omega (arith, lt, well.size)) in
          let side : same_colour z.colour (other (other p.turn)) ≡ false = grind (arith, arriving_colour, enemy, other_twice) in
          let apart : m.from ≢ m.to = grind (arith, here, is_m, false≢true, and_parts, not-true, same_colour-refl) in
          let low = (king_there p.men (other p.turn) k king).0 in
          let moves : s ≢ t = grind (arith, there, free, enemy, turn_after rule p m may, false≢true, and_parts, not-true) in
          let back : AreGone p.men replaced s t m.from m.to z = record {
            vacated = λ i none from ne. gone.vacated i none ne from;
            others = λ i v now to ne. let w = gone.others i v now ne to in (w.1.0, (w.0, w.1.1));
            first = gone.second;
            second = gone.first;
          } in
          elim (cases_Bool (is_on_line k s)) [
            | inl on ↦ unreached_after p.men replaced s t m.from m.to k z (other p.turn) back size.1 moves side low covered_y
                (covered_from m.from parts.origin) (grind (arith, unpinned, on, and_parts, not-true, cases_Bool (is_on_line k m.from))) off aside
            | inr off_line ↦ unreached_after p.men replaced m.from m.to s t k z (other p.turn) gone size.0 apart side low (covered_from m.from parts.origin)
                covered_y off_line aside off
          ]

      -- where the check is parried, it is no mate
      no_mate_where_parried : is_mate rule q ≡ false
      no_mate_where_parried =
          let turn = turn_after rule p m may in
          let mine : same_colour y.colour q.turn ≡ true = ap (same_colour y.colour) turn ∙ enemy in
          no_mate_with_reply rule q n well_q (reply_is_legal rule q y s t k well_q there mine reported.able reported.reborn mortal lt free goes king_q
          (ap (λ (c : Colour). is_reached (arrived q y n) k (other c)) turn
          ∙ unreached_instead (arrived q y n) m.to k z (other (other p.turn)) size_r arrives_still harmless unreached_replaced))

  arrives : man_on q.men m.to ≡ Some (arriving_man x m.promo)
  arrives = grind (arith, men_q, there_now, small, well.size)

  -- the reply captures the checking man
  captured_from : (s : ℕ) (o : Option Man) → man_on q.men s ≡ o → s < 64 → is_of_colour o (other p.turn) ≡ true → reaches q.men s m.to ≡ true
      → is_unpinned p m k s ≡ true → is_mate rule q ≡ false
  unfolding capture_square
  captured_from s None at inside side takes unpinned = absurd (false≢true side)
  captured_from s (Some y) at inside side takes unpinned =
      let free : is_arrival_free q.turn (man_on q.men m.to) ≡ true =
      grind (arith, arrives, turn_after rule p m may, arriving_colour, is_m.mine, other_differs, reported.unpromoted, reported.mortal) in
      let goes : can_go rule q y (reply y s m.to) ≡ true =
      grind (arith, takes, arrives, cases_Bool (same_kind y.kind Pawn), cond-true, cond-false, or_left, and_from) in
      let size : m.to < length q.men = omega (arith, small, (after_well_formed rule p m well may).size) in
      no_mate_where_parried s y inside at side unpinned m.to small (λ j h. grind (arith, arrives, cond-true, h)) goes free aside
      (grind (arith, there_now q.men s (capture_square q y (reply y s m.to)) m.to (arriving_man y (named y m.to)) size, arriving_colour, side, other_twice, and_left))

  -- the reply interposes, and the checking man doesn't reach the king any more
  module _ (i : IsInterposed q.men p x m k) (y : Man) (at : man_on q.men i.from ≡ Some y) (side : same_colour y.colour (other p.turn) ≡ true)
      (nobody : capture_square q y (reply y i.from i.square) ≡ None) (goes : can_go rule q y (reply y i.from i.square) ≡ true) where
    comes_between : is_mate rule q ≡ false
    unfolding reaches may_be_hurdle
    comes_between =
        let well_q = after_well_formed rule p m well may in
        let inside = on_board q.men i.from y well_q.size at in
        let stood = stood_y i.from y inside at side i.unpinned in
        let words = occupied_between q.men i.from (capture_square q y (reply y i.from i.square)) i.square (arriving_man y (named y i.square)) nobody
        (omega (arith, i.small, well_q.size)) in
        let nowhere : (j : ℕ) → capture_square q y (reply y i.from i.square) ≡ Some j → j ≡ i.square = λ j h. grind (arith, nobody, h) in
        let stays : man_on (arrived q y (reply y i.from i.square)) m.to ≡ Some x =
        grind (arith, stays_there q y (reply y i.from i.square) m.to nowhere, arrives, reported.unpromoted, stood, i.vacant) in
        let unharmed : reaches (arrived q y (reply y i.from i.square)) m.to k ≡ false =
        grind (arith, stays, i.shut (arrived q y (reply y i.from i.square)) words) in
        no_mate_where_parried i.from y inside at side i.unpinned i.square i.small nowhere goes (grind (arith, i.vacant))
        (ap (λ (o : Option ℕ). is_on_fairy_line_at p.men o (other p.turn) i.square) (sym king) ∙ i.aside)
        (and_right (is_of_colour (man_on (arrived q y (reply y i.from i.square)) m.to) (other (other p.turn))) _ unharmed)

  between_from : (i : IsInterposed q.men p x m k) (o : Option Man) → man_on q.men i.from ≡ o → is_mate rule q ≡ false
  between_from i None at = absurd (false≢true (grind (arith, i.way, at)))
  between_from i (Some y) at = elim i.way [
    | inl w ↦
        let parts = and_parts (is_of_colour (man_on q.men i.from) (other p.turn)) (reaches q.men i.from i.square) w.0 in
        let side : same_colour y.colour (other p.turn) ≡ true = grind (arith, parts.0, at) in
        let piece : same_kind y.kind Pawn ≡ false = grind (arith, w.1, at, side, cases_Bool (same_kind y.kind Pawn), and_from) in
        comes_between i y at side (search (rules, no_capture, i.vacant, and_left, piece)) (grind (arith, parts.1, piece, cond-false, or_left))
    | inr w ↦
        let both = and_parts (same_colour y.colour (other p.turn)) (same_kind y.kind Pawn) (grind (arith, w.0, at)) in
        let colour : y.colour ≡ other p.turn = same_colour-true _ _ both.0 in
        let step : is_pawn_step q y (reply y i.from i.square) ≡ true = grind (arith, i.vacant, w.1, colour, or_left, and_from) in
        let ahead = (pawn_steps_to q y (reply y i.from i.square) step).ahead in
        comes_between i y at both.0 (no_capture q y (reply y i.from i.square) i.vacant (grind (arith, ahead, eq-eqb, and_right)))
        (grind (arith, step, both.1, cond-true, or_right))
  ]

  -- the men that an attack sees after it
  seen_q : (v : Occupancy) → v ≡ occupancy_after p.men m.from (capture_square p x m) m.to → DescribesMen p.men q.men (other p.turn) v
  seen_q v sees =
      let goes : IsCapture p.men m.from (capture_square p x m) m.to (arriving_man x m.promo) p.turn =
      grind (arith, here, is_m.mine, arriving_colour, other_differs, captures_arrival p x m, small, well.size) in
      rw (sees, men_q) (seen_after p.men m.from (capture_square p x m) m.to (arriving_man x m.promo) p.turn goes)

  -- for `parries_after`: somebody comes between
  pub no_mate_where_interposed : (v : Occupancy) → v ≡ occupancy_after p.men m.from (capture_square p x m) m.to → (r : Parries) → r ≡ Possible
      → ((men : List (Option Man)) → DescribesMen p.men men (other p.turn) v → IsKnownBetween men p x m k r) → is_mate rule q ≡ false
  no_mate_where_interposed v sees r is reported = between_from (subst (IsKnownBetween q.men p x m k) is (reported q.men (seen_q v sees))) _ refl

  -- for `parries_after`: somebody captures the man that has come
  pub no_mate_where_some_capture : (v : Occupancy) → v ≡ occupancy_after p.men m.from (capture_square p x m) m.to → (t w : ℕ)
      → ((men : List (Option Man)) → DescribesMen p.men men (other p.turn) v → t ≡ word (λ s. is_of_colour (man_on men s) (other p.turn) && reaches men s m.to))
      → w ≡ word (is_unpinned p m k) → not (bit_and t w == 0) ≡ true → is_mate rule q ≡ false
  unfolding some_square squares
  no_mate_where_some_capture v sees t w capturers unpinned some =
      let are : bit_and t w ≡ word (λ s. is_of_colour (man_on q.men s) (other p.turn) && reaches q.men s m.to && is_unpinned p m k s) =
      search (rules, squares_both, capturers q.men (seen_q v sees), unpinned) in
      let takes = λ (s : ℕ). is_of_colour (man_on q.men s) (other p.turn) && reaches q.men s m.to && is_unpinned p m k s in
      elim (any_range_cases takes 0 64) [
        | inl w ↦
            let both = and_parts _ (is_unpinned p m k w.0) w.3 in
            let parts = and_parts _ (reaches q.men w.0 m.to) both.0 in
            captured_from w.0 _ refl w.2 parts.0 parts.1 both.1
        | inr none ↦ absurd (false≢true (sym (any_range_false takes 0 64 none) ∙ (sym (some_square_known takes (bit_and t w) are) ∙ some)))
      ]

  -- if the checking man isn't captured and no man interposes, the check stays
  module _ (o w : ℕ) (i : IsUncaptured o w x m.to k) (occupied : o ≡ occupied_squares q.men)
      (capturers : w ≡ word (λ s. is_of_colour (man_on q.men s) (other p.turn) && reaches q.men s m.to)) (u : NobodyComes q.men (other p.turn) m.to k) where
    -- nobody is captured en passant
    uncrossed : q.crossed ≡ None
    unfolding position_after position_after_by
    uncrossed = search (rules, here, i.piece, cond-false, and_left)

    -- by the reply of another man than the king
    module _ (n : Move) (y : Man) (is : IsMade rule q y n) (inside : n.from < 64) (lt : n.to < 64) (mortal : same_kind y.kind King ≡ false) where
      enemy : same_colour y.colour (other p.turn) ≡ true
      enemy = grind (arith, is.mine, turn_after rule p m may, same_colour-refl)

      -- the man that replies isn't the checking man
      no_enemy : Some y ≡ Some (arriving_man x m.promo) → ⊥
      no_enemy e =
          let side = ap (λ (c : Colour). same_colour c (other p.turn)) (arriving_colour x m.promo ∙ is_m.mine) ∙ other_differs p.turn in
          false≢true (sym side ∙ ap (λ (v : Option Man). is_of_colour v (other p.turn)) (sym e) ∙ enemy)

      -- the parrying man isn't on the king's square
      away : is_square (Some k) n.from ≡ false
      away =
          let there = king_there q.men q.turn k king_q in
          false_from_ne_true _ (λ h. grind (arith, there.1, is.here, eqb-true k n.from h, mortal, and_parts, false≢true))

      -- the reply doesn't capture the checking man
      uncaptured : n.to ≢ m.to
      unfolding can_castle may_castle
      uncaptured e =
          let goes : reaches q.men n.from m.to ≡ true =
          grind (arith, is.can_go, e, arrives, cases_Bool (same_kind y.kind Pawn), cond-true, cond-false, and_left, and_parts, or_cases, mortal, false≢true) in
          let side = ap (λ (v : Option Man). is_of_colour v (other p.turn)) is.here ∙ enemy in
          let set : (bit_at w n.from == 1) ≡ true = word_has _ w n.from capturers inside ∙ and_from _ _ side goes in
          false≢true (sym away ∙ i.uncaptured n.from inside set)

      -- the man doesn't interpose
      apart : (bit_at u.squares n.to == 1) ≡ false
      unfolding can_castle may_castle
      apart = false_from_ne_true _ (λ h.
          let vacant = u.vacant n.to lt h in
          let come : comes q.men (other p.turn) k n.to n.from ≡ true = elim (cases_Bool (same_kind y.kind Pawn)) [
            | inl pawn ↦
                let step : is_pawn_step q y n ≡ true = grind (arith, is.can_go, pawn, cond-true, vacant, uncrossed, and_parts, or_cases, false≢true) in
                let ahead = advance_back y.colour n.from n.to inside (advances q y n step) in
                grind (arith, is.here, enemy, pawn, same_colour-true y.colour (other p.turn) enemy, ahead, and_from, or_right)
            | inr piece ↦
                let goes : reaches q.men n.from n.to ≡ true = grind (arith, is.can_go, piece, cond-false, and_left, mortal, or_cases, false≢true) in
                grind (arith, is.here, enemy, piece, goes, away, and_from, or_left)
          ] in
          false≢true (sym (u.none n.to lt h) ∙ some_square_true (comes q.men (other p.turn) k n.to) n.from inside come))

      plain : IsPlain rule q y n
      plain = record {
        castling = search (rules, and_left, mortal);
        crossed = rw uncrossed refl;
        rebirth = λ h. absurd (false≢true (sym reported.reborn ∙ h));
      }

      -- the check stays
      still : in_check rule (position_after rule q n).men q.turn ≡ true
      unfolding is_reached reaches
      still =
          let well_q = after_well_formed rule p m well may in
          let simple : IsSimple rule q y n = record { castling = plain.castling; rebirth = plain.rebirth } in
          let shift = arrived_shift rule q y n well_q is lt plain in
          let low = (king_there p.men (other p.turn) k king).0 in
          let free : Frees q.men (arrived q y n) n.to = frees_after q.men (arrived q y n) n.from n.to (arriving_man y n.promo) shift in
          let stays : man_on (arrived q y n) m.to ≡ Some x =
          stays_there q y n m.to (λ s cap. captured_there q y n s plain.crossed cap) (λ e. no_enemy (sym is.here ∙ ap (man_on q.men) (sym e) ∙ arrives))
          (λ e. uncaptured (sym e)) ∙ arrives ∙ ap (λ (r : Option Kind). Some (arriving_man x r)) reported.unpromoted in
          let holds = reaches_still q.men (arrived q y n) n.to k m.to u.squares free small low lt u.between apart x.colour x.kind i.orthodox
          (i.check q.men occupied) in
          let reached : is_reached (arrived q y n) k (other q.turn) ≡ true =
          some_square_true (λ s. is_of_colour (man_on (arrived q y n) s) (other q.turn) && reaches (arrived q y n) s k) m.to small
          (grind (arith, stays, turn_after rule p m may, other_twice, is_m.mine, same_colour-refl, holds, and_from)) in
          check_is rule q y n (Some k) well_q is lt simple (cond-false _ _ _ mortal ∙ king_q)
          ∙ sym (attacked_plainly rule (arrived q y n) k (other q.turn) true reported.able (sym reached))

    checked : in_check rule q.men q.turn ≡ true
    unfolding in_check is_reached reaches
    checked =
        let holds = i.check q.men occupied in
        let reached : is_reached q.men k (other q.turn) ≡ true =
        some_square_true (λ s. is_of_colour (man_on q.men s) (other q.turn) && reaches q.men s k) m.to small
        (grind (arith, arrives, reported.unpromoted, turn_after rule p m may, other_twice, is_m.mine, same_colour-refl, holds, and_from)) in
        ap (λ (v : Option ℕ). is_attacked_at rule q.men v (other q.turn)) king_q ∙ sym (attacked_plainly rule q.men k (other q.turn) true reported.able (sym reached))

    is_parriless : IsParriless rule q
    unfolding is_legal
    is_parriless = record {
      check = checked;
      idle = λ n others. false_from_ne_true _ (λ legal.
          let well_q = after_well_formed rule p m well may in
          let triple = legal_moves_are_triples rule q n well_q legal in
          let pseudo = may_be_made rule q n legal in
          let y = maker rule q n pseudo in
          let is = made rule q n y.0 pseudo y.1 in
          let mortal : same_kind y.0.kind King ≡ false =
          false_from_ne_true _ (λ h. grind (arith, others, y.1, is.mine, h, same_colour-refl, and_from, false≢true)) in
          grind (arith, legal, still n y.0 is triple.0 triple.1 mortal, and_parts, false≢true));
    }

  -- for `parries_after`: nobody can
  pub parriless : (v : Occupancy) → v ≡ occupancy_after p.men m.from (capture_square p x m) m.to → (t : ℕ) → IsUncaptured v.occupied t x m.to k
      → ((men : List (Option Man)) → DescribesMen p.men men (other p.turn) v → t ≡ word (λ s. is_of_colour (man_on men s) (other p.turn) && reaches men s m.to))
      → (r : Parries) → r ≡ Impossible → ((men : List (Option Man)) → DescribesMen p.men men (other p.turn) v → IsKnownBetween men p x m k r)
      → IsParriless rule q
  parriless v sees t i capturers r is reported =
      let seen = seen_q v sees in
      is_parriless v.occupied t i seen.occupied (capturers q.men seen) (subst (IsKnownBetween q.men p x m k) is (reported q.men seen))

-- the words of the squares of men that aren't pinned
module _ (p : Position) (m : Move) (k w l d : ℕ) (blockers : w ≡ word (may_expose p.men (other p.turn))) (straight : l ≡ word (is_on_some straight_steps k))
    (diagonal : d ≡ word (is_on_some diagonal_steps k)) (small : m.from < 64) where
  on_line_is : (bit_at (bit_or l d) m.from == 1) ≡ is_on_line k m.from
  on_line_is = search (rules, straight, diagonal, squares_either, word_has)

  -- for `unpinned_squares`: beside a move from a line of the king
  pub unpinned_beside : (bit_at (bit_or l d) m.from == 1) ≡ true → bit_not w64 (bit_or w (bit_or l d)) ≡ word (is_unpinned p m k)
  unpinned_beside on =
      let words : bit_not w64 (bit_or w (bit_or l d)) ≡ word (λ s. not (may_expose p.men (other p.turn) s || is_on_line k s)) =
      search (rules, blockers, straight, diagonal, squares_either, squares_not) in
      words ∙ squares_same _ _ (λ s b. grind (arith, on_line_is, on))

  -- for `unpinned_squares`: beside a move from elsewhere
  pub unpinned_alone : (bit_at (bit_or l d) m.from == 1) ≡ false → bit_not w64 w ≡ word (is_unpinned p m k)
  unpinned_alone off =
      let words : bit_not w64 w ≡ word (λ s. not (may_expose p.men (other p.turn) s)) = search (rules, blockers, squares_not) in
      words ∙ squares_same _ _ (λ s b. grind (arith, on_line_is, off))

-- a square two ahead isn't next to a pawn's
abbrev is_far_at : ℕ → Option ℕ → Bool
is_far_at t None = true
is_far_at t (Some s) = not (list_any (leaps t s) queen_steps)

two_far : (c : Colour) (t : ℕ) → t < 64 → is_far_at t (along t (forward c) 2) ≡ true
unfolding along leaps
two_far White t p = agree_below_at (λ t. is_far_at t (along t (forward White) 2)) (λ _. true) 64 t refl p
two_far Black t p = agree_below_at (λ t. is_far_at t (along t (forward Black) 2)) (λ _. true) 64 t refl p

one_ahead : (c : Colour) (t s : ℕ) → t < 64 → is_advance c t s ≡ true → list_any (leaps t s) queen_steps ≡ true
    → is_square (along t (forward c) 1) s ≡ true
one_ahead c t s p advance near = elim (or_cases (is_square (along t (forward c) 1) s) (is_square (along t (forward c) 2) s) advance) [
  | inl y ↦ y
  | inr y ↦ absurd (false≢true (sym (not-true _ (ap (is_far_at t) (sym (square_is (along t (forward c) 2) s y)) ∙ two_far c t p)) ∙ near))
]

-- for `pawn_origins`
pub pawns_after : (c : Colour) (t a k s : ℕ) → t < 64 → s < 64 → a ≡ word (is_advance (other c) t) → k ≡ word (λ s. list_any (leaps t s) queen_steps)
    → (bit_at (bit_and a k) s == 1) ≡ true → is_square (along s (forward c) 1) t ≡ true
pawns_after c t a k s p q ahead near on =
    let step = one_ahead (other c) t s p (sym (word_has _ a s ahead q) ∙ on_first a k s on) (sym (word_has _ k s near q) ∙ on_second a k s on) in
    grind (arith, return_square t s (forward (other c)) 1 p step)

-- for `parries_between`: a man of these comes between
pub interposed : (men : List (Option Man)) (p : Position) (x : Man) (m : Move) (k a o f c w u b t : ℕ) → o ≡ occupied_squares men
    → f ≡ word (may_be_hurdle p.men (other p.turn)) → c ≡ word (λ s. is_of_colour (man_on men s) (other p.turn) && reaches men s t && is_unpinned p m k s)
    → w ≡ squares_of men (other p.turn) Pawn → u ≡ word (is_unpinned p m k)
    → ((s : ℕ) → s < 64 → (bit_at b s == 1) ≡ true → is_square (along s (forward (other p.turn)) 1) t ≡ true) → t < 64
    → (bit_at (bit_and a (bit_not w64 (bit_or o f))) t == 1) ≡ true
    → IsShutBy o (bit_or (bit_and c (bit_not w64 w)) (bit_and (bit_and w u) b)) x m.to k t → IsInterposed men p x m k
unfolding squares_of
interposed men p x m k a o f c w u b t occupied lines comers pawns loose following lt on by =
    let held : bit_or o f ≡ word (λ s. is_some (man_on men s) || may_be_hurdle p.men (other p.turn) s) =
    search (rules, occupied, lines, squares_either) in
    let off = or_parts _ (may_be_hurdle p.men (other p.turn) t) (sym (word_has _ (bit_or o f) t held lt) ∙ unseen_bit _ a (bit_or o f) t held lt on) in
    let made : is_unpinned p m k by.from ≡ true → IsWayBetween men p by.from t → IsInterposed men p x m k = λ free way. record {
      from = by.from;
      square = t;
      small = lt;
      unpinned = free;
      way = way;
      vacant = grind (arith, off.0);
      aside = off.1;
      shut = λ l words. by.shut l (ap (λ (n : ℕ). bit_or (bit_and n (bit_not w64 (word (is_square (Some by.from))))) (word (is_square (Some t)))) occupied ∙ words);
    } in
    elim (on_one (bit_and c (bit_not w64 w)) (bit_and (bit_and w u) b) by.from by.here) [
      | inl y ↦
          let both = and_parts _ (is_unpinned p m k by.from) (sym (word_has _ c by.from comers by.small) ∙ on_first c _ by.from y) in
          made both.1 (inl (both.0, sym (word_has _ w by.from pawns by.small) ∙ unseen_bit _ c w by.from pawns by.small y))
      | inr y ↦
          let first = on_first (bit_and w u) b by.from y in
          made (sym (word_has _ u by.from loose by.small) ∙ on_second w u by.from first)
          (inr (sym (word_has _ w by.from pawns by.small) ∙ on_first w u by.from first, following by.from by.small (on_second (bit_and w u) b by.from y)))
    ]

-- for `parries_between`: nobody comes to a square between, and all of them are empty
pub nobody_between : (men : List (Option Man)) (p : Position) (b k a o f : ℕ) → o ≡ occupied_squares men → f ≡ word (may_be_hurdle p.men (other p.turn))
    → AreBetween men b k a → (bit_and a (bit_or o f) == 0) ≡ true
    → ((t : ℕ) → t < 64 → (bit_at (bit_and a (bit_not w64 (bit_or o f))) t == 1) ≡ true → some_square (comes men (other p.turn) k t) ≡ false)
    → NobodyComes men (other p.turn) b k
nobody_between men p b k a o f occupied lines between free none =
    let held : bit_or o f ≡ word (λ s. is_some (man_on men s) || may_be_hurdle p.men (other p.turn) s) = search (rules, occupied, lines, squares_either) in
    let off : (t : ℕ) → (bit_at a t == 1) ≡ true → (bit_at (bit_or o f) t == 1) ≡ false =
    λ t on. off_second a (bit_or o f) t (ap (λ n. bit_at n t == 1) (eqb-true _ 0 free) ∙ off_zero t) on in
    record {
      squares = a;
      between = between;
      vacant = λ t lt on. grind (arith, or_parts _ (may_be_hurdle p.men (other p.turn) t) (sym (word_has _ (bit_or o f) t held lt) ∙ off t on));
      none = λ t lt on. none t lt (seen_bit _ a (bit_or o f) t held lt on (off t on));
    }

-- for `is_uncaptured`: all men that capture the checker are on the king's square
pub kings_alone : (w n k s : ℕ) → n ≡ word (is_square (Some k)) → (bit_and w (bit_not w64 n) == 0) ≡ true → s < 64 → (bit_at w s == 1) ≡ true
    → is_square (Some k) s ≡ true
kings_alone w n k s only none lt on =
    true_from_ne_false _ (λ off. false≢true (sym (ap (λ v. bit_at v s == 1) (eqb-true _ 0 none) ∙ off_zero s)
    ∙ seen_bit _ w n s only lt on (word_has _ n s only lt ∙ off)))
