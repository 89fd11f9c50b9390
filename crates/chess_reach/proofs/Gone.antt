-- What a legal move that doesn't castle does to the men.
use Rattle.chess_reach.proofs.Chess.{Black, White, Bool, ap, captures_to, is_ahead, subst, inl, inr, ◌<◌, ◌≤◌, ◌+◌, ◌||◌, Colour, IsWellFormed, King, Kind, List, Man, Move, None, Option, Pawn, Position, RuleSet, Some, and_from, and_parts, arith, arriving_man, becomes, capture_square, captured_man, captures_are_reborn, cases_Bool, cond-false, cond-true, eq-eqb, false, false_from_ne_true, false≢true, goes, length, man_on-with_other, man_on-with_same, with_man, guards, is_castling, is_pawn_capture, is_pawn_step, is_promotion_right, is_pseudo_legal, is_some, is_square, man_on, may_promote, moved_men, if◌then◌else◌, not-true, ne_eqb, is_arrival_free, same_colour-refl, rank_of, last_rank, ◌==◌, or_left, or_right, pawn_goes, position_after, position_after_by, reaches, reborn_square, refl, same_colour, same_kind, same_kind-true, sym, true, ℕ, ◌&&◌, ◌∙◌, ◌≡◌, ◌≢◌, ◌⊎◌}
use Rattle.chess_rules.proofs.Chess.{if_empty, length-set, man_on_at, put_at, rebirth}
use Rattle.chess_rules.proofs.Stays.{rebirth_small}
use Rattle.chess_reach.proofs.OneMove.{IsReborn}
use Rattle.chess_attacks.proofs.rays.Ends.{square_is}
use Rattle.chess_attacks.proofs.rays.OnSquares.{on_board}
use Rattle.chess_reach.proofs.EmptyBoard.{guards_reached}
use Rattle.chess_reach.proofs.OneMove.{IsGone}
use Rattle.chess_rules.proofs.Chess.{file_of, square_at, square_at-is, le-leb, can_castle, may_castle, rebirth_at}
use Rattle.chess_rules.proofs.Blocking.{arriving_colour, moved_plainly}
use Rattle.chess_rules.proofs.Seeing.{kept_now, left_now, there_now}
use Rattle.chess_rules.proofs.TripleNumbers.{made_is_triple}
use Rattle.chess_rules.proofs.Fits.{arrived, pawn_is_no_king, taken}
use Rattle.chess_rules.proofs.Plays.{length-without_at, none_from_is_some}
use Rattle.chess_rules.proofs.Pseudo.{Advances, IsMade, made, pawn_reaches, ways}

-- nobody is reborn
rebirth_none : (o : Option Man) (s : Option ℕ) (men : List (Option Man)) → rebirth_at false men o s ≡ None
rebirth_none None s men = refl
rebirth_none (Some y) None men = refl
rebirth_none (Some y) (Some s) men = refl

pub reborn_none : (rule : RuleSet) (p : Position) (x : Man) (m : Move) → captures_are_reborn rule ≡ false → reborn_square rule p x m ≡ None
unfolding reborn_square
reborn_none rule p x m none_reborn = rw none_reborn (rebirth_none (captured_man p x m) (capture_square p x m) (moved_men p x m))

-- a man that is reborn on r was captured, and its home was empty
pub record IsBorn (p : Position) (e : Option ℕ) (men : List (Option Man)) (rb : Bool) (r : ℕ) : Type 0 where
  pub from : ℕ
  pub man : Man
  pub taken : e ≡ Some from
  pub was : man_on p.men from ≡ Some man
  pub lives : rb ≡ true
  pub home : rebirth man.colour man.kind from ≡ Some r
  pub empty : man_on men r ≡ None

free_home : (men : List (Option Man)) (o : Option ℕ) (r : ℕ) → if_empty men o ≡ Some r → (o ≡ Some r) × (man_on men r ≡ None)
free_home men None r at = grind (arith, at)
free_home men (Some t) r at = grind (arith, at, none_from_is_some, cases_Bool (is_some (man_on men t)))

lives_at : (b : Bool) (men : List (Option Man)) (o : Option ℕ) (r : ℕ) → (if b then if_empty men o else None) ≡ Some r
    → (b ≡ true) × (if_empty men o ≡ Some r)
lives_at true men o r at = (refl, at)
lives_at false men o r at = grind (arith, at)

born_at : (p : Position) (b : Bool) (men : List (Option Man)) (e : Option ℕ) (o : Option Man) (r : ℕ) → man_on_at p.men e ≡ o → rebirth_at b men o e ≡ Some r
    → IsBorn p e men b r
born_at p b men e None r is at = grind (arith, at)
born_at p b men None (Some z) r is at = grind (arith, at)
born_at p b men (Some f) (Some z) r is at =
    let live = lives_at b men (rebirth z.colour z.kind f) r at in
    let free = free_home men (rebirth z.colour z.kind f) r live.1 in
    record { from = f; man = z; taken = refl; was = is; lives = live.0; home = free.0; empty = free.1 }

pub born : (rule : RuleSet) (p : Position) (x : Man) (m : Move) (r : ℕ) → reborn_square rule p x m ≡ Some r
    → IsBorn p (capture_square p x m) (moved_men p x m) (captures_are_reborn rule) r
unfolding reborn_square
born rule p x m r at = born_at p (captures_are_reborn rule) (moved_men p x m) (capture_square p x m) (captured_man p x m) r refl at

-- a man reaches a square only where it guards it
pub guards_from : (men : List (Option Man)) (x : Man) (s t : ℕ) → man_on men s ≡ Some x → reaches men s t ≡ true → guards x.colour x.kind s t ≡ true
unfolding reaches
guards_from men x s t here h = guards_reached men x.colour x.kind s t (rw here at h)

-- no pawn becomes a king
promoted_is_no_king : (p : Position) (j : Kind) → may_promote p j ≡ true → same_kind j King ≡ false
promoted_is_no_king p j h = grind (arith, false≢true)

-- a king stays a king, and no other man becomes one
pub king_kept : (p : Position) (x : Man) (m : Move) (r : Option Kind) → is_promotion_right p x m r ≡ true
    → same_kind (arriving_man x r).kind King ≡ same_kind x.kind King
king_kept p x m None right = refl
king_kept p x m (Some j) right = grind (arith, and_parts, pawn_is_no_king, promoted_is_no_king p j)

enemy_is : (c d : Colour) (z w : Man) → z ≡ w → c ≡ d → same_colour w.colour d ≡ false → same_kind w.kind King ≡ false
    → (same_colour z.colour c ≡ false) × (same_kind z.kind King ≡ false)
enemy_is c d z w same mine enemy mortal = rw (same, mine) (enemy, mortal)

-- the kind that arrives
becomes_right : (p : Position) (x : Man) (m : Move) (r : Option Kind) → is_promotion_right p x m r ≡ true
    → becomes (may_promote p) x.colour x.kind m.to (arriving_man x r).kind ≡ true
becomes_right p x m None right = cond-false (same_kind x.kind Pawn && rank_of m.to == last_rank x.colour) _ _ (not-true _ right) ∙ eq-eqb _ _ refl
becomes_right p x m (Some j) right = let h = and_parts _ _ right in cond-true (same_kind x.kind Pawn && rank_of m.to == last_rank x.colour) _ _ h.0 ∙ h.1

-- a square that is missing is off the board
missing : (f r : ℕ) → 0 < f → f ≤ 8 → 0 < r → r ≤ 8 → square_at f r ≡ None → ⊥
missing f r a b c d none = grind (arith, le-leb)

-- the square ahead
ahead : (c : Colour) (s from to : ℕ) → Advances c from to 1 → file_of to ≡ file_of s → rank_of from ≡ rank_of s → is_ahead c s to ≡ true
ahead White s from to advances file rank = and_from _ _ (eq-eqb _ _ (sym file)) (eq-eqb _ _ (advances ∙ ap (λ r. r + 1) rank))
ahead Black s from to advances file rank = and_from _ _ (eq-eqb _ _ (sym file)) (eq-eqb _ _ (sym rank ∙ advances))

-- one of two, and not the first
other_holds : (a b : Bool) → a ≡ false → (a || b) ≡ true → b ≡ true
other_holds a b off h = grind arith

module _ (rule : RuleSet) (p : Position) (x : Man) (m : Move) (well : IsWellFormed p) (may : is_pseudo_legal rule p m ≡ true)
    (here : man_on p.men m.from ≡ Some x)
    (plain : is_castling x m ≡ false) where
  is_made : IsMade rule p x m
  is_made = made rule p m x may here

  -- whom a pawn captures
  record Captured : Type 0 where
    square : ℕ
    man : Man
    taken : is_square (capture_square p x m) square ≡ true
    there : man_on p.men square ≡ Some man
    to : captures_to x.colour square m.to ≡ true

  -- a man on the arrival
  captured_there : (o : Option Man) → man_on p.men m.to ≡ o → is_some o ≡ true → Captured
  unfolding capture_square
  captured_there None at some = absurd (false≢true some)
  captured_there (Some z) at some = record {
    square = m.to;
    man = z;
    taken = rw (at, eq-eqb m.to m.to refl) refl;
    there = at;
    to = or_left _ _ (eq-eqb m.to m.to refl);
  }

  -- or one that is passed
  passing_at : same_kind x.kind Pawn ≡ true → is_some (man_on p.men m.to) ≡ false → is_square p.crossed m.to ≡ true → file_of m.from ≢ file_of m.to
      → capture_square p x m ≡ square_at (file_of m.to) (rank_of m.from)
  unfolding capture_square
  passing_at pawn empty crossed aside = rw (empty, pawn, crossed, ne_eqb (file_of m.from) (file_of m.to) aside) refl

  captured_passing : (o : Option ℕ) → capture_square p x m ≡ o → same_kind x.kind Pawn ≡ true → is_some (man_on p.men m.to) ≡ false
      → is_square p.crossed m.to ≡ true → reaches p.men m.from m.to ≡ true → Captured
  unfolding capture_square
  captured_passing None at pawn empty crossed reach =
      let take = pawn_reaches p.men x m.from m.to here pawn reach in
      absurd (missing (file_of m.to) (rank_of m.from) (omega (arith, take.small)) (omega (arith, take.small))
      (omega (arith, on_board p.men m.from x well.size here)) (omega (arith, on_board p.men m.from x well.size here)) (sym (passing_at pawn empty crossed take.aside) ∙ at))
  captured_passing (Some s) at pawn empty crossed reach =
      let take = pawn_reaches p.men x m.from m.to here pawn reach in
      let t = taken rule p x m s well is_made at in
      let is = square_at-is (file_of m.to) (rank_of m.from) s (rw (sym (passing_at pawn empty crossed take.aside) ∙ at) (eq-eqb s s refl)) in
      record { square = s; man = t.man; taken = rw at (eq-eqb s s refl); there = t.there; to = or_right (s == m.to) _ (ahead x.colour s m.from m.to take.advances is.file is.rank) }

  captured : same_kind x.kind Pawn ≡ true → is_pawn_capture p m ≡ true → Captured
  captured pawn capture =
      let parts = and_parts (reaches p.men m.from m.to) _ capture in
      elim (cases_Bool (is_some (man_on p.men m.to))) [
        | inl some ↦ captured_there (man_on p.men m.to) refl some
        | inr empty ↦ captured_passing (capture_square p x m) refl pawn empty (other_holds (is_some (man_on p.men m.to)) (is_square p.crossed m.to) empty parts.1) parts.0
      ]

  -- where a pawn may capture what it captures
  abbrev MayTake : (ℕ → Bool) → Type 0
  MayTake takes = (s : ℕ) (z : Man) → is_square (capture_square p x m) s ≡ true → man_on p.men s ≡ Some z → captures_to x.colour s m.to ≡ true → takes m.to ≡ true

  takes_it : (takes : ℕ → Bool) → MayTake takes → same_kind x.kind Pawn ≡ true → is_pawn_capture p m ≡ true → takes m.to ≡ true
  takes_it takes may_take pawn capture = let t = captured pawn capture in may_take t.square t.man t.taken t.there t.to

  pawn_way : (takes : ℕ → Bool) → MayTake takes → (same_kind x.kind Pawn ≡ true) × ((is_pawn_capture p m ≡ true) ⊎ (is_pawn_step p x m ≡ true))
      → pawn_goes takes x.colour m.from m.to ≡ true
  unfolding pawn_goes
  pawn_way takes may_take (pawn, inl capture) =
      or_right _ _ (and_from _ _ (subst (λ k. guards x.colour k m.from m.to ≡ true) (same_kind-true x.kind Pawn pawn)
      (guards_from p.men x m.from m.to here (and_parts (reaches p.men m.from m.to) _ capture).0)) (takes_it takes may_take pawn capture))
  pawn_way takes may_take (pawn, inr step) = grind (arith, or_left, and_parts, and_from)

  piece_way : (same_kind x.kind Pawn ≡ false) × ((reaches p.men m.from m.to ≡ true) ⊎ (can_castle rule p x m ≡ true))
      → guards x.colour x.kind m.from m.to ≡ true
  unfolding can_castle may_castle
  piece_way h = grind (arith, guards_from p.men x m.from m.to here, and_parts, plain)

  -- the way of the man
  way_goes : (takes : ℕ → Bool) → MayTake takes
      → (if same_kind x.kind Pawn then pawn_goes takes x.colour m.from m.to else guards x.colour x.kind m.from m.to) ≡ true
  way_goes takes may_take = elim (ways rule p x m is_made.can_go) [
    | inl pawn ↦ cond-true (same_kind x.kind Pawn) _ _ pawn.0 ∙ pawn_way takes may_take pawn
    | inr piece ↦ cond-false (same_kind x.kind Pawn) _ _ piece.0 ∙ piece_way piece
  ]

  man_goes : (takes : ℕ → Bool) → MayTake takes → goes (may_promote p) takes x.colour x.kind m.from (arriving_man x m.promo).kind m.to ≡ true
  unfolding goes
  man_goes takes may_take = and_from _ _ (way_goes takes may_take) (becomes_right p x m m.promo is_made.promotion)

  free_arrival : is_square (capture_square p x m) m.to ≡ false → man_on p.men m.to ≡ None
  unfolding capture_square
  free_arrival h = grind (arith, none_from_is_some, cases_Bool (is_some (man_on p.men m.to)), eq-eqb)

  apart : m.from ≢ m.to
  apart same =
      let stands : man_on p.men m.to ≡ Some x = rw same at here in
      let arrival : is_arrival_free p.turn (Some x) ≡ true = rw stands at is_made.arrival in
      let mine : same_colour x.colour p.turn ≡ true = rw is_made.mine (same_colour-refl p.turn) in
      grind (arith, and_parts, not-true)

  captured_is : (s : ℕ) (z : Man) → capture_square p x m ≡ Some s → man_on p.men s ≡ Some z
      → (same_colour z.colour x.colour ≡ false) × (same_kind z.kind King ≡ false)
  captured_is s z at stands =
      let t = taken rule p x m s well is_made at in
      let z_is : z ≡ t.man = let h : Some z ≡ Some t.man = sym stands ∙ t.there in cc in
      enemy_is x.colour p.turn z t.man z_is is_made.mine t.enemy t.mortal

  moved : moved_men p x m ≡ arrived p x m
  moved = moved_plainly p x m plain

  -- the men after the move
  men_are : (o : Option ℕ) → reborn_square rule p x m ≡ o → (position_after rule p m).men ≡ put_at (arrived p x m) o (captured_man p x m)
  unfolding position_after position_after_by
  men_are o is = rw (here, moved, is) refl

  men_unborn : reborn_square rule p x m ≡ None → (position_after rule p m).men ≡ arrived p x m
  men_unborn none = men_are None none

  kinds_after : (position_after rule p m).in_diagram ≡ p.in_diagram
  unfolding position_after position_after_by
  kinds_after = rw here refl

  arrival_small : m.to < 64
  arrival_small = (made_is_triple rule p m well.size may).1

  arrived_there : man_on (arrived p x m) m.to ≡ Some (arriving_man x m.promo)
  arrived_there = there_now p.men m.from (capture_square p x m) m.to (arriving_man x m.promo) (omega (arith, arrival_small, well.size))

  arrived_size : length (arrived p x m) ≡ 64
  arrived_size = grind (arith, length-set, length-without_at, well.size)

  -- with a man reborn on r
  module _ (r : ℕ) (is : reborn_square rule p x m ≡ Some r) where
    birth : IsBorn p (capture_square p x m) (arrived p x m) (captures_are_reborn rule) r
    birth = subst (λ men. IsBorn p (capture_square p x m) men (captures_are_reborn rule) r) moved (born rule p x m r is)

    men_born : (position_after rule p m).men ≡ with_man (arrived p x m) r birth.man
    men_born = men_are (Some r) is ∙ ap (λ o. put_at (arrived p x m) (Some r) o) caught
      where
        caught : captured_man p x m ≡ Some birth.man
        caught = rw birth.taken birth.was

    born_small : r < 64
    born_small = rebirth_small birth.man.colour birth.man.kind birth.from r birth.home

    born_off : r ≢ m.to
    born_off same = let h : None ≡ Some (arriving_man x m.promo) = sym birth.empty ∙ ap (λ s. man_on (arrived p x m) s) same ∙ arrived_there in grind (arith, h)

    born_there : man_on (position_after rule p m).men r ≡ Some birth.man
    born_there = ap (λ men. man_on men r) men_born ∙ man_on-with_same (arrived p x m) r birth.man (omega (arith, born_small, arrived_size))

    -- where it is reborn nobody stood, origin and capture apart
    born_vacant : r ≢ m.from → is_square (capture_square p x m) r ≡ false → man_on p.men r ≡ None
    born_vacant off kept =
        sym (kept_now p.men m.from (capture_square p x m) m.to (arriving_man x m.promo) r born_off (grind (arith, ne_eqb m.from r))) ∙ birth.empty

  -- the men elsewhere
  elsewhere_at : (o : Option ℕ) → reborn_square rule p x m ≡ o → (s : ℕ) → is_square o s ≡ false → man_on (position_after rule p m).men s ≡ man_on (arrived p x m) s
  elsewhere_at None none s off = ap (λ men. man_on men s) (men_unborn none)
  elsewhere_at (Some r) is s off = ap (λ men. man_on men s) (men_born r is) ∙ man_on-with_other (arrived p x m) r s (birth r is).man (λ same. grind (arith, eq-eqb))

  elsewhere : (s : ℕ) → is_square (reborn_square rule p x m) s ≡ false → man_on (position_after rule p m).men s ≡ man_on (arrived p x m) s
  elsewhere s off = elsewhere_at (reborn_square rule p x m) refl s off

  is_reborn : (s : ℕ) → is_square (reborn_square rule p x m) s ≡ true
      → IsReborn (captures_are_reborn rule) p (position_after rule p m) x m.from m.to (capture_square p x m) s
  is_reborn s at =
      let is = square_is (reborn_square rule p x m) s at in
      let b = birth s is in
      record {
        from = b.from;
        man = b.man;
        taken = rw b.taken (eq-eqb b.from b.from refl);
        was = b.was;
        now = born_there s is;
        lives = b.lives;
        home = b.home;
        small = born_small s is;
        off = born_off s is;
        vacant = born_vacant s is;
      }

  -- what the move does
  pub is_gone : IsGone (captures_are_reborn rule) p (position_after rule p m) x (arriving_man x m.promo) m.from m.to (capture_square p x m) (reborn_square rule p x m)
  is_gone =
      record {
        size = well.size;
        from = on_board p.men m.from x well.size here;
        to = arrival_small;
        apart = apart;
        here = here;
        there = elsewhere m.to (false_from_ne_true _ (λ at. (is_reborn m.to at).off refl)) ∙ arrived_there;
        colour = arriving_colour x m.promo;
        king = king_kept p x m m.promo is_made.promotion;
        left = λ old. elsewhere m.from old ∙ left_now p.men m.from (capture_square p x m) m.to (arriving_man x m.promo) m.from apart
            (or_left _ _ (eq-eqb m.from m.from refl));
        cleared = λ s at ne old. elsewhere s old ∙ left_now p.men m.from (capture_square p x m) m.to (arriving_man x m.promo) s ne (or_right (m.from == s) _ at);
        others = λ s na nb ne old. elsewhere s old ∙ kept_now p.men m.from (capture_square p x m) m.to (arriving_man x m.promo) s nb
            (grind (arith, ne_eqb m.from s));
        reborn = is_reborn;
        dies = reborn_none rule p x m;
        captured = λ s z at stands. captured_is s z (square_is (capture_square p x m) s at) stands;
        free = free_arrival;
        on = λ s z at stands. on_board p.men s z well.size stands;
        goes = man_goes;
        kinds = kinds_after;
      }
