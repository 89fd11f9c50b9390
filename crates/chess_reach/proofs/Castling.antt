-- Castling as three moves: the king's two steps and the rook's move.
use Rattle.chess_reach.proofs.Chess.{Black, Bool, checks_by_leap, same_colour-refl, Colour, IsWellFormed, King, Kind, List, Man, Move, None, Option, Position, Rook, RuleSet, Some, White, along, and_from, and_parts, ap, arith, corner, goes, guards, halfway, has_unmoved, inl, inr, is_castling, is_man, is_vacant, leaps, man_on, man_on-with_other, man_on-with_same, man_on-without_other, man_on-without_same, may_promote, position_after, reaches_as, refl, rides, same_colour, same_colour-true, same_kind, same_kind-true, sym, true, with_man, without_man, ℕ, ◌<◌, ◌∙◌, ◌≡◌, ◌≢◌, ◌⊎◌, length, ◌+◌, Ends, IsPlan, arriving_man, capture_square, suc, other, moved_men, position_after_by, is_pseudo_legal, false, false≢true}
use Rattle.chess_reach.proofs.Gone.{king_kept}
use Rattle.chess_reach.specs.Plans.{king_home}
use Rattle.chess_reach.proofs.OneMove.{IsGone, king_arrives, king_goes, king_stays, other_king_stays, other_step, own_step, stays, stood_before}
use Rattle.chess_rules.proofs.Chess.{all_at, is_clear, is_home, length-set, list_all, man_on-without_none, squares_between, move_man}
use Rattle.chess_rules.proofs.Blocking.{unreborn_after}
use Rattle.chess_rules.proofs.Castles.{no_man}
use Rattle.pop_stipulation.specs.declared.stipulation.Goal.{Goal}
use Rattle.chess_rules.proofs.Fits.{arrived, arriving_king, king_no_step, no_capture}
use Rattle.chess_rules.proofs.Pseudo.{IsMade, king_castles, king_is_no_pawn, made, ways}
use Rattle.chess_rules.proofs.Chess.{can_castle, may_castle}

-- a man of a colour and kind
pub man_is : (o : Option Man) (c : Colour) (j : Kind) → is_man o c j ≡ true → o ≡ Some (record { colour = c; kind = j })
man_is o c j h = grind (arith, and_parts, same_colour-true, same_kind-true)

-- a man that goes to an empty square
pub gone_free : (p q : Position) (x : Man) (a b : ℕ) → length p.men ≡ 64 → a < 64 → b < 64 → a ≢ b → man_on p.men a ≡ Some x → man_on q.men b ≡ Some x → man_on q.men a ≡ None
    → man_on p.men b ≡ None → ((s : ℕ) → s ≢ a → s ≢ b → man_on q.men s ≡ man_on p.men s) → ((takes : ℕ → Bool) → goes (may_promote p) takes x.colour x.kind a x.kind b ≡ true)
    → q.in_diagram ≡ p.in_diagram → (rb : Bool) → IsGone rb p q x x a b None None
gone_free p q x a b size from to apart here there left free others way kinds rb = record {
  size = size;
  from = from;
  to = to;
  apart = apart;
  here = here;
  there = there;
  colour = refl;
  king = refl;
  left = λ _. left;
  cleared = λ s at. absurd (let bad : false ≡ true = at in grind arith);
  others = λ s na nb none old. others s na nb;
  reborn = λ s at. absurd (let bad : false ≡ true = at in grind arith);
  dies = λ _. refl;
  captured = λ s z at. absurd (let bad : false ≡ true = at in grind arith);
  free = λ none. free;
  on = λ s z at. absurd (let bad : false ≡ true = at in grind arith);
  goes = λ takes may. way takes;
  kinds = kinds;
}

-- a man moved to b is there
moved_there : (men : List (Option Man)) (a b : ℕ) (x : Man) → b < length men → man_on (with_man (without_man men a) b x) b ≡ Some x
moved_there men a b x small = man_on-with_same (without_man men a) b x (rw length-set small)

-- its origin is empty
moved_left : (men : List (Option Man)) (a b : ℕ) (x : Man) → a ≢ b → man_on (with_man (without_man men a) b x) a ≡ None
moved_left men a b x ne = man_on-with_other (without_man men a) b a x ne ∙ man_on-without_same men a

-- one square has one man
arrived_as : (men : List (Option Man)) (s b : ℕ) (z y : Man) → man_on men s ≡ Some z → s ≡ b → man_on men b ≡ Some y → z ≡ y
arrived_as men s b z y at same there = let h : Some z ≡ Some y = sym (rw same at at) ∙ there in cc

-- elsewhere nothing changes
moved_other : (men : List (Option Man)) (a b : ℕ) (x : Man) (s : ℕ) → s ≢ a → s ≢ b → man_on (with_man (without_man men a) b x) s ≡ man_on men s
moved_other men a b x s na nb = man_on-with_other (without_man men a) b s x nb ∙ man_on-without_other men a s na

-- what was empty stays empty
moved_empty : (men : List (Option Man)) (a b : ℕ) (x : Man) (s : ℕ) → s ≢ b → man_on men s ≡ None → man_on (with_man (without_man men a) b x) s ≡ None
moved_empty men a b x s nb empty = man_on-with_other (without_man men a) b s x nb ∙ man_on-without_none men a s empty

-- elsewhere it is the same wherever the man went
moved_alike : (men : List (Option Man)) (a b e : ℕ) (x : Man) (s : ℕ) → s ≢ b → s ≢ e
    → man_on (with_man (without_man men a) b x) s ≡ man_on (with_man (without_man men a) e x) s
moved_alike men a b e x s nb ne = man_on-with_other (without_man men a) b s x nb ∙ sym (man_on-with_other (without_man men a) e s x ne)

-- king and rook of colour d castle from f and r over h to t
pub record Castles (men : List (Option Man)) (d : Colour) (f t r h : ℕ) : Type 0 where
  pub home : f ≡ king_home d
  pub king : man_on men f ≡ Some (record { colour = d; kind = King })
  pub rook : man_on men r ≡ Some (record { colour = d; kind = Rook })
  pub crossed : man_on men h ≡ None
  pub free : man_on men t ≡ None
  pub first_step : guards d King f h ≡ true
  pub second_step : guards d King h t ≡ true
  pub rook_way : guards d Rook r h ≡ true
  pub apart : (f ≢ t) × (f ≢ h) × (f ≢ r) × (t ≢ r) × (t ≢ h) × (r ≢ h)
  pub small : (f < 64) × (t < 64) × (r < 64) × (h < 64)

-- the four castlings
module _ (P : ℕ → ℕ → ℕ → ℕ → Type 0) (white_short : P 4 6 7 5) (white_long : P 4 2 0 3) (black_short : P 60 62 63 61) (black_long : P 60 58 56 59) where
  at_squares : (f t r h a b c d : ℕ) → f ≡ a → t ≡ b → r ≡ c → h ≡ d → P a b c d → P f t r h
  at_squares f t r h a b c d e1 e2 e3 e4 x = rw (e1, e2, e3, e4) x

  by_castling : (f t r h : ℕ) → (f ≡ 4) ⊎ (f ≡ 60) → ((t ≡ f + 2) × ((r ≡ f + 3) × (h ≡ f + 1))) ⊎ ((t + 2 ≡ f) × ((r + 4 ≡ f) × (h + 1 ≡ f)))
      → P f t r h
  by_castling f t r h (inl white) (inl short) = at_squares f t r h 4 6 7 5 white (omega arith) (omega arith) (omega arith) white_short
  by_castling f t r h (inl white) (inr long) = at_squares f t r h 4 2 0 3 white (omega arith) (omega arith) (omega arith) white_long
  by_castling f t r h (inr black) (inl short) = at_squares f t r h 60 62 63 61 black (omega arith) (omega arith) (omega arith) black_short
  by_castling f t r h (inr black) (inr long) = at_squares f t r h 60 58 56 59 black (omega arith) (omega arith) (omega arith) black_long

-- what the squares must hold
abbrev Stands : List (Option Man) → ℕ → ℕ → ℕ → ℕ → Type 0
Stands men f t r h = is_home (man_on men f) f ≡ true → is_home (man_on men r) r ≡ true → list_all (is_vacant men) (squares_between f r) ≡ true
    → (d : Colour) × Castles men d f t r h

module _ (men : List (Option Man)) where
  white_short : Stands men 4 6 7 5
  unfolding is_home guards reaches_as leaps along rides is_clear
  white_short king rook between = (
    White,
    record {
      home = refl;
      king = man_is (man_on men 4) White King king;
      rook = man_is (man_on men 7) White Rook rook;
      crossed = no_man men 5 (all_at (is_vacant men) 5 2 5 between (omega arith) (omega arith));
      free = no_man men 6 (all_at (is_vacant men) 5 2 6 between (omega arith) (omega arith));
      first_step = refl;
      second_step = refl;
      rook_way = refl;
      apart = (omega arith, omega arith, omega arith, omega arith, omega arith, omega arith);
      small = (omega arith, omega arith, omega arith, omega arith);
    },
  )

  white_long : Stands men 4 2 0 3
  unfolding is_home guards reaches_as leaps along rides is_clear
  white_long king rook between = (
    White,
    record {
      home = refl;
      king = man_is (man_on men 4) White King king;
      rook = man_is (man_on men 0) White Rook rook;
      crossed = no_man men 3 (all_at (is_vacant men) 1 3 3 between (omega arith) (omega arith));
      free = no_man men 2 (all_at (is_vacant men) 1 3 2 between (omega arith) (omega arith));
      first_step = refl;
      second_step = refl;
      rook_way = refl;
      apart = (omega arith, omega arith, omega arith, omega arith, omega arith, omega arith);
      small = (omega arith, omega arith, omega arith, omega arith);
    },
  )

  black_short : Stands men 60 62 63 61
  unfolding is_home guards reaches_as leaps along rides is_clear
  black_short king rook between = (
    Black,
    record {
      home = refl;
      king = man_is (man_on men 60) Black King king;
      rook = man_is (man_on men 63) Black Rook rook;
      crossed = no_man men 61 (all_at (is_vacant men) 61 2 61 between (omega arith) (omega arith));
      free = no_man men 62 (all_at (is_vacant men) 61 2 62 between (omega arith) (omega arith));
      first_step = refl;
      second_step = refl;
      rook_way = refl;
      apart = (omega arith, omega arith, omega arith, omega arith, omega arith, omega arith);
      small = (omega arith, omega arith, omega arith, omega arith);
    },
  )

  black_long : Stands men 60 58 56 59
  unfolding is_home guards reaches_as leaps along rides is_clear
  black_long king rook between = (
    Black,
    record {
      home = refl;
      king = man_is (man_on men 60) Black King king;
      rook = man_is (man_on men 56) Black Rook rook;
      crossed = no_man men 59 (all_at (is_vacant men) 57 3 59 between (omega arith) (omega arith));
      free = no_man men 58 (all_at (is_vacant men) 57 3 58 between (omega arith) (omega arith));
      first_step = refl;
      second_step = refl;
      rook_way = refl;
      apart = (omega arith, omega arith, omega arith, omega arith, omega arith, omega arith);
      small = (omega arith, omega arith, omega arith, omega arith);
    },
  )

  castles_at : (f t r h : ℕ) → (f ≡ 4) ⊎ (f ≡ 60) → ((t ≡ f + 2) × ((r ≡ f + 3) × (h ≡ f + 1))) ⊎ ((t + 2 ≡ f) × ((r + 4 ≡ f) × (h + 1 ≡ f)))
      → Stands men f t r h
  castles_at f t r h from far = by_castling (Stands men) white_short white_long black_short black_long f t r h from far

module _ (rule : RuleSet) (p : Position) (x : Man) (m : Move) (well : IsWellFormed p) (may : is_pseudo_legal rule p m ≡ true)
    (here : man_on p.men m.from ≡ Some x)
    (castling : is_castling x m ≡ true) where
  made_castle : IsMade rule p x m
  made_castle = made rule p m x may here

  king : same_kind x.kind King ≡ true
  king = (and_parts _ _ (and_parts _ _ castling).0).0

  can : can_castle rule p x m ≡ true
  can = elim (ways rule p x m made_castle.can_go) [
    | inl pawn ↦ absurd (false≢true (sym (king_is_no_pawn x.kind king) ∙ pawn.0))
    | inr piece ↦ elim piece.1 [
      | inl reach ↦ absurd (king_no_step p x m well here castling king reach)
      | inr castles ↦ castles
    ]
  ]

  -- the rights of king and rook, and the squares between
  needs : (has_unmoved p.unmoved m.from ≡ true)
      × ((has_unmoved p.unmoved (corner m) ≡ true) × (list_all (is_vacant p.men) (squares_between m.from (corner m)) ≡ true))
  unfolding can_castle may_castle
  needs = let h = can in grind (arith, and_parts)

  pub castles : (d : Colour) × Castles p.men d m.from m.to (corner m) (halfway m)
  castles =
      let far = king_castles rule p x m well here can in
      castles_at p.men m.from m.to (corner m) (halfway m) far.from far.far (well.homes m.from needs.0) (well.homes (corner m) needs.1.0) needs.1.1

  module _ (rb : Bool) where
    side : Colour
    side = castles.0

    parts : Castles p.men side m.from m.to (corner m) (halfway m)
    unfolding side
    parts = castles.1

    king_man : Man
    king_man = record { colour = side; kind = King }

    rook_man : Man
    rook_man = record { colour = side; kind = Rook }

    -- the king once it is halfway
    crossing : Position
    crossing = record p { men = with_man (without_man p.men m.from) (halfway m) king_man }

    -- the king once it has arrived
    crossed : Position
    crossed = record p { men = with_man (without_man p.men m.from) m.to king_man }

    rook_there : man_on crossed.men (corner m) ≡ Some rook_man
    unfolding crossed rook_man
    rook_there = moved_other p.men m.from m.to king_man (corner m) (λ e. parts.apart.2 (sym e)) (λ e. parts.apart.3 (sym e)) ∙ parts.rook

    x_is : x ≡ king_man
    unfolding king_man
    x_is = let e : Some x ≡ Some (record { colour = side; kind = King }) = sym here ∙ parts.king in cc

    side_is : x.colour ≡ side
    unfolding king_man
    side_is = ap (λ (z : Man). z.colour) x_is

    -- its king is at home and has the right to castle
    pub castled_home : m.from ≡ king_home x.colour
    castled_home = parts.home ∙ ap king_home (sym side_is)

    pub castled_right : has_unmoved p.unmoved m.from ≡ true
    castled_right = needs.0

    arrived_is : arrived p x m ≡ crossed.men
    unfolding crossed
    arrived_is =
        let none : capture_square p x m ≡ None = no_capture p x m parts.free (rw (king_is_no_pawn x.kind king) refl) in
        let arriving : arriving_man x m.promo ≡ king_man = arriving_king p x m m.promo made_castle.promotion
        (king_kept p x m m.promo made_castle.promotion ∙ king) ∙ x_is in
        rw (none, arriving) refl

    castled_men : moved_men p x m ≡ move_man (arrived p x m) (corner m) (halfway m) (man_on (arrived p x m) (corner m))
    unfolding moved_men
    castled_men = rw castling refl

    -- the men after castling
    men_castled : (position_after rule p m).men ≡ with_man (without_man crossed.men (corner m)) (halfway m) rook_man
    men_castled = unreborn_after rule p x m here (λ reborn. no_capture p x m parts.free (rw (king_is_no_pawn x.kind king) refl)) ∙ (castled_men ∙ rw (arrived_is, rook_there) refl)

    kinds_castled : (position_after rule p m).in_diagram ≡ p.in_diagram
    unfolding position_after position_after_by
    kinds_castled = rw here refl

    first : IsGone rb p crossing king_man king_man m.from (halfway m) None None
    unfolding crossing goes king_man
    first =
        gone_free p crossing king_man m.from (halfway m) well.size parts.small.0 parts.small.3 parts.apart.1 parts.king
        (moved_there p.men m.from (halfway m) king_man (omega (arith, parts.small.3, well.size))) (moved_left p.men m.from (halfway m) king_man parts.apart.1)
        parts.crossed (moved_other p.men m.from (halfway m) king_man) (λ takes. and_from _ _ parts.first_step refl) refl rb

    second : IsGone rb crossing crossed king_man king_man (halfway m) m.to None None
    unfolding crossing crossed goes king_man
    second =
        gone_free crossing crossed king_man (halfway m) m.to (rw (length-set, length-set) well.size) parts.small.3 parts.small.1 (λ e. parts.apart.4 (sym e))
        (moved_there p.men m.from (halfway m) king_man (omega (arith, parts.small.3, well.size)))
        (moved_there p.men m.from m.to king_man (omega (arith, parts.small.1, well.size)))
        (moved_empty p.men m.from m.to king_man (halfway m) (λ e. parts.apart.4 (sym e)) parts.crossed)
        (moved_empty p.men m.from (halfway m) king_man m.to parts.apart.4 parts.free)
        (λ s nh nt. moved_alike p.men m.from m.to (halfway m) king_man s nt nh) (λ takes. and_from _ _ parts.second_step refl) refl rb

    third : IsGone rb crossed (position_after rule p m) rook_man rook_man (corner m) (halfway m) None None
    unfolding crossed goes rook_man
    third =
        gone_free crossed (position_after rule p m) rook_man (corner m) (halfway m) (rw (length-set, length-set) well.size) parts.small.2 parts.small.3 parts.apart.5
        rook_there
        (rw men_castled (moved_there crossed.men (corner m) (halfway m) rook_man (rw (length-set, length-set) (omega (arith, parts.small.3, well.size)))))
        (rw men_castled (moved_left crossed.men (corner m) (halfway m) rook_man parts.apart.5))
        (moved_empty p.men m.from m.to king_man (halfway m) (λ e. parts.apart.4 (sym e)) parts.crossed)
        (rw men_castled (moved_other crossed.men (corner m) (halfway m) rook_man)) (λ takes. and_from _ _ parts.rook_way refl) kinds_castled rb

    -- a man of the other side, or a knight or pawn, isn't one that has castled
    unlike : (z : Man) (j : Kind) → (same_colour z.colour x.colour ≡ false) ⊎ (checks_by_leap z.kind ≡ true) → checks_by_leap j ≡ false
        → z ≡ record { colour = side; kind = j } → ⊥
    unlike z j (inl theirs) slow same = false≢true (sym theirs ∙ ap (λ (y : Man). same_colour y.colour x.colour) same ∙ ap (λ d. same_colour d x.colour) (sym side_is) ∙ same_colour-refl x.colour)
    unlike z j (inr leaps) slow same = false≢true (sym slow ∙ ap (λ (y : Man). checks_by_leap y.kind) (sym same) ∙ leaps)

    -- it was where it is
    pub stood_castled : (s : ℕ) (z : Man) → man_on (position_after rule p m).men s ≡ Some z
        → (same_colour z.colour x.colour ≡ false) ⊎ (checks_by_leap z.kind ≡ true) → man_on p.men s ≡ Some z
    unfolding king_man rook_man
    stood_castled s z at other =
        let ends = stays p.men in
        let q = position_after rule p m in
        let a = stood_before rb crossed q rook_man rook_man (corner m) (halfway m) None None third ends s z at
        (λ same. unlike z Rook other refl (arrived_as q.men s (halfway m) z rook_man at same third.there)) refl in
        let b = stood_before rb crossing crossed king_man king_man (halfway m) m.to None None second ends s z a.1.1
        (λ same. unlike z King other refl (arrived_as crossed.men s m.to z king_man a.1.1 same second.there)) refl in
        (stood_before rb p crossing king_man king_man m.from (halfway m) None None first ends s z b.1.1
        (λ same. unlike z King other refl (arrived_as crossing.men s (halfway m) z king_man b.1.1 same first.there)) refl).1.1

    -- a plan after castling is one before it, with three moves more: of the mating side
    pub own_castling : (goal : Goal) (sc : Bool) (c : Colour) (n o k : ℕ) (ends : Ends) → x.colour ≡ c → IsPlan goal sc rb (position_after rule p m) c n o k ends
        → (before : Ends) × IsPlan goal sc rb p c (suc (suc (suc n))) o k before
    unfolding king_man rook_man
    own_castling goal sc c n o k ends his plan =
        let mine = sym side_is ∙ his in
        let q = position_after rule p m in
        let last = own_step rb crossed q rook_man rook_man (corner m) (halfway m) None None third ends goal sc c n o k mine plan in
        let middle = own_step rb crossing crossed king_man king_man (halfway m) m.to None None second last.0 goal sc c (suc n) o k mine last.1 in
        own_step rb p crossing king_man king_man m.from (halfway m) None None first middle.0 goal sc c (suc (suc n)) o k mine middle.1

    -- of the other side
    pub other_castling : (goal : Goal) (sc : Bool) (c : Colour) (n o k : ℕ) (ends : Ends) → x.colour ≡ other c → IsPlan goal sc rb (position_after rule p m) c n o k ends
        → (before : Ends) × IsPlan goal sc rb p c n (suc (suc (suc o))) k before
    unfolding king_man rook_man
    other_castling goal sc c n o k ends his plan =
        let theirs = sym side_is ∙ his in
        let q = position_after rule p m in
        let last = other_step rb crossed q rook_man rook_man (corner m) (halfway m) None None third ends goal sc c n o k theirs plan in
        let middle = other_step rb crossing crossed king_man king_man (halfway m) m.to None None second last.0 goal sc c n (suc o) k theirs last.1 in
        other_step rb p crossing king_man king_man m.from (halfway m) None None first middle.0 goal sc c n (suc (suc o)) k theirs middle.1

    -- no king is lost
    pub king_castled : (c : Colour) (s : ℕ) → is_man (man_on p.men s) c King ≡ true → (r : ℕ) × (is_man (man_on (position_after rule p m).men r) c King ≡ true)
    king_castled c s king =
        let ends = stays p.men in
        let q = position_after rule p m in
        let a = king_goes rb p crossing king_man king_man m.from (halfway m) None None first ends c s king in
        let b = king_goes rb crossing crossed king_man king_man (halfway m) m.to None None second ends c a.0 a.1 in
        let d = king_goes rb crossed q rook_man rook_man (corner m) (halfway m) None None third ends c b.0 b.1 in
        (d.0, d.1)

    -- the king arrives
    pub king_castles_to : (c : Colour) → is_man (man_on p.men m.from) c King ≡ true → is_man (man_on (position_after rule p m).men m.to) c King ≡ true
    king_castles_to c king =
        let ends = stays p.men in
        let q = position_after rule p m in
        let a = king_arrives rb p crossing king_man king_man m.from (halfway m) None None first ends c king in
        let b = king_arrives rb crossing crossed king_man king_man (halfway m) m.to None None second ends c a in
        king_stays rb crossed q rook_man rook_man (corner m) (halfway m) None None third ends c m.to b parts.apart.3

    -- the other side's king stays
    pub other_king_castled : (c : Colour) (s : ℕ) → same_colour x.colour c ≡ false → is_man (man_on p.men s) c King ≡ true
        → is_man (man_on (position_after rule p m).men s) c King ≡ true
    unfolding king_man rook_man
    other_king_castled c s other king =
        let ends = stays p.men in
        let q = position_after rule p m in
        let differs : same_colour side c ≡ false = rw side_is at other in
        let a = other_king_stays rb p crossing king_man king_man m.from (halfway m) None None first ends c s differs king in
        let b = other_king_stays rb crossing crossed king_man king_man (halfway m) m.to None None second ends c s differs a in
        other_king_stays rb crossed q rook_man rook_man (corner m) (halfway m) None None third ends c s differs b
