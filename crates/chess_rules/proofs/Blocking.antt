-- A plain move from a square that a queen on the king's square doesn't reach opens no line to the king.
use Rattle.chess_rules.proofs.Chess.{AtMostOneKing, Bishop, Bool, Colour, Diagonal, Direction, East, Grasshopper, IsWellFormed, Kind, King, List, Man, Move, Nightrider, None, North, NorthEast, NorthWest, Option, Position, Queen, Rook, RuleSet, Some, South, SouthEast, SouthWest, Step, Straight, West, [], and_from, and_parts, and_right, any_kept, ap, arith, arriving_man, bit_at, bit_not, bit_or, cannot_expose, capture_square, captures_are_reborn, cases_Bool, cases_eq, cond-false, cond-true, diagonal_steps, differs, eq-eqb, every_square, false, false_from_ne_true, false≢true, find_first, find_square_some, has_fairy, hops, in_check, inl, inr, is_attacked, is_attacked_at, is_attacker, is_rider_beyond, is_castling, is_checker, is_checker_at, is_man, is_of_colour, is_on_fairy_line, is_on_some, is_plain, is_promotion_right, is_pseudo_legal, is_reached, is_blocking, is_square, joined, king_square, knight_steps, length, list_any, list_any-append, man_on, may_expose, may_expose_at, may_be_hurdle, moved_men, not, not-true, not_zero, or_cases, or_left, or_parts, or_right, other, position_after, position_after_by, queen_steps, reaches, reaches_as, reborn_square, refl, rider_along, rides, rules, same_colour, same_kind, second_fails, some_square_false, some_square_true, squares, squares_either, squares_of, squares_same, step_of, steps_along, straight_steps, sym, true, w64, word, word_empty, word_has, ℕ, ◌&&◌, ◌<◌, ◌==◌, ◌||◌, ◌∙◌, ◌∷◌, ◌≡◌, ◌≢◌}
use Rattle.chess_rules.specs.declared.legality.blockers.RiderLines.{RiderLines}
use Rattle.chess_attacks.proofs.rays.Ends.{square_is}
use Rattle.chess_rules.proofs.FairyLines.{Holds, WasThere, fairy_parts, hopper_before, nightrider_before, once, ride_kept}
use Rattle.chess_rules.proofs.Fits.{arrived, arriving_king}
use Rattle.chess_attacks.proofs.rays.Flips.{backward, opposed, rides_turned}
use Rattle.chess_attacks.proofs.rays.Parting.{Frees, line_open}
use Rattle.chess_rules.proofs.Plays.{none_from_is_some}
use Rattle.chess_rules.proofs.Pseudo.{IsMade, made}
use Rattle.chess_attacks.proofs.rays.OnSquares.{on_board}
use Rattle.chess_rules.proofs.Stays.{maker}
use Rattle.chess_rules.proofs.Seeing.{gone_to, kept_now, left_now, there_now}
use Rattle.chess_attacks.proofs.attacks.Attacking.{goes_on}

-- the man on a is gone, z has come to b, and nothing else has changed
pub record IsShift (men after : List (Option Man)) (a b : ℕ) (z : Man) : Type 0 where
  pub vacated : (q : ℕ) → man_on after q ≡ None → q ≢ a → man_on men q ≡ None
  pub others : (q : ℕ) (y : Man) → man_on after q ≡ Some y → q ≢ b → man_on men q ≡ Some y
  pub arrived : (y : Man) → man_on after b ≡ Some y → y ≡ z

-- a move that captures only on its arrival is a shift
pub gone_shift : (men : List (Option Man)) (a : ℕ) (o : Option ℕ) (b : ℕ) (z : Man) → b < length men → ((s : ℕ) → is_square o s ≡ true → s ≡ b)
    → IsShift men (gone_to men a o b z) a b z
gone_shift men a o b z small taken = grind (arith, gone_to, there_now, kept_now, left_now, cases_Bool)

-- a square that shuts a line between k and s is the first man's from both
abbrev IsParted : List (Option Man) → ℕ → ℕ → ℕ → List Step → Type 0
IsParted men a k s ds = (list_any (rides men k a) ds ≡ true) × (list_any (rides men s a) ds ≡ true)

opposed_along : (l : RiderLines) → opposed (steps_along l) (steps_along l) ≡ true
opposed_along l = grind arith

-- a rider that a line leads to reaches along it
rider_reaches : (men : List (Option Man)) (e : Colour) (l : RiderLines) (j : Kind) (s k : ℕ) → (same_kind j (rider_along l) || same_kind j Queen) ≡ true
    → list_any (rides men s k) (steps_along l) ≡ true → reaches_as men e j s k ≡ true
unfolding reaches_as
rider_reaches men e l j s k h r = grind (arith, list_any-append, or_right)

-- a doesn't shut a line along which a man of kind j on s would ride to k, and a fairy man there goes to k as before
record NoneShut (men after : List (Option Man)) (a k s : ℕ) (j : Kind) : Type 0 where
  pub lines : (l : RiderLines) → (same_kind j (rider_along l) || same_kind j Queen) ≡ true → is_on_some (steps_along l) k s ≡ true
      → IsParted men a k s (steps_along l) → ⊥
  pub hopped : same_kind j Grasshopper ≡ true → list_any (hops after s k) queen_steps ≡ true → list_any (hops men s k) queen_steps ≡ true
  pub ridden : same_kind j Nightrider ≡ true → list_any (rides after s k) knight_steps ≡ true → list_any (rides men s k) knight_steps ≡ true

-- what keeps a king on k from being uncovered
pub record IsCovered (men : List (Option Man)) (c : Colour) (a k : ℕ) : Type 0 where
  pub safe : is_reached men k (other c) ≡ false
  pub apart : (k == a) ≡ false
  pub straight : is_blocking men (other c) Rook straight_steps k a ≡ false
  pub diagonal : is_blocking men (other c) Bishop diagonal_steps k a ≡ false
  pub unlined : is_on_fairy_line men (other c) k a ≡ false

-- no move from a can expose the king
pub covered_parts : (men : List (Option Man)) (c : Colour) (a k : ℕ) → may_expose_at men (Some k) c a ≡ false → IsCovered men c a k
covered_parts men c a k h = search (rules, or_parts)

shut : (men : List (Option Man)) (c : Colour) (a k : ℕ) (l : RiderLines) → IsCovered men c a k
    → is_blocking men (other c) (rider_along l) (steps_along l) k a ≡ false
shut men c a k l g = grind arith

-- what keeps one square from blocking a line to a man on another
pub not_parted : (men : List (Option Man)) (a k s : ℕ) (e : Colour) (j : Kind) (ds : List Step) → is_blocking men e j ds k a ≡ false
    → (is_man (man_on men s) e j || is_man (man_on men s) e Queen) ≡ true → s < 64 → is_on_some ds k s ≡ true
    → (list_any (rides men k a) ds ≡ true) × (list_any (rides men s a) ds ≡ true) → ⊥
unfolding is_blocking is_rider_beyond
not_parted men a k s e j ds shut rider small on both = search (rules, some_square_true, and_from, false≢true, shut)

-- the man that has moved is no enemy, or doesn't reach the king
pub record IsQuiet (men : List (Option Man)) (c : Colour) (a b k : ℕ) (z : Man) : Type 0 where
  pub quiet : same_colour z.colour (other c) ≡ true → reaches_as men z.colour z.kind b k ≡ false
  pub stood : same_colour z.colour (other c) ≡ true → (man_on men a ≡ Some z) × (a < 64)

-- where a man of a colour and kind stands, some man stands
pub man_there : (o : Option Man) (c : Colour) (j : Kind) → is_man o c j ≡ true → (y : Man) × (o ≡ Some y)
man_there o c j h = grind arith

-- the square of a king is its side's
pub king_is : (men : List (Option Man)) (c : Colour) (k : ℕ) → AtMostOneKing men → k < 64 → is_man (man_on men k) c King ≡ true → king_square men c ≡ Some k
unfolding king_square
king_is men c k one small h =
    find_square_some (λ s. is_man (man_on men s) c King) k small h (record {
      fails = λ j lt. false_from_ne_true _ (λ y. let e : j ≡ k = one.same c j k y h in omega arith);
    })

module _ (men after : List (Option Man)) (a b : ℕ) (z : Man) (i : IsShift men after a b z) where
  -- what is empty after a shift was empty before, the origin apart
  pub frees : Frees after men a
  frees = grind (arith, none_from_is_some, not-true, eq-eqb)

  -- what stands now stood before, the arrival apart
  pub stood : Holds after men b
  stood = grind (arith, false≢true, eq-eqb)

  -- what rides to a now, where a is empty, rode there before
  rode : (xs : List Direction) (k : ℕ) → list_any (λ x. rides after k a (step_of x)) xs ≡ true → list_any (λ x. rides men k a (step_of x)) xs ≡ true
  rode xs k h = search (rules, any_kept, ride_kept, frees, false_from_ne_true, once, square_is)

  rode_there : (l : RiderLines) (k : ℕ) → list_any (rides after k a) (steps_along l) ≡ true → list_any (rides men k a) (steps_along l) ≡ true
  rode_there Straight k h = rode (East ∷ West ∷ North ∷ South ∷ []) k h
  rode_there Diagonal k h = rode (NorthEast ∷ SouthEast ∷ NorthWest ∷ SouthWest ∷ []) k h

  -- a rider's line that is open after a shift was open before, unless the origin shut it
  pub line_before : (l : RiderLines) (k s : ℕ) → s < 64 → k < 64 → (is_on_some (steps_along l) k s ≡ true → IsParted men a k s (steps_along l) → ⊥)
      → list_any (rides after s k) (steps_along l) ≡ true → list_any (rides men s k) (steps_along l) ≡ true
  unfolding is_on_some
  line_before l k s p q never h = grind (arith, opposed_along, rides_turned, line_open, frees, goes_on, rode_there, backward)

  -- a man that reaches k now, where it stands, reached it before, had it stood there
  reaches_before : (e : Colour) (k s : ℕ) (j : Kind) → s < 64 → k < 64 → NoneShut men after a k s j → reaches_as after e j s k ≡ true
      → reaches_as men e j s k ≡ true
  unfolding reaches_as
  reaches_before e k s Queen p q n h =
      elim (or_cases (list_any (rides after s k) straight_steps) (list_any (rides after s k) diagonal_steps)
      (sym (list_any-append (rides after s k) straight_steps diagonal_steps) ∙ h)) [
        | inl y ↦ rider_reaches men e Straight Queen s k refl (line_before Straight k s p q (n.lines Straight refl) y)
        | inr y ↦ rider_reaches men e Diagonal Queen s k refl (line_before Diagonal k s p q (n.lines Diagonal refl) y)
      ]
  reaches_before e k s Rook p q n h = line_before Straight k s p q (n.lines Straight refl) h
  reaches_before e k s Bishop p q n h = line_before Diagonal k s p q (n.lines Diagonal refl) h
  reaches_before e k s Grasshopper p q n h = n.hopped refl h
  reaches_before e k s Nightrider p q n h = n.ridden refl h
  reaches_before e k s j p q n h = h

  module _ (c : Colour) (k : ℕ) (g : IsCovered men c a k) (q : k < 64) (f : is_on_fairy_line men (other c) k b ≡ false) where
    -- a fairy man of the enemy's among those that are looked at
    unshut : (s : ℕ) (j : Kind) → s < 64 → ((l : RiderLines) → (same_kind j (rider_along l) || same_kind j Queen) ≡ true → is_on_some (steps_along l) k s ≡ true
        → IsParted men a k s (steps_along l) → ⊥) → ((d : Kind) → same_kind j d ≡ true → WasThere men (other c) d a b s) → NoneShut men after a k s j
    unshut s j p lines was =
        let left = fairy_parts men (other c) k a g.unlined in
        let come = fairy_parts men (other c) k b f in
        record {
          lines = lines;
          hopped = λ is h. hopper_before men after (other c) a b k s frees p stood (was Grasshopper is) left.0 come.0 h;
          ridden = λ is h. nightrider_before men after (other c) a b k s frees p (was Nightrider is) left.1 h;
        }

    -- a man that reaches the king now and hasn't moved reached it before
    checks_before : (s : ℕ) (o : Option Man) → man_on after s ≡ o → s < 64 → s ≢ b → is_of_colour o (other c) ≡ true → reaches after s k ≡ true
        → (is_of_colour (man_on men s) (other c) && reaches men s k) ≡ true
    unfolding reaches
    checks_before s None at p ne side h = cc
    checks_before s (Some y) at p ne side h =
        let there : man_on men s ≡ Some y = i.others s y at ne in
        let rider : (j : Kind) → (same_kind y.kind j || same_kind y.kind Queen) ≡ true
        → (is_man (man_on men s) (other c) j || is_man (man_on men s) (other c) Queen) ≡ true = search rules in
        let none = unshut s y.kind p (λ l h on both. not_parted men a k s (other c) (rider_along l) (steps_along l) (shut men c a k l g)
        (rider (rider_along l) h) p on both) (λ d is. inl (search (rules, and_from))) in
        grind (arith, there, reaches_before y.colour k s y.kind p q none, side, h, at)

    -- no man reached the king from its origin
    attacked_from : a < 64 → man_on men a ≡ Some z → same_colour z.colour (other c) ≡ true → reaches_as men z.colour z.kind a k ≡ true → ⊥
    unfolding is_reached reaches
    attacked_from small here side h = search (rules, false≢true, some_square_true, and_from, small, here, side, h)

    arrival_strikes : (o : Option Man) → man_on after b ≡ o → IsQuiet men c a b k z → b < 64 → is_of_colour o (other c) ≡ true → reaches after b k ≡ true → ⊥
    unfolding reaches
    arrival_strikes None at l p side h = cc
    arrival_strikes (Some y) at l p side h =
        let is : y ≡ z = i.arrived y at in
        let mine : same_colour z.colour (other c) ≡ true = ap (λ (x : Man). same_colour x.colour (other c)) (sym is) ∙ side in
        let here = l.stood mine in
        let none = unshut b z.kind p (λ d h on both. attacked_from here.1 here.0 mine
        (rider_reaches men z.colour d z.kind a k h (rides_turned (steps_along d) men a k (opposed_along d) here.1 q ∙ both.0)))
        (λ d is. inr (refl, here.1, ap (λ (o : Option Man). is_man o (other c) d) here.0 ∙ and_from _ _ mine is)) in
        grind (arith, l.quiet mine, reaches_before z.colour k b z.kind p q none, is, at, h)

    -- no enemy reaches the king
    pub unreached : IsQuiet men c a b k z → is_reached after k (other c) ≡ false
    unfolding is_reached
    unreached l =
        some_square_false (λ s. is_of_colour (man_on after s) (other c) && reaches after s k) 64 (omega arith) (record {
          fails = λ s p. false_from_ne_true _ (λ h.
              let reached = some_square_true (λ s. is_of_colour (man_on men s) (other c) && reaches men s k) s p in
              grind (arith, and_parts, cases_eq s b, arrival_strikes (man_on after s), checks_before s (man_on after s) refl p, reached));
        })

-- a king that no enemy reaches isn't attacked
pub not_attacked : (rule : RuleSet) (men : List (Option Man)) (e : Colour) (k : ℕ) → is_reached men k e ≡ false → is_attacked rule men k e ≡ false
unfolding is_attacked is_attacker is_reached
not_attacked rule men e k h =
    let reached = some_square_true (λ s. is_of_colour (man_on men s) e && reaches men s k) in
    grind (arith, some_square_false (is_attacker rule men k e) 64, reached, and_parts, and_from)

-- what must hold of a shift for the king of colour c not to be in check after it
record IsHarmless (men : List (Option Man)) (c : Colour) (a b : ℕ) (z : Man) : Type 0 where
  pub one : AtMostOneKing men
  pub king : is_man (Some z) c King ≡ true → king_square men c ≡ Some a
  pub cannot_expose : may_expose men c a ≡ false
  pub aside : may_be_hurdle men c b ≡ false
  pub quiet : (k : ℕ) → king_square men c ≡ Some k → IsQuiet men c a b k z

king_stays : (men after : List (Option Man)) (a b : ℕ) (z : Man) (c : Colour) (k : ℕ) → IsShift men after a b z → IsHarmless men c a b z
    → k < 64 → is_man (man_on after k) c King ≡ true → king_square men c ≡ Some k
unfolding may_expose
king_stays men after a b z c k i g small h =
    let y = man_there (man_on after k) c King h in
    elim (cases_eq k b) [
      | inl e ↦ grind (arith, i.arrived y.0, g.king, g.cannot_expose, covered_parts men c a a, eq-eqb a a)
      | inr ne ↦ king_is men c k g.one small (rw (i.others k y.0 y.1 ne) (rw y.1 at h))
    ]

stays_safe : (rule : RuleSet) (men after : List (Option Man)) (a b : ℕ) (z : Man) (c : Colour) → IsShift men after a b z → IsHarmless men c a b z
    → in_check rule after c ≡ false
unfolding in_check king_square squares may_expose may_be_hurdle
stays_safe rule men after a b z c i g = by (king_square after c) refl where
  by : (o : Option ℕ) → king_square after c ≡ o → is_attacked_at rule after o (other c) ≡ false
  by None e = refl
  by (Some k) e =
      let f = find_first (λ s. is_man (man_on after s) c King) 0 64 k e in
      let small : k < 64 = omega (arith, f.high) in
      let at : king_square men c ≡ Some k = king_stays men after a b z c k i g small f.here in
      let covered = covered_parts men c a k (rw at at g.cannot_expose) in
      not_attacked rule after (other c) k (unreached men after a b z i c k covered small (rw at at g.aside) (g.quiet k at))

-- a plain move captures on its arrival alone
captures_there : (p : Position) (x : Man) (m : Move) (s : ℕ) → is_square p.crossed m.to ≡ false → capture_square p x m ≡ Some s → s ≡ m.to
unfolding capture_square
captures_there p x m s off h = grind (arith, cases_Bool, cond-true, cond-false, and_right)

-- the parts of a plain move
pub record IsPlain (rule : RuleSet) (p : Position) (x : Man) (m : Move) : Type 0 where
  pub castling : is_castling x m ≡ false
  pub crossed : is_square p.crossed m.to ≡ false
  pub rebirth : captures_are_reborn rule ≡ true → capture_square p x m ≡ None

-- where nobody castles, the moved men are those once the man has arrived
pub moved_plainly : (p : Position) (x : Man) (m : Move) → is_castling x m ≡ false → moved_men p x m ≡ arrived p x m
unfolding moved_men
moved_plainly p x m h = rw h refl

-- where nobody is reborn
pub unreborn_after : (rule : RuleSet) (p : Position) (x : Man) (m : Move) → man_on p.men m.from ≡ Some x
    → (captures_are_reborn rule ≡ true → capture_square p x m ≡ None) → (position_after rule p m).men ≡ moved_men p x m
unfolding position_after position_after_by reborn_square
unreborn_after rule p x m here rebirth = search rules

-- where nobody is reborn and nobody castles, the men after the move are those after the arrival
pub simple_after : (rule : RuleSet) (p : Position) (x : Man) (m : Move) → man_on p.men m.from ≡ Some x → is_castling x m ≡ false
    → (captures_are_reborn rule ≡ true → capture_square p x m ≡ None) → (position_after rule p m).men ≡ arrived p x m
simple_after rule p x m here castling rebirth = unreborn_after rule p x m here rebirth ∙ moved_plainly p x m castling

-- after a plain move the men are those after the arrival
pub men_after : (rule : RuleSet) (p : Position) (x : Man) (m : Move) → man_on p.men m.from ≡ Some x → IsPlain rule p x m
    → (position_after rule p m).men ≡ arrived p x m
men_after rule p x m here plain = simple_after rule p x m here plain.castling plain.rebirth

-- a plain move is a shift from its origin to its arrival
pub arrived_shift : (rule : RuleSet) (p : Position) (x : Man) (m : Move) → IsWellFormed p → IsMade rule p x m → m.to < 64 → IsPlain rule p x m
    → IsShift p.men (arrived p x m) m.from m.to (arriving_man x m.promo)
arrived_shift rule p x m well is small plain =
    gone_shift p.men m.from (capture_square p x m) m.to (arriving_man x m.promo) (omega (arith, small, well.size))
    (λ s at. captures_there p x m s plain.crossed (square_is (capture_square p x m) s at))

-- a king that arrives left its own square
king_came : (p : Position) (x : Man) (m : Move) (c : Colour) → IsWellFormed p → man_on p.men m.from ≡ Some x → is_promotion_right p x m m.promo ≡ true
    → is_man (Some (arriving_man x m.promo)) c King ≡ true → king_square p.men c ≡ Some m.from
king_came p x m c well here right h = grind (arith, and_parts, arriving_king, king_is p.men c m.from, on_board p.men m.from x well.size here)

-- a plain move that exposes no king gives no check, if its man doesn't reach the king
pub plain_safe : (rule : RuleSet) (p : Position) (x : Man) (m : Move) (c : Colour) → IsWellFormed p → IsMade rule p x m → m.to < 64 → IsPlain rule p x m
    → may_expose p.men c m.from ≡ false → may_be_hurdle p.men c m.to ≡ false
    → ((k : ℕ) → king_square p.men c ≡ Some k → IsQuiet p.men c m.from m.to k (arriving_man x m.promo)) → in_check rule (position_after rule p m).men c ≡ false
plain_safe rule p x m c well is small plain cannot_expose aside quiet = search (rules, men_after, stays_safe, arrived, arrived_shift, king_came)

-- a promoted man keeps its colour
pub arriving_colour : (x : Man) (r : Option Kind) → (arriving_man x r).colour ≡ x.colour
arriving_colour x r = grind arith

-- the other colour's other colour is the first
pub other_twice : (c : Colour) → other (other c) ≡ c
other_twice c = grind arith

-- no colour is the other
pub other_differs : (c : Colour) → same_colour c (other c) ≡ false
other_differs c = grind arith

-- the parts of the test that a move can't uncover the king of colour c
pub record CannotExpose (rule : RuleSet) (p : Position) (x : Man) (c : Colour) (m : Move) : Type 0 where
  pub origin : may_expose p.men c m.from ≡ false
  pub aside : may_be_hurdle p.men c m.to ≡ false
  pub plain : IsPlain rule p x m

-- a move that meets the test has them
pub cannot_expose_parts : (rule : RuleSet) (p : Position) (x : Man) (c : Colour) (m : Move) → man_on p.men m.from ≡ Some x → cannot_expose rule p c m ≡ true
    → CannotExpose rule p x c m
unfolding cannot_expose is_plain capture_square
cannot_expose_parts rule p x c m here h = grind (arith, and_parts, not-true, second_fails, cond-false, and_right)

-- a move that can't expose the king doesn't leave it in check
pub cannot_expose_own : (rule : RuleSet) (p : Position) (m : Move) → IsWellFormed p → is_pseudo_legal rule p m ≡ true → m.to < 64
    → cannot_expose rule p p.turn m ≡ true → in_check rule (position_after rule p m).men p.turn ≡ false
cannot_expose_own rule p m well may small h =
    let x = maker rule p m may in
    let is = made rule p m x.0 may x.1 in
    let parts = cannot_expose_parts rule p x.0 p.turn m x.1 h in
    let own : same_colour (arriving_man x.0 m.promo).colour (other p.turn) ≡ false = grind (arith, is.mine, arriving_colour x.0 m.promo, other_differs) in
    plain_safe rule p x.0 m p.turn well is small parts.plain parts.origin parts.aside (λ k at. record {
      quiet = λ theirs. false_from_ne_true _ (λ _. false≢true (sym own ∙ theirs));
      stood = λ theirs. absurd (false≢true (sym own ∙ theirs));
    })

-- a fairy man by the words of the two kinds
pub some_hopper : (men : List (Option Man)) (c : Colour) (w : ℕ) → w ≡ squares_of men c Grasshopper → (w ≡ 0 → ⊥) → not (w == 0) ≡ has_fairy men c
unfolding has_fairy squares_of
some_hopper men c w h some = search (rules, differs, or_left, not_zero)

-- a side without grasshoppers has a fairy man exactly if its word of nightriders isn't empty
pub some_nightrider : (men : List (Option Man)) (c : Colour) (w n : ℕ) → w ≡ squares_of men c Grasshopper → w ≡ 0 → n ≡ squares_of men c Nightrider
    → not (n == 0) ≡ has_fairy men c
unfolding has_fairy squares_of
some_nightrider men c w n h none i = grind (arith, not_zero)

-- the word of the squares from which a move may uncover a king
pub blocker_squares_none : (men : List (Option Man)) (c : Colour) → king_square men c ≡ None → 0 ≡ word (may_expose men c)
unfolding may_expose
blocker_squares_none men c h = word_empty (may_expose men c) (λ s b. ap (λ (o : Option ℕ). may_expose_at men o c s) h)

-- where a side has no king, no square is a checker's
pub checkers_none : (men : List (Option Man)) (c : Colour) → king_square men c ≡ None → 0 ≡ word (is_checker men c)
unfolding is_checker
checkers_none men c h = word_empty (is_checker men c) (λ s b. ap (λ (o : Option ℕ). is_checker_at men o c s) h)

-- the men of colour e that reach a king's square
abbrev reaching : List (Option Man) → Colour → ℕ → ℕ → Bool
reaching men e k s = is_of_colour (man_on men s) e && reaches men s k

-- if they are enemies, they are those that reach the king
pub checkers_are : (men : List (Option Man)) (c e : Colour) (k w : ℕ) → e ≡ other c → king_square men c ≡ Some k → w ≡ word (reaching men e k)
    → w ≡ word (is_checker men c)
unfolding is_checker
checkers_are men c e k w enemy at h = search (rules, squares_same, enemy, at, h)

-- an enemy reaches the king exactly if the bitboard of these enemies isn't 0
reached_by_word : (men : List (Option Man)) (c e : Colour) (k w : ℕ) → e ≡ other c → w ≡ word (reaching men e k) → not (w == 0) ≡ is_reached men k (other c)
unfolding is_reached
reached_by_word men c e k w enemy h = search (rules, not_zero, enemy, h)

-- with a king that an enemy reaches, they are all squares
pub blocker_squares_all : (men : List (Option Man)) (c e : Colour) (k w : ℕ) → e ≡ other c → king_square men c ≡ Some k → w ≡ word (reaching men e k)
    → (w ≡ 0 → ⊥) → bit_not w64 0 ≡ word (may_expose men c)
unfolding may_expose
blocker_squares_all men c e k w enemy at h some =
    let reached : is_reached men k (other c) ≡ true = sym (reached_by_word men c e k w enemy h) ∙ ap not (differs w 0 some) in
    search (rules, every_square, or_left)

-- with a king that no enemy reaches, they are its own square, those that block a line to it, and those on
-- fairy lines
pub blocker_squares_some : (men : List (Option Man)) (c e : Colour) (k r w n : ℕ) → e ≡ other c → king_square men c ≡ Some k → r ≡ word (reaching men e k)
    → r ≡ 0 → w ≡ bit_or (bit_or (word (is_square (Some k))) (word (is_blocking men (other c) Rook straight_steps k)))
    (word (is_blocking men (other c) Bishop diagonal_steps k)) → n ≡ word (may_be_hurdle men c) → bit_or w n ≡ word (may_expose men c)
unfolding may_expose may_be_hurdle
blocker_squares_some men c e k r w n enemy at reachers none h i =
    let unreached : is_reached men k (other c) ≡ false = sym (reached_by_word men c e k r enemy reachers) ∙ ap (λ (v : ℕ). not (v == 0)) none in
    joined _ _ _ _ (h ∙ joined _ _ _ _ (squares_either _ _) refl) i ∙ squares_same _ _ (λ t less. grind (arith, at, unreached))

-- from a square that isn't a blocker's the other parts of the test decide
pub cannot_expose_to : (rule : RuleSet) (p : Position) (x : Man) (c : Colour) (m : Move) (w s : ℕ) (b r : Bool) → man_on p.men s ≡ Some x
    → w ≡ word (may_expose p.men c) → s ≡ m.from → s < 64 → b ≡ (bit_at w s == 1) → b ≡ false
    → r ≡ (not (may_be_hurdle p.men c m.to) && is_plain rule p x m) → r ≡ cannot_expose rule p c m
unfolding cannot_expose
cannot_expose_to rule p x c m w s b r here h same small e off rest = search (rules, word_has)

-- if nobody is on the origin, the test fails
pub cannot_expose_nobody : (rule : RuleSet) (p : Position) (c : Colour) (m : Move) → man_on p.men m.from ≡ None → false ≡ cannot_expose rule p c m
unfolding cannot_expose
cannot_expose_nobody rule p c m none = rw none refl

-- a square that isn't in the word of exposing squares stands between nothing
pub off_blockers : (men : List (Option Man)) (c : Colour) (w t : ℕ) (b : Bool) → w ≡ word (may_expose men c) → t < 64 → b ≡ (bit_at w t == 1) → b ≡ false
    → b ≡ may_be_hurdle men c t
unfolding may_expose may_be_hurdle
off_blockers men c w t b h small e off = search (rules, word_has, or_parts)

-- the bitboard of the fairy lines decides for the other squares
pub between_is : (men : List (Option Man)) (c : Colour) (w t : ℕ) (b : Bool) → w ≡ word (may_be_hurdle men c) → t < 64 → b ≡ (bit_at w t == 1)
    → b ≡ may_be_hurdle men c t
between_is men c w t b h small e = e ∙ word_has (may_be_hurdle men c) w t h small
