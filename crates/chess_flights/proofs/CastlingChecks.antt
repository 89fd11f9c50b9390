-- Castling that opens no line to the enemy king gives check only by its rook.
use Rattle.chess_flights.proofs.Chess.{Bishop, Bool, Colour, Direction, East, Grasshopper, IsCastle, IsCovered, IsMade, IsShift, IsWellFormed, Kind, King, List, Man, Move, Nightrider, None, North, NorthEast, NorthWest, Option, Pawn, Position, Queen, Rook, RuleSet, Some, South, SouthEast, SouthWest, Step, Straight, West, [], agree_below, agree_below_at, all_at, along, and_from, and_left, and_parts, any_kept, ap, arith, arrived, back, can_castle, cases_eq, castle_of, cond-true, corner, corner_stays, covered_parts, enemy, eq-eqb, eqb-true, false, false_from_ne_true, false≢true, frees, goes_on, gone_shift, halfway, hops, implied, in_check, inl, inr, is_ahead, is_castling, is_clear, is_diagonal, is_man, is_of_colour, is_on_some, is_reached, is_some, is_square, is_vacant, king_is, king_no_step, king_square, king_stays_king, length-set, line_before, list_all, list_any, man_on, man_on-with_same, man_there, may_castle, may_check_from, may_expose, may_expose_at, may_be_hurdle, moved_men, no_capture, not, not_attacked, not_parted, onward, or_cases, or_left, or_parts, other, passes, position_after, range_with_len, reaches, reaches_as, refl, return_square, rides, rules, same_colour, same_kind, same_kind-true, some_square_false, some_square_true, square_is, squares_between, step_of, stood, straight_steps, sym, true, unreached, unreborn_after, ways, with_man, without_man, ℕ, ◌&&◌, ◌+◌, ◌-◌, ◌<◌, ◌==◌, ◌||◌, ◌∙◌, ◌∷◌, ◌≡◌, ◌≢◌, ◌≤◌, ◌⊎◌, is_attacked, king_there}
use Rattle.chess_rules.proofs.Castles.{no_man}
use Rattle.chess_rules.proofs.FairyLines.{Holds, IsBeside, IsNoHurdle, hop_kept, ride_kept}
use Rattle.chess_attacks.proofs.rays.Lined.{knight_directions, queen_directions}
use Rattle.chess_attacks.proofs.rays.Parting.{Frees}

-- a king isn't in check, if no enemy attacks its square
pub unchecked : (rule : RuleSet) (men : List (Option Man)) (c : Colour)
    → ((k : ℕ) → k < 64 → is_man (man_on men k) c King ≡ true → is_attacked rule men k (other c) ≡ false) → in_check rule men c ≡ false
unfolding in_check
unchecked rule men c none = grind (arith, king_there)

-- the corners of the board: no line goes through one
abbrev is_corner : ℕ → Bool
is_corner s = s == 0 || s == 7 || s == 56 || s == 63

-- no square of the board is ahead
abbrev is_end : ℕ → Step → Bool
is_end s d = list_all (λ n. not (is_some (along s d n))) (range_with_len 1 7)

-- the squares halfway of castlings
abbrev is_half : ℕ → Bool
is_half h = h == 3 || h == 5 || h == 59 || h == 61

-- no square is right beyond h on a line from elsewhere, except the two next to h on its rank
abbrev is_beside_alone : ℕ → Step → Bool
is_beside_alone h d = not (is_some (along h (back d) 1)) || not (is_some (along h d 1)) || is_square (along h d 1) (h + 1)
    || is_square (along h d 1) (h - 1)

-- from a corner no line goes both ways, and from a square halfway none but along its rank
abbrev is_bare : Step → ℕ → Bool
is_bare d b = (not (is_corner b) || is_end b d || is_end b (back d)) && (not (is_half b) || is_beside_alone b d)

bare : (x : Direction) (b : ℕ) → b < 64 → is_bare (step_of x) b ≡ true
unfolding along
bare East b lt = agree_below_at (is_bare (step_of East)) (λ b. true) 64 b refl lt
bare x b lt = agree_below_at (is_bare (step_of x)) (λ b. true) 64 b refl lt

end_none : (s : ℕ) (d : Step) (n t : ℕ) → is_end s d ≡ true → 1 ≤ n → n ≤ 7 → along s d n ≡ Some t → ⊥
end_none s d n t h low le at = search (rules, all_at, false≢true)

-- a man in a corner stands between no two squares
corner_beside : (x : Direction) (b s k : ℕ) → is_corner b ≡ true → b < 64 → s < 64 → IsBeside b s k (step_of x)
corner_beside x b s k h inside small = λ n i at low lt le. false_from_ne_true _ (λ y.
    let here : along s (step_of x) i ≡ Some b = square_is _ b y in
    let on = onward s b (step_of x) i (n - i) here in
    let came : along b (back (step_of x)) i ≡ Some s = square_is _ s (return_square s b (step_of x) i small y) in
    grind (arith, on, came, or_cases, and_parts, bare x b inside, end_none b (step_of x) (n - i) k, end_none b (back (step_of x)) i s))

-- a man halfway is a hurdle only to the squares beside it
half_no_hurdle : (x : Direction) (h s k : ℕ) → is_half h ≡ true → h < 64 → s < 64 → k ≢ h + 1 → k ≢ h - 1 → IsNoHurdle h s k (step_of x)
half_no_hurdle x h s k half inside small ne1 ne2 = λ n at low le. false_from_ne_true _ (λ y.
    let here : along s (step_of x) (n - 1) ≡ Some h = square_is _ h y in
    let rest : n - 1 + 1 ≡ n = omega arith in
    let on : along h (step_of x) 1 ≡ Some k = onward s h (step_of x) (n - 1) 1 here ∙ ap (along s (step_of x)) rest ∙ at in
    let came : along h (back (step_of x)) (n - 1) ≡ Some s = square_is _ s (return_square s h (step_of x) (n - 1) small y) in
    let before = passes h s (back (step_of x)) (n - 1) 1 inside (omega arith) came in
    grind (arith, implied (is_half h) (is_beside_alone h (step_of x)), and_parts, bare x h inside, or_cases, false≢true, eqb-true))

-- when a man has left a corner, riders get where they got
module _ (men after : List (Option Man)) (b s k : ℕ) (free : Frees after men b) (edge : is_corner b ≡ true) (inside : b < 64) (small : s < 64) where
  rode : (xs : List Direction) → list_any (λ x. rides after s k (step_of x)) xs ≡ true → list_any (λ x. rides men s k (step_of x)) xs ≡ true
  rode xs h = grind (arith, any_kept, ride_kept, corner_beside)

  -- grasshoppers too, if the man went to no square right before k
  reached : (t : ℕ) → Holds after men t → ((x : Direction) → IsNoHurdle t s k (step_of x)) → (e : Colour) (j : Kind) → reaches_as after e j s k ≡ true
      → reaches_as men e j s k ≡ true
  unfolding reaches_as
  reached t holds none e Queen h = rode queen_directions h
  reached t holds none e Rook h = rode (East ∷ West ∷ North ∷ South ∷ []) h
  reached t holds none e Bishop h = rode (NorthEast ∷ SouthEast ∷ NorthWest ∷ SouthWest ∷ []) h
  reached t holds none e Grasshopper h = any_kept (λ x. hops after s k (step_of x)) _ queen_directions
      (λ x. hop_kept men after b t s k (step_of x) free holds (corner_beside x b s k edge inside small) (none x)) h
  reached t holds none e Nightrider h = rode knight_directions h
  reached t holds none e j h = h

-- a man on a straight line with both of the king's squares is on one with the rook's
abbrev is_lined_up : ℕ → ℕ → ℕ → ℕ → Bool
is_lined_up a c h k = not (is_on_some straight_steps k h && is_on_some straight_steps k a) || (k == c || is_on_some straight_steps k c)

-- what depends on the squares alone
abbrev IsCastlingLine : ℕ → ℕ → ℕ → Type 0
IsCastlingLine a c h = (is_corner c ≡ true) × (is_half h ≡ true) × (agree_below (is_lined_up a c h) (λ k. true) 64 ≡ true)

-- king and rook castle: a king on a goes to t, the rook from c to h; what lies between them is empty
module _ (men : List (Option Man)) (a t c h : ℕ) where
  abbrev Way : ℕ → ℕ → ℕ → ℕ → Type 0
  Way i u d j = list_all (is_vacant men) (squares_between i d) ≡ true → IsCastlingLine i d j × (man_on men u ≡ None) × (list_any (rides men d i) straight_steps ≡ true)

  at_squares : (i u d j : ℕ) → a ≡ i → t ≡ u → c ≡ d → h ≡ j → Way i u d j → Way a t c h
  at_squares i u d j from to rook half free = rw (from, to, rook, half) free

  way : (a ≡ 4) ⊎ (a ≡ 60) → ((t ≡ a + 2) × ((c ≡ a + 3) × (h ≡ a + 1))) ⊎ ((t + 2 ≡ a) × ((c + 4 ≡ a) × (h + 1 ≡ a))) → Way a t c h
  unfolding rides is_clear along is_on_some is_ahead
  way (inl e) (inl f) = at_squares 4 6 7 5 e (omega arith) (omega arith) (omega arith) (λ v. search (rules, no_man, and_parts))
  way (inl e) (inr f) = at_squares 4 2 0 3 e (omega arith) (omega arith) (omega arith) (λ v. search (rules, no_man, and_parts))
  way (inr e) (inl f) = at_squares 60 62 63 61 e (omega arith) (omega arith) (omega arith) (λ v. search (rules, no_man, and_parts))
  way (inr e) (inr f) = at_squares 60 58 56 59 e (omega arith) (omega arith) (omega arith) (λ v. search (rules, no_man, and_parts))

-- what castling changes: the king steps, and then the rook
module _ (rule : RuleSet) (p : Position) (x : Man) (m : Move) (well : IsWellFormed p) (is : IsMade rule p x m) (castling : is_castling x m ≡ true) where
  castle : (same_kind x.kind Pawn ≡ false) × IsCastle p m
  castle = castle_of rule p x m well is castling

  the_way : IsCastlingLine m.from (corner m) (halfway m) × (man_on p.men m.to ≡ None) × (list_any (rides p.men (corner m) m.from) straight_steps ≡ true)
  unfolding can_castle may_castle
  the_way = way p.men m.from m.to (corner m) (halfway m) castle.1.from castle.1.far (search (rules, and_parts, ways, false≢true, castle, king_no_step))

  small : (m.from < 64) × (m.to < 64) × (halfway m < 64) × (corner m < 64)
  small = search (rules, castle.1.from, castle.1.far)

  abbrev stepped : List (Option Man)
  stepped = with_man (without_man p.men m.from) m.to x

  rook : (z : Man) × (man_on p.men (corner m) ≡ Some z) × (same_kind z.kind Rook ≡ true)
  rook = grind (arith, castle)

  abbrev castled : List (Option Man)
  castled = with_man (without_man stepped (corner m)) (halfway m) rook.0

  after_is : (position_after rule p m).men ≡ castled
  unfolding moved_men
  after_is =
      let nobody = no_capture p x m the_way.1 (and_left (same_kind x.kind Pawn) (is_diagonal m) castle.0) in
      unreborn_after rule p x m is.here (λ circe. nobody)
      ∙ search (rules, arrived, rook, corner_stays, castle, cond-true, king_stays_king, and_parts, nobody)

  king_shift : IsShift p.men stepped m.from m.to x
  king_shift = gone_shift p.men m.from None m.to x (omega (arith, small.1, well.size)) (λ s at. absurd (false≢true at))

  rook_shift : IsShift stepped castled (corner m) (halfway m) rook.0
  rook_shift = gone_shift stepped (corner m) None (halfway m) rook.0 (search (rules, small, length-set, well.size)) (λ s at. absurd (false≢true at))

  frees_corner : Frees castled stepped (corner m)
  frees_corner = frees stepped castled (corner m) (halfway m) rook.0 rook_shift

  -- what must hold for castling to give no check to the king of colour c
  module _ (c : Colour) (enemy_of : same_colour x.colour c ≡ false) (covered : may_expose p.men c m.from ≡ false)
      (aside : may_be_hurdle p.men c m.to ≡ false) (king_off : may_check_from p.men c x m.to ≡ false)
      (rook_off : may_check_from p.men c (enemy c Rook) (halfway m) ≡ false) where
    module _ (k : ℕ) (at : king_square p.men c ≡ Some k) (stands : is_man (man_on p.men k) c King ≡ true) (inside : k < 64) where
      parts : IsCovered p.men c m.from k
      unfolding may_expose
      parts = covered_parts p.men c m.from k (ap (λ (o : Option ℕ). may_expose_at p.men o c m.from) (sym at) ∙ covered)

      -- once the king has stepped, no man reaches the other king
      king_steps : is_reached stepped k (other c) ≡ false
      unfolding may_be_hurdle may_check_from
      king_steps = search (rules, unreached, king_shift, parts, or_parts, stood, small, at, aside, king_off)

      -- once the king has castled, the rook doesn't reach the other king from halfway
      rook_strikes : is_of_colour (man_on castled (halfway m)) (other c) ≡ true → reaches castled (halfway m) k ≡ true → ⊥
      unfolding reaches reaches_as is_on_some may_check_from
      rook_strikes side hit =
          let there : man_on castled (halfway m) ≡ Some rook.0 = search (rules, man_on-with_same, rook, small, well.size, length-set) in
          let before = rode stepped castled (corner m) (halfway m) k frees_corner the_way.0.0 small.3 small.2 (East ∷ West ∷ North ∷ South ∷ [])
          (rw (there, same_kind-true rook.0.kind Rook rook.2) at hit) in
          let apart : k ≢ corner m = λ e. search (rules, rook, same_kind-true, rook.2, false≢true, and_parts) in
          let lined = agree_below_at (is_lined_up m.from (corner m) (halfway m)) (λ k. true) 64 k the_way.0.2 inside in
          let rode : list_any (rides p.men (halfway m) k) straight_steps ≡ true =
          line_before p.men stepped m.from m.to x king_shift Straight k (halfway m) small.2 inside
          (λ line both. not_parted p.men m.from k (corner m) (other c) Rook straight_steps parts.straight
          (rw rook.1 (or_left _ _ (and_from _ _ (rw there at side) rook.2))) small.3
          (grind (arith, lined, goes_on p.men k m.from straight_steps both.0, or_cases, and_from, eqb-true)) (both.0, the_way.2)) before in
          grind (arith, rook_off, at, rode, or_parts)

      -- once the king has castled, no other man reaches the other king: it would have reached it before the
      -- rook went
      man_strikes : (s : ℕ) (o : Option Man) → man_on castled s ≡ o → s < 64 → s ≢ halfway m → is_of_colour o (other c) ≡ true → reaches castled s k ≡ true → ⊥
      unfolding reaches is_reached
      man_strikes s None there lt ne side hit = cc
      man_strikes s (Some y) there lt ne side hit =
          let stood_so : man_on stepped s ≡ Some y = rook_shift.others s y there ne in
          let apart : (k ≢ halfway m + 1) × (k ≢ halfway m - 1) = grind (arith, parts.apart, eq-eqb k m.from, the_way.1, stands, castle.1.from, castle.1.far) in
          let holds = stood stepped castled (corner m) (halfway m) rook.0 rook_shift in
          let before = reached stepped castled (corner m) s k frees_corner the_way.0.0 small.3 lt (halfway m) holds
          (λ w. half_no_hurdle w (halfway m) s k the_way.0.1 small.2 lt apart.0 apart.1) y.colour y.kind (rw there at hit) in
          false≢true (grind (arith, king_steps, some_square_true (λ s. is_of_colour (man_on stepped s) (other c) && reaches stepped s k) s lt))

      castled_unreached : is_reached castled k (other c) ≡ false
      unfolding is_reached
      castled_unreached = grind (arith, some_square_false, false_from_ne_true, and_parts, cases_eq, rook_strikes, man_strikes)

    -- the king of colour c keeps its square
    king_stood : (k : ℕ) → is_man (man_on castled k) c King ≡ true → is_man (man_on p.men k) c King ≡ true
    king_stood k h =
        let y = man_there (man_on castled k) c King h in
        let off_half : k ≢ halfway m = λ e. grind (arith, rook_shift.arrived y.0, same_kind-true, rook.2, false≢true, and_parts) in
        let off_to : k ≢ m.to = λ e. grind (arith, rook_shift.others k y.0 y.1 off_half, king_shift.arrived y.0, enemy_of, and_parts) in
        grind (arith, king_shift.others k y.0 (rook_shift.others k y.0 y.1 off_half) off_to)

    -- for castlings described by bitboards: neither king nor rook gives check, and none is uncovered
    pub castling_gives_no_check : in_check rule (position_after rule p m).men c ≡ false
    castling_gives_no_check = rw after_is (unchecked rule castled c (λ k small here.
        not_attacked rule castled (other c) k (castled_unreached k (king_is p.men c k well.kings small (king_stood k here)) (king_stood k here) small)))
