-- A plan comes back over one move.
use Rattle.chess_reach.proofs.Chess.{Bool, Colour, End, Ends, Gets, IsBlocked, IsDefended, IsChecked, IsGuarded, IsPlan, King, Kind, List, Man, None, Option, Position, Some, and_parts, ap, arith, cases_Bool, cases_eq, cond-false, cond-true, eq-eqb, false, false_from_ne_true, false≢true, goes, if◌then◌else◌, inl, inr, captures_to, checks_by_leap, is_prey, length, may_capture, not, or_cases, or_left, or_right, and_from, same_colour-true, some_square, some_square_true, squares, is_man, is_of_colour, is_square, man_on, may_promote, ne_eqb, other, price, refl, same_colour, same_colour-refl, same_kind, suc, sym, true, ℕ, ◌<◌, ◌==◌, ◌∙◌, ◌≡◌, ◌≢◌, ◌≤◌, ◌&&◌, ◌||◌}
use Rattle.pop_stipulation.specs.declared.stipulation.Goal.{Goal}
use Rattle.pop_stipulation.specs.declared.stipulation.Goal.TheVariants.{Mate}
use Rattle.chess_rules.proofs.Blocking.{man_there, other_differs}
use Rattle.chess_rules.proofs.StayingInCheck.{side_there}
use Rattle.chess_attacks.proofs.Tests.{any_range_cases}
use Rattle.chess_attacks.proofs.rays.OnSquares.{on_board}
use Rattle.chess_rules.proofs.Chess.{any_range_false}
use Rattle.chess_attacks.proofs.rays.Ends.{square_is}
use Rattle.chess_rules.specs.Play.{rebirth}
use Rattle.chess_reach.proofs.Getting.{gets_more, gets_reborn}
use Rattle.chess_reach.proofs.Sums.{sum_grows, sum_moved}

-- the man captured on e is reborn on s
pub record IsReborn (rb : Bool) (p q : Position) (x : Man) (a b : ℕ) (e : Option ℕ) (s : ℕ) : Type 0 where
  pub from : ℕ
  pub man : Man
  pub taken : is_square e from ≡ true
  pub was : man_on p.men from ≡ Some man
  pub now : man_on q.men s ≡ Some man
  pub lives : rb ≡ true
  pub home : rebirth man.colour man.kind from ≡ Some s
  pub small : s < 64
  pub off : s ≢ b
  pub vacant : s ≢ a → is_square e s ≡ false → man_on p.men s ≡ None

-- x on a has gone to b, where it is y, and has captured on e, if there is a square, a man that is reborn on h, if
-- there is a square; nothing else has changed
pub record IsGone (rb : Bool) (p q : Position) (x y : Man) (a b : ℕ) (e h : Option ℕ) : Type 0 where
  pub size : length p.men ≡ 64
  pub from : a < 64
  pub to : b < 64
  pub apart : a ≢ b
  pub here : man_on p.men a ≡ Some x
  pub there : man_on q.men b ≡ Some y
  pub colour : y.colour ≡ x.colour
  pub king : same_kind y.kind King ≡ same_kind x.kind King
  pub left : is_square h a ≡ false → man_on q.men a ≡ None
  pub cleared : (s : ℕ) → is_square e s ≡ true → s ≢ b → is_square h s ≡ false → man_on q.men s ≡ None
  pub others : (s : ℕ) → s ≢ a → s ≢ b → is_square e s ≡ false → is_square h s ≡ false → man_on q.men s ≡ man_on p.men s
  pub reborn : (s : ℕ) → is_square h s ≡ true → IsReborn rb p q x a b e s
  pub dies : rb ≡ false → h ≡ None
  pub captured : (s : ℕ) (z : Man) → is_square e s ≡ true → man_on p.men s ≡ Some z → (same_colour z.colour x.colour ≡ false) × (same_kind z.kind King ≡ false)
  pub free : is_square e b ≡ false → man_on p.men b ≡ None
  pub on : (s : ℕ) (z : Man) → is_square e s ≡ true → man_on p.men s ≡ Some z → s < 64
  pub goes : (takes : ℕ → Bool) → ((s : ℕ) (z : Man) → is_square e s ≡ true → man_on p.men s ≡ Some z → captures_to x.colour s b ≡ true → takes b ≡ true)
      → goes (may_promote p) takes x.colour x.kind a y.kind b ≡ true
  pub kinds : q.in_diagram ≡ p.in_diagram

-- the kind of the man, if there is one
abbrev kind_of : Option Man → Kind
kind_of None = King
kind_of (Some x) = x.kind

-- the man on s ends where it is
abbrev pub stays : List (Option Man) → ℕ → End
stays men s = record { kind = kind_of (man_on men s); square = s; moves = 0; taken = false }

-- the man on s is captured there
abbrev pub falls : List (Option Man) → ℕ → End
falls men s = record { kind = kind_of (man_on men s); square = s; moves = 0; taken = true }

-- the end of the man that was captured on s: there, or where the man that was reborn ends
abbrev pub fate : List (Option Man) → Option ℕ → Ends → ℕ → End
fate men None ends s = falls men s
fate men (Some r) ends s = ends r

-- one move more
abbrev later : End → End
later e = record e { moves = suc e.moves }

-- the ends before a man went from a to b and captured on e, and who was captured was reborn on h
pub ends_before : List (Option Man) → ℕ → ℕ → Option ℕ → Option ℕ → Ends → Ends
ends_before men a b e h ends s = if s == a then later (ends b) else (if is_square e s then fate men h ends s else ends s)

-- what the man on s pays, if it is of colour c
abbrev paid : List (Option Man) → Colour → Ends → ℕ → ℕ
paid men c ends s = if is_of_colour (man_on men s) c then (ends s).moves else 0

-- the other colour isn't this one
differs_from_other : (c : Colour) → same_colour (other c) c ≡ false
differs_from_other c = grind arith

-- some square meets a test
pub meeting : (test : ℕ → Bool) → some_square test ≡ true → (s : ℕ) × (s < 64) × (test s ≡ true)
unfolding some_square squares
meeting test h = elim (any_range_cases test 0 64) [
  | inl w ↦ (w.0, omega (arith, w.2), w.3)
  | inr none ↦ absurd (false≢true (sym (any_range_false test 0 64 none) ∙ h))
]

-- one square
one_square : (o : Option ℕ) (s t : ℕ) → is_square o s ≡ true → is_square o t ≡ true → s ≡ t
one_square o s t a b = let h : Some s ≡ Some t = sym (square_is o s a) ∙ square_is o t b in cc

-- a man of another colour than c is of the other
enemy_colour : (d b c : Colour) → b ≡ c → same_colour d b ≡ false → same_colour d (other c) ≡ true
enemy_colour d b c mine enemy = grind (arith, mine, enemy)

-- no king is of a kind that isn't king
not_king : (z : Man) (c : Colour) → same_kind z.kind King ≡ false → not (is_man (Some z) (other c) King) ≡ true
not_king z c mortal = grind (arith, mortal)

module _ (rb : Bool) (p q : Position) (x y : Man) (a b : ℕ) (e h : Option ℕ) (gone : IsGone rb p q x y a b e h) (ends : Ends) where
  size : length p.men ≡ 64
  size = gone.size

  at_origin : ends_before p.men a b e h ends a ≡ later (ends b)
  unfolding ends_before
  at_origin = cond-true (a == a) _ _ (eq-eqb a a refl)

  at_capture : (s : ℕ) → s ≢ a → is_square e s ≡ true → ends_before p.men a b e h ends s ≡ fate p.men h ends s
  unfolding ends_before
  at_capture s ne taken = cond-false (s == a) _ _ (ne_eqb s a ne) ∙ cond-true (is_square e s) _ _ taken

  at_others : (s : ℕ) → s ≢ a → is_square e s ≡ false → ends_before p.men a b e h ends s ≡ ends s
  unfolding ends_before
  at_others s ne kept = cond-false (s == a) _ _ (ne_eqb s a ne) ∙ cond-false (is_square e s) _ _ kept

  -- where a man is reborn nobody stood, origin and capture apart
  vacant : (s : ℕ) → is_square h s ≡ true → s ≢ a → is_square e s ≡ false → man_on p.men s ≡ None
  vacant s at = (gone.reborn s at).vacant

  -- a man that neither went nor was captured stands as before
  stood : (s : ℕ) (z : Man) → man_on p.men s ≡ Some z → s ≢ a → is_square e s ≡ false → man_on q.men s ≡ Some z
  stood s z at ne kept = grind (arith, cases_eq s b, cases_Bool (is_square h s), vacant s, gone.others s, gone.free)

  -- nobody captures himself
  not_origin : (s : ℕ) (z : Man) → is_square e s ≡ true → man_on p.men s ≡ Some z → s ≢ a
  not_origin s z taken there same =
      let z_is : z ≡ x = let h : Some z ≡ Some x = sym (rw same at there) ∙ gone.here in cc in
      let differs : same_colour x.colour x.colour ≡ false = rw z_is at (gone.captured s z taken there).0 in
      false≢true (sym differs ∙ same_colour-refl x.colour)

  record CameFrom (c : Colour) (s : ℕ) : Type 0 where
    by : ℕ
    ours : is_of_colour (man_on p.men by) c ≡ true
    kind : (ends_before p.men a b e h ends by).kind ≡ (ends s).kind
    square : (ends_before p.men a b e h ends by).square ≡ (ends s).square
    taken : (ends_before p.men a b e h ends by).taken ≡ (ends s).taken
    moves : (ends s).moves ≤ (ends_before p.men a b e h ends by).moves
    arrives : s ≡ b → (ends_before p.men a b e h ends by).moves ≢ 0
    king : is_man (man_on p.men by) c King ≡ is_man (man_on q.men s) c King

  same_promotions : may_promote q ≡ may_promote p
  same_promotions = ap (λ (d : List Bool). may_promote (record p { in_diagram = d })) gone.kinds

  -- a square with a man after the move, arrival and rebirth apart, had the same man before it
  pub stood_before : (s : ℕ) (z : Man) → man_on q.men s ≡ Some z → s ≢ b → is_square h s ≡ false → (s ≢ a) × ((is_square e s ≡ false) × (man_on p.men s ≡ Some z))
  stood_before s z at nb old = grind (arith, cases_eq s a, cases_Bool (is_square e s), gone.left, gone.cleared s, gone.others s)

  -- a king that has arrived is one that went
  king_at_arrival : (c : Colour) → is_man (man_on p.men a) c King ≡ is_man (man_on q.men b) c King
  king_at_arrival c = rw (gone.here, gone.there, gone.colour, gone.king) refl

  -- each man has come from a square where its end was the same
  came_from : (c : Colour) (s : ℕ) → is_of_colour (man_on q.men s) c ≡ true → CameFrom c s
  came_from c s ours = elim (cases_eq s b) [
    | inl e1 ↦ record {
      by = a;
      ours = rw gone.here (rw (e1, gone.there, gone.colour) at ours);
      kind = rw (e1, at_origin) refl;
      square = rw (e1, at_origin) refl;
      taken = ap (λ (x : End). x.taken) at_origin ∙ ap (λ t. (ends t).taken) (sym e1);
      moves = omega (arith, ap (λ (x : End). x.moves) at_origin, ap (λ t. (ends t).moves) e1);
      arrives = λ _. λ none. omega (arith, none, ap (λ (x : End). x.moves) at_origin);
      king = king_at_arrival c ∙ ap (λ t. is_man (man_on q.men t) c King) (sym e1);
    }
    | inr nb ↦ elim (cases_Bool (is_square h s)) [
      | inl at ↦ born_from c s ours at
      | inr old ↦ stayed_from c s ours nb old
    ]
  ]
    where
      stayed_from : (c : Colour) (s : ℕ) → is_of_colour (man_on q.men s) c ≡ true → s ≢ b → is_square h s ≡ false → CameFrom c s
      stayed_from c s ours nb old =
          let z = side_there (man_on q.men s) c ours in
          let r = stood_before s z.0 z.1.0 nb old in
          record {
            by = s;
            ours = rw r.1.1 z.1.1;
            kind = rw (at_others s r.0 r.1.0) refl;
            square = rw (at_others s r.0 r.1.0) refl;
            taken = rw (at_others s r.0 r.1.0) refl;
            moves = omega (arith, ap (λ (x : End). x.moves) (at_others s r.0 r.1.0));
            arrives = λ same. absurd (nb same);
            king = ap (λ o. is_man o c King) (r.1.1 ∙ sym z.1.0);
          }

      born_from : (c : Colour) (s : ℕ) → is_of_colour (man_on q.men s) c ≡ true → is_square h s ≡ true → CameFrom c s
      born_from c s ours at =
          let r = gone.reborn s at in
          let same : ends_before p.men a b e h ends r.from ≡ ends s = at_capture r.from (not_origin r.from r.man r.taken r.was) r.taken
          ∙ ap (λ o. fate p.men o ends r.from) (square_is h s at) in
          record {
            by = r.from;
            ours = ap (λ o. is_of_colour o c) (r.was ∙ sym r.now) ∙ ours;
            kind = ap (λ (x : End). x.kind) same;
            square = ap (λ (x : End). x.square) same;
            taken = ap (λ (x : End). x.taken) same;
            moves = omega (arith, ap (λ (x : End). x.moves) same);
            arrives = λ there. absurd (r.off there);
            king = ap (λ o. is_man o c King) (r.was ∙ sym r.now);
          }

  -- a man on the board
  by_small : (s : ℕ) (c : Colour) → is_of_colour (man_on p.men s) c ≡ true → s < 64
  by_small s c ours = let z = side_there (man_on p.men s) c ours in on_board p.men s z.0 size z.1.0

  -- where a pawn may capture after the move, it may before it
  captures_back : (c d : Colour) (t : ℕ) → may_capture rb q.men c ends d t ≡ true → may_capture rb p.men c (ends_before p.men a b e h ends) d t ≡ true
  unfolding may_capture
  captures_back c d t may = elim (or_cases rb _ may) [
    | inl lives ↦ or_left _ _ lives
    | inr mortal ↦ or_right rb _ (prey_back c d t mortal)
  ]
    where
      prey_back : (c d : Colour) (t : ℕ) → (not (same_colour d c) || some_square (is_prey q.men c ends t)) ≡ true
          → (not (same_colour d c) || some_square (is_prey p.men c (ends_before p.men a b e h ends) t)) ≡ true
      prey_back c d t may = elim (or_cases (not (same_colour d c)) (some_square (is_prey q.men c ends t)) may) [
        | inl theirs ↦ or_left _ _ theirs
        | inr some ↦
            let w = meeting _ some in
            let parts = and_parts _ _ w.2 in
            let man = and_parts _ _ parts.0 in
            let r = came_from (other c) w.0 man.0 in
            or_right (not (same_colour d c)) _ (some_square_true (is_prey p.men c (ends_before p.men a b e h ends) t) r.by (by_small r.by (other c) r.ours)
            (and_from _ _ (and_from _ _ r.ours (ap not r.king ∙ man.1)) (rw (r.taken, r.square) parts.1)))
      ]

  -- who is captured is prey
  captured_prey : (c : Colour) (s : ℕ) (z : Man) → rb ≡ false → x.colour ≡ c → is_square e s ≡ true → man_on p.men s ≡ Some z → captures_to c s b ≡ true
      → is_prey p.men c (ends_before p.men a b e h ends) b s ≡ true
  captured_prey c s z mortal mine taken there to =
      let enemy = gone.captured s z taken there in
      let off : s ≢ a = not_origin s z taken there in
      let falling : ends_before p.men a b e h ends s ≡ falls p.men s = at_capture s off taken ∙ ap (λ o. fate p.men o ends s) (gone.dies mortal) in
      and_from (is_of_colour (man_on p.men s) (other c) && not (is_man (man_on p.men s) (other c) King)) _
      (rw there (and_from (same_colour z.colour (other c)) (not (is_man (Some z) (other c) King)) (enemy_colour z.colour x.colour c mine enemy.0)
      (not_king z c enemy.1))) (rw falling to)

  -- the move of a pawn that captures is one of the plan
  goes_back : (c : Colour) → goes (may_promote p) (may_capture rb p.men c (ends_before p.men a b e h ends) x.colour) x.colour x.kind a y.kind b ≡ true
  unfolding may_capture
  goes_back c = gone.goes _ (λ s z taken there to. elim (cases_Bool rb) [
    | inl lives ↦ or_left rb _ lives
    | inr mortal ↦ or_right rb _ (elim (cases_Bool (same_colour x.colour c)) [
      | inr theirs ↦ or_left (not (same_colour x.colour c)) _ (ap not theirs)
      | inl ours ↦
          let mine : x.colour ≡ c = same_colour-true x.colour c ours in
          or_right (not (same_colour x.colour c)) _ (some_square_true (is_prey p.men c (ends_before p.men a b e h ends) b) s (gone.on s z taken there)
          (captured_prey c s z mortal mine taken there (rw mine at to)))
    ])
  ])

  -- the man that went has one step more in front
  from_origin : (c : Colour) → Gets rb (may_promote q) (may_capture rb q.men c ends y.colour) y.colour (ends b).moves y.kind b (ends b).kind (ends b).square
      → Gets rb (may_promote p) (may_capture rb p.men c (ends_before p.men a b e h ends) x.colour) x.colour (suc (ends b).moves) x.kind a (ends b).kind (ends b).square
  unfolding Gets
  from_origin c gets = (
    a,
    y.kind,
    b,
    inl refl,
    goes_back c,
    gets_more rb (may_promote p) (may_capture rb q.men c ends x.colour) (may_capture rb p.men c (ends_before p.men a b e h ends) x.colour) x.colour (ends b).moves y.kind b
        (ends b).kind (ends b).square
        (captures_back c x.colour) (rw (same_promotions, gone.colour) at gets),
  )

  -- who was captured stays there, or goes on from where it is reborn
  captured_gets : (o : Option ℕ) → h ≡ o → (c : Colour) → ((s : ℕ) (z : Man) → man_on q.men s ≡ Some z
      → Gets rb (may_promote q) (may_capture rb q.men c ends z.colour) z.colour (ends s).moves z.kind s (ends s).kind (ends s).square)
      → (s : ℕ) (z : Man) → s ≢ a → is_square e s ≡ true → man_on p.men s ≡ Some z
      → Gets rb (may_promote p) (may_capture rb p.men c (ends_before p.men a b e h ends) z.colour) z.colour (ends_before p.men a b e h ends s).moves z.kind s
      (ends_before p.men a b e h ends s).kind (ends_before p.men a b e h ends s).square
  unfolding Gets
  captured_gets None is c gets s z na taken at =
      let same : ends_before p.men a b e h ends s ≡ falls p.men s = at_capture s na taken ∙ ap (λ o. fate p.men o ends s) is in
      rw (same, at) (refl, inl refl)
  captured_gets (Some r) is c gets s z na taken at =
      let born = gone.reborn r (rw is (eq-eqb r r refl)) in
      let from : s ≡ born.from = one_square e s born.from taken born.taken in
      let z_is : z ≡ born.man = let h : Some z ≡ Some born.man = sym at ∙ ap (λ i. man_on p.men i) from ∙ born.was in cc in
      let same : ends_before p.men a b e h ends s ≡ ends r = at_capture s na taken ∙ ap (λ o. fate p.men o ends s) is in
      rw (same, ← same_promotions)
      (gets_reborn rb (may_promote q) _ z.colour (ends r).moves z.kind s r (ends r).kind (ends r).square born.lives
      (ap (λ (y : Man). rebirth y.colour y.kind s) z_is ∙ ap (λ i. rebirth born.man.colour born.man.kind i) from ∙ born.home)
      (gets_more rb (may_promote q) (may_capture rb q.men c ends z.colour) (may_capture rb p.men c (ends_before p.men a b e h ends) z.colour) z.colour (ends r).moves
      z.kind r (ends r).kind (ends r).square (captures_back c z.colour) (gets r z (born.now ∙ ap (λ y. Some y) (sym z_is)))))

  gets_back : (c : Colour) → ((s : ℕ) (z : Man) → man_on q.men s ≡ Some z
      → Gets rb (may_promote q) (may_capture rb q.men c ends z.colour) z.colour (ends s).moves z.kind s (ends s).kind (ends s).square)
      → (s : ℕ) (z : Man) → man_on p.men s ≡ Some z
      → Gets rb (may_promote p) (may_capture rb p.men c (ends_before p.men a b e h ends) z.colour) z.colour (ends_before p.men a b e h ends s).moves z.kind s
      (ends_before p.men a b e h ends s).kind (ends_before p.men a b e h ends s).square
  unfolding Gets
  gets_back c gets s z at = elim (cases_eq s a) [
    | inl e1 ↦
        let z_is : z ≡ x = let h : Some z ≡ Some x = sym (rw e1 at at) ∙ gone.here in cc in
        rw (z_is, e1, at_origin) (from_origin c (gets b y gone.there))
    | inr e1 ↦ elim (cases_Bool (is_square e s)) [
      | inl e2 ↦ captured_gets h refl c gets s z e1 e2 at
      | inr e2 ↦ rw (at_others s e1 e2, ← same_promotions)
          (gets_more rb (may_promote q) (may_capture rb q.men c ends z.colour) (may_capture rb p.men c (ends_before p.men a b e h ends) z.colour) z.colour (ends s).moves
          z.kind s (ends s).kind (ends s).square (captures_back c z.colour) (gets s z (stood s z at e1 e2)))
    ]
  ]

  -- who is captured and not reborn pays nothing
  captured_pays : (c : Colour) (s : ℕ) → h ≡ None → s ≢ a → is_square e s ≡ true → paid p.men c (ends_before p.men a b e h ends) s ≡ 0
  captured_pays c s dead na taken =
      let same : ends_before p.men a b e h ends s ≡ falls p.men s = at_capture s na taken ∙ ap (λ o. fate p.men o ends s) dead in
      rw same (grind (arith, cases_Bool (is_of_colour (man_on p.men s) c)))

  -- nor does who is captured pay for the mover's side
  enemy_pays : (c : Colour) (s : ℕ) → x.colour ≡ c → is_square e s ≡ true → paid p.men c (ends_before p.men a b e h ends) s ≡ 0
  enemy_pays c s mine taken = cond-false (is_of_colour (man_on p.men s) c) _ _ (no_friend (man_on p.men s) refl)
    where
      no_friend : (o : Option Man) → man_on p.men s ≡ o → is_of_colour o c ≡ false
      no_friend None at = refl
      no_friend (Some z) at = rw (← mine) (gone.captured s z taken at).0

  -- and nobody on an empty square
  vacant_pays : (c : Colour) (s : ℕ) → man_on p.men s ≡ None → paid p.men c (ends_before p.men a b e h ends) s ≡ 0
  vacant_pays c s empty = rw empty refl

  -- of the mover's side nobody pays on the arrival
  arrival_pays : (c : Colour) → x.colour ≡ c → paid p.men c (ends_before p.men a b e h ends) b ≡ 0
  arrival_pays c mine = elim (cases_Bool (is_square e b)) [
    | inl taken ↦ enemy_pays c b mine taken
    | inr kept ↦ vacant_pays c b (gone.free kept)
  ]

  -- who was neither captured nor reborn pays as before
  same_pays : (c : Colour) (s : ℕ) → s ≢ a → s ≢ b → is_square e s ≡ false → paid p.men c (ends_before p.men a b e h ends) s ≤ paid q.men c ends s
  same_pays c s na nb kept = elim (cases_Bool (is_square h s)) [
    | inl at ↦ omega (arith, vacant_pays c s (vacant s at na kept))
    | inr old ↦ rw (at_others s na kept, gone.others s na nb kept old) (omega arith)
  ]

  others_pay : (c : Colour) → x.colour ≡ c → (s : ℕ) → s ≢ a → s ≢ b → paid p.men c (ends_before p.men a b e h ends) s ≤ paid q.men c ends s
  others_pay c mine s na nb = elim (cases_Bool (is_square e s)) [
    | inl taken ↦ omega (arith, enemy_pays c s mine taken)
    | inr kept ↦ same_pays c s na nb kept
  ]

  -- the mover's side pays one move more
  mover_pays : (c : Colour) → x.colour ≡ c → price p.men c (ends_before p.men a b e h ends) ≤ suc (price q.men c ends)
  unfolding price
  mover_pays c mine =
      omega (
        arith,
        sum_moved (paid p.men c (ends_before p.men a b e h ends)) (paid q.men c ends) a b 1 gone.from gone.to gone.apart
            (rw (gone.here, gone.there, gone.colour, mine, at_origin, same_colour-refl c) (omega arith)) (arrival_pays c mine) (others_pay c mine),
      )

  -- of the other side nobody pays on the origin, nor where nobody is captured
  origin_pays : (c : Colour) → same_colour x.colour c ≡ false → paid p.men c (ends_before p.men a b e h ends) a ≡ 0
  origin_pays c differs = rw (gone.here, differs) refl

  rest_pays : (c : Colour) → same_colour x.colour c ≡ false → (s : ℕ) → is_square e s ≡ false → paid p.men c (ends_before p.men a b e h ends) s ≤ paid q.men c ends s
  rest_pays c differs s kept = elim (cases_eq s a) [
    | inl e1 ↦ rw e1 (omega (arith, origin_pays c differs))
    | inr na ↦ elim (cases_eq s b) [
      | inl e2 ↦ omega (arith, vacant_pays c s (rw e2 (gone.free (rw e2 at kept))))
      | inr nb ↦ same_pays c s na nb kept
    ]
  ]

  -- the other side pays no more: who is reborn pays elsewhere
  other_pays_at : (o : Option ℕ) → h ≡ o → (c : Colour) → same_colour x.colour c ≡ false → price p.men c (ends_before p.men a b e h ends) ≤ price q.men c ends
  unfolding price
  other_pays_at None dead c differs = sum_grows (paid p.men c (ends_before p.men a b e h ends)) (paid q.men c ends) each
    where
      each : (s : ℕ) → paid p.men c (ends_before p.men a b e h ends) s ≤ paid q.men c ends s
      each s = elim (cases_Bool (is_square e s)) [
        | inr kept ↦ rest_pays c differs s kept
        | inl taken ↦ elim (cases_eq s a) [
          | inl e1 ↦ rw e1 (omega (arith, origin_pays c differs))
          | inr na ↦ omega (arith, captured_pays c s dead na taken)
        ]
      ]
  other_pays_at (Some r) is c differs = elim (cases_eq born.from r) [
    | inl same ↦ sum_grows before after (λ s. elim (cases_eq s born.from) [
      | inl e1 ↦ rw e1 (omega (arith, moved, ap after same))
      | inr off ↦ rest_pays c differs s (off_capture s off)
    ])
    | inr off ↦ omega (
      arith,
      sum_moved before after born.from r 0 (gone.on born.from born.man born.taken born.was) born.small off (omega (arith, moved)) (home_pays off)
          (λ s nf nr. rest_pays c differs s (off_capture s nf)),
    )
  ]
    where
      before : ℕ → ℕ
      before = paid p.men c (ends_before p.men a b e h ends)

      after : ℕ → ℕ
      after = paid q.men c ends

      born : IsReborn rb p q x a b e r
      born = gone.reborn r (rw is (eq-eqb r r refl))

      off_capture : (s : ℕ) → s ≢ born.from → is_square e s ≡ false
      off_capture s off = false_from_ne_true _ (λ taken. off (one_square e s born.from taken born.taken))

      moved : before born.from ≤ after r
      moved =
          let same : ends_before p.men a b e h ends born.from ≡ ends r = at_capture born.from (not_origin born.from born.man born.taken born.was) born.taken
          ∙ ap (λ o. fate p.men o ends born.from) is in
          rw (same, born.was, born.now) (omega arith)

      home_pays : born.from ≢ r → before r ≡ 0
      home_pays off = elim (cases_eq r a) [
        | inl e1 ↦ rw e1 (origin_pays c differs)
        | inr na ↦ vacant_pays c r (born.vacant na (off_capture r (λ same. off (sym same))))
      ]

  other_pays : (c : Colour) → same_colour x.colour c ≡ false → price p.men c (ends_before p.men a b e h ends) ≤ price q.men c ends
  other_pays c differs = other_pays_at h refl c differs

  -- each king goes to a square where it ends likewise
  pub king_goes : (c : Colour) (s : ℕ) → is_man (man_on p.men s) c King ≡ true
      → (r : ℕ) × (is_man (man_on q.men r) c King ≡ true) × ((ends_before p.men a b e h ends s).square ≡ (ends r).square)
  king_goes c s king = elim (cases_eq s a) [
    | inl e1 ↦ (b, rw (gone.there, gone.colour, gone.king) (rw (e1, gone.here) at king), rw (e1, at_origin) refl)
    | inr na ↦
        let z = man_there (man_on p.men s) c King king in
        let kept : is_square e s ≡ false = grind (arith, cases_Bool (is_square e s), gone.captured s z.0, and_parts, z.1) in
        (s, rw (stood s z.0 z.1 na kept) (rw z.1 at king), rw (at_others s na kept) refl)
  ]

  -- a king that doesn't go stays
  pub king_stays : (c : Colour) (s : ℕ) → is_man (man_on p.men s) c King ≡ true → s ≢ a → is_man (man_on q.men s) c King ≡ true
  king_stays c s king na =
      let z = man_there (man_on p.men s) c King king in
      let kept : is_square e s ≡ false = grind (arith, cases_Bool (is_square e s), gone.captured s z.0, and_parts, z.1) in
      rw (stood s z.0 z.1 na kept) (rw z.1 at king)

  -- a king that goes arrives
  pub king_arrives : (c : Colour) → is_man (man_on p.men a) c King ≡ true → is_man (man_on q.men b) c King ≡ true
  king_arrives c king = rw (gone.there, gone.colour, gone.king) (rw gone.here at king)

  -- the other side's king stays
  pub other_king_stays : (c : Colour) (s : ℕ) → same_colour x.colour c ≡ false → is_man (man_on p.men s) c King ≡ true → is_man (man_on q.men s) c King ≡ true
  other_king_stays c s differs king =
      king_stays c s king (λ same.
      let here : is_man (Some x) c King ≡ true = rw (same, gone.here) at king in
      false≢true (sym differs ∙ (and_parts _ _ here).0))

  guarded_back : (c : Colour) (k t : ℕ) → IsGuarded q.men c ends k t → IsGuarded p.men c (ends_before p.men a b e h ends) k t
  guarded_back c k t g = let r = came_from c g.by g.ours in record
      { by = r.by; ours = r.ours; off = rw r.square g.off; guards = rw (r.kind, r.square) g.guards }

  defended_back : (c : Colour) (t : ℕ) → IsDefended rb q.men c ends t → IsDefended rb p.men c (ends_before p.men a b e h ends) t
  defended_back c t g = let r = came_from c g.by g.ours in record {
    by = r.by;
    ours = r.ours;
    there = rw r.square g.there;
    lives = g.lives;
    home = g.home;
    rebirth = rw r.kind g.rebirth;
    off = g.off;
    guards = rw r.kind g.guards;
  }

  blocked_back : (c : Colour) (t : ℕ) → IsBlocked q.men c ends t → IsBlocked p.men c (ends_before p.men a b e h ends) t
  blocked_back c t g = let r = came_from c g.by g.theirs in record { by = r.by; theirs = r.ours; there = rw r.square g.there; stays = rw r.taken g.stays }

  -- a man that has arrived does so by a move more
  checked_back : (sc : Bool) (c : Colour) (k : ℕ) → IsChecked sc q.men c ends k → IsChecked sc p.men c (ends_before p.men a b e h ends) k
  checked_back sc c k g = let r = came_from c g.guarded.by g.guarded.ours in record {
    guarded = record { by = r.by; ours = r.ours; off = rw r.square g.guarded.off; guards = rw (r.kind, r.square) g.guarded.guards };
    arrives = λ strict leaper. λ none. g.arrives strict (rw r.kind at leaper) (omega (arith, none, r.moves));
  }

  -- the man that has just moved arrives
  checked_now : (sc : Bool) (c : Colour) (k : ℕ) → (g : IsGuarded q.men c ends k k)
      → (sc ≡ false → checks_by_leap (ends g.by).kind ≡ true → g.by ≡ b) → IsChecked sc p.men c (ends_before p.men a b e h ends) k
  checked_now sc c k g last = let r = came_from c g.by g.ours in record {
    guarded = record { by = r.by; ours = r.ours; off = rw r.square g.off; guards = rw (r.kind, r.square) g.guards };
    arrives = λ strict leaper. r.arrives (last strict (rw r.kind at leaper));
  }

  -- a plan with these numbers of moves and this check comes back
  plan_back : (goal : Goal) (sc sd : Bool) (c : Colour) (n m i j k : ℕ) → IsPlan goal sd rb q c n m k ends
      → (goal ≡ Mate → IsChecked sc p.men c (ends_before p.men a b e h ends) k)
      → price p.men c (ends_before p.men a b e h ends) ≤ i → price p.men (other c) (ends_before p.men a b e h ends) ≤ j
      → IsPlan goal sc rb p c i j k (ends_before p.men a b e h ends)
  plan_back goal sc sd c n m i j k plan check ours theirs = record {
    gets = gets_back c plan.gets;
    ours = ours;
    theirs = theirs;
    king = λ s h. let r = king_goes (other c) s h in r.2 ∙ plan.king r.0 r.1;
    apart = λ s h. let r = king_goes c s h in rw r.2 (plan.apart r.0 r.1);
    around = λ t h. elim (plan.around t h) [
      | inl g ↦ inl (guarded_back c k t g)
      | inr g ↦ inr (elim g [
        | inl d ↦ inl (defended_back c t d)
        | inr b ↦ inr (blocked_back (other c) t b)
      ])
    ];
    check = check;
  }

  -- a plan after a move of the mating side is one before it, with a move more
  pub own_step : (goal : Goal) (sc : Bool) (c : Colour) (n m k : ℕ) → x.colour ≡ c → IsPlan goal sc rb q c n m k ends
      → (before : Ends) × IsPlan goal sc rb p c (suc n) m k before
  own_step goal sc c n m k mine plan = (
    ends_before p.men a b e h ends,
    plan_back goal sc sc c n m (suc n) m k plan (λ mate. checked_back sc c k (plan.check mate)) (omega (arith, mover_pays c mine, plan.ours))
        (omega (arith, other_pays (other c) (rw mine (other_differs c)), plan.theirs)),
  )

  -- so is one after the last move, if no knight or pawn but the one that has moved checks
  pub last_step : (goal : Goal) (sc : Bool) (c : Colour) (n m k : ℕ) → x.colour ≡ c → (plan : IsPlan goal true rb q c n m k ends)
      → ((mate : goal ≡ Mate) → sc ≡ false → checks_by_leap (ends (plan.check mate).guarded.by).kind ≡ true → (plan.check mate).guarded.by ≡ b)
      → (before : Ends) × IsPlan goal sc rb p c (suc n) m k before
  last_step goal sc c n m k mine plan last = (
    ends_before p.men a b e h ends,
    plan_back goal sc true c n m (suc n) m k plan (λ mate. checked_now sc c k (plan.check mate).guarded (last mate)) (omega (arith, mover_pays c mine, plan.ours))
        (omega (arith, other_pays (other c) (rw mine (other_differs c)), plan.theirs)),
  )

  -- a plan after a move of the other side likewise
  pub other_step : (goal : Goal) (sc : Bool) (c : Colour) (n m k : ℕ) → x.colour ≡ other c → IsPlan goal sc rb q c n m k ends
      → (before : Ends) × IsPlan goal sc rb p c n (suc m) k before
  other_step goal sc c n m k theirs plan = (
    ends_before p.men a b e h ends,
    plan_back goal sc sc c n m n (suc m) k plan (λ mate. checked_back sc c k (plan.check mate)) (omega (arith, other_pays c (rw theirs (differs_from_other c)), plan.ours))
        (omega (arith, mover_pays (other c) theirs, plan.theirs)),
  )
