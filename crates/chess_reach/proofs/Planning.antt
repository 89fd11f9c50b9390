-- A plan is found by the search.
use Rattle.chess_attacks.proofs.Chess.{Bool, Colour, King, List, Man, None, Option, Some, White, all_at, and_from, and_left, and_parts, and_right, ap, arith, bit_and, bit_at, cases_Bool, cases_lt, cond-false, cond-true, eq-eqb, false, false≢true, get_or_past, if◌then◌else◌, inl, inr, is_man, is_of_colour, is_square, length, list_all, list_any, man_on, not, other, queen_steps, range_with_len, refl, same_colour-true, same_kind-true, subst, sym, true, word, word_has, word_only, ℕ, ◌%◌, ◌*◌, ◌+◌, ◌-◌, ◌<◌, ◌==◌, ◌^◌, ◌∙◌, ◌≡◌, ◌≢◌, ◌≤◌}
unfoldable use Rattle.chess_attacks.proofs.Chess.{along, king_square, leaps, reaches_as, squares}
use Rattle.std.proofs.Common.{slice_index_or}
use Rattle.std.specs.List.{sum_by}
use Rattle.std.specs.Prelude.{find, is_some}
use Rattle.std.proofs.lemmas.Bool.{false_from_ne_true}
use Rattle.chess_attacks.proofs.Tests.{find_first}
use Rattle.chess_attacks.proofs.rays.Flips.{king-back}
use Rattle.chess_core.specs.Position.{Position, kinds, may_promote, same_kind}
use Rattle.chess_rules.specs.Play.{rebirth}
use Rattle.chess_core.specs.declared.man.Kind.{Kind}
use Rattle.chess_reach.proofs.Bitboards.{on_both, on_first}
use Rattle.chess_attacks.proofs.Bits.{off_zero}
use Rattle.chess_reach.proofs.Chains.{chain_less, gets_be}
use Rattle.chess_reach.proofs.Getting.{every_on, gets_none, gets_small}
use Rattle.chess_reach.proofs.Returning.{knight_back, pawn_back}
use Rattle.chess_reach.proofs.Holding.{one_within, sum_less, sum_less_twice, sum_within, two_within}
unfoldable use Rattle.chess_reach.specs.Plans.{may_capture, price}
use Rattle.chess_reach.specs.Plans.{Arrives, Ends, IsBlocked, IsDefended, IsGuarded, IsPlan}
unfoldable use Rattle.chess_reach.specs.Reach.{guards}
use Rattle.chess_reach.specs.Reach.{Gets}
use Rattle.chess_reach.specs.declared.guards.Guard.{Guard}
use Rattle.chess_reach.specs.declared.hold.Post.{Post}
use Rattle.chess_reach.specs.declared.hold.Ending.{Ending}
use Rattle.chess_reach.specs.declared.hold.Quest.{Quest}
use Rattle.chess_reach.specs.declared.whereabouts.Whereabouts.{Whereabouts}
use Rattle.chess_reach.specs.ties.Guards.{AreBlocks, AreGuards, CanEnd, StaysAway, guard_at, is_blocker}
use Rattle.chess_reach.specs.ties.Hold.{Captures, DoesCheck, DoesDefend, DoesGuard, Holds, IsApart, IsBegun, IsHeld, IsIn, IsQuestOf, blocks_in, end_at, post_at}
unfoldable use Rattle.chess_reach.specs.ties.Hold.{blocked, unpaid}
use Rattle.chess_reach.specs.ties.Whereabouts.{has}
use Rattle.chess_reach.specs.ties.Ways.{IsChain, IsUsual, is_unfollowed, may_promote_to_unfollowed, nowhere}
use Rattle.pop_stipulation.specs.declared.stipulation.Goal.{Goal}
use Rattle.pop_stipulation.specs.declared.stipulation.Goal.TheVariants.{Mate}

-- a king guards where he steps
king_steps : (c : Colour) (k t : ℕ) → guards c King k t ≡ list_any (leaps k t) queen_steps
unfolding guards reaches_as
king_steps c k t = refl

-- the squares that have to be held: next to the king
pub held_around : (k t w s : ℕ) → w ≡ word (λ t. list_any (leaps k t) queen_steps) → t < 64 → (bit_at (bit_and w s) t == 1) ≡ true → guards White King k t ≡ true
held_around k t w s h small on = king_steps White k t ∙ sym (word_has (λ t. list_any (leaps k t) queen_steps) w t h small) ∙ on_first w s t on

none_stays : list_all (λ s. not (list_any (leaps s s) queen_steps)) (range_with_len 0 64) ≡ true
unfolding leaps along
none_stays = refl

-- a king doesn't guard his own square
off_himself : (c : Colour) (k t : ℕ) → k < 64 → guards c King k t ≡ true → k ≢ t
off_himself c k t small guarded same =
    let alone : not (list_any (leaps k k) queen_steps) ≡ true = all_at (λ s. not (list_any (leaps s s) queen_steps)) 0 64 k none_stays (omega arith) (omega (arith, small)) in
    let step : list_any (leaps k k) queen_steps ≡ true = subst (λ x. list_any (leaps k x) queen_steps ≡ true) (sym same) (sym (king_steps c k t) ∙ guarded) in
    false≢true (ap not (sym step) ∙ alone)

-- a mating king that ends apart isn't among the squares next to the other
pub apart_off : (q : Quest) (ends : Ends) (i w : ℕ) (g : Guard) → IsApart q ends → guard_at q.guards i ≡ g → i < q.count → same_kind g.kind King ≡ true
    → w ≡ word (λ t. list_any (leaps q.king t) queen_steps) → q.king < 64 → (end_at q ends i).square < 64
    → has g.kind (end_at q ends i).kind (end_at q ends i).square (record { unpromoted = w; queen = 0; knight = 0 }) ≡ false
apart_off q ends i w g apart is lt king h low small =
    let e = end_at q ends i in
    let off : guards q.colour King e.square q.king ≡ false = apart.apart i lt (ap (λ (x : Guard). same_kind x.kind King) is ∙ king) in
    king_part g.kind e.kind e.square w king
    (word_has (λ t. list_any (leaps q.king t) queen_steps) w e.square h small ∙ sym (king-back e.square q.king small low) ∙ sym (king_steps q.colour e.square q.king) ∙ off)
  where
    king_part : (k j : Kind) (t w : ℕ) → same_kind k King ≡ true → (bit_at w t == 1) ≡ false
        → has k j t (record { unpromoted = w; queen = 0; knight = 0 }) ≡ false
    king_part k j t w h off = subst (λ x. has x j t (record { unpromoted = w; queen = 0; knight = 0 }) ≡ false) (sym (same_kind-true k King h)) off

-- a man of a colour
pub man_of : (o : Option Man) (c : Colour) → is_of_colour o c ≡ true → (x : Man) × (o ≡ Some x) × (x.colour ≡ c)
man_of None c h = absurd (false≢true h)
man_of (Some x) c h = (x, refl, same_colour-true x.colour c h)

king_of : (o : Option Man) (c : Colour) → is_man o c King ≡ true → o ≡ Some (record { colour = c; kind = King })
king_of None c h = absurd (false≢true h)
king_of (Some x) c h =
    let parts = and_parts _ _ h in
    ap (λ k. Some (record { colour = k; kind = x.kind })) (same_colour-true x.colour c parts.0)
    ∙ ap (λ k. Some (record { colour = c; kind = k })) (same_kind-true x.kind King parts.1)

board_square : (men : List (Option Man)) (c : Colour) (s : ℕ) → length men ≡ 64 → is_of_colour (man_on men s) c ≡ true → s < 64
board_square men c s size h = grind (arith, cases_lt, get_or_past)

module _ (goal : Goal) (prey captured : ℕ) (p : Position) (q : Quest) (king : Guard) (ours theirs : ℕ) (ends : Ends)
    (plan : IsPlan goal q.ending.standing_checks q.ending.are_reborn p q.colour ours theirs q.king ends)
    (captures : Captures q.ending.are_reborn prey captured p q.colour ends) (of : IsQuestOf prey p q king ours theirs) where
  -- the other side's king
  king_stands : is_man (man_on p.men king.from) (other q.colour) King ≡ true
  unfolding king_square squares
  king_stands = (find_first (λ s. is_man (man_on p.men s) (other q.colour) King) 0 64 king.from of.stands).here

  king_gets : Gets q.ending.are_reborn (may_promote p) (may_capture q.ending.are_reborn p.men q.colour ends (other q.colour)) (other q.colour) (ends king.from).moves King king.from (ends king.from).kind (ends king.from).square
  king_gets = plan.gets king.from _ (king_of (man_on p.men king.from) (other q.colour) king_stands)

  -- no man makes more moves than its side
  spends_within : (c : Colour) (n s : ℕ) → price p.men c ends ≤ n → s < 64 → is_of_colour (man_on p.men s) c ≡ true → (ends s).moves ≤ n
  unfolding price squares
  spends_within c n s all small mine =
      let f : ℕ → ℕ = λ s. if is_of_colour (man_on p.men s) c then (ends s).moves else 0 in
      omega (arith, all, one_within f 0 64 s (omega arith) (omega (arith, small)), cond-true (is_of_colour (man_on p.men s) c) (ends s).moves 0 mine)

  king_colour : is_of_colour (man_on p.men king.from) (other q.colour) ≡ true
  king_colour = ap (λ o. is_of_colour o (other q.colour)) (king_of (man_on p.men king.from) (other q.colour) king_stands) ∙ same_as_itself (other q.colour)
    where
      same_as_itself : (c : Colour) → is_of_colour (Some (record { colour = c; kind = King })) c ≡ true
      same_as_itself c = grind arith

  king_within : (ends king.from).moves ≤ theirs
  king_within = spends_within (other q.colour) theirs king.from plan.theirs of.small king_colour

  -- the king isn't a blocker
  no_blocker : (s : ℕ) → is_blocker p.men (other q.colour) s ≡ true → king.from ≢ s
  no_blocker s blocker same =
      let none : is_blocker p.men (other q.colour) king.from ≡ false = grind (arith, king_stands) in
      false≢true (sym none ∙ ap (is_blocker p.men (other q.colour)) same ∙ blocker)

  -- the king's moves, and the moves of a captured man
  king_and_captured : (s : ℕ) → s < 64 → is_blocker p.men (other q.colour) s ≡ true → (ends king.from).moves + (ends s).moves ≤ theirs
  unfolding price squares
  king_and_captured s small blocker =
      let f : ℕ → ℕ = λ s. if is_of_colour (man_on p.men s) (other q.colour) then (ends s).moves else 0 in
      let mine = cond-true (is_of_colour (man_on p.men king.from) (other q.colour)) (ends king.from).moves 0 king_colour in
      let its = cond-true (is_of_colour (man_on p.men s) (other q.colour)) (ends s).moves 0 (and_parts (is_of_colour (man_on p.men s) (other q.colour)) _ blocker).0 in
      omega (arith, plan.theirs, two_within f king.from s of.small small (no_blocker s blocker), mine, its)

  -- what captured men don't need is enough for the king
  pub king_moves : (ends king.from).moves ≤ theirs - captured
  king_moves = elim (cases_lt 0 captured) [
    | inr none ↦ omega (arith, king_within, none)
    | inl some ↦ let s = captures.moves some in omega (arith, king_and_captured s.0 s.1 s.2, s.4)
  ]

  -- the king gets to his square
  pub king_arrives : has king.kind (ends king.from).kind (ends king.from).square (slice_index_or king.chain (ends king.from).moves nowhere) ≡ true
  king_arrives = subst (λ k. has k (ends king.from).kind (ends king.from).square (slice_index_or king.chain (ends king.from).moves nowhere) ≡ true) (sym of.kind)
      (of.way.gets (may_promote p) _ (ends king.from).moves (ends king.from).kind (ends king.from).square (every_on _) king_within of.usual king_gets)

  pub king_there : (w : Whereabouts) → ((k : Kind) → has k k q.king w ≡ true) → has king.kind (ends king.from).kind (ends king.from).square w ≡ true
  king_there w at =
      let stays : (ends king.from).kind ≡ King = (gets_be q.ending.are_reborn (may_promote p) _ (other q.colour) (ends king.from).moves King king.from _ _ of.usual king_gets).piece refl in
      subst (λ s. has king.kind (ends king.from).kind s w ≡ true) (sym (plan.king king.from king_stands))
      (subst (λ k. has king.kind k q.king w ≡ true) (of.kind ∙ sym stays) (at king.kind))

  guard_gets : (i : ℕ) → i < q.count
      → Gets q.ending.are_reborn (may_promote p) (may_capture q.ending.are_reborn p.men q.colour ends q.colour) q.colour (end_at q ends i).moves (guard_at q.guards i).kind (guard_at q.guards i).from (end_at q ends i).kind (end_at q ends i).square
  guard_gets i lt = plan.gets (guard_at q.guards i).from _ (of.guards.each i lt)

  all_moves : sum_by (λ i. (end_at q ends i).moves) (range_with_len 0 q.count) ≤ ours
  unfolding price
  all_moves = omega (arith, of.guards.sum (λ s. (ends s).moves), plan.ours)

  guard_moves : (i : ℕ) → i < q.count → (end_at q ends i).moves ≤ ours
  guard_moves i lt = omega (arith, all_moves, one_within (λ i. (end_at q ends i).moves) 0 q.count i (omega arith) (omega (arith, lt)))

  can_end : ours < 9 → (i : ℕ) → i < q.count → CanEnd (guard_at q.guards i) (end_at q ends i)
  can_end few i lt = record {
    gets = (of.guards.chains i lt).gets (may_promote p) _ (end_at q ends i).moves _ _ captures.on (guard_moves i lt) of.usual (guard_gets i lt);
    few = omega (arith, guard_moves i lt, few);
    be = gets_be q.ending.are_reborn (may_promote p) _ q.colour (end_at q ends i).moves _ _ _ _ of.usual (guard_gets i lt);
    small = gets_small q.ending.are_reborn (may_promote p) _ q.colour (end_at q ends i).moves _ _ _ _ (of.guards.small i lt) (guard_gets i lt);
    stands = λ none. gets_none q.ending.are_reborn (may_promote p) _ q.colour (end_at q ends i).moves _ _ _ _ none (guard_gets i lt);
  }

  stays_away : (i : ℕ) → i < q.count → StaysAway q.ending.are_reborn (guard_at q.guards i) (end_at q ends i)
  stays_away i lt = record {
    returns = λ mortal is. knight_back q.ending.are_reborn (may_promote p) _ q.colour (end_at q ends i).moves _ _ _ _ mortal (of.guards.small i lt) is (guard_gets i lt);
    advances = λ mortal is too. pawn_back q.ending.are_reborn (may_promote p) _ q.colour (end_at q ends i).moves _ _ _ _ mortal of.usual is too (guard_gets i lt);
  }

  blocker_moves : (s : ℕ) → s < 64 → is_blocker p.men (other q.colour) s ≡ true → (ends s).moves ≤ theirs
  blocker_moves s small blocker = spends_within (other q.colour) theirs s plan.theirs small (and_parts (is_of_colour (man_on p.men s) (other q.colour)) _ blocker).0

  -- who guards is a guard
  guard_does : (t : ℕ) → IsGuarded p.men q.colour ends q.king t → (i : ℕ) × (i < q.count) × DoesGuard q ends t i
  guard_does t g =
      let (i, lt, is) = of.guards.all g.by (board_square p.men q.colour g.by of.size g.ours) g.ours in
      (i, lt, subst (λ s. ((ends s).square ≢ q.king) × (guards q.colour (ends s).kind (ends s).square t ≡ true)) (sym is) (g.off, g.guards))

  -- who defends its square is a guard
  defender_does : (t : ℕ) → IsDefended q.ending.are_reborn p.men q.colour ends t → (i : ℕ) × (i < q.count) × DoesDefend q ends t i
  defender_does t d =
      let (i, lt, is) = of.guards.all d.by (board_square p.men q.colour d.by of.size d.ours) d.ours in (
        i,
        lt,
        record {
          lives = d.lives;
          there = subst (λ s. (ends s).square ≡ t) (sym is) d.there;
          home = d.home;
          rebirth = subst (λ s. rebirth q.colour (ends s).kind t ≡ Some d.home) (sym is) d.rebirth;
          off = d.off;
          guards = subst (λ s. guards q.colour (ends s).kind d.home t ≡ true) (sym is) d.guards;
        },
      )

  -- who blocks is a blocker
  blocker_does : (t : ℕ) → q.king ≢ t → IsBlocked p.men (other q.colour) ends t
      → (s : ℕ) × (s < 64) × (is_blocker p.men (other q.colour) s ≡ true) × ((ends s).square ≡ t) × ((ends s).taken ≡ false)
  blocker_does t off b =
      let none : is_man (man_on p.men b.by) (other q.colour) King ≡ false = elim (cases_Bool (is_man (man_on p.men b.by) (other q.colour) King)) [
        | inr no_king ↦ no_king
        | inl is ↦ absurd (off (sym (plan.king b.by is) ∙ b.there))
      ] in
      (b.by, board_square p.men (other q.colour) b.by of.size b.theirs, and_from _ _ b.theirs (ap not none), b.there, b.stays)

  held : q.king < 64 → (t : ℕ) → guards White King q.king t ≡ true → IsHeld q p.men ends t
  held low t near = elim (plan.around t (king_steps (other q.colour) q.king t ∙ sym (king_steps White q.king t) ∙ near)) [
    | inl guarded ↦ let g = guard_does t guarded in inl (g.0, g.1, inl g.2)
    | inr other ↦ elim other [
      | inl defended ↦ let d = defender_does t defended in inl (d.0, d.1, inr d.2)
      | inr blocked ↦ inr (blocker_does t (off_himself White q.king t low near) blocked)
    ]
  ]

  -- in mate a guard checks
  pub guard_checks : goal ≡ Mate → (i : ℕ) × (i < q.count) × DoesCheck q ends i
  guard_checks mate =
      let g = plan.check mate in
      let (i, lt, is) = of.guards.all g.guarded.by (board_square p.men q.colour g.guarded.by of.size g.guarded.ours) g.guarded.ours in (
        i,
        lt,
        subst (λ s. (((ends s).square ≢ q.king) × (guards q.colour (ends s).kind (ends s).square q.king ≡ true))
            × Arrives q.ending.standing_checks (ends s)) (sym is) ((g.guarded.off, g.guarded.guards), g.arrives),
      )

  -- mating men end apart
  pub ends_apart : IsApart q ends
  ends_apart = record {
    apart = λ i lt king_kind. plan.apart (guard_at q.guards i).from (ap (λ o. is_man o q.colour King) (of.guards.each i lt) ∙ is_king q.colour (guard_at q.guards i).kind king_kind);
  }
    where
      is_king : (c : Colour) (k : Kind) → same_kind k King ≡ true → is_man (Some (record { colour = c; kind = k })) c King ≡ true
      is_king c k h = grind (arith, h)

  -- what the men of the king's side spend, and what blockers do on squares of w
  spends : ℕ → ℕ
  spends s = if is_of_colour (man_on p.men s) (other q.colour) then (ends s).moves else 0

  blocks : ℕ → ℕ → ℕ
  blocks w s = if blocks_in q p.men ends w s then (ends s).moves else 0

  less : (w s : ℕ) → blocks w s ≤ spends s
  unfolding blocks spends
  less w s = elim (cases_Bool (blocks_in q p.men ends w s)) [
    | inr off ↦ omega (arith, cond-false (blocks_in q p.men ends w s) (ends s).moves 0 off)
    | inl on ↦ omega (
      arith,
      cond-true (blocks_in q p.men ends w s) (ends s).moves 0 on,
      cond-true (is_of_colour (man_on p.men s) (other q.colour)) (ends s).moves 0
          (and_parts (is_of_colour (man_on p.men s) (other q.colour)) _ (and_parts (is_blocker p.men (other q.colour) s) _ (and_parts _ _ on).0).0).0,
    )
  ]

  here : (w steps : ℕ) → steps ≤ (ends king.from).moves → blocks w king.from + steps ≤ spends king.from
  unfolding blocks spends
  here w steps cheap =
      let mine = cond-true (is_of_colour (man_on p.men king.from) (other q.colour)) (ends king.from).moves 0 king_colour in
      let none : is_blocker p.men (other q.colour) king.from ≡ false = grind (arith, king_stands) in
      let off = cond-false (blocks_in q p.men ends w king.from) (ends king.from).moves 0 (and_left _ _ (and_left _ _ none)) in
      omega (arith, mine, off, cheap)

  taken_off : (w s : ℕ) → is_blocker p.men (other q.colour) s ≡ true → (ends s).taken ≡ true → captured ≤ (ends s).moves → blocks w s + captured ≤ spends s
  unfolding blocks spends
  taken_off w s blocker taken most =
      let mine = cond-true (is_of_colour (man_on p.men s) (other q.colour)) (ends s).moves 0 (and_parts (is_of_colour (man_on p.men s) (other q.colour)) _ blocker).0 in
      let off = cond-false (blocks_in q p.men ends w s) (ends s).moves 0 (and_left _ _ (and_right (is_blocker p.men (other q.colour) s) _ (ap not taken))) in
      omega (arith, mine, off, most)

  -- blockers, the king and a captured man
  blocking : (w steps : ℕ) → steps ≤ (ends king.from).moves → blocked q p.men ends w ≤ theirs - captured - steps
  unfolding price blocked blocks spends squares
  blocking w steps cheap = elim (cases_lt 0 captured) [
    | inr none ↦ omega (
      arith,
      none,
      plan.theirs,
      sum_less spends (blocks w) 0 64 king.from steps (omega arith) (omega (arith, of.small)) (λ s lt. less w s) (here w steps cheap),
    )
    | inl some ↦
        let m = captures.moves some in
        omega (
          arith,
          plan.theirs,
          sum_less_twice spends (blocks w) king.from m.0 steps captured of.small m.1 (no_blocker m.0 m.2) (less w) (here w steps cheap)
              (taken_off w m.0 m.2 m.3 m.4),
        )
  ]

  -- all that the search keeps holds at its beginning
  pub plan_holds : (posts : List Post) (w steps : ℕ) → ours < 9 → q.king < 64
      → ((i : ℕ) → i < q.count → post_at posts i ≡ record { squares = slice_index_or (guard_at q.guards i).chain ours nowhere; moves = 0 })
      → ((t : ℕ) → t < 64 → (bit_at w t == 1) ≡ true → guards White King q.king t ≡ true)
      → steps ≤ (ends king.from).moves → Holds q p.men posts w ours (theirs - captured - steps) ends
  unfolding unpaid squares
  plan_holds posts w steps few low first needs cheap = record {
    guards = can_end few;
    away = stays_away;
    blockers = λ s small blocker.
        let (x, is, colour) = man_of (man_on p.men s) (other q.colour) (and_parts (is_of_colour (man_on p.men s) (other q.colour)) _ blocker).0 in
        of.blocks.gets s x (ends s).moves (ends s).kind (ends s).square small is blocker (blocker_moves s small blocker) _ (plan.gets s x is);
    few = λ s small blocker. omega (arith, blocker_moves s small blocker, of.few);
    inside = λ i lt. subst (λ x. IsIn (guard_at q.guards i) x (end_at q ends i)) (sym (first i lt)) (record {
      on = (of.guards.chains i lt).grows (end_at q ends i).moves ours _ _ (guard_moves i lt) (omega arith) (can_end few i lt).small (can_end few i lt).gets;
      paid = omega arith;
    });
    paid = omega (arith, all_moves, sum_within (λ i. (end_at q ends i).moves) (λ i. (end_at q ends i).moves - (post_at posts i).moves) 0 q.count (λ i lt. omega arith));
    blocking = blocking w steps cheap;
    holds = λ t small on. held low t (needs t small on);
  }

-- guards for fewer moves
guards_less : (rb : Bool) (prey : ℕ) (men : List (Option Man)) (c : Colour) (m n : ℕ) (gs : List Guard) (count : ℕ) → AreGuards rb prey men c m gs count → n ≤ m
    → AreGuards rb prey men c n gs count
guards_less rb prey men c m n gs count h le = record {
  few = h.few;
  each = h.each;
  small = h.small;
  chains = λ i lt. chain_less rb prey _ _ m n _ (h.chains i lt) le;
  all = h.all;
  sum = h.sum;
}

-- the square is one of its own bitboard
pub bit_here : (i s : ℕ) → i ≡ s → s < 64 → (bit_at (1 * 2 ^ i % 2 ^ 64) s == 1) ≡ true
bit_here i s same small = subst (λ n. (bit_at (1 * 2 ^ n % 2 ^ 64) s == 1) ≡ true) (sym same)
    (word_has (λ t. is_square (Some s) t) (1 * 2 ^ s % 2 ^ 64) s (word_only s small) small ∙ eq-eqb s s refl)

-- the king of a plan gets to his square
pub king_near : (goal : Goal) (sc rb : Bool) (p : Position) (c d : Colour) (ours theirs k from : ℕ) (ends : Ends) (chain : List Whereabouts) → d ≡ other c
    → IsPlan goal sc rb p c ours theirs k ends → king_square p.men d ≡ Some from → from < 64 → IsUsual (may_promote p)
    → IsChain rb (2 ^ 64 - 1) (record { colour = d; kind = King }) from theirs chain → k < 64 → (bit_at (slice_index_or chain theirs nowhere).unpromoted k == 1) ≡ true
unfolding king_square squares price
king_near goal sc rb p c d ours theirs k from ends chain enemy plan stands small usual way low =
    let here : is_man (man_on p.men from) d King ≡ true = (find_first (λ s. is_man (man_on p.men s) d King) 0 64 from stands).here in
    let man : man_on p.men from ≡ Some (record { colour = d; kind = King }) = king_of (man_on p.men from) d here in
    let f : ℕ → ℕ = λ s. if is_of_colour (man_on p.men s) (other c) then (ends s).moves else 0 in
    let colour : is_of_colour (man_on p.men from) (other c) ≡ true = subst (λ x. is_of_colour (man_on p.men from) x ≡ true) enemy (ap (λ o. is_of_colour o d) man ∙ own_colour d) in
    let few : (ends from).moves ≤ theirs = omega (
      arith,
      plan.theirs,
      one_within f 0 64 from (omega arith) (omega (arith, small)),
      cond-true (is_of_colour (man_on p.men from) (other c)) (ends from).moves 0 colour,
    ) in
    let gets = plan.gets from _ man in
    let had : has King (ends from).kind (ends from).square (slice_index_or chain theirs nowhere) ≡ true =
    way.grows (ends from).moves theirs (ends from).kind (ends from).square few (omega arith)
    (gets_small rb (may_promote p) _ d (ends from).moves King from _ _ small gets) (way.gets (may_promote p) _ (ends from).moves _ _ (every_on _) few usual gets) in
    subst (λ s. (bit_at (slice_index_or chain theirs nowhere).unpromoted s == 1) ≡ true)
    (plan.king from (subst (λ x. is_man (man_on p.men from) x King ≡ true) enemy here)) had
  where
    own_colour : (x : Colour) → is_of_colour (Some (record { colour = x; kind = King })) x ≡ true
    own_colour x = grind arith

-- if no kind is found, the test holds of none
none_holds : (test : Kind → Bool) → find test kinds ≡ None → (k : Kind) → test k ≡ true → ⊥
none_holds test e k h = grind arith

-- where each promotion is followed, pawns promote as usual
pub usual_promotion : (p : Position) (found : Bool) → found ≡ is_some (find (may_promote_to_unfollowed p) kinds) → found ≡ false → IsUsual (may_promote p)
usual_promotion p found e none = record { king = refl; pawn = refl; followed = followed }
  where
    nowhere_found : (o : Option Kind) → is_some o ≡ false → o ≡ None
    nowhere_found None h = refl
    nowhere_found (Some k) h = absurd (false≢true (sym h))

    followed : (k : Kind) → is_unfollowed k ≡ true → may_promote p k ≡ false
    followed k unfollowed = false_from_ne_true (may_promote p k)
        (λ may. none_holds (may_promote_to_unfollowed p) (nowhere_found _ (sym e ∙ none)) k (and_from _ _ unfollowed may))

-- the quest of a position, before its guards are listed
pub quest_begun : (p : Position) (c d : Colour) (theirs count : ℕ) (gs : List Guard) (ws : List ℕ) (ending : Ending) (from at : ℕ) (king : Guard) → d ≡ other c
    → length p.men ≡ 64 → theirs < 9 → IsUsual (may_promote p)
    → ((allowed : Kind → Bool) → IsUsual allowed → AreBlocks ending.are_reborn allowed p.men d theirs ws)
    → king.kind ≡ King → king.from ≡ from → king_square p.men d ≡ Some from → from < 64
    → IsChain ending.are_reborn (2 ^ 64 - 1) (record { colour = d; kind = King }) from theirs king.chain
    → IsBegun p (record { ending = ending; colour = c; king = at; count = count; guards = gs; blockable = ws }) king theirs
quest_begun p c d theirs count gs ws ending from at king enemy size few usual blocks kind is stands small way = record {
  size = size;
  few = few;
  blocks = subst (λ x. AreBlocks ending.are_reborn (may_promote p) p.men x theirs ws) enemy (blocks (may_promote p) usual);
  usual = usual;
  kind = kind;
  stands = subst (λ x. king_square p.men x ≡ Some king.from) enemy (stands ∙ ap Some (sym is));
  small = subst (λ s. s < 64) (sym is) small;
  way = subst (λ x. IsChain ending.are_reborn (2 ^ 64 - 1) (record { colour = x; kind = King }) king.from theirs king.chain) enemy
      (subst (λ s. IsChain ending.are_reborn (2 ^ 64 - 1) (record { colour = d; kind = King }) s theirs king.chain) (sym is) way);
}

-- the quest with its guards
pub quest_with : (prey : ℕ) (p : Position) (q r : Quest) (king : Guard) (ours theirs m : ℕ) → r.ending ≡ q.ending → r.colour ≡ q.colour → r.blockable ≡ q.blockable
    → IsBegun p q king theirs → AreGuards q.ending.are_reborn prey p.men q.colour m r.guards r.count → ours ≤ m → IsQuestOf prey p r king ours theirs
quest_with prey p q r king ours theirs m ending colour blockable begun guards le =
    let reborn : r.ending.are_reborn ≡ q.ending.are_reborn = ap (λ (e : Ending). e.are_reborn) ending in
    record {
      size = begun.size;
      few = begun.few;
      guards = subst (λ b. AreGuards b prey p.men r.colour ours r.guards r.count) (sym reborn)
          (subst (λ x. AreGuards q.ending.are_reborn prey p.men x ours r.guards r.count) (sym colour)
          (guards_less q.ending.are_reborn prey p.men q.colour m ours r.guards r.count guards le));
      blocks = subst (λ b. AreBlocks b (may_promote p) p.men (other r.colour) theirs r.blockable) (sym reborn)
          (subst (λ x. AreBlocks q.ending.are_reborn (may_promote p) p.men (other x) theirs r.blockable) (sym colour)
          (subst (AreBlocks q.ending.are_reborn (may_promote p) p.men (other q.colour) theirs) (sym blockable) begun.blocks));
      usual = begun.usual;
      kind = begun.kind;
      stands = subst (λ x. king_square p.men (other x) ≡ Some king.from) (sym colour) begun.stands;
      small = begun.small;
      way = subst (λ b. IsChain b (2 ^ 64 - 1) (record { colour = other r.colour; kind = King }) king.from theirs king.chain) (sym reborn)
          (subst (λ x. IsChain q.ending.are_reborn (2 ^ 64 - 1) (record { colour = other x; kind = King }) king.from theirs king.chain) (sym colour) begun.way);
    }

pub plan_again : (p : Position) (c d : Colour) (e f : Ending) (ours theirs k : ℕ) (ends : Ends) → d ≡ c → f ≡ e → IsPlan e.goal e.standing_checks e.are_reborn p c ours theirs k ends
    → IsPlan f.goal f.standing_checks f.are_reborn p d ours theirs k ends
plan_again p c d e f ours theirs k ends same ending plan =
    subst (λ (x : Ending). IsPlan x.goal x.standing_checks x.are_reborn p d ours theirs k ends) (sym ending)
    (subst (λ x. IsPlan e.goal e.standing_checks e.are_reborn p x ours theirs k ends) (sym same) plan)

-- the squares of an empty bitboard
pub none_near : (a b k : ℕ) → bit_and a b ≡ 0 → (bit_at a k == 1) ≡ true → (bit_at b k == 1) ≡ true → ⊥
none_near a b k empty on too =
    false≢true (sym (off_zero k) ∙ ap (λ w. bit_at w k == 1) (sym empty) ∙ on_both a b k on too)

pub both_near : (a b k : ℕ) → (bit_at a k == 1) ≡ true → (bit_at b k == 1) ≡ true → (bit_at (bit_and a b) k == 1) ≡ true
both_near a b k on too = on_both a b k on too
