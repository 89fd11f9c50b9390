-- The squares on which a pawn captures, and the men that go there in order to be captured.
use Rattle.chess_reach.proofs.Chess.{Black, Bool, Colour, zero, suc, ◌||◌, cond-true, if◌then◌else◌, price, squares, Ends, Gets, IsPlan, List, Man, Position, White, and_from, and_parts, ap, arith, cases_Bool, captures_to, eqb-true, false, false≢true, inl, inr, is_ahead, rank_of, is_of_colour, is_prey, man_on, may_capture, may_promote, not, or_cases, other, refl, same_colour, same_colour-refl, some_square, subst, sym, true, ℕ, ◌%◌, ◌&&◌, ◌*◌, ◌+◌, ◌-◌, ◌/◌, ◌<◌, ◌==◌, ◌^◌, ◌∙◌, ◌≡◌, ◌≤◌, ◌⊎◌}
use Rattle.std.specs.Int.{bit_at}
use Rattle.chess_core.specs.Squares.{file_of}
use Rattle.std.specs.Int.{bit_not}
use Rattle.std.specs.Prelude.{bit_and, bit_or, slice_index_or}
use Rattle.chess_attacks.proofs.Basics.{w64}
use Rattle.chess_attacks.proofs.Bits.{off_zero, on_left, on_right}
use Rattle.chess_reach.proofs.Bitboards.{denied_on}
use Rattle.chess_reach.proofs.Holding.{one_within}
use Rattle.chess_attacks.proofs.Tests.{any_range_cases}
use Rattle.chess_reach.proofs.Getting.{every_on, gets_small}
use Rattle.chess_reach.proofs.Returning.{starts_there}
use Rattle.chess_reach.proofs.OneMove.{meeting}
use Rattle.chess_reach.proofs.Planning.{man_of}
use Rattle.chess_reach.proofs.Shifts.{bit_down, bit_up}
use Rattle.chess_reach.specs.ties.Guards.{AreBlocks, is_blocker}
use Rattle.chess_reach.specs.ties.Hold.{Captures, IsQuestOf}
use Rattle.chess_reach.specs.declared.guards.Guard.{Guard}
use Rattle.chess_reach.specs.declared.hold.Quest.{Quest}
use Rattle.chess_reach.specs.ties.Ways.{IsUsual, TakesOn}
use Rattle.pop_stipulation.specs.declared.stipulation.Goal.{Goal}

-- the squares of men, and those one rank down
pub prey_down : (c : Colour) (w s t : ℕ) → c ≡ Black → s < 64 → t < 64 → (bit_at w s == 1) ≡ true → captures_to c s t ≡ true
    → (bit_at (bit_or w (w / 256)) t == 1) ≡ true
prey_down c w s t black small low on to = elim (or_cases (s == t) (is_ahead Black s t) (subst (λ d. captures_to d s t ≡ true) black to)) [
  | inl same ↦ on_left w _ t (subst (λ k. (bit_at w k == 1) ≡ true) (eqb-true s t same) on)
  | inr ahead ↦
      let parts = and_parts (file_of s == file_of t) (rank_of s == rank_of t + 1) ahead in
      let is : s ≡ 8 + t = omega (arith, eqb-true (file_of s) (file_of t) parts.0, eqb-true (rank_of s) (rank_of t + 1) parts.1) in
      on_right w _ t (ap (λ b. b == 1) (bit_down w 8 t ∙ ap (bit_at w) (sym is)) ∙ on)
]

-- and one rank up
pub prey_up : (c : Colour) (w s t : ℕ) → c ≡ White → s < 64 → t < 64 → (bit_at w s == 1) ≡ true → captures_to c s t ≡ true
    → (bit_at (bit_or w (w * 256 % 2 ^ 64)) t == 1) ≡ true
prey_up c w s t white small low on to = elim (or_cases (s == t) (is_ahead White s t) (subst (λ d. captures_to d s t ≡ true) white to)) [
  | inl same ↦ on_left w _ t (subst (λ k. (bit_at w k == 1) ≡ true) (eqb-true s t same) on)
  | inr ahead ↦
      let parts = and_parts (file_of s == file_of t) (rank_of t == rank_of s + 1) ahead in
      let is : t ≡ s + 8 = omega (arith, eqb-true (file_of s) (file_of t) parts.0, eqb-true (rank_of t) (rank_of s + 1) parts.1) in
      let back : t - 8 ≡ s = omega (arith, is) in
      on_right w _ t (ap (λ b. b == 1) (bit_up w 8 t (omega (arith, is)) low ∙ ap (bit_at w) back) ∙ on)
]

-- without moves of captured men there is no condition
pub free_captures : (rb : Bool) (prey : ℕ) (p : Position) (c : Colour) (ends : Ends) → TakesOn (may_capture rb p.men c ends c) prey → Captures rb prey 0 p c ends
free_captures rb prey p c ends on = record { on = on; moves = λ some. absurd (omega (arith, some)) }

-- the quest for another square
pub quest_at : (prey : ℕ) (p : Position) (q r : Quest) (king : Guard) (ours theirs k : ℕ) → r ≡ record q { king = k } → IsQuestOf prey p q king ours theirs
    → IsQuestOf prey p r king ours theirs
quest_at prey p q r king ours theirs k same of = subst (λ x. IsQuestOf prey p x king ours theirs) (sym same) (record {
  size = of.size;
  few = of.few;
  guards = of.guards;
  blocks = of.blocks;
  usual = of.usual;
  kind = of.kind;
  stands = of.stands;
  small = of.small;
  way = of.way;
})

module _ (goal : Goal) (sc rb : Bool) (p : Position) (c : Colour) (ours theirs k : ℕ) (ends : Ends) (plan : IsPlan goal sc rb p c ours theirs k ends) (prey lures : ℕ) (ws : List ℕ)
    (few : theirs < 9) (usual : IsUsual (may_promote p)) (blocks : AreBlocks rb (may_promote p) p.men (other c) theirs ws)
    (every : rb ≡ true → prey ≡ 2 ^ 64 - 1)
    (has : (s t : ℕ) → s < 64 → t < 64 → is_blocker p.men (other c) s ≡ true → captures_to c s t ≡ true → (bit_at prey t == 1) ≡ true)
    (holds : (n s t : ℕ) → n < 9 → s < 64 → t < 64 → (bit_at (slice_index_or ws n 0) s == 1) ≡ true → captures_to c s t ≡ true → (bit_at lures t == 1) ≡ true) where
  -- a man that is captured elsewhere has moved
  moved : (s t : ℕ) → s < 64 → t < 64 → is_blocker p.men (other c) s ≡ true → captures_to c (ends s).square t ≡ true → (bit_at prey t == 1) ≡ false
      → rb ≡ false → (z : Man) (n : ℕ) → (ends s).moves ≡ n
      → Gets rb (may_promote p) (may_capture rb p.men c ends z.colour) z.colour (ends s).moves z.kind s (ends s).kind (ends s).square → 0 < (ends s).moves
  unfolding Gets
  moved s t small low blocker to off mortal z zero none way =
      let stays = subst (λ m. Gets rb (may_promote p) (may_capture rb p.men c ends z.colour) z.colour m z.kind s (ends s).kind (ends s).square) none way in
      absurd (false≢true (sym off ∙ has s t small low blocker (subst (λ q. captures_to c q t ≡ true) (sym (starts_there rb z.colour z.kind s (ends s).square mortal stays.1)) to)))
  moved s t small low blocker to off mortal z (suc n) some way = omega (arith, some)

  lured : (s t : ℕ) → s < 64 → t < 64 → is_blocker p.men (other c) s ≡ true → captures_to c (ends s).square t ≡ true → (bit_at prey t == 1) ≡ false → rb ≡ false → 0 < (ends s).moves
  lured s t small low blocker to off mortal =
      let z = man_of (man_on p.men s) (other c) (and_parts (is_of_colour (man_on p.men s) (other c)) _ blocker).0 in
      moved s t small low blocker to off mortal z.0 (ends s).moves refl (plan.gets s z.0 z.1)

  -- no man makes more moves than its side
  moves_within : (s : ℕ) → s < 64 → is_blocker p.men (other c) s ≡ true → (ends s).moves ≤ theirs
  unfolding price squares
  moves_within s small blocker =
      let f : ℕ → ℕ = λ s. if is_of_colour (man_on p.men s) (other c) then (ends s).moves else 0 in
      omega (
        arith,
        plan.theirs,
        one_within f 0 64 s (omega arith) (omega (arith, small)),
        cond-true (is_of_colour (man_on p.men s) (other c)) (ends s).moves 0 (and_parts (is_of_colour (man_on p.men s) (other c)) _ blocker).0,
      )

  -- where a man gets, it may be captured
  lure_there : (s t : ℕ) → s < 64 → t < 64 → is_blocker p.men (other c) s ≡ true → captures_to c (ends s).square t ≡ true → (bit_at lures t == 1) ≡ true
  lure_there s t small low blocker to =
      let z = man_of (man_on p.men s) (other c) (and_parts (is_of_colour (man_on p.men s) (other c)) _ blocker).0 in
      let most = moves_within s small blocker in
      let way = plan.gets s z.0 z.1 in
      holds (ends s).moves (ends s).square t (omega (arith, most, few)) (gets_small rb (may_promote p) _ _ (ends s).moves _ s _ _ small way) low
      (blocks.gets s z.0 (ends s).moves (ends s).kind (ends s).square small z.1 blocker most _ way) to

  is_off : (b : Bool) → not b ≡ true → b ≡ false
  is_off b h = grind (arith, h)

  or_second : (a b : Bool) → a ≡ false → (a || b) ≡ true → b ≡ true
  or_second a b off h = grind (arith, off, h)

  second : (a b : Bool) → a ≡ true → (not a || b) ≡ true → b ≡ true
  second a b on h = grind (arith, on, h)

  -- who is captured where a pawn may capture
  record Captured (t : ℕ) : Type 0 where
    by : ℕ
    small : by < 64
    blocker : is_blocker p.men (other c) by ≡ true
    taken : (ends by).taken ≡ true
    to : captures_to c (ends by).square t ≡ true

  captured : (t : ℕ) → rb ≡ false → may_capture rb p.men c ends c t ≡ true → Captured t
  unfolding may_capture
  captured t mortal may =
      let prey_there = or_second rb _ mortal may in
      let some = second (same_colour c c) (some_square (is_prey p.men c ends t)) (same_colour-refl c) prey_there in
      let s = meeting _ some in
      let parts = and_parts (is_blocker p.men (other c) s.0) _ s.2 in
      let taken = and_parts (ends s.0).taken _ parts.1 in
      record { by = s.0; small = s.1; blocker = parts.0; taken = taken.0; to = taken.1 }

  -- the same where nobody is reborn
  mortal_cases : rb ≡ false → TakesOn (may_capture rb p.men c ends c) prey ⊎ Captures rb lures 1 p c ends
  mortal_cases mortal = elim (any_range_cases (λ t. may_capture rb p.men c ends c t && not (bit_at prey t == 1)) 0 64) [
    | inr none ↦ inl (λ t low on. elim (cases_Bool (bit_at prey t == 1)) [
      | inl here ↦ here
      | inr off ↦ absurd (false≢true (sym (none t (omega arith) (omega (arith, low))) ∙ and_from _ _ on (ap not off)))
    ])
    | inl w ↦
        let both = and_parts (may_capture rb p.men c ends c w.0) _ w.3 in
        let off : (bit_at prey w.0 == 1) ≡ false = is_off (bit_at prey w.0 == 1) both.1 in
        let s = captured w.0 mortal both.0 in
        inr (record {
          on = λ t low may. let r = captured t mortal may in lure_there r.by t r.small low r.blocker r.to;
          moves = λ more. (s.by, s.small, s.blocker, s.taken, lured s.by w.0 s.small (omega (arith, w.2)) s.blocker s.to off mortal);
        })
  ]

  -- guards capture on the prey alone, or some man goes somewhere in order to be captured
  pub capture_cases : TakesOn (may_capture rb p.men c ends c) prey ⊎ Captures rb lures 1 p c ends
  capture_cases = elim (cases_Bool rb) [
    | inl lives ↦ inl (subst (TakesOn (may_capture rb p.men c ends c)) (sym (every lives)) (every_on _))
    | inr mortal ↦ mortal_cases mortal
  ]

  -- whoever goes somewhere in order to be captured needs a move
  pub lured_moves : Captures rb lures 1 p c ends → 0 < theirs
  lured_moves captures = let s = captures.moves (omega arith) in omega (arith, moves_within s.0 s.1 s.2, s.4)

  -- where nobody can be lured, or all squares are found, the plan was found
  pub found_without : (near planned : ℕ) → planned < 2 ^ 64 → k < 64 → (bit_at near k == 1) ≡ true
      → (theirs ≡ 0) ⊎ ((lures ≡ prey) ⊎ (bit_and near (bit_not w64 planned) ≡ 0))
      → (Captures rb prey 0 p c ends → (bit_at planned k == 1) ≡ true) → (bit_at planned k == 1) ≡ true
  found_without near planned fits low on none found = elim capture_cases [
    | inl free ↦ found (free_captures rb prey p c ends free)
    | inr lured ↦ elim none [
      | inl still ↦ absurd (let more = lured_moves lured in omega (arith, still, more))
      | inr rest ↦ elim rest [
        | inl same ↦ found (free_captures rb prey p c ends (subst (TakesOn (may_capture rb p.men c ends c)) same lured.on))
        | inr all ↦ elim (cases_Bool (bit_at planned k == 1)) [
          | inl here ↦ here
          | inr off ↦ absurd (false≢true (sym (off_zero k) ∙ ap (λ w. bit_at w k == 1) (sym all) ∙ denied_on near planned k fits low on off))
        ]
      ]
    ]
  ]

  -- otherwise one of two searches finds it
  pub found_with : (near planned more : ℕ) → planned < 2 ^ 64 → k < 64 → (bit_at near k == 1) ≡ true
      → (Captures rb prey 0 p c ends → (bit_at planned k == 1) ≡ true)
      → (Captures rb lures 1 p c ends → (bit_at (bit_and near (bit_not w64 planned)) k == 1) ≡ true → (bit_at more k == 1) ≡ true)
      → (bit_at (bit_or planned more) k == 1) ≡ true
  found_with near planned more fits low on found lure = elim (cases_Bool (bit_at planned k == 1)) [
    | inl here ↦ on_left planned more k here
    | inr off ↦ elim capture_cases [
      | inl free ↦ on_left planned more k (found (free_captures rb prey p c ends free))
      | inr lured ↦ on_right planned more k (lure lured (denied_on near planned k fits low on off))
    ]
  ]
