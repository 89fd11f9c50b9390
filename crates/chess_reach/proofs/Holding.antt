-- What the search for a plan keeps.
use Rattle.chess_attacks.proofs.Chess.{Bool, eq-eqb, List, Man, Option, not, and_from, and_right, ap, arith, bit_at, cases_Bool, cases_eq, cond-false, cond-true, false, inl, inr, length, other, range_with_len, refl, subst, suc, sym, true, zero, ℕ, ◌&&◌, ◌+◌, ◌-◌, ◌<◌, ◌==◌, ◌∙◌, ◌≡◌, ◌≢◌, ◌≤◌, if◌then◌else◌}
unfoldable use Rattle.chess_attacks.proofs.Chess.{squares}
use Rattle.std.proofs.Common.{slice_set}
use Rattle.chess_rules.proofs.Chess.{ne_eqb}
use Rattle.std.specs.List.{sum_by}
use Rattle.std.proofs.lemmas.List.{get_or-set_other, get_or-set_same}
use Rattle.std.proofs.lemmas.List.Sums.{sum_by-cons}
use Rattle.chess_reach.specs.Plans.{Ends}
use Rattle.chess_reach.specs.declared.hold.Post.{Post}
use Rattle.chess_reach.specs.declared.hold.Quest.{Quest}
use Rattle.chess_reach.specs.ties.Guards.{guard_at, is_blocker}
use Rattle.chess_reach.specs.ties.Hold.{Holds, IsIn, blocks_in, end_at, post_at}
unfoldable use Rattle.chess_reach.specs.ties.Hold.{blocked, unpaid}
use Rattle.chess_reach.specs.ties.Ways.{nowhere}

-- where no number has more, the sum isn't more
pub sum_within : (f g : ℕ → ℕ) (a n : ℕ) → ((j : ℕ) → j < a + n → g j ≤ f j) → sum_by g (range_with_len a n) ≤ sum_by f (range_with_len a n)
sum_within f g a zero each = omega arith
sum_within f g a (suc n) each =
    omega (
      arith,
      sum_by-cons f a (range_with_len (a + 1) n),
      sum_by-cons g a (range_with_len (a + 1) n),
      each a (omega arith),
      sum_within f g (a + 1) n (λ j lt. each j (omega (arith, lt))),
    )

-- where one has less by d, the sum is less by d
pub sum_less : (f g : ℕ → ℕ) (a n i d : ℕ) → a ≤ i → i < a + n → ((j : ℕ) → j < a + n → g j ≤ f j) → g i + d ≤ f i
    → sum_by g (range_with_len a n) + d ≤ sum_by f (range_with_len a n)
sum_less f g a zero i d low high each here = absurd (omega (arith, low, high))
sum_less f g a (suc n) i d low high each here = elim (cases_eq i a) [
  | inl same ↦ omega (
    arith,
    sum_by-cons f a (range_with_len (a + 1) n),
    sum_by-cons g a (range_with_len (a + 1) n),
    subst (λ j. g j + d ≤ f j) same here,
    sum_within f g (a + 1) n (λ j lt. each j (omega (arith, lt))),
  )
  | inr off ↦ omega (
    arith,
    sum_by-cons f a (range_with_len (a + 1) n),
    sum_by-cons g a (range_with_len (a + 1) n),
    each a (omega arith),
    sum_less f g (a + 1) n i d (omega (arith, low, off)) (omega (arith, high)) (λ j lt. each j (omega (arith, lt))) here,
  )
]

-- where two have less, the sum is less by both
pub sum_less_twice : (f g : ℕ → ℕ) (i j x y : ℕ) → i < 64 → j < 64 → i ≢ j → ((s : ℕ) → g s ≤ f s) → g i + x ≤ f i → g j + y ≤ f j
    → sum_by g (range_with_len 0 64) + x + y ≤ sum_by f (range_with_len 0 64)
sum_less_twice f g i j x y low small apart each first second =
    omega (
      arith,
      sum_less between g 0 64 i x (omega arith) (omega (arith, low)) (λ s lt. grown s) (omega (arith, first, at_first)),
      sum_less f between 0 64 j y (omega arith) (omega (arith, small)) (λ s lt. growing s) (omega (arith, second, at_second)),
    )
  where
    between : ℕ → ℕ
    between s = if s == i then f i else g s

    at_first : between i ≡ f i
    at_first = cond-true (i == i) _ _ (eq-eqb i i refl)

    at_second : between j ≡ g j
    at_second = cond-false (j == i) _ _ (ne_eqb j i (λ same. apart (sym same)))

    grown : (s : ℕ) → g s ≤ between s
    grown s = elim (cases_eq s i) [
      | inl same ↦ omega (arith, subst (λ k. g k ≤ f k) (sym same) (each i), cond-true (s == i) (f i) (g s) (eq-eqb s i same), ap f same, each s)
      | inr off ↦ omega (arith, cond-false (s == i) (f i) (g s) (ne_eqb s i off))
    ]

    growing : (s : ℕ) → between s ≤ f s
    growing s = elim (cases_eq s i) [
      | inl same ↦ omega (arith, cond-true (s == i) (f i) (g s) (eq-eqb s i same), ap f same)
      | inr off ↦ omega (arith, cond-false (s == i) (f i) (g s) (ne_eqb s i off), each s)
    ]

-- two numbers are at most the sum
pub two_within : (f : ℕ → ℕ) (i j : ℕ) → i < 64 → j < 64 → i ≢ j → f i + f j ≤ sum_by f (range_with_len 0 64)
two_within f i j low small apart =
    omega (arith, sum_less_twice f (λ _. 0) i j (f i) (f j) low small apart (λ s. omega arith) (omega arith) (omega arith))

-- one number is at most the sum
pub one_within : (f : ℕ → ℕ) (a n i : ℕ) → a ≤ i → i < a + n → f i ≤ sum_by f (range_with_len a n)
one_within f a n i low high = omega (arith, sum_less f (λ _. 0) a n i (f i) low high (λ j lt. omega arith) (omega arith))

-- who blocks one of fewer squares pays as much
fewer_in : (b r w : Bool) (n : ℕ) → (r ≡ true → w ≡ true) → (if b && r then n else 0) ≤ (if b && w then n else 0)
fewer_in b r w n inside = grind (arith, cases_Bool r)

module _ (q : Quest) (men : List (Option Man)) (ends : Ends) where
  -- a guard has no more moves left than all together
  pub one_spare : (posts : List Post) (ours i : ℕ) → unpaid q posts ends ≤ ours → i < q.count
      → (end_at q ends i).moves ≤ (post_at posts i).moves + ours
  unfolding unpaid
  one_spare posts ours i all lt =
      omega (arith, all, one_within (λ j. (end_at q ends j).moves - (post_at posts j).moves) 0 q.count i (omega arith) (omega (arith, lt)))

  -- a guard's post is narrowed, and its moves are paid
  pub paid_post : (posts : List Post) (w ours theirs i : ℕ) (p : Post) → Holds q men posts w ours theirs ends → i < q.count → i < length posts
      → IsIn (guard_at q.guards i) p (end_at q ends i) → (post_at posts i).moves ≤ p.moves
      → Holds q men (slice_set posts i p) w (ours - (p.moves - (post_at posts i).moves)) theirs ends
  unfolding unpaid
  paid_post posts w ours theirs i p h lt room inside more = record {
    guards = h.guards;
    away = h.away;
    blockers = h.blockers;
    few = h.few;
    inside = λ j jlt. elim (cases_eq j i) [
      | inl same ↦ subst (λ x. IsIn (guard_at q.guards j) x (end_at q ends j)) (sym (at_same j same)) (subst (λ k. IsIn (guard_at q.guards k) p (end_at q ends k)) (sym same) inside)
      | inr off ↦ subst (λ x. IsIn (guard_at q.guards j) x (end_at q ends j)) (sym (at_other j off)) (h.inside j jlt)
    ];
    paid = omega (arith, h.paid, less);
    blocking = h.blocking;
    holds = h.holds;
  }
    where
      at_same : (j : ℕ) → j ≡ i → post_at (slice_set posts i p) j ≡ p
      at_same j same = ap (λ k. post_at (slice_set posts i p) k) same ∙ get_or-set_same posts i p (record { squares = nowhere; moves = 0 }) room

      at_other : (j : ℕ) → j ≢ i → post_at (slice_set posts i p) j ≡ post_at posts j
      at_other j off = get_or-set_other posts i j p (record { squares = nowhere; moves = 0 }) off

      spent : (j : ℕ) → (end_at q ends j).moves - (post_at (slice_set posts i p) j).moves ≤ (end_at q ends j).moves - (post_at posts j).moves
      spent j = elim (cases_eq j i) [
        | inl same ↦ omega (arith, ap (λ (x : Post). x.moves) (at_same j same), more, ap (λ k. (post_at posts k).moves) same)
        | inr off ↦ omega (arith, ap (λ (x : Post). x.moves) (at_other j off))
      ]

      less : sum_by (λ j. (end_at q ends j).moves - (post_at (slice_set posts i p) j).moves) (range_with_len 0 q.count) + (p.moves - (post_at posts i).moves)
          ≤ sum_by (λ j. (end_at q ends j).moves - (post_at posts j).moves) (range_with_len 0 q.count)
      less = sum_less _ _ 0 q.count i (p.moves - (post_at posts i).moves) (omega arith) (omega (arith, lt)) (λ j jlt. spent j)
          (omega (arith, ap (λ (x : Post). x.moves) (at_same i refl), more, inside.paid))

  -- fewer squares are held
  pub fewer_held : (posts : List Post) (w r ours theirs : ℕ) → Holds q men posts w ours theirs ends
      → ((t : ℕ) → (bit_at r t == 1) ≡ true → (bit_at w t == 1) ≡ true) → Holds q men posts r ours theirs ends
  unfolding blocked squares
  fewer_held posts w r ours theirs h inside = record {
    guards = h.guards;
    away = h.away;
    blockers = h.blockers;
    few = h.few;
    inside = h.inside;
    paid = h.paid;
    blocking = omega (arith, h.blocking, sum_within (spends w) (spends r) 0 64 (λ s lt. fewer_spent s));
    holds = λ t small on. h.holds t small (inside t on);
  }
    where
      spends : ℕ → ℕ → ℕ
      spends v s = if blocks_in q men ends v s then (ends s).moves else 0

      fewer_spent : (s : ℕ) → spends r s ≤ spends w s
      fewer_spent s = fewer_in (is_blocker men (other q.colour) s && not (ends s).taken) (bit_at r (ends s).square == 1) (bit_at w (ends s).square == 1) (ends s).moves
          (inside (ends s).square)

  -- a blocker has at most the moves of all
  pub block_spare : (posts : List Post) (w ours theirs s : ℕ) → Holds q men posts w ours theirs ends → s < 64 → is_blocker men (other q.colour) s ≡ true
      → (ends s).taken ≡ false → (bit_at w (ends s).square == 1) ≡ true → (ends s).moves ≤ theirs
  unfolding blocked squares
  block_spare posts w ours theirs s h small blocker stays on =
      let f : ℕ → ℕ = λ s. if blocks_in q men ends w s then (ends s).moves else 0 in
      omega (
        arith,
        h.blocking,
        one_within f 0 64 s (omega arith) (omega (arith, small)),
        cond-true (blocks_in q men ends w s) (ends s).moves 0 (and_from _ _ (and_from _ _ blocker (ap not stays)) on),
      )

  -- a blocker ends on a square, and its moves are paid
  pub block_paid : (posts : List Post) (w r ours theirs z s price : ℕ) → Holds q men posts w ours theirs ends → (bit_at w z == 1) ≡ true
      → (bit_at r z == 1) ≡ false → ((t : ℕ) → (bit_at r t == 1) ≡ true → (bit_at w t == 1) ≡ true) → s < 64
      → is_blocker men (other q.colour) s ≡ true → (ends s).square ≡ z → (ends s).taken ≡ false → price ≤ (ends s).moves
      → Holds q men posts r ours (theirs - price) ends
  unfolding blocked squares
  block_paid posts w r ours theirs z s price h on off inside small blocker there stays cheap = record {
    guards = h.guards;
    away = h.away;
    blockers = h.blockers;
    few = h.few;
    inside = h.inside;
    paid = h.paid;
    blocking = omega (arith, h.blocking, sum_less (spends w) (spends r) 0 64 s price (omega arith) (omega (arith, small)) (λ j lt. fewer_spent j) here);
    holds = λ t low at. h.holds t low (inside t at);
  }
    where
      spends : ℕ → ℕ → ℕ
      spends v s = if blocks_in q men ends v s then (ends s).moves else 0

      fewer_spent : (s : ℕ) → spends r s ≤ spends w s
      fewer_spent s = fewer_in (is_blocker men (other q.colour) s && not (ends s).taken) (bit_at r (ends s).square == 1) (bit_at w (ends s).square == 1) (ends s).moves
          (inside (ends s).square)

      here : spends r s + price ≤ spends w s
      here =
          let before = cond-true (blocks_in q men ends w s) (ends s).moves 0
          (and_from _ _ (and_from _ _ blocker (ap not stays)) (ap (λ t. bit_at w t == 1) there ∙ on)) in
          let after = cond-false (blocks_in q men ends r s) (ends s).moves 0
          (and_right _ _ (ap (λ t. bit_at r t == 1) there ∙ off)) in
          omega (arith, before, after, cheap)
