-- The number of legal moves between two cursors.
use Rattle.std.proofs.lemmas.List.Sums.{count_by-le-length, length-filter}
use Rattle.std.specs.Int.Count.{ones_step}
use Rattle.std.specs.Prelude.{count_ones}
use Rattle.chess_rules.proofs.Chess.{AreCandidates, AreLegal, Bool, NoneMeet, HasNoMoveFrom, Move, None, Pawn, Position, RuleSet, all_triples, ap, arith, bit_at, bit_at-lt, cases_Bool, cases_eq, cases_lt, differs, false, from_bool, inl, inr, is_legal, is_legal-idle, is_man, length, length-append, length-take, man_on, moves_between, ones-le, meets_on, per_arrival, per_origin, pow_mono, promotion_at, refl, rules, shr-shr, shr_below, suc, sym, triple_at, true, zero, ℕ, ◌%◌, ◌&&◌, ◌*◌, ◌+◌, ◌-◌, ◌/◌, ◌<◌, ◌==◌, ◌^◌, ◌∙◌, ◌≡◌, ◌≤◌, met_between}
use Rattle.chess_rules.proofs.Between.{between-here, between-none, between-over, between-past, between-skip, between_cut}
use Rattle.chess_rules.proofs.Targeting.{first_none, arrival_from, named_by, no_promotion_here, some_named}
use Rattle.chess_rules.proofs.Walks.{IsWalked, none-from, none-plain, none-to, triple_of, walk_before}
use Rattle.chess_attacks.proofs.Bits.{off_zero}
use Rattle.chess_attacks.proofs.Basics.{nat_le}
use Rattle.chess_attacks.specs.ties.Taking.{IsPopped}

bit_is : (n : ℕ) → n < 2 → n ≡ from_bool (n == 1)
bit_is n less = grind arith

-- the squares of a bitboard from a square on: that square, if it is in, and the squares after it
ones_from : (w t : ℕ) → count_ones (w / 2 ^ t) ≡ from_bool (bit_at w t == 1) + count_ones (w / 2 ^ (t + 1))
ones_from w t = grind (arith, ones_step (w / 2 ^ t), shr-shr w t 1, bit_is (bit_at w t), bit_at-lt w t)

-- no square comes after the last
pub none_from : (w t : ℕ) → w < 2 ^ 64 → 64 ≤ t → 0 ≡ count_ones (w / 2 ^ t)
none_from w t fits past =
    let le : 2 ^ 64 ≤ 2 ^ t = pow_mono past in
    grind (arith, le, ones-le 0 (w / 2 ^ t), shr_below w 0 t)

-- during the walk, the legal moves from all origins before the rest have been counted
pub record IsCounted (rule : RuleSet) (p : Position) (start rest count : ℕ) : Type 0 where
  pub reached : ℕ
  pub low : start ≤ reached
  pub begin : (s : ℕ) → s < 64 → (bit_at rest s == 1) ≡ true → reached - per_origin * s ≡ start - per_origin * s
  pub walked : IsWalked (is_legal rule p) reached rest
  pub counted : count ≡ length (moves_between rule p start reached)

-- during the walk over one origin's squares, its moves to the squares taken so far have been counted: from
-- `start` on and before `end`
pub record IsCountedTo (rule : RuleSet) (p : Position) (s w start end rest count : ℕ) : Type 0 where
  pub at : ℕ
  pub few : at ≤ per_origin
  pub left : (t : ℕ) → t < 64 → (bit_at rest t == 1) ≡ (nat_le (arrival_from at) t && bit_at w t == 1)
  pub all : count + length (moves_between rule p (per_origin * s + at) (per_origin * s + end))
      ≡ length (moves_between rule p (per_origin * s + start) (per_origin * s + end))

module _ (rule : RuleSet) (p : Position) where
  -- how many lie between two places
  abbrev between : ℕ → ℕ → ℕ
  between a e = length (moves_between rule p a e)

  -- no more than there are triples
  pub few_between : (a e : ℕ) → between a e ≤ e - a
  unfolding met_between
  few_between a e = search (rules, length-filter, count_by-le-length, length-take)

  count_cut : (a b e : ℕ) → a ≤ b → b ≤ e → between a e ≡ between a b + between b e
  count_cut a b e lo hi = ap length (between_cut (is_legal rule p) a b e lo hi) ∙ length-append (moves_between rule p a b) (moves_between rule p b e)

  -- no move lies between a cursor and one that isn't after it
  pub none_left : (a e : ℕ) → e ≤ a → between a e ≡ 0
  none_left a e le = ap length (between-none (is_legal rule p) a e le)

  -- over a range without moves the count stays
  count_over : (a b e : ℕ) → a ≤ b → b ≤ all_triples → NoneMeet (is_legal rule p) a b → between a e ≡ between b e
  count_over a b e lo hi none = ap length (between-over (is_legal rule p) a b e (λ less. lo) hi none)

  -- where no move was taken yet
  pub counted_none : (start rest count : ℕ) → IsWalked (is_legal rule p) start rest → count ≡ 0 → IsCounted rule p start rest count
  counted_none start rest count w none = record {
    reached = start;
    low = omega arith;
    begin = λ s small on. refl;
    walked = w;
    counted = none ∙ sym (none_left start start (omega arith));
  }

  module _ (start rest count s left n z : ℕ) (h : IsCounted rule p start rest count) (next : IsPopped rest s left) (first : n ≡ per_origin * s)
      (begin : z ≡ start - n) where
    abbrev same : h.reached - n ≡ z
    same = grind (arith, h.begin s, next.small, next.here)

    -- the moves up to a triple of the next origin are those counted and the next origin's before that
    -- triple
    pub counted_to : (a : ℕ) → z ≤ a → between start (n + a) ≡ count + between (per_origin * s + z) (per_origin * s + a)
    counted_to a more =
        let before = walk_before (is_legal rule p) h.reached rest s n h.walked next.first (omega (arith, next.small)) (omega (arith, first)) in
        let free : NoneMeet (is_legal rule p) h.reached (n + z) = record { fails = λ k lo hi. grind (arith, same, cases_lt k n, before.fails k) } in
        grind (arith, same, h.low, h.counted, count_cut start h.reached (n + a), between-over (is_legal rule p) h.reached (n + z) (n + a), free, next.small)

    -- past it
    pub counted_on : (k : ℕ) → k ≡ between (per_origin * s + z) (per_origin * s + per_origin) → IsCounted rule p start left (count + k)
    counted_on k own =
        let ahead = h.walked.ahead s next.small next.here in
        let later : (t : ℕ) → (bit_at left t == 1) ≡ true → s < t = λ t on. grind (arith, cases_lt s t, cases_eq s t, next.first t, next.gone, next.others t) in
        record {
          reached = n + per_origin;
          low = omega (arith, h.low, ahead, first);
          begin = λ t small on. omega (arith, later t on, h.low, ahead, first);
          walked = record {
            ahead = λ t small on. omega (arith, later t on, first);
            none = λ k lo hi off. h.walked.none k (omega (arith, lo, ahead, first)) hi (grind (arith, next.others (k / per_origin)));
          };
          counted = omega (arith, own, counted_to per_origin (omega (arith, same, ahead)));
        }

  -- where no origin is left those so far are all
  pub counted_all : (start rest count : ℕ) → IsCounted rule p start rest count → rest ≡ 0 → count ≡ between start all_triples
  counted_all start rest count h none =
      let free = walk_before (is_legal rule p) h.reached rest 64 all_triples h.walked (λ t lt. rw none (off_zero t)) (omega arith) (omega arith) in
      let cut = count_cut start in
      grind (arith, cases_lt, cut h.reached all_triples, cut all_triples h.reached, none_left, count_over h.reached all_triples, free, between-past)

  module _ (s w : ℕ) (small : s < 64) (are : AreCandidates rule p (is_legal rule p) s w) where
    -- triples that are no moves don't count
    pub count_barren : (a b e : ℕ) → a ≤ b → b ≤ per_origin → HasNoMoveFrom p s w a b → between (per_origin * s + a) e ≡ between (per_origin * s + b) e
    count_barren a b e lo hi h = count_over _ _ e (omega arith) (omega arith) (none-from rule p (is_legal rule p) (is_legal-idle rule p) s w a b hi are h)

    -- one that is a move counts once
    pub count_here : (a n e : ℕ) (legal : Bool) → a < per_origin → n ≡ per_origin * s + a → n < e → is_legal rule p (triple_at n) ≡ legal
        → between n e ≡ from_bool legal + between (per_origin * s + (a + 1)) e
    count_here a n e legal inside at before h = search (rules, between-here, between-skip, inside, at, before, h)

    module _ (start end rest count : ℕ) (h : IsCountedTo rule p s w start end rest count) (none : is_man (man_on p.men s) p.turn Pawn ≡ false) where
      -- up to a square before which the rest has none
      skip : (b : ℕ) → ((t : ℕ) → t < b → (bit_at rest t == 1) ≡ false) → b ≤ 64 → h.at ≤ per_arrival * b
          → between (per_origin * s + h.at) (per_origin * s + end) ≡ between (per_origin * s + per_arrival * b) (per_origin * s + end)
      skip b off fits le =
          let passing : AreCandidates rule p (meets_on w (is_legal rule p)) s w = record {
            inside = are.inside;
            outside = λ m at to out. grind (arith, out);
          } in
          let plain = none-plain rule p (is_legal rule p) (is_legal-idle rule p) s w rest h.at b (per_arrival * b) passing none
          (λ t lt on out from. grind (arith, h.left t lt)) off (omega arith) fits in
          count_over _ _ _ (omega arith) (omega arith) (none-to _ _ _ _ s w h.at (per_arrival * b) (omega arith) are (λ m off. off) plain)

      -- up to the end
      pub counted_end : (b : ℕ) → ((t : ℕ) → t < b → (bit_at rest t == 1) ≡ false) → b ≤ 64 → end ≤ per_arrival * b
          → count ≡ between (per_origin * s + start) (per_origin * s + end)
      counted_end b off small past = grind (arith, h.all, cases_lt (per_arrival * b) h.at, skip b off small, none_left)

      -- past the next square
      pub counted_past : (t left : ℕ) (legal : Bool) → IsPopped rest t left → per_arrival * t < end
          → is_legal rule p (record { from = s; to = t; promo = None }) ≡ legal → IsCountedTo rule p s w start end left (count + from_bool legal)
      counted_past t left legal next before answer =
          let from : h.at ≤ per_arrival * t = grind (arith, h.left t next.small, next.here) in
          let skipped = skip t next.first (omega (arith, next.small)) from in
          record {
            at = per_arrival * t + 1;
            few = omega (arith, next.small);
            left = λ u lt. grind (arith, h.left u lt, cases_eq t u, cases_lt t u, next.first u, next.gone, next.others u);
            all = omega (
              arith,
              h.all,
              skipped,
              count_here (per_arrival * t) (per_origin * s + per_arrival * t) (per_origin * s + end) legal (omega (arith, next.small))
                  refl (omega (arith, before)) (grind (arith, triple_of s (per_arrival * t), first_none, answer)),
            );
          }

    module _ (legal : AreLegal rule p s w) where
      legal_to : (t k : ℕ) → t < 64 → k < per_arrival → is_legal rule p (record { from = s; to = t; promo = promotion_at k }) ≡ (k == 0 && bit_at w t == 1)
      legal_to t k lt few = elim (cases_Bool (bit_at w t == 1)) [
        | inl on ↦ elim (cases_eq k 0) [
          | inl e ↦ rw (e, first_none) (legal.to t lt on ∙ sym on)
          | inr ne ↦
              let kind = named_by (promotion_at k) (some_named k (omega (arith, ne)) few) in
              let m : Move = record { from = s; to = t; promo = promotion_at k } in
              grind (arith, is_legal-idle rule p m, no_promotion_here rule p legal.man m kind.0 legal.here kind.1 (legal.unpromoted t lt on), differs k 0 ne)
        ]
        | inr off ↦ grind (arith, are.outside (record { from = s; to = t; promo = promotion_at k }) refl lt off)
      ]

      -- a triple is a move exactly where it goes to a square of the word and names no promotion
      legal_is : (a : ℕ) → a < per_origin → is_legal rule p (triple_at (per_origin * s + a)) ≡ (a % per_arrival == 0 && bit_at w (a / per_arrival) == 1)
      legal_is a inside = rw (triple_of s a inside) (legal_to (a / per_arrival) (a % per_arrival) (omega (arith, inside)) (omega arith))

      one_more : (a : ℕ)
          → count_ones (w / 2 ^ arrival_from a) ≡ from_bool (a % per_arrival == 0 && bit_at w (a / per_arrival) == 1)
          + count_ones (w / 2 ^ arrival_from (a + 1))
      one_more a = elim (cases_eq (a % per_arrival) 0) [
        | inl e ↦ grind (arith, ones_from w (a / per_arrival))
        | inr ne ↦ grind arith
      ]

      counted : (n a b : ℕ) → b ≡ a + n → b ≤ per_origin
          → between (per_origin * s + a) (per_origin * s + b) + count_ones (w / 2 ^ arrival_from b) ≡ count_ones (w / 2 ^ arrival_from a)
      counted zero a b e le = let same : b ≡ a = omega (arith, e) in rw same (omega (arith, none_left (per_origin * s + a) (per_origin * s + a) (omega arith)))
      counted (suc n) a b e le = grind (arith, one_more a, counted n (a + 1) b, count_here a (per_origin * s + a) (per_origin * s + b), legal_is a)

      -- where all are legal, the squares of the word are counted
      pub count_by_word : (a b : ℕ) → a ≤ b → b ≤ per_origin
          → between (per_origin * s + a) (per_origin * s + b) + count_ones (w / 2 ^ arrival_from b) ≡ count_ones (w / 2 ^ arrival_from a)
      count_by_word a b le hi = counted (b - a) a b (omega (arith, le)) hi

      -- for a whole origin, all squares are counted
      pub count_whole : (a b : ℕ) → w < 2 ^ 64 → a ≡ 0 → b ≡ per_origin → between (per_origin * s + a) (per_origin * s + b) ≡ count_ones w
      count_whole a b fits first last = grind (arith, count_by_word a b, none_from w 64 fits)
