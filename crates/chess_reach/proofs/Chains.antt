-- Where a man can be after one more move, and the chain of these.
use Rattle.chess_attacks.proofs.Chess.{Bishop, Bool, Colour, Grasshopper, Kind, King, Knight, List, Man, Pawn, Queen, Rook, [], and_parts, ap, arith, bit_and, bit_at, bit_not, bit_or, cases_Bool, cases_eq, cond-false, cond-true, diagonal_steps, false, false_from_ne_true, false≢true, if◌then◌else◌, inl, inr, list_any, list_any-append, on_left, on_right, or_left, or_right, length, rank_of, reaches_as, refl, rides, same_kind-true, straight_steps, subst, suc, sym, true, w64, zero, ℕ, ◌<◌, ◌==◌, ◌^◌, ◌∙◌, ◌≡◌, ◌≢◌, ◌≤◌}
use Rattle.std.proofs.Common.{slice_index_or, slice_set}
use Rattle.std.proofs.lemmas.List.{get_or-set_other, get_or-set_same}
use Rattle.chess_core.specs.Position.{same_kind}
use Rattle.chess_rules.specs.Legal.{last_rank}
use Rattle.chess_reach.proofs.Bitboards.{denied_on, on_both}
use Rattle.chess_reach.proofs.Getting.{gets_last, gets_small, goes_small}
unfoldable use Rattle.chess_reach.specs.Reach.{Gets, goes, guards, pawn_goes}
use Rattle.chess_reach.specs.Reach.{without_hops}
use Rattle.chess_reach.specs.declared.whereabouts.Whereabouts.{Whereabouts}
use Rattle.chess_reach.specs.ties.Whereabouts.{has, part}
use Rattle.chess_reach.specs.ties.Ways.{CanBe, IsChain, IsUsual, Leads, Rests, TakesOn, is_unfollowed, nowhere}

-- a piece stays what it is
pub piece_part : (k j : Kind) (w : Whereabouts) → same_kind k Pawn ≡ false → part k j w ≡ w.unpromoted
piece_part k j w h = grind (arith, h)

pub pawn_part : (k j : Kind) (w : Whereabouts) → same_kind j Pawn ≡ true → part k j w ≡ w.unpromoted
pawn_part k j w h = grind (arith, h)

pub knight_part : (k j : Kind) (w : Whereabouts) → same_kind k Pawn ≡ true → same_kind j Pawn ≡ false → same_kind j Knight ≡ true → part k j w ≡ w.knight
knight_part k j w h i g = grind (arith, h, i, g)

pub queen_part : (k j : Kind) (w : Whereabouts) → same_kind k Pawn ≡ true → same_kind j Pawn ≡ false → same_kind j Knight ≡ false → part k j w ≡ w.queen
queen_part k j w h i g = grind (arith, h, i, g)

-- a part of what is known has the square
pub part_has : (k j : Kind) (t : ℕ) (w : Whereabouts) (n : ℕ) → part k j w ≡ n → (bit_at n t == 1) ≡ true → has k j t w ≡ true
part_has k j t w n e h = ap (λ x. bit_at x t == 1) e ∙ h

pub has_part : (k j : Kind) (t : ℕ) (w : Whereabouts) (n : ℕ) → part k j w ≡ n → has k j t w ≡ true → (bit_at n t == 1) ≡ true
has_part k j t w n e h = sym (ap (λ x. bit_at x t == 1) e) ∙ h

-- a piece goes where it guards, and stays what it is
piece_goes : (allowed : Kind → Bool) (takes : ℕ → Bool) (c : Colour) (i : Kind) (q : ℕ) (j : Kind) (t : ℕ) → same_kind i Pawn ≡ false
    → goes allowed takes c i q j t ≡ true
    → (guards c i q t ≡ true) × (same_kind i j ≡ true)
unfolding goes
piece_goes allowed takes c i q j t piece go = grind (arith, and_parts, go, piece)

-- a pawn goes by its own ways, and promotes on its last rank alone
pawn_goes_on : (allowed : Kind → Bool) (takes : ℕ → Bool) (c : Colour) (i : Kind) (q : ℕ) (j : Kind) (t : ℕ) → same_kind i Pawn ≡ true
    → goes allowed takes c i q j t ≡ true → (pawn_goes takes c q t ≡ true) × ((if rank_of t == last_rank c then allowed j else same_kind i j) ≡ true)
unfolding goes
pawn_goes_on allowed takes c i q j t pawn go = grind (arith, and_parts, go, pawn)

-- a queen guards what pieces guard to which a promotion is followed, other than knights
pub queen_guards : (c : Colour) (i : Kind) (q t : ℕ) → same_kind i Pawn ≡ false → same_kind i Knight ≡ false → is_unfollowed i ≡ false → i ≢ King → guards c i q t ≡ true
    → reaches_as [] c Queen q t ≡ true
unfolding guards reaches_as
queen_guards c King q t p n r k h = absurd (k refl)
queen_guards c Queen q t p n r k h = h
queen_guards c Rook q t p n r k h = list_any-append (rides [] q t) straight_steps diagonal_steps ∙ or_left _ _ h
queen_guards c Bishop q t p n r k h = list_any-append (rides [] q t) straight_steps diagonal_steps ∙ or_right (list_any (rides [] q t) straight_steps) _ h
queen_guards c Knight q t p n r k h = absurd (false≢true (sym n))
queen_guards c Pawn q t p n r k h = absurd (false≢true (sym p))
queen_guards c Grasshopper q t p n r k h = h
queen_guards c unfollowed q t p n r k h = absurd (false≢true (sym r))

pub piece_guards : (c : Colour) (i : Kind) (q t : ℕ) → guards c i q t ≡ true → reaches_as [] c (without_hops i) q t ≡ true
unfolding guards
piece_guards c i q t h = h

-- where a piece gets with one more move
pub piece_leads : (prey : ℕ) (x : Man) (b : Whereabouts) (w : ℕ) → same_kind x.kind Pawn ≡ false
    → ((s t : ℕ) → s < 64 → t < 64 → (bit_at b.unpromoted s == 1) ≡ true → reaches_as [] x.colour (without_hops x.kind) s t ≡ true → (bit_at w t == 1) ≡ true)
    → Leads prey x b (record { unpromoted = w; queen = 0; knight = 0 })
piece_leads prey x b w piece spread = record {
  leads = λ allowed takes i j q t on_prey sq st be pawn go h.
      let same : i ≡ x.kind = be.piece piece in
      let on : (bit_at b.unpromoted q == 1) ≡ true = has_part x.kind i q b b.unpromoted (piece_part x.kind i b piece) h in
      let way = (piece_goes allowed takes x.colour i q j t (ap (λ k. same_kind k Pawn) same ∙ piece) go).0 in
      part_has x.kind j t (record { unpromoted = w; queen = 0; knight = 0 }) w (piece_part x.kind j (record { unpromoted = w; queen = 0; knight = 0 }) piece)
      (spread q t sq st on (piece_guards x.colour x.kind q t (subst (λ k. guards x.colour k q t ≡ true) same way)));
}

-- where a pawn gets
module _ (prey : ℕ) (x : Man) (b : Whereabouts) (pawns last queens knights : ℕ) (is_pawn : same_kind x.kind Pawn ≡ true) where
  abbrev after : Whereabouts
  after = record {
    unpromoted = bit_or b.unpromoted (bit_and pawns (bit_not w64 last));
    queen = bit_or (bit_and pawns last) queens;
    knight = bit_or (bit_and pawns last) knights;
  }

  pub pawn_kept : (j : Kind) (t : ℕ) → t < 64 → ((t : ℕ) → t < 64 → (bit_at b.queen t == 1) ≡ true → (bit_at queens t == 1) ≡ true)
      → ((t : ℕ) → t < 64 → (bit_at b.knight t == 1) ≡ true → (bit_at knights t == 1) ≡ true) → has x.kind j t b ≡ true → has x.kind j t after ≡ true
  pawn_kept j t small q n h = elim (cases_Bool (same_kind j Pawn)) [
    | inl is ↦ part_has x.kind j t after _ (pawn_part x.kind j after is) (on_left _ _ t (has_part x.kind j t b _ (pawn_part x.kind j b is) h))
    | inr piece ↦ elim (cases_Bool (same_kind j Knight)) [
      | inl too ↦ part_has x.kind j t after _ (knight_part x.kind j after is_pawn piece too)
          (on_right _ _ t (n t small (has_part x.kind j t b _ (knight_part x.kind j b is_pawn piece too) h)))
      | inr nor ↦ part_has x.kind j t after _ (queen_part x.kind j after is_pawn piece nor)
          (on_right _ _ t (q t small (has_part x.kind j t b _ (queen_part x.kind j b is_pawn piece nor) h)))
    ]
  ]

  promoted : (j : Kind) (t : ℕ) → same_kind j Pawn ≡ false → (bit_at (bit_and pawns last) t == 1) ≡ true → has x.kind j t after ≡ true
  promoted j t piece on = elim (cases_Bool (same_kind j Knight)) [
    | inl too ↦ part_has x.kind j t after _ (knight_part x.kind j after is_pawn piece too) (on_left _ _ t on)
    | inr nor ↦ part_has x.kind j t after _ (queen_part x.kind j after is_pawn piece nor) (on_left _ _ t on)
  ]

  module _ (fits : last < 2 ^ 64) (ranks : (s : ℕ) → s < 64 → (bit_at last s == 1) ≡ (rank_of s == last_rank x.colour))
      (steps : (takes : ℕ → Bool) (s t : ℕ) → TakesOn takes prey → s < 64 → t < 64 → (bit_at b.unpromoted s == 1) ≡ true → pawn_goes takes x.colour s t ≡ true
      → (bit_at pawns t == 1) ≡ true)
      (rides_on : (s t : ℕ) → s < 64 → t < 64 → (bit_at b.queen s == 1) ≡ true → reaches_as [] x.colour Queen s t ≡ true → (bit_at queens t == 1) ≡ true)
      (leaps_on : (s t : ℕ) → s < 64 → t < 64 → (bit_at b.knight s == 1) ≡ true → reaches_as [] x.colour Knight s t ≡ true → (bit_at knights t == 1) ≡ true) where
    as_pawn : (allowed : Kind → Bool) (takes : ℕ → Bool) (i j : Kind) (q t : ℕ) → TakesOn takes prey → q < 64 → t < 64 → allowed Pawn ≡ false
        → same_kind i Pawn ≡ true → goes allowed takes x.colour i q j t ≡ true → has x.kind i q b ≡ true → has x.kind j t after ≡ true
    as_pawn allowed takes i j q t on_prey sq st none pawn go h =
        let way = pawn_goes_on allowed takes x.colour i q j t pawn go in
        let on = steps takes q t on_prey sq st (has_part x.kind i q b _ (pawn_part x.kind i b pawn) h) way.0 in
        elim (cases_Bool (rank_of t == last_rank x.colour)) [
          | inl there ↦
              let may : allowed j ≡ true = sym (cond-true _ (allowed j) (same_kind i j) there) ∙ way.1 in
              let piece : same_kind j Pawn ≡ false = elim (cases_Bool (same_kind j Pawn)) [
                | inl y ↦ absurd (false≢true (sym none ∙ ap allowed (sym (same_kind-true j Pawn y)) ∙ may))
                | inr n ↦ n
              ] in
              promoted j t piece (on_both pawns last t on (ranks t st ∙ there))
          | inr elsewhere ↦
              let same : same_kind i j ≡ true = sym (cond-false _ (allowed j) (same_kind i j) elsewhere) ∙ way.1 in
              let still : same_kind j Pawn ≡ true = ap (λ k. same_kind k Pawn) (sym (same_kind-true i j same)) ∙ pawn in
              part_has x.kind j t after _ (pawn_part x.kind j after still) (on_right _ _ t (denied_on pawns last t fits st on (ranks t st ∙ elsewhere)))
        ]

    as_piece : (allowed : Kind → Bool) (takes : ℕ → Bool) (i j : Kind) (q t : ℕ) → q < 64 → t < 64 → CanBe x.kind i → same_kind i Pawn ≡ false
        → goes allowed takes x.colour i q j t ≡ true → has x.kind i q b ≡ true → has x.kind j t after ≡ true
    as_piece allowed takes i j q t sq st be piece go h =
        let way = piece_goes allowed takes x.colour i q j t piece go in
        let same : i ≡ j = same_kind-true i j way.1 in
        subst (λ k. has x.kind k t after ≡ true) same (elim (cases_Bool (same_kind i Knight)) [
          | inl too ↦
              let knight : i ≡ Knight = same_kind-true i Knight too in
              part_has x.kind i t after _ (knight_part x.kind i after is_pawn piece too)
              (on_right _ _ t (leaps_on q t sq st (has_part x.kind i q b _ (knight_part x.kind i b is_pawn piece too) h)
              (piece_guards x.colour Knight q t (subst (λ k. guards x.colour k q t ≡ true) knight way.0))))
          | inr nor ↦ part_has x.kind i t after _ (queen_part x.kind i after is_pawn piece nor)
              (on_right _ _ t (rides_on q t sq st (has_part x.kind i q b _ (queen_part x.kind i b is_pawn piece nor) h)
              (queen_guards x.colour i q t piece nor (be.followed is_pawn) (be.king is_pawn) way.0)))
        ])

    pub pawn_leads : Leads prey x b after
    pawn_leads = record {
      leads = λ allowed takes i j q t on_prey sq st be none go h. elim (cases_Bool (same_kind i Pawn)) [
        | inl pawn ↦ as_pawn allowed takes i j q t on_prey sq st none pawn go h
        | inr piece ↦ as_piece allowed takes i j q t sq st be piece go h
      ];
    }

-- what a man can become
pub gets_be : (rb : Bool) (allowed : Kind → Bool) (takes : ℕ → Bool) (c : Colour) (n : ℕ) (k : Kind) (s : ℕ) (j : Kind) (t : ℕ) → IsUsual allowed → Gets rb allowed takes c n k s j t → CanBe k j
unfolding Gets
gets_be rb allowed takes c zero k s j t usual (same, there) = record {
  piece = λ h. sym same;
  followed = λ h. ap is_unfollowed (sym same ∙ same_kind-true k Pawn h);
  king = λ h e. let is = same_kind-true k Pawn h in absurd (let bad : Pawn ≡ King = sym is ∙ same ∙ e in cc);
}
gets_be rb allowed takes c (suc n) k s j t usual (from, i, q, start, go, rest) =
    let later : CanBe i j = gets_be rb allowed takes c n i q j t usual rest in
    elim (cases_Bool (same_kind k Pawn)) [
      | inr piece ↦ subst (λ x. CanBe x j) (sym (same_kind-true k i (piece_goes allowed takes c k from i q piece go).1)) later
      | inl pawn ↦ record {
        piece = λ h. absurd (false≢true (sym h ∙ pawn));
        followed = λ h. elim (cases_Bool (same_kind i Pawn)) [
          | inl still ↦ later.followed still
          | inr now ↦ false_from_ne_true (is_unfollowed j)
              (λ e. false≢true (sym (usual.followed j e) ∙ ap allowed (later.piece now) ∙ became allowed takes c k from i q pawn now go))
        ];
        king = λ h. elim (cases_Bool (same_kind i Pawn)) [
          | inl still ↦ later.king still
          | inr now ↦ λ e. false≢true (sym usual.king ∙ ap allowed (sym e ∙ later.piece now) ∙ became allowed takes c k from i q pawn now go)
        ];
      }
    ]
  where
    became : (allowed : Kind → Bool) (takes : ℕ → Bool) (c : Colour) (k : Kind) (s : ℕ) (i : Kind) (q : ℕ) → same_kind k Pawn ≡ true → same_kind i Pawn ≡ false
        → goes allowed takes c k s i q ≡ true → allowed i ≡ true
    became allowed takes c k s i q pawn now go = elim (cases_Bool (rank_of q == last_rank c)) [
      | inl there ↦ sym (cond-true _ (allowed i) (same_kind k i) there) ∙ (pawn_goes_on allowed takes c k s i q pawn go).1
      | inr elsewhere ↦ absurd (false≢true (sym now ∙ ap (λ x. same_kind x Pawn)
          (sym (same_kind-true k i (sym (cond-false _ (allowed i) (same_kind k i) elsewhere) ∙ (pawn_goes_on allowed takes c k s i q pawn go).1))) ∙ pawn))
    ]

-- a man can be what it is
stays_be : (k : Kind) → CanBe k k
stays_be k = record {
  piece = λ h. refl;
  followed = λ h. ap is_unfollowed (same_kind-true k Pawn h);
  king = λ h e. absurd (false≢true (ap (λ x. same_kind x Pawn) (sym e) ∙ h));
}

-- a chain begins where the man rests
pub chain_starts : (rb : Bool) (prey : ℕ) (x : Man) (s : ℕ) (v : Whereabouts) (chain : List Whereabouts) → s < 64 → ((k : Kind) → has k k s v ≡ true)
    → Rests rb x v (slice_index_or chain 0 nowhere) → IsChain rb prey x s 0 chain
unfolding Gets
chain_starts rb prey x s v chain small here rest = record {
  gets = starts;
  grows = λ n l j t le most small h. subst (λ i. has x.kind j t (slice_index_or chain i nowhere) ≡ true) (omega arith) h;
}
  where
    starts : (allowed : Kind → Bool) (takes : ℕ → Bool) (n : ℕ) (j : Kind) (t : ℕ) → TakesOn takes prey → n ≤ 0 → IsUsual allowed
        → Gets rb allowed takes x.colour n x.kind s j t
        → has x.kind j t (slice_index_or chain n nowhere) ≡ true
    starts allowed takes zero j t on le usual (same, start) = subst (λ i. has x.kind i t (slice_index_or chain 0 nowhere) ≡ true) same
        (rest.rests x.kind s t small (stays_be x.kind) (here x.kind) start)
    starts allowed takes (suc n) j t on le usual way = absurd (omega (arith, le))

-- a chain for fewer moves
pub chain_less : (rb : Bool) (prey : ℕ) (x : Man) (s m n : ℕ) (chain : List Whereabouts) → IsChain rb prey x s m chain → n ≤ m → IsChain rb prey x s n chain
chain_less rb prey x s m n chain h le = record {
  gets = λ allowed takes i j t on less usual way. h.gets allowed takes i j t on (omega (arith, less, le)) usual way;
  grows = λ i l j t less more small has. h.grows i l j t less (omega (arith, more, le)) small has;
}

-- a chain goes on
pub chain_goes_on : (rb : Bool) (prey : ℕ) (x : Man) (s m n : ℕ) (chain : List Whereabouts) (v w : Whereabouts) → IsChain rb prey x s m chain → n ≡ suc m → n < length chain
    → s < 64 → Leads prey x (slice_index_or chain m nowhere) v → Rests rb x v w
    → ((j : Kind) (t : ℕ) → t < 64 → has x.kind j t (slice_index_or chain m nowhere) ≡ true → has x.kind j t w ≡ true)
    → IsChain rb prey x s n (slice_set chain n w)
chain_goes_on rb prey x s m n chain v w h next room small leads rest kept = record {
  gets = λ allowed takes i j t on le usual way. elim (cases_eq i n) [
    | inr before ↦ subst (λ y. has x.kind j t y ≡ true) (sym (get_or-set_other chain n i w nowhere before)) (h.gets allowed takes i j t on (omega (arith, le, before, next)) usual way)
    | inl now ↦ subst (λ y. has x.kind j t y ≡ true) (sym (ap (λ y. slice_index_or (slice_set chain n w) y nowhere) now ∙ get_or-set_same chain n w nowhere room))
        (steps allowed takes j t on usual (subst (λ y. Gets rb allowed takes x.colour y x.kind s j t) (now ∙ next) way))
  ];
  grows = λ i l j t less more low had. elim (cases_eq l n) [
    | inr before ↦ subst (λ y. has x.kind j t y ≡ true) (sym (get_or-set_other chain n l w nowhere before))
        (h.grows i l j t less (omega (arith, more, before, next)) low
        (subst (λ y. has x.kind j t y ≡ true) (get_or-set_other chain n i w nowhere (λ e. before (omega (arith, e, less, more)))) had))
    | inl now ↦ subst (λ y. has x.kind j t y ≡ true) (sym (ap (λ y. slice_index_or (slice_set chain n w) y nowhere) now ∙ get_or-set_same chain n w nowhere room))
        (last i j t (omega (arith, less, now)) low had)
  ];
}
  where
    steps : (allowed : Kind → Bool) (takes : ℕ → Bool) (j : Kind) (t : ℕ) → TakesOn takes prey → IsUsual allowed
        → Gets rb allowed takes x.colour (suc m) x.kind s j t → has x.kind j t w ≡ true
    steps allowed takes j t on usual way =
        let (i, q, r, before, go, start) = gets_last rb allowed takes x.colour m x.kind s j t way in
        let low = goes_small allowed takes x.colour i q j r go in
        rest.rests j r t low (gets_be rb allowed takes x.colour (suc m) x.kind s j t usual way)
        (leads.leads allowed takes i j q r on (gets_small rb allowed takes x.colour m x.kind s i q small before) low
        (gets_be rb allowed takes x.colour m x.kind s i q usual before) usual.pawn go (h.gets allowed takes m i q on (omega arith) usual before)) start

    last : (i : ℕ) (j : Kind) (t : ℕ) → i ≤ n → t < 64 → has x.kind j t (slice_index_or (slice_set chain n w) i nowhere) ≡ true → has x.kind j t w ≡ true
    last i j t le low had = elim (cases_eq i n) [
      | inl now ↦ subst (λ y. has x.kind j t y ≡ true) (ap (λ y. slice_index_or (slice_set chain n w) y nowhere) now ∙ get_or-set_same chain n w nowhere room) had
      | inr before ↦ kept j t low (h.grows i m j t (omega (arith, le, before, next)) (omega arith) low
          (subst (λ y. has x.kind j t y ≡ true) (get_or-set_other chain n i w nowhere before) had))
    ]
