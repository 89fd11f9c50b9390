-- Where a man can be without a move, if captured men are reborn.
use Rattle.chess_attacks.proofs.Chess.{Bishop, Black, Bool, Colour, Kind, King, Knight, Man, Pawn, Queen, Rook, Some, White, all_at, arith, bit_and, bit_at, bit_not, bit_or, cases_Bool, eq-eqb, false, false≢true, inl, inr, on_left, on_right, range_with_len, rank_of, refl, same_kind-true, subst, sym, true, w64, ℕ, ◌%◌, ◌*◌, ◌+◌, ◌<◌, ◌==◌, ◌^◌, ◌∙◌, ◌≡◌, ◌≢◌, if◌then◌else◌, list_all}
use Rattle.std.specs.Prelude.{◌/◌, ◌||◌, ◌&&◌, not}
use Rattle.chess_core.specs.Position.{is_fairy, same_kind}
use Rattle.chess_core.specs.Squares.{file_of, square_at}
use Rattle.chess_rules.proofs.Chess.{square_at-is}
use Rattle.chess_rules.proofs.Stays.{rebirth_small}
use Rattle.chess_rules.specs.Legal.{last_rank, second_rank}
use Rattle.chess_rules.specs.Play.{is_light}
unfoldable use Rattle.chess_rules.specs.Play.{rebirth}
use Rattle.chess_reach.proofs.Bitboards.{denied_on, on_both}
use Rattle.chess_reach.proofs.Chains.{has_part, knight_part, part_has, pawn_part, piece_part, queen_part}
use Rattle.chess_reach.proofs.Parts.{has_left}
unfoldable use Rattle.chess_reach.proofs.Shifts.{Within}
use Rattle.chess_reach.proofs.Shifts.{down, joined, only_square, up}
use Rattle.chess_reach.specs.declared.whereabouts.Whereabouts.{Whereabouts}
use Rattle.chess_reach.specs.ties.Whereabouts.{has}
use Rattle.chess_reach.specs.ties.Ways.{CanBe, Rests, by_side}

-- two tests agree
abbrev agree : Bool → Bool → Bool
agree a b = (a && b) || (not a && not b)

agree_is : (a b : Bool) → agree a b ≡ true → a ≡ b
agree_is a b h = grind arith

-- the light squares
light_bits : (s : ℕ) → s < 64 → (bit_at 6172840429334713770 s == 1) ≡ is_light s
light_bits s small = agree_is _ _ (all_at (λ s. agree (bit_at 6172840429334713770 s == 1) (is_light s)) 0 64 s refl (omega arith) (omega (arith, small)))

-- what some square of a bitboard brings
abbrev pub Brings : ℕ → ℕ → ℕ → Type 0
Brings a l r = (s h : ℕ) → (bit_at a s == 1) ≡ true → (bit_at l h == 1) ≡ true → (bit_at r h == 1) ≡ true

-- light squares bring one home, dark ones the other
pub by_shades : (w l d a b s h : ℕ) → s < 64 → Brings (bit_and w 6172840429334713770) l a → Brings (bit_and w (bit_not w64 6172840429334713770)) d b
    → (bit_at w s == 1) ≡ true → (bit_at (if is_light s then l else d) h == 1) ≡ true → (bit_at (bit_or a b) h == 1) ≡ true
by_shades w l d a b s h small light dark on home = elim (cases_Bool (is_light s)) [
  | inl y ↦ on_left a b h (light s h (on_both w _ s on (light_bits s small ∙ y)) (rw y at home))
  | inr n ↦ on_right a b h (dark s h (denied_on w _ s (omega arith) small on (light_bits s small ∙ n)) (rw n at home))
]

shade : (b : Bool) (l d i j h : ℕ) → (bit_at l i == 1) ≡ true → (bit_at d j == 1) ≡ true → Some (if b then i else j) ≡ Some h
    → (bit_at (if b then l else d) h == 1) ≡ true
shade true l d i j h on off home = let e : Some i ≡ Some h = home in let same : i ≡ h = cc in subst (λ x. (bit_at l x == 1) ≡ true) same on
shade false l d i j h on off home = let e : Some j ≡ Some h = home in let same : j ≡ h = cc in subst (λ x. (bit_at d x == 1) ≡ true) same off

pub rooks_home : (c : Colour) (s h l d : ℕ) → l ≡ by_side c 128 72057594037927936 → d ≡ by_side c 1 9223372036854775808 → rebirth c Rook s ≡ Some h
    → (bit_at (if is_light s then l else d) h == 1) ≡ true
unfolding rebirth
rooks_home White s h l d e f home = shade (is_light s) l d 7 0 h (rw e refl) (rw f refl) home
rooks_home Black s h l d e f home = shade (is_light s) l d 56 63 h (rw e refl) (rw f refl) home

pub bishops_home : (c : Colour) (s h l d : ℕ) → l ≡ by_side c 32 288230376151711744 → d ≡ by_side c 4 2305843009213693952 → rebirth c Bishop s ≡ Some h
    → (bit_at (if is_light s then l else d) h == 1) ≡ true
unfolding rebirth
bishops_home White s h l d e f home = shade (is_light s) l d 5 2 h (rw e refl) (rw f refl) home
bishops_home Black s h l d e f home = shade (is_light s) l d 58 61 h (rw e refl) (rw f refl) home

pub knights_home : (c : Colour) (s h l d : ℕ) → l ≡ by_side c 2 4611686018427387904 → d ≡ by_side c 64 144115188075855872 → rebirth c Knight s ≡ Some h
    → (bit_at (if is_light s then l else d) h == 1) ≡ true
unfolding rebirth
knights_home White s h l d e f home = shade (is_light s) l d 1 6 h (rw e refl) (rw f refl) home
knights_home Black s h l d e f home = shade (is_light s) l d 62 57 h (rw e refl) (rw f refl) home

only_home : (i h w : ℕ) → (bit_at w i == 1) ≡ true → Some i ≡ Some h → (bit_at w h == 1) ≡ true
only_home i h w on home = let same : i ≡ h = cc in subst (λ x. (bit_at w x == 1) ≡ true) same on

pub queens_home : (c : Colour) (s h w : ℕ) → w ≡ by_side c 8 576460752303423488 → rebirth c Queen s ≡ Some h → (bit_at w h == 1) ≡ true
unfolding rebirth
queens_home White s h w e home = only_home 3 h w (rw e refl) home
queens_home Black s h w e home = only_home 59 h w (rw e refl) home

-- whole files
abbrev two : ℕ → ℕ
two w = bit_or (bit_or w (w * 2 ^ 8 % 2 ^ 64)) (w / 2 ^ 8)

abbrev four : ℕ → ℕ
four w = bit_or (bit_or (two w) (two w * 2 ^ 16 % 2 ^ 64)) (two w / 2 ^ 16)

abbrev pub files : ℕ → ℕ
files w = bit_or (bit_or (four w) (four w * 2 ^ 32 % 2 ^ 64)) (four w / 2 ^ 32)

two_grows : (a b : ℕ) → Within a b → Within (two a) (two b)
two_grows a b inside = joined _ _ (joined a b inside _ _ (up a b inside 8)) _ _ (down a b inside 8)

four_grows : (a b : ℕ) → Within a b → Within (four a) (four b)
four_grows a b inside = let more = two_grows a b inside in joined _ _ (joined _ _ more _ _ (up _ _ more 16)) _ _ (down _ _ more 16)

files_grow : (a b : ℕ) → Within a b → Within (files a) (files b)
files_grow a b inside = let more = four_grows a b inside in joined _ _ (joined _ _ more _ _ (up _ _ more 32)) _ _ (down _ _ more 32)

files_alone : list_all (λ s. list_all (λ r. bit_at (files (2 ^ s)) (s % 8 + 8 * r) == 1) (range_with_len 0 8)) (range_with_len 0 64) ≡ true
files_alone = refl

pub whole_files : (w s t : ℕ) → s < 64 → t < 64 → (bit_at w s == 1) ≡ true → file_of t ≡ file_of s → (bit_at (files w) t == 1) ≡ true
unfolding Within
whole_files w s t small low on same =
    files_grow (2 ^ s) w (only_square s w on) t (subst (λ x. (bit_at (files (2 ^ s)) x == 1) ≡ true) (omega (arith, same))
    (all_at (λ r. bit_at (files (2 ^ s)) (s % 8 + 8 * r) == 1) 0 8 (t / 8)
    (all_at (λ s. list_all (λ r. bit_at (files (2 ^ s)) (s % 8 + 8 * r) == 1) (range_with_len 0 8)) 0 64 s files_alone (omega arith) (omega (arith, small)))
    (omega arith) (omega (arith, low))))

-- a rank of whole files
on_rank : (f m s h r : ℕ) → s < 64 → h < 64 → square_at (file_of s) r ≡ Some h
    → ((t : ℕ) → t < 64 → file_of t ≡ file_of s → (bit_at f t == 1) ≡ true) → ((t : ℕ) → t < 64 → (bit_at m t == 1) ≡ (rank_of t == r))
    → (bit_at (bit_and f m) h == 1) ≡ true
on_rank f m s h r small low home file rank =
    let is = square_at-is (file_of s) r h (rw home (eq-eqb h h refl)) in
    on_both f m h (file h low (sym is.file)) (rank h low ∙ eq-eqb (rank_of h) r (sym is.rank))

pub pawns_home : (c : Colour) (f m s h : ℕ) → s < 64 → rebirth c Pawn s ≡ Some h → ((t : ℕ) → t < 64 → file_of t ≡ file_of s → (bit_at f t == 1) ≡ true)
    → ((t : ℕ) → t < 64 → (bit_at m t == 1) ≡ (rank_of t == second_rank c)) → (bit_at (bit_and f m) h == 1) ≡ true
unfolding rebirth
pawns_home White f m s h small home file rank = on_rank f m s h 2 small (rebirth_small White Pawn s h home) home file rank
pawns_home Black f m s h small home file rank = on_rank f m s h 7 small (rebirth_small Black Pawn s h home) home file rank

-- a kind that is none of the six is fairy
pub fairy_kind : (k : Kind) → k ≢ King → k ≢ Queen → k ≢ Rook → k ≢ Bishop → k ≢ Knight → k ≢ Pawn → is_fairy k ≡ true
fairy_kind King k q r b n p = absurd (k refl)
fairy_kind Queen k q r b n p = absurd (q refl)
fairy_kind Rook k q r b n p = absurd (r refl)
fairy_kind Bishop k q r b n p = absurd (b refl)
fairy_kind Knight k q r b n p = absurd (n refl)
fairy_kind Pawn k q r b n p = absurd (p refl)
fairy_kind fairy k q r b n p = refl

-- a fairy man is reborn at the far end of its file
fairy_rebirth : (c : Colour) (k : Kind) (s : ℕ) → is_fairy k ≡ true → rebirth c k s ≡ square_at (file_of s) (last_rank c)
unfolding rebirth
fairy_rebirth c King s fairy = absurd (false≢true fairy)
fairy_rebirth c Queen s fairy = absurd (false≢true fairy)
fairy_rebirth c Rook s fairy = absurd (false≢true fairy)
fairy_rebirth c Bishop s fairy = absurd (false≢true fairy)
fairy_rebirth c Knight s fairy = absurd (false≢true fairy)
fairy_rebirth c Pawn s fairy = absurd (false≢true fairy)
fairy_rebirth White k s fairy = refl
fairy_rebirth Black k s fairy = refl

pub fairy_home : (c : Colour) (k : Kind) (f m s h : ℕ) → is_fairy k ≡ true → s < 64 → rebirth c k s ≡ Some h
    → ((t : ℕ) → t < 64 → file_of t ≡ file_of s → (bit_at f t == 1) ≡ true)
    → ((t : ℕ) → t < 64 → (bit_at m t == 1) ≡ (rank_of t == last_rank c)) → (bit_at (bit_and f m) h == 1) ≡ true
fairy_home c k f m s h fairy small home file rank =
    on_rank f m s h (last_rank c) small (rebirth_small c k s h home) (sym (fairy_rebirth c k s fairy) ∙ home) file rank

-- no king is reborn
pub king_dies : (c : Colour) (s h : ℕ) → rebirth c King s ≡ Some h → (Q : Type 0) → Q
unfolding rebirth
king_dies White s h home Q = grind (arith, home)
king_dies Black s h home Q = grind (arith, home)

-- promoted men are reborn where one of four kinds is
pub promoted_home : (c : Colour) (k : Kind) (s h q r b g : ℕ) → k ≢ Knight → k ≢ Pawn → rebirth c k s ≡ Some h
    → (rebirth c Queen s ≡ Some h → (bit_at q h == 1) ≡ true) → (rebirth c Rook s ≡ Some h → (bit_at r h == 1) ≡ true)
    → (rebirth c Bishop s ≡ Some h → (bit_at b h == 1) ≡ true) → ((j : Kind) → is_fairy j ≡ true → rebirth c j s ≡ Some h → (bit_at g h == 1) ≡ true)
    → (bit_at (bit_or (bit_or (bit_or q r) b) g) h == 1) ≡ true
promoted_home c King s h q r b g n p home queens rooks bishops fairies = king_dies c s h home _
promoted_home c Queen s h q r b g n p home queens rooks bishops fairies = on_left _ g h (on_left _ b h (on_left q r h (queens home)))
promoted_home c Rook s h q r b g n p home queens rooks bishops fairies = on_left _ g h (on_left _ b h (on_right q r h (rooks home)))
promoted_home c Bishop s h q r b g n p home queens rooks bishops fairies = on_left _ g h (on_right (bit_or q r) b h (bishops home))
promoted_home c Knight s h q r b g n p home queens rooks bishops fairies = absurd (n refl)
promoted_home c Pawn s h q r b g n p home queens rooks bishops fairies = absurd (p refl)
promoted_home c k s h q r b g n p home queens rooks bishops fairies = on_right (bit_or (bit_or q r) b) g h (fairies k refl home)

not_of : (k j : Kind) → same_kind k j ≡ false → k ≢ j
not_of k j off same = grind (arith, off, same)

-- homes are added to where the man can be
module _ (rb : Bool) (x : Man) (v : Whereabouts) (us qs ns : ℕ) where
  abbrev rest : Whereabouts
  rest = record { unpromoted = bit_or v.unpromoted us; queen = bit_or v.queen qs; knight = bit_or v.knight ns }

  pub rest_kept : (j : Kind) (t : ℕ) → has x.kind j t v ≡ true → has x.kind j t rest ≡ true
  rest_kept j t had = has_left x.kind j t v.unpromoted v.queen v.knight us qs ns had

  module _ (own : (s h : ℕ) → s < 64 → (bit_at v.unpromoted s == 1) ≡ true → rebirth x.colour x.kind s ≡ Some h → (bit_at us h == 1) ≡ true)
      (queens : (k : Kind) (s h : ℕ) → k ≢ Knight → k ≢ Pawn → s < 64 → (bit_at v.queen s == 1) ≡ true → rebirth x.colour k s ≡ Some h
      → (bit_at qs h == 1) ≡ true)
      (knights : (s h : ℕ) → s < 64 → (bit_at v.knight s == 1) ≡ true → rebirth x.colour Knight s ≡ Some h → (bit_at ns h == 1) ≡ true) where
    born_on : (j : Kind) (r t : ℕ) → r < 64 → CanBe x.kind j → has x.kind j r v ≡ true → rebirth x.colour j r ≡ Some t → has x.kind j t rest ≡ true
    born_on j r t low be had home = elim (cases_Bool (same_kind x.kind Pawn)) [
      | inr piece ↦ part_has x.kind j t rest _ (piece_part x.kind j rest piece)
          (on_right v.unpromoted us t (own r t low (has_part x.kind j r v _ (piece_part x.kind j v piece) had)
          (subst (λ k. rebirth x.colour k r ≡ Some t) (be.piece piece) home)))
      | inl pawn ↦ elim (cases_Bool (same_kind j Pawn)) [
        | inl still ↦ part_has x.kind j t rest _ (pawn_part x.kind j rest still)
            (on_right v.unpromoted us t (own r t low (has_part x.kind j r v _ (pawn_part x.kind j v still) had)
            (subst (λ k. rebirth x.colour k r ≡ Some t) (same_kind-true j Pawn still ∙ sym (same_kind-true x.kind Pawn pawn)) home)))
        | inr piece ↦ elim (cases_Bool (same_kind j Knight)) [
          | inl too ↦ part_has x.kind j t rest _ (knight_part x.kind j rest pawn piece too)
              (on_right v.knight ns t (knights r t low (has_part x.kind j r v _ (knight_part x.kind j v pawn piece too) had)
              (subst (λ k. rebirth x.colour k r ≡ Some t) (same_kind-true j Knight too) home)))
          | inr nor ↦ part_has x.kind j t rest _ (queen_part x.kind j rest pawn piece nor)
              (on_right v.queen qs t (queens j r t (not_of j Knight nor) (not_of j Pawn piece) low
              (has_part x.kind j r v _ (queen_part x.kind j v pawn piece nor) had) home))
        ]
      ]
    ]

    pub rest_reborn : Rests rb x v rest
    rest_reborn = record {
      rests = λ j r t low be had start. elim start [
        | inl same ↦ subst (λ q. has x.kind j q rest ≡ true) same (rest_kept j r had)
        | inr reborn ↦ born_on j r t low be had reborn.1
      ];
    }
