-- The squares where a man can be, part by part.
use Rattle.chess_attacks.proofs.Chess.{Some, cases_Bool, cond-false, eq-eqb, eqb-true, false≢true, inl, inr, is_square, refl, subst, sym, word_has, word_only}
use Rattle.chess_attacks.proofs.Basics.{Bool, ap, arith, bit_and, bit_at, bit_not, bit_or, false, if◌then◌else◌, not, one_shl, true, w64, ℕ, ◌%◌, ◌&&◌, ◌*◌, ◌<◌, ◌==◌, ◌^◌, ◌∙◌, ◌≡◌}
use Rattle.chess_attacks.proofs.Bits.{off_zero, on_left, on_right}
use Rattle.std.proofs.lemmas.Nat.Bits.{bit_at-pow_same}
use Rattle.chess_core.specs.Position.{same_kind}
use Rattle.chess_core.specs.declared.man.Kind.{Kind}
use Rattle.chess_core.specs.declared.man.Kind.TheVariants.{Knight, Pawn}
use Rattle.chess_reach.proofs.Bitboards.{denied_on, on_both, some_on}
use Rattle.chess_reach.specs.ties.Whereabouts.{has}

-- of three bitboards the one that two tests choose
abbrev chosen : Bool → Bool → ℕ → ℕ → ℕ → ℕ
chosen p r a q n = if p then (if r then n else q) else a

chosen_both : (p r : Bool) (a q n b s m : ℕ) → chosen p r (bit_and a b) (bit_and q s) (bit_and n m) ≡ bit_and (chosen p r a q n) (chosen p r b s m)
chosen_both p r a q n b s m = grind arith

chosen_off : (p r : Bool) (a q n b s m : ℕ) → chosen p r (bit_and a (bit_not w64 b)) (bit_and q (bit_not w64 s)) (bit_and n (bit_not w64 m))
    ≡ bit_and (chosen p r a q n) (bit_not w64 (chosen p r b s m))
chosen_off p r a q n b s m = grind arith

chosen_small : (p r : Bool) (a q n : ℕ) → a < 2 ^ 64 → q < 2 ^ 64 → n < 2 ^ 64 → chosen p r a q n < 2 ^ 64
chosen_small p r a q n x y z = grind arith

-- what two have, their shared squares have
pub has_both : (k j : Kind) (t : ℕ) (a q n b s m : ℕ) → has k j t (record { unpromoted = a; queen = q; knight = n }) ≡ true
    → has k j t (record { unpromoted = b; queen = s; knight = m }) ≡ true
    → has k j t (record { unpromoted = bit_and a b; queen = bit_and q s; knight = bit_and n m }) ≡ true
has_both k j t a q n b s m h i =
    ap (λ x. bit_at x t == 1) (chosen_both (same_kind k Pawn && not (same_kind j Pawn)) (same_kind j Knight) a q n b s m) ∙ on_both _ _ t h i

-- what the first has and the second hasn't, the rest has
pub has_off : (k j : Kind) (t : ℕ) (a q n b s m : ℕ) → b < 2 ^ 64 → s < 2 ^ 64 → m < 2 ^ 64 → t < 64
    → has k j t (record { unpromoted = a; queen = q; knight = n }) ≡ true
    → has k j t (record { unpromoted = b; queen = s; knight = m }) ≡ false
    → has k j t (record { unpromoted = bit_and a (bit_not w64 b); queen = bit_and q (bit_not w64 s); knight = bit_and n (bit_not w64 m) }) ≡ true
has_off k j t a q n b s m x y z small h i =
    let p = same_kind k Pawn && not (same_kind j Pawn) in
    ap (λ x. bit_at x t == 1) (chosen_off p (same_kind j Knight) a q n b s m)
    ∙ denied_on _ _ t (chosen_small p (same_kind j Knight) b s m x y z) small h i

-- a part of three is one of all three together
part_joined : (p r : Bool) (t a q n : ℕ) → (bit_at (chosen p r a q n) t == 1) ≡ true → (bit_at (bit_or (bit_or a q) n) t == 1) ≡ true
part_joined true true t a q n h = on_right (bit_or a q) n t h
part_joined true false t a q n h = on_left (bit_or a q) n t (on_right a q t h)
part_joined false r t a q n h = on_left (bit_or a q) n t (on_left a q t h)

-- where a man can be at all
pub has_some : (k j : Kind) (t : ℕ) (a q n : ℕ) → has k j t (record { unpromoted = a; queen = q; knight = n }) ≡ true
    → (bit_at (bit_or (bit_or a q) n) t == 1) ≡ true
has_some k j t a q n h = part_joined (same_kind k Pawn && not (same_kind j Pawn)) (same_kind j Knight) t a q n h

-- two meet where both have a square
pub has_meeting : (k j : Kind) (t : ℕ) (a q n b s m : ℕ) → has k j t (record { unpromoted = a; queen = q; knight = n }) ≡ true
    → has k j t (record { unpromoted = b; queen = s; knight = m }) ≡ true
    → not (bit_or (bit_or (bit_and a b) (bit_and q s)) (bit_and n m) == 0) ≡ true
has_meeting k j t a q n b s m h i = ap not (some_on _ t (has_some k j t _ _ _ (has_both k j t a q n b s m h i)))

-- a man is now on its square
pub has_now : (k : Kind) (s : ℕ) → s < 64 → has k k s (record { unpromoted = 1 * 2 ^ s % 2 ^ 64; queen = 0; knight = 0 }) ≡ true
has_now k s small = grind (arith, one_shl s 64 small, bit_at-pow_same s)

-- and nowhere else, nor promoted
pub has_now_alone : (k j : Kind) (s t : ℕ) → s < 64 → t < 64 → has k j t (record { unpromoted = 1 * 2 ^ s % 2 ^ 64; queen = 0; knight = 0 }) ≡ true
    → (t ≡ s) × (same_kind k Pawn ≡ true → same_kind j Pawn ≡ true)
has_now_alone k j s t small low h = elim (cases_Bool (same_kind k Pawn && not (same_kind j Pawn))) [
  | inl promoted ↦ absurd (false≢true (sym (off_zero t) ∙ sym (nothing (same_kind k Pawn && not (same_kind j Pawn)) (same_kind j Knight) promoted) ∙ h))
  | inr same ↦ (
    sym (eqb-true s t (sym (word_has (λ t. is_square (Some s) t) _ t (word_only s small) low) ∙ sym (ap (λ x. bit_at x t == 1) (cond-false (same_kind k Pawn && not (same_kind j Pawn)) _ _ same)) ∙ h)),
    λ pawn. grind (arith, same, pawn),
  )
]
  where
    nothing : (p r : Bool) → p ≡ true → (bit_at (chosen p r (1 * 2 ^ s % 2 ^ 64) 0 0) t == 1) ≡ (bit_at 0 t == 1)
    nothing p r is = grind (arith, cases_Bool r, is)

-- a square of each part
pub has_all : (k j : Kind) (s : ℕ) → s < 64
    → has k j s (record { unpromoted = 1 * 2 ^ s % 2 ^ 64; queen = 1 * 2 ^ s % 2 ^ 64; knight = 1 * 2 ^ s % 2 ^ 64 }) ≡ true
has_all k j s small = grind (arith, one_shl s 64 small, bit_at-pow_same s)

chosen_either : (p r : Bool) (a q n b s m : ℕ) → chosen p r (bit_or a b) (bit_or q s) (bit_or n m) ≡ bit_or (chosen p r a q n) (chosen p r b s m)
chosen_either p r a q n b s m = grind arith

-- what one has, the squares of either have
pub has_left : (k j : Kind) (t : ℕ) (a q n b s m : ℕ) → has k j t (record { unpromoted = a; queen = q; knight = n }) ≡ true
    → has k j t (record { unpromoted = bit_or a b; queen = bit_or q s; knight = bit_or n m }) ≡ true
has_left k j t a q n b s m h =
    ap (λ x. bit_at x t == 1) (chosen_either (same_kind k Pawn && not (same_kind j Pawn)) (same_kind j Knight) a q n b s m) ∙ on_left _ _ t h

pub has_right : (k j : Kind) (t : ℕ) (a q n b s m : ℕ) → has k j t (record { unpromoted = b; queen = s; knight = m }) ≡ true
    → has k j t (record { unpromoted = bit_or a b; queen = bit_or q s; knight = bit_or n m }) ≡ true
has_right k j t a q n b s m h =
    ap (λ x. bit_at x t == 1) (chosen_either (same_kind k Pawn && not (same_kind j Pawn)) (same_kind j Knight) a q n b s m) ∙ on_right _ _ t h

-- what any square of a bitboard brings
abbrev Brings : ℕ → ℕ → ℕ → Type 0
Brings a z b = (s h : ℕ) → (bit_at a s == 1) ≡ true → (bit_at (1 * 2 ^ z % 2 ^ 64) h == 1) ≡ true → (bit_at b h == 1) ≡ true

brought : (p r : Bool) (s z a q n b t m : ℕ) → z < 64 → Brings a z b → Brings q z t → Brings n z m → (bit_at (chosen p r a q n) s == 1) ≡ true
    → (bit_at (chosen p r b t m) z == 1) ≡ true
brought true true s z a q n b t m small x y w h = w s z h (word_has (λ i. is_square (Some z) i) _ z (word_only z small) small ∙ eq-eqb z z refl)
brought true false s z a q n b t m small x y w h = y s z h (word_has (λ i. is_square (Some z) i) _ z (word_only z small) small ∙ eq-eqb z z refl)
brought false r s z a q n b t m small x y w h = x s z h (word_has (λ i. is_square (Some z) i) _ z (word_only z small) small ∙ eq-eqb z z refl)

-- all that a man can be is put on one square
pub has_brought : (k j : Kind) (s z i : ℕ) (a q n b t m : ℕ) → i ≡ z → z < 64 → Brings a i b → Brings q i t → Brings n i m
    → has k j s (record { unpromoted = a; queen = q; knight = n }) ≡ true → has k j z (record { unpromoted = b; queen = t; knight = m }) ≡ true
has_brought k j s z i a q n b t m same small x y w h =
    brought (same_kind k Pawn && not (same_kind j Pawn)) (same_kind j Knight) s z a q n b t m small (subst (λ e. Brings a e b) same x)
    (subst (λ e. Brings q e t) same y) (subst (λ e. Brings n e m) same w) h
