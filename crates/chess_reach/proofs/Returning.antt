-- A knight doesn't come back in one move, and a pawn never.
use Rattle.chess_attacks.proofs.Chess.{Black, Bool, Colour, Kind, Knight, Pawn, White, all_at, along, ap, arith, cases_Bool, false, false≢true, first_of_and, forward, inl, inr, is_square, leaps, list_all, list_any, not, or_cases, and_parts, pawn_capture_steps, knight_steps, range_with_len, rank_of, reaches_as, refl, same_kind-true, subst, suc, sym, true, zero, ℕ, ◌&&◌, ◌<◌, ◌∙◌, ◌≡◌, ◌≢◌, ◌||◌, ◌==◌}
use Rattle.chess_core.proofs.Boards.{along-is}
use Rattle.chess_core.specs.Position.{same_kind}
use Rattle.chess_reach.proofs.Chains.{gets_be}
use Rattle.chess_rules.specs.Legal.{second_rank}
unfoldable use Rattle.chess_reach.specs.Reach.{Gets, goes, guards, pawn_goes}
use Rattle.chess_reach.specs.Reach.{Starts}
use Rattle.chess_reach.specs.ties.Ways.{IsUsual}

none_leaps_back : list_all (λ s. not (list_any (leaps s s) knight_steps)) (range_with_len 0 64) ≡ true
unfolding leaps along
none_leaps_back = refl

knight_leaves : (c : Colour) (s : ℕ) → s < 64 → guards c Knight s s ≡ true → ⊥
unfolding guards reaches_as
knight_leaves c s small h = false≢true (ap not (sym h) ∙ all_at (λ s. not (list_any (leaps s s) knight_steps)) 0 64 s none_leaps_back (omega arith) (omega (arith, small)))

-- where nobody is reborn a man starts where it is
pub starts_there : (rb : Bool) (c : Colour) (k : Kind) (s t : ℕ) → rb ≡ false → Starts rb c k s t → s ≡ t
starts_there rb c k s t mortal (inl same) = same
starts_there rb c k s t mortal (inr reborn) = absurd (false≢true (sym mortal ∙ reborn.0))

-- where nobody is reborn a knight isn't back after one move
pub knight_back : (rb : Bool) (allowed : Kind → Bool) (takes : ℕ → Bool) (c : Colour) (n : ℕ) (k : Kind) (s : ℕ) (j : Kind) (t : ℕ) → rb ≡ false → s < 64 → k ≡ Knight
    → Gets rb allowed takes c n k s j t → t ≡ s → n ≢ 1
unfolding Gets goes
knight_back rb allowed takes c zero k s j t mortal small is way same one = absurd (omega (arith, one))
knight_back rb allowed takes c (suc zero) k s j t mortal small is (h, i, q, start, go, (kind, there)) same one =
    let at = starts_there rb c k s h mortal start in
    let go_is = subst (λ x. goes allowed takes c k x i q ≡ true) (sym at) go in
    let leap = subst (λ x. goes allowed takes c x s i q ≡ true) is go_is in
    knight_leaves c s small (subst (λ x. guards c Knight s x ≡ true) (starts_there rb c i q t mortal there ∙ same) (first_of_and (guards c Knight s q) _ leap))
knight_back rb allowed takes c (suc (suc n)) k s j t mortal small is way same one = absurd (omega (arith, one))

-- t is on a rank farther ahead than s
abbrev IsBehind : Colour → ℕ → ℕ → Type 0
IsBehind White s t = rank_of s < rank_of t
IsBehind Black s t = rank_of t < rank_of s

behind_all : (c : Colour) (s q t : ℕ) → IsBehind c s q → IsBehind c q t → IsBehind c s t
behind_all White s q t a b = omega (arith, a, b)
behind_all Black s q t a b = omega (arith, a, b)

not_behind : (c : Colour) (s t : ℕ) → IsBehind c s t → t ≡ s → ⊥
not_behind White s t a same = omega (arith, a, ap rank_of same)
not_behind Black s t a same = omega (arith, a, ap rank_of same)

ahead : (c : Colour) (s t n : ℕ) → is_square (along s (forward c) (suc n)) t ≡ true → IsBehind c s t
ahead White s t n h = omega (arith, (along-is s (forward White) (suc n) t h).rank)
ahead Black s t n h = omega (arith, (along-is s (forward Black) (suc n) t h).rank)

captures_ahead : (c : Colour) (s t : ℕ) → list_any (leaps s t) (pawn_capture_steps c) ≡ true → IsBehind c s t
unfolding leaps
captures_ahead White s t h = grind (arith, along-is, or_cases)
captures_ahead Black s t h = grind (arith, along-is, or_cases)

pawn_advances : (takes : ℕ → Bool) (c : Colour) (s t : ℕ) → pawn_goes takes c s t ≡ true → IsBehind c s t
unfolding pawn_goes guards reaches_as
pawn_advances takes c s t go =
    elim (or_cases (is_square (along s (forward c) 1) t || (rank_of s == second_rank c && is_square (along s (forward c) 2) t)) (guards c Pawn s t && takes t) go) [
      | inl step ↦ elim (or_cases (is_square (along s (forward c) 1) t) (rank_of s == second_rank c && is_square (along s (forward c) 2) t) step) [
        | inl one ↦ ahead c s t 0 one
        | inr two ↦ ahead c s t 1 (and_parts _ _ two).1
      ]
      | inr capture ↦ captures_ahead c s t (and_parts (guards c Pawn s t) (takes t) capture).0
    ]

pawn_way : (allowed : Kind → Bool) (takes : ℕ → Bool) (c : Colour) (s : ℕ) (i : Kind) (q : ℕ) → goes allowed takes c Pawn s i q ≡ true → pawn_goes takes c s q ≡ true
unfolding goes
pawn_way allowed takes c s i q go = first_of_and (pawn_goes takes c s q) _ go

-- a pawn that moves is farther ahead
pawn_ahead : (rb : Bool) (allowed : Kind → Bool) (takes : ℕ → Bool) (c : Colour) (n : ℕ) (s t : ℕ) → rb ≡ false → IsUsual allowed → Gets rb allowed takes c (suc n) Pawn s Pawn t → IsBehind c s t
unfolding Gets
pawn_ahead rb allowed takes c zero s t mortal usual (h, i, q, start, go, (kind, there)) =
    subst (λ x. IsBehind c s x) (starts_there rb c i q t mortal there)
    (subst (λ x. IsBehind c x q) (sym (starts_there rb c Pawn s h mortal start)) (pawn_advances takes c h q (pawn_way allowed takes c h i q go)))
pawn_ahead rb allowed takes c (suc n) s t mortal usual (h, i, q, start, go, rest) =
    let first : IsBehind c s q = subst (λ x. IsBehind c x q) (sym (starts_there rb c Pawn s h mortal start))
    (pawn_advances takes c h q (pawn_way allowed takes c h i q go)) in
    elim (cases_Bool (same_kind i Pawn)) [
      | inl pawn ↦ behind_all c s q t first
          (pawn_ahead rb allowed takes c n q t mortal usual (subst (λ x. Gets rb allowed takes c (suc n) x q Pawn t) (same_kind-true i Pawn pawn) rest))
      | inr piece ↦ absurd (false≢true (sym piece ∙ subst (λ x. same_kind x Pawn ≡ true) ((gets_be rb allowed takes c (suc n) i q Pawn t usual rest).piece piece) refl))
    ]

-- and never comes back
pub pawn_back : (rb : Bool) (allowed : Kind → Bool) (takes : ℕ → Bool) (c : Colour) (n : ℕ) (k : Kind) (s : ℕ) (j : Kind) (t : ℕ) → rb ≡ false → IsUsual allowed → k ≡ Pawn → j ≡ Pawn
    → Gets rb allowed takes c n k s j t → t ≡ s → n ≡ 0
pawn_back rb allowed takes c zero k s j t mortal usual is too way same = refl
pawn_back rb allowed takes c (suc n) k s j t mortal usual is too way same =
    absurd (not_behind c s t (pawn_ahead rb allowed takes c n s t mortal usual (subst (λ x. Gets rb allowed takes c (suc n) Pawn s x t) too
    (subst (λ x. Gets rb allowed takes c (suc n) x s j t) is way))) same)
