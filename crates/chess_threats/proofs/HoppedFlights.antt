-- Flights that a grasshopper takes over a hurdle next to them.
use Rattle.chess_threats.proofs.Chess.{Bool, Direction, East, Grasshopper, Hop, IsApart, IsUntaken, King, List, Man, None, Option, Some, Step, White, agree_below_at, all_at, along, ap, arith, bit_and, bit_at, bit_or, eq-eqb, false, false_from_ne_true, false≢true, hop-found, hops, inl, inr, is_some, is_square, king-back, leaps, list_all, list_any, man_on, men_on, no_reach_there, not, not-true, not_yet, occupied_squares, off_left, off_right, onward, ordered, passes, queen_steps, range_with_len, reaches_as, refl, same_kind, same_kind-true, step_of, sym, true, word, word_has, ℕ, ◌-◌, ◌<◌, ◌==◌, ◌^◌, ◌∙◌, ◌≡◌, ◌≢◌, ◌≤◌}
use Rattle.chess_attacks.proofs.rays.Lined.{queen_directions}
use Rattle.chess_attacks.proofs.rays.Ends.{stays}
use Rattle.chess_attacks.proofs.rays.Ways.{hop-made}
use Rattle.chess_flights.proofs.Fleeing.{on_second}
use Rattle.chess_attacks.proofs.rays.OnSquares.{empty_on, occupied_on, one_on}
use Rattle.chess_flights.proofs.Bitboards.{on_both}
use Rattle.chess_threats.proofs.Springboards.{some_direction}
use Rattle.std.proofs.lemmas.Nat.{and_le_l}

-- no king's step leads back to a square that the line passed two steps before or earlier
abbrev is_far : ℕ → Option ℕ → Bool
is_far s None = true
is_far s (Some t) = not (list_any (leaps t s) queen_steps)

abbrev is_left_after : Step → ℕ → Bool
is_left_after d s = list_all (λ n. is_far s (along s d n)) (range_with_len 2 6)

left_after : (x : Direction) (s : ℕ) → s < 64 → is_left_after (step_of x) s ≡ true
unfolding along leaps
left_after East s low = agree_below_at (is_left_after (step_of East)) (λ _. true) 64 s refl low
left_after x s low = agree_below_at (is_left_after (step_of x)) (λ _. true) 64 s refl low

far : (x : Direction) (s t n : ℕ) → s < 64 → 2 ≤ n → n < 8 → along s (step_of x) n ≡ Some t → list_any (leaps t s) queen_steps ≡ false
far x s t n low two eight at =
    not-true _ (rw at at (all_at (λ n. is_far s (along s (step_of x) n)) 2 6 n (left_after x s low) two (omega (arith, eight))))

-- a hop from s to f on some board is one over the hurdles next to f, if all men next to f are hurdles
module _ (men : List (Option Man)) (d f s n : ℕ) (near : n ≡ word (λ q. list_any (leaps f q) queen_steps)) (inside : f < 64) (low : s < 64)
    (kept : (h : ℕ) → h < 64 → h ≢ s → list_any (leaps f h) queen_steps ≡ true → is_some (man_on men h) ≡ true → (bit_at d h == 1) ≡ true) where
  abbrev Over : List (Option Man)
  Over = men_on (bit_and d n)

  next_has : (h : ℕ) → h < 64 → (bit_at n h == 1) ≡ list_any (leaps f h) queen_steps
  next_has h small = word_has (λ q. list_any (leaps f q) queen_steps) n h near small

  hop_at : (x : Direction) → ((g : Step → Bool) → g (step_of x) ≡ true → list_any g queen_steps ≡ true) → (k : ℕ) → Hop men s f (step_of x) k
      → Hop Over s f (step_of x) k
  unfolding leaps
  hop_at x some k r =
      let e = step_of x in
      let p = λ (j : ℕ) (lt : j < k). passes s f e k j low (omega (arith, lt)) r.at in
      record {
        low = r.low;
        high = r.high;
        at = r.at;
        hurdle =
            let q = p (k - 1) (omega (arith, r.low)) in
            let step : along q.0 e 1 ≡ Some f = grind (arith, onward s q.0 e (k - 1) 1 q.1.at, r.at, r.low) in
            let beside = sym (king-back q.0 f q.1.small inside) ∙ some (leaps q.0 f) (rw step (eq-eqb f f refl)) in
            let apart = λ (same : q.0 ≡ s). not_yet s q.0 e (k - 1) 0 (ordered x) q.1.at (omega (arith, r.low)) (stays s e low ∙ ap Some (sym same)) in
            rw q.1.at (one_on (bit_and d n) q.0 q.1.small
            ∙ on_both d n q.0 (kept q.0 q.1.small apart beside (rw q.1.at at r.hurdle)) (next_has q.0 q.1.small ∙ beside));
        free = λ j lo hi.
            let q = p j (omega (arith, hi)) in
            let off = far x q.0 f (k - j) q.1.small (omega (arith, hi)) (omega (arith, r.high, lo)) (grind (arith, onward s q.0 e j (k - j) q.1.at, r.at, hi)) in
            rw q.1.at (empty_on (bit_and d n) q.0 (λ on small. false≢true (sym off ∙ sym (next_has q.0 small) ∙ on_second d n q.0 on)));
      }

  hop_over : list_any (hops men s f) queen_steps ≡ true → list_any (hops Over s f) queen_steps ≡ true
  hop_over h =
      let w = some_direction (hops men s f) queen_directions h in
      let x = w.0 in
      let r = hop-found men s f (step_of x) w.1.0 in
      w.1.1 (hops Over s f) (hop-made Over s f (step_of x) r.0 (hop_at x w.1.1 r.0 r.1))

-- for `taking_squares`
pub untaken : (d f n o e : ℕ) → f < 64 → n ≡ word (λ q. list_any (leaps f q) queen_steps) → o ≡ word (λ q. is_square (Some f) q) → d < 2 ^ 64
    → ((men : List (Option Man)) → bit_and d n ≡ occupied_squares men → e ≡ word (λ s. reaches_as men White Grasshopper s f))
    → (x : Man) (k w s b : ℕ) → same_kind x.kind Grasshopper ≡ true → s < 64 → (bit_at w f == 1) ≡ true → (bit_at (bit_or o e) s == 1) ≡ false
    → IsApart k f b → IsUntaken d k w x s b f
unfolding reaches_as
untaken d f n o e inside near only fits comes x k w s b hop low on off apart = record {
  small = inside;
  on = on;
  off = λ same. false≢true (sym (off_left o e s off) ∙ word_has (λ q. is_square (Some f) q) o s only low ∙ eq-eqb f s same);
  elsewhere = apart.elsewhere;
  unreached = λ men r. false_from_ne_true _ (λ h. false≢true (sym (off_right o e s off)
      ∙ word_has (λ s. reaches_as (men_on (bit_and d n)) White Grasshopper s f) e s
      (comes _ (occupied_on (bit_and d n) (omega (arith, fits, and_le_l d n)))) low
      ∙ hop_over men d f s n near inside low (λ h small ne next some.
      let p = r.stand h small (λ same. false≢true (sym (no_reach_there men White King f inside) ∙ (rw same at next))) ne some in
      elim p.1 [ inl stays ↦ stays | inr came ↦ absurd (p.0 (came ∙ apart.beside (rw came at next))) ]) (rw (same_kind-true x.kind Grasshopper hop) at h)));
}
