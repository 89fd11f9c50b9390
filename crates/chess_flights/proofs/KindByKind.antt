-- A property of the attackers of each kind is a property of all attackers.
use Rattle.chess_flights.proofs.Chess.{Attackers, Colour, IsAttacker, Kind, Man, ap, bit_at, refl, squares_for, subst, sym, true, ℕ, ◌<◌, ◌==◌, ◌∙◌, ◌≡◌, AreAttackers, List, Option, Some, arith, eq-eqb, is_man, man_on, squares_of, word_has}
use Rattle.chess_flights.proofs.Bitboards.{man_of_word}

-- the man on a square is of its colour and kind
pub man_there : (men : List (Option Man)) (s : ℕ) (x : Man) (c : Colour) → man_on men s ≡ Some x → x.colour ≡ c → is_man (man_on men s) c x.kind ≡ true
man_there men s x c here mine = grind (arith, eq-eqb)

-- a man by its colour and its kind
pub man_is : (x : Man) (c : Colour) (k : Kind) → x.colour ≡ c → x.kind ≡ k → record { colour = c; kind = k } ≡ x
man_is x c k colour kind = rw (← colour, ← kind) refl

-- the men of the board
pub attackers_are : (men : List (Option Man)) (a : Attackers) → ((k : Kind) → squares_for a k ≡ squares_of men a.colour k) → AreAttackers men a
unfolding squares_of
attackers_are men a are = grind (arith, man_is, man_of_word, man_there, word_has, are)

module _ (a : Attackers) (P : Man → ℕ → Type 0) where
  -- P holds of the attackers of one kind, square by square
  abbrev pub HoldsOf : Kind → Type 0
  HoldsOf k = (s : ℕ) → s < 64 → (bit_at (squares_for a k) s == 1) ≡ true → P (record { colour = a.colour; kind = k }) s

  -- P holds of each attacker of that kind
  pub of_kind : (k : Kind) (s : ℕ) (x : Man) → HoldsOf k → IsAttacker a x s → x.kind ≡ k → P x s
  of_kind k s x h i kind =
      subst (λ (y : Man). P y s) (man_is x a.colour k i.mine kind) (h s i.small (ap (λ (j : Kind). bit_at (squares_for a j) s == 1) (sym kind) ∙ i.on))

  -- what holds of each kind holds of every attacker
  pub of_all : ((k : Kind) → HoldsOf k) → (s : ℕ) (x : Man) → IsAttacker a x s → P x s
  of_all holds s x i = of_kind x.kind s x (holds x.kind) i refl
