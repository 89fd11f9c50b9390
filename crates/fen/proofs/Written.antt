-- The men of a text as they are written, square by square.
use Rattle.fen.proofs.Basics.{List, None, Option, Some, [], ap, append-nil, append_assoc, arith, cond-false, cond-true, eq-eqb, false, ne_eqb, refl, suc, sym, true, zero, ℕ, ◌%◌, ◌+◌, ◌++◌, ◌<◌, ◌∙◌, ◌∷◌, ◌≡◌, ◌≤◌, inl, inr, cases_eq, and_from, le-leb, eqb}
use Rattle.chess_core.specs.declared.man.Man.{Man}
use Rattle.chess_core.specs.Position.{man_on}
use Rattle.fen.specs.Letters.{man_text}
use Rattle.fen.specs.Fen.{is_digit, with_empty, with_square}
use Rattle.fen.specs.ties.Reading.{mark, square_before, text_from, with_mark}
use Rattle.fen.specs.ties.Writing.{empty_left, empty_next, mark_text, number_text, written_text}
use Rattle.fen.proofs.Loop.{text_last, text_next}
use Rattle.fen.proofs.Steps.{far_digit, man_first, mark_no_digit, with_mark_end, with_mark_within}

-- a text after this number of empty squares
abbrev pub with_empties : ℕ → List ℕ → List ℕ
with_empties zero text = text
with_empties (suc n) text = with_empties n (with_empty text)

-- a number grows
with_empties_digit : (n m : ℕ) (text : List ℕ) → m + n < 8 → with_empties n ((49 + m) ∷ text) ≡ (49 + (m + n)) ∷ text
unfolding with_empty
with_empties_digit zero m text h = let e : m + zero ≡ m = omega arith in rw e refl
with_empties_digit (suc n) m text h =
    let digit : is_digit (49 + m) ≡ true = and_from _ _ (le-leb 49 (49 + m) (omega arith)) (le-leb (49 + m) 56 (omega arith)) in
    let e : 49 + m + 1 ≡ 49 + (m + 1) = omega arith in
    let f : m + 1 + n ≡ m + suc n = omega arith in
    ap (with_empties n) (cond-true (is_digit (49 + m)) _ _ digit ∙ ap (λ x. x ∷ text) e)
    ∙ with_empties_digit n (m + 1) text (omega arith) ∙ ap (λ x. (49 + x) ∷ text) f

-- empty squares before what is no digit are a number
with_empties_other : (n first : ℕ) (text : List ℕ) → n ≤ 8 → is_digit first ≡ false → with_empties n (first ∷ text) ≡ number_text n ++ (first ∷ text)
unfolding with_empty
with_empties_other zero first text h other = refl
with_empties_other (suc n) first text h other =
    ap (with_empties n) (cond-false (is_digit first) _ _ other) ∙ with_empties_digit n 0 (first ∷ text) (omega arith) ∙ ap (λ x. (49 + x) ∷ first ∷ text) (let e : 0 + n ≡ n = omega arith in e)

-- what is written for a square
written_square : (empty : ℕ) (found : Option Man) (text : List ℕ) → empty ≤ 8
    → with_empties empty (with_square found text) ≡ written_text empty found ++ with_empties (empty_next empty found) text
unfolding with_square
written_square empty None text h = let e : empty + 1 ≡ suc empty = omega arith in rw e refl
written_square empty (Some man) text h =
    let f = man_first man text in
    ap (with_empties empty) f.2 ∙ with_empties_other empty f.0 f.1 h (far_digit f.0 f.3) ∙ ap (λ t. number_text empty ++ t) (sym f.2)
    ∙ sym (append_assoc (number_text empty) (man_text man) text)

-- what is written at the end of a rank
written_mark : (after empty : ℕ) (text : List ℕ) → empty ≤ 8
    → with_empties empty (with_mark after text) ≡ mark_text after empty ++ with_empties (empty_left after empty) text
written_mark after empty text h = elim (cases_eq (after % 8) 0) [
  | inl e ↦
      let t = eq-eqb _ _ e in
      rw (with_mark_end after text e, t)
      (with_empties_other empty (mark after) text h (mark_no_digit after) ∙ sym (append_assoc (number_text empty) (mark after ∷ []) text))
  | inr ne ↦
      let t = ne_eqb _ _ ne in
      rw (with_mark_within after text (omega arith), t) refl
]

-- one more square is written
pub written_more : (men : List (Option Man)) (n count next : ℕ) (empty middle last : ℕ) (found : Option Man) (done : List ℕ) → count ≡ suc n → next ≡ n → empty ≤ 7
    → found ≡ man_on men (square_before n) → middle ≡ empty_next empty found → last ≡ empty_left n middle
    → done ++ with_empties empty (text_from men count []) ≡ text_from men 64 []
    → (done ++ written_text empty found) ++ mark_text n middle ++ with_empties last (text_from men next []) ≡ text_from men 64 []
written_more men n count next empty middle last found done ec en small ef em el whole =
    let few : middle ≤ 8 = rw em (few_next empty found small) in
    append_assoc (done ++ written_text empty found) (mark_text n middle) (with_empties last (text_from men next []))
    ∙ append_assoc done (written_text empty found) (mark_text n middle ++ with_empties last (text_from men next []))
    ∙ ap (λ t. done ++ t) (rest few)
    ∙ whole
  where
    few_next : (empty : ℕ) (found : Option Man) → empty ≤ 7 → empty_next empty found ≤ 8
    few_next empty None h = omega arith
    few_next empty (Some man) h = omega arith

    rest : middle ≤ 8 → written_text empty found ++ (mark_text n middle ++ with_empties last (text_from men next [])) ≡ with_empties empty (text_from men count [])
    rest few =
        rw (ec, en, el, text_next men n [], ← ef)
        (ap (λ t. written_text empty found ++ t) (sym (written_mark n middle (text_from men n []) few) ∙ ap (λ k. with_empties k (with_mark n (text_from men n []))) em)
        ∙ sym (written_square empty found (with_mark n (text_from men n [])) (omega arith)))

-- there is room for one more empty square
pub written_room : (count empty : ℕ) → empty + count % 8 ≤ 8 → (count % 8 ≡ 0 → empty ≡ 0) → empty ≤ 7
written_room count empty h start = elim (cases_eq (count % 8) 0) [
  | inl e ↦ let none : empty ≡ 0 = start e in omega arith
  | inr ne ↦ omega arith
]

next_bound : (empty : ℕ) (found : Option Man) → empty_next empty found ≤ empty + 1
next_bound empty None = omega arith
next_bound empty (Some man) = omega arith

pub next_room : (empty middle : ℕ) (found : Option Man) → empty ≤ 7 → middle ≡ empty_next empty found → middle ≤ 8
next_room empty middle found h e = let b : empty_next empty found ≤ empty + 1 = next_bound empty found in omega arith

-- the empty squares that are still to be written are in the rank
pub written_bound : (n count next empty middle last : ℕ) (found : Option Man) → count ≡ suc n → next ≡ n → empty + count % 8 ≤ 8
    → (count % 8 ≡ 0 → empty ≡ 0) → middle ≡ empty_next empty found → last ≡ empty_left n middle
    → (last + next % 8 ≤ 8) × (next % 8 ≡ 0 → last ≡ 0)
written_bound n count next empty middle last found ec en h start em el = elim (cases_eq (n % 8) 0) [
  | inl e ↦
      let none : last ≡ 0 = el ∙ cond-true (eqb (n % 8) 0) _ _ (eq-eqb _ _ e) in
      (omega arith, λ _. none)
  | inr ne ↦
      let same : last ≡ middle = el ∙ cond-false (eqb (n % 8) 0) _ _ (ne_eqb _ _ ne) in
      let b : empty_next empty found ≤ empty + 1 = next_bound empty found in
      let room : empty + 1 + n % 8 ≤ 8 = elim (cases_eq (count % 8) 0) [
        | inl z ↦ let none : empty ≡ 0 = start z in omega arith
        | inr nz ↦ omega arith
      ] in
      (omega arith, λ z. absurd (ne (sym (ap (λ k. k % 8) en) ∙ z)))
]

-- all squares are written
pub written_all : (men : List (Option Man)) (count empty : ℕ) (done text : List ℕ) → count ≡ 0 → (count % 8 ≡ 0 → empty ≡ 0)
    → done ++ with_empties empty (text_from men count []) ≡ text → done ≡ text
written_all men count empty done text e start whole =
    let none : empty ≡ 0 = start (ap (λ k. k % 8) e) in
    let rest : with_empties empty (text_from men count []) ≡ [] = ap (λ k. with_empties k (text_from men count [])) none ∙ ap (λ k. text_from men k []) e ∙ text_last men [] in
    sym (append-nil done) ∙ ap (λ t. done ++ t) (sym rest) ∙ whole
