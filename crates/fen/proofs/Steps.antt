-- Squares and marks in a text, one by one.
use Rattle.fen.proofs.Basics.{Bool, List, None, Option, Some, [], ap, arith, cond, cond-false, cond-true, eqb, false, get_or, inl, inr, leb, refl, suc, sym, true, zero, ℕ, ◌%◌, ◌+◌, ◌-◌, ◌<◌, ◌∙◌, ◌∷◌, ◌≡◌, ◌≤◌, drop, subst, cases_Bool, cases_eq, and_parts, and_from, eq-eqb, false_from_ne_true, leb-true, le-leb, ne_eqb, ◌++◌, ◌⊎◌}
use Rattle.std.proofs.lemmas.Bool.{false≢true, true≢false}
use Rattle.chess_core.specs.declared.man.Man.{Man}
use Rattle.chess_core.specs.Position.{man_on}
use Rattle.fen.specs.Letters.{is_bracketed, letter_of, man_text}
use Rattle.fen.proofs.LettersOfMen.{letter_large, letter_names}
use Rattle.fen.specs.Fen.{is_digit, with_empty, with_square}
use Rattle.fen.specs.ties.Reading.{FindsNoMan, FindsNoSquare, FindsSquare, IsLeft, IsRow, SkipsMark, SkipsNoMark, begins_with_digit, mark, square_before, text_from, with_mark, with_number}

-- the first byte of equal texts
pub heads : {x y : ℕ} {xs ys : List ℕ} → x ∷ xs ≡ y ∷ ys → x ≡ y
heads e = ap (λ t. get_or t 0 0) e

-- the rest of equal texts
pub tails : {x y : ℕ} {xs ys : List ℕ} → x ∷ xs ≡ y ∷ ys → xs ≡ ys
tails e = ap (drop 1) e

-- nothing is left of the text
abbrev is_end : List ℕ → Bool
is_end [] = true
is_end (first ∷ rest) = false

-- a letter without brackets, and one within
plain_text : (man : Man) (rest : List ℕ) → is_bracketed man.kind ≡ false → man_text man ++ rest ≡ letter_of man ∷ rest
plain_text man rest e = ap (λ b. cond b (40 ∷ letter_of man ∷ 41 ∷ []) (letter_of man ∷ []) ++ rest) e

bracket_text : (man : Man) (rest : List ℕ) → is_bracketed man.kind ≡ true → man_text man ++ rest ≡ 40 ∷ letter_of man ∷ 41 ∷ rest
bracket_text man rest e = ap (λ b. cond b (40 ∷ letter_of man ∷ 41 ∷ []) (letter_of man ∷ []) ++ rest) e

-- a man's text begins with a byte that comes before or after all digits
pub man_first : (man : Man) (text : List ℕ) → (first : ℕ) × (rest : List ℕ) × (man_text man ++ text ≡ first ∷ rest) × ((first < 49) ⊎ (57 < first))
man_first man text = elim (cases_Bool (is_bracketed man.kind)) [
  | inl within ↦ (40, letter_of man ∷ 41 ∷ text, bracket_text man text within, inl (omega arith))
  | inr plain ↦ let large : 65 ≤ letter_of man = letter_large man in (letter_of man, text, plain_text man text plain, inr (omega arith))
]

pub far_digit : (first : ℕ) → ((first < 49) ⊎ (57 < first)) → is_digit first ≡ false
far_digit first far = false_from_ne_true _ (λ digit.
    let low : 49 ≤ first = leb-true 49 first (and_parts _ _ digit).0 in
    let high : first ≤ 56 = leb-true first 56 (and_parts _ _ digit).1 in
    elim far [ inl h ↦ omega arith | inr h ↦ omega arith ])

-- an empty square has a text
end_first_empty : (tail : List ℕ) → [] ≡ with_empty tail → ⊥
unfolding with_empty
end_first_empty [] e = true≢false (ap is_end e)
end_first_empty (first ∷ rest) e = elim (cases_Bool (is_digit first)) [
  | inl digit ↦ true≢false (ap is_end (e ∙ cond-true (is_digit first) _ _ digit))
  | inr other ↦ true≢false (ap is_end (e ∙ cond-false (is_digit first) _ _ other))
]

-- without a number the text is left
pub number_none : (empty : ℕ) (text : List ℕ) → empty ≡ 0 → with_number empty text ≡ text
unfolding with_number
number_none empty text none = rw none refl

-- a square before a text
pub with_none : (tail : List ℕ) → with_square None tail ≡ with_empty tail
unfolding with_square
with_none tail = refl

pub with_some : (man : Man) (tail : List ℕ) → with_square (Some man) tail ≡ man_text man ++ tail
unfolding with_square
with_some man tail = refl

-- a square has a text
end_first : (square : Option Man) (tail : List ℕ) → [] ≡ with_square square tail → ⊥
unfolding with_square
end_first (Some man) tail e = true≢false (ap is_end (e ∙ (man_first man tail).2))
end_first None tail e = end_first_empty tail e

-- a number in front is a number of empty squares
pub number_first : (n : ℕ) (text : List ℕ) → n < 8 → begins_with_digit text ≡ false
    → with_number (suc n) text ≡ with_empty (with_number n text)
unfolding with_number with_empty
number_first zero [] small ends = refl
number_first zero (first ∷ rest) small ends = sym (cond-false (is_digit first) _ _ ends)
number_first (suc n) text small ends =
    let digit : is_digit (49 + n) ≡ true = grind arith in
    let e : 49 + suc n ≡ 49 + n + 1 = omega arith in
    rw (cond-true (is_digit (49 + n)) _ _ digit, e) refl

-- what follows a number of empty squares
number_only_digit : (n : ℕ) (text : List ℕ) (first : ℕ) (rest : List ℕ) → is_digit first ≡ true
    → (49 + n) ∷ text ≡ (first + 1) ∷ rest → first ∷ rest ≡ with_number n text
unfolding with_number
number_only_digit zero text first rest digit e = let h : 49 + zero ≡ first + 1 = heads e in grind (arith, h, digit)
number_only_digit (suc n) text first rest digit e =
    let h : 49 + suc n ≡ first + 1 = heads e in
    let f : first ≡ 49 + n = omega arith in
    rw (f, tails e) refl

number_only_other : (n : ℕ) (text tail : List ℕ) → (49 + n) ∷ text ≡ 49 ∷ tail → tail ≡ with_number n text
unfolding with_number
number_only_other zero text tail e = sym (tails e)
number_only_other (suc n) text tail e = let h : 49 + suc n ≡ 49 = heads e in absurd (omega arith)

number_only_empty : (n : ℕ) (text tail : List ℕ) → (49 + n) ∷ text ≡ with_empty tail → tail ≡ with_number n text
unfolding with_empty
number_only_empty n text [] e = number_only_other n text [] e
number_only_empty n text (first ∷ rest) e = elim (cases_Bool (is_digit first)) [
  | inl digit ↦ number_only_digit n text first rest digit (e ∙ cond-true (is_digit first) _ _ digit)
  | inr other ↦ number_only_other n text (first ∷ rest) (e ∙ cond-false (is_digit first) _ _ other)
]

number_only : (n : ℕ) (text : List ℕ) (other : Option Man) (tail : List ℕ) → n < 8
    → (49 + n) ∷ text ≡ with_square other tail → (other ≡ None) × (tail ≡ with_number n text)
unfolding with_square
number_only n text None tail small e = (refl, number_only_empty n text tail e)
number_only n text (Some man) tail small e =
    let f = man_first man tail in
    let h : 49 + n ≡ f.0 = heads (e ∙ f.2) in
    elim f.3 [ inl far ↦ absurd (omega (arith, h, far)) | inr far ↦ absurd (omega (arith, h, far)) ]

-- an empty square of a number
finds_empty : (n : ℕ) (text : List ℕ) → n < 8 → begins_with_digit text ≡ false → FindsSquare (suc n) text None n text
unfolding with_square with_number
finds_empty n text small ends = record {
  left = record { small = omega arith; ends = λ _. ends };
  is = number_first n text small ends;
  only = λ other tail e. number_only n text other tail small e;
}

-- an empty square of the number that was read last
pub finds_number : (empty : ℕ) (text : List ℕ) → IsLeft empty text → 0 < empty → FindsSquare empty text None (empty - 1) text
finds_number zero text left some = absurd (omega arith)
finds_number (suc n) text left some =
    let small : n < 8 = omega (arith, left.small) in
    let e : suc n - 1 ≡ n = omega arith in
    rw e (finds_empty n text small (left.ends some))

-- an empty square of a number that is read
pub finds_digit : (empty : ℕ) (text : List ℕ) (first : ℕ) (rest : List ℕ) → empty ≡ 0 → text ≡ first ∷ rest
    → is_digit first ≡ true → begins_with_digit rest ≡ false → FindsSquare empty text None (first - 49) rest
unfolding with_number
finds_digit empty text first rest none is digit ends =
    let low : 49 ≤ first = leb-true _ _ (and_parts _ _ digit).0 in
    let high : first ≤ 56 = leb-true first 56 (and_parts _ _ digit).1 in
    let small : first - 49 < 8 = omega arith in
    let found : FindsSquare (suc (first - 49)) rest None (first - 49) rest = finds_empty (first - 49) rest small ends in
    let same : first ≡ 49 + (first - 49) = omega arith in
    let e : with_number empty text ≡ (49 + (first - 49)) ∷ rest = rw (none, is) (ap (λ x. x ∷ rest) same) in
    record {
      left = found.left;
      is = e ∙ found.is;
      only = λ other tail h. found.only other tail (sym e ∙ h);
    }

-- men with the same text are the same
same_man : (m n : Man) (rest more : List ℕ) → man_text m ++ rest ≡ man_text n ++ more → (m ≡ n) × (rest ≡ more)
same_man m n rest more e = elim (cases_Bool (is_bracketed m.kind)) [
  | inl within ↦ elim (cases_Bool (is_bracketed n.kind)) [
    | inl too ↦
        let f : 40 ∷ letter_of m ∷ 41 ∷ rest ≡ 40 ∷ letter_of n ∷ 41 ∷ more = sym (bracket_text m rest within) ∙ e ∙ bracket_text n more too in
        (letter_names m n (within ∙ sym too) (heads (tails f)), tails (tails (tails f)))
    | inr plain ↦ let f : 40 ≡ letter_of n = heads (sym (bracket_text m rest within) ∙ e ∙ plain_text n more plain) in
        absurd (omega (arith, f, letter_large n))
  ]
  | inr plain ↦ elim (cases_Bool (is_bracketed n.kind)) [
    | inl within ↦ let f : letter_of m ≡ 40 = heads (sym (plain_text m rest plain) ∙ e ∙ bracket_text n more within) in
        absurd (omega (arith, f, letter_large m))
    | inr too ↦
        let f : letter_of m ∷ rest ≡ letter_of n ∷ more = sym (plain_text m rest plain) ∙ e ∙ plain_text n more too in
        (letter_names m n (plain ∙ sym too) (heads f), tails f)
  ]
]

-- no man's text is that of an empty square
man_no_empty : (first : ℕ) (rest tail : List ℕ) → ((first < 49) ⊎ (57 < first)) → first ∷ rest ≡ with_empty tail → ⊥
unfolding with_empty
man_no_empty first rest [] far e = let h : first ≡ 49 = heads e in elim far [ inl x ↦ omega arith | inr x ↦ omega arith ]
man_no_empty first rest (second ∷ more) far e = elim (cases_Bool (is_digit second)) [
  | inl digit ↦
      let h : first ≡ second + 1 = heads (e ∙ cond-true (is_digit second) _ _ digit) in
      let low : 49 ≤ second = leb-true 49 second (and_parts _ _ digit).0 in
      let high : second ≤ 56 = leb-true second 56 (and_parts _ _ digit).1 in
      elim far [ inl x ↦ omega arith | inr x ↦ omega arith ]
  | inr other ↦ let h : first ≡ 49 = heads (e ∙ cond-false (is_digit second) _ _ other) in elim far [ inl x ↦ omega arith | inr x ↦ omega arith ]
]

only_man : (man : Man) (rest : List ℕ) (other : Option Man) (tail : List ℕ) → man_text man ++ rest ≡ with_square other tail
    → (other ≡ Some man) × (tail ≡ rest)
unfolding with_square
only_man man rest None tail e = let f = man_first man rest in absurd (man_no_empty f.0 f.1 tail f.3 (sym f.2 ∙ e))
only_man man rest (Some other) tail e =
    let same = same_man other man tail rest (sym e) in
    (ap (λ (x : Man). Some x) same.0, same.1)

-- a man
pub finds_man : (empty : ℕ) (text : List ℕ) (man : Man) (rest : List ℕ) → empty ≡ 0 → text ≡ man_text man ++ rest → FindsSquare empty text (Some man) 0 rest
unfolding with_number with_square
finds_man empty text man rest none is =
    let e : with_number empty text ≡ man_text man ++ rest = number_none empty text none ∙ is in
    record {
      left = record { small = omega arith; ends = λ some. absurd (omega arith) };
      is = e;
      only = λ other tail h. only_man man rest other tail (sym e ∙ h);
    }

pub plain_man : (text : List ℕ) (first : ℕ) (rest : List ℕ) (man : Man) → text ≡ first ∷ rest → (first ≡ letter_of man) × (is_bracketed man.kind ≡ false)
    → text ≡ man_text man ++ rest
plain_man text first rest man e h = e ∙ ap (λ x. x ∷ rest) h.0 ∙ sym (plain_text man rest h.1)

pub bracket_man : (text : List ℕ) (first : ℕ) (more : List ℕ) (letter : ℕ) (last rest : List ℕ) (man : Man) → text ≡ first ∷ more → first ≡ 40 → more ≡ letter ∷ last
    → last ≡ 41 ∷ rest → (letter ≡ letter_of man) × (is_bracketed man.kind ≡ true) → text ≡ man_text man ++ rest
bracket_man text first more letter last rest man e f g l h =
    e ∙ rw (f, g, l, h.0) refl ∙ sym (bracket_text man rest h.1)

pub no_man_end : (text : List ℕ) → text ≡ [] → FindsNoMan text
no_man_end text end = λ man rest e. true≢false (ap is_end (sym end ∙ e ∙ (man_first man rest).2))

pub no_plain_man : (text : List ℕ) (first : ℕ) (rest : List ℕ) → text ≡ first ∷ rest → (first ≡ 40 → ⊥)
    → ((man : Man) → is_bracketed man.kind ≡ false → first ≡ letter_of man → ⊥) → FindsNoMan text
no_plain_man text first rest is ne none = λ man more e. elim (cases_Bool (is_bracketed man.kind)) [
  | inl within ↦ ne (heads (sym is ∙ e ∙ bracket_text man more within))
  | inr plain ↦ none man plain (heads (sym is ∙ e ∙ plain_text man more plain))
]

-- after a bracket comes a letter
bracket_only : (text : List ℕ) (first : ℕ) (rest : List ℕ) → text ≡ first ∷ rest → first ≡ 40 → (man : Man) (more : List ℕ) → text ≡ man_text man ++ more
    → (is_bracketed man.kind ≡ true) × (rest ≡ letter_of man ∷ 41 ∷ more)
bracket_only text first rest is f man more e = elim (cases_Bool (is_bracketed man.kind)) [
  | inl within ↦ (within, tails (sym is ∙ e ∙ bracket_text man more within))
  | inr plain ↦
      let h : first ≡ letter_of man = heads (sym is ∙ e ∙ plain_text man more plain) in
      let large : 65 ≤ letter_of man = letter_large man in
      absurd (omega arith)
]

pub no_bracket_end : (text : List ℕ) (first : ℕ) (rest : List ℕ) → text ≡ first ∷ rest → first ≡ 40 → rest ≡ [] → FindsNoMan text
no_bracket_end text first rest is f end = λ man more e. true≢false (ap is_end (sym end ∙ (bracket_only text first rest is f man more e).1))

pub no_right_bracket : (text : List ℕ) (first : ℕ) (rest : List ℕ) (letter : ℕ) (last : List ℕ) → text ≡ first ∷ rest → first ≡ 40 → rest ≡ letter ∷ last
    → ((more : List ℕ) → last ≡ 41 ∷ more → ⊥) → FindsNoMan text
no_right_bracket text first rest letter last is f g none = λ man more e. none more (tails (sym g ∙ (bracket_only text first rest is f man more e).1))

pub no_bracketed_man : (text : List ℕ) (first : ℕ) (rest : List ℕ) (letter : ℕ) (last : List ℕ) → text ≡ first ∷ rest → first ≡ 40 → rest ≡ letter ∷ last
    → ((man : Man) → is_bracketed man.kind ≡ true → letter ≡ letter_of man → ⊥) → FindsNoMan text
no_bracketed_man text first rest letter last is f g none = λ man more e.
    let b = bracket_only text first rest is f man more e in
    none man b.0 (heads (sym g ∙ b.1))

-- no square at the end of a text
pub none_at_end : (empty : ℕ) (text : List ℕ) → empty ≡ 0 → text ≡ [] → FindsNoSquare empty text
none_at_end empty text none end = λ square tail row e. end_first square tail (sym (both empty text none end) ∙ e)
  where
    both : (empty : ℕ) (text : List ℕ) → empty ≡ 0 → text ≡ [] → with_number empty text ≡ []
    both empty text none end = number_none empty text none ∙ end

-- neither a man nor a number of empty squares
empty_first : (first : ℕ) (rest tail : List ℕ) → (is_digit first ≡ true → begins_with_digit rest ≡ true) → IsRow 7 tail
    → first ∷ rest ≡ with_empty tail → ⊥
unfolding with_empty IsRow
empty_first first rest [] twice row e =
    let h : first ≡ 49 = heads e in
    let digit : is_digit first ≡ true = rw h refl in
    let none : rest ≡ [] = tails e in
    false≢true (ap begins_with_digit (sym none) ∙ twice digit)
empty_first first rest (second ∷ more) twice row e = elim (cases_Bool (is_digit second)) [
  | inl digit ↦
      let f = e ∙ cond-true (is_digit second) _ _ digit in
      let h : first ≡ second + 1 = heads f in
      let low : 49 ≤ second = leb-true _ _ (and_parts _ _ digit).0 in
      let high : second ≤ 48 + 7 = (row digit).0 in
      let grown : is_digit (second + 1) ≡ true = and_from (leb 49 (second + 1)) (leb (second + 1) 56) (le-leb 49 (second + 1) (omega arith)) (le-leb (second + 1) 56 (omega arith)) in
      let first_digit : is_digit first ≡ true = ap is_digit h ∙ grown in
      let same : rest ≡ more = tails f in
      false≢true (sym (row digit).1 ∙ ap begins_with_digit (sym same) ∙ twice first_digit)
  | inr other ↦
      let f = e ∙ cond-false (is_digit second) _ _ other in
      let h : first ≡ 49 = heads f in
      let first_digit : is_digit first ≡ true = rw h refl in
      let same : rest ≡ second ∷ more = tails f in
      false≢true (sym other ∙ ap begins_with_digit (sym same) ∙ twice first_digit)
]

pub finds_none : (empty : ℕ) (text : List ℕ) (first : ℕ) (rest : List ℕ) → empty ≡ 0 → text ≡ first ∷ rest
    → (is_digit first ≡ true → begins_with_digit rest ≡ true) → FindsNoMan text → FindsNoSquare empty text
finds_none empty text first rest none is twice no_man = λ square tail row e. by_square square tail row (sym (number_none empty text none ∙ is) ∙ e)
  where
    by_square : (square : Option Man) (tail : List ℕ) → IsRow 7 tail → first ∷ rest ≡ with_square square tail → ⊥
    by_square None tail row e = empty_first first rest tail twice row (e ∙ with_none tail)
    by_square (Some man) tail row e = no_man man tail (is ∙ e ∙ with_some man tail)

-- a mark isn't a digit
pub mark_no_digit : (after : ℕ) → is_digit (mark after) ≡ false
mark_no_digit after = elim (cases_Bool (eqb after 0)) [
  | inl e ↦ ap (λ b. is_digit (cond b 32 47)) e
  | inr e ↦ ap (λ b. is_digit (cond b 32 47)) e
]

pub with_mark_end : (after : ℕ) (text : List ℕ) → after % 8 ≡ 0 → with_mark after text ≡ mark after ∷ text
unfolding with_mark
with_mark_end after text e = cond-true (eqb (after % 8) 0) _ _ (eq-eqb _ _ e)

pub with_mark_within : (after : ℕ) (text : List ℕ) → 0 < after % 8 → with_mark after text ≡ text
unfolding with_mark
with_mark_within after text h = cond-false (eqb (after % 8) 0) _ _ (ne_eqb _ _ (λ e. omega arith))

-- within a rank there is no mark
pub skips_within : (after empty : ℕ) (text : List ℕ) → IsLeft empty text → 0 < after % 8 → SkipsMark after empty text empty text
skips_within after empty text left h = record {
  left = left;
  is = sym (with_mark_within after (with_number empty text) h);
  only = λ tail e. sym (e ∙ with_mark_within after tail h);
  done = λ e. absurd (omega arith);
}

-- the mark of a rank's end
pub skips_end : (after empty : ℕ) (text rest : List ℕ) → after % 8 ≡ 0 → empty ≡ 0 → text ≡ mark after ∷ rest → SkipsMark after empty text 0 rest
unfolding with_number
skips_end after empty text rest h none is =
    let e : with_number empty text ≡ mark after ∷ rest = number_none empty text none ∙ is in
    record {
      left = record { small = omega arith; ends = λ some. absurd (omega arith) };
      is = e ∙ sym (with_mark_end after rest h);
      only = λ tail f. sym (tails (sym e ∙ f ∙ with_mark_end after tail h));
      done = λ _. refl;
    }

-- at the end of a rank there is no number
pub no_mark_number : (after empty : ℕ) (text : List ℕ) → after % 8 ≡ 0 → IsLeft empty text → 0 < empty → SkipsNoMark after empty text
unfolding with_number
no_mark_number after zero text h left some = absurd (omega arith)
no_mark_number after (suc n) text h left some = λ tail e.
    let first : 49 + n ≡ mark after = heads (e ∙ with_mark_end after tail h) in
    let small : suc n ≤ 8 = left.small in
    let digit : is_digit (49 + n) ≡ true = and_from _ _ (le-leb 49 (49 + n) (omega arith)) (le-leb (49 + n) 56 (omega arith)) in
    false≢true (sym (mark_no_digit after) ∙ ap is_digit (sym first) ∙ digit)

-- at the end of a rank there is another byte, or none
pub no_mark : (after empty : ℕ) (text : List ℕ) → after % 8 ≡ 0 → empty ≡ 0 → ((rest : List ℕ) → text ≡ mark after ∷ rest → ⊥) → SkipsNoMark after empty text
no_mark after empty text h none other = λ tail e. other tail (sym (number_none empty text none) ∙ e ∙ with_mark_end after tail h)

-- a byte that is no digit isn't one
pub not_digit : (b d : Bool) → b ≡ false → b ≡ true → d ≡ true
not_digit b d fails holds = absurd (false≢true (sym fails ∙ holds))

-- a square before a row
row_first : (n first : ℕ) (text : List ℕ) → is_digit first ≡ false → IsRow n (first ∷ text)
unfolding IsRow
row_first n first text other digit = absurd (false≢true (sym other ∙ digit))

row_empty : (n : ℕ) (text : List ℕ) → IsRow n text → IsRow (suc n) (with_empty text)
unfolding IsRow with_empty
row_empty n [] row = λ _. (omega arith, refl)
row_empty n (first ∷ rest) row = elim (cases_Bool (is_digit first)) [
  | inl digit ↦ subst (IsRow (suc n)) (sym (cond-true (is_digit first) _ _ digit)) (λ _. (let low : first ≤ 48 + n = (row digit).0 in omega arith, (row digit).1))
  | inr other ↦ subst (IsRow (suc n)) (sym (cond-false (is_digit first) _ _ other)) (λ _. (omega arith, other))
]

row_square : (n : ℕ) (square : Option Man) (text : List ℕ) → IsRow n text → IsRow (suc n) (with_square square text)
unfolding with_square
row_square n None text row = row_empty n text row
row_square n (Some man) text row =
    let f = man_first man text in
    subst (IsRow (suc n)) (sym f.2) (row_first (suc n) f.0 f.1 (far_digit f.0 f.3))

-- a row at most this long is at most that long
row_more : (n m : ℕ) (text : List ℕ) → n ≤ m → IsRow n text → IsRow m text
unfolding IsRow
row_more n m [] le row = row
row_more n m (first ∷ rest) le row = λ digit. (let low : first ≤ 48 + n = (row digit).0 in omega arith, (row digit).1)

-- a mark before a row
row_mark : (n after : ℕ) (text : List ℕ) → IsRow n (mark after ∷ text)
unfolding IsRow
row_mark n after text digit = absurd (false≢true (sym (mark_no_digit after) ∙ digit))

row_next : (men : List (Option Man)) (n : ℕ) (tail : List ℕ) → IsRow (n % 8) (with_mark n (text_from men n tail))
    → IsRow (suc (n % 8)) (text_from men (suc n) tail)
unfolding text_from
row_next men n tail row = row_square (n % 8) (man_on men (square_before n)) (with_mark n (text_from men n tail)) row

-- what follows a square is a row of what is left of its rank
row_from : (men : List (Option Man)) (n : ℕ) (tail : List ℕ) → IsRow (n % 8) (with_mark n (text_from men n tail))
row_from men zero tail = subst (IsRow (zero % 8)) (sym (with_mark_end zero (text_from men zero tail) refl)) (row_mark (zero % 8) zero (text_from men zero tail))
row_from men (suc n) tail = elim (cases_eq (suc n % 8) 0) [
  | inl e ↦ subst (IsRow (suc n % 8)) (sym (with_mark_end (suc n) (text_from men (suc n) tail) e)) (row_mark (suc n % 8) (suc n) (text_from men (suc n) tail))
  | inr ne ↦
      let within : 0 < suc n % 8 = omega arith in
      let more : suc (n % 8) ≡ suc n % 8 = omega arith in
      subst (IsRow (suc n % 8)) (sym (with_mark_within (suc n) (text_from men (suc n) tail) within))
      (subst (λ k. IsRow k (text_from men (suc n) tail)) more (row_next men n tail (row_from men n tail)))
]

-- a row has no number above seven after a square
pub row_seven : (men : List (Option Man)) (n : ℕ) (tail : List ℕ) → IsRow 7 (with_mark n (text_from men n tail))
row_seven men n tail = row_more (n % 8) 7 _ (omega arith) (row_from men n tail)
