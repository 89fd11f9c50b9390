-- The men of a text, square by square.
use Rattle.fen.proofs.Basics.{List, [], ◌∷◌, true, None, Option, Some, ap, arith, cases_eq, ext_get_or, inl, inr, length, refl, subst, suc, sym, zero, ℕ, ◌%◌, ◌*◌, ◌+◌, ◌-◌, ◌/◌, ◌<◌, ◌∙◌, ◌≡◌}
use Rattle.std.proofs.Common.{is_none, is_some, IsSome, Result, Ok, Err, MatchResult, get_or-set_same}
use Rattle.std.specs.List.{list_all, repeat}
use Rattle.std.proofs.lemmas.Bool.{false≢true, true≢false}
use Rattle.chess_core.specs.Diagrams.{Diagram}
use Rattle.chess_core.specs.declared.diagram.Taken.{Taken}
use Rattle.chess_core.specs.declared.man.Man.{Man}
use Rattle.chess_core.specs.Position.{man_on, with_man}
use Rattle.fen.specs.Fen.{with_square}
use Rattle.fen.specs.ties.Reading.{Finds, FindsNoSquare, FindsSquare, HasAll, IsReadTo, IsSameBefore, SkipsMark, SkipsNoMark, men_before, square_before, text_from, with_mark, with_number}
use Rattle.fen.proofs.Steps.{number_none, row_seven}

-- an empty list of squares has no man
no_man : (men : List (Option Man)) → list_all is_none men ≡ true → (s : ℕ) → man_on men s ≡ None
no_man [] h s = refl
no_man (None ∷ men) h zero = refl
no_man (None ∷ men) h (suc s) = no_man men h s
no_man (Some man ∷ men) h s = absurd (false≢true h)

pub none_at : (s : ℕ) → man_on (repeat 64 (None ∷ [])) s ≡ None
none_at s = no_man (repeat 64 (None ∷ [])) refl s

-- a man that is put on an empty square is there
pub put_here : (old new : Diagram) (s t : ℕ) (man : Man) (found : Option Man) (r : Result Unit Taken) → length old.men ≡ 64 → s ≡ t → t < 64 → found ≡ Some man
    → man_on old.men t ≡ None
    → MatchResult r (λ _. (man_on old.men s ≡ None) × (new ≡ record old { men = with_man old.men s man })) (λ _. IsSome (man_on old.men s) × (new ≡ old))
    → man_on new.men t ≡ found
put_here old new s t man found (Ok u) size e small f empty put =
    let within : s < length old.men = omega arith in
    rw (put.1, ← e, f) (get_or-set_same old.men s (Some man) None within)
put_here old new s t man found (Err u) size e small f empty put = absurd (not_some (man_on old.men s) (rw e empty) put.0)
  where
    not_some : (o : Option Man) → o ≡ None → IsSome o → ⊥
    not_some None e h = false≢true h
    not_some (Some man) e h = true≢false (ap is_some e)

-- two squares with different numbers of squares after them are different
square_other : (i j : ℕ) → j < i → square_before i ≡ square_before j → ⊥
square_other i j h e = omega arith

-- a diagram without men, before the first square
pub read_none : (text : List ℕ) (men : List (Option Man)) → length men ≡ 64 → ((s : ℕ) → man_on men s ≡ None) → IsReadTo text 64 men 0 text
unfolding with_number
read_none text men size none = record {
  size = size;
  left = record { small = omega arith; ends = λ some. absurd (omega arith) };
  done = λ _. refl;
  unset = λ j h. none (square_before j);
  is = λ others tail same e. e;
  only = λ others tail e. ((λ j h k. absurd (omega arith)), e);
}

-- the text from a square on
pub text_next : (men : List (Option Man)) (n : ℕ) (tail : List ℕ)
    → text_from men (suc n) tail ≡ with_square (man_on men (square_before n)) (with_mark n (text_from men n tail))
unfolding text_from
text_next men n tail = refl

pub text_last : (men : List (Option Man)) (tail : List ℕ) → text_from men 0 tail ≡ tail
unfolding text_from
text_last men tail = refl

-- the squares before stay the same where one more man is set
same_more : (n : ℕ) (others old new : List (Option Man)) → IsSameBefore (suc n) others old
    → ((s : ℕ) → (s ≡ square_before n → ⊥) → man_on new s ≡ man_on old s)
    → man_on others (square_before n) ≡ man_on new (square_before n) → IsSameBefore n others new
same_more n others old new same kept here = λ j h k. elim (cases_eq j n) [
  | inl e ↦ subst (λ i. man_on others (square_before i) ≡ man_on new (square_before i)) (sym e) here
  | inr ne ↦ same j (omega arith) k ∙ sym (kept (square_before j) (square_other j n (omega arith)))
]

same_less : (n : ℕ) (others old new : List (Option Man)) → IsSameBefore n others new
    → ((s : ℕ) → (s ≡ square_before n → ⊥) → man_on new s ≡ man_on old s) → IsSameBefore (suc n) others old
same_less n others old new same kept = λ j h k. same j (omega arith) k ∙ kept (square_before j) (square_other j n (omega arith))

-- one more square is read
pub read_more : (text : List ℕ) (count n : ℕ) (old new : List (Option Man)) (found : Option Man) (empty : ℕ) (rest : List ℕ) (announced : ℕ) (later : List ℕ) (number : ℕ) (last : List ℕ) (next : ℕ)
    → count ≡ suc n → next ≡ n → n < 64 → length new ≡ 64 → IsReadTo text count old empty rest → FindsSquare empty rest found announced later
    → man_on new (square_before n) ≡ found → ((s : ℕ) → (s ≡ square_before n → ⊥) → man_on new s ≡ man_on old s)
    → SkipsMark n announced later number last → IsReadTo text next new number last
read_more text count n old new found empty rest announced later number last next e f small size read square here kept mark =
    let before : IsReadTo text (suc n) old empty rest = subst (λ k. IsReadTo text k old empty rest) e read in
    subst (λ k. IsReadTo text k new number last) (sym f) (record {
      size = size;
      left = mark.left;
      done = mark.done;
      unset = λ j h. kept (square_before j) (λ same. square_other n j h (sym same)) ∙ before.unset j (omega arith);
      is = λ others tail same h. before.is others tail (same_less n others old new same kept)
          (square.is ∙ ap (with_square found) (mark.is ∙ ap (with_mark n) h)
          ∙ ap (λ o. with_square o (with_mark n (text_from others n tail))) (sym (same n (omega arith) small ∙ here))
          ∙ sym (text_next others n tail));
      only = λ others tail h.
          let b = before.only others tail h in
          let s = square.only (man_on others (square_before n)) (with_mark n (text_from others n tail)) (b.1 ∙ text_next others n tail) in
          (same_more n others old new b.0 kept (s.0 ∙ sym here), sym (mark.only (text_from others n tail) (sym s.1)));
    })

-- no diagram's text has no square where one should be
pub read_no_square : (text : List ℕ) (count n : ℕ) (old : List (Option Man)) (empty : ℕ) (rest : List ℕ)
    → count ≡ suc n → IsReadTo text count old empty rest → FindsNoSquare empty rest
    → (others : List (Option Man)) (tail : List ℕ) → text ≡ text_from others 64 tail → ⊥
read_no_square text count n old empty rest e read none others tail h =
    let before : IsReadTo text (suc n) old empty rest = subst (λ k. IsReadTo text k old empty rest) e read in
    none (man_on others (square_before n)) (with_mark n (text_from others n tail)) (row_seven others n tail)
    ((before.only others tail h).1 ∙ text_next others n tail)

-- no diagram's text has no mark where one should be
pub read_no_mark : (text : List ℕ) (count n : ℕ) (old : List (Option Man)) (found : Option Man) (empty : ℕ) (rest : List ℕ) (announced : ℕ) (later : List ℕ)
    → count ≡ suc n → IsReadTo text count old empty rest → FindsSquare empty rest found announced later → SkipsNoMark n announced later
    → (others : List (Option Man)) (tail : List ℕ) → text ≡ text_from others 64 tail → ⊥
read_no_mark text count n old found empty rest announced later e read square none others tail h =
    let before : IsReadTo text (suc n) old empty rest = subst (λ k. IsReadTo text k old empty rest) e read in
    let s = square.only (man_on others (square_before n)) (with_mark n (text_from others n tail)) ((before.only others tail h).1 ∙ text_next others n tail) in
    none (text_from others n tail) (sym s.1)

-- men that are the same on all squares are the same
same_men : (men others : List (Option Man)) → length men ≡ 64 → length others ≡ 64 → IsSameBefore 0 others men → others ≡ men
same_men men others size sizes same = ext_get_or None others men (sizes ∙ sym size)
    (λ s h.
    let after = 8 * (s / 8) + (7 - s % 8) in
    let e : square_before after ≡ s = omega arith in
    subst (λ t. man_on others t ≡ man_on men t) e (same after (omega arith) (omega arith)))

-- all squares are read
pub read_all : (text : List ℕ) (count : ℕ) (men : List (Option Man)) (empty : ℕ) (rest : List ℕ) → count ≡ 0
    → IsReadTo text count men empty rest → Finds HasAll men_before text men rest
read_all text count men empty rest e read =
    let all : IsReadTo text 0 men empty rest = subst (λ k. IsReadTo text k men empty rest) e read in
    let none : empty ≡ 0 = all.done refl in
    record {
      fits = all.size;
      is = all.is men rest (λ j h k. refl) (number_none empty rest none ∙ sym (text_last men rest));
      only = λ others tail sizes h.
          let o = all.only others tail h in
          (same_men men others all.size sizes o.0, sym (sym (number_none empty rest none) ∙ o.1 ∙ text_last others tail));
    }
