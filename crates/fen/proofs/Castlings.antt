-- Castling rights in a text.
use Rattle.fen.proofs.Basics.{Bool, List, [], ◌⊎◌, ap, arith, cond, false, refl, subst, sym, true, ℕ, ◌&&◌, ◌++◌, ◌||◌, ◌∙◌, ◌∷◌, ◌≡◌, cases_Bool, eqb, eqb-true, inl, inr}
use Rattle.std.proofs.lemmas.Bool.{false≢true}
use Rattle.chess_core.specs.Castling.{Unmoved, mark_unmoved, none_unmoved, with_unmoved}
use Rattle.chess_core.specs.SquareNames.{a1, e1, h1, a8, e8, h8}
use Rattle.fen.specs.Fen.{HasFenRights, castling_letters, letter_if, or_dash}
use Rattle.fen.specs.ties.Reading.{AreLetters, Finds, FindsNone, letter_at, rights_before, rights_of}
use Rattle.fen.proofs.Steps.{tails}

-- the rights, and one castling more
abbrev castling : Bool → ℕ → ℕ → Unmoved → Unmoved
castling allowed king rook u = cond allowed (with_unmoved (with_unmoved u king) rook) u

rights_cases : (h a k q : Bool) → castling q e8 a8 (castling k e8 h8 (castling a e1 a1 (castling h e1 h1 none_unmoved))) ≡ rights_of h a k q
unfolding mark_unmoved none_unmoved
rights_cases true true true true = refl
rights_cases true true true false = refl
rights_cases true true false true = refl
rights_cases true true false false = refl
rights_cases true false true true = refl
rights_cases true false true false = refl
rights_cases true false false true = refl
rights_cases true false false false = refl
rights_cases false true true true = refl
rights_cases false true true false = refl
rights_cases false true false true = refl
rights_cases false true false false = refl
rights_cases false false true true = refl
rights_cases false false true false = refl
rights_cases false false false true = refl
rights_cases false false false false = refl

-- the rights built castling by castling
pub rights_built : (h a k q : Bool) (none short white three all : Unmoved) → none ≡ none_unmoved → short ≡ castling h e1 h1 none
    → white ≡ castling a e1 a1 short → three ≡ castling k e8 h8 white → all ≡ castling q e8 a8 three → all ≡ rights_of h a k q
rights_built h a k q none short white three all e0 e1' e2 e3 e4 = rw (e4, e3, e2, e1', e0) (rights_cases h a k q)

-- what comes after the letters, or after none
abbrev ending : Bool → List ℕ → List ℕ
ending some rest = cond some (32 ∷ rest) (45 ∷ 32 ∷ rest)

-- the letters and what comes after them
abbrev lettered : Bool → Bool → Bool → Bool → List ℕ → List ℕ
lettered h a k q text = letter_if h 75 ++ (letter_if a 81 ++ (letter_if k 107 ++ (letter_if q 113 ++ text)))

lettered_is : (h a k q : Bool) (rest : List ℕ) → lettered h a k q (ending (h || (a || (k || q))) rest) ≡ rights_before (rights_of h a k q) rest
unfolding rights_before castling_letters
lettered_is true true true true rest = refl
lettered_is true true true false rest = refl
lettered_is true true false true rest = refl
lettered_is true true false false rest = refl
lettered_is true false true true rest = refl
lettered_is true false true false rest = refl
lettered_is true false false true rest = refl
lettered_is true false false false rest = refl
lettered_is false true true true rest = refl
lettered_is false true true false rest = refl
lettered_is false true false true rest = refl
lettered_is false true false false rest = refl
lettered_is false false true true rest = refl
lettered_is false false true false rest = refl
lettered_is false false false true rest = refl
lettered_is false false false false rest = refl

-- the letters are read again
lettered_again : (h a k q : Bool) (rest : List ℕ) → AreLetters (lettered h a k q (ending (h || (a || (k || q))) rest)) h a k q (ending (h || (a || (k || q))) rest)
lettered_again true true true true rest = record { short = refl; long = refl; black_short = refl; black_long = refl; rest = refl }
lettered_again true true true false rest = record { short = refl; long = refl; black_short = refl; black_long = refl; rest = refl }
lettered_again true true false true rest = record { short = refl; long = refl; black_short = refl; black_long = refl; rest = refl }
lettered_again true true false false rest = record { short = refl; long = refl; black_short = refl; black_long = refl; rest = refl }
lettered_again true false true true rest = record { short = refl; long = refl; black_short = refl; black_long = refl; rest = refl }
lettered_again true false true false rest = record { short = refl; long = refl; black_short = refl; black_long = refl; rest = refl }
lettered_again true false false true rest = record { short = refl; long = refl; black_short = refl; black_long = refl; rest = refl }
lettered_again true false false false rest = record { short = refl; long = refl; black_short = refl; black_long = refl; rest = refl }
lettered_again false true true true rest = record { short = refl; long = refl; black_short = refl; black_long = refl; rest = refl }
lettered_again false true true false rest = record { short = refl; long = refl; black_short = refl; black_long = refl; rest = refl }
lettered_again false true false true rest = record { short = refl; long = refl; black_short = refl; black_long = refl; rest = refl }
lettered_again false true false false rest = record { short = refl; long = refl; black_short = refl; black_long = refl; rest = refl }
lettered_again false false true true rest = record { short = refl; long = refl; black_short = refl; black_long = refl; rest = refl }
lettered_again false false true false rest = record { short = refl; long = refl; black_short = refl; black_long = refl; rest = refl }
lettered_again false false false true rest = record { short = refl; long = refl; black_short = refl; black_long = refl; rest = refl }
lettered_again false false false false rest = record { short = refl; long = refl; black_short = refl; black_long = refl; rest = refl }

-- a letter that was read is the first of the text
letter_back : (letter : ℕ) (text : List ℕ) → text ≡ letter_if (letter_at letter text).0 letter ++ (letter_at letter text).1
letter_back letter [] = refl
letter_back letter (first ∷ rest) = elim (cases_Bool (eqb first letter)) [
  | inl e ↦ rw (e) (ap (λ x. x ∷ rest) (eqb-true _ _ e))
  | inr e ↦ rw (e) refl
]

letters_back : (text : List ℕ) (h a k q : Bool) (left : List ℕ) → AreLetters text h a k q left → text ≡ lettered h a k q left
letters_back text h a k q left are = rw (are.short, are.long, are.black_short, are.black_long, are.rest)
    (letter_back 75 text ∙ ap (λ t. letter_if (letter_at 75 text).0 75 ++ t) (letter_back 81 (letter_at 75 text).1
    ∙ ap (λ t. letter_if (letter_at 81 (letter_at 75 text).1).0 81 ++ t) (letter_back 107 (letter_at 81 (letter_at 75 text).1).1
    ∙ ap (λ t. letter_if (letter_at 107 (letter_at 81 (letter_at 75 text).1).1).0 107 ++ t) (letter_back 113 (letter_at 107 (letter_at 81 (letter_at 75 text).1).1).1))))

-- rights that FEN has follow from the rooks
rights_again : (u : Unmoved) → HasFenRights u → u ≡ rights_of u.h1 u.a1 u.h8 u.a8
rights_again u has = rw (← has.white, ← has.black) refl

-- which letters and what after them is read is determined
pub letters_only : (text : List ℕ) (h a k q : Bool) (left : List ℕ) (u : Unmoved) (other : List ℕ) → AreLetters text h a k q left → HasFenRights u
    → text ≡ rights_before u other → (u ≡ rights_of h a k q) × (left ≡ ending (h || (a || (k || q))) other)
letters_only text h a k q left u other are has e =
    let same : u ≡ rights_of u.h1 u.a1 u.h8 u.a8 = rights_again u has in
    let there : text ≡ lettered u.h1 u.a1 u.h8 u.a8 (ending (u.h1 || (u.a1 || (u.h8 || u.a8))) other) =
    e ∙ ap (λ v. rights_before v other) same ∙ sym (lettered_is u.h1 u.a1 u.h8 u.a8 other) in
    let again : AreLetters text u.h1 u.a1 u.h8 u.a8 (ending (u.h1 || (u.a1 || (u.h8 || u.a8))) other) =
    subst (λ t. AreLetters t u.h1 u.a1 u.h8 u.a8 (ending (u.h1 || (u.a1 || (u.h8 || u.a8))) other)) (sym there) (lettered_again u.h1 u.a1 u.h8 u.a8 other) in
    let eh : u.h1 ≡ h = again.short ∙ sym are.short in
    let ea : u.a1 ≡ a = again.long ∙ sym are.long in
    let ek : u.h8 ≡ k = again.black_short ∙ sym are.black_short in
    let eq : u.a8 ≡ q = again.black_long ∙ sym are.black_long in
    (same ∙ rw (eh, ea, ek, eq) refl, are.rest ∙ sym again.rest ∙ rw (eh, ea, ek, eq) refl)

ending_only : (some : Bool) (rest other : List ℕ) → ending some rest ≡ ending some other → other ≡ rest
ending_only true rest other e = sym (tails e)
ending_only false rest other e = sym (tails (tails e))

-- the rights that were read
pub rights_found : (text : List ℕ) (h a k q : Bool) (left rest : List ℕ) → AreLetters text h a k q left
    → left ≡ ending (h || (a || (k || q))) rest → Finds HasFenRights rights_before text (rights_of h a k q) rest
rights_found text h a k q left rest are e = record {
  fits = record { white = refl; black = refl };
  is = letters_back text h a k q left are ∙ ap (lettered h a k q) e ∙ lettered_is h a k q rest;
  only = λ u other has there.
      let only = letters_only text h a k q left u other are has there in
      (only.0, ending_only (h || (a || (k || q))) rest other (sym e ∙ only.1));
}

-- no rights were read
pub rights_none : (text : List ℕ) (h a k q : Bool) (left : List ℕ) → AreLetters text h a k q left
    → ((rest : List ℕ) → left ≡ ending (h || (a || (k || q))) rest → ⊥) → FindsNone HasFenRights rights_before text
rights_none text h a k q left are none = λ u other has there. none other (letters_only text h a k q left u other are has there).1

-- letters that were read one after the other
pub are_letters : {text t1 t2 t3 t4 : List ℕ} {h a k q : Bool} → h ≡ (letter_at 75 text).0 → t1 ≡ (letter_at 75 text).1
    → a ≡ (letter_at 81 t1).0 → t2 ≡ (letter_at 81 t1).1 → k ≡ (letter_at 107 t2).0 → t3 ≡ (letter_at 107 t2).1
    → q ≡ (letter_at 113 t3).0 → t4 ≡ (letter_at 113 t3).1 → AreLetters text h a k q t4
are_letters eh e1 ea e2 ek e3 eq e4 =
    let f2 = e2 ∙ ap (λ t. (letter_at 81 t).1) e1 in
    let f3 = e3 ∙ ap (λ t. (letter_at 107 t).1) f2 in
    record {
      short = eh;
      long = ea ∙ ap (λ t. (letter_at 81 t).0) e1;
      black_short = ek ∙ ap (λ t. (letter_at 107 t).0) f2;
      black_long = eq ∙ ap (λ t. (letter_at 113 t).0) f3;
      rest = e4 ∙ ap (λ t. (letter_at 113 t).1) f3;
    }

-- some letter was read, or none
some_letter : (h a k q : Bool) → ((h ≡ true) ⊎ (((h ≡ false) × (a ≡ true)) ⊎ (((h ≡ false) × (a ≡ false) × (k ≡ true)) ⊎ ((h ≡ false) × (a ≡ false) × (k ≡ false) × (q ≡ true)))))
    → (h || (a || (k || q))) ≡ true
some_letter h a k q e = grind arith

no_letter : (h a k q : Bool) → h ≡ false → a ≡ false → k ≡ false → q ≡ false → (h || (a || (k || q))) ≡ false
no_letter h a k q eh ea ek eq = rw (eh, ea, ek, eq) refl

ending_some : (some : Bool) (rest : List ℕ) → some ≡ true → ending some rest ≡ 32 ∷ rest
ending_some some rest e = rw e refl

ending_none : (some : Bool) (rest : List ℕ) → some ≡ false → ending some rest ≡ 45 ∷ 32 ∷ rest
ending_none some rest e = rw e refl

-- letters and a blank
pub rights_lettered : (text : List ℕ) (h a k q : Bool) (left rest : List ℕ) → AreLetters text h a k q left
    → ((h ≡ true) ⊎ (((h ≡ false) × (a ≡ true)) ⊎ (((h ≡ false) × (a ≡ false) × (k ≡ true)) ⊎ ((h ≡ false) × (a ≡ false) × (k ≡ false) × (q ≡ true)))))
    → left ≡ 32 ∷ rest → Finds HasFenRights rights_before text (rights_of h a k q) rest
rights_lettered text h a k q left rest are some e =
    rights_found text h a k q left rest are (e ∙ sym (ending_some (h || (a || (k || q))) rest (some_letter h a k q some)))

-- letters without a blank
pub rights_open : (text : List ℕ) (h a k q : Bool) (left : List ℕ) → AreLetters text h a k q left
    → ((h ≡ true) ⊎ (((h ≡ false) × (a ≡ true)) ⊎ (((h ≡ false) × (a ≡ false) × (k ≡ true)) ⊎ ((h ≡ false) × (a ≡ false) × (k ≡ false) × (q ≡ true)))))
    → ((rest : List ℕ) → left ≡ 32 ∷ rest → ⊥) → FindsNone HasFenRights rights_before text
rights_open text h a k q left are some none = rights_none text h a k q left are
    (λ rest e. none rest (e ∙ ending_some (h || (a || (k || q))) rest (some_letter h a k q some)))

-- a dash and a blank
pub rights_dashed : (text : List ℕ) (h a k q : Bool) (left more rest : List ℕ) → AreLetters text h a k q left → h ≡ false → a ≡ false → k ≡ false → q ≡ false
    → left ≡ 45 ∷ more → more ≡ 32 ∷ rest → Finds HasFenRights rights_before text (rights_of h a k q) rest
rights_dashed text h a k q left more rest are eh ea ek eq e f =
    rights_found text h a k q left rest are
    (e ∙ ap (λ t. 45 ∷ t) f ∙ sym (ending_none (h || (a || (k || q))) rest (no_letter h a k q eh ea ek eq)))

-- neither letters nor a dash
pub rights_bare : (text : List ℕ) (h a k q : Bool) (left : List ℕ) → AreLetters text h a k q left → h ≡ false → a ≡ false → k ≡ false → q ≡ false
    → ((rest : List ℕ) → left ≡ 45 ∷ rest → ⊥) → FindsNone HasFenRights rights_before text
rights_bare text h a k q left are eh ea ek eq none = rights_none text h a k q left are
    (λ rest e. none (32 ∷ rest) (e ∙ ending_none (h || (a || (k || q))) rest (no_letter h a k q eh ea ek eq)))

-- a dash without a blank
pub rights_cut : (text : List ℕ) (h a k q : Bool) (left more : List ℕ) → AreLetters text h a k q left → h ≡ false → a ≡ false → k ≡ false → q ≡ false
    → left ≡ 45 ∷ more → ((rest : List ℕ) → more ≡ 32 ∷ rest → ⊥) → FindsNone HasFenRights rights_before text
rights_cut text h a k q left more are eh ea ek eq e none = rights_none text h a k q left are
    (λ rest f. none rest (tails (sym e ∙ f ∙ ending_none (h || (a || (k || q))) rest (no_letter h a k q eh ea ek eq))))

-- the letters that are written
abbrev letters_text : Bool → Bool → Bool → Bool → List ℕ
letters_text h a k q = letter_if h 75 ++ letter_if a 81 ++ letter_if k 107 ++ letter_if q 113

letters_cases : (h a k q : Bool) → (h || (a || (k || q))) ≡ true → letters_text h a k q ≡ or_dash (letters_text h a k q)
letters_cases true true true true e = refl
letters_cases true true true false e = refl
letters_cases true true false true e = refl
letters_cases true true false false e = refl
letters_cases true false true true e = refl
letters_cases true false true false e = refl
letters_cases true false false true e = refl
letters_cases true false false false e = refl
letters_cases false true true true e = refl
letters_cases false true true false e = refl
letters_cases false true false true e = refl
letters_cases false true false false e = refl
letters_cases false false true true e = refl
letters_cases false false true false e = refl
letters_cases false false false true e = refl
letters_cases false false false false e = absurd (false≢true e)

-- the letters of the castling rights
rights_letters : (u : Unmoved) → castling_letters u ≡ letters_text (u.e1 && u.h1) (u.e1 && u.a1) (u.e8 && u.h8) (u.e8 && u.a8)
unfolding castling_letters
rights_letters u = refl

-- written letters
pub letters_written : (u : Unmoved) (h a k q : Bool) → h ≡ (u.e1 && u.h1) → a ≡ (u.e1 && u.a1) → k ≡ (u.e8 && u.h8) → q ≡ (u.e8 && u.a8)
    → ((h ≡ true) ⊎ (((h ≡ false) × (a ≡ true)) ⊎ (((h ≡ false) × (a ≡ false) × (k ≡ true)) ⊎ ((h ≡ false) × (a ≡ false) × (k ≡ false) × (q ≡ true)))))
    → letters_text h a k q ≡ or_dash (castling_letters u)
letters_written u h a k q eh ea ek eq some =
    letters_cases h a k q (some_letter h a k q some) ∙ ap or_dash (rw (eh, ea, ek, eq) refl ∙ sym (rights_letters u))

-- a written dash
pub dash_written : (u : Unmoved) (h a k q : Bool) → h ≡ (u.e1 && u.h1) → a ≡ (u.e1 && u.a1) → k ≡ (u.e8 && u.h8) → q ≡ (u.e8 && u.a8)
    → h ≡ false → a ≡ false → k ≡ false → q ≡ false → 45 ∷ [] ≡ or_dash (castling_letters u)
dash_written u h a k q eh ea ek eq fh fa fk fq =
    rw (rights_letters u, sym eh ∙ fh, sym ea ∙ fa, sym ek ∙ fk, sym eq ∙ fq) refl
