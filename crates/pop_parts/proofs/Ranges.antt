-- Parts one after another.
use Rattle.pop_parts.proofs.Words.{Appends, Begins, IsPrinting, List, Move, Option, Phase, Posed, RuleSet, Some, [], ap, arith, drop, flat_map, length, length-drop, part_text, printing_breaks_off, printing_goes_on, refl, slice_get, suc, take, text_if, zero, ℕ, ◌+◌, ◌-◌, ◌<◌, ◌∙◌, ◌∷◌, ◌≡◌, ◌≤◌}

-- what comes after an index begins with the element there
first_after : {A : Type 0} (xs : List A) (n : ℕ) → n < length xs → (x : A) × (slice_get xs n ≡ Some x) × (drop n xs ≡ x ∷ drop (n + 1) xs)
first_after [] n h = absurd (omega (arith, h))
first_after (x ∷ xs) zero h = (x, refl, refl)
first_after (x ∷ xs) (suc n) h =
    let later = first_after xs n (omega (arith, h)) in
    (later.0, later.1, grind (arith, later.2))

pop_first : {A : Type 0} (x : A) (xs : List A) (k : ℕ) → take (k + 1) (x ∷ xs) ≡ x ∷ take k xs
pop_first x xs k = grind arith

-- the first of some elements after an index, and the others
first_of_some : {A : Type 0} (xs : List A) (n k : ℕ) → n < length xs
    → (x : A) × (slice_get xs n ≡ Some x) × (take (k + 1) (drop n xs) ≡ x ∷ take k (drop (n + 1) xs))
first_of_some xs n k h =
    let first = first_after xs n h in
    (first.0, first.1, ap (take (k + 1)) first.2 ∙ pop_first first.0 (drop (n + 1) xs) k)

-- from the part with a number on: the first part and the parts after it
next_part : {A : Type 0} (xs : List A) (number left : ℕ) → 1 ≤ number → 0 < left → number + left ≤ length xs + 1
    → (x : A) × (slice_get xs (number - 1) ≡ Some x) × (take left (drop (number - 1) xs) ≡ x ∷ take (left - 1) (drop number xs))
next_part xs number left counted some there =
    let first = first_of_some xs (number - 1) (left - 1) (omega (arith, counted, some, there)) in
    let whole : left ≡ left - 1 + 1 = omega (arith, some) in
    let next : number - 1 + 1 ≡ number = omega (arith, counted) in
    (first.0, first.1, ap (λ n. take n (drop (number - 1) xs)) whole ∙ first.2 ∙ ap (λ n. first.0 ∷ take (left - 1) (drop n xs)) next)

module _ (rule : RuleSet) (posed : Posed) (phase : Phase) (all xs : List (List Move)) (number left : ℕ) (before mid now : Option (List ℕ))
    (p : IsPrinting (part_text rule posed phase) all (take left (drop (number - 1) xs)) before mid) (counted : 1 ≤ number) (some : 0 < left)
    (there : number + left ≤ length xs + 1) where
  -- the next part's text is printed
  pub parts_go_on : (following : List (List Move)) → following ≡ drop number xs → Appends mid now (text_if rule posed phase (slice_get xs (number - 1)))
      → IsPrinting (part_text rule posed phase) all (take (left - 1) following) before now
  parts_go_on following skipped written =
      let next = next_part xs number left counted some there in
      rw skipped (printing_goes_on (part_text rule posed phase) all _ next.0 before mid now (rw next.2 at p) (rw next.1 at written))

  -- where the sink fails within it, a beginning of all was printed
  pub parts_break_off : Begins mid now (text_if rule posed phase (slice_get xs (number - 1)))
      → Begins before now (flat_map (part_text rule posed phase) all)
  parts_break_off begun =
      let next = next_part xs number left counted some there in
      printing_breaks_off (part_text rule posed phase) all _ next.0 before mid now (rw next.2 at p) (rw next.1 at begun)

-- fewer parts come after the parts that were skipped
pub parts_after : (xs following : List (List Move)) (number left : ℕ) → following ≡ drop number xs → 0 < left → number + left ≤ length xs + 1
    → 1 + (left - 1) ≤ length following + 1
parts_after xs following number left skipped some there = omega (arith, ap length skipped, length-drop number xs, some, there)
