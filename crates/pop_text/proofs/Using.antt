-- Bytes used one after another.
use Rattle.pop_text.proofs.Basics.{CallsSource, Bool, Consumes, Device, End, Err, InputTooLong, IsRunOver, List, Ok, Open, Option, ComesNext, ReadFault, Reading, Result, RunsTo, HoldsAfterWord, Sticks, TooLong, Uses, UsesAll, UsesRun, UsesSolid, UsesWord, [], ap, append-nil, append_assoc, arith, cases_lt, eqb-true, failures_after, false, found_by, found_of}
use Rattle.pop_text.proofs.Basics.{inl, inr, is_gap, is_in_word, is_line_end, le-ltb, length, length-append, length-take, list_all, list_all-append, ltb-false, ltb-true, nat_lt, refl, subst, sum_by-append, sym, take, take-append-add, take-append-le, take_all, true, ℕ, ◌++◌, ◌+◌, ◌<◌, ◌∙◌, ◌∷◌, ◌≡◌, ◌⊎◌}
use Rattle.pop_text.specs.declared.word.Word.{Word as Read}
use Rattle.pop_text.proofs.WordLaws.{line_lines, solid_line}

-- bytes taken from a source one after another
pub consumes_then : (a b c : Option (List ℕ)) (xs ys : List ℕ) → Consumes a b xs → Consumes b c ys → Consumes a c (xs ++ ys)
consumes_then a b c xs ys p q = grind (arith, append_assoc)

-- a source from which nothing was taken has all that it had
pub keeps_bytes : (had : Option (List ℕ)) → Consumes had had []
keeps_bytes had = grind arith

-- bytes used one after another
pub uses_then : {a b c : Reading} {had mid left : Option (List ℕ)} {xs ys : List ℕ} → Uses a b had mid xs → Uses b c mid left ys → Uses a c had left (xs ++ ys)
uses_then {a} {b} {c} {had} {mid} {left} {xs} {ys} p q = grind (arith, consumes_then, append_assoc, length-append, sum_by-append)

-- no byte was used
pub uses_none : (place : Reading) (had : Option (List ℕ)) → Uses place place had had []
uses_none place had = record {
  taken = [];
  consumed = keeps_bytes had;
  unread = append-nil place.window;
  used = omega arith;
  line = omega arith;
  still = inr (refl, refl);
}

-- before the first byte nothing is used
unfoldable no_run : (test : ℕ → Bool) (place : Reading) (had : Option (List ℕ)) → UsesAll test place place had had
no_run test place had = record { bytes = []; all = refl; uses = uses_none place had }

-- bytes that meet a test, used one after another
unfoldable pub all_then : {test : ℕ → Bool} {a b c : Reading} {had mid left : Option (List ℕ)} → UsesAll test a b had mid → UsesAll test b c mid left
    → UsesAll test a c had left
all_then {test} p q = record { bytes = p.bytes ++ q.bytes; all = list_all-append test p.bytes q.bytes ∙ rw (p.all, q.all) refl; uses = uses_then p.uses q.uses }

-- a byte that is only looked at is still unused
unfoldable pub all_seen : {test : ℕ → Bool} {a b c : Reading} {had mid left : Option (List ℕ)} → UsesAll test a b had mid → Uses b c mid left []
    → UsesAll test a c had left
all_seen p u = record { bytes = p.bytes; all = p.all; uses = rw append-nil at (uses_then p.uses u) }

-- Bytes that meet a test were used, and this was kept of them.
pub record SoFar {A : Type 0} (test : ℕ → Bool) (keep : List ℕ → A) (old new : Reading) (had left : Option (List ℕ)) (kept : A) : Type 0 where
  pub used : UsesAll test old new had left
  pub is : kept ≡ keep used.bytes

-- before the first byte nothing is kept
pub none_so_far : {A : Type 0} (test : ℕ → Bool) (keep : List ℕ → A) (place : Reading) (had : Option (List ℕ)) → SoFar test keep place place had had (keep [])
unfolding no_run
none_so_far test keep place had = record { used = no_run test place had; is = refl }

-- a byte that is only looked at adds nothing
pub seen_so_far : {A : Type 0} {test : ℕ → Bool} {keep : List ℕ → A} {a b c : Reading} {had mid left : Option (List ℕ)} {kept : A}
    → SoFar test keep a b had mid kept → Uses b c mid left [] → SoFar test keep a c had left kept
unfolding all_seen
seen_so_far p u = record { used = all_seen p.used u; is = p.is }

-- a byte was looked at, and then a part was used
pub more_so_far : {A : Type 0} {test : ℕ → Bool} {keep : List ℕ → A} {a b c d : Reading} {had mid left : Option (List ℕ)} {kept : A} (part : List ℕ) (next : A)
    (p : SoFar test keep a b had mid kept)
    → Uses b c mid left [] → list_all test part ≡ true → Uses c d left left part → next ≡ keep (p.used.bytes ++ part) → SoFar test keep a d had left next
unfolding all_then all_seen
more_so_far part next p u all uses is = record { used = all_then (all_seen p.used u) (record { bytes = part; all = all; uses = uses }); is = is }

-- Ends and failures.

-- failures of two steps
pub failures_then : (a b c : End) (n m k : ℕ) → a ≡ Open ⊎ b ≡ a → b ≡ Open ⊎ c ≡ b → m ≡ failures_after a b n → k ≡ failures_after b c m
    → k ≡ failures_after a c n
failures_then a b c n m k p q e f = grind arith

-- a source that isn't called doesn't fail
pub calls_none : (end : End) (had : Option (List ℕ)) (n : ℕ) → CallsSource end end had had n n
calls_none end had n = grind arith

-- the calls of a source in two steps
pub calls_then : {a b c : End} {had mid left : Option (List ℕ)} {n m k : ℕ} → CallsSource a b had mid n m → CallsSource b c mid left m k
    → CallsSource a c had left n k
calls_then p q = grind arith

-- Runs.

-- what a word has of a run, and whether it has all
abbrev pub kept_of_run : List ℕ → List ℕ × Bool
kept_of_run run = (take 160 run, nat_lt (length run) 161)

-- as many bytes of a part as there is room for
pub take_room : (kept part : List ℕ) (room : ℕ) → length kept + room ≡ 160 → take 160 (kept ++ part) ≡ kept ++ take room part
take_room kept part room is = rw (← is) (take-append-add kept part room)

-- what the word has of a longer run, and whether it has all
pub run_more : (run part : List ℕ) → 0 < length part → kept_of_run (take 160 run ++ part) ≡ kept_of_run (run ++ part)
run_more run part some = elim (cases_lt 160 (length run)) [
  | inl long ↦ grind (arith, length-take 160 run, take_room (take 160 run) part 0, append-nil, take-append-le 160 run part, le-ltb, length-append)
  | inr short ↦ ap (λ r. kept_of_run (r ++ part)) (take_all 160 run short)
]

-- a run is over
pub run_over : {old new : Reading} {had left : Option (List ℕ)} {kept : List ℕ} (fits : Bool) → SoFar is_in_word kept_of_run old new had left (kept, fits)
    → IsRunOver new → RunsTo old new had left kept (Ok fits)
run_over {kept = kept} true p over =
    let few : length p.used.bytes < 161 = ltb-true (length p.used.bytes) 161 (sym (ap (λ k. k.1) p.is)) in
    grind (arith, take_all 160 p.used.bytes (omega arith))
run_over false p over = grind (arith, ltb-false)

-- a gap, and a run after it
gap_run : {a b c : Reading} {had mid left : Option (List ℕ)} (number : ℕ) {run : List ℕ} → UsesAll is_gap a b had mid → UsesSolid b c mid left run
    → number ≡ b.line → UsesRun a c had left number run
gap_run number p q is = record { gap = p.bytes; blank = p.all; solid = q.solid; uses = uses_then p.uses q.uses; line = is ∙ p.uses.line }

-- a run isn't empty if the next byte is in no gap
first_byte : (b : ℕ) (rest : List ℕ) (new : Reading) (taken run : List ℕ) → (b ∷ rest) ++ taken ≡ run ++ new.window → is_gap b ≡ false → IsRunOver new
    → 0 < length run
first_byte b rest new taken [] e out over = grind (arith, e, out)
first_byte b rest new taken (c ∷ run) e out over = omega arith

-- a gap and the run after it are the word that is found, or the fault
pub found_uses : (old mid new : Reading) (had met left : Option (List ℕ)) (word : Read) (run : Result Bool ReadFault) → UsesAll is_gap old mid had met
    → word.line ≡ mid.line → RunsTo mid new met left word.bytes.items run → UsesWord old new had left (found_by word (found_of run word.line))
found_uses old mid new had met left word (Ok true) p line q = (gap_run word.line p q.0 line, q.1)
found_uses old mid new had met left word (Ok false) p line (run, long, q, over) = (run, long, gap_run word.line p q line, over)
found_uses old mid new had met left word (Err (TooLong number)) p line q = absurd q.2
found_uses old mid new had met left word (Err (InputTooLong number)) p line (run, q, at) = (run, gap_run number p q (grind (arith, line_lines, solid_line)))
found_uses old mid new had met left word (Err (Device number)) p line (run, q, at) = (run, gap_run number p q (grind (arith, line_lines, solid_line)))

-- the word has a byte if the run's first byte is in no gap
pub found_stands : (mid new : Reading) (met left : Option (List ℕ)) (word : Read) (run : Result Bool ReadFault) (b : ℕ) (rest : List ℕ)
    → RunsTo mid new met left word.bytes.items run → mid.window ≡ b ∷ rest → is_gap b ≡ false → HoldsAfterWord new (found_by word (found_of run word.line))
found_stands mid new met left word run b rest p at out = grind (arith, first_byte)

-- a gap up to a fault
pub uses_cut : (old new : Reading) (had left : Option (List ℕ)) (fault : ReadFault) → UsesAll is_gap old new had left → ComesNext new
    (Err fault) → UsesWord old new had left (Err fault)
unfolding no_run
uses_cut old new had left fault p at = found_uses old new new had left left (record { bytes = record { items = [] }; line = new.line }) (Err fault) p refl
    ([], record { solid = refl; uses = (no_run is_gap new left).uses }, at)

-- a fault that comes next is found again by every later call
pub fault_sticks : (fault : ReadFault) (place : Reading) → ComesNext place (Err fault) → Sticks place fault
fault_sticks fault place at = grind arith

-- a line, and the line end after it
pub line_ends : {old here new : Reading} {had left : Option (List ℕ)} {line : List ℕ} (b : ℕ) (rest : List ℕ) → Uses old here had left line
    → here.window ≡ b ∷ rest → is_line_end b ≡ true → Uses here new left left (take 1 here.window) → Uses old new had left (line ++ 10 ∷ [])
line_ends = grind (arith, eqb-true, uses_then)

-- a fault in a state is a fault in an equal state
pub still_stuck : (a b : Reading) (fault : ReadFault) → b ≡ a → ComesNext a (Err fault) → ComesNext b (Err fault)
still_stuck a b fault same at = subst (λ place. ComesNext place (Err fault)) (sym same) at
