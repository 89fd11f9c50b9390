-- Which bytes tokens and items use.
use Rattle.pop_input.proofs.Words.{Block, Bool, CutsOff, Device, Entry, Err, IsClosed, IsInputOver, IsRunOver, IsUnclosed, List, Ok, Option, ComesNext, ReadFault, Reading, RestOfLine, Skips, Some, ReaderState, Sticks, Takes, TakesPart, TooLong, UsesAll, UsesItem, UsesLine, UsesRun, UsesSome, Word, [], among, append-nil, append_assoc, command_of, inl, inr, item_of, last_of, next_after, subst, uses_none, uses_then, ℕ, ◌++◌, ◌∷◌, ◌≡◌}
use Rattle.pop_text.specs.declared.read_fault.ReadFault.TheVariants.{InputTooLong}
use Rattle.pop_text.specs.declared.text.Text.{Text}
use Rattle.pop_input.specs.Blocks.{Sound, Faulty}
use Rattle.pop_input.specs.declared.item.Last.{Last}
use Rattle.pop_input.proofs.Items.{BlockSoFar}
use Rattle.pop_input.proofs.Taking.{takes_then}

-- Tokens.

-- bytes that meet a test were used
pub some_all : {test : ℕ → Bool} {old new : Reading} {had left : Option (List ℕ)} → UsesAll test old new had left → UsesSome old new had left
some_all p = record { bytes = p.bytes; uses = p.uses }

-- the bytes of a gap and a run were used
pub some_run : {old new : Reading} {had left : Option (List ℕ)} {number : ℕ} {run : List ℕ} → UsesRun old new had left number run → UsesSome old new had left
some_run {run = run} p = record { bytes = p.gap ++ run; uses = p.uses }

-- bytes were used, and then others
pub some_then : {a b c : Reading} {had mid left : Option (List ℕ)} → UsesSome a b had mid → UsesSome b c mid left → UsesSome a c had left
some_then p q = record { bytes = p.bytes ++ q.bytes; uses = uses_then p.uses q.uses }

-- no byte was used
pub some_none : (context : Reading) (had : Option (List ℕ)) → UsesSome context context had had
some_none context had = record { bytes = []; uses = uses_none context had }

-- the bytes of a text line were used
pub line_some : {old new : Reading} {had left : Option (List ℕ)} (text : Text) → UsesLine old new had left (Ok text) → UsesSome old new had left
line_some text (line, plain, is, inl u) = record { bytes = line ++ 10 ∷ []; uses = u }
line_some text (line, plain, is, inr u) = record { bytes = line; uses = u.0 }

-- a text line that a fault cuts
pub line_cut : {old mid new : Reading} {had met left : Option (List ℕ)} (keyword : List ℕ) (fault : ReadFault) → UsesSome old mid had met
    → UsesLine mid new met left (Err fault) → RestOfLine keyword mid new met left (Err fault) → Sticks new fault
    → UsesSome old new had left × ComesNext new (Err fault)
line_cut keyword (TooLong line) s u rest at = absurd rest
line_cut keyword (InputTooLong line) s u rest at = (some_then s (some_all u), at)
line_cut keyword (Device line) s u rest at = (some_then s (some_all u), at)

-- bytes were used, and then plain words skipped
pub some_skipped : {a b c : Reading} {had left : Option (List ℕ)} → UsesSome a b had left → Skips b c → UsesSome a c had left
some_skipped {left = left} p s = record { bytes = p.bytes ++ s.bytes; uses = uses_then p.uses (s.uses left) }

-- Items.

module _ (first : Bool) (old new : ReaderState) (mid : Reading) (had met left : Option (List ℕ)) (block : Block) (b : BlockSoFar first old.at mid had met block)
    (s : UsesSome old.at mid had met) where
  -- the item of a block that a word closes
  pub word_used : (line : ℕ) (text : List ℕ) (last : Last) → TakesPart mid new.at met left (Word line text)
      → UsesRun mid new.at met left line text × IsRunOver new.at → last_of (command_of text) ≡ Some last → new.next ≡ next_after last
      → IsClosed old new had left
  word_used line text last t u is next = record {
    front = b.done;
    plain = b.plain;
    line = line;
    word = text;
    last = last;
    closes = is;
    next = next;
    before = s.bytes ++ u.0.gap;
    solid = u.0.solid;
    used = record {
      uses = rw append_assoc (uses_then s.uses u.0.uses);
      takes = takes_then (among old.at) (among mid) (among new.at) had met left b.done (Word line text ∷ []) b.takes t.0;
    };
    over = u.1;
  }

  -- the item of a block in which the input ends or is cut
  pub end_used : Takes (among mid) (among new.at) met left [] → UsesSome mid new.at met left → IsInputOver new.at → IsUnclosed old new had left
  end_used t u over = record {
    tokens = b.done;
    plain = b.plain;
    bytes = s.bytes ++ u.bytes;
    used = record {
      uses = uses_then s.uses u.uses;
      takes = subst (λ d. Takes (among old.at) (among new.at) had left d) (append-nil b.done)
          (takes_then (among old.at) (among mid) (among new.at) had met left b.done [] b.takes t);
    };
    over = over;
  }

-- the item of a closed block, if the reader is at the end of the closing word
pub closed_item : (old new following : ReaderState) (had left met : Option (List ℕ)) (entry : Entry) (last : Last) → IsClosed old following had met
    → new ≡ following → left ≡ met → UsesItem old new had left (item_of entry last)
closed_item old new following had left met (Sound problem) last is stays same = rw (stays, same) is
closed_item old new following had left met (Faulty fault) last is stays same = rw (stays, same) (inl is)

-- if a fault cuts the input, no token is taken
pub cut_takes : {old new : Reading} {had left : Option (List ℕ)} (cut : ReadFault) → CutsOff old new had left cut → Takes (among old) (among new) had left []
cut_takes (TooLong line) t = absurd t
cut_takes (InputTooLong line) t = t.0
cut_takes (Device line) t = t.0.0
