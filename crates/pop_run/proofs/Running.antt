-- A run, step by step.
use Rattle.pop_run.proofs.Basics.{Appends, Begins, Bool, End, Entry, Err, Finished, IfSome, Input, IsEndSeen, ItemText, List, None, Ok, Open, Option, OutputFailed, Problem, Reads, Result, RunState, RunsBy, Some, ReaderState, Steps, TakesItem, Writes, [], ap, append-nil, append_assoc, appends_kept, appends_none, appends_then, arith, begins_later}
use Rattle.pop_run.proofs.Basics.{begins_longer, consumes_then, entries_in, entries_left, failures_after, false, first_state, has_grown, input_met, is_err, is_faulty, length, length-append, length-take, limit, list_any, not, refl, report_from, status_of, status_with, step_of, sym, taken_of, reports_device_failure, true, ℕ, ◌++◌, ◌+◌, ◌^◌, ◌||◌, ◌∙◌, ◌∷◌, ◌≡◌, ◌≤◌}
use Rattle.std.proofs.lemmas.Bool.{lt-ltb}
use Rattle.pop_text.specs.declared.sink.SinkFault.{SinkFault}
use Rattle.pop_input.specs.ties.ReaderState.{initial_state}
use Rattle.pop_input.proofs.Taking.{some_rest}
use Rattle.pop_run.proofs.Meeting.{is_broken, met_after}
use Rattle.pop_run.proofs.Reached.{Reached, Stopped, item_reached, item_stops, reached_start, still_more, stopped_last, stopped_reads}
use Rattle.pop_run.specs.Run.{ReadsUpTo}
use Rattle.pop_run.specs.declared.status.Status.{Status}
use Rattle.pop_run.specs.ties.Sessions.{ends}

-- the result of a step that read an item and printed it
pub item_done : {A B : Type 0} (text : A → ItemText) (old new : RunState A) (had left before now : Option (List ℕ)) (entry : Entry)
    (printed : Result B SinkFault)
    → TakesItem old new had left entry → new.stopped ≡ is_err printed → Writes before now (text old.writer old.number entry) printed
    → Steps text old new had left before now (step_of printed (Problem (not (is_faulty entry))))
item_done text old new had left before now entry printed takes stopped written = grind arith

-- From the beginning to now these items were read, and their report was written.
pub record Progress {A : Type 0} (text : A → ItemText) (writer : A) (now : RunState A) (had left before taken : Option (List ℕ)) : Type 0 where
  pub items : List Entry
  pub reads : Reads initial_state now.at had left items
  pub written : Appends before taken (report_from (text writer) 1 items)
  pub number : now.number ≡ 1 + length items
  pub status : now.status ≡ status_of items
  pub writer_is : now.writer ≡ writer
  pub running : now.stopped ≡ false
  pub reached : Reached now.at had left

-- items read one after another
pub reads_then : (a b c : ReaderState) (had mid left : Option (List ℕ)) (xs ys : List Entry) → Reads a b had mid xs → Reads b c mid left ys
    → Reads a c had left (xs ++ ys)
reads_then a b c had mid left xs ys p q = grind (arith, consumes_then had mid left p.bytes q.bytes p.taken q.taken, append_assoc, length-append p.bytes q.bytes)

-- the report of two lists of items joined is the report of the first, then the report of the second
pub report-append : (text : ItemText) (n : ℕ) (xs ys : List Entry) → report_from text n (xs ++ ys) ≡ report_from text n xs
    ++ report_from text (n + length xs) ys
report-append text n [] ys = ap (λ k. report_from text k ys) (omega arith)
report-append text n (x ∷ xs) ys = grind (arith, append_assoc, report-append text (n + 1) xs ys)

-- a test of a list with one more element at its end
pub any_more : (test : Entry → Bool) (xs : List Entry) (x : Entry) → list_any test (xs ++ x ∷ []) ≡ (list_any test xs || test x)
any_more test [] x = grind arith
any_more test (y ∷ xs) x = rw (any_more test xs x) (grind arith)

-- the status of items and one more
pub status_more : (xs : List Entry) (x : Entry) → status_of (xs ++ x ∷ []) ≡ status_with (status_of xs) (reports_device_failure x) (is_faulty x)
unfolding status_of
status_more xs x = grind (arith, any_more)

-- before the first item nothing is read or written
pub progress_start : {A : Type 0} (text : A → ItemText) (writer : A) (had before : Option (List ℕ))
    → Progress text writer (first_state writer) had had before before
unfolding status_of
progress_start text writer had before = record {
  items = [];
  reads = record { bytes = []; taken = grind arith; follows = λ rest may. may; begin = λ rest may. refl; amount = refl };
  written = appends_none before;
  number = refl;
  status = refl;
  writer_is = refl;
  running = refl;
  reached = reached_start had;
}

-- if an item was read, one was still to come
more_left : {A : Type 0} (old new : RunState A) (had left : Option (List ℕ)) (entry : Entry) → TakesItem old new had left entry → ends old.at.next ≡ false
more_left old new had left entry t = let r = some_rest new.at.at.end in still_more old.at new.at had left entry r.0 r.1 t.reads

-- a step reads one item more and writes its text
pub progress_step : {A : Type 0} (text : A → ItemText) (writer : A) (old new : RunState A) (had mid left before t now : Option (List ℕ)) (sound : Bool)
    → Progress text writer old had mid before t
    → Steps text old new mid left t now (Ok (Problem sound)) → Progress text writer new had left before now
progress_step text writer old new had mid left before t now sound p q = record {
  items = p.items ++ q.0 ∷ [];
  reads = reads_then initial_state old.at new.at had mid left p.items (q.0 ∷ []) p.reads q.1.reads;
  written = rw (report-append (text writer) 1 p.items (q.0 ∷ []), append-nil) (appends_then before t now _ _ p.written (rw (p.number, p.writer_is) at q.2));
  number = q.1.number ∙ ap (λ n. n + 1) p.number ∙ omega (arith, length-append p.items (q.0 ∷ []));
  status = q.1.status ∙ ap (λ s. status_with s (reports_device_failure q.0) (is_faulty q.0)) p.status ∙ sym (status_more p.items q.0);
  writer_is = q.1.writer ∙ p.writer_is;
  running = q.3;
  reached = item_reached old.at new.at had mid left p.reached (more_left old new mid left q.0 q.1) q.0 q.1.used;
}

-- before the first item, all items of the input are still to come
pub all_to_come : (rest : Input) → entries_left initial_state rest ≡ entries_in rest
unfolding entries_in
all_to_come rest = grind arith

-- what was read of an input that is over
module _ {A : Type 0} (text : A → ItemText) (writer : A) (old new : RunState A) (had mid left before t now : Option (List ℕ)) (answer : Status)
    (p : Progress text writer old had mid before t)
    (q : Steps text old new mid left t now (Ok (Finished answer))) where
  last_reads : Reads initial_state new.at had left p.items
  last_reads = rw (q.1, q.2) p.reads

  last_stops : Stopped new.at had left
  last_stops = rw (q.1, q.2) (stopped_last p.reached q.0)

  none_left : (rest : Input) → entries_left new.at rest ≡ []
  none_left rest = grind arith

-- a run that ends
progress_end : {A : Type 0} (text : A → ItemText) (writer : A) (old new : RunState A) (mid left before t now : Option (List ℕ)) (r : List ℕ) (answer : Status)
    → Progress text writer old (Some r) mid before t → Steps text old new mid left t now (Ok (Finished answer)) → IsEndSeen new.at.at.end left
    → RunsBy (text writer) (input_met (is_broken new.at.at.end) r left) before now false answer
progress_end text writer old new mid left before t now r answer p q seen =
    let all = last_reads text writer old new (Some r) mid left before t now answer p q in
    let m = met_after new.at.at.end left r all.bytes all.taken seen in
    let none = none_left text writer old new (Some r) mid left before t now answer p q m.0 in
    let items : entries_in (input_met (is_broken new.at.at.end) r left) ≡ p.items =
    ap entries_in m.2 ∙ sym (all_to_come _) ∙ all.begin m.0 m.1 ∙ rw (none, append-nil) refl in
    (rw items (appends_kept before t now _ p.written q.3), q.4 ∙ p.status ∙ sym (ap status_of items))

cut_begins : {A : Type 0} (text : A → ItemText) (writer : A) (items : List Entry) (entry : Entry) (more : List Entry) (before t now : Option (List ℕ))
    → Appends before t (report_from (text writer) 1 items) → Begins t now (text writer (1 + length items) entry)
    → Begins before now (report_from (text writer) 1 ((items ++ entry ∷ []) ++ more))
cut_begins text writer items entry more before t now written begun =
    let last = text writer (1 + length items) entry in
    rw (
      append_assoc items (entry ∷ []) more,
      report-append (text writer) 1 items (entry ∷ more),
      sym (append_assoc (report_from (text writer) 1 items) last (report_from (text writer) (1 + length items + 1) more)),
    ) (begins_longer _ (begins_later before t now (report_from (text writer) 1 items) last written begun))

-- a run that the sink cuts off
progress_cut : {A : Type 0} (text : A → ItemText) (writer : A) (old new : RunState A) (mid left before t now : Option (List ℕ)) (r : List ℕ) (fault : SinkFault)
    → Progress text writer old (Some r) mid before t → Steps text old new mid left t now (Err fault) → IsEndSeen new.at.at.end left
    → RunsBy (text writer) (input_met (is_broken new.at.at.end) r left) before now true OutputFailed
progress_cut text writer old new mid left before t now r fault p q seen =
    let all = reads_then initial_state old.at new.at (Some r) mid left p.items (q.0 ∷ []) p.reads q.1.reads in
    let m = met_after new.at.at.end left r all.bytes all.taken seen in
    let items : entries_in (input_met (is_broken new.at.at.end) r left) ≡ (p.items ++ q.0 ∷ []) ++ entries_left new.at m.0 =
    ap entries_in m.2 ∙ sym (all_to_come _) ∙ all.begin m.0 m.1 in
    (rw items (cut_begins text writer p.items q.0 _ before t now p.written (rw (p.number, p.writer_is) at q.2)), refl)

-- an unchanged count hasn't grown
pub grew_same : (n : ℕ) → has_grown n n ≡ false
grew_same n = grind arith

-- a count with one more has grown
pub grew_more : (n : ℕ) → has_grown n (n + 1) ≡ true
grew_more n = lt-ltb n (n + 1) (omega arith)

-- the count of failures says whether the input broke off
pub grew_broken : (e : End) (n m : ℕ) → m ≡ failures_after Open e n → has_grown n m ≡ is_broken e
grew_broken e n m is = grind (arith, grew_same, grew_more)

-- a run that meets the end of its input writes the whole report, and its status is the report's
pub run_ends : {A : Type 0} (text : A → ItemText) (writer : A) (old new : RunState A) (had mid left before t now : Option (List ℕ)) (answer : Status)
    (n m v w : ℕ)
    → Progress text writer old had mid before t → Steps text old new mid left t now (Ok (Finished answer)) → IsEndSeen new.at.at.end left
    → m ≡ failures_after Open new.at.at.end n → w ≡ v
    → IfSome had (λ r. RunsBy (text writer) (input_met (has_grown n m) r left) before now (has_grown v w) answer)
run_ends text writer old new None mid left before t now answer n m v w p q seen reads writes = tt
run_ends text writer old new (Some r) mid left before t now answer n m v w p q seen reads writes =
    rw (grew_broken new.at.at.end n m reads, writes, grew_same v) (progress_end text writer old new mid left before t now r answer p q seen)

-- a run whose sink fails writes a beginning of the report, and its status says so
pub run_cut : {A : Type 0} (text : A → ItemText) (writer : A) (old new : RunState A) (had mid left before t now : Option (List ℕ)) (fault : SinkFault)
    (n m v w : ℕ)
    → Progress text writer old had mid before t → Steps text old new mid left t now (Err fault) → IsEndSeen new.at.at.end left → m
    ≡ failures_after Open new.at.at.end n
    → w ≡ v + 1 → IfSome had (λ r. RunsBy (text writer) (input_met (has_grown n m) r left) before now (has_grown v w) OutputFailed)
run_cut text writer old new None mid left before t now fault n m v w p q seen reads writes = tt
run_cut text writer old new (Some r) mid left before t now fault n m v w p q seen reads writes =
    rw (grew_broken new.at.at.end n m reads, writes, grew_more v) (progress_cut text writer old new mid left before t now r fault p q seen)

-- a run takes as many bytes as are used and as wait in the window
taken_most : (new : ReaderState) (r : List ℕ) (left : Option (List ℕ)) (items : List Entry) → Reads initial_state new (Some r) left items
    → new.at.used ≤ limit → length new.at.window ≤ 4096 → length (taken_of r left) ≤ 2 ^ 30 + 4096
unfolding limit
taken_most new r left items p within waits = grind (arith, length-append, length-take)

-- a source that has failed isn't called again
pub failed_once : (e : End) (n m : ℕ) → m ≡ failures_after Open e n → m ≤ n + 1
failed_once e n m is = grind arith

-- a run that ends takes at most the limit and one window
pub ended_most : {A : Type 0} (text : A → ItemText) (writer : A) (old new : RunState A) (had mid left before t now : Option (List ℕ)) (answer : Status)
    → Progress text writer old had mid before t
    → Steps text old new mid left t now (Ok (Finished answer)) → new.at.at.used ≤ limit → length new.at.at.window ≤ 4096
    → IfSome had (λ r. length (taken_of r left) ≤ 2 ^ 30 + 4096)
ended_most text writer old new None mid left before t now answer p q within waits = tt
ended_most text writer old new (Some r) mid left before t now answer p q within waits =
    taken_most new.at r left _ (last_reads text writer old new (Some r) mid left before t now answer p q) within waits

-- a run whose sink fails takes at most the limit and one window
pub cut_most : {A : Type 0} (text : A → ItemText) (writer : A) (old new : RunState A) (had mid left before t now : Option (List ℕ)) (fault : SinkFault)
    → Progress text writer old had mid before t
    → Steps text old new mid left t now (Err fault) → new.at.at.used ≤ limit → length new.at.at.window ≤ 4096
    → IfSome had (λ r. length (taken_of r left) ≤ 2 ^ 30 + 4096)
cut_most text writer old new None mid left before t now fault p q within waits = tt
cut_most text writer old new (Some r) mid left before t now fault p q within waits = taken_most new.at r left _
    (reads_then initial_state old.at new.at (Some r) mid left p.items (q.0 ∷ []) p.reads q.1.reads) within waits

-- How far a run reads.

-- a run that ends reads up to an item's end or the input's, and at most a window more
pub ended_reads : {A : Type 0} (text : A → ItemText) (writer : A) (old new : RunState A) (had mid left before t now : Option (List ℕ)) (answer : Status)
    (n m : ℕ)
    → Progress text writer old had mid before t → Steps text old new mid left t now (Ok (Finished answer)) → IsEndSeen new.at.at.end left
    → length new.at.at.window ≤ 4096 → m ≡ failures_after Open new.at.at.end n
    → IfSome had (λ r. ReadsUpTo (input_met (has_grown n m) r left) (taken_of r left))
ended_reads text writer old new None mid left before t now answer n m p q seen few reads = tt
ended_reads text writer old new (Some r) mid left before t now answer n m p q seen few reads =
    rw (grew_broken new.at.at.end n m reads) (stopped_reads new.at r left (last_stops text writer old new (Some r) mid left before t now answer p q) seen few)

-- a run whose sink fails reads up to an item's end or the input's, and at most a window more
pub cut_reads : {A : Type 0} (text : A → ItemText) (writer : A) (old new : RunState A) (had mid left before t now : Option (List ℕ)) (fault : SinkFault)
    (n m : ℕ)
    → Progress text writer old had mid before t → Steps text old new mid left t now (Err fault) → IsEndSeen new.at.at.end left → length new.at.at.window ≤ 4096
    → m ≡ failures_after Open new.at.at.end n → IfSome had (λ r. ReadsUpTo (input_met (has_grown n m) r left) (taken_of r left))
cut_reads text writer old new None mid left before t now fault n m p q seen few reads = tt
cut_reads text writer old new (Some r) mid left before t now fault n m p q seen few reads =
    let stops = item_stops old.at new.at (Some r) mid left p.reached (more_left old new mid left q.0 q.1) q.0 q.1.used in
    rw (grew_broken new.at.at.end n m reads) (stopped_reads new.at r left stops seen few)
