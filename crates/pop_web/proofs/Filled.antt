-- What a call has shown: all bytes that it writes, or the first of them that fill the output.
use Rattle.std.proofs.Common.{Bool, List, Some, [], ap, ap₂, arith, false, length, length-append, refl, sym, take, true, ℕ, ◌<◌, ◌↔◌, ◌∙◌, ◌≡◌, ◌≢◌, ◌≤◌}
use Rattle.std.proofs.Math.Seq.{take-append_seam}
use Rattle.pop_text.specs.Bytes.{Begins}
use Rattle.pop_input.specs.Blocks.{Entry}
use Rattle.pop_run.specs.Report.{ItemText, entries_in, report_by, status, status_of}
use Rattle.pop_run.specs.declared.status.Status.TheVariants.{OutputFailed}
use Rattle.pop_parts.specs.Parts.{outcome_of, text_of}
use Rattle.pop_parts.specs.declared.request.PartRequest.{PartRequest}
use Rattle.pop_parts.specs.declared.request.Outcome.TheVariants.{OutputFailed as PartsCut}
use Rattle.pop_web.specs.Page.{Fills, ShowsItems, ShowsParts, status_number, outcome_number, room, whole_input}

-- no status of an input has the number of a failed output
other_number : (entries : List Entry) → status_number (status_of entries) ≢ status_number OutputFailed
unfolding status_of
other_number entries = grind arith

-- no outcome of parts has the number of a failed output
other_outcome : (request : PartRequest) (text : List ℕ) → outcome_number (outcome_of request (whole_input text)) ≢ outcome_number PartsCut
other_outcome request text = grind arith

-- A call writes these bytes and ends well, or writes a beginning of them and is cut. What a page is shown of it:
module _ (Ending : Type 0) (number : Ending → ℕ) (Does : List ℕ → Bool → Ending → Type 0) (bytes : List ℕ) (well cut_short : Ending)
    (all : (now : List ℕ) (ending : Ending) → Does now false ending → (now ≡ bytes) × (ending ≡ well))
    (some : (now : List ℕ) (ending : Ending) → Does now true ending → Begins (Some []) (Some now) bytes × (ending ≡ cut_short))
    (shown : List ℕ) (answer : ℕ) where
  same : (cut : Bool) (ending : Ending) → answer ≡ number ending → Does shown cut ending → answer ≢ number cut_short
      → (shown ≡ bytes) × (answer ≡ number well)
  same false ending reported does other = let it = all shown ending does in (it.0, reported ∙ ap number it.1)
  same true ending reported does other = absurd (other (reported ∙ ap number (some shown ending does).1))

  first : (cut : Bool) (ending : Ending) → answer ≡ number ending → Does shown cut ending → (cut ≡ true → length shown ≡ room)
      → number well ≢ number cut_short → answer ≡ number cut_short → shown ≡ take room bytes
  first false ending reported does full other over = absurd (other (sym (ap number (all shown ending does).1) ∙ sym reported ∙ over))
  first true ending reported does full other over = let begun = (some shown ending does).0 in
      begun.taken ∙ sym (take-append_seam begun.front begun.rest)
      ∙ ap₂ (λ n now. take n now) (sym (ap length begun.taken) ∙ full refl) (sym begun.whole)

  filled : (cut : Bool) (ending : Ending) → answer ≡ number ending → Does shown cut ending → (cut ≡ true → length shown ≡ room)
      → number well ≢ number cut_short → answer ≡ number cut_short → length shown ≡ room
  filled false ending reported does full other over = absurd (other (sym (ap number (all shown ending does).1) ∙ sym reported ∙ over))
  filled true ending reported does full other over = full refl

  longer : (cut : Bool) (ending : Ending) → answer ≡ number ending → Does shown cut ending → (cut ≡ true → length shown ≡ room)
      → number well ≢ number cut_short → answer ≡ number cut_short → room < length bytes
  longer false ending reported does full other over = absurd (other (sym (ap number (all shown ending does).1) ∙ sym reported ∙ over))
  longer true ending reported does full other over = let begun = (some shown ending does).0 in
      omega (arith, full refl, ap length begun.taken, ap length begun.whole, length-append begun.front begun.rest, begun.more)

  over_where_longer : (cut : Bool) (ending : Ending) → answer ≡ number ending → Does shown cut ending → length shown ≤ room
      → room < length bytes → answer ≡ number cut_short
  over_where_longer false ending reported does fits more = absurd (omega (arith, ap length (all shown ending does).0, fits, more))
  over_where_longer true ending reported does fits more = reported ∙ ap number (some shown ending does).1

  -- a call whose result says that it is cut has filled the output
  room_is_full : Fills Ending number Does shown answer → number well ≢ number cut_short → answer ≡ number cut_short
      → length shown ≡ room
  room_is_full f other over = filled f.cut f.ending f.reported f.does f.full other over

  -- a call is cut exactly if it writes more bytes than the output has
  cut_exactly : Fills Ending number Does shown answer → number well ≢ number cut_short → (answer ≡ number cut_short) ↔ (room < length bytes)
  cut_exactly f other = (
    λ over. longer f.cut f.ending f.reported f.does f.full other over,
    λ more. over_where_longer f.cut f.ending f.reported f.does f.fits more,
  )

  -- a call that isn't cut has shown all
  shown_whole : Fills Ending number Does shown answer → answer ≢ number cut_short → (shown ≡ bytes) × (answer ≡ number well)
  shown_whole f other = same f.cut f.ending f.reported f.does other

  -- a call that is cut has shown as many bytes as the output has
  shown_first : Fills Ending number Does shown answer → number well ≢ number cut_short → answer ≡ number cut_short
      → shown ≡ take room bytes
  shown_first f other over = first f.cut f.ending f.reported f.does f.full other over

module _ (items : ItemText) (text shown : List ℕ) (answer : ℕ) (f : ShowsItems items text shown answer) where
  -- texts of items that aren't cut are shown whole, with the number of the text's status
  pub items_whole : answer ≢ status_number OutputFailed → (shown ≡ report_by items (whole_input text)) × (answer ≡ status_number (status (whole_input text)))
  items_whole other = shown_whole _ _ _ (report_by items (whole_input text)) (status (whole_input text)) OutputFailed (λ now ending does. does)
      (λ now ending does. does) _ _ f other

  -- of texts of items that are cut, as many bytes are shown as the output has
  pub items_first : answer ≡ status_number OutputFailed → shown ≡ take room (report_by items (whole_input text))
  items_first over = shown_first _ _ _ (report_by items (whole_input text)) (status (whole_input text)) OutputFailed (λ now ending does. does)
      (λ now ending does. does) _ _ f (other_number (entries_in (whole_input text))) over

  -- texts of items are cut exactly if they are longer than the output
  pub items_cut : (answer ≡ status_number OutputFailed) ↔ (room < length (report_by items (whole_input text)))
  items_cut = cut_exactly _ _ _ (report_by items (whole_input text)) (status (whole_input text)) OutputFailed (λ now ending does. does)
      (λ now ending does. does) _ _ f (other_number (entries_in (whole_input text)))

  -- texts of items that are cut have filled the output
  pub items_full : answer ≡ status_number OutputFailed → length shown ≡ room
  items_full over = room_is_full _ _ _ (report_by items (whole_input text)) (status (whole_input text)) OutputFailed (λ now ending does. does)
      (λ now ending does. does) _ _ f (other_number (entries_in (whole_input text))) over

module _ (request : PartRequest) (text shown : List ℕ) (answer : ℕ) (f : ShowsParts request text shown answer) where
  -- a part that isn't cut is shown whole, with how its call ended
  pub part_whole : answer ≢ outcome_number PartsCut → (shown ≡ text_of request (whole_input text))
      × (answer ≡ outcome_number (outcome_of request (whole_input text)))
  part_whole other = shown_whole _ _ _ (text_of request (whole_input text)) (outcome_of request (whole_input text)) PartsCut (λ now ending does. does)
      (λ now ending does. does) _ _ f other

  -- of a part that is cut, as many bytes are shown as the output has
  pub part_first : answer ≡ outcome_number PartsCut → shown ≡ take room (text_of request (whole_input text))
  part_first over = shown_first _ _ _ (text_of request (whole_input text)) (outcome_of request (whole_input text)) PartsCut (λ now ending does. does)
      (λ now ending does. does) _ _ f (other_outcome request text) over

  -- a part is cut exactly if its text is longer than the output
  pub part_cut : (answer ≡ outcome_number PartsCut) ↔ (room < length (text_of request (whole_input text)))
  part_cut = cut_exactly _ _ _ (text_of request (whole_input text)) (outcome_of request (whole_input text)) PartsCut (λ now ending does. does)
      (λ now ending does. does) _ _ f (other_outcome request text)

  -- a part that is cut has filled the output
  pub part_full : answer ≡ outcome_number PartsCut → length shown ≡ room
  part_full over = room_is_full _ _ _ (text_of request (whole_input text)) (outcome_of request (whole_input text)) PartsCut (λ now ending does. does)
      (λ now ending does. does) _ _ f (other_outcome request text) over
