-- How far a tracked order has come, as the server answers it and as a client prints it.
use Rattle.std.proofs.Common.{◌≡◌, ◌∙◌, ℕ, ◌^◌, ◌<◌, ◌≤◌, Bool, true}
use Rattle.std.proofs.Common.{false, eqb, ltb, List, [], ◌∷◌, ◌++◌, length, append-nil}
use Rattle.std.proofs.Common.{Option, Some, None, Ok, if◌then◌else◌, refl, ap, subst, arith}
use Rattle.std.specs.Prelude.{codes, map, option_and_then, option_map, slice_get, ◌==◌}
use Rattle.std.specs.Fmt.{decimal}
use Rattle.std.specs.List.{find}
use Rattle.std.specs.Option.{ok_or}
use Rattle.std.proofs.lemmas.Bool.Decides.{nat_tests}
use Rattle.std.proofs.lemmas.Grind.{common_steps}
use Rattle.std.proofs.lemmas.Fmt.{decimal_is_IsNumeral, length-decimal-le}
use Rattle.std.proofs.lemmas.List.Elements.{All-head, All-tail}
use Rattle.nutwords.specs.Frame.{line_of}
use Rattle.nutwords.specs.Listing.{as_it_is, IsWrittenLine}
use Rattle.nutwords.specs.Natural.{read_natural}
use Rattle.nuttracking.specs.Id.{id_text}
use Rattle.nuttracking.specs.Acts.{after_acts, given, first_report}
use Rattle.nuttracking.specs.Sound.{IsLawfulProgress, HaveLawfulNumbers, IsSoundTracking, times}
use Rattle.nuttracking.specs.Tracking.{TrackingState, has_id, next_id, with_order, progress_of}
use Rattle.nuttracking.specs.declared.limits.TheConstants.{DONE_LIMIT, ORDER_LIMIT}
use Rattle.nuttracking.specs.declared.order.Progress.{Progress}
use Rattle.nuttracking.specs.declared.order.Progress.TheVariants.{Pending, Done}
use Rattle.nuttracking.specs.declared.order.TrackedOrder.{TrackedOrder}
use Rattle.nuttracking.proofs.PublicLaws.{ids_are_plain, written_is_read, read_is_written, its_driver_settles_it_once}
use Rattle.nutlisting.specs.Lines.{progress_words}
use Rattle.nutanswer.specs.Answer.{in_one_line, text_of_answer}
use Rattle.nutanswer.specs.Checks.{◌>>=◌}
use Rattle.nutcommand.specs.Command.{read_command}
use Rattle.nutcommand.specs.declared.command.Command.TheVariants as commands
use Rattle.nutcommand.specs.declared.err_word.ErrWord.TheVariants.{InvalidArgument}
use Rattle.nutcore.specs.Server.{ServerState}
use Rattle.nutcore.specs.Sound.{EveryRunKeepsTheServerSound}
use Rattle.nutcore.specs.TrackedRuns.{acts, WhatIsTrackedComesOfTheActs}
use Rattle.nutcore.specs.Reply.{text_to}
use Rattle.nutcore.specs.Reply as server
use Rattle.nutrequest.specs.declared.request.Request.TheVariants as requests
use Rattle.nutrequest.specs.Reply.{Reply, Whole, reply, after_first, first_or, refusal_of, one_item}
use Rattle.nutrequest.specs.Reply.{is_some_number, expected_of, progress_in}
use Rattle.nutclient.specs.Requests.{reply_behind}
use Rattle.nutclient.specs.Printed.{Prints, printed, printed_of}
use Rattle.nutclient.specs.declared.form.Form.TheVariants as forms
use Rattle.endtoend.specs.Tracked.{UpscPrintsHowFarAnOrderHasCome, UpscPrintsWhatItsDriverReported}
use Rattle.endtoend.specs.Served.{IsReadAsAsked}
use Rattle.endtoend.proofs.FrameReading.{behind-same}
use Rattle.endtoend.proofs.Ids.{id_written}
use Rattle.endtoend.proofs.Numbers.{digits_all, written_read}
use Rattle.endtoend.proofs.Refused.{first_read, refused_read}
use Rattle.endtoend.proofs.Requests.{sent_as, line_of_three, line_of_four}

-- the line of the request
pub get_tracking_read : (id : ℕ) → id < 2 ^ 128 → IsReadAsAsked (requests.GetTracking id)
get_tracking_read id small line e =
    let words : List (List ℕ) = codes "GET" ∷ codes "TRACKING" ∷ id_text id ∷ [] in
    let written : IsWrittenLine words words = record {
      written = (as_it_is (omega arith) refl, (as_it_is (omega arith) refl, (id_written id, tt)));
      fits = omega (arith, ids_are_plain.long id, line_of_three (codes "GET") (codes "TRACKING") (id_text id));
    } in
    cc (sent_as (requests.GetTracking id) words written line e, written_is_read id small)

-- what the server answers
answered_by : (s : ServerState) (c id : ℕ) (line : List ℕ) (o : Option Progress) →
    read_command line ≡ Ok (Some (commands.GetProgress (Some id))) → progress_of id s.tracking ≡ o
    → server.reply s c line ≡ text_of_answer
    (ok_or (option_map (λ (progress : Progress). (id, progress)) o) InvalidArgument >>=
    (λ (p : ℕ × Progress). in_one_line (codes "TRACKING" ∷ id_text p.0 ∷ progress_words p.1)))
answered_by s c id line o read is =
    ap (text_to s c) read
    ∙ ap (λ (o : Option Progress). text_of_answer
    (ok_or (option_map (λ (progress : Progress). (id, progress)) o) InvalidArgument >>=
    (λ (p : ℕ × Progress). in_one_line (codes "TRACKING" ∷ id_text p.0 ∷ progress_words p.1)))) is

number_read : (n : ℕ) → 0 < n → n ≤ 1000000000 → is_some_number (read_natural DONE_LIMIT (decimal n)) ≡ true
number_read n some few =
    let more : ltb 0 n ≡ true = grind (arith, nat_tests) in
    ap is_some_number (written_read DONE_LIMIT n few (omega arith)) ∙ more

-- what a client makes of the words
abbrev told_text : Progress → List ℕ
told_text Pending = codes "PENDING"
told_text (Done number) = if number == 0 then codes "SUCCESS" else codes "FAILED " ++ decimal number

words_told : (progress : Progress) → IsLawfulProgress progress →
    progress_in (progress_words progress) ≡ Some (told_text progress)
words_told Pending lawful = refl
words_told (Done n) lawful = by_zero (eqb n 0) refl
  where
    by_zero : (b : Bool) → eqb n 0 ≡ b →
        progress_in (if b then codes "SUCCESS" ∷ [] else codes "FAILED" ∷ decimal n ∷ []) ≡
        Some (if b then codes "SUCCESS" else codes "FAILED " ++ decimal n)
    by_zero true e = refl
    by_zero false e =
        let some : 0 < n = grind (arith, nat_tests) in
        ap (λ (b : Bool). if b then Some (codes "FAILED " ++ decimal n) else None) (number_read n some lawful)

abbrev all_words : ℕ → Progress → List (List ℕ)
all_words id progress = codes "TRACKING" ∷ id_text id ∷ progress_words progress

progress_told : (id : ℕ) (progress : Progress) → IsLawfulProgress progress →
    expected_of (requests.GetTracking id) (all_words id progress) ≡ Some (told_text progress)
progress_told id progress lawful = ap (option_and_then progress_in)
    (behind-same (codes "TRACKING" ∷ id_text id ∷ []) (progress_words progress)) ∙ words_told progress lawful

-- they are written as they are
words_written : (id : ℕ) (progress : Progress) → IsLawfulProgress progress →
    IsWrittenLine (all_words id progress) (all_words id progress)
words_written id Pending lawful = record {
  written = (as_it_is (omega arith) refl, (id_written id, (as_it_is (omega arith) refl, tt)));
  fits = omega (arith, ids_are_plain.long id, line_of_three (codes "TRACKING") (id_text id) (codes "PENDING"));
}
words_written id (Done n) lawful = by_zero (eqb n 0)
  where
    by_zero : (b : Bool) → IsWrittenLine
        (codes "TRACKING" ∷ id_text id ∷
        (if b then codes "SUCCESS" ∷ [] else codes "FAILED" ∷ decimal n ∷ []))
        (codes "TRACKING" ∷ id_text id ∷
        (if b then codes "SUCCESS" ∷ [] else codes "FAILED" ∷ decimal n ∷ []))
    by_zero true = record {
      written = (as_it_is (omega arith) refl, (id_written id, (as_it_is (omega arith) refl, tt)));
      fits = omega (arith, ids_are_plain.long id, line_of_three (codes "TRACKING") (id_text id) (codes "SUCCESS"));
    }
    by_zero false =
        let numeral = decimal_is_IsNumeral n (omega arith) in
        let short : length (decimal n) ≤ 10 = length-decimal-le 10 n (omega arith) (omega arith) (omega arith) in
        record {
          written = (
            as_it_is (omega arith) refl,
            (
              id_written id,
              (
                as_it_is (omega arith) refl,
                (as_it_is numeral.0.0 (digits_all (decimal n) numeral.0.1).1, tt),
              ),
            ),
          );
          fits = omega (
            arith,
            ids_are_plain.long id,
            short,
            line_of_four (codes "TRACKING") (id_text id) (codes "FAILED") (decimal n),
          );
        }

-- and printed as they are
printed_text : (progress : Progress) → (told_text progress ++ 10 ∷ []) ++ [] ≡ line_of (progress_words progress)
printed_text Pending = refl
printed_text (Done n) = by_zero (eqb n 0)
  where
    by_zero : (b : Bool) → ((if b then codes "SUCCESS" else codes "FAILED " ++ decimal n) ++
        10 ∷ []) ++ [] ≡ line_of (if b then codes "SUCCESS" ∷ [] else codes "FAILED" ∷ decimal n ∷ [])
    by_zero true = refl
    by_zero false = append-nil (codes "FAILED " ++ (decimal n ++ 10 ∷ []))

-- a number that is answered is lawful
lawful_found : (id : ℕ) (progress : Progress) (orders : List TrackedOrder) →
    HaveLawfulNumbers orders → option_map (λ (order : TrackedOrder). order.progress)
    (find (has_id id) orders) ≡ Some progress → IsLawfulProgress progress
lawful_found id progress [] all e = cc e
lawful_found id progress (order ∷ orders) all e =
    by_id (has_id id order) e (λ k. lawful_found id progress orders
    (All-tail (λ (order : TrackedOrder). IsLawfulProgress order.progress) order orders all) k)
  where
    by_id : (b : Bool) → option_map (λ (order : TrackedOrder). order.progress)
        (if b then Some order else find (has_id id) orders) ≡ Some progress
        → (option_map (λ (order : TrackedOrder). order.progress) (find (has_id id) orders) ≡
        Some progress → IsLawfulProgress progress) → IsLawfulProgress progress
    by_id true k later = let same : order.progress ≡ progress = cc k in
        subst IsLawfulProgress same (All-head
        (λ (order : TrackedOrder). IsLawfulProgress order.progress) order orders all)
    by_id false k later = later k

pub prints_progress : UpscPrintsHowFarAnOrderHasCome
prints_progress = record {
  known = λ s c id text line progress more read lawful is e.
      let small : id < 2 ^ 128 = ((read_is_written text id).0 read).0 in
      let mine = lawful_found id progress s.tracking.orders lawful is in
      let answer = answered_by s c id line (Some progress) (get_tracking_read id small line e) is in
      let words = all_words id progress in
      let whole : reply (requests.GetTracking id) (line_of words ++ more) ≡
      Whole (one_item (told_text progress)) more =
      first_read (requests.GetTracking id) words words more (words_written id progress mine)
      ∙ ap (λ (o : Option (List ℕ)). after_first (requests.GetTracking id)
      (first_or o (refusal_of words)) more) (progress_told id progress mine) in
      ap (λ (t : List ℕ). printed (requests.GetTracking id ∷ []) forms.Value (t ++ more)) answer
      ∙ ap (λ (r : Reply). printed_of forms.Value (reply_behind r (λ items rest. Whole items rest))) whole
      ∙ ap Prints (printed_text progress);
  unknown = λ s c id text line more read is e.
      let small : id < 2 ^ 128 = ((read_is_written text id).0 read).0 in
      let answer = answered_by s c id line None (get_tracking_read id small line e) is in
      ap (λ (t : List ℕ). printed (requests.GetTracking id ∷ []) forms.Value (t ++ more)) answer
      ∙ ap (λ (r : Reply). printed_of forms.Value
      (reply_behind r (λ items rest. Whole items rest))) (refused_read (requests.GetTracking id) InvalidArgument more);
}

-- the next id is one of 128 bits
next_small : (t : TrackingState) (id : ℕ) → IsSoundTracking t → next_id t ≡ Some id → id < 2 ^ 128
next_small t id sound next = by t.ids next (λ large. sound.small id large)
  where
    by : (ids : List ℕ) → slice_get ids 0 ≡ Some id →
        (2 ^ 128 ≤ id → times id (ids ++ map (λ (order : TrackedOrder). order.id) t.orders) ≡ 0) → id < 2 ^ 128
    by [] e none = cc e
    by (i ∷ ids) e none = let same : i ≡ id = cc e in grind (arith, nat_tests, common_steps)

pub prints_report : WhatIsTrackedComesOfTheActs → EveryRunKeepsTheServerSound →
    UpscPrintsHowFarAnOrderHasCome → UpscPrintsWhatItsDriverReported
prints_report tracked keeps how_far s left new c line ups text bytes events outcomes client asks
    more sound o sound_left is run few sent =
    let begun : left.tracking ≡ with_order o.known.id.place s.tracking = is ∙ o.kept in
    let done = acts left events outcomes in
    how_far.known new client o.id (id_text o.id) asks (first_report o.known.id.place o.id done) more
    (written_is_read o.id (next_small s.tracking o.id sound.tracking o.first))
    (keeps left new events outcomes run sound_left).numbers
    (ap (progress_of o.id) (tracked left new events outcomes run ∙
    ap (λ (t : TrackingState). after_acts t done) begun)
    ∙ its_driver_settles_it_once s.tracking o.known.id.place o.id done sound.tracking o.first
    (subst (λ (t : TrackingState). length (given t done) < ORDER_LIMIT) begun few)) sent
