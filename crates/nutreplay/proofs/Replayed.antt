-- What is read as the events of a run replays to that run.
use Rattle.std.proofs.Common.{◌≡◌, ◌∙◌, ◌⊎◌, ℕ, inl, inr, List, [], ◌∷◌}
use Rattle.std.proofs.Common.{◌++◌, Some, None, map, refl, sym, ap, subst}
use Rattle.std.proofs.lemmas.List.{map-append}
use Rattle.std.proofs.lemmas.List.Elements.{All-head, All-tail}
use Rattle.nutcore.specs.declared.event.Event.{Event}
use Rattle.nutcore.specs.declared.event.Outcome.{Outcome}
use Rattle.nutcore.specs.Server.{ServerState, new_server}
use Rattle.nutcore.specs.Step.{MayAnswer, Step, after, outcome_of, refused_after}
use Rattle.nutcore.specs.Run.{Run}
use Rattle.nutreplay.specs.declared.script.action.Action.{Action}
use Rattle.nutreplay.specs.declared.script.action.Action.TheVariants as asked
use Rattle.nutreplay.specs.Script.{ScriptLine, actions_of, max_age_of}
use Rattle.nutreplay.specs.Transcript.{TranscriptState, IsDone, AreDone, IsOutput, new_transcript}
use Rattle.nutreplay.specs.OneRun.{Happening, events_of, outcomes_of, of_line, of_lines, HadMemory}
use Rattle.nutreplay.specs.OneRun.{ReplaysRun, AnOutputRecordsOneRun, ARecordReplaysToItsRun}

-- The events of lines that ask for these.
one_event : (line : ℕ) (action : Action) (e : Event) (old new : TranscriptState)
    (h : IsDone line action old new) → action ≡ asked.Happens e →
    events_of (of_line line action old new h) ≡ e ∷ []
one_event line (asked.Happens f) e old new h is = ap (λ (x : Event). x ∷ []) (cc is)
one_event line (asked.TookAll p) e old new h is = cc is

all_events : (lines : List ScriptLine) (events : List Event) (old new : TranscriptState)
    (h : AreDone lines old new) → map (λ line. line.action) lines ≡ map (λ e. asked.Happens e) events
    → events_of (of_lines lines old new h) ≡ events
all_events [] [] old new h is = refl
all_events [] (e ∷ events) old new h is = cc is
all_events (line ∷ lines) [] old new h is = cc is
all_events (line ∷ lines) (e ∷ events) old new h is =
    let first : line.action ≡ asked.Happens e = cc is in
    let rest : map (λ l. l.action) lines ≡ map (λ x. asked.Happens x) events = cc is in
    map-append (λ (x : Happening). x.event) (of_line line.number line.action old h.0 h.1) (of_lines lines h.0 new h.2)
    ∙ ap (λ xs. xs ++ events_of (of_lines lines h.0 new h.2)) (one_event line.number line.action e old h.0 h.1 first)
    ∙ ap (λ xs. e ∷ xs) (all_events lines events h.0 new h.2 rest)

-- A run in which no memory is refused is the only one.
one_outcome : (s : ServerState) (e : Event) (o : Outcome) → MayAnswer s e o →
    refused_after o ≡ None → o ≡ outcome_of s e
one_outcome s e o (inl is) had = is
one_outcome s e o (inr (k, is, lacks)) had = let bad : Some k ≡ None = sym (ap refused_after is) ∙ had in cc bad

one_run : (events : List Event) (os qs : List Outcome) (s t u : ServerState) →
    Run s events os t → Run s events qs u → HadMemory os → HadMemory qs → (qs ≡ os) × (u ≡ t)
one_run [] [] [] s t u a b had has = (refl, b ∙ sym a)
one_run [] (o ∷ os) qs s t u a b had has = absurd a
one_run [] [] (q ∷ qs) s t u a b had has = absurd b
one_run (e ∷ events) [] qs s t u a b had has = absurd a
one_run (e ∷ events) (o ∷ os) [] s t u a b had has = absurd b
one_run (e ∷ events) (o ∷ os) (q ∷ qs) s t u (mid, first, rest) (other, second, later) had has =
    let same : q ≡ o =
    one_outcome s e q second.allowed (All-head (λ x. refused_after x ≡ None) q qs has) ∙
    sym (one_outcome s e o first.allowed (All-head (λ x. refused_after x ≡ None) o os had)) in
    let at : other ≡ mid = second.leaves ∙ ap (after s e) same ∙ sym first.leaves in
    let rests = one_run events os qs mid t u rest (subst (λ z. Run z events qs u) at later)
    (All-tail (λ x. refused_after x ≡ None) o os had) (All-tail (λ x. refused_after x ≡ None) q qs has) in
    (ap (λ x. x ∷ qs) same ∙ ap (λ xs. o ∷ xs) rests.0, rests.1)

pub replays_to_its_run : AnOutputRecordsOneRun → ARecordReplaysToItsRun
replays_to_its_run law list users descriptions max_age script output events outcomes new read =
    subst (λ age. Run (new_server list users descriptions age) events outcomes new →
    (o : IsOutput (new_server list users descriptions (max_age_of script)) script output)
    → ReplaysRun (new_server list users descriptions age) events outcomes new o.end)
    read.age of
  where
    of : Run (new_server list users descriptions (max_age_of script)) events outcomes new →
        (o : IsOutput (new_server list users descriptions (max_age_of script)) script output)
        → ReplaysRun (new_server list users descriptions (max_age_of script)) events outcomes new o.end
    of run o =
        let start : ServerState = new_server list users descriptions (max_age_of script) in
        let hs : List Happening = of_lines (actions_of list script) (new_transcript start) o.end o.done in
        let are : events_of hs ≡ events =
        all_events (actions_of list script) events (new_transcript start) o.end o.done read.actions in
        let records = law list users descriptions (max_age_of script) script output o in
        record {
          hs = hs;
          are = are;
          records = records;
          same = λ had has. one_run events outcomes (outcomes_of hs) start new o.end.server run
              (subst (λ es. Run start es (outcomes_of hs) o.end.server) are records.run) had has;
        }
