-- Each answer of a run has the shape of an answer, so the answers can be kept apart.
use Rattle.std.proofs.Common.{◌≡◌, ◌∙◌, ℕ, Bool, true, false, not, List, []}
use Rattle.std.proofs.Common.{◌∷◌, ◌++◌, Option, Result, refl, sym, ap, subst}
use Rattle.std.proofs.Common.{append_assoc, arith}
use Rattle.std.specs.Prelude.{All, IfSome, map, filter, length}
use Rattle.std.proofs.Math.Seq.{take-append_seam}
use Rattle.std.specs.List.{concat, flat_map}
use Rattle.std.proofs.lemmas.List.Elements.{All-nil, All-cons, All-filter, All-map, All-take, All-weaker, filter_passes}
use Rattle.std.proofs.lemmas.Bool.{not-true}
use Rattle.nutwords.specs.Answers.{IsAnswer}
use Rattle.nutwords.specs.Natural.{is_empty}
use Rattle.nutwords.proofs.PublicLaws.{first_answers_are_the_first, answers_are_cut_in_one_way}
use Rattle.nutdriver.specs.Sound.{IsSoundTree, EachLineKeepsTheTreeSound, ReadLinesAreLawful}
use Rattle.nutdriver.specs.Tree.{empty_tree}
use Rattle.nutcommand.specs.declared.command.Command.{Command}
use Rattle.nutcommand.specs.declared.err_word.ErrWord.{ErrWord}
use Rattle.nutcommand.specs.declared.err_word.ErrWord.TheVariants.{TooLong}
use Rattle.nutcommand.specs.Command.{read_command, IsLawfulReading}
use Rattle.nutanswer.specs.Laws.{IsLawfulSeen}
use Rattle.nutanswer.specs.View.{UpsSeen, ClientSeen}
use Rattle.nutanswer.proofs.PublicLaws.{each_answer_is_a_line_or_a_listing, each_error_is_a_line}
use Rattle.nutcommand.proofs.PublicLaws.{what_is_read_is_lawful}
use Rattle.nutcore.proofs.Common.{length-map, Event, Outcome, UpsState, ServerState, Run}
use Rattle.nutcore.specs.Step.{with_input, without_output}
use Rattle.nutcore.specs.declared.event.Event.TheVariants.{Feed, Took}
use Rattle.nutcore.specs.History.{Execution, of_line, of_notice, text_of, executions, of_client}
use Rattle.nutcore.specs.History.{answers, taken, owed, is_closed}
use Rattle.nutcore.specs.Headline.{IsBeginning, IsInPump, IsInEvent, IsTimely}
use Rattle.nutcore.specs.Reply.{seen, seen_ups, seen_client, asker, text_to}
use Rattle.nutcore.specs.Addresses.{opened_from, OpensLawfully}
use Rattle.nutcore.specs.Sound.{Each, IsSoundUps, IsSound}
use Rattle.nutcore.specs.DriverRuns.{IsNewServer}
use Rattle.nutcore.specs.AnswersApart.{list_of_answers, TheAnswersOfARunAreCutInOneWay}
use Rattle.nutcore.proofs.Executions.{each_answer_timely}
use Rattle.nutcore.proofs.Kept.{IsKept, IsAny, any_event, by_lines, by_run}
use Rattle.nutcore.proofs.Sound.{sound_kept, new_sound, sound_lawful}
use Rattle.nutcore.proofs.Addresses.{HaveLawfulAddresses, IsLawfulAddress, addresses_kept, all_of}
use Rattle.nutcore.proofs.Stepping.{run_sent}

-- what every part of an event keeps holds of the server on which a line is executed
abbrev IsOn : (ServerState → Type 0) → Execution → Type 0
IsOn P (of_line s c line) = P s
IsOn P (of_notice s c) = Unit {0}

module _ (P : ServerState → Type 0) (Opens : List ℕ → Type 0) (kept : IsKept P Opens) where
  on_pump : (begun : ServerState) (c : ℕ) (x : Execution) → IsInPump begun c x → P begun → IsOn P x
  on_pump begun c (of_line s d line) h p = subst P (sym h.2) (by_lines P kept.pumped h.1 c begun p)
  on_pump begun c (of_notice s d) h p = tt

  on_event : (s : ServerState) (e : Event) (x : Execution) → IsInEvent s e x → P s → IsOn P x
  unfolding with_input without_output
  on_event s (Feed c piece) x h p = on_pump (with_input s c piece) c x h (kept.pumped.joins s c piece p)
  on_event s (Took c n) x h p = on_pump (without_output s c n) c x h (kept.pumped.gives s c n p)
  on_event s e x h p = absurd h

  abbrev OpensFrom : Event → Type 0
  OpensFrom e = IfSome (opened_from e) Opens

  run_on : (s t : ServerState) (es : List Event) (os : List Outcome) → Run s es os t →
      All OpensFrom es → P s → All (IsOn P) (executions s es os)
  run_on s t es os r own h =
      All-weaker (IsTimely s es os) (IsOn P)
      (λ x timely.
      let before : List Event = timely.events_before in
      let after : List Event = timely.event ∷ timely.events_after in
      let opens : All OpensFrom before =
      subst (All OpensFrom) (take-append_seam before after)
      (All-take OpensFrom (length before) (before ++ after) (subst (All OpensFrom) timely.events_are own)) in
      on_event timely.server timely.event x timely.executed
      (by_run P Opens kept s timely.server before timely.outcomes_before timely.reached opens h))
      (executions s es os) (each_answer_timely s t es os r)

-- what is seen of a sound server with lawful addresses is lawful
module _ {A : Type 0} (P Q : A → Type 0) (weaker : (x : A) → P x → Q x) where
  all_from_each : (xs : List A) → Each P xs → All Q xs
  all_from_each [] each = All-nil Q
  all_from_each (x ∷ xs) each = All-cons Q x xs (weaker x each.0) (all_from_each xs each.1)

seen_lawful : (s : ServerState) → IsSound s → HaveLawfulAddresses s → IsLawfulSeen (seen s)
seen_lawful s sound own = record {
  list = sound.list.lawful;
  trees = All-map (λ (u : UpsSeen). IsSoundTree u.report.tree) seen_ups s.upses
      (all_from_each (IsSoundUps s.moment) (λ (x : UpsState). IsSoundTree x.report.tree)
      (λ x h. h.tree) s.upses sound.upses);
  descriptions = sound.descriptions;
  addresses = All-map (λ (client : ClientSeen). IsLawfulAddress client.address) seen_client
      s.sessions (all_of s.sessions own);
  few = (let few = sound.few in omega (arith, few, length-map s.sessions seen_client));
  numbers = sound.numbers;
}

-- the text of an execution is an answer, where there is one
abbrev IsAnswerIfAny : List ℕ → Type 0
IsAnswerIfAny text = is_empty text ≡ false → IsAnswer text

reading_answered : (s : ServerState) (c : ℕ) → IsLawfulSeen (seen s) →
    (r : Result (Option Command) ErrWord) → IsLawfulReading r → IsAnswerIfAny (text_to s c r)
reading_answered s c lawful r read some =
    grind (arith, each_error_is_a_line, each_answer_is_a_line_or_a_listing (seen s) (asker c s))

execution_answered : (x : Execution) → IsOn IsSound x → IsOn HaveLawfulAddresses x → IsAnswerIfAny (text_of x)
execution_answered (of_line s c line) sound own =
    reading_answered s c (seen_lawful s sound own) (read_command line) (what_is_read_is_lawful line)
execution_answered (of_notice s c) sound own = λ some. each_error_is_a_line TooLong

-- those that aren't empty
abbrev texts : List Execution → List (List ℕ)
texts xs = filter (λ text. not (is_empty text)) (map text_of xs)

texts_answered : (xs : List Execution) → All (λ x. IsAnswerIfAny (text_of x)) xs → All IsAnswer (texts xs)
texts_answered xs all =
    let some : List ℕ → Bool = λ text. not (is_empty text) in
    λ k d below. All-filter some IsAnswerIfAny (map text_of xs)
    (All-map IsAnswerIfAny text_of xs all) k d below (not-true _ (filter_passes some (map text_of xs) k d below))

texts_joined : (xs : List Execution) → concat (texts xs) ≡ flat_map text_of xs
texts_joined [] = refl
texts_joined (x ∷ xs) = grind (arith, texts_joined xs)

module _ (empty : IsSoundTree empty_tree) (line_keeps : EachLineKeepsTheTreeSound)
    (read_lawful : ReadLinesAreLawful) where
  sound_old : (old : ServerState) → IsNewServer old → IsSound old
  sound_old old n = subst IsSound (sym n.is)
      (new_sound empty line_keeps read_lawful n.list n.users n.descriptions n.max_age n.is_list
      n.are_lawful n.is_max_age)

  each_answered : (old new : ServerState) (es : List Event) (os : List Outcome) →
      IsNewServer old → Run old es os new → All OpensLawfully es → (c : ℕ) →
      All IsAnswer (list_of_answers c old es os)
  each_answered old new es os n r own c =
      let sound = run_on IsSound IsAny (sound_kept empty line_keeps read_lawful) old new es os r
      (any_event es) (sound_old old n) in
      let lawful = run_on HaveLawfulAddresses IsLawfulAddress addresses_kept old new es os r own
      (subst HaveLawfulAddresses (sym n.is) tt) in
      texts_answered (of_client c (executions old es os))
      (All-filter _ (λ x. IsAnswerIfAny (text_of x)) (executions old es os)
      (λ k d below. execution_answered _ (sound k d below) (lawful k d below)))

  -- what a client took begins the answers
  taken_begins : (old new : ServerState) (es : List Event) (os : List Outcome) →
      IsNewServer old → Run old es os new → (c : ℕ) → IsBeginning (taken c old es os) (answers c old es os)
  taken_begins old new es os n r c = by_end (is_closed c new) refl
    where
      none : owed c old ≡ []
      none = cc n.is

      by_end : (b : Bool) → is_closed c new ≡ b → IsBeginning (taken c old es os) (answers c old es os)
      by_end false going = (
        owed c new,
        cc (none, (run_sent old new es os (sound_lawful old (sound_old old n)) r c).while_open going),
      )
      by_end true over = rw none at ((run_sent old new es os (sound_lawful old (sound_old old n)) r c).once_closed over)

  pub answers_apart : TheAnswersOfARunAreCutInOneWay
  answers_apart old new es os n r own c =
      let each = each_answered old new es os n r own c in
      let joined : concat (list_of_answers c old es os) ≡ answers c old es os =
      texts_joined (of_client c (executions old es os)) in
      let begins = taken_begins old new es os n r c in
      record {
        each = each;
        joined = joined;
        only = λ others shaped same. answers_are_cut_in_one_way (list_of_answers c old es os)
            others each shaped (same ∙ sym joined);
        taken_first = λ firsts rest shaped same.
            let all : concat firsts ++ (rest ++ begins.0) ≡ concat (list_of_answers c old es os) =
            sym (append_assoc (concat firsts) rest begins.0) ∙
            ap (λ (z : List ℕ). z ++ begins.0) same ∙ begins.1 ∙ sym joined in
            let first = first_answers_are_the_first (list_of_answers c old es os) firsts
            (rest ++ begins.0) each shaped all in
            (first.0, first.1);
      }
