-- What the server's methods do, over plain states.
use Rattle.std.proofs.Common.{◌≡◌, ℕ, ◌+◌, ◌<◌, ◌≤◌, true, false, List, []}
use Rattle.std.proofs.Common.{◌++◌, Option, Some, None, Result, Ok, Err, refl, sym, ◌∙◌}
use Rattle.std.proofs.Common.{ap, subst, arith, length, get_or, set, take, drop, inl, inr}
use Rattle.std.proofs.Common.{length-append, ◌∷◌}
use Rattle.std.specs.Prelude.{IsTrue, IfOk, OnOk, OnErr, is_err, is_none, option_and_then}
use Rattle.std.specs.Option.{option_map, option_map_or}
use Rattle.std.specs.Result.{result_err}
use denote.Ref.{Bor}
use Rattle.nutcore.specs.declared.event.Fault.TheVariants.{LineTooLong}
use Rattle.nutcore.proofs.Common.{same_Some, Change, SessionState, ServerState, session, with_session}
use Rattle.nutcore.proofs.Common.{with_session_changed}
use Rattle.nutcore.specs.Session.{without}
use Rattle.nutcore.specs.Sound.{IdsRise}
use Rattle.std.specs.declared.alloc.AllocError.{AllocError}
use Rattle.nutwords.specs.declared.limits.TheConstants.{LINE_LIMIT}
use Rattle.nutlisting.specs.Lines.{IsWholeLine}
use Rattle.nutanswer.specs.View.{Seen, AskerSeen}
use Rattle.nutanswer.specs.Answer.{Answer, answer_to, IsReply, shares_version, text_of_answer, change_of_answer}
use Rattle.nutcommand.specs.Command.{read_command}
use Rattle.nuttracking.specs.Tracking.{TrackingState}
use Rattle.nutcore.specs.Ups.{UpsState}
use Rattle.nutcore.specs.Reply.{seen, asker, asker_of, reply, text_to, refusal_by, change_by}
use Rattle.nutcore.specs.Reply.{changed_session, changed_upses, changed_tracking}
use Rattle.nutcore.specs.Pump.{next_line, next_line_for, answered, after_line, after_lines}
use Rattle.nutcore.specs.Pump.{pump_stops, held_of, after_all_lines, pumped, after_notice}
use Rattle.nutcore.specs.Pump.{is_overlong, notified, wants_memory}
use Rattle.nutcore.specs.Reply.{shares_version_read}
use Rattle.nutcommand.specs.declared.command.Command.{Command}
use Rattle.nutcommand.specs.declared.err_word.ErrWord.{ErrWord}
use Rattle.nutcommand.specs.ErrWord.{error_line}
use Rattle.nutanswer.specs.declared.reply.Reply.{Reply}
use Rattle.nutanswer.specs.declared.reply.Reply.TheVariants.{Refused, One, Clients}
use Rattle.nutanswer.specs.declared.reply.Change.TheVariants.{Nothing}
use Rattle.nutlisting.specs.Items.{text_of, client_listing}
use Rattle.nutlisting.specs.declared.outbox.TheConstants.{OWED_LIMIT}
use Rattle.nutcore.specs.Promises.{place, IsAt, PumpGives, IsShort, Replies, RepliesOrLacks}
use Rattle.nutcore.specs.Promises.{AnswersEach, text_with, change_in, ListsClients}
use Rattle.nutcore.proofs.Found.{find_id}
use Rattle.nutcore.proofs.Changed.{change_is, session_put}
use Rattle.nutcore.proofs.Pumping.{after_line_is, is_next, session_after, session_after_id}
use Rattle.nutcore.proofs.Pumping.{line_done, no_notice, notice_there}
use Rattle.nutcore.proofs.Places.{at_put, found_at, put_is, without_at}
use Rattle.nutcore.proofs.Loops.{after_lines-suc, all_lines_are}

pub ok_when : {T E : Type 0} (r : Result T E) (P : Type 0) → is_err r ≡ false → OnOk r P → P
ok_when r P e p = grind arith

pub err_when : {T E : Type 0} (r : Result T E) (P : Type 0) → is_err r ≡ true → OnErr r P → P
err_when r P e p = grind arith

pub on_err : {T E : Type 0} (r : Result T E) (P : Type 0) → P → OnErr r P
on_err r P p = grind arith

-- the session that stands at the place, where a view of the server is known
pub found_in : {c i : ℕ} {s t : ServerState} {x : SessionState} → s ≡ t → IsAt c i t.sessions
    → x ≡ get_or s.sessions i x → session c t ≡ Some x
found_in {c} {i} {s} {t} {x} e h at = found_at c i t.sessions x h
    (at ∙ ap (λ (z : ServerState). get_or z.sessions i x) e)

-- it is one, however often it is looked up
pub same_found : {c i : ℕ} {s t : ServerState} {x y : SessionState} → s ≡ t → IsAt c i t.sessions
    → x ≡ get_or s.sessions i x → y ≡ get_or s.sessions i y → x ≡ y
same_found {c} {i} {s} {t} {x} {y} e h at here = same_Some x y (sym (found_in e h at) ∙ found_in e h here)

-- so stands the session at its place
pub record StandsAt (s : ServerState) (c i : ℕ) (x : SessionState) : Type 0 where
  pub at : IsAt c i s.sessions
  pub found : session c s ≡ Some x

pub stands : {c i : ℕ} {s t : ServerState} {x : SessionState} → s ≡ t →
    IsAt c i t.sessions → x ≡ get_or s.sessions i x
    → StandsAt s c i x
stands {c} {i} e h is = record {
  at = subst (λ (z : ServerState). IsAt c i z.sessions) (sym e) h;
  found = ap (session c) e ∙ found_in e h is;
}

-- a session in place of the one that stands there
pub set_is : (s : ServerState) (c i : ℕ) (y : SessionState) → IsAt c i s.sessions → y.id ≡
    c → (let code : ServerState = record s { sessions = set s.sessions i y } in code ≡ with_session s y)
set_is s c i y h e = ap (λ (xs : List SessionState). let z : ServerState =
    record s { sessions = xs } in z) (put_is c i s.sessions y h e)

pub at_set : (c i : ℕ) (xs : List SessionState) (y : SessionState) → IsAt c i xs → y.id ≡
    c → IsAt c i (set xs i y)
at_set c i xs y h e = subst (IsAt c i) (sym (put_is c i xs y h e)) (at_put c i y xs h)

-- so is one that is changed, and keeps its id
pub change_set : (f : SessionState → SessionState) (s : ServerState) (c i : ℕ)
    (x y : SessionState) → IsAt c i s.sessions → session c s ≡ Some x → (f x).id ≡ x.id → y ≡ f x →
    (let code : ServerState = record s { sessions = set s.sessions i y } in code ≡ with_session_changed f c s)
change_set f s c i x y h e id is =
    set_is s c i y h (ap (λ (z : SessionState). z.id) is ∙ id ∙ find_id c s.sessions x e) ∙
    ap (with_session s) is ∙ sym (change_is f c s x e)

pub session_set : (s : ServerState) (c i : ℕ) (x y : SessionState) → IsAt c i s.sessions →
    session c s ≡ Some x → y.id ≡ c →
    session c (let code : ServerState = record s { sessions = set s.sessions i y } in code) ≡ Some y
session_set s c i x y h e id = ap (session c) (set_is s c i y h id) ∙ session_put s c x y e id

-- the next line of the client is that of its session
pub next_of_found : (s : ServerState) (c : ℕ) (x : SessionState) (line : List ℕ) →
    session c s ≡ Some x → next_line_for s c ≡ Some line → next_line x ≡ Some line
next_of_found s c x line found h = ap (option_and_then next_line) (sym found) ∙ h

-- so is where it ends
pub next_end_is : (s : ServerState) (c : ℕ) (x : SessionState) → session c s ≡ Some x →
    option_map length (next_line x) ≡ option_map length (next_line_for s c)
next_end_is s c x found = ap (λ (o : Option SessionState). option_map length (option_and_then next_line o)) (sym found)

-- where the code finds that the next line of the session at its place ends, the client's does
pub ends_at : (c i : ℕ) (s t : ServerState) (x : SessionState) (r : Option ℕ) → s ≡ t →
    IsAt c i t.sessions → x ≡ get_or s.sessions i x → r ≡
    option_map length (next_line x) → option_map length (next_line_for t c) ≡ r
ends_at c i s t x r e at is end = sym (next_end_is t c x (found_in e at is)) ∙ sym end

pub line_there : (o : Option (List ℕ)) (end : ℕ) → option_map length o ≡ Some end →
    (line : List ℕ) × (o ≡ Some line)
line_there o end h = grind arith

-- what a refusal says, and that it changes nothing
refused_line : (s : ServerState) (c : ℕ) (word : ErrWord) (r : Result (Option Command) ErrWord)
    → refusal_by s c r ≡ Some word → (text_to s c r ≡ error_line word) × (change_by s c r ≡ Nothing)
refused_line s c word (Err why) e = (cc e, refl)
refused_line s c word (Ok None) e = cc e
refused_line s c word (Ok (Some command)) e = of_answer (answer_to (seen s) (asker c s) command) e
  where
    of_answer : (a : Result Answer ErrWord) → result_err a ≡ Some word →
        (text_of_answer a ≡ error_line word) × (change_of_answer a ≡ Nothing)
    of_answer (Err why) e = (cc e, refl)
    of_answer (Ok answer) e = cc e

-- what an answer says, and what it changes
answers_as : (s : ServerState) (c : ℕ) (line : List ℕ) (reply : Reply)
    (clients : List (List ℕ)) → Replies s c line reply → ListsClients s.sessions reply clients →
    (text_to s c (read_command line) ≡ text_with clients reply) ×
    (change_by s c (read_command line) ≡ change_in reply)
answers_as s c line (Refused word) clients told lists = refused_line s c word (read_command line) told
answers_as s c line (Clients name u) clients told lists =
    (told.1 ∙ ap (λ (addresses : List (List ℕ)). text_of (client_listing name addresses)) (sym lists), told.2)
answers_as s c line answer clients told lists = (told.1, told.2)

pub change_told : (s : ServerState) (c : ℕ) (line : List ℕ) (reply : Reply) →
    Replies s c line reply → change_by s c (read_command line) ≡ change_in reply
change_told s c line (Refused word) told = (refused_line s c word (read_command line) told).1
change_told s c line reply told = told.2

pub short_told : (s : ServerState) (c : ℕ) (line : List ℕ) (reply : Reply) →
    Replies s c line reply → IsShort reply
short_told s c line reply told = grind arith

-- what an answer changes of the UPSs, of the ids and of the tracked orders, where a view of the
-- server is known
pub changes_made : (v s : ServerState) (change : Change) (upses : List UpsState) (t : TrackingState)
    → v ≡ s → upses ≡ changed_upses change v.upses → t ≡ changed_tracking change v.tracking →
    let made : ServerState = record v { upses = upses; tracking = t } in
    let after : ServerState = record s
    { upses = changed_upses change s.upses; tracking = changed_tracking change s.tracking } in made ≡ after
changes_made v s change upses t is e f = cc

-- what the next line of a session is answered, where a view of the server is known
pub record HeardAt (s : ServerState) (c : ℕ) (line : List ℕ) (r : Result Reply AllocError) : Type 0 where
  pub next : next_line_for s c ≡ Some line
  pub told : RepliesOrLacks s c line r

pub heard : (v s : ServerState) (c i : ℕ) (x : SessionState) (line : List ℕ) (who : AskerSeen)
    (read : Result (Option Command) ErrWord) (r : Result Reply AllocError) → v ≡ s →
    IsAt c i s.sessions → x ≡ get_or v.sessions i x → next_line x ≡ Some line →
    who ≡ asker_of (Some x) → read ≡ read_command line → AnswersEach (seen v) who read r → HeardAt s c line r
heard v s c i x line who read r is at stands next asks reads told =
    let found : session c s ≡ Some x = found_in is at stands in
    record {
      next = ap (option_and_then next_line) found ∙ next;
      told = told s c line (ap seen is) (asks ∙ ap asker_of (sym found)) (sym reads);
    }

-- the UPSs are changed, and the session in its place is answered: this is the server after the line
pub line_is : (s v : ServerState) (c i : ℕ) (line : List ℕ) (reply : Reply)
    (clients : List (List ℕ)) (x y : SessionState) → next_line_for s c ≡ Some line →
    Replies s c line reply → ListsClients v.sessions reply clients →
    (let t : ServerState = record s {
      upses = changed_upses (change_in reply) s.upses;
      tracking = changed_tracking (change_in reply) s.tracking;
    } in v ≡ t) → StandsAt v c i x → y ≡
    changed_session (change_in reply) (answered line (text_with clients reply) x) →
    let code : ServerState = record v { sessions = set v.sessions i y } in code ≡ after_line s c
line_is s v c i line reply clients x y h told lists is stands gives =
    let said = answers_as s c line reply clients told
    (subst (λ (z : ServerState). ListsClients z.sessions reply clients) is lists) in
    let found : session c s ≡ Some x = ap (session c) (sym is) ∙ stands.found in
    let own : SessionState = session_after s c line x in
    let same : y ≡ own = rw (said.0, said.1) gives in
    let done : with_session v y ≡ line_done s (change_by s c (read_command line)) own = rw (same, is, said.1) in
    set_is v c i y stands.at (ap (λ (z : SessionState). z.id) same ∙
    session_after_id s c line x found) ∙ done ∙ sym (after_line_is s c line x found h)

-- an empty line asks for nothing: it is taken, and no more
pub empty_line : (o : Option (List ℕ)) (end : ℕ) → option_map length o ≡ Some end →
    end ≡ 0 → o ≡ Some []
empty_line None end h zero = cc h
empty_line (Some []) end h zero = refl
empty_line (Some (b ∷ bs)) end h zero = grind arith

pub after_empty : (s v : ServerState) (c i : ℕ) (x y : SessionState) → v ≡ s → StandsAt v c i x →
    next_line_for s c ≡ Some [] → y ≡ answered [] [] x →
    let code : ServerState = record v { sessions = set v.sessions i y } in code ≡ after_line s c
after_empty s v c i x y is here next gives =
    let found : session c s ≡ Some x = ap (session c) (sym is) ∙ here.found in
    set_is v c i y here.at (ap (λ (z : SessionState). z.id) gives ∙ find_id c s.sessions x found)
    ∙ ap (λ (z : ServerState). with_session z y) is ∙ ap (with_session s) gives ∙
    sym (after_line_is s c [] x found next)

pub at_line : (s : ServerState) (c i : ℕ) (line : List ℕ) → IsAt c i s.sessions →
    next_line_for s c ≡ Some line → IsAt c i (after_line s c).sessions
at_line s c i line h next =
    let n = is_next s c line next in
    subst (λ (z : ServerState). IsAt c i z.sessions)
    (sym (after_line_is s c line n.asking n.found next)) (at_put c i (session_after s c line n.asking) s.sessions h)

-- the loop begins
pub begins : (s : ServerState) (c : ℕ) → s ≡ after_lines 0 s c
unfolding after_lines
begins s c = refl

-- the loop goes on
pub goes_on : (s t u : ServerState) (c k : ℕ) → t ≡ after_lines k s c → u ≡
    after_line t c → u ≡ after_lines (k + 1) s c
goes_on s t u c k e f = f ∙ ap (λ (z : ServerState). after_line z c) e ∙ sym (after_lines-suc k s c)

-- the loop ends: all lines are done, and nothing is left to do
pub pump_ends : (s t : ServerState) (c k : ℕ) → t ≡ after_lines k s c → k ≤
    length (held_of (session c s)) → next_line_for t c ≡ None → is_overlong t c ≡ false →
    PumpGives s c (Ok tt) t
unfolding pumped
pump_ends s t c k e le none short =
    let all : after_all_lines s c ≡ t =
    all_lines_are k s c le (subst (λ (z : ServerState). pump_stops z c ≡ true) e (ap is_none none)) ∙ sym e in (
      ap (λ (z : ServerState). is_overlong z c) all ∙ short,
      sym (ap (λ (z : ServerState). after_notice z c) all ∙ no_notice t c short),
    )

-- or the session's line is too long
pub pump_notifies : (s t u : ServerState) (c k : ℕ) → t ≡ after_lines k s c → k ≤
    length (held_of (session c s)) → next_line_for t c ≡ None → is_overlong t c ≡ true →
    u ≡ with_session_changed notified c t → PumpGives s c (Err LineTooLong) u
unfolding pumped
pump_notifies s t u c k e le none long f =
    let all : after_all_lines s c ≡ t =
    all_lines_are k s c le (subst (λ (z : ServerState). pump_stops z c ≡ true) e (ap is_none none)) ∙ sym e in (
      ap (λ (z : ServerState). is_overlong z c) all ∙ long,
      f ∙
          sym (ap (λ (z : ServerState). after_notice z c) all ∙ notice_there t c long),
    )

-- memory was refused for a listing
pub wants_is : (s : ServerState) (c : ℕ) (line : List ℕ) → next_line_for s c ≡ Some line →
    shares_version_read s c (read_command line) ≡ true → IsTrue (wants_memory s c)
wants_is s c line next listing = let e : wants_memory s c ≡ true =
    ap (λ (o : Option (List ℕ)). option_map_or
    (λ line. shares_version_read s c (read_command line)) o false) next ∙ listing in e

pub refused : (s t u : ServerState) (c k : ℕ) → t ≡ after_lines k s c →
    IsTrue (wants_memory t c) → u ≡ t → IsTrue (wants_memory (after_lines k s c) c) × (u ≡ after_lines k s c)
refused s t u c k e wants same = (subst (λ (z : ServerState). IsTrue (wants_memory z c)) e wants, same ∙ e)

-- what is left of the sessions where one is removed at its place
pub left_out : (l n c i : ℕ) (xs : List SessionState) → IdsRise l n xs → IsAt c i xs →
    without c xs ≡ take i xs ++ drop (i + 1) xs
left_out l n c i xs rise h =
    let lt : place c xs < length xs = omega (arith, h.first, h.within) in
    without_at l n c xs rise lt ∙ ap (λ j. take j xs ++ drop (j + 1) xs) h.first

-- the answer to a line without words
pub replies_nothing : (s : ServerState) (c : ℕ) (line : List ℕ) (text : Bor (List ℕ)) →
    read_command line ≡ Ok None → text.now ≡ [] → Replies s c line (One text Nothing)
replies_nothing s c line text e is = (
  ap (refusal_by s c) e,
  ap (text_to s c) e ∙ sym is,
  ap (change_by s c) e,
  omega (arith, ap (λ (b : List ℕ). length b) is),
  inr is,
)

-- the answer to a command
whole_short : (text : List ℕ) → IsWholeLine text → length text ≤ OWED_LIMIT
whole_short text whole =
    let few : length whole.line ≤ LINE_LIMIT = whole.answer.fits in
    omega (arith, few, ap length whole.whole, length-append whole.line (10 ∷ []))

answer_replies : (s : ServerState) (c : ℕ) (line : List ℕ) (command : Command)
    (r : Result Reply AllocError) → read_command line ≡ Ok (Some command) →
    IfOk r (IsReply (seen s) (answer_to (seen s) (asker c s) command)) →
    OnErr r (IsTrue (shares_version (answer_to (seen s) (asker c s) command))) → RepliesOrLacks s c line r
answer_replies s c line command (Ok (Refused word)) e is lacks = ap (refusal_by s c) e ∙ ap result_err is
answer_replies s c line command (Ok (One text change)) e is lacks = (
  ap (refusal_by s c) e ∙ is.granted,
  ap (text_to s c) e ∙ sym is.text,
  ap (change_by s c) e ∙ sym is.changes,
  whole_short text.now is.whole_line,
  inl is.whole_line,
)
answer_replies s c line command (Ok answer) e is lacks = (
  ap (refusal_by s c) e ∙ ap result_err is,
  ap (text_to s c) e ∙ ap text_of_answer is,
  ap (change_by s c) e ∙ ap change_of_answer is,
)
answer_replies s c line command (Err refused) e is lacks = ap (shares_version_read s c) e ∙ lacks

pub answers_each : (view : Seen) (who : AskerSeen) (command : Command) (r : Result Reply AllocError)
    → IfOk r (IsReply view (answer_to view who command)) →
    OnErr r (IsTrue (shares_version (answer_to view who command))) →
    AnswersEach view who (Ok (Some command)) r
answers_each view who command r is lacks s c line sees asks e =
    answer_replies s c line command r e (rw (sees, asks) at is) (rw (sees, asks) at lacks)
