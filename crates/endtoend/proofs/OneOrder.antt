-- From the words of an order to the lines that a driver is given.
use Rattle.std.proofs.Common.{◌≡◌, ◌∙◌, inl, inr, ℕ, Bool, true, false, cond, eqb}
use Rattle.std.proofs.Common.{List, [], ◌∷◌, ◌++◌}
use Rattle.std.proofs.Common.{append_assoc, append-nil, Option, Some, None, Ok, refl, sym, ap, subst}
use Rattle.std.specs.Prelude.{◌||◌, ◌&&◌, not, ◌==◌, All, nat_lt, option_map, option_and_then, length}
use denote.Ref.{Bor}
use Rattle.std.specs.List.{flat_map}
use Rattle.std.proofs.lemmas.Bool.{eq-eqb, eqb-true}
use Rattle.std.proofs.lemmas.Grind.{flat_map-append}
use Rattle.std.proofs.lemmas.List.Elements.{All-nil, All-cons, All-head, All-tail, All-push, All-filter, All-weaker}
use Rattle.nutwords.specs.Frame.{line_of as text_line}
use Rattle.nutwords.specs.SplitLine.{first_line, split_line}
use Rattle.nutwords.specs.Cut.{has_lf}
use Rattle.nutwords.specs.WholeLines.{whole_lines, ended_lines, unfinished_after}
use Rattle.nutwords.proofs.PublicLaws.{first_line_is_cut_off}
use Rattle.nutusers.specs.Users.{may}
use Rattle.nutusers.specs.declared.rights.Right.{Right}
use Rattle.nutusers.specs.declared.rights.Right.TheVariants as rights
use Rattle.nutusers.specs.declared.ups_list.UpsId.{UpsId}
use Rattle.nutcommand.specs.ErrWord.{error_line}
use Rattle.nutcommand.specs.declared.command.Command.TheVariants as commands
use Rattle.nutcommand.specs.declared.err_word.ErrWord.{ErrWord}
use Rattle.nutcommand.specs.declared.err_word.ErrWord.TheVariants.{TooLong}
use Rattle.nutanswer.specs.Answer.{ok}
use Rattle.nutanswer.specs.Orders.{right_to, set_line, instcmd_line}
use Rattle.nutlisting.specs.declared.outbox.TheConstants.{OWED_LIMIT}
use Rattle.nutcore.specs.declared.event.Event.{Event}
use Rattle.nutcore.specs.declared.event.Event.TheVariants.{Feed, Took}
use Rattle.nutcore.specs.declared.event.Outcome.{Outcome}
use Rattle.nutcore.specs.ByRight.{IsAmong, GivesUsername, GivesPassword, CredentialsAreGivenByLines}
use Rattle.nutcore.specs.DriverOrders.{ServerLine, order as an_order, given_by_line, given_by_change}
use Rattle.nutcore.specs.Headline.{IsBeginning, IsInPump, IsInEvent, IsTimely, EachAnswerIsTimely, IsLawful}
use Rattle.nutcore.specs.Headline.{WhatWasSentAndIsOwedIsTheAnswers, WhatWasAskedIsExecutedOrHeld}
use Rattle.nutcore.specs.History.{Execution, of_line, of_notice, client_of, texts_of, lines_of, of_client}
use Rattle.nutcore.specs.History.{executions, answers, executed, taken, asked, is_closed, is_over, held, owed}
use Rattle.nutcore.specs.OrdersByRight.{order_of, orders_given, TheOrdersGivenAreThoseOfTheLines}
use Rattle.nutcore.specs.Pump.{next_line, next_line_for, held_of, owed_of}
use Rattle.nutcore.specs.Reply.{reply}
use Rattle.nutcore.specs.Server.{ServerState, session}
use Rattle.nutcore.specs.Session.{SessionState}
use Rattle.nutcore.specs.Endings.{WhoIsOverIsAskedNoMore}
use Rattle.nutcore.specs.Sound.{IsSound, ANewServerIsSound, EachEventKeepsTheServerSound, ASoundServerIsLawful}
use Rattle.nutrequest.specs.Orders.{has_order_in}
use Rattle.nutrequest.specs.Reply.{Reply, Whole, Refused, Bad, Unfinished, reply as client_reply}
use Rattle.nutrequest.specs.Request.{request_line}
use Rattle.nutrequest.specs.declared.request.Request.{Request}
use Rattle.nutclient.specs.Job.{JobParts}
use Rattle.nutclient.specs.Printed.{Prints, printed, printed_of}
use Rattle.nutclient.specs.Requests.{lines_behind, sent_lines, reply_behind, last_reply_after}
use Rattle.nutclient.specs.Why.{is_refusal}
use Rattle.nutclient.specs.declared.form.Form.TheVariants as forms
use Rattle.endtoend.specs.OneOrder.{IsClientOf, IsGivenOnce, IsOneOrder, AnOrderIsGivenOnceOrNotAtAll}
use Rattle.endtoend.specs.OneOrder.{given_by_lines, orders_of}
use Rattle.endtoend.specs.Refused.{is_granted_by_ok}
use Rattle.endtoend.specs.Served.{IsLineOf, IsReadAsAsked, command_asked}
use Rattle.endtoend.proofs.Aligned.{AreServed, nothing, noticed, served, HasNoLf, are_served, IsOfOne, each_of_one}
use Rattle.endtoend.proofs.Aligned.{IsExecuted, IsQuiet, behind_line, executed_first}
use Rattle.endtoend.proofs.Aligned.{executed_or_not, IsSplit, split_of_client, among_own}
use Rattle.endtoend.proofs.FromDriver.{all_at}
use Rattle.endtoend.proofs.Ordering.{order_there}
use Rattle.endtoend.proofs.OrderJobs.{IsOrderJob, set_job, command_job}
use Rattle.endtoend.proofs.OrderRows.{IsLogin, IsAnOrder, IsOrderRow, order_given}
use Rattle.endtoend.proofs.Refused.{refused_read, granted_read}
use Rattle.endtoend.proofs.RefusedOrder.{no_requests, refused_quiet}
use Rattle.endtoend.proofs.LastNotice.{notice_last}
use Rattle.endtoend.proofs.Stable.{HasOneLine, printed_stays}

-- what is sent is a beginning of the requests' lines
sent_begins : (requests : List Request) (came : List ℕ)
    → (rest : List ℕ) × (sent_lines requests came ++ rest ≡ flat_map request_line requests)
sent_begins [] came = ([], refl)
sent_begins (request ∷ requests) came = by (client_reply request came) (sent_begins requests)
  where
    by : (r : Reply)
        → ((left : List ℕ) → (rest : List ℕ) ×
        (sent_lines requests left ++ rest ≡ flat_map request_line requests))
        → (rest : List ℕ) × ((request_line request ++ lines_behind r (λ left. sent_lines requests left)) ++ rest
        ≡ request_line request ++ flat_map request_line requests)
    by (Whole items left) later =
        let k = later left in (
          k.0,
          append_assoc (request_line request) (sent_lines requests left) k.0
              ∙ ap (λ t. request_line request ++ t) k.1,
        )
    by (Refused word) later = (
      flat_map request_line requests,
      ap (λ t. t ++ flat_map request_line requests) (append-nil (request_line request)),
    )
    by Bad later = (
      flat_map request_line requests,
      ap (λ t. t ++ flat_map request_line requests) (append-nil (request_line request)),
    )
    by Unfinished later = (
      flat_map request_line requests,
      ap (λ t. t ++ flat_map request_line requests) (append-nil (request_line request)),
    )

-- no executed line has an LF
line-no_lf : (s : ServerState) (c : ℕ) (line : List ℕ) → next_line_for s c ≡ Some line → has_lf line ≡ false
line-no_lf s c line e = by_session (session c s) e
  where
    by_split : (bytes : List ℕ) (o : Option (List ℕ × List ℕ)) → split_line bytes ≡ o
        → option_map (λ (split : List ℕ × List ℕ). split.0) o ≡ Some line → has_lf line ≡ false
    by_split bytes None f k = cc k
    by_split bytes (Some (first, rest)) f k =
        let same : first ≡ line = cc k in
        subst (λ (l : List ℕ). has_lf l ≡ false) same ((first_line_is_cut_off bytes first rest).0 f).1

    by_room : (x : SessionState) (b : Bool) → cond b None (first_line x.held) ≡ Some line → has_lf line ≡ false
    by_room x true k = cc k
    by_room x false k = by_split x.held (split_line x.held) refl k

    by_session : (o : Option SessionState) → option_and_then next_line o ≡ Some line → has_lf line ≡ false
    by_session None k = cc k
    by_session (Some x) k = by_room x (x.ending || nat_lt OWED_LIMIT (length x.owed)) k

in_pump : (begun : ServerState) (c : ℕ) (x : Execution) → IsInPump begun c x → HasNoLf x
in_pump begun c (of_line s d line) (own, k, at, next) = line-no_lf s c line next
in_pump begun c (of_notice s d) h = tt

in_event : (s : ServerState) (e : Event) (x : Execution) → IsInEvent s e x → HasNoLf x
in_event s (Feed c piece) x h = in_pump _ c x h
in_event s (Took c n) x h = in_pump _ c x h
in_event s _ x h = absurd h

-- what is printed of nothing, and of a refusal
empty_reply : (request : Request) → client_reply request [] ≡ Unfinished
unfolding whole_lines ended_lines unfinished_after
empty_reply request = refl

module _ (request : Request) (requests : List Request) (text : List ℕ) where
  printed_by : (bytes : List ℕ) (r : Reply) → client_reply request bytes ≡ r →
      printed (request ∷ requests) forms.Value bytes ≡
      printed_of forms.Value (reply_behind r (λ items rest. last_reply_after items requests rest))
  printed_by bytes r e =
      ap (λ (r : Reply). printed_of forms.Value
      (reply_behind r (λ items rest. last_reply_after items requests rest))) e

  nothing_printed : printed (request ∷ requests) forms.Value [] ≡ Prints text → ⊥
  nothing_printed h = cc (sym (printed_by [] Unfinished (empty_reply request)) ∙ h)

  refusal_printed : (word : ErrWord) (more : List ℕ)
      → printed (request ∷ requests) forms.Value (error_line word ++ more) ≡ Prints text → ⊥
  refusal_printed word more h = cc (sym (printed_by _ _ (refused_read request word more)) ∙ h)

-- where a text is printed, the order's line was executed, and the text is printed of its reply
abbrev IsPrinted : Request → List ℕ → ServerState → ℕ → List ℕ → Type 0
IsPrinted order text s c line =
    (more : List ℕ) × (printed (order ∷ []) forms.Value (reply s c line ++ more) ≡ Prints text)

behind_granted : (request : Request) (front : List Request) (order : Request) (requests : List Request)
    (bytes more text : List ℕ) → requests ≡ front ++ order ∷ [] → is_granted_by_ok request ≡ true
    → bytes ≡ text_line ok → printed (request ∷ requests) forms.Value (bytes ++ more) ≡ Prints text
    → printed requests forms.Value more ≡ Prints text
behind_granted request front order [] bytes more text is by_ok e h = absurd (no_requests front order is)
behind_granted request front order (next ∷ requests) bytes more text is by_ok e h =
    sym (printed_by request (next ∷ requests) text _ _
    (ap (λ t. client_reply request (t ++ more)) e ∙ granted_read request more by_ok)) ∙ h

module _ (user password : List ℕ) (order : Request) (text : List ℕ) where
  printed_executed : (front : List Request) → All (IsLogin user password) front → (all : List Request)
      → all ≡ front ++ order ∷ [] → (xs : List Execution) → AreServed all xs
      → printed all forms.Value (texts_of xs) ≡ Prints text → IsExecuted front order (IsPrinted order text) xs
  printed_executed front logins [] is xs some h = absurd (no_requests front order is)
  printed_executed front logins (request ∷ all) is [] nothing h = absurd (nothing_printed request all text h)
  printed_executed front logins (request ∷ all) is (of_notice s c ∷ xs) (noticed _ _ more) h =
      absurd (refusal_printed request all text TooLong (texts_of xs) h)
  printed_executed [] logins (request ∷ all) is (of_line s c line ∷ xs) (served _ _ asks more) h =
      let same : request ≡ order = cc is in
      let last : all ≡ [] = cc is in
      executed_first order (IsPrinted order text) s c line xs (subst (λ r. IsLineOf r line) same asks)
      (subst (λ rs. AreServed rs xs) last more) (
        texts_of xs,
        subst (λ rs. printed rs forms.Value (reply s c line ++ texts_of xs) ≡ Prints text)
            (ap (λ r. r ∷ all) same ∙ ap (λ rs. order ∷ rs) last) h,
      )
  printed_executed (first ∷ front) logins (request ∷ all) is (of_line s c line ∷ xs) (served _ _ asks more) h =
      let same : request ≡ first = cc is in
      let rest : all ≡ front ++ order ∷ [] = cc is in
      let login : IsLogin user password first = All-head (IsLogin user password) first front logins in
      let its : IsLineOf first line = subst (λ r. IsLineOf r line) same asks in
      let later = printed_executed front (All-tail (IsLogin user password) first front logins) all rest xs more in
      elim (login.either s c line its) [
        | inl (word, refused) ↦ absurd (refusal_printed request all text word (texts_of xs)
            (subst (λ t. printed (request ∷ all) forms.Value (t ++ texts_of xs) ≡ Prints text) refused h))
        | inr granted ↦ behind_line first login.quiet s c line xs its
            (later (behind_granted request front order all (reply s c line) (texts_of xs) text rest
            (subst (λ r. is_granted_by_ok r ≡ true) (sym same) login.by_ok) granted h))
      ]

-- the executions of a client are its own
all_own : (c : ℕ) (xs : List Execution) → All (λ x. client_of x ≡ c) (of_client c xs)
all_own c [] = All-nil (λ x. client_of x ≡ c)
all_own c (x ∷ xs) = by (eqb (client_of x) c) refl (all_own c xs)
  where
    by : (b : Bool) → eqb (client_of x) c ≡ b → All (λ x. client_of x ≡ c) (of_client c xs)
        → All (λ x. client_of x ≡ c) (cond b (x ∷ of_client c xs) (of_client c xs))
    by true e all = All-cons (λ x. client_of x ≡ c) x (of_client c xs) (eqb-true (client_of x) c e) all
    by false e all = all

-- a line that gives that driver an order, and nothing else
given_once : TheOrdersGivenAreThoseOfTheLines →
    (old : ServerState) (events : List Event) (outcomes : List Outcome) (u : UpsId)
    (bytes : List ℕ) (before after : List Execution) (x : Execution)
    → executions old events outcomes ≡ before ++ x ∷ after → given_by_line u x ≡
    cond (eqb u.place u.place) (an_order bytes ∷ []) [] → orders_given u old events outcomes ≡
    orders_of u before ++ bytes ∷ orders_of u after
given_once lines old events outcomes u bytes before after x is told =
    let front : List ServerLine = given_by_lines u before in
    let behind : List ServerLine = given_by_lines u after in
    let tells : given_by_line u x ≡ an_order bytes ∷ [] = told ∙
    ap (λ b. cond b (an_order bytes ∷ []) []) (eq-eqb u.place u.place refl) in
    lines old events outcomes u
    ∙ ap (λ (xs : List Execution). orders_of u xs) is
    ∙ ap (λ (ts : List ServerLine). flat_map order_of ts)
    (flat_map-append (given_by_line u) before (x ∷ after) ∙
    ap (λ (ts : List ServerLine). front ++ (ts ++ behind)) tells)
    ∙ flat_map-append order_of front (an_order bytes ∷ behind)

-- what was given is something
nothing_given : (place : ℕ) (bytes : List ℕ) → cond (eqb place place) (an_order bytes ∷ []) [] ≡ [] → ⊥
nothing_given place bytes e = cc (sym (ap (λ b. cond b (an_order bytes ∷ []) []) (eq-eqb place place refl)) ∙ e)

module _ (opening : ANewServerIsSound) (event : EachEventKeepsTheServerSound) (lawful : ASoundServerIsLawful)
    (over : WhoIsOverIsAskedNoMore) (sent : WhatWasSentAndIsOwedIsTheAnswers)
    (taken_up : WhatWasAskedIsExecutedOrHeld) (timely : EachAnswerIsTimely) (by_lines : CredentialsAreGivenByLines)
    (of_lines : TheOrdersGivenAreThoseOfTheLines) (old : ServerState) (events : List Event)
    (outcomes : List Outcome) (c : ℕ) (track : Bool) (ups user password : List ℕ) (right : Right)
    (bytes : Option ℕ → List ℕ) (job : JobParts) (came : List ℕ)
    (is : IsOrderJob track ups user password right bytes job)
    (h : IsClientOf old events outcomes c job.1 came) where
  own : List Execution
  own = of_client c (executions old events outcomes)

  is_sound : IsSound old
  is_sound =
      let n = h.begins in
      subst IsSound (sym n.is)
      (opening n.list n.users n.descriptions n.max_age n.is_list n.are_lawful n.is_max_age)

  is_lawful : IsLawful old
  is_lawful = lawful old is_sound

  -- the client had sent nothing and was owed nothing
  none_there : session c old ≡ None
  none_there = ap (session c) h.begins.is

  all_read : All IsReadAsAsked job.1
  all_read = subst (All IsReadAsAsked) (sym is.requests_are)
      (All-push IsReadAsAsked is.front is.order
      (All-weaker (IsLogin user password) IsReadAsAsked (λ r login. login.reads) is.front
      is.logins) is.its_order.reads)

  all_one : All HasOneLine job.1
  all_one = subst (All HasOneLine) (sym is.requests_are)
      (All-push HasOneLine is.front is.order
      (All-weaker (IsLogin user password) HasOneLine (λ r login. login.one) is.front is.logins) is.its_order.one)

  all_quiet : All IsQuiet is.front
  all_quiet = All-weaker (IsLogin user password) IsQuiet (λ r login. login.quiet) is.front is.logins

  whole : All HasNoLf own
  unfolding own
  whole = All-filter (λ x. client_of x == c) HasNoLf (executions old events outcomes)
      (All-weaker (IsTimely old events outcomes) HasNoLf (λ x t. in_event t.server t.event x t.executed)
      (executions old events outcomes) (timely old h.new events outcomes h.run))

  asked_begins : (rest : List ℕ) × (lines_of own ++ rest ≡ asked c old events outcomes)
  unfolding own
  asked_begins = by (is_over c h.new) refl
    where
      of_asked : (rest : List ℕ) → executed c old events outcomes ++ rest ≡ held c old ++
          asked c old events outcomes
          → (rest : List ℕ) × (executed c old events outcomes ++ rest ≡ asked c old events outcomes)
      of_asked rest e = (rest, e ∙ ap (λ o. held_of o ++ asked c old events outcomes) none_there)

      by : (b : Bool) → is_over c h.new ≡ b
          → (rest : List ℕ) × (executed c old events outcomes ++ rest ≡ asked c old events outcomes)
      by true e = let k = (taken_up old h.new events outcomes is_lawful h.run c).once_over e in of_asked k.0 k.1
      by false e = of_asked (held c h.new)
          (sym ((taken_up old h.new events outcomes is_lawful h.run c).while_going e))

  lines_begin : (rest : List ℕ) × (lines_of own ++ rest ≡ sent_lines job.1 came)
  lines_begin = (
    asked_begins.0 ++ h.sent.0,
    sym (append_assoc (lines_of own) asked_begins.0 h.sent.0)
        ∙ ap (λ (t : List ℕ). t ++ h.sent.0) asked_begins.1 ∙ h.sent.1,
  )

  came_begins : (rest : List ℕ) × (came ++ rest ≡ texts_of own)
  unfolding own
  came_begins = by (is_closed c h.new) refl
    where
      of_taken : (rest : List ℕ) → taken c old events outcomes ++ rest ≡ owed c old ++
          answers c old events outcomes
          → (rest : List ℕ) × (came ++ rest ≡ answers c old events outcomes)
      of_taken rest e = (
        h.received.0 ++ rest,
        sym (append_assoc came h.received.0 rest) ∙ ap (λ (t : List ℕ). t ++ rest) h.received.1 ∙ e
            ∙ ap (λ o. owed_of o ++ answers c old events outcomes) none_there,
      )

      by : (b : Bool) → is_closed c h.new ≡ b → (rest : List ℕ) ×
          (came ++ rest ≡ answers c old events outcomes)
      by true e = let k = (sent old h.new events outcomes is_lawful h.run c).once_closed e in of_taken k.0 k.1
      by false e = of_taken (owed c h.new) (sym ((sent old h.new events outcomes is_lawful h.run c).while_open e))

  are_its : AreServed job.1 own
  are_its =
      let all = sent_begins job.1 came in
      are_served job.1 all_read own whole (lines_begin.0 ++ all.0)
      (sym (append_assoc (lines_of own) lines_begin.0 all.0) ∙ ap (λ t. t ++ all.0) lines_begin.1 ∙ all.1)

  -- what the lines around the order's give, and that
  around : (before after : List Execution) (x : Execution) → own ≡ before ++ x ∷ after
      → ((u : UpsId) → given_by_lines u before ≡ []) →
      ((u : UpsId) → given_by_lines u after ≡ []) → (u : UpsId)
      → given_by_lines u own ≡ given_by_line u x
  around before after x e none none_after u =
      ap (given_by_lines u) e ∙ flat_map-append (given_by_line u) before (x ∷ after)
      ∙ ap (λ t. t ++ (given_by_line u x ++ given_by_lines u after)) (none u)
      ∙ ap (λ t. given_by_line u x ++ t) (none_after u) ∙ append-nil (given_by_line u x)

  module _ {Holds : ServerState → ℕ → List ℕ → Type 0} (e : IsExecuted is.front is.order Holds own) where
    its : e.client ≡ c
    unfolding own
    its = all_at (λ x. client_of x ≡ c) e.before e.after (of_line e.server e.client e.line)
        (subst (All (λ x. client_of x ≡ c)) e.is (all_own c (executions old events outcomes)))

    split : IsSplit c (executions old events outcomes) e.before e.after (of_line e.server e.client e.line)
    unfolding own
    split = split_of_client c (executions old events outcomes) e.before e.after
        (of_line e.server e.client e.line) e.is

    at : executions old events outcomes ≡ split.front ++ of_line e.server c e.line ∷ split.rest
    at = split.is ∙ ap (λ d. split.front ++ of_line e.server d e.line ∷ split.rest) its

    -- a line of the client before it is one of the requests before it
    of_login : (s : ServerState) (d : ℕ) (line : List ℕ) → d ≡ c → IsAmong (of_line s d line) split.front
        → IsOfOne (IsLogin user password) (of_line s d line)
    of_login s d line same among = each_of_one (IsLogin user password) is.front is.logins e.before e.behind
        (of_line s d line) (subst (IsAmong (of_line s d line)) split.front_is
        (among_own c (of_line s d line) same split.front among))

    user_is : (name : List ℕ) (x : Execution) → IsAmong x split.front → GivesUsername c name x → name ≡ user
    user_is name (of_line s d line) among (same, read, granted) =
        let one = of_login s d line same among in
        one.1.username name (let both : Ok (Some (command_asked one.0)) ≡ Ok (Some (commands.Username (Some name))) =
        sym (one.1.reads line one.2) ∙ read in cc both)
    user_is name (of_notice s d) among gives = absurd gives

    password_same : (word : List ℕ) (x : Execution) → IsAmong x split.front →
        GivesPassword c word x → word ≡ password
    password_same word (of_line s d line) among (same, read, granted) =
        let one = of_login s d line same among in
        one.1.password_is word (let both : Ok (Some (command_asked one.0)) ≡
        Ok (Some (commands.Password (Some word))) =
        sym (one.1.reads line one.2) ∙ read in cc both)
    password_same word (of_notice s d) among gives = absurd gives

    given_by_order : IsAnOrder e.server c e.line ups right bytes
        → IsGivenOnce old events outcomes c ups user password right bytes
    unfolding own
    given_by_order o =
        let was = by_lines old h.new events outcomes split.front split.rest e.server c e.line
        (ap (λ (s : ServerState). s.sessions) h.begins.is) h.run at in
        let of_user = was.username o.has.name o.has.username_given in
        let of_password = was.password o.has.password o.has.password_given in
        let named : o.has.name ≡ user = user_is o.has.name of_user.0 of_user.1 of_user.2 in
        let worded : o.has.password ≡ password =
        password_same o.has.password of_password.0 of_password.1 of_password.2 in
        let gives = λ (u : UpsId). ap (given_by_change u) o.change_is ∙ order_given u o.known.id (bytes o.id) o.id in
        record {
          before = split.front;
          after = split.rest;
          server = e.server;
          line = e.line;
          known = o.known;
          id = o.id;
          executed = at;
          named = o.named;
          user_given = o.has.username_given ∙ ap Some named;
          password_given = o.has.password_given ∙ ap Some worded;
          granted = ap (λ (n : List ℕ). may e.server.users n password right) (sym named)
              ∙ ap (λ (w : List ℕ). may e.server.users o.has.name w right) (sym worded) ∙ o.has.granted;
          given = given_once of_lines old events outcomes o.known.id (bytes o.id) split.front split.rest
              (of_line e.server c e.line) at (gives o.known.id);
          only = λ u. around e.before e.after (of_line e.server e.client e.line) e.is e.quiet_before e.quiet_after u
              ∙ ap (λ d. given_by_line u (of_line e.server d e.line)) its ∙ gives u;
        }

    row : IsOrderRow e.server c e.line ups right bytes
    row = is.its_order.row e.server c e.line e.asks

  -- where the order was given, its line stands whole in whatever was sent
  there : IsGivenOnce old events outcomes c ups user password right bytes → (sent : List ℕ)
      → IsBeginning (asked c old events outcomes) sent → has_order_in job.1 sent ≡ true
  unfolding own
  there o sent k = elim (order_there is.front is.order is.its_order.orders all_quiet job.1 is.requests_are own
      are_its) [
        | inl none ↦ absurd (nothing_given (o.known.id.place) (bytes o.id)
            (sym (o.only o.known.id) ∙ none o.known.id))
        | inr line ↦ subst (λ t. has_order_in job.1 t ≡ true)
            (sym (append_assoc (lines_of own) asked_begins.0 k.0)
            ∙ ap (λ t. t ++ k.0) asked_begins.1 ∙ k.1) (line (asked_begins.0 ++ k.0))
      ]

  one_order : IsOneOrder old events outcomes c track ups user password right bytes job.1
      (printed job.1 job.2 came)
  unfolding own given_by_order
  one_order = record {
    at_most_once = elim (executed_or_not is.front is.order all_quiet job.1 is.requests_are own are_its) [
      | inl none ↦ inr none
      | inr e ↦ elim (row e) [
        | inl refused ↦ inr (λ u.
            around e.before e.after (of_line e.server e.client e.line) e.is e.quiet_before e.quiet_after u
            ∙ ap (λ d. given_by_line u (of_line e.server d e.line)) (its e) ∙ refused.0 u)
        | inr o ↦ inl (given_by_order e o)
      ]
    ];
    printed = λ text p.
        let shown : printed job.1 forms.Value came ≡ Prints text =
        ap (λ form. printed job.1 form came) (sym is.form_is) ∙ p in
        let all : printed job.1 forms.Value (texts_of own) ≡ Prints text =
        subst (λ t. printed job.1 forms.Value t ≡ Prints text) came_begins.1
        (printed_stays job.1 all_one forms.Value came came_begins.0 text shown) in
        let e = printed_executed user password is.order text is.front is.logins job.1 is.requests_are own are_its all in
        let prints : printed (is.order ∷ []) forms.Value (reply e.server c e.line ++ e.holds.0) ≡ Prints text =
        subst (λ d. printed (is.order ∷ []) forms.Value (reply e.server d e.line ++ e.holds.0) ≡ Prints text)
        (its e) e.holds.1 in
        elim (row e) [
          | inl (none, (word, refused)) ↦ absurd (refusal_printed is.order [] text word e.holds.0
              (subst (λ t. printed (is.order ∷ []) forms.Value (t ++ e.holds.0) ≡ Prints text) refused prints))
          | inr o ↦
              let t = is.its_order.text o.id (reply e.server c e.line) e.holds.0 text o.answered prints in
              (given_by_order e o, t.0, t.1)
        ];
    refused = λ word p.
        refused_quiet track ups user password right bytes is.order is.its_order word is.front is.logins job.1
        is.requests_are own are_its (notice_last event lawful over c old h.new events outcomes is_sound h.run) came
        lines_begin.0 came_begins.0 lines_begin.1 came_begins.1
        (ap (λ form. printed job.1 form came) (sym is.form_is) ∙ p);
    warned = λ sent fault o k no.
        ap (λ b. b && not (is_refusal fault)) (there o sent k) ∙ ap not no;
  }

pub orders_given_once : ANewServerIsSound → EachEventKeepsTheServerSound → ASoundServerIsLawful →
    WhoIsOverIsAskedNoMore → WhatWasSentAndIsOwedIsTheAnswers →
    WhatWasAskedIsExecutedOrHeld → EachAnswerIsTimely → CredentialsAreGivenByLines →
    TheOrdersGivenAreThoseOfTheLines → AnOrderIsGivenOnceOrNotAtAll
orders_given_once opening event lawful over sent taken_up timely by_lines of_lines = record {
  set = λ old events outcomes c ups setting by job place name value came h p q client.
      one_order opening event lawful over sent taken_up timely by_lines of_lines old events outcomes c by.track place.0
      by.user.now by.password.now rights.Set (set_line name value) job came
      (set_job ups setting by job place name value h p q) client;
  command = λ old events outcomes c ups name value by job place came h p client.
      one_order opening event lawful over sent taken_up timely by_lines of_lines old events outcomes c by.track place.0
      by.user.now by.password.now (right_to name.now)
      (instcmd_line name.now (option_map (λ (v : Bor (List ℕ)). v.now) value)) job came
      (command_job ups name value by job place h p) client;
}
