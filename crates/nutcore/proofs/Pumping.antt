-- What one line of a client leaves of the server, and the notice.
use Rattle.std.proofs.Common.{arith, ◌≡◌, ◌≢◌, ℕ, true, false, List, [], ◌∷◌}
use Rattle.std.proofs.Common.{Option, Some, None, refl, sym, ◌∙◌, ap, subst, ltb, ◌<◌}
use Rattle.std.proofs.Common.{length, take, inl, inr, ◌≤◌, ◌+◌, ◌++◌, length-drop}
use Rattle.std.proofs.Common.{drop}
use Rattle.std.specs.Prelude.{◌||◌, option_map}
use Rattle.std.specs.Option.{option_map_or}
use Rattle.std.proofs.lemmas.Bool.{cases_Bool, cond-true, cond-false}
use Rattle.std.proofs.lemmas.List.{drop-drop}
use Rattle.nutcore.proofs.Common.{Change, SessionState, ServerState, same_Some, session}
use Rattle.nutcore.proofs.Common.{with_session, with_session_changed, cond_both}
use Rattle.nutcommand.specs.Command.{read_command}
use Rattle.nutlisting.specs.declared.outbox.TheConstants.{OWED_LIMIT}
use Rattle.nutcore.specs.Session.{find, put}
use Rattle.nutcore.specs.Reply.{reply, change_by, changed, changed_session, changed_upses, changed_tracking}
use Rattle.nutcore.specs.Pump.{next_line, next_line_for, answered, after_reply, after_line}
use Rattle.nutcore.specs.Pump.{after_notice, is_overlong, holds_overlong, notified, with_notice}
use Rattle.nutcore.specs.History.{Execution, of_notice, notice}
use Rattle.nutcore.proofs.Changes.{keeps}
use Rattle.nutcore.proofs.Progress.{presence}
use Rattle.nutcore.proofs.Found.{cases_Option, find_id, find_put_other, put_put, put_found}
use Rattle.nutcore.proofs.Changed.{session_put, at_client, by_change, change_is}
use Rattle.nutwords.proofs.PublicLaws.{first_line_is_the_front_of_its_length}
use Rattle.nutwords.specs.SplitLine.{first_line, rest_after}
use Rattle.std.proofs.lemmas.Bool.Decides.{nat_tests}

-- the server in which this session, the UPSs and what is tracked are changed
abbrev pub line_done : ServerState → Change → SessionState → ServerState
line_done s change y = record s {
  sessions = put y s.sessions;
  upses = changed_upses change s.upses;
  tracking = changed_tracking change s.tracking;
}

pub changed_is : (change : Change) (c : ℕ) (s : ServerState) (x : SessionState) →
    session c s ≡ Some x → changed change c s ≡ line_done s change (changed_session change x)
changed_is change c s x found = change_is (changed_session change) c
    (record s { upses = changed_upses change s.upses; tracking = changed_tracking change s.tracking }) x found

-- a next line is the first one that an open session holds, which isn't ending and owes little
pub record IsNext (s : ServerState) (c : ℕ) (line : List ℕ) : Type 0 where
  pub asking : SessionState
  pub found : session c s ≡ Some asking
  pub going : asking.ending ≡ false
  pub little : ltb OWED_LIMIT (length asking.owed) ≡ false
  pub first : first_line asking.held ≡ Some line

next_parts : (x : SessionState) (line : List ℕ) → next_line x ≡ Some line →
    (x.ending ≡ false) × (ltb OWED_LIMIT (length x.owed) ≡ false) × (first_line x.held ≡ Some line)
next_parts x line h = grind arith

pub is_next : (s : ServerState) (c : ℕ) (line : List ℕ) → next_line_for s c ≡ Some line → IsNext s c line
is_next s c line h = elim (cases_Option (session c s)) [
  | inl none ↦ cc (rw none at h)
  | inr (x, found) ↦ (let may = next_parts x line (rw found at h) in
      record { asking = x; found = found; going = may.0; little = may.1; first = may.2 })
]

-- where the next line ends says which one it is
pub next_line_ends : (x : SessionState) (end : ℕ) → option_map length (next_line x) ≡
    Some end → (next_line x ≡ Some (take end x.held)) × (end < length x.held)
next_line_ends x end h = elim (cases_Bool (x.ending || ltb OWED_LIMIT (length x.owed))) [
  | inl waits ↦ cc (rw waits at h)
  | inr asks ↦ rw asks
      (first_line_is_the_front_of_its_length x.held end (rw asks at h))
]

-- where there is a next line, at most so many bytes are owed
pub few_owed : (x : SessionState) (end : ℕ) → option_map length (next_line x) ≡ Some end →
    length x.owed ≤ OWED_LIMIT
few_owed x end h = elim (cases_Bool (x.ending || ltb OWED_LIMIT (length x.owed)))
    [ inl waits ↦ cc (rw waits at h) | inr asks ↦ leb_from_ltb x.owed asks ]
  where
    leb_from_ltb : (owed : List ℕ) → (x.ending || ltb OWED_LIMIT (length owed)) ≡ false →
        length owed ≤ OWED_LIMIT
    leb_from_ltb owed h = grind (arith, nat_tests)

-- where its held bytes are what is left of others, its next line ends within those
pub ends_within : (x : SessionState) (bytes : List ℕ) (from end : ℕ) → drop from bytes ≡
    x.held → option_map length (next_line x) ≡ Some end → from + end + 1 ≤ length bytes
ends_within x bytes from end is h = omega (arith, (next_line_ends x end h).1, ap length is, length-drop from bytes)

-- what is owed stays while that line is taken and a change is made
pub owed_stays : (change : Change) (old t v : SessionState) (held : List ℕ) → t ≡ old →
    v ≡ changed_session change (let mid : SessionState = record t { held = held } in mid) → v.owed ≡ old.owed
owed_stays change old t v held is made = let mid : SessionState = record t { held = held } in
    ap (λ (z : SessionState). z.owed) made ∙ (keeps change mid).owed ∙ ap (λ (z : SessionState). z.owed) is

-- a text joined after a change is one joined before
owed_after : (change : Change) (x : SessionState) (text : List ℕ) →
    (let y : SessionState = changed_session change x in let z : SessionState =
    record y { owed = y.owed ++ text } in z) ≡
    changed_session change (let w : SessionState = record x { owed = x.owed ++ text } in w)
owed_after change x text = grind arith

-- that line is taken, this change made, and then a text joined to what is owed: the line is
-- answered
pub line_answered : (change : Change) (old t v : SessionState) (bytes : List ℕ) (from end : ℕ)
    (line text owed : List ℕ) → t ≡ old → drop from bytes ≡ t.held →
    option_map length (next_line old) ≡ Some end → next_line old ≡ Some line
    → v ≡ changed_session change
    (let mid : SessionState = record t { held = drop (from + end + 1) bytes } in mid) → owed ≡
    v.owed ++ text → (let y : SessionState = record v { owed = owed } in y ≡
    changed_session change (answered line text old))
line_answered change old t v bytes from end line text owed is left ends next made joined =
    let mid : SessionState = record t { held = drop (from + end + 1) bytes } in
    let long : length line ≡ end = same_Some (length line) end (ap (option_map length) (sym next) ∙ ends) in
    let far : from + end + 1 ≡ from + (length line + 1) = omega arith in
    let rest = ap (λ n. drop n bytes) far ∙ sym (drop-drop (length line + 1) from bytes) ∙
    ap (drop (length line + 1)) (left ∙ ap (λ (z : SessionState). z.held) is) in
    ap (λ (b : List ℕ). let y : SessionState = record v { owed = b } in y) joined
    ∙ ap (λ (z : SessionState). let y : SessionState = record z { owed = z.owed ++ text } in y) made
    ∙ owed_after change mid text
    ∙ ap (λ (h : List ℕ). changed_session change
    (let y : SessionState = record t { held = h; owed = t.owed ++ text } in y)) rest
    ∙ ap (λ (z : SessionState). changed_session change
    (let y : SessionState = record z { held = rest_after line old.held; owed = z.owed ++ text } in y)) is

pub ruleset taking = (few_owed, ends_within)

-- where there is no next line, nothing happens
pub stopped_none : (s : ServerState) (c : ℕ) → next_line_for s c ≡ None → after_line s c ≡ s
unfolding after_line
stopped_none s c h = ap (λ (o : Option (List ℕ)). option_map_or (λ line. after_reply s c line) o s) h

-- what the client's next line changes
abbrev pub change_at : ServerState → ℕ → List ℕ → Change
change_at s c line = change_by s c (read_command line)

-- its session after the line
abbrev pub session_after : ServerState → ℕ → List ℕ → SessionState → SessionState
session_after s c line x = changed_session (change_at s c line) (answered line (reply s c line) x)

pub session_after_id : (s : ServerState) (c : ℕ) (line : List ℕ) (x : SessionState) →
    session c s ≡ Some x → (session_after s c line x).id ≡ c
session_after_id s c line x found =
    (keeps (change_at s c line) (answered line (reply s c line) x)).id ∙ find_id c s.sessions x found

-- what the next line leaves: its answer is joined, it is taken, and what it changes is changed
pub after_line_is : (s : ServerState) (c : ℕ) (line : List ℕ) (x : SessionState) →
    session c s ≡ Some x → next_line_for s c ≡ Some line → after_line s c ≡
    line_done s (change_at s c line) (session_after s c line x)
unfolding after_line after_reply
after_line_is s c line x found h =
    let change : Change = change_at s c line in
    let text : List ℕ = (reply s c line) in
    let y : SessionState = changed_session change x in
    let t : ServerState = line_done s change y in
    let id : y.id ≡ c = (keeps change x).id ∙ find_id c s.sessions x found in
    let there : session c t ≡ Some y = session_put s c x y found id in
    rw (
      h,
      changed_is change c s x found,
      change_is (answered line text) c t y there,
      put_put y (answered line text y) s.sessions refl,
      (keeps change x).joined line text,
    )

-- the clients after it
pub own_after_line : (s : ServerState) (c : ℕ) (line : List ℕ) (x : SessionState) →
    session c s ≡ Some x → next_line_for s c ≡ Some line → presence c (after_line s c) ≡
    at_client s c (Some (session_after s c line x))
own_after_line s c line x found h = ap (presence c) (after_line_is s c line x found h) ∙
    ap (at_client s c) (session_put s c x (session_after s c line x) found (session_after_id s c line x found))

pub other_after_line : (c d : ℕ) (s : ServerState) (line : List ℕ) → next_line_for s d ≡
    Some line → c ≢ d → presence c (after_line s d) ≡ presence c s
other_after_line c d s line h differ =
    let n = is_next s d line h in
    rw (after_line_is s d line n.asking n.found h)
    (ap (at_client s c) (find_put_other c (session_after s d line n.asking) s.sessions
    (λ (k : c ≡ (session_after s d line n.asking).id). differ (k ∙ session_after_id s d line n.asking n.found))))

-- the session that stands there is put
pub put_same : (s : ServerState) (c : ℕ) (x : SessionState) → session c s ≡ Some x → with_session s x ≡ s
put_same s c x e = ap (λ (xs : List SessionState). let z : ServerState =
    record s { sessions = xs } in z)
    (put_found x s.sessions (ap (λ d. find d s.sessions) (find_id c s.sessions x e) ∙ e))

-- where the notice isn't due, nothing happens
pub no_notice : (s : ServerState) (c : ℕ) → is_overlong s c ≡ false → after_notice s c ≡ s
unfolding after_notice
no_notice s c over = by_change (λ t. t ≡ s) with_notice c s
    (λ x e. ap (with_session s) (cond-false _ _ _
    (ap (λ (o : Option SessionState). option_map_or holds_overlong o false) (sym e) ∙ over)) ∙ put_same s c x e)
    (λ e. refl)

-- where it is, there is a session that gets it
pub overlong_there : (o : Option SessionState) → option_map_or holds_overlong o false ≡ true →
    (x : SessionState) × (o ≡ Some x) × (holds_overlong x ≡ true)
overlong_there o h = grind arith

pub notice_there : (s : ServerState) (c : ℕ) → is_overlong s c ≡ true → after_notice s c ≡
    with_session_changed notified c s
unfolding after_notice
notice_there s c over =
    let (x, found, long) = overlong_there (session c s) over in
    change_is with_notice c s x found ∙ ap (with_session s) (cond-true _ _ _ long) ∙
    sym (change_is notified c s x found)

-- what holds where it is due, and where it isn't, holds after it
pub of_notice_due : (P : List Execution → ServerState → Type 0) (s : ServerState) (c : ℕ) →
    (is_overlong s c ≡ true → P (of_notice s c ∷ []) (with_session_changed notified c s)) →
    (is_overlong s c ≡ false → P [] s) → P (notice s c) (after_notice s c)
of_notice_due P s c due quiet =
    cond_both (is_overlong s c) (of_notice s c ∷ []) [] (λ xs. P xs (after_notice s c))
    (λ e. subst (P (of_notice s c ∷ [])) (sym (notice_there s c e)) (due e))
    (λ e. subst (P []) (sym (no_notice s c e)) (quiet e))
