-- What every part of an event keeps, every event and every run keeps.
use Rattle.std.proofs.Common.{arith, ◌≤◌, ◌≡◌, ◌+◌, ℕ, zero, suc, true, List, []}
use Rattle.std.proofs.Common.{◌∷◌, ◌++◌, Option, Some, None, refl, sym, subst, cond}
use Rattle.std.proofs.Common.{length, All, IfSome, inl, inr}
use Rattle.std.proofs.lemmas.List.Elements.{All-head, All-tail}
use Rattle.nutcore.proofs.Common.{cond_both, UpsId, TrackingState, Event, Outcome, SessionState}
use Rattle.nutcore.proofs.Common.{UpsState, ServerState, session, with_session}
use Rattle.nutcore.proofs.Common.{with_session_changed, with_ups_changed, with_tracking, Run}
use Rattle.nutdriver.specs.Report.{end_in}
use Rattle.nutcore.specs.Reports.{with_end, after_ends}
use Rattle.nutcore.specs.Session.{without, new_session}
use Rattle.nutcore.specs.Pump.{next_line_for, after_line, after_lines, after_all_lines}
use Rattle.nutcore.specs.Pump.{after_notice, with_notice, pumped, held_of, answered}
use Rattle.nutcore.specs.Step.{joined, with_input, taken_from, without_output, may_take, may_open}
use Rattle.nutcore.specs.Step.{pumped_until, after_by, refused_after}
use Rattle.nutcore.specs.DriverEvents.{ticked, handed_in}
use Rattle.nutcore.specs.Addresses.{opened_from}
use Rattle.nutcore.specs.Reply.{reply}
use Rattle.nutcore.proofs.Changes.{keeps}
use Rattle.nutcore.proofs.Found.{cases_Option}
use Rattle.nutcore.proofs.Pumping.{change_at, stopped_none, is_next, after_line_is, session_after}
use Rattle.nutcore.proofs.Changed.{by_change, either_notice, of_opened}
use Rattle.nutcore.proofs.Events.{OfDrivers, of_parts}

-- the parts of what a client sends and takes: a line is executed, and a session is changed
pub record IsPumped (P : ServerState → Type 0) : Type 0 where
  pub line : (s : ServerState) (c : ℕ) (line : List ℕ) → next_line_for s c ≡ Some line →
      P s → P (after_line s c)
  pub joins : (s : ServerState) (c : ℕ) (piece : List ℕ) → P s → P (with_session_changed (joined piece) c s)
  pub gives : (s : ServerState) (c n : ℕ) → P s → P (with_session_changed (taken_from n) c s)
  pub notice : (s : ServerState) (c : ℕ) → P s → P (with_session_changed with_notice c s)

-- all parts: a UPS is changed by its driver too, ids and orders are tracked, time goes on, a
-- session opens, and one is closed
pub record IsKept (P : ServerState → Type 0) (Opens : List ℕ → Type 0) : Type 0 where
  pub pumped : IsPumped P
  pub driver : (s : ServerState) (m : Option ℕ) →
      OfDrivers s.moment s.tracking m (λ f. (u : UpsId) → P s → P (with_ups_changed f u s))
  pub reports : (s : ServerState) (u : UpsId) (line : List ℕ) → P s →
      P (with_tracking (with_end u.place (end_in line) s.tracking) s)
  pub hands : (s : ServerState) (id : ℕ) → P s → P (handed_in id s)
  pub ticks : (s : ServerState) (seconds : ℕ) → P s → P (ticked seconds s)
  pub opens : (s : ServerState) (address : List ℕ) → may_open s ≡ true → Opens address → P s
      → (let t : ServerState = record s
      { sessions = s.sessions ++ new_session s.next_id address ∷ []; next_id = s.next_id + 1 } in P t)
  pub closes : (s : ServerState) (c : ℕ) → P s →
      (let t : ServerState = record s { sessions = without c s.sessions } in P t)

module _ (P : ServerState → Type 0) (kept : IsPumped P) where
  pub by_lines : (k c : ℕ) (s : ServerState) → P s → P (after_lines k s c)
  unfolding after_lines
  by_lines zero c s h = h
  by_lines (suc k) c s h =
      by_lines k c (after_line s c) (elim (cases_Option (next_line_for s c))
      [ inl none ↦ subst P (sym (stopped_none s c none)) h | inr (line, next) ↦ kept.line s c line next h ])

  by_pump : (c : ℕ) (s : ServerState) (m : Option ℕ) → P s → P (pumped_until s c m)
  unfolding pumped_until pumped after_all_lines after_notice
  by_pump c s None h =
      let k : ℕ = length (held_of (session c s)) in
      kept.notice (after_lines k s c) c (by_lines k c s h)
  by_pump c s (Some k) h = by_lines k c s h

  pub by_feed : (s : ServerState) (c : ℕ) (piece : List ℕ) (m : Option ℕ) → P s →
      P (pumped_until (with_input s c piece) c m)
  unfolding with_input
  by_feed s c piece m h = by_pump c (with_input s c piece) m (kept.joins s c piece h)

  pub by_take : (s : ServerState) (c n : ℕ) (m : Option ℕ) → P s →
      P (cond (may_take (session c s) n) (pumped_until (without_output s c n) c m) s)
  unfolding without_output
  by_take s c n m h = cond_both (may_take (session c s) n) _ s P
      (λ e. by_pump c (without_output s c n) m (kept.gives s c n h)) (λ e. h)

-- what each end that a line reports keeps, the ends that some lines report keep
pub of_ends : (place : ℕ) (P : TrackingState → Type 0) →
    ((line : List ℕ) (t : TrackingState) → P t → P (with_end place (end_in line) t)) →
    (lines : List (List ℕ)) (t : TrackingState) → P t → P (after_ends place lines t)
of_ends place P keeps [] t h = h
of_ends place P keeps (line ∷ lines) t h =
    of_ends place P keeps lines (with_end place (end_in line) t) (keeps line t h)

module _ (P : ServerState → Type 0) (Opens : List ℕ → Type 0) (kept : IsKept P Opens) where
  abbrev OpensFrom : Event → Type 0
  OpensFrom e = IfSome (opened_from e) Opens

  pub by_event : (s : ServerState) (e : Event) (m : Option ℕ) → OpensFrom e → P s → P (after_by s e m)
  by_event s e m =
      of_parts s m (λ f. (u : UpsId) → P s → P (with_ups_changed f u s)) (kept.driver s m)
      (λ e t. OpensFrom e → P s → P t)
      (λ e u f lines its apart keeps own h. let changed : ServerState = with_ups_changed f u s in
      of_ends u.place (λ t. P (with_tracking t changed))
      (λ line t. kept.reports (with_tracking t changed) u line) lines s.tracking (keeps u h))
      (λ seconds own h. kept.ticks s seconds h)
      (λ address own h. of_opened P s address m h (λ room. kept.opens s address room own h))
      (λ c piece own h. by_feed P kept.pumped s c piece m h)
      (λ c n own h. by_take P kept.pumped s c n m h) (λ c own h. kept.closes s c h) (λ id own h. kept.hands s id h) e

  pub by_run : (s t : ServerState) (es : List Event) (os : List Outcome) → Run s es os t →
      All OpensFrom es → P s → P t
  by_run s t [] [] r own h = subst P (sym r) h
  by_run s t (e ∷ es) (o ∷ os) (mid, step, r) own h =
      by_run mid t es os r (All-tail OpensFrom e es own)
      (subst P (sym step.leaves) (by_event s e (refused_after o) (All-head OpensFrom e es own) h))
  by_run s t es os r own h = absurd r

-- what neither time, nor UPSs, nor what is tracked change: a session with the address of the one
-- in whose place it is put keeps it, one that opens, and one that is closed
pub record IsApart (P : ServerState → Type 0) (Opens : List ℕ → Type 0) : Type 0 where
  pub puts : (s : ServerState) (c : ℕ) (x y : SessionState) → session c s ≡ Some x →
      y.address ≡ x.address → P s → P (with_session s y)
  pub others : (s : ServerState) (moment : ℕ) (upses : List UpsState) (tracking : TrackingState)
      → P s → (let t : ServerState = record s { moment = moment; upses = upses; tracking = tracking } in P t)
  pub opens : (s : ServerState) (address : List ℕ) → may_open s ≡ true → Opens address → P s
      → (let t : ServerState = record s
      { sessions = s.sessions ++ new_session s.next_id address ∷ []; next_id = s.next_id + 1 } in P t)
  pub closes : (s : ServerState) (c : ℕ) → P s →
      (let t : ServerState = record s { sessions = without c s.sessions } in P t)

module _ (P : ServerState → Type 0) (Opens : List ℕ → Type 0) (apart : IsApart P Opens) where
  by_session : (f : SessionState → SessionState) →
      ((x : SessionState) → (f x).address ≡ x.address) → (s : ServerState) (c : ℕ) →
      P s → P (with_session_changed f c s)
  by_session f same s c h = by_change P f c s (λ x e. apart.puts s c x (f x) e (same x) h) (λ e. h)

  pub kept_apart : IsKept P Opens
  unfolding ticked
  kept_apart = record {
    pumped = record {
      line = λ s c line e h.
          let n = is_next s c line e in
          let y : SessionState = session_after s c line n.asking in
          subst P (sym (after_line_is s c line n.asking n.found e))
          (apart.others (with_session s y) s.moment _ _
          (apart.puts s c n.asking y n.found
          (keeps (change_at s c line) (answered line (reply s c line) n.asking)).address h));
      joins = λ s c piece h. by_session (joined piece) (λ x. refl) s c h;
      gives = λ s c n h. by_session (taken_from n) (λ x. refl) s c h;
      notice = λ s c h. by_session with_notice (λ x. either_notice (λ y. y.address ≡ x.address) x refl refl) s c h;
    };
    driver = λ s m. record {
      comes = λ u h. apart.others s s.moment _ s.tracking h;
      tells = λ place piece u h. apart.others s s.moment _ s.tracking h;
      takes = λ n u h. apart.others s s.moment _ s.tracking h;
      goes = λ u h. apart.others s s.moment _ s.tracking h;
    };
    reports = λ s u line h. apart.others s s.moment s.upses _ h;
    hands = λ s id h. apart.others s s.moment s.upses _ h;
    ticks = λ s seconds h. apart.others s _ _ s.tracking h;
    opens = apart.opens;
    closes = apart.closes;
  }

-- where nothing is asked of addresses
abbrev pub IsAny : List ℕ → Type 0
IsAny address = Unit {0}

pub any_address : (o : Option (List ℕ)) → IfSome o IsAny
any_address None = tt
any_address (Some address) = tt

pub any_event : (es : List Event) → All (λ e. IfSome (opened_from e) IsAny) es
any_event es = λ k d below. any_address (opened_from _)

-- such a thing is which ids were given
pub ids_kept : (n : ℕ) → IsKept (λ s. n ≤ s.next_id) IsAny
ids_kept n = kept_apart (λ s. n ≤ s.next_id) IsAny
    (record {
      puts = λ s c x y found same h. h;
      others = λ s moment upses tracking h. h;
      opens = λ s address room own h. omega (arith, h);
      closes = λ s c h. h;
    })
