-- What goes on holding of a server and of what was executed before, over a run; so what only lines
-- bring about, one of them brought about.
use Rattle.std.proofs.Common.{◌≡◌, ◌⊎◌, ℕ, List, [], ◌∷◌, ◌++◌, Option}
use Rattle.std.proofs.Common.{Some, refl, sym, ◌∙◌, ap, subst, append_assoc, append-nil, inl}
use Rattle.std.proofs.Common.{inr}
use Rattle.nutcore.proofs.Common.{Event, Outcome, ServerState, with_session_changed, Run}
use Rattle.nutcore.specs.Pump.{next_line_for, after_line, notified}
use Rattle.nutcore.specs.Step.{after_by, joined, with_input, taken_from, without_output}
use Rattle.nutcore.specs.History.{Execution, of_line, of_notice, executions}
use Rattle.nutcore.specs.ByRight.{IsAmong}
use Rattle.nutcore.proofs.Events.{IsPlain}
use Rattle.nutcore.proofs.Histories.{IsOfEvents, run_keeps}

-- one of them is so
abbrev pub OneIs : (Execution → Type 0) → List Execution → Type 0
OneIs P xs = (x : Execution) × IsAmong x xs × P x

first_one : (P : Execution → Type 0) (xs ys : List Execution) → OneIs P xs → OneIs P (xs ++ ys)
first_one P xs ys (x, (before, after, e), p) =
    (x, (before, after ++ ys, ap (λ (zs : List Execution). zs ++ ys) e ∙ append_assoc before (x ∷ after) ys), p)

-- this holds of each of them, with those before it
abbrev EachWith : (List Execution → Execution → Type 0) → List Execution → List Execution → Type 0
EachWith Q before [] = Unit {0}
EachWith Q before (x ∷ xs) = Q before x × EachWith Q (before ++ x ∷ []) xs

both : (Q : List Execution → Execution → Type 0) (before xs ys : List Execution) →
    EachWith Q before xs → EachWith Q (before ++ xs) ys → EachWith Q before (xs ++ ys)
both Q before [] ys first more = subst (λ (zs : List Execution). EachWith Q zs ys) (append-nil before) more
both Q before (x ∷ xs) ys first more = (
  first.0,
  both Q (before ++ x ∷ []) xs ys first.1
      (subst (λ (zs : List Execution). EachWith Q zs ys) (sym (append_assoc before (x ∷ []) xs)) more),
)

each_at : (Q : List Execution → Execution → Type 0) (before front back : List Execution)
    (x : Execution) → EachWith Q before (front ++ x ∷ back) → Q (before ++ front) x
each_at Q before [] back x each = subst (λ (zs : List Execution). Q zs x) (sym (append-nil before)) each.0
each_at Q before (y ∷ front) back x each =
    subst (λ (zs : List Execution). Q zs x) (append_assoc before (y ∷ []) front)
    (each_at Q (before ++ y ∷ []) front back x each.1)

-- what goes on holding of a server and of what was executed before
pub record GoesOn (Holds : List Execution → ServerState → Type 0) : Type 0 where
  pub line : (before : List Execution) (s : ServerState) (d : ℕ) (line : List ℕ) →
      next_line_for s d ≡ Some line → Holds before s → Holds (before ++ of_line s d line ∷ []) (after_line s d)
  pub notice : (before : List Execution) (s : ServerState) (d : ℕ) → Holds before s →
      Holds (before ++ of_notice s d ∷ []) (with_session_changed notified d s)
  pub joins : (before : List Execution) (s : ServerState) (d : ℕ) (piece : List ℕ) →
      Holds before s → Holds before (with_session_changed (joined piece) d s)
  pub gives : (before : List Execution) (s : ServerState) (d n : ℕ) → Holds before s →
      Holds before (with_session_changed (taken_from n) d s)
  pub plain : (before : List Execution) (s : ServerState) (e : Event) (m : Option ℕ) →
      IsPlain e → Holds before s → Holds before (after_by s e m)

module _ {Holds : List Execution → ServerState → Type 0} (goes : GoesOn Holds) where
  -- on the server of each line, with those before it
  abbrev HeldAt : List Execution → Execution → Type 0
  HeldAt before (of_line s d line) = Holds before s
  HeldAt before (of_notice s d) = Unit {0}

  -- executions that lead from a server to another
  record Leads (s : ServerState) (xs : List Execution) (t : ServerState) : Type 0 where
    each : (before : List Execution) → Holds before s → EachWith HeldAt before xs
    then : (before : List Execution) → Holds before s → Holds (before ++ xs) t

  -- none does
  leads_by_none : (s t : ServerState) →
      ((before : List Execution) → Holds before s → Holds before t) → Leads s [] t
  leads_by_none s t holds = record {
    each = λ before h. tt;
    then = λ before h. subst (λ (zs : List Execution). Holds zs t) (sym (append-nil before)) (holds before h);
  }

  leads : IsOfEvents 0 (λ s xs taken asked t. Leads s xs t)
  unfolding with_input without_output
  leads = record {
    stays = λ s. leads_by_none s s (λ before h. h);
    joins = λ s m t xs ys k k' a a' f g. record {
      each = λ before h. both HeldAt before xs ys (f.each before h) (g.each (before ++ xs) (f.then before h));
      then = λ before h. subst (λ (zs : List Execution). Holds zs t) (append_assoc before xs ys)
          (g.then (before ++ xs) (f.then before h));
    };
    by_line = λ d s line next. record
        { each = λ before h. (h, tt); then = λ before h. goes.line before s d line next h };
    by_notice = λ d s long. record { each = λ before h. (tt, tt); then = λ before h. goes.notice before s d h };
    by_input = λ d s piece. leads_by_none s _ (λ before h. goes.joins before s d piece h);
    by_output = λ d s n may. leads_by_none s _ (λ before h. goes.gives before s d n h);
    by_plain = λ s e m plain. leads_by_none s _ (λ before h. goes.plain before s e m plain h);
  }

  module _ (start t : ServerState) (es : List Event) (os : List Outcome) (r : Run start es os t)
      (begins : Holds [] start) where
    -- after a run, and on the server of each of its lines
    pub held_after : Holds (executions start es os) t
    held_after = (run_keeps 0 (λ s xs taken asked t. Leads s xs t) leads start t es os r).then [] begins

    pub held_at : (front back : List Execution) (s : ServerState) (d : ℕ) (line : List ℕ) →
        executions start es os ≡ front ++ of_line s d line ∷ back → Holds front s
    held_at front back s d line e =
        each_at HeldAt [] front back (of_line s d line)
        (subst (EachWith HeldAt []) e ((run_keeps 0 (λ s xs taken asked t. Leads s xs t) leads
        start t es os r).each [] begins))

-- what only such lines bring about: a line may, and nothing else does
pub record IsMark (IsSo : ServerState → Type 0) (Sets : Execution → Type 0) : Type 0 where
  pub line : (s : ServerState) (d : ℕ) (line : List ℕ) → next_line_for s d ≡ Some line →
      IsSo (after_line s d) → IsSo s ⊎ Sets (of_line s d line)
  pub notice : (s : ServerState) (d : ℕ) → IsSo (with_session_changed notified d s) → IsSo s
  pub joins : (s : ServerState) (d : ℕ) (piece : List ℕ) →
      IsSo (with_session_changed (joined piece) d s) → IsSo s
  pub gives : (s : ServerState) (d n : ℕ) → IsSo (with_session_changed (taken_from n) d s) → IsSo s
  pub plain : (s : ServerState) (e : Event) (m : Option ℕ) → IsPlain e → IsSo (after_by s e m) → IsSo s

-- where it is so, it was at the start, or one of those before is such a line
abbrev pub Told : (ServerState → Type 0) → (Execution → Type 0) → ServerState →
    List Execution → ServerState → Type 0
Told IsSo Sets start before s = IsSo s → IsSo start ⊎ OneIs Sets before

pub told : {IsSo : ServerState → Type 0} {Sets : Execution → Type 0} → IsMark IsSo Sets →
    (start : ServerState) → GoesOn (Told IsSo Sets start)
told {IsSo = IsSo} {Sets = Sets} mark start = record {
  line = λ before s d line next told so. elim (mark.line s d line next so) [
    | inl was ↦ still before (of_line s d line) (told was)
    | inr sets ↦ inr (of_line s d line, (before, [], refl), sets)
  ];
  notice = λ before s d told so. still before (of_notice s d) (told (mark.notice s d so));
  joins = λ before s d piece told so. told (mark.joins s d piece so);
  gives = λ before s d n told so. told (mark.gives s d n so);
  plain = λ before s e m plain told so. told (mark.plain s e m plain so);
}
  where
    still : (before : List Execution) (x : Execution) → IsSo start ⊎ OneIs Sets before →
        IsSo start ⊎ OneIs Sets (before ++ x ∷ [])
    still before x (inl was) = inl was
    still before x (inr one) = inr (first_one Sets before (x ∷ []) one)
