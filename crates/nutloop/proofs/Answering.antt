-- What `known` and `look` answer, by the visits that they make.
use Rattle.std.proofs.Common.{◌≡◌, ◌∙◌, Bool, true, false, Option, Some, None, ℕ}
use Rattle.std.proofs.Common.{refl, inl, inr, subst, sym, arith}
use Rattle.std.specs.Prelude.{◌≤◌, if◌then◌else◌, unwrap_or, MatchOption}
use Rattle.std.specs.Option.{option_map_or}
use Rattle.nutcore.specs.Server.{ServerState}
use Rattle.nutloop.specs.declared.ids.Ids.{Ids}
use Rattle.nutloop.specs.declared.over_mio.MioSockets.{MioSockets}
use Rattle.nutloop.specs.declared.over_mio.pass.Pass.{Pass}
use Rattle.nutloop.specs.declared.sockets.Ready.{Ready}
use Rattle.nutloop.specs.declared.sockets.Ready.TheVariants.{Nothing}
use Rattle.nutloop.specs.OverMio.{GivesTurn, may_at, passing_of, told_of}
use Rattle.nutloop.specs.Pass.{IsOver, again, fresh, goes_on}
use Rattle.nutloop.specs.Sockets.{Begins, HasNextTurn, Knows}

-- A pass that is the next one without a look.
pub going_on : (goes_on : Bool) (pass next : Pass) → Some next ≡
    (if goes_on then Some pass else None) → (goes_on ≡ true) × (next ≡ pass)
going_on true pass next h = (refl, cc)
going_on false pass next h = (cc, cc)

-- The passing of sockets that differ in nothing that is told of but how far they have come.
abbrev IsLike : {R F : Type 0} → MioSockets R F → MioSockets R F → Type 0
IsLike old new = new ≡ record old { pass = new.pass; here = new.here }

of_like : {R F : Type 0} (P : MioSockets R F → MioSockets R F → Type 0)
    (old new : MioSockets R F) → IsLike old new
    → P old (record old { pass = new.pass; here = new.here }) → P old new
of_like {R} {F} P old new same h = subst (λ (m : MioSockets R F). P old m) (sym same) h

-- What is gone through without a look: a turn of this pass, or of the next one, or nothing.
abbrev pub Gives : {R F : Type 0} → ServerState → MioSockets R F → Option Ready → MioSockets R F → Type 0
Gives s old answer new = MatchOption answer (IsOver (may_at s old) old.pass old.pass)
    (λ ready. HasNextTurn s (passing_of old) ready (passing_of new))

pub of_this_pass : {R F : Type 0} (s : ServerState) (old new : MioSockets R F) (ready : Ready) → IsLike old new
    → GivesTurn s old old.pass (Some ready) new.pass → Gives s old (Some ready) new
of_this_pass {R} {F} s old new ready same gives =
    of_like (λ a b. Gives s a (Some ready) b) old new same (gives.0, gives.1, inl gives.2, refl, omega arith)

is_over : {R F : Type 0} (s : ServerState) (old : MioSockets R F) (new : Pass) →
    IsOver (may_at s old) old.pass new → IsOver (may_at s old) old.pass old.pass
is_over s old new over = subst (λ (p : Pass). IsOver (may_at s old) old.pass p) over.same over

pub of_no_pass : {R F : Type 0} (s : ServerState) (old mid : MioSockets R F) →
    IsOver (may_at s old) old.pass mid.pass → Gives s old None mid
of_no_pass s old mid over = is_over s old mid.pass over

pub like_joined : {R F : Type 0} (old mid new : MioSockets R F) (next : Pass) → IsLike old mid →
    IsLike (record mid { pass = next }) new → IsLike old new
like_joined {R} {F} old mid new next same like =
    subst (λ (m : MioSockets R F). new ≡ record m { pass = new.pass; here = new.here }) same like

-- The pass is over: what follows it without a look is the first turn of the next one.
pub of_next_pass : {R F : Type 0} (s : ServerState) (old mid new : MioSockets R F) (next : Pass) (answer : Option Ready)
    → IsLike old mid → IsOver (may_at s old) old.pass mid.pass
    → goes_on mid.pass ≡ true → next ≡ again mid.pass → IsLike (record mid { pass = next }) new →
    GivesTurn s mid next answer new.pass → Gives s old answer new
of_next_pass {R} {F} s old mid new next None same over on is like gives = is_over s old mid.pass over
of_next_pass {R} {F} s old mid new next (Some answer) same over on is like gives =
    let from_again : GivesTurn s mid (again mid.pass) (Some answer) new.pass =
    subst (λ (p : Pass). GivesTurn s mid p (Some answer) new.pass) is gives in
    let turn : GivesTurn s old (again mid.pass) (Some answer) new.pass =
    subst (λ (m : MioSockets R F). GivesTurn s m (again mid.pass) (Some answer) new.pass) same from_again in
    of_like (λ a b. GivesTurn s a (again mid.pass) (Some answer) b.pass → Gives s a (Some answer) b) old new
    (like_joined old mid new next same like)
    (λ turn. (turn.0, turn.1, inr (mid.pass, over, on, turn.2), refl, omega arith)) turn

-- What is known: where no id was handed in, fewer may be due.
unfoldable pub ids_due : {F : Type 0} → Option (Ids F) → ℕ
ids_due {F} ids = option_map_or (λ (x : Ids F). x.due) ids 0

pub known_then : {R F : Type 0} (s : ServerState) (old mid new : MioSockets R F) (answer : Option Ready)
    (ids : Option (Ids F)) → mid ≡ record old { ids = ids; left = None; sent_away = None } →
    ids_due ids ≤ ids_due old.ids → IsLike mid new → Gives s mid answer new →
    Knows (told_of old) s answer (told_of new)
unfolding ids_due
known_then {R} {F} s old mid new answer ids is fewer like gives =
    let from : MioSockets R F = record old { ids = ids; left = None; sent_away = None } in
    of_like (λ a b. Gives s a answer b → Knows (told_of old) s answer (told_of b)) from new
    (subst (λ (m : MioSockets R F). IsLike m new) is like) (by answer)
    (subst (λ (m : MioSockets R F). Gives s m answer new) is gives)
  where
    by : (answer : Option Ready) → Gives s (record old { ids = ids; left = None; sent_away = None }) answer
        (record old { ids = ids; left = None; sent_away = None; pass = new.pass; here = new.here }) →
        Knows (told_of old) s answer
        (told_of (record old { ids = ids; left = None; sent_away = None; pass = new.pass; here = new.here }))
    by None over = record { follows = tt; failures = refl; passes = over }
    by (Some ready) turn = record {
      follows = tt;
      failures = refl;
      passes = inr (turn.0, turn.1, turn.2, refl, fewer);
    }

-- What the first visit after a look gives.
pub after_look : {R F : Type 0} (s : ServerState) (looked new : MioSockets R F) (answer : Option Ready) (ready : Ready)
    → looked.second ≤ s.moment → looked.pass ≡ fresh → IsLike looked new
    → GivesTurn s looked looked.pass answer new.pass → ready ≡ unwrap_or answer Nothing
    → Begins s ready (Some (passing_of new))
after_look {R} {F} s looked new answer ready reached is same gives reported =
    let at_fresh : GivesTurn s looked fresh answer new.pass =
    subst (λ (p : Pass). GivesTurn s looked p answer new.pass) is gives in
    of_like (λ a b. GivesTurn s a fresh answer b.pass → a.second ≤ s.moment →
    Begins s ready (Some (passing_of b)))
    looked new same (by answer reported) at_fresh reached
  where
    by : (answer : Option Ready) → ready ≡ unwrap_or answer Nothing →
        GivesTurn s looked fresh answer new.pass → looked.second ≤ s.moment →
        Begins s ready (Some (passing_of (record looked { pass = new.pass; here = new.here })))
    by (Some turn) reported gives reached = inr (reached, inl (gives.0, reported ∙ gives.1, gives.2))
    by None reported gives reached = inr (reached, inr (reported, gives))
