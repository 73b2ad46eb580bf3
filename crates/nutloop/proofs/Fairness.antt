-- Everybody has a turn between two looks, turns are few, and nobody who is ready is slept over.
use Rattle.std.proofs.Common.{◌≡◌, ◌⊎◌, ◌+◌, ◌<◌, ◌≤◌, ℕ, zero, suc, Bool, true}
use Rattle.std.proofs.Common.{false, List, [], ◌∷◌, length, Option, Some, None, refl, sym}
use Rattle.std.proofs.Common.{subst, ap, ◌∙◌, inl, inr, arith}
use Rattle.std.specs.Prelude.{◌&&◌, is_some, not, nat_lt}
use Rattle.nutcore.specs.Recording.{Recorded}
use Rattle.nutcore.specs.Server.{ServerState}
use Rattle.nutloop.specs.declared.sockets.Ready.{Ready}
use Rattle.nutloop.specs.declared.over_mio.pass.Pass.{Pass}
use Rattle.nutloop.specs.declared.over_mio.pass.Stop.{Stop}
use Rattle.nutloop.specs.declared.over_mio.pass.TheConstants.{STOPS, TURNS_PER_LOOK}
use Rattle.nutloop.specs.Pass.{HasNext, HasTurn, IsOver, WasVisited, again, fresh, goes_on}
use Rattle.nutloop.specs.declared.turns.Loop.{Loop}
use Rattle.nutloop.specs.Sockets.{Begins, GoesOn, HasPassed, IsFound, Passing, Progress, Told, progress_of}
use Rattle.nutloop.specs.Turn.{IsTurn}
use Rattle.nutloop.specs.Serving.{Turns}
use Rattle.nutloop.specs.Fairness.{AnyTurns, EverybodyHasATurn, FindsWith, FromALook, FromLookToLook}
use Rattle.nutloop.specs.Fairness.{HadTurn, IsOneOf, MakesPasses, Turn, WasUnready}
use Rattle.nutloop.specs.Fairness.{WithoutALook, turns_in}

-- Turns of peers, one after another, without a look.
abbrev GoThrough : Pass → List Turn → Pass → Type 0
GoThrough old [] new = new ≡ old
GoThrough old (t ∷ ts) new = HasNext t.may old t.visited t.pass × GoThrough t.pass ts new

-- At the beginning of a pass no stop was visited.
unvisited : (pass : Pass) (s : Stop) → WasVisited (again pass) s → ⊥
unvisited pass s h = omega arith

abbrev Had : Stop → Turn → Type 0
Had s t = (t.visited ≡ s) ⊎ (t.may s ≡ false)

of_turn : (t : Turn) (old : Pass) (s : Stop) → HasTurn t.may old t.visited t.pass →
    WasVisited t.pass s → WasVisited old s ⊎ Had s t
of_turn t old s turn now =
    elim (turn.others s now) [
      | inl before ↦ inl before
      | inr (inl same) ↦ inr (inl (sym same))
      | inr (inr unready) ↦ inr (inr unready)
    ]

of_next : (t : Turn) (old : Pass) (s : Stop) → HasNext t.may old t.visited t.pass →
    WasVisited t.pass s → WasVisited old s ⊎ Had s t
of_next t old s (inl turn) now = of_turn t old s turn now
of_next t old s (inr (mid, over, on, turn)) now =
    elim (of_turn t (again mid) s turn now) [ inl before ↦ absurd (unvisited mid s before) | inr had ↦ inr had ]

-- Each stop that is visited had its turn since then, or wasn't ready, or was visited before.
visited_since : (s : Stop) (old : Pass) (ts : List Turn) (last : Pass) → GoThrough old ts last → WasVisited last s
    → WasVisited old s ⊎ (HadTurn s ts ⊎ WasUnready s ts)
visited_since s old [] last go now = inl (subst (λ (p : Pass). WasVisited p s) go now)
visited_since s old (t ∷ ts) last (next, go) now =
    elim (visited_since s t.pass ts last go now) [
      | inr (inl had) ↦ inr (inl (inr had))
      | inr (inr unready) ↦ inr (inr (inr unready))
      | inl mid ↦ elim (of_next t old s next mid) [
        | inl before ↦ inl before
        | inr (inl had) ↦ inr (inl (inl had))
        | inr (inr unready) ↦ inr (inr (inl unready))
      ]
    ]

each_has : (ts : List Turn) (last over : Pass) (may : Stop → Bool) (s : Stop) (ready : Bool) → may s ≡ ready
    → GoThrough fresh ts last → IsOver may last over → HadTurn s ts ⊎ (WasUnready s ts ⊎ (may s ≡ false))
each_has ts last over may s false is go ends = inr (inr is)
each_has ts last over may s true is go ends =
    elim (visited_since s fresh ts last go (ends.nobody s is)) [
      | inl none ↦ absurd (unvisited fresh s none)
      | inr (inl had) ↦ inl had
      | inr (inr unready) ↦ inr (inl unready)
    ]

-- So many turns were had since the look, and these are few.
record Counted (pass : Pass) : Type 0 where
  within : pass.next ≤ STOPS
  few : pass.turns + 1 ≤ TURNS_PER_LOOK + pass.next

of_going : (b c : Bool) (n m : ℕ) → (b && not c && nat_lt n m) ≡ true → n < m
of_going b c n m h = grind arith

counted_again : (pass : Pass) → goes_on pass ≡ true → Counted (again pass)
counted_again pass on = record {
  within = omega arith;
  few = omega (arith, of_going pass.had_turn pass.was_driver_read pass.turns TURNS_PER_LOOK on);
}

counted_turn : (may : Stop → Bool) (old new : Pass) (visited : Stop) → Counted old → HasTurn may old visited new
    → (new.turns ≡ old.turns + 1) × Counted new
counted_turn may old new visited is turn =
    let turns : new.turns ≡ old.turns + 1 = omega (arith, turn.turns, is.few, is.within) in
    (turns, record { within = turn.within; few = omega (arith, turns, turn.later, turn.next, is.few) })

counted_next : (t : Turn) (old : Pass) → Counted old → HasNext t.may old t.visited t.pass
    → (t.pass.turns ≡ old.turns + 1) × Counted t.pass
counted_next t old is (inl turn) = counted_turn t.may old t.pass t.visited is turn
counted_next t old is (inr (mid, over, on, turn)) =
    let next = counted_turn t.may (again mid) t.pass t.visited (counted_again mid on) turn in
    (next.0 ∙ ap (λ (p : Pass). p.turns + 1) over.same, next.1)

counted_all : (old : Pass) (ts : List Turn) (last : Pass) → Counted old → GoThrough old ts last
    → length ts + old.turns + 1 ≤ TURNS_PER_LOOK + STOPS
counted_all old [] last is go = omega (arith, is.few, is.within)
counted_all old (t ∷ ts) last is (next, go) =
    let now = counted_next t old is next in
    omega (arith, now.0, counted_all t.pass ts last now.1 go)

-- Who is visited is told by a turn in the pass.
abbrev IsTold : Pass → Type 0
IsTold pass = pass.had_turn ≡ false → pass.next ≡ 0

had_by : (t : Turn) (old : Pass) → HasNext t.may old t.visited t.pass → t.pass.had_turn ≡ true
had_by t old (inl turn) = turn.had
had_by t old (inr (mid, over, on, turn)) = turn.had

told_by : (t : Turn) (old : Pass) → HasNext t.may old t.visited t.pass → IsTold t.pass
told_by t old next = λ none. cc (none, had_by t old next)

told_all : (old : Pass) (ts : List Turn) (last : Pass) → IsTold old → GoThrough old ts last → IsTold last
told_all old [] last is go = subst IsTold (sym go) is
told_all old (t ∷ ts) last is (next, go) = told_all t.pass ts last (told_by t old next) go

nobody_ready : (may : Stop → Bool) (pass : Pass) (s : Stop) (ready : Bool) → may s ≡ ready →
    pass.next ≡ 0 → IsOver may pass pass → may s ≡ false
nobody_ready may pass s false is none over = is
nobody_ready may pass s true is none over = absurd (unmade (over.nobody s is))
  where
    unmade : WasVisited pass s → ⊥
    unmade h = omega (arith, none, h)

-- What a turn of serving leaves of the pass, of the second of the look, and of the ids that are due.
abbrev pub Goes : Pass → Option Turn → Pass → Type 0
Goes old None new = new ≡ old
Goes old (Some t) new = (new ≡ t.pass) × HasNext t.may old t.visited t.pass

abbrev Hands : ℕ → Option Turn → ℕ → Type 0
Hands old None new = old ≡ new + 1
Hands old (Some t) new = new ≤ old

some_is : {A : Type 0} (x y : A) (o : Option A) → o ≡ Some x → o ≡ Some y → x ≡ y
some_is x y o h k = cc (h, k)

after_a_look : (s : ServerState) (o : Option Passing) (ready : Ready) (t : Option Turn)
    (is : Passing) → FindsWith true s o ready t is → Goes fresh t is.so_far.pass
after_a_look s None ready t is h = absurd h
after_a_look s (Some was) ready None is (over, begins) = begins.0
after_a_look s (Some was) ready (Some t) is (over, begins) = (sym begins.1, inl begins.3)

-- How far the sockets had come before a turn without a look, and have come after it.
abbrev GoesFrom : Progress → Option Turn → Progress → Type 0
GoesFrom old t new =
    Goes old.pass t new.pass × Hands old.ids t new.ids × (new.second ≡ old.second)

without_a_look : (s : ServerState) (o : Option Passing) (ready : Ready) (t : Option Turn)
    (is : Passing) (old : Progress) → FindsWith false s o ready t is → progress_of o ≡ Some old →
    GoesFrom old t is.so_far
without_a_look s None ready t is old h at = absurd h
without_a_look s (Some was) ready None is old h at =
    let from : was.so_far ≡ old = some_is was.so_far old (progress_of (Some was)) refl at in
    let went : old ≡ record is.so_far { ids = suc is.so_far.ids } = sym from ∙ h.1 in (
      sym (ap (λ (p : Progress). p.pass) went),
      omega (arith, ap (λ (p : Progress). p.ids) went),
      sym (ap (λ (p : Progress). p.second) went),
    )
without_a_look s (Some was) ready (Some t) is old (may, pass, at_stop, next, second, ids) at =
    let from : was.so_far ≡ old = some_is was.so_far old (progress_of (Some was)) refl at in (
      (sym pass, subst (λ (p : Progress). HasNext t.may p.pass t.visited t.pass) from next),
      subst (λ (p : Progress). is.so_far.ids ≤ p.ids) from ids,
      subst (λ (p : Progress). is.so_far.second ≡ p.second) from second,
    )

module _ {S R : Type 0} (told : S → Told) (holds : R → Recorded) where
  -- How far the sockets have come.
  abbrev pub IsAt : Loop S R → Progress → Type 0
  IsAt r at = progress_of (told r.sockets).passing ≡ Some at

  keeps_progress : (soon : Bool) (old new : Loop S R) (t : IsTurn told holds soon old new) (is : Passing) →
      (told t.mid).passing ≡ Some is → IsAt new is.so_far
  keeps_progress soon old new t is found =
      t.row.does.reported.progress ∙ t.row.called.progress ∙ ap progress_of found

  -- Turns of serving, one after another, and what they leave of the pass.
  pub record GoesOne (old : Loop S R) (before : Pass) (t : Option Turn) (after : Pass)
      (new : Loop S R) : Type 0 where
    pub looks : Bool
    pub one : IsOneOf told holds looks old t new
    pub goes : Goes before t after

  abbrev pub GoAll : Loop S R → Pass → List (Option Turn) → Pass → Loop S R → Type 0
  GoAll old before [] after new = (new ≡ old) × (after ≡ before)
  GoAll old before (t ∷ ts) after new = (mid : Loop S R) ×
      ((pass : Pass) × GoesOne old before t pass mid × GoAll mid pass ts after new)

  record Reaches (old : Loop S R) (before : Progress) (ts : List (Option Turn)) (new : Loop S R) : Type 0 where
    last : Progress
    at : IsAt new last
    go : GoAll old before.pass ts last.pass new
    ids : length ts + last.ids ≤ length (turns_in ts) + before.ids
    second : last.second ≡ before.second

  handed : (t : Option Turn) (ts : List (Option Turn)) (old mid last : ℕ) → Hands old t mid →
      length ts + last ≤ length (turns_in ts) + mid → length (t ∷ ts) + last ≤
      length (turns_in (t ∷ ts)) + old
  handed None ts old mid last hands later = omega (arith, hands, later)
  handed (Some t) ts old mid last hands later = omega (arith, hands, later)

  go_on : (old : Loop S R) (before : Progress) (ts : List (Option Turn)) (new : Loop S R) →
      IsAt old before → WithoutALook told holds old ts new → Reaches old before ts new
  go_on old before [] new at same = record {
    last = before;
    at = subst (λ (r : Loop S R). IsAt r before) (sym same) at;
    go = (same, refl);
    ids = omega arith;
    second = refl;
  }
  go_on old before (t ∷ ts) new at (mid, one, rest) =
      let is = without_a_look old.server.state (told old.sockets).passing one.turn.ready t one.is before one.finds at in
      let later = go_on mid one.is.so_far ts new (keeps_progress one.soon old mid one.turn one.is one.found) rest in
      record {
        last = later.last;
        at = later.at;
        go = (mid, (one.is.so_far.pass, record { looks = false; one = one; goes = is.0 }, later.go));
        ids = handed t ts before.ids one.is.so_far.ids later.last.ids is.1 later.ids;
        second = later.second ∙ is.2;
      }

  -- After a look.
  pub record GoesFromALook (old : Loop S R) (first : Option Turn) (later : List (Option Turn)) (is : Progress)
      (new : Loop S R) : Type 0 where
    pub last : Progress
    pub at : IsAt new last
    pub go : GoAll old fresh (first ∷ later) last.pass new
    pub ids : length later + last.ids ≤ length (turns_in later) + is.ids
    pub second : last.second ≡ is.second

  pub from_a_look : (old : Loop S R) (turns : List Turn) (new : Loop S R) (look : FromALook told holds old turns new)
      → GoesFromALook old look.first look.later look.begins.is.so_far new
  from_a_look old turns new look =
      let one = look.begins in
      let goes = after_a_look old.server.state (told old.sockets).passing one.turn.ready look.first one.is one.finds in
      let all = go_on look.mid one.is.so_far look.later new
      (keeps_progress one.soon old look.mid one.turn one.is one.found) look.goes_on in
      record {
        last = all.last;
        at = all.at;
        go = (look.mid, (one.is.so_far.pass, record { looks = true; one = one; goes = goes }, all.go));
        ids = all.ids;
        second = all.second;
      }

  -- The pass of a look is the one that the turns before it reached.
  pub reached : (old : Loop S R) (turns : List Turn) (new : Loop S R)
      (looks : FromLookToLook told holds old turns new) →
      GoAll old fresh (looks.from.first ∷ looks.from.later) looks.is.so_far.pass new
  reached old turns new looks =
      let all = from_a_look old turns new looks.from in
      let same : all.last ≡ looks.is.so_far =
      some_is all.last looks.is.so_far (progress_of (told new.sockets).passing) all.at (ap progress_of looks.before) in
      subst (λ (p : Progress). GoAll old fresh (looks.from.first ∷ looks.from.later) p.pass new) same all.go

  -- Those of peers.
  of_peers : (old : Loop S R) (before : Pass) (ts : List (Option Turn)) (after : Pass)
      (new : Loop S R) → GoAll old before ts after new → GoThrough before (turns_in ts) after
  of_peers old before [] after new go = go.1
  of_peers old before (None ∷ ts) after new (mid, (pass, one, go)) =
      subst (λ (p : Pass). GoThrough p (turns_in ts) after) one.goes (of_peers mid pass ts after new go)
  of_peers old before (Some t ∷ ts) after new (mid, (pass, one, go)) = (
    one.goes.1,
    subst (λ (p : Pass). GoThrough p (turns_in ts) after) one.goes.0
        (of_peers mid pass ts after new go),
  )

  go_through : (old : Loop S R) (turns : List Turn) (new : Loop S R)
      (looks : FromLookToLook told holds old turns new) → GoThrough fresh turns looks.is.so_far.pass
  go_through old turns new looks =
      subst (λ (ts : List Turn). GoThrough fresh ts looks.is.so_far.pass) (sym looks.from.all)
      (of_peers old fresh (looks.from.first ∷ looks.from.later) looks.is.so_far.pass new
      (reached old turns new looks))

  few : (old new : Loop S R) (turns : List Turn) → FromALook told holds old turns new →
      length turns + 1 ≤ TURNS_PER_LOOK + STOPS
  few old new turns look =
      let all = from_a_look old turns new look in
      omega (
        arith,
        counted_all fresh turns all.last.pass (record { within = omega arith; few = omega arith })
            (subst (λ (ts : List Turn). GoThrough fresh ts all.last.pass) (sym look.all)
            (of_peers old fresh (look.first ∷ look.later) all.last.pass new all.go)),
      )

  -- The first turn after a look is one of these turns, or none of a peer.
  all_turns : (first : Option Turn) (later : List (Option Turn)) → length (turns_in later) ≤
      length (turns_in (first ∷ later))
  all_turns None later = omega arith
  all_turns (Some t) later = omega arith

  -- What a turn finds is after a look, or without one.
  record IsEither (s : ServerState) (was : Option Passing) (ready : Ready) (is : Passing) : Type 0 where
    looks : Bool
    t : Option Turn
    finds : FindsWith looks s was ready t is

  is_either : (soon : Bool) (s : ServerState) (ready : Ready) (a b : Told) (was is : Passing) →
      a.passing ≡ Some was → b.passing ≡ Some is → IsFound soon s ready a b → IsEither s a.passing ready is
  is_either soon s ready a b was is before after found = by_call found
    where
      goes_on : GoesOn s (Some was) ready (Some is) → IsEither s (Some was) ready is
      goes_on (inl (id, same, so_far)) = record { looks = false; t = None; finds = ((id, same), so_far) }
      goes_on (inr (visited, same, next, second, ids)) = record {
        looks = false;
        t = Some (record { may = was.may s; visited = visited; pass = is.so_far.pass });
        finds = (refl, refl, same, next, second, ids);
      }

      begins : IsOver (was.may s) was.so_far.pass was.so_far.pass → Begins s ready (Some is) →
          IsEither s (Some was) ready is
      begins over (inl (later, tick, pass)) = record { looks = true; t = None; finds = (over, (pass, inl tick)) }
      begins over (inr (reached, inl (visited, same, turn))) = record {
        looks = true;
        t = Some (record { may = is.may s; visited = visited; pass = is.so_far.pass });
        finds = (over, (refl, refl, same, turn, reached));
      }
      begins over (inr (reached, inr (nothing, passed))) =
          record { looks = true; t = None; finds = (over, (passed.same, inr reached)) }

      by_call : IsFound soon s ready a b → IsEither s a.passing ready is
      by_call (inl known) = subst (λ o. IsEither s o ready is) (sym before)
          (goes_on (rw (before, after) at known.passes))
      by_call (inr (asked, soon_too, looked)) =
          let both : HasPassed s (Some was) × Begins s ready (Some is) = rw (before, after) at looked.passes in
          subst (λ o. IsEither s o ready is) (sym before) (begins both.0 both.1)

  is_there : {A : Type 0} (o : Option A) → is_some o ≡ true → (x : A) × (o ≡ Some x)
  is_there None h = cc h
  is_there (Some x) h = (x, refl)

  each_turn : (old : Loop S R) (n : ℕ) (new : Loop S R) → MakesPasses told holds → Turns told holds old n new →
      (turns : List (Option Turn)) × (length turns ≡ n) × AnyTurns told holds old turns new
  each_turn old zero new passes same = ([], refl, same)
  each_turn old (suc n) new passes (mid, (soon, turn, rest)) =
      let was = is_there (told old.sockets).passing (passes old.sockets) in
      let is = is_there (told turn.mid).passing (passes turn.mid) in
      let either = is_either soon old.server.state turn.ready (told old.sockets) (told turn.mid) was.0 is.0 was.1
      is.1 turn.found in
      let later = each_turn mid n new passes rest in (
        either.t ∷ later.0,
        ap suc later.1,
        (
          either.looks,
          (mid, record { soon = soon; turn = turn; is = is.0; found = is.1; finds = either.finds }, later.2),
        ),
      )

  until_a_look : (old mid new : Loop S R) (turns : List Turn) (t : Option Turn) →
      FromALook told holds old turns mid →
      IsOneOf told holds true mid t new → FromLookToLook told holds old turns mid
  until_a_look old mid new turns t from look =
      passed (told mid.sockets).passing refl look.finds
    where
      passed : (o : Option Passing) → (told mid.sockets).passing ≡ o →
          FindsWith true mid.server.state (told mid.sockets).passing look.turn.ready t look.is →
          FromLookToLook told holds old turns mid
      passed None is finds = absurd (subst (λ o. FindsWith true mid.server.state o look.turn.ready t look.is) is finds)
      passed (Some was) is finds =
          let both = subst (λ o. FindsWith true mid.server.state o look.turn.ready t look.is) is finds in
          record { from = from; is = was; before = is; over = both.0 }

  pub everybody_has_a_turn : EverybodyHasATurn told holds
  everybody_has_a_turn = record {
    each = λ old new turns looks s.
        each_has turns looks.is.so_far.pass looks.is.so_far.pass (looks.is.may new.server.state) s
        (looks.is.may new.server.state s) refl (go_through old turns new looks) looks.over;
    awake = λ old new turns looks s idle.
        nobody_ready (looks.is.may new.server.state) looks.is.so_far.pass s (looks.is.may new.server.state s) refl
        (told_all fresh turns looks.is.so_far.pass (λ none. refl) (go_through old turns new looks) idle) looks.over;
    divided = record {
      each = λ old new n passes turns. each_turn old n new passes turns;
      few = few;
      ids = λ old new turns look. omega (
        arith,
        (from_a_look old turns new look).ids,
        all_turns look.first look.later,
        ap length look.all,
      );
      until = until_a_look;
    };
  }
