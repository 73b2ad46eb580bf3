-- The server's moment is at least the second of the last look.
use Rattle.std.proofs.Common.{◌≡◌, ◌⊎◌, ◌∙◌, ◌≤◌, ℕ, true, List, []}
use Rattle.std.proofs.Common.{◌∷◌, ◌++◌, Option, Some, None}
use Rattle.std.proofs.Common.{refl, ap, arith, inl, inr}
use Rattle.nutcore.specs.declared.event.Event.{Event}
use Rattle.nutcore.specs.DriverRuns.{IsNewServer}
use Rattle.nutcore.specs.FreshRuns.{TheMomentIsTheGreatestTick, greatest_tick}
use Rattle.nutcore.specs.Recording.{Recorded}
use Rattle.nutcore.specs.Server.{ServerState}
use Rattle.nutloop.specs.declared.sockets.Ready.{Ready}
use Rattle.nutloop.specs.declared.sockets.Ready.TheVariants.{Tick}
use Rattle.nutloop.specs.declared.turns.Loop.{Loop}
use Rattle.nutloop.specs.Clock.{NoAnswerIsOlderByTheClock}
use Rattle.nutloop.specs.Fairness.{AnyTurns, FindsWith, IsOneOf, Turn}
use Rattle.nutloop.specs.Sockets.{Passing, Told}
use Rattle.nutloop.specs.Turn.{Answer, row_events}
use Rattle.nutloop.proofs.InTime.{turns_between}
use Rattle.nutloop.proofs.Turning.{joined, one}

first_ticks : (xs ys : List Event) → greatest_tick xs ≤ greatest_tick (xs ++ ys)
first_ticks [] ys = omega arith
first_ticks (x ∷ xs) ys = omega (arith, first_ticks xs ys)

last_ticks : (xs ys : List Event) → greatest_tick ys ≤ greatest_tick (xs ++ ys)
last_ticks [] ys = omega arith
last_ticks (x ∷ xs) ys = omega (arith, last_ticks xs ys)

-- A look finds its tick, or the server's moment is that second at least.
ticks_or_reached : (s : ServerState) (o : Option Passing) (ready : Ready) (t : Option Turn) (is : Passing) →
    FindsWith true s o ready t is → (ready ≡ Tick is.so_far.second) ⊎ (is.so_far.second ≤ s.moment)
ticks_or_reached s None ready t is h = absurd h
ticks_or_reached s (Some was) ready None is (over, begins) = begins.1
ticks_or_reached s (Some was) ready (Some t) is (over, (may, pass, at_stop, turn, reached)) = inr reached

tick_in_row : (s : ServerState) (ready : Ready) (answer : Answer) (second : ℕ) → ready ≡ Tick second →
    greatest_tick (row_events s ready answer) ≡ second
tick_in_row s ready answer second is =
    ap (λ (r : Ready). greatest_tick (row_events s r answer)) is ∙ omega arith

module _ {S R : Type 0} (told : S → Told) (holds : R → Recorded) where
  moment : TheMomentIsTheGreatestTick → (start old mid new : Loop S R) (before later : List (Option Turn))
      (first : Option Turn) → IsNewServer start.server.state
      → AnyTurns told holds start before old → (look : IsOneOf told holds true old first mid)
      → AnyTurns told holds mid later new → look.is.so_far.second ≤ new.server.state.moment
  moment greatest start old mid new before later first is_new begun look rest =
      let b = turns_between told holds start before old begun in
      let l = one told holds look.soon old mid look.turn in
      let r = turns_between told holds mid later new rest in
      let all = joined told holds start old new b (joined told holds old mid new l r) in
      let at_old = greatest start.server.state old.server.state b.events b.outcomes is_new b.run in
      let at_new = greatest start.server.state new.server.state all.events all.outcomes is_new all.run in
      by at_old.moment at_new.moment
      (ticks_or_reached old.server.state (told old.sockets).passing look.turn.ready first look.is look.finds)
    where
      by : old.server.state.moment ≡ greatest_tick (turns_between told holds start before old begun).events →
          new.server.state.moment ≡ greatest_tick ((turns_between told holds start before old begun).events ++
          ((one told holds look.soon old mid look.turn).events ++
          (turns_between told holds mid later new rest).events)) →
          (look.turn.ready ≡ Tick look.is.so_far.second) ⊎ (look.is.so_far.second ≤ old.server.state.moment) →
          look.is.so_far.second ≤ new.server.state.moment
      by at_old at_new (inl tick) = omega (
        arith,
        at_new,
        tick_in_row old.server.state look.turn.ready look.turn.row.answer look.is.so_far.second tick,
        first_ticks (one told holds look.soon old mid look.turn).events
            (turns_between told holds mid later new rest).events,
        last_ticks (turns_between told holds start before old begun).events
            ((one told holds look.soon old mid look.turn).events ++
            (turns_between told holds mid later new rest).events),
      )
      by at_old at_new (inr reached) = omega (
        arith,
        at_old,
        at_new,
        reached,
        first_ticks (turns_between told holds start before old begun).events
            ((one told holds look.soon old mid look.turn).events ++
            (turns_between told holds mid later new rest).events),
      )

  pub no_answer_is_older_by_the_clock : TheMomentIsTheGreatestTick → NoAnswerIsOlderByTheClock told holds
  no_answer_is_older_by_the_clock greatest = record {
    moment = moment greatest;
    fresh = λ start old mid before first is_new begun look events more outcomes run all results s c line ups was from.
        let at_mid = greatest start.server.state mid.server.state events outcomes is_new run in
        omega (
          arith,
          moment greatest start old mid mid before [] first is_new begun look refl,
          at_mid.moment,
          first_ticks events more,
          ap greatest_tick from,
          was.fresh.recent,
        );
  }
