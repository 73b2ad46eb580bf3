use Rattle.std.specs.Prelude.{is_some}
use Rattle.std.proofs.Common.{◌≡◌, ◌∙◌, List, Option, Some, refl, sym, ap, take, set}
use Rattle.std.proofs.lemmas.List.{set-get_or}
use Rattle.nutcore.specs.Session.{SessionState}
use Rattle.nutcore.specs.Server.{ServerState, session}
use Rattle.nutcore.specs.Pump.{owed_of}
use Rattle.nutcore.specs.Cost.{RunningServer}
use Rattle.nutcore.specs.contracts.server.Server.{the_view}
use Rattle.nutcore.proofs.Places.{found_at}
use Rattle.nutcore.proofs.Runs.{state_is}
use Rattle.nutlisting.specs.declared.outbox.TheConstants.{QUEUE_LIMIT}
use Rattle.nutcore.proofs.server.Server.offer.Goals as goal

pub returns : goal.returns
returns c =
    let v : ServerState = (the_view c.self.inside).state in
    let x : SessionState = c.index_mut-session.result.now in
    let found : session c.args.c v ≡ Some x =
    found_at c.args.c c.in_ok-place.place v.sessions x c.in_ok-place.ensures.place
    c.index_mut-session.ensures.value in (
      (
        refl,
        λ x. tt,
        ap (λ (xs : List SessionState). let r : RunningServer =
            record {
              state = record v { sessions = xs };
              cost = (the_view c.self.inside).cost;
              notes = (the_view c.self.inside).notes;
              waste = (the_view c.self.inside).waste;
            } in r) (ap (set v.sessions c.in_ok-place.place)
            (c.offer.follows.holds-at-none ∙ c.index_mut-session.ensures.value) ∙
            set-get_or v.sessions c.in_ok-place.place x) ∙ c.self.view_is,
      ),
      record {
        bytes = (
          ap (λ (s : ServerState). is_some (session c.args.c s))
              (sym (state_is c.self.view_is)) ∙ ap is_some found,
          c.offer.ensures.value ∙ sym (ap
              (λ (o : Option SessionState). take QUEUE_LIMIT (owed_of o)) found) ∙
              ap (λ (s : ServerState). take QUEUE_LIMIT (owed_of (session c.args.c s))) (state_is c.self.view_is),
        );
        same = tt;
      },
    )
