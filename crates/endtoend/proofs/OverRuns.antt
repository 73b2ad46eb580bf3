-- `upsc` over a run of the server.
use Rattle.std.proofs.Common.{◌≡◌, ◌∙◌, ℕ, Bool, true, false, cond, eqb, List, []}
use Rattle.std.proofs.Common.{◌∷◌, sym, ap, subst}
use Rattle.std.specs.Prelude.{codes, nat_eq}
use Rattle.std.specs.List.{starts_with}
use Rattle.nutcore.specs.declared.event.Event.{Event}
use Rattle.nutcore.specs.declared.event.Outcome.{Outcome}
use Rattle.nutcore.specs.Server.{ServerState, session}
use Rattle.nutcore.specs.History.{Execution, of_line, client_of, executions, of_client}
use Rattle.nutcore.specs.ByRight.{IsAmong}
use Rattle.nutcore.specs.Alone.{WasAnswered, OneLineIsAnswered}
use Rattle.nutcore.specs.Sound.{IsSound, ANewServerIsSound, ASoundServerIsLawful}
use Rattle.nutrequest.specs.declared.request.Request.{Request}
use Rattle.nutrequest.specs.declared.request.Request.TheVariants as requests
use Rattle.nutrequest.specs.declared.request.Query.TheVariants as queries
use Rattle.endtoend.specs.FromDriver.{IsAnswered, UpscPrintsWhatTheDriverSetLast, UpscPrintsAllThatTheDriverSetLast}
use Rattle.endtoend.specs.OverRuns.{IsServed, UpscPrintsWhatItTook}

-- the first of a client's executions is one of all
first_among : (c : ℕ) (xs ys : List Execution) (x : Execution) → of_client c xs ≡ x ∷ ys → IsAmong x xs
first_among c [] ys x e = cc e
first_among c (z ∷ zs) ys x e = by_own (eqb (client_of z) c) e (λ k. first_among c zs ys x k)
  where
    by_own : (b : Bool) → cond b (z ∷ of_client c zs) (of_client c zs) ≡ x ∷ ys →
        (of_client c zs ≡ x ∷ ys → IsAmong x zs) → IsAmong x (z ∷ zs)
    by_own true k later = let same : z ≡ x = cc k in ([], zs, ap (λ (w : Execution). w ∷ zs) same)
    by_own false k later = let (before, after, is) = later k in
        (z ∷ before, after, ap (λ (ws : List Execution). z ∷ ws) is)

module _ (opening : ANewServerIsSound) (lawful : ASoundServerIsLawful) (one : OneLineIsAnswered) where
  answered : (old : ServerState) (events : List Event) (outcomes : List Outcome) (c : ℕ)
      (line : List ℕ) (request : Request) → IsServed old events outcomes c line request →
      WasAnswered c old events outcomes line
  answered old events outcomes c line request h =
      let n = h.begins in
      let sound : IsSound old = subst IsSound (sym n.is)
      (opening n.list n.users n.descriptions n.max_age n.is_list n.are_lawful n.is_max_age) in
      one old h.new events outcomes c line (lawful old sound) (ap (session c) n.is) h.run h.asks
      h.one h.going h.done h.taken_all

  is_answered : (old : ServerState) (events : List Event) (outcomes : List Outcome) (c : ℕ)
      (line : List ℕ) (request : Request) (h : IsServed old events outcomes c line request)
      (w : WasAnswered c old events outcomes line) → IsAnswered old events outcomes w.server c line request
  is_answered old events outcomes c line request h w = record {
    new = h.new;
    begins = h.begins;
    run = h.run;
    executed = first_among c (executions old events outcomes) [] (of_line w.server c line) w.executed;
    asks = h.sends;
    granted = ap (λ bytes. starts_with nat_eq bytes (codes "ERR")) (sym w.took) ∙ h.granted;
  }

  pub prints_taken : UpscPrintsWhatTheDriverSetLast → UpscPrintsAllThatTheDriverSetLast → UpscPrintsWhatItTook
  prints_taken last all_last = record {
    variable = λ old events outcomes c line ups name n m h.
        let w = answered old events outcomes c line (requests.GetVar ups name) h in
        record {
          server = w.server;
          took = w.took;
          holds =
              last old events outcomes w.server c line ups name n m
              (is_answered old events outcomes c line (requests.GetVar ups name) h w);
        };
    variables = λ old events outcomes c line ups n h.
        let w = answered old events outcomes c line (requests.List (queries.Var ups)) h in
        record {
          server = w.server;
          took = w.took;
          holds =
              all_last old events outcomes w.server c line ups n
              (is_answered old events outcomes c line (requests.List (queries.Var ups)) h w);
        };
  }
