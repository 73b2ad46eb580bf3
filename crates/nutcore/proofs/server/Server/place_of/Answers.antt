use Rattle.std.proofs.Common.{◌≡◌, ◌∙◌, List, ap, subst, rules}
use Rattle.nutcore.proofs.Common.{SessionState, ServerState}
use Rattle.nutcore.specs.Sound.{IdsRise}
use Rattle.nutcore.proofs.Runs.{state_is}
use Rattle.nutcore.proofs.Places.{searched, place_found}
use Rattle.std.proofs.lemmas.List.Sorted.{answers_always}
use Rattle.nutcore.proofs.server.Server.place_of.Goals as goal

pub returns : goal.returns
returns c =
    let xs : List SessionState = c.args.self.now.state.sessions in
    let same : c.deref.result.now ≡ xs = c.deref.ensures.value ∙
    ap (λ (s : ServerState). s.sessions) (state_is c.self.view_is) in
    let facts = c.binary_search_by_key.ensures in
    let by_id = facts.position (λ (x : SessionState). x.id) (answers_always _ _ _ (λ f a r g called. search rules)) in
    record {
      place = rw c.or.ensures (place_found c.args.c xs c.binary_search_by_key.result
          (searched 1 c.args.self.now.state.next_id c.args.c xs
          (subst (λ (z : ServerState). IdsRise 1 z.next_id z.sessions) (state_is c.self.view_is)
          c.self.invariant.sound.ids) c.binary_search_by_key.result (rw same at facts.bound) (rw same at by_id)));
    }
