use Rattle.std.proofs.Common.{◌≡◌, ◌∙◌, List, Option, ap, subst, sym}
use Rattle.mio.specs.Events.{items}
use Rattle.nutloop.specs.declared.over_mio.MioSockets.{MioSockets}
use Rattle.nutloop.specs.declared.over_mio.clients.Client.{Client}
use Rattle.nutloop.specs.OverMio.{StayInTheirPlaces}
use Rattle.nutloop.proofs.Hearing.{heard_stay, stay_joined}
use Rattle.nutloop.proofs.over_mio.MioSockets.first_turn.Goals as goal

pub returns-in_err-elapsed-clause-stay : goal.returns-in_err-elapsed-clause-stay
returns-in_err-elapsed-clause-stay g c =
    subst (λ (old : List (Option Client)). StayInTheirPlaces old c.hear.new.self.clients.items)
    (ap (λ (m : MioSockets _ _). m.clients.items) c.wait.ensures)
    (heard_stay (items c.wait.new.self.events) c.wait.new.self.clients.items c.hear.new.self.clients.items
    c.hear.ensures.clients)

pub returns-in_default-clause-stay : goal.returns-in_default-clause-stay
returns-in_default-clause-stay g c =
    let stay = subst (λ (old : List (Option Client)). StayInTheirPlaces old c.hear.new.self.clients.items)
    (ap (λ (m : MioSockets _ _). m.clients.items) c.wait.ensures)
    (heard_stay (items c.wait.new.self.events) c.wait.new.self.clients.items c.hear.new.self.clients.items
    c.hear.ensures.clients) in
    subst (λ (new : List (Option Client)). StayInTheirPlaces c.args.self.now.clients.items new)
    (sym (ap (λ (m : MioSockets _ _). m.clients.items) c.visit.ensures.same ∙
    ap (λ (m : MioSockets _ _). m.clients.items) c.close_what_ended.ensures)) stay

pub returns-clause-stay : goal.returns-clause-stay
returns-clause-stay g c =
    let stay = subst (λ (old : List (Option Client)). StayInTheirPlaces old c.hear.new.self.clients.items)
    (ap (λ (m : MioSockets _ _). m.clients.items) c.wait.ensures)
    (heard_stay (items c.wait.new.self.events) c.wait.new.self.clients.items c.hear.new.self.clients.items
    c.hear.ensures.clients) in
    let same : c.refill_ids.new.self.clients.items ≡ c.hear.new.self.clients.items =
    ap (λ (m : MioSockets _ _). m.clients.items) c.refill_ids.ensures.only ∙
    ap (λ (m : MioSockets _ _). m.clients.items) c.close_what_ended.ensures in
    stay_joined c.args.self.now.clients.items c.refill_ids.new.self.clients.items c.end_silent.new.self.clients.items
    (subst (λ (new : List (Option Client)). StayInTheirPlaces c.args.self.now.clients.items new) (sym same) stay)
    c.end_silent.ensures.stay
