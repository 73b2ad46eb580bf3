use Rattle.std.proofs.Common.{◌≡◌, ◌∙◌, refl, ap, sym, rules}
use Rattle.std.specs.Prelude.{slice_get}
use Rattle.mio.specs.Event.{event_token}
use Rattle.nutloop.specs.declared.over_mio.tokens.Source.TheVariants.{Listener, Driver, Client, Closing}
use Rattle.nutloop.specs.OverMio.{client_heard, driver_heard}
use Rattle.nutloop.specs.Pass.{client_in}
use Rattle.nutloop.specs.Tokens.{source_of}
use Rattle.nutloop.proofs.Hearing.{all_hear, own_hears}
use Rattle.nutloop.proofs.over_mio.looking.hear.Goals as goal

pub loop-event-preserved-in-Listener : goal.loop-event-preserved-in-Listener
loop-event-preserved-in-Listener c =
    let at : source_of (event_token c.in-Some.event.now).0 ≡ Listener =
    ap (λ t. source_of t.0) (sym c.token.ensures) ∙ sym c.of.ensures ∙ c.in-Listener.is in
    all_hear c.loop-event.yielded c.in-Some.event Listener c.args.entrance.now c.loop-event.entrance c.hear.new.self
    c.args.clients.now.items c.loop-event.clients.items c.loop-event.clients.items
    c.args.drivers.now.items c.loop-event.drivers.items c.loop-event.drivers.items at
    c.loop-event.invariant (search rules)
    (λ place. refl) (λ place. refl)

pub loop-event-preserved-in-Driver : goal.loop-event-preserved-in-Driver
loop-event-preserved-in-Driver c =
    let at : source_of (event_token c.in-Some.event.now).0 ≡ (Driver c.in-Driver.place) =
    ap (λ t. source_of t.0) (sym c.token.ensures) ∙ sym c.of.ensures ∙ c.in-Driver.is in
    all_hear c.loop-event.yielded c.in-Some.event (Driver c.in-Driver.place) c.args.entrance.now
    c.loop-event.entrance c.loop-event.entrance
    c.args.clients.now.items c.loop-event.clients.items c.loop-event.clients.items
    c.args.drivers.now.items c.loop-event.drivers.items c.hear_driver.new.drivers.items at
    c.loop-event.invariant (search rules)
    (λ place. refl) (own_hears driver_heard c.in-Some.event.now c.in-Driver.place
    (slice_get c.loop-event.drivers.items)
    (slice_get c.hear_driver.new.drivers.items) c.hear_driver.ensures.own c.hear_driver.ensures.others)

pub loop-event-preserved-in-Client : goal.loop-event-preserved-in-Client
loop-event-preserved-in-Client c =
    let at : source_of (event_token c.in-Some.event.now).0 ≡ (Client c.in-Client.place) =
    ap (λ t. source_of t.0) (sym c.token.ensures) ∙ sym c.of.ensures ∙ c.in-Client.is in
    all_hear c.loop-event.yielded c.in-Some.event (Client c.in-Client.place) c.args.entrance.now
    c.loop-event.entrance c.loop-event.entrance
    c.args.clients.now.items c.loop-event.clients.items c.hear_client.new.clients.items
    c.args.drivers.now.items c.loop-event.drivers.items c.loop-event.drivers.items at
    c.loop-event.invariant (search rules)
    (own_hears client_heard c.in-Some.event.now c.in-Client.place (client_in c.loop-event.clients.items)
    (client_in c.hear_client.new.clients.items) c.hear_client.ensures.own c.hear_client.ensures.others) (λ place. refl)

pub loop-event-preserved : goal.loop-event-preserved
loop-event-preserved c =
    let at : source_of (event_token c.in-Some.event.now).0 ≡ Closing =
    ap (λ t. source_of t.0) (sym c.token.ensures) ∙ sym c.of.ensures ∙ c.in-Closing.is in
    all_hear c.loop-event.yielded c.in-Some.event Closing c.args.entrance.now c.loop-event.entrance
    c.loop-event.entrance
    c.args.clients.now.items c.loop-event.clients.items c.loop-event.clients.items
    c.args.drivers.now.items c.loop-event.drivers.items c.loop-event.drivers.items at
    c.loop-event.invariant (search rules)
    (λ place. refl) (λ place. refl)
