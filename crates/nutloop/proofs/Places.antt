-- Who is silent after a tick.
use Rattle.std.proofs.Common.{◌≡◌, ◌∙◌, ◌&&◌, ℕ, Bool, true, false, List, Option}
use Rattle.std.proofs.Common.{Some, None, refl, ap, subst, sym}
use Rattle.std.proofs.Common.{◌++◌, append-nil, drop, length, take}
use Rattle.std.proofs.Math.Seq.{drop-length, take-length}
use Rattle.std.specs.List.{refill}
use Rattle.std.specs.Prelude.{MatchOption, is_none, nat_le, not}
use Rattle.std.specs.Option.{option_map_or}
use Rattle.nutcore.specs.Server.{ServerState}
use Rattle.nutloop.specs.declared.over_mio.clients.Client.{Client}
use Rattle.nutloop.specs.declared.over_mio.clients.Leave.{Leave}
use Rattle.nutloop.specs.declared.over_mio.pass.Way.TheVariants.{Read}
use Rattle.nutloop.specs.Pass.{client_in, client_may}
use Rattle.nutloop.specs.declared.over_mio.MioSockets.{MioSockets}
use Rattle.nutloop.specs.declared.over_mio.door.Newcomer.{Newcomer}
use Rattle.nutloop.specs.declared.over_mio.places.Admission.{Admission}
use Rattle.nutloop.specs.Places.{BecomesOf, Decides, EndsIfSilent, IsDoneWith, EndsSilent, Goes}
use Rattle.nutloop.specs.Places.{NobodyIsSilent, is_silent, silence}
use Rattle.std.proofs.Math.Bool.{and-false}

-- A slice of so many elements stands in the place of all.
pub refilled : {X : Type 0} (xs ws : List X) → length ws ≡ length xs → refill (length xs) xs ws ≡ ws
refilled xs ws same =
    ap (λ n. take (length xs) (ws ++ drop n xs)) same ∙ ap (λ t. take (length xs) (ws ++ t)) (drop-length xs)
    ∙ ap (take (length xs)) (append-nil ws) ∙ ap (λ n. take n ws) (sym same) ∙ take-length ws

-- Who leaves isn't silent.
gone : (s : ServerState) (leave : Leave) (least second : ℕ) (x y : Client) → Goes leave x y →
    is_silent s least second y ≡ false
unfolding is_silent
gone s leave least second x y goes =
    let leaving : y.leaving ≡ Some leave = ap (λ (c : Client). c.leaving) goes.only in
    ap (λ l. nat_le least (silence second y) && not (client_may s Read y) && is_none l) leaving
    ∙ and-false (nat_le least (silence second y) && not (client_may s Read y))

by_test : (s : ServerState) (idle second : ℕ) (x : Client) (new : Option Client) (test : Bool) →
    is_silent s idle second x ≡ test →
    EndsIfSilent s idle second (Some x) new → option_map_or (is_silent s idle second) new false ≡ false
by_test s idle second x new true is ends =
    let went = ends.1 is in
    ap (λ o. option_map_or (is_silent s idle second) o false) went.1 ∙ gone s (_) idle second x went.0 went.2
by_test s idle second x new false is ends =
    ap (λ o. option_map_or (is_silent s idle second) o false) (ends.0 is) ∙ is

of_slot : (s : ServerState) (idle second : ℕ) (old new : Option Client) → EndsIfSilent s idle second old new →
    option_map_or (is_silent s idle second) new false ≡ false
of_slot s idle second None new ends = ap (λ o. option_map_or (is_silent s idle second) o false) ends
of_slot s idle second (Some x) new ends = by_test s idle second x new (is_silent s idle second x) refl ends

pub nobody_stays : (s : ServerState) (idle second : ℕ) (old new : List (Option Client)) →
    EndsSilent s idle second old new → NobodyIsSilent s (Some idle) second new
nobody_stays s idle second old new ends place =
    of_slot s idle second (client_in old place) (client_in new place) (ends.each place)

-- What becomes of the newcomer that is there, by the decision.
pub becomes : {R F : Type 0} (s : ServerState) (old new : MioSockets R F) (x : Newcomer) (decision : Admission) →
    old.entrance.newcomer ≡ Some x → Decides s old x (Some decision) →
    IsDoneWith (Some decision) x old None new →
    MatchOption old.entrance.newcomer
    ((◌≡◌ {A = Option (List ℕ)} None None) × (new ≡ old)) (λ x. BecomesOf s x old None new)
becomes {R} {F} s old new x decision there decides done =
    subst (λ (o : Option Newcomer). MatchOption o ((◌≡◌ {A = Option (List ℕ)} None None) × (new ≡ old))
    (λ y. BecomesOf s y old None new)) (sym there)
    (record { decision = Some decision; decided = decides; done = done })
