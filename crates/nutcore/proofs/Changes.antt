-- What a change does to the session that asks, to the UPSs and to what their drivers are given: a
-- case each.
use Rattle.std.proofs.Common.{◌≡◌, ℕ, ◌≤◌, false, true, List, [], ◌∷◌, ◌++◌}
use Rattle.std.proofs.Common.{cond, eqb, Option, Some, None, refl, sym, ap, inl, inr, arith, rules}
use Rattle.std.proofs.Common.{length, length-append, append-nil}
use Rattle.std.specs.Prelude.{◌⊎◌}
use Rattle.std.proofs.Math.Seq.{drop-nil}
use Rattle.std.proofs.lemmas.Bool.{cases_Bool}
use Rattle.nuttracking.specs.Tracking.{with_order as with_tracked_order}
use Rattle.nutanswer.specs.Orders.{order as order_to}
use Rattle.nutcore.proofs.Common.{cond-true, cond-false, eqb-true, UpsId, TrackingState, Change}
use Rattle.nutcore.proofs.Common.{SessionState, changed_at}
use Rattle.nutanswer.specs.declared.reply.Change.TheVariants.{Username, Password, Login, Fsd, Order, Tracked}
use Rattle.nutcore.specs.Ups.{UpsState, with_fsd, with_order}
use Rattle.nutcore.specs.Reply.{changed_session, changed_upses, changed_tracking}
use Rattle.nutcore.specs.Pump.{answered}
use Rattle.nutcore.specs.Promises.{TakesLine}
use Rattle.nutcore.specs.Sound.{IsSoundUps}
use Rattle.nutcore.specs.Isolation.{without_commands}
use Rattle.nutcore.specs.DriverOrders.{ServerLine, order, texts_of, given_by_change}

-- what a change keeps of a session, and by which change a user name, a password or a login comes
pub record Keeps (change : Change) (x : SessionState) : Type 0 where
  pub id : (changed_session change x).id ≡ x.id
  pub address : (changed_session change x).address ≡ x.address
  pub owed : (changed_session change x).owed ≡ x.owed
  -- what it holds is dropped only where it begins to end
  pub held : (changed_session change x).ending ≡ false → (changed_session change x).held ≡ x.held
  pub shorter : length (changed_session change x).held ≤ length x.held
  pub ended : (changed_session change x).ending ≡ true →
      (x.ending ≡ true) ⊎ (((changed_session change x).held ≡ []) × ((changed_session change x).login ≡ None))
  -- an answer joined after the change is one joined before
  pub joined : (line text : List ℕ) → answered line text (changed_session change x) ≡
      changed_session change (answered line text x)
  pub username : ((changed_session change x).username ≡ x.username) ⊎
      ((name : List ℕ) × (change ≡ Username name) × ((changed_session change x).username ≡ Some name))
  pub password : ((changed_session change x).password ≡ x.password) ⊎
      ((password : List ℕ) × (change ≡ Password password) ×
      ((changed_session change x).password ≡ Some password))
  pub login : ((changed_session change x).login ≡ x.login) ⊎
      (((changed_session change x).login ≡ None) ⊎
      ((u : UpsId) × (change ≡ Login u) × ((changed_session change x).login ≡ Some u)))
  pub logged_out : (changed_session change x).login ≡ None →
      (x.login ≡ None) ⊎ ((changed_session change x).ending ≡ true)

pub keeps : (change : Change) (x : SessionState) → Keeps change x
keeps change x = record {
  id = grind arith;
  address = grind arith;
  owed = grind arith;
  held = grind arith;
  shorter = grind arith;
  ended = grind arith;
  joined = grind (arith, drop-nil);
  username = grind arith;
  password = grind arith;
  login = grind arith;
  logged_out = grind arith;
}

-- what a change does to the one UPS that it changes: it may set its forced shutdown, and give its
-- driver an order
pub record ChangesUps (change : Change) (v : UpsId) (f : UpsState → UpsState)
    (given : UpsId → List ServerLine) : Type 0 where
  -- all else stays
  pub same : (x : UpsState) → without_commands (f x) ≡ without_commands x
  pub fsd : (x : UpsState) → ((f x).fsd ≡ x.fsd) ⊎ (((f x).fsd ≡ true) × (change ≡ Fsd v))
  -- its driver is owed what it is given beside that, and no other driver is given anything
  pub owed : (u : UpsId) (x : UpsState) → eqb v.place u.place ≡ true → (f x).owed ≡ x.owed ++ texts_of (given u)
  pub elsewhere : (u : UpsId) → eqb v.place u.place ≡ false → given u ≡ []
  -- what is given is an order
  pub orders : (u : UpsId) → (given u ≡ []) ⊎
      ((line : List ℕ) × (id : Option ℕ) × (v.place ≡ u.place) ×
      (change ≡ order_to v line id) × (given u ≡ order line ∷ []))
  pub sound : (m : ℕ) (x : UpsState) →
      ((line : List ℕ) (id : Option ℕ) → change ≡ order_to v line id → TakesLine line x)
      → IsSoundUps m x → IsSoundUps m (f x)

sets_fsd : (v : UpsId) → ChangesUps (Fsd v) v with_fsd (λ u. [])
sets_fsd v = record {
  same = λ x. refl;
  fsd = λ x. inr (refl, refl);
  owed = λ u x own. sym (append-nil x.owed);
  elsewhere = λ u other. refl;
  orders = λ u. inl refl;
  sound = λ m x takes h. let lost = λ (e : x.report.connected ≡ false). ap with_fsd (h.lost e) in search rules;
}

sound_order : (m : ℕ) (line : List ℕ) (x : UpsState) → TakesLine line x → IsSoundUps m x →
    IsSoundUps m (with_order line x)
sound_order m line x takes h = grind (arith, length-append {A = ℕ})

gives_order : (v : UpsId) (line : List ℕ) (id : Option ℕ) (change : Change) → change ≡
    order_to v line id → ChangesUps change v (with_order line)
    (λ u. cond (eqb v.place u.place) (order line ∷ []) [])
gives_order v line id change is = record {
  same = λ x. refl;
  fsd = λ x. inl refl;
  owed = λ u x own. rw own (ap (λ (z : List ℕ). x.owed ++ z) (sym (append-nil line)));
  elsewhere = λ u other. cond-false _ _ _ other;
  orders = λ u. elim (cases_Bool (eqb v.place u.place)) [
    | inl own ↦ inr (line, id, eqb-true v.place u.place own, is, cond-true _ _ _ own)
    | inr other ↦ inl (cond-false _ _ _ other)
  ];
  sound = λ m x takes h. sound_order m line x (takes line id is) h;
}

-- what holds where nothing of the UPSs changes, and where one does so, holds of each change
pub of_upses : (P : (UpsId → List ServerLine) → List UpsState → Type 0) (change : Change)
    (xs : List UpsState) → P (λ u. []) xs
    → ((v : UpsId) (f : UpsState → UpsState) (given : UpsId → List ServerLine) →
    ChangesUps change v f given → P given (changed_at f v.place xs))
    → P (λ u. given_by_change u change) (changed_upses change xs)
of_upses P (Fsd v) xs same one = one v with_fsd (λ u. []) (sets_fsd v)
of_upses P (Order v line) xs same one = one v (with_order line.items) _ (gives_order v line.items None _ refl)
of_upses P (Tracked v id line) xs same one = one v (with_order line.items) _ (gives_order v line.items (Some id) _ refl)
of_upses P _ xs same one = same

-- what holds where nothing of what is tracked changes, and where an order is tracked, holds of each
-- change
pub of_tracking : (P : TrackingState → Type 0) (change : Change) (t : TrackingState) → P t →
    ((place : ℕ) → P (with_tracked_order place t)) → P (changed_tracking change t)
of_tracking P (Tracked u id line) t same orders = orders u.place
of_tracking P _ t same orders = same
