-- The first order of its kind in a second.
use Rattle.std.proofs.Common.{◌≡◌, ◌∙◌, ℕ, ◌+◌, ◌<◌, ◌≤◌, List, [], ◌∷◌, ◌++◌, Bool, true, false, Option, Some, None}
use Rattle.std.proofs.Common.{inl, inr, length, arith, refl, ap, sym}
use Rattle.std.specs.Prelude.{◌&&◌, ◌||◌, ◌⊎◌, All, if◌then◌else◌, nat_lt, not}
use Rattle.std.proofs.lemmas.Bool.Decides.{nat_tests}
use Rattle.std.proofs.lemmas.Grind.{common_steps}
use Rattle.std.proofs.lemmas.List.Elements.{All-head, All-tail}
use Rattle.std.proofs.lemmas.List.Folds.{list_any-append}
use Rattle.nutcore.specs.declared.note.Deed.{Deed}
use Rattle.nutjournal.specs.declared.journal.Journal.{Journal}
use Rattle.nutjournal.specs.declared.tallies.GivenOrder.{GivenOrder}
use Rattle.nutjournal.specs.declared.tallies.Tallies.{Tallies}
use Rattle.nutjournal.specs.declared.tallies.TheConstants.{ORDER_COUNT}
use Rattle.nutjournal.specs.declared.tally.Kind.{Kind}
use Rattle.nutjournal.specs.Lines.{Line, after_due, after_dues}
use Rattle.nutjournal.specs.Runs.{Call, EachOrderHasItsLine, HasItsLine, Run, begins, dues, dues_of_all, is_logged_like}
use Rattle.nutjournal.specs.Runs.{tallies_after, tallies_begun, times_of}
use Rattle.nutjournal.specs.Tallies.{Whose, after_line_of, after_order, is_first_order, is_fsd, is_known}
use Rattle.nutjournal.specs.Tallies.{is_order_of, is_user_logged, of_client, of_order, of_refused}
use Rattle.nutjournal.specs.Tallies.{of_ups, of_user, order_of, with_order}
use Rattle.nutjournal.specs.Tally.{one_if}
use Rattle.nutjournal.proofs.Places.{after_both}
use Rattle.nutjournal.proofs.Runs.{end_of, run_ends}

orders_kept : (first : Bool) (one other : Tallies) (items : List (Option GivenOrder)) → one.orders.items ≡ items
    → other.orders.items ≡ items → (if first then one else other).orders.items ≡ items
orders_kept true one other items this that = this
orders_kept false one other items this that = that

orders_after : (deed : Deed) (kind : Kind) (all : Tallies)
    → (after_order deed kind all).orders.items ≡ with_order deed all.orders.items
orders_after deed kind all =
    orders_kept (is_first_order deed all.orders.items) _ _ (with_order deed all.orders.items) refl refl

or_false : (b : Bool) → (b || false) ≡ b
or_false true = refl
or_false false = refl

known_then : (deed : Deed) (items : List (Option GivenOrder)) (order : GivenOrder)
    → is_known deed (items ++ Some order ∷ []) ≡ (is_known deed items || is_order_of deed order)
known_then deed items order =
    list_any-append _ items (Some order ∷ []) ∙ ap (λ b. is_known deed items || b) (or_false (is_order_of deed order))

-- An order that is known after another one was known before, or is the same, and that is logged.
one_known : (deed other : Deed) (items : List (Option GivenOrder)) → is_known deed (with_order other items) ≡ true
    → (is_known deed items ≡ true) ⊎ ((is_order_of deed (order_of other) ≡ true) × (is_first_order other items ≡ true))
one_known deed other items h = grind (arith, nat_tests, known_then deed items (order_of other), h)

each_of : {A B C D : Type 0} → (A → C) → (B → D) → A ⊎ B → C ⊎ D
each_of f g (inl a) = inl (f a)
each_of f g (inr b) = inr (g b)

line_known : (deed : Deed) (whose : Whose) (kind : Kind) (all : Tallies)
    → is_known deed (after_line_of whose kind all).orders.items ≡ true
    → (is_known deed all.orders.items ≡ true) ⊎ (is_logged_like deed (record { whose = whose; kind = kind }) all ≡ true)
line_known deed (of_ups u) kind all h = inl h
line_known deed (of_user u who) kind all h = inl h
line_known deed (of_refused other) kind all h = inl h
line_known deed (of_client address) kind all h = inl h
line_known deed (of_order other) kind all h = each_of (λ was. was) (λ now. grind (arith, common_steps, now.0, now.1))
    (one_known deed other all.orders.items (ap (is_known deed) (sym (orders_after other kind all)) ∙ h))

then_less : {A : Type 0} (n m : ℕ) (b : Bool) → A ⊎ (b ≡ true) → m ≡ one_if b + n → A ⊎ (0 < m)
then_less n m b (inl a) is = inl a
then_less n m b (inr h) is = inr (grind (arith, nat_tests, h))

lines_known : (deed : Deed) (lines : List (Option Line)) (all : Tallies)
    → is_known deed (after_dues lines all).orders.items ≡ true
    → (is_known deed all.orders.items ≡ true) ⊎ (0 < times_of (is_logged_like deed) lines all)
lines_known deed [] all h = inl h
lines_known deed (None ∷ later) all h = each_of (λ was. was) (λ more. grind (arith, more)) (lines_known deed later all h)
lines_known deed (Some line ∷ later) all h =
    elim (lines_known deed later (after_due (Some line) all) h) as (λ _.
    (is_known deed all.orders.items ≡ true) ⊎ (0 < times_of (is_logged_like deed) (Some line ∷ later) all)) [
      | inl was ↦ then_less (times_of (is_logged_like deed) later (after_due (Some line) all)) _ (is_logged_like deed line all)
          (line_known deed line.whose line.kind all was) refl
      | inr more ↦ inr (grind (arith, more))
    ]

of_three : (known few fsd other : Bool) (count : ℕ) → nat_lt count ORDER_COUNT ≡ few
    → (((not known && (few || fsd)) || other) ≡ true) ⊎ ((known ≡ true) ⊎ ((ORDER_COUNT ≤ count) × (fsd ≡ false)))
of_three true few fsd other count h = inr (inl refl)
of_three false true fsd other count h = inl refl
of_three false false true other count h = inl refl
of_three false false false other count h = inr (inr (grind (arith, nat_tests, h), refl))

nobody_knows : (deed : Deed) (items : List (Option GivenOrder)) → items ≡ [] → is_known deed items ≡ true → ⊥
nobody_knows deed [] none h = cc
nobody_knows deed (x ∷ items) none h = cc

was_known : {A : Type 0} (deed : Deed) (items : List (Option GivenOrder)) → items ≡ []
    → (is_known deed items ≡ true) ⊎ A → A
was_known deed items none (inl h) = absurd (nobody_knows deed items none h)
was_known deed items none (inr more) = more

each_order : (all : Tallies) (before : List (Option Line)) (deed : Deed) (kind : Kind)
    → all.orders.items ≡ [] → HasItsLine deed kind before all
each_order all before deed kind none =
    let items : List (Option GivenOrder) = (after_dues before all).orders.items in
    each_of (λ logged. logged)
    (each_of (λ known. was_known deed all.orders.items none (lines_known deed before all known)) (λ many. many))
    (of_three (is_known deed items) (nat_lt (length items) ORDER_COUNT) (is_fsd deed.verb)
    (is_user_logged deed.who.address kind (after_dues before all)) (length items) refl)

-- The calls of a second.
same_second : (m : ℕ) (calls : List Call) (all : Tallies) → All (λ next. next.state.moment ≡ m) calls
    → end_of calls (Some m) all ≡ after_dues (dues_of_all calls) all
same_second m [] all h = refl
same_second m (call ∷ later) all h =
    let now : call.state.moment ≡ m = All-head (λ next. next.state.moment ≡ m) call later h in
    let here : begins (Some m) call.state.moment ≡ false = grind (arith, nat_tests) in
    let same : tallies_begun (Some m) call all ≡ all = rw here refl in
    ap (λ t. end_of later (Some call.state.moment) (after_dues (dues call) t)) same
    ∙ ap (λ n. end_of later (Some n) (after_dues (dues call) all)) now
    ∙ same_second m later (after_dues (dues call) all) (All-tail (λ next. next.state.moment ≡ m) call later h)
    ∙ sym (after_both (dues call) (dues_of_all later) all)

none_given : (starts : Bool) (one other : Tallies) → starts ≡ true → one.orders.items ≡ []
    → (if starts then one else other).orders.items ≡ []
none_given true one other h is = is
none_given false one other h is = cc

of_second : (call : Call) (later : List Call) (old new : Journal) → Run (call ∷ later) old new
    → begins old.moment call.state.moment ≡ true → All (λ next. next.state.moment ≡ call.state.moment) later
    → (new.tallies ≡ after_dues (dues_of_all (call ∷ later)) (tallies_begun old.moment call old.tallies))
    × ((tallies_begun old.moment call old.tallies).orders.items ≡ [])
of_second call later old new run first same = (
  run_ends (call ∷ later) old new run
      ∙ same_second call.state.moment later (tallies_after old.moment call old.tallies) same
      ∙ sym (after_both (dues call) (dues_of_all later) (tallies_begun old.moment call old.tallies)),
  none_given (begins old.moment call.state.moment) _ old.tallies first refl,
)

pub each_order_has_its_line : EachOrderHasItsLine
each_order_has_its_line = record { second = of_second; order = each_order }
